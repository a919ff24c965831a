-- Stores that a page can hold.
use Rattle.std.proofs.Common.{◌≡◌, ℕ, zero, suc, ◌^◌, ◌<◌, ◌≤◌, true, eqb, List, length, get_or, set, replicate, sym, refl, ap, ◌∙◌, ⊎_elim, arith}
use Rattle.page_laws.specs.Laws.{StoreFits}
use Rattle.std.proofs.ByRecursion.{All-get_or}
use Rattle.std.proofs.lemmas.List.{get_or_past, get_or-replicate, get_or-set_other, get_or-set_same, length-replicate, set_past}
use Rattle.std.proofs.lemmas.Bool.{and_from, cases_eq, cases_lt, eq-eqb}
use Rattle.std.specs.List.{AllByRecursion}
use Rattle.store.proofs.Whole.{Lengths, lengths}
use Rattle.store.specs.Store.{Store, bare, cleared, tables, whole}

pub wholly : (s : Store) → Lengths s → whole s ≡ true
wholly s l =
    and_from (eqb (length s.shelves) 1024) _ (eq-eqb (length s.shelves) 1024 l.shelves)
    (and_from (eqb (length s.lasts) 256) _ (eq-eqb (length s.lasts) 256 l.lasts) (eq-eqb (length s.words) 256 l.words))

-- tables of 0
abbrev pub zeros : ℕ → ℕ → Store
zeros n m = tables (replicate n 0) (replicate m 0) (replicate m 0)

same_zeros : (a b c n m : ℕ) → a ≡ n → b ≡ m → c ≡ m → tables (replicate a 0) (replicate b 0) (replicate c 0) ≡ zeros n m
same_zeros a b c n m e f g =
    ap (λ (k : ℕ). tables (replicate k 0) (replicate b 0) (replicate c 0)) e ∙ ap (λ (k : ℕ). tables (replicate n 0) (replicate k 0) (replicate c 0)) f ∙ ap (λ (k : ℕ). tables (replicate n 0) (replicate m 0) (replicate k 0)) g

pub cleared_bare : (s : Store) → whole s ≡ true → cleared s ≡ bare
cleared_bare s h = let l = lengths s h in same_zeros (length s.shelves) (length s.lasts) (length s.words) 1024 256 l.shelves l.lasts l.words

-- four bytes
abbrev pub Small : ℕ → Type 0
Small n = n < 2 ^ 32

pub all_zero : (n : ℕ) → AllByRecursion Small (replicate n 0)
all_zero zero = tt
all_zero (suc n) = (omega arith, all_zero n)

pub small_at : (xs : List ℕ) (i : ℕ) → AllByRecursion Small xs → Small (get_or xs i 0)
small_at xs i h =
    ⊎_elim
    (λ (k : i < length xs). All-get_or Small xs i 0 k h)
    (λ (k : length xs ≤ i). let e = get_or_past xs i 0 k in omega arith)
    (cases_lt i (length xs))

-- no word for a client that has done nothing
abbrev pub Idle : List ℕ → List ℕ → Type 0
Idle lasts words = (client : ℕ) → get_or lasts client 0 ≡ 0 → get_or words client 0 ≡ 0

zero_at : (n i : ℕ) → get_or {A = ℕ} (replicate n 0) i 0 ≡ 0
zero_at n i = ⊎_elim (λ (k : i < n). get_or-replicate n i 0 0 k) (λ (k : n ≤ i). let l = length-replicate {A = ℕ} n 0 in get_or_past (replicate n 0) i 0 (omega arith)) (cases_lt i n)

pub idle_zero : (n : ℕ) → Idle (replicate n 0) (replicate n 0)
idle_zero n client h = zero_at n client

pub idle_set : (lasts words : List ℕ) (at number word : ℕ) → length lasts ≡ length words → (number ≡ 0 → ⊥) → Idle lasts words → Idle (set lasts at number) (set words at word)
idle_set lasts words at number word long o h client e =
    ⊎_elim
    (λ (k : client ≡ at).
    ⊎_elim
    (λ (i : at < length lasts). absurd (o (sym (get_or-set_same lasts at number 0 i) ∙ ap (λ (j : ℕ). get_or (set lasts at number) j 0) (sym k) ∙ e)))
    (λ (i : length lasts ≤ at).
    ap (λ (l : List ℕ). get_or l client 0) (set_past words at word (omega arith)) ∙ h client (ap (λ (l : List ℕ). get_or l client 0) (sym (set_past lasts at number i)) ∙ e))
    (cases_lt at (length lasts)))
    (λ (k : client ≡ at → ⊥). get_or-set_other words at client word 0 k ∙ h client (sym (get_or-set_other lasts at client number 0 k) ∙ e))
    (cases_eq client at)

zeros_fit : (n m : ℕ) → n ≡ 1024 → m ≡ 256 → StoreFits (zeros n m)
zeros_fit n m e f =
    let l = length-replicate m 0 ∙ f in
    record { tables = wholly (zeros n m) (record { shelves = length-replicate n 0 ∙ e; lasts = l; words = l }); shelves = all_zero n; lasts = all_zero m; words = all_zero m; idle = idle_zero m }

pub bare_fits : StoreFits bare
bare_fits = zeros_fit 1024 256 refl refl
