-- What requests make of a store that a page can hold.
use Rattle.std.proofs.Common.{◌≡◌, ℕ, ◌+◌, Bool, true, false, cond, not, ltb, List, [], ◌∷◌, set, is_ok, Ok, Err, ◌∙◌, arith}
use Rattle.page_laws.proofs.Stores.{Small, bare_fits, idle_set, small_at, wholly}
use Rattle.page_laws.specs.Laws.{AskFits, Reached, RequestFits, StoreFits}
use Rattle.std.proofs.ByRecursion.{All-set}
use Rattle.std.proofs.lemmas.List.{length-set}
use Rattle.std.proofs.lemmas.Bool.{and_parts, cond_both, eqb-true, false≢true}
use Rattle.std.specs.List.{AllByRecursion}
use Rattle.store.proofs.Whole.{lengths}
use Rattle.store.specs.Ask.{key_of, leaves, says}
use Rattle.store.specs.Store.{Store, applied, bare, done, is_next, last, played, shelf, tables, whole}
use Rattle.store.specs.declared.ask.Ask.{Ask}
use Rattle.store.specs.declared.ask.Ask.TheVariants.{Look, Put, Take}
use Rattle.store.specs.declared.refusal.Refusal.{Refusal}
use Rattle.store.specs.declared.refusal.Refusal.TheVariants.{Key, NotNext, Tables}
use Rattle.store.specs.declared.request.Request.{Request}

leaves_small : (a : Ask) (held : ℕ) → AskFits a → Small held → Small (leaves a held)
leaves_small (Put k v) held h low = omega arith
leaves_small (Take k v) held h low = omega arith
leaves_small (Look k) held h low = low

says_small : (a : Ask) (held : ℕ) → Small held → Small (says a held)
says_small (Put k v) held low = low
says_small (Take k v) held low = omega arith
says_small (Look k) held low = low

-- a request that is done is the client's next
next_since : (tables key next : Bool) (w : ℕ) → is_ok {T = ℕ} {E = Refusal} (cond (not tables) (Err Tables) (cond key (Err Key) (cond (not next) (Err NotNext) (Ok w)))) ≡ true → next ≡ true
next_since false key next w h = absurd (false≢true h)
next_since true true next w h = absurd (false≢true h)
next_since true false false w h = absurd (false≢true h)
next_since true false true w h = h

number_since : (r : Request) (s : Store) → done r s ≡ true → r.number ≡ 0 → ⊥
number_since r s h z =
    let n = next_since (whole s) (ltb 1023 (key_of r.ask)) (is_next r s) (says r.ask (shelf s (key_of r.ask))) h in
    let e = eqb-true r.number (last s r.client + 1) (and_parts (ltb r.client 256) _ n).1 in
    omega arith

applied_fits : (r : Request) (s : Store) → RequestFits r → StoreFits s → StoreFits (applied r s)
applied_fits r s f h =
    let key = key_of r.ask in
    let held = shelf s key in
    let low = small_at s.shelves key h.shelves in
    let new = tables (set s.shelves key (leaves r.ask held)) (set s.lasts r.client r.number) (set s.words r.client (says r.ask held)) in
    let l = lengths s h.tables in
    let a = l.lasts in
    let b = l.words in
    cond_both (done r s) new s StoreFits
    (λ d. record {
      tables = wholly new (record { shelves = length-set s.shelves key (leaves r.ask held) ∙ l.shelves; lasts = length-set s.lasts r.client r.number ∙ a; words = length-set s.words r.client (says r.ask held) ∙ b });
      shelves = All-set Small s.shelves key (leaves r.ask held) (leaves_small r.ask held f.ask low) h.shelves;
      lasts = All-set Small s.lasts r.client r.number f.number h.lasts;
      words = All-set Small s.words r.client (says r.ask held) (says_small r.ask held low) h.words;
      idle = idle_set s.lasts s.words r.client r.number (says r.ask held) (omega arith) (number_since r s d) h.idle;
    })
    (λ d. h)

played_fits : (s : Store) (rs : List Request) → StoreFits s → AllByRecursion RequestFits rs → StoreFits (played s rs)
played_fits s [] h f = h
played_fits s (r ∷ rs) h f = played_fits (applied r s) rs (applied_fits r s f.0 h) f.1

pub reached : Reached
reached = record { begun = λ rs f. played_fits bare rs bare_fits f; onward = played_fits }
