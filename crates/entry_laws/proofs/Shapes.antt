-- Lists of members, and entries in range or not, in bytes.
use Rattle.std.proofs.Common.{◌≡◌, ℕ, ◌≤◌, ltb, List, [], ◌∷◌, ◌++◌, length, Some, None, sym, refl, ap, ◌∙◌, subst, arith}
use Rattle.wire.proofs.Exacts.{by_kind, one_exact, same_rest, same_value, some_exact, split, within}
use Rattle.wire.proofs.Runs.{took}
use Rattle.wire.specs.Bytes.{Read, ◌then◌, one, some}
use Rattle.wire.specs.Exact.{Bytes, Exact}
use Rattle.entry.specs.Entry.{Asks, Names, Raw, raw_bytes, raw_of, request_bytes, request_of}
use Rattle.entry.specs.Members.{list_bytes, list_of}
use Rattle.entry_laws.proofs.Asking.{request_exact}
use Rattle.entry_laws.specs.Laws.{Forms, RawFits, RequestFits}
use Rattle.std.proofs.lemmas.Bool.{cond-false, le-ltb}
use Rattle.store.specs.declared.request.Request.{Request}

bytes_front : (ys rest : List ℕ) → Bytes (ys ++ rest) → Bytes ys
bytes_front [] rest h = tt
bytes_front (y ∷ ys) rest h = (h.0, bytes_front ys rest h.1)

list_back : (ms rest : List ℕ) → (length ms ≤ 16) × Bytes ms → list_of (list_bytes ms ++ rest) ≡ Some (ms, rest)
list_back ms rest h = cond-false (ltb 16 (length ms)) None (some (length ms) (ms ++ rest)) (le-ltb 16 (length ms) h.0) ∙ (some_exact (length ms)).back ms rest refl

list_only : (bs ms rest : List ℕ) → Bytes bs → list_of bs ≡ Some (ms, rest) → ((length ms ≤ 16) × Bytes ms) × (bs ≡ list_bytes ms ++ rest)
list_only bs ms rest h e =
    let s = split (one bs) _ (ms, rest) e in
    let t = took one_exact bs s.value s.rest h s.first in
    let n = s.value in
    within (((length ms ≤ 16) × Bytes ms) × (bs ≡ list_bytes ms ++ rest)) 16 n (some n s.rest) (ms, rest) s.second (λ few e.
    let o = (some_exact n).only s.rest ms rest t.behind e in
    let long = o.0 in
    ((omega arith, bytes_front ms rest (subst Bytes o.1 t.behind)), t.is ∙ ap (λ (l : List ℕ). n ∷ l) o.1 ∙ ap (λ (k : ℕ). k ∷ (ms ++ rest)) (sym long)))

pub list_exact : Exact list_of list_bytes (λ ms. (length ms ≤ 16) × Bytes ms)
list_exact = record { back = list_back; only = list_only }

raw_back : (w : Raw) (rest : List ℕ) → RawFits w → raw_of (raw_bytes w ++ rest) ≡ Some (w, rest)
raw_back (Asks r) rest h = ap (λ (o : Read Request). o then λ q bs. Some (Asks q, bs)) (request_exact.back r rest h)
raw_back (Names ms) rest h = ap (λ (o : Read (List ℕ)). o then λ l bs. Some (Names l, bs)) (list_exact.back ms rest h)

-- one of the two kinds, behind its first byte
kind_only : {A : Type 0} (kind : ℕ) (make : A → Raw) (reads : List ℕ → Read A) (bytes : A → List ℕ) (Fits : A → Type 0) → Exact reads bytes Fits → ((a : A) → raw_bytes (make a) ≡ kind ∷ bytes a) → ((a : A) → Fits a → RawFits (make a)) →
    (bs : List ℕ) (w : Raw) (rest : List ℕ) → Bytes bs → (reads bs then λ a bs. Some (make a, bs)) ≡ Some (w, rest) → RawFits w × (kind ∷ bs ≡ raw_bytes w ++ rest)
kind_only kind make reads bytes Fits exact is fits bs w rest h e =
    let s = split (reads bs) _ (w, rest) e in
    let o = exact.only bs s.value s.rest h s.first in
    subst (λ (x : Raw). RawFits x × (kind ∷ bs ≡ raw_bytes x ++ rest)) (same_value s.second)
    (fits s.value o.0, ap (λ (l : List ℕ). kind ∷ l) (o.1 ∙ ap (λ (l : List ℕ). bytes s.value ++ l) (same_rest s.second)) ∙ ap (λ (l : List ℕ). l ++ rest) (sym (is s.value)))

raw_only : (bs : List ℕ) (w : Raw) (rest : List ℕ) → Bytes bs → raw_of bs ≡ Some (w, rest) → RawFits w × (bs ≡ raw_bytes w ++ rest)
raw_only bs w rest h e =
    let s = split (one bs) _ (w, rest) e in
    let t = took one_exact bs s.value s.rest h s.first in
    let Goal = λ (k : ℕ). RawFits w × (k ∷ s.rest ≡ raw_bytes w ++ rest) in
    let g : Goal s.value =
    by_kind Goal s.value 1 _ _ _ s.second (kind_only 1 Asks request_of request_bytes RequestFits request_exact (λ r. refl) (λ r f. f) s.rest w rest t.behind) (λ e.
    by_kind Goal s.value 2 _ _ _ e (kind_only 2 Names list_of list_bytes (λ ms. (length ms ≤ 16) × Bytes ms) list_exact (λ ms. refl) (λ ms f. f) s.rest w rest t.behind) (λ e. cc)) in
    (g.0, t.is ∙ g.1)

pub forms : Forms
forms = record { back = raw_back; only = raw_only }
