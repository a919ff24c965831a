-- Requests in bytes.
use Rattle.std.proofs.Common.{◌≡◌, ℕ, ◌^◌, ◌<◌, cond, eqb, List, ◌∷◌, ◌++◌, Some, None, sym, refl, ap, ◌∙◌, subst}
use Rattle.wire.proofs.Exacts.{by_kind, four_exact, one_exact, same_rest, same_value, split, two_exact}
use Rattle.wire.proofs.Runs.{took}
use Rattle.wire.specs.Bytes.{Read, ◌then◌, four, four_bytes, one, two, two_bytes}
use Rattle.wire.specs.Exact.{Bytes, Exact}
use Rattle.entry.specs.Entry.{ask_bytes, ask_of, request_bytes, request_of}
use Rattle.entry_laws.specs.Laws.{AskFits, RequestFits}
use Rattle.std.proofs.lemmas.Nat.{div-add-mod'}
use Rattle.store.specs.declared.ask.Ask.{Ask}
use Rattle.store.specs.declared.ask.Ask.TheVariants.{Look, Put, Take}
use Rattle.store.specs.declared.request.Request.{Request}

ask_back : (a : Ask) (rest : List ℕ) → AskFits a → ask_of (ask_bytes a ++ rest) ≡ Some (a, rest)
ask_back (Put k v) rest h = simp div-add-mod'
ask_back (Take k v) rest h = simp div-add-mod'
ask_back (Look k) rest h = simp div-add-mod'

request_back : (r : Request) (rest : List ℕ) → RequestFits r → request_of (request_bytes r ++ rest) ≡ Some (r, rest)
request_back r rest h = simp div-add-mod' (ap (λ (o : Read Ask). o then λ a bs. Some (record { client = r.client; number = r.number; ask = a }, bs)) (ask_back r.ask rest h.ask))

-- a key and an amount behind the kind
amount_only : (kind : ℕ) (make : ℕ → ℕ → Ask) → ((k v : ℕ) → ask_bytes (make k v) ≡ kind ∷ (two_bytes k ++ four_bytes v)) → ((k v : ℕ) → k < 65536 → v < 2 ^ 32 → AskFits (make k v)) →
    (key : ℕ) (bs : List ℕ) (a : Ask) (rest : List ℕ) → Bytes bs → key < 65536 → (four bs then λ v bs. Some (make key v, bs)) ≡ Some (a, rest) → AskFits a × (kind ∷ (two_bytes key ++ bs) ≡ ask_bytes a ++ rest)
amount_only kind make bytes fits key bs a rest h low e =
    let s = split (four bs) _ (a, rest) e in
    let t = took four_exact bs s.value s.rest h s.first in
    let is = same_value s.second in
    subst (λ (x : Ask). AskFits x × (kind ∷ (two_bytes key ++ bs) ≡ ask_bytes x ++ rest)) is (
      fits key s.value low t.fits,
      ap (λ (l : List ℕ). kind ∷ (two_bytes key ++ l)) (t.is ∙ ap (λ (l : List ℕ). four_bytes s.value ++ l) (same_rest s.second)) ∙ ap (λ (l : List ℕ). l ++ rest) (sym (bytes key s.value)),
    )

kinds_only : (kind key : ℕ) (bs : List ℕ) (a : Ask) (rest : List ℕ) → Bytes bs → key < 65536 →
    cond (eqb kind 1) (four bs then λ v bs. Some (Put key v, bs)) (cond (eqb kind 2) (four bs then λ v bs. Some (Take key v, bs)) (cond (eqb kind 3) (Some (Look key, bs)) None)) ≡ Some (a, rest) →
    AskFits a × (kind ∷ (two_bytes key ++ bs) ≡ ask_bytes a ++ rest)
kinds_only kind key bs a rest h low e =
    let Goal = λ (k : ℕ). AskFits a × (k ∷ (two_bytes key ++ bs) ≡ ask_bytes a ++ rest) in
    by_kind Goal kind 1 _ _ _ e (amount_only 1 Put (λ k v. refl) (λ k v i j. (i, j)) key bs a rest h low) (λ e.
    by_kind Goal kind 2 _ _ _ e (amount_only 2 Take (λ k v. refl) (λ k v i j. (i, j)) key bs a rest h low) (λ e.
    by_kind Goal kind 3 _ _ _ e (λ i. subst (λ (x : Ask). AskFits x × (3 ∷ (two_bytes key ++ bs) ≡ ask_bytes x ++ rest)) (same_value i) (low, ap (λ (l : List ℕ). 3 ∷ (two_bytes key ++ l)) (same_rest i))) (λ e. cc)))

ask_only : (bs : List ℕ) (a : Ask) (rest : List ℕ) → Bytes bs → ask_of bs ≡ Some (a, rest) → AskFits a × (bs ≡ ask_bytes a ++ rest)
ask_only bs a rest h e =
    let s = split (one bs) _ (a, rest) e in
    let t = took one_exact bs s.value s.rest h s.first in
    let u = split (two s.rest) _ (a, rest) s.second in
    let v = took two_exact s.rest u.value u.rest t.behind u.first in
    let k = kinds_only s.value u.value u.rest a rest v.behind v.fits u.second in
    (k.0, t.is ∙ ap (λ (l : List ℕ). s.value ∷ l) v.is ∙ k.1)

ask_exact : Exact ask_of ask_bytes AskFits
ask_exact = record { back = ask_back; only = ask_only }

request_only : (bs : List ℕ) (r : Request) (rest : List ℕ) → Bytes bs → request_of bs ≡ Some (r, rest) → RequestFits r × (bs ≡ request_bytes r ++ rest)
request_only bs r rest h e =
    let s = split (one bs) _ (r, rest) e in
    let t = took one_exact bs s.value s.rest h s.first in
    let u = split (four s.rest) _ (r, rest) s.second in
    let v = took four_exact s.rest u.value u.rest t.behind u.first in
    let w = split (ask_of u.rest) _ (r, rest) u.second in
    let x = took ask_exact u.rest w.value w.rest v.behind w.first in
    subst (λ (q : Request). RequestFits q × (bs ≡ request_bytes q ++ rest)) (same_value w.second) (
      record { client = t.fits; number = v.fits; ask = x.fits },
      t.is ∙ ap (λ (l : List ℕ). s.value ∷ l) (v.is ∙ ap (λ (l : List ℕ). four_bytes u.value ++ l) (x.is ∙ ap (λ (l : List ℕ). ask_bytes w.value ++ l) (same_rest w.second))),
    )

pub request_exact : Exact request_of request_bytes RequestFits
request_exact = record { back = request_back; only = request_only }
