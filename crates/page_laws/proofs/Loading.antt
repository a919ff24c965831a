-- A page judged and loaded is a page accepted.
use Rattle.std.proofs.Common.{◌≡◌, ℕ, true, cond, List, Some, None, sym, refl, ap, ◌∙◌}
use Rattle.wire.specs.Bytes.{Read, ◌then◌}
use Rattle.wire.specs.Several.{made}
use Rattle.page.specs.Page.{RawPage, held, judged_in, loaded, raw_page_of, with_rows}
use Rattle.page_laws.proofs.Pages.{judged}
use Rattle.page_laws.proofs.Stores.{cleared_bare}
use Rattle.page_laws.specs.Laws.{Loads, Paged}
use Rattle.std.proofs.lemmas.Bool.{cond-true}
use Rattle.store.specs.Store.{Store, bare, whole}

fresh : (s : Store) (p : RawPage) (rest : List ℕ) → whole s ≡ true → loaded s (Some (p, rest)) ≡ with_rows bare p
fresh s p rest h = cond-true (whole s) (held s (Some (p, rest))) s h ∙ ap (λ (t : Store). with_rows t p) (cleared_bare s h)

-- a page that was read: its store put into another
abbrev paged_in : Store → Read RawPage → Read Paged
paged_in s read = made judged_in read then λ judged rest. cond judged.sound (Some (record { before = judged.value; store = loaded s read }, rest)) None

accepted : (s : Store) (read : Read RawPage) → whole s ≡ true → (read then judged) ≡ paged_in s read
accepted s None h = refl
accepted s (Some q) h = ap (λ (t : Store). cond {A = Read Paged} (judged_in q.0).sound (Some (record { before = q.0.before; store = t }, q.1)) None) (sym (fresh s q.0 q.1 h))

pub loads : Loads
loads = record { fresh = fresh; accepted = λ s bs h. accepted s (raw_page_of bs) h }
