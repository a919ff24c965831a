-- Tables of other lengths are no store: nothing is done on them.
use Rattle.store.specs.Store.{Store, applied, played, whole}
use Rattle.store.specs.declared.request.Request.{Request}
use Rattle.std.proofs.Common.{◌≡◌, false, List, [], ◌∷◌, refl, ap, ◌∙◌}

pub applied_idle : (s : Store) (r : Request) → whole s ≡ false → applied r s ≡ s
applied_idle s r h = rw h

pub played_idle : (s : Store) (rs : List Request) → whole s ≡ false → played s rs ≡ s
played_idle s [] h = refl
played_idle s (r ∷ rs) h = ap (λ (t : Store). played t rs) (applied_idle s r h) ∙ played_idle s rs h
