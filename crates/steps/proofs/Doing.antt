-- Entries done one after the other.
use Rattle.council.specs.Log.{requests_in}
use Rattle.entry.specs.declared.entry.Entry.{Entry}
use Rattle.entry.specs.declared.entry.Entry.TheVariants.{Call, Close}
use Rattle.std.proofs.lemmas.List.{drop_all}
use Rattle.steps.specs.Calls.{acted}
use Rattle.store.specs.Store.{Store, played}
use Rattle.std.proofs.Common.{◌≡◌, ℕ, ◌+◌, ◌<◌, ◌≤◌, List, ◌∷◌, length, get_or, drop, sym, refl, ap, ◌∙◌, add-one, drop-cons}

-- one entry, and then the others
played_first : (e : Entry) (s : Store) (es : List Entry) → played (acted e s) (requests_in es) ≡ played s (requests_in (e ∷ es))
unfolding requests_in
played_first (Call r) s es = refl
played_first (Close ms) s es = refl

module _ (es : List Entry) (i : ℕ) (s : Store) where
  pub played_from : (d : Entry) (t : Store) → i < length es → t ≡ acted (get_or es i d) s → played t (requests_in (drop (i + 1) es)) ≡ played s (requests_in (drop i es))
  played_from d t h e =
      ap (λ (u : Store). played u (requests_in (drop (i + 1) es))) e ∙ played_first (get_or es i d) s (drop (i + 1) es) ∙
      ap (λ (n : ℕ). played s (requests_in (get_or es i d ∷ drop n es))) (add-one i) ∙ ap (λ (l : List Entry). played s (requests_in l)) (sym (drop-cons es i d h))

  pub played_end : length es ≤ i → played s (requests_in (drop i es)) ≡ s
  unfolding requests_in
  played_end h = ap (λ (l : List Entry). played s (requests_in l)) (drop_all i es h)
