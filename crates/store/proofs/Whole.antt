-- Tables that are whole have their lengths.
use Rattle.std.proofs.Common.{◌≡◌, true, eqb, length}
use Rattle.std.proofs.lemmas.Bool.{and_parts, eqb-true}
use Rattle.store.specs.Store.{Store, whole}

pub record Lengths (s : Store) : Type 0 where
  pub shelves : length s.shelves ≡ 1024
  pub lasts : length s.lasts ≡ 256
  pub words : length s.words ≡ 256

pub lengths : (s : Store) → whole s ≡ true → Lengths s
lengths s h =
    let p = and_parts (eqb (length s.shelves) 1024) _ h in
    let q = and_parts (eqb (length s.lasts) 256) (eqb (length s.words) 256) p.1 in
    record { shelves = eqb-true _ _ p.0; lasts = eqb-true _ _ q.0; words = eqb-true _ _ q.1 }
