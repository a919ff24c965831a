-- The parts of a text between bytes 10 against its lines: the same, or one empty part more at the end.
use Rattle.std.proofs.Common.{◌≡◌, ℕ, Bool, true, false, cond, eqb, List, [], ◌∷◌, ◌++◌, ◌⊎◌, inl, inr, refl, ap, ◌∙◌}
use Rattle.std.specs.List.{onto_first, slice_split}
use Rattle.text.specs.Lines.{begun, lines}

abbrev pub Ends : List (List ℕ) → List (List ℕ) → Type 0
Ends parts ls = (parts ≡ ls) ⊎ (parts ≡ ls ++ ([] ∷ []))

begun_is : (b : ℕ) (ls : List (List ℕ)) → onto_first b ls ≡ begun b ls
begun_is b [] = refl
begun_is b (l ∷ ls) = refl

begins : (b : ℕ) (parts ls : List (List ℕ)) → Ends parts ls → Ends (onto_first b parts) (begun b ls)
begins b parts ls (inl e) = inl (ap (onto_first b) e ∙ begun_is b ls)
begins b parts [] (inr e) = inl (ap (onto_first b) e)
begins b parts (l ∷ ls) (inr e) = inr (ap (onto_first b) e)

more : (parts ls : List (List ℕ)) → Ends parts ls → Ends ([] ∷ parts) ([] ∷ ls)
more parts ls (inl e) = inl (ap (λ (x : List (List ℕ)). [] ∷ x) e)
more parts ls (inr e) = inr (ap (λ (x : List (List ℕ)). [] ∷ x) e)

by_first : (m : Bool) (b : ℕ) (parts ls : List (List ℕ)) → Ends parts ls → Ends (cond m ([] ∷ parts) (onto_first b parts)) (cond m ([] ∷ ls) (begun b ls))
by_first true b parts ls h = more parts ls h
by_first false b parts ls h = begins b parts ls h

pub parts_end : (bs : List ℕ) → Ends (slice_split (λ b. eqb b 10) bs) (lines bs)
parts_end [] = inr refl
parts_end (b ∷ bs) = by_first (eqb b 10) b (slice_split (λ b. eqb b 10) bs) (lines bs) (parts_end bs)
