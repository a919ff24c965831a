-- Things of one kind, one behind the other.
use Rattle.std.specs.Prelude.{ℕ, zero, suc, List, [], ◌∷◌, ◌++◌, Some, None, Option}
use Rattle.std.specs.Borrow.{Bor}
use Rattle.wire.specs.Bytes.{Read, ◌then◌}

-- n of something
unfoldable pub several : {A : Type 0} → (List ℕ → Read A) → ℕ → List ℕ → Read (List A)
several reads zero bs = Some ([], bs)
several reads (suc n) bs = reads bs then λ x bs. several reads n bs then λ xs bs. Some (x ∷ xs, bs)

-- what comes of something that was read, if it was
abbrev pub first : {A B : Type 0} → Read A → (A → List ℕ → List B) → List B
first None k = []
first (Some p) k = k p.0 p.1

-- as many of n as can be read
unfoldable pub front : {A : Type 0} → (List ℕ → Read A) → ℕ → List ℕ → List A
front reads zero bs = []
front reads (suc n) bs = first (reads bs) (λ x bs. x ∷ front reads n bs)

-- what a function makes of what is read
abbrev pub made : {A B : Type 0} → (A → B) → Read A → Read B
made f read = read then λ a bs. Some (f a, bs)

-- what things make of a state, one after the other
unfoldable pub after : {A S : Type 0} → (S → A → S) → S → List A → S
after step s [] = s
after step s (x ∷ xs) = after step (step s x) xs

-- their bytes
unfoldable pub joined : {A : Type 0} → (A → List ℕ) → List A → List ℕ
joined bytes [] = []
joined bytes (x ∷ xs) = bytes x ++ joined bytes xs

-- the bytes behind what is read
abbrev pub rest_of : {A : Type 0} → Read A → Option (List ℕ)
rest_of None = None
rest_of (Some p) = Some p.1

abbrev pub seen_rest : Option (Bor (List ℕ)) → Option (List ℕ)
seen_rest None = None
seen_rest (Some rest) = Some rest.now
