-- Readers that are exact, put together.
use Rattle.std.proofs.Common.{◌≡◌, ℕ, zero, suc, ◌<◌, ◌≤◌, cond, ltb, List, [], ◌∷◌, ◌++◌, length, Some, None, sym, refl, ap, ◌∙◌, subst, arith}
use Rattle.wire.proofs.Exacts.{bytes_behind, same_rest, same_value, split, two_exact, within}
use Rattle.wire.specs.Bytes.{Read, ◌then◌, two, two_bytes}
use Rattle.wire.specs.Exact.{Bytes, Exact}
use Rattle.wire.specs.Several.{joined, several}
use Rattle.std.proofs.lemmas.List.{append_assoc}
use Rattle.std.proofs.lemmas.Bool.{cond-false, le-ltb}
use Rattle.std.specs.List.{AllByRecursion}

-- what a reader that is exact read: something that fits, its bytes, and bytes behind it
pub record Took {A : Type 0} (bytes : A → List ℕ) (Fits : A → Type 0) (bs : List ℕ) (a : A) (rest : List ℕ) : Type 0 where
  pub fits : Fits a
  pub is : bs ≡ bytes a ++ rest
  pub behind : Bytes rest

pub took : {A : Type 0} {reads : List ℕ → Read A} {bytes : A → List ℕ} {Fits : A → Type 0} → Exact reads bytes Fits → (bs : List ℕ) (a : A) (rest : List ℕ) → Bytes bs → reads bs ≡ Some (a, rest) → Took bytes Fits bs a rest
took {bytes = w} x bs a rest h e = let o = x.only bs a rest h e in record { fits = o.0; is = o.1; behind = bytes_behind (w a) rest (subst Bytes o.1 h) }

module _ {A : Type 0} {reads : List ℕ → Read A} {bytes : A → List ℕ} {Fits : A → Type 0} (exact : Exact reads bytes Fits) where
  -- n of them, each of which fits
  abbrev Run : ℕ → List A → Type 0
  Run n xs = (length xs ≡ n) × AllByRecursion Fits xs

  several_back : (n : ℕ) (xs rest : _) → Run n xs → several reads n (joined bytes xs ++ rest) ≡ Some (xs, rest)
  unfolding several joined
  several_back zero [] rest h = refl
  several_back zero (x ∷ xs) rest h = let z = h.0 in absurd (omega arith)
  several_back (suc n) [] rest h = let z = h.0 in absurd (omega arith)
  several_back (suc n) (x ∷ xs) rest h =
      let z = h.0 in
      ap (λ (l : List ℕ). several reads (suc n) l) (append_assoc (bytes x) (joined bytes xs) rest) ∙
      ap (λ (o : Read A). o then λ x bs. several reads n bs then λ xs bs. Some (x ∷ xs, bs)) (exact.back x (joined bytes xs ++ rest) h.1.0) ∙
      ap (λ (o : Read (List A)). o then λ xs bs. Some (x ∷ xs, bs)) (several_back n xs rest (omega arith, h.1.1))

  several_only : (n : ℕ) (bs : List ℕ) (xs : List A) (rest : List ℕ) → Bytes bs → several reads n bs ≡ Some (xs, rest) → Run n xs × (bs ≡ joined bytes xs ++ rest)
  unfolding several joined
  several_only zero bs xs rest h e =
      subst (λ (l : List A). Run zero l × (bs ≡ joined bytes l ++ rest)) (same_value e) ((refl, tt), same_rest e)
  several_only (suc n) bs xs rest h e =
      let s = split (reads bs) _ (xs, rest) e in
      let t = took exact bs s.value s.rest h s.first in
      let u = split (several reads n s.rest) _ (xs, rest) s.second in
      let o = several_only n s.rest u.value u.rest t.behind u.first in
      let k = o.0.0 in
      subst (λ (l : List A). Run (suc n) l × (bs ≡ joined bytes l ++ rest)) (same_value u.second) (
        (omega arith, (t.fits, o.0.1)),
        t.is ∙ ap (λ (l : List ℕ). bytes s.value ++ l) (o.1 ∙ ap (λ (l : List ℕ). joined bytes u.value ++ l) (same_rest u.second)) ∙ sym (append_assoc (bytes s.value) (joined bytes u.value) rest),
      )

  pub several_exact : (n : ℕ) → Exact (several reads n) (joined bytes) (λ xs. (length xs ≡ n) × AllByRecursion Fits xs)
  several_exact n = record { back = several_back n; only = several_only n }

  -- how many there are, in two bytes and at most a limit, and then each
  counted_back : (limit : ℕ) → limit < 65536 → (xs : List A) (rest : List ℕ) → (length xs ≤ limit) × AllByRecursion Fits xs →
      (two ((two_bytes (length xs) ++ joined bytes xs) ++ rest) then λ n bs. cond (ltb limit n) None (several reads n bs)) ≡ Some (xs, rest)
  counted_back limit low xs rest h =
      let few = h.0 in
      ap (λ (o : Read ℕ). o then λ n bs. cond (ltb limit n) None (several reads n bs)) (two_exact.back (length xs) (joined bytes xs ++ rest) (omega arith)) ∙
      cond-false (ltb limit (length xs)) None (several reads (length xs) (joined bytes xs ++ rest)) (le-ltb limit (length xs) h.0) ∙ several_back (length xs) xs rest (refl, h.1)

  counted_only : (limit : ℕ) → (bs : List ℕ) (xs : List A) (rest : List ℕ) → Bytes bs → (two bs then λ n bs. cond (ltb limit n) None (several reads n bs)) ≡ Some (xs, rest) →
      ((length xs ≤ limit) × AllByRecursion Fits xs) × (bs ≡ (two_bytes (length xs) ++ joined bytes xs) ++ rest)
  counted_only limit bs xs rest h e =
      let s = split (two bs) _ (xs, rest) e in
      let t = took two_exact bs s.value s.rest h s.first in
      let n = s.value in
      within (((length xs ≤ limit) × AllByRecursion Fits xs) × (bs ≡ (two_bytes (length xs) ++ joined bytes xs) ++ rest)) limit n (several reads n s.rest) (xs, rest) s.second (λ few e.
      let o = several_only n s.rest xs rest t.behind e in
      let long = o.0.0 in
      ((omega arith, o.0.1), t.is ∙ ap (λ (l : List ℕ). two_bytes n ++ l) o.1 ∙ ap (λ (k : ℕ). two_bytes k ++ (joined bytes xs ++ rest)) (sym long)))

  pub counted_exact : (limit : ℕ) → limit < 65536 → Exact (λ bs. two bs then λ n bs. cond (ltb limit n) None (several reads n bs)) (λ xs. two_bytes (length xs) ++ joined bytes xs) (λ xs. (length xs ≤ limit) × AllByRecursion Fits xs)
  counted_exact limit low = record { back = counted_back limit low; only = counted_only limit }

-- one thing, and another behind it
module _ {A B : Type 0} {r : List ℕ → Read A} {w : A → List ℕ} {F : A → Type 0} {s : List ℕ → Read B} {v : B → List ℕ} {G : B → Type 0} (x : Exact r w F) (y : Exact s v G) where
  both_back : (p : A × B) (rest : List ℕ) → F p.0 × G p.1 → (r ((w p.0 ++ v p.1) ++ rest) then λ a bs. s bs then λ b bs. Some ((a, b), bs)) ≡ Some (p, rest)
  both_back p rest h =
      ap (λ (l : List ℕ). r l then λ a bs. s bs then λ b bs. Some ((a, b), bs)) (append_assoc (w p.0) (v p.1) rest) ∙
      ap (λ (o : Read A). o then λ a bs. s bs then λ b bs. Some ((a, b), bs)) (x.back p.0 (v p.1 ++ rest) h.0) ∙
      ap (λ (o : Read B). o then λ b bs. Some ((p.0, b), bs)) (y.back p.1 rest h.1)

  both_only : (bs : List ℕ) (p : A × B) (rest : List ℕ) → Bytes bs → (r bs then λ a bs. s bs then λ b bs. Some ((a, b), bs)) ≡ Some (p, rest) → (F p.0 × G p.1) × (bs ≡ (w p.0 ++ v p.1) ++ rest)
  both_only bs p rest h e =
      let i = split (r bs) _ (p, rest) e in
      let t = took x bs i.value i.rest h i.first in
      let j = split (s i.rest) _ (p, rest) i.second in
      let u = took y i.rest j.value j.rest t.behind j.first in
      subst (λ (q : A × B). (F q.0 × G q.1) × (bs ≡ (w q.0 ++ v q.1) ++ rest)) (same_value j.second) (
        (t.fits, u.fits),
        t.is ∙ ap (λ (l : List ℕ). w i.value ++ l) (u.is ∙ ap (λ (l : List ℕ). v j.value ++ l) (same_rest j.second)) ∙ sym (append_assoc (w i.value) (v j.value) rest),
      )

  pub both_exact : Exact {A = A × B} (λ bs. r bs then λ a bs. s bs then λ b bs. Some ((a, b), bs)) (λ p. w p.0 ++ v p.1) (λ p. F p.0 × G p.1)
  both_exact = record { back = both_back; only = both_only }

-- what is made of something and of nothing else, by a function that loses nothing
pub made_exact : {A B : Type 0} {r : List ℕ → Read A} {w : A → List ℕ} {F : A → Type 0} (make : A → B) (v : B → List ℕ) (G : B → Type 0) → Exact r w F →
    ((a : A) → v (make a) ≡ w a) → ((a : A) → F a → G (make a)) → ((b : B) → G b → (a : A) × F a × (make a ≡ b)) → Exact (λ bs. r bs then λ a bs. Some (make a, bs)) v G
made_exact {A} {B} {r} {w} make v G x bytes fits from =
    record {
      back = λ b rest h.
          let f = from b h in
          ap (λ (c : B). r (v c ++ rest) then λ a bs. Some (make a, bs)) (sym f.2) ∙ ap (λ (l : List ℕ). r (l ++ rest) then λ a bs. Some (make a, bs)) (bytes f.0) ∙
          ap (λ (o : Read A). o then λ a bs. Some (make a, bs)) (x.back f.0 rest f.1) ∙ ap (λ (c : B). Some (c, rest)) f.2;
      only = λ bs b rest h e.
          let s = split (r bs) _ (b, rest) e in
          let o = x.only bs s.value s.rest h s.first in
          subst (λ (c : B). G c × (bs ≡ v c ++ rest)) (same_value s.second) (
            fits s.value o.0,
            o.1 ∙ ap (λ (l : List ℕ). w s.value ++ l) (same_rest s.second) ∙ ap (λ (l : List ℕ). l ++ rest) (sym (bytes s.value)),
          );
    }
