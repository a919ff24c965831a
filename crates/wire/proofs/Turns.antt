-- A loop that reads things one behind the other, each of which changes a state.
use Rattle.std.proofs.Common.{◌≡◌, ℕ, zero, suc, ◌+◌, ◌-◌, ◌<◌, ◌≤◌, List, [], ◌∷◌, length, Some, None, sym, refl, ap, ◌∙◌, arith}
use Rattle.wire.proofs.Exacts.{same_value, split}
use Rattle.wire.specs.Bytes.{Read, ◌then◌}
use Rattle.wire.specs.Several.{after, first, front, made, rest_of, several}

made_same : {A B : Type 0} (f g : A → B) → ((a : A) → f a ≡ g a) → (o : Read A) → made f o ≡ made g o
made_same f g same None = refl
made_same f g same (Some p) = ap (λ b. Some (b, p.1)) (same p.0)

made_cons : {A B : Type 0} (f : List A → B) (x : A) (o : Read (List A)) → made f (o then λ xs bs. Some (x ∷ xs, bs)) ≡ made (λ xs. f (x ∷ xs)) o
made_cons f x None = refl
made_cons f x (Some p) = refl

pub made_then : {A B : Type 0} (f : List A → B) (o : Read A) (more : List ℕ → Read (List A)) → made f (o then λ x bs. more bs then λ xs bs. Some (x ∷ xs, bs)) ≡ (o then λ x bs. made (λ xs. f (x ∷ xs)) (more bs))
made_then f None more = refl
made_then f (Some p) more = made_cons f p.0 (more p.1)

module _ {A : Type 0} (reads : List ℕ → Read A) (n i : ℕ) (bs : List ℕ) where
  -- the turns that are left behind i of n
  turn : i < n → n - i ≡ suc (n - (i + 1))
  turn h = omega arith

  pub front_more : (x : A) (rest : List ℕ) → i < n → Some (x, rest) ≡ reads bs → front reads (n - i) bs ≡ x ∷ front reads (n - (i + 1)) rest
  unfolding front
  front_more x rest h e = ap (λ (k : ℕ). front reads k bs) (turn h) ∙ sym (ap (λ (o : Read A). first o (λ x bs. x ∷ front reads (n - (i + 1)) bs)) e)

  pub front_cut : i < n → None ≡ reads bs → front reads (n - i) bs ≡ []
  unfolding front
  front_cut h e = ap (λ (k : ℕ). front reads k bs) (turn h) ∙ sym (ap (λ (o : Read A). first o (λ x bs. x ∷ front reads (n - (i + 1)) bs)) e)

  pub front_none : n ≤ i → front reads (n - i) bs ≡ []
  unfolding front
  front_none h = let e : n - i ≡ 0 = omega arith in ap (λ (k : ℕ). front reads k bs) e

  behind : (x : A) (o : Read (List A)) → rest_of (o then λ xs bs. Some (x ∷ xs, bs)) ≡ rest_of o
  behind x None = refl
  behind x (Some p) = refl

  pub rest_more : (x : A) (rest : List ℕ) → i < n → Some (x, rest) ≡ reads bs → rest_of (several reads (n - (i + 1)) rest) ≡ rest_of (several reads (n - i) bs)
  unfolding several
  rest_more x rest h e =
      sym
      (ap (λ (k : ℕ). rest_of (several reads k bs)) (turn h) ∙ sym (ap (λ (o : Read A). rest_of (o then λ x bs. several reads (n - (i + 1)) bs then λ xs bs. Some (x ∷ xs, bs))) e) ∙
      behind x (several reads (n - (i + 1)) rest))

  pub rest_cut : i < n → None ≡ reads bs → rest_of (several reads (n - i) bs) ≡ None
  unfolding several
  rest_cut h e = ap (λ (k : ℕ). rest_of (several reads k bs)) (turn h) ∙ sym (ap (λ (o : Read A). rest_of (o then λ x bs. several reads (n - (i + 1)) bs then λ xs bs. Some (x ∷ xs, bs))) e)

  pub rest_none : n ≤ i → rest_of (several reads (n - i) bs) ≡ Some bs
  unfolding several
  rest_none h = let e : n - i ≡ 0 = omega arith in ap (λ (k : ℕ). rest_of (several reads k bs)) e

  -- what a function makes of the things that are left: one more read, none found, and none left
  made_next : {B : Type 0} (f : List A → B) → i < n → made f (several reads (n - i) bs) ≡ (reads bs then λ x bs. made (λ xs. f (x ∷ xs)) (several reads (n - (i + 1)) bs))
  unfolding several
  made_next f h = ap (λ (k : ℕ). made f (several reads k bs)) (turn h) ∙ made_then f (reads bs) (several reads (n - (i + 1)))

  pub made_more : {B : Type 0} (f g : List A → B) (x : A) (rest : List ℕ) → i < n → Some (x, rest) ≡ reads bs → ((xs : List A) → g xs ≡ f (x ∷ xs)) →
      made g (several reads (n - (i + 1)) rest) ≡ made f (several reads (n - i) bs)
  made_more {B} f g x rest h e same =
      made_same g (λ xs. f (x ∷ xs)) same (several reads (n - (i + 1)) rest) ∙ ap (λ (o : Read A). o then λ x bs. made (λ xs. f (x ∷ xs)) (several reads (n - (i + 1)) bs)) e ∙ sym (made_next f h)

  pub made_cut : {B : Type 0} (f : List A → B) → i < n → None ≡ reads bs → made f (several reads (n - i) bs) ≡ None
  made_cut {B} f h e = made_next f h ∙ sym (ap (λ (o : Read A). o then λ x bs. made (λ xs. f (x ∷ xs)) (several reads (n - (i + 1)) bs)) e)

  pub made_none : {B : Type 0} (f : List A → B) → n ≤ i → made f (several reads (n - i) bs) ≡ Some (f [], bs)
  unfolding several
  made_none f h = let e : n - i ≡ 0 = omega arith in ap (λ (k : ℕ). made f (several reads k bs)) e

  -- what each makes of a state: one more, and none left
  module _ {S : Type 0} (step : S → A → S) (s : S) where
    pub after_turn : (x : A) (rest : List ℕ) (t : S) → i < n → Some (x, rest) ≡ reads bs → t ≡ step s x → made (after step t) (several reads (n - (i + 1)) rest) ≡ made (after step s) (several reads (n - i) bs)
    unfolding after
    after_turn x rest t h e f = made_more (after step s) (after step t) x rest h e (λ xs. ap (λ (u : S). after step u xs) f)

    pub after_end : n ≤ i → made (after step s) (several reads (n - i) bs) ≡ Some (s, bs)
    unfolding after
    after_end h = made_none (after step s) h

-- where all can be read, as many as can be are all of them
pub front_all : {A : Type 0} (reads : List ℕ → Read A) (n : ℕ) (bs : List ℕ) (xs : List A) (rest : List ℕ) → several reads n bs ≡ Some (xs, rest) → front reads n bs ≡ xs
unfolding several front
front_all reads zero bs xs rest e = same_value e
front_all {A} reads (suc n) bs xs rest e =
    let s = split (reads bs) _ (xs, rest) e in
    let t = split (several reads n s.rest) _ (xs, rest) s.second in
    ap (λ (o : Read A). first o (λ x bs. x ∷ front reads n bs)) s.first ∙ ap (λ (l : List A). s.value ∷ l) (front_all reads n s.rest t.value t.rest t.first) ∙ same_value t.second

pub several_length : {A : Type 0} (reads : List ℕ → Read A) (n : ℕ) (bs : List ℕ) (xs : List A) (rest : List ℕ) → several reads n bs ≡ Some (xs, rest) → length xs ≡ n
unfolding several
several_length reads zero bs xs rest e = sym (ap length (same_value e))
several_length reads (suc n) bs xs rest e =
    let s = split (reads bs) _ (xs, rest) e in
    let t = split (several reads n s.rest) _ (xs, rest) s.second in
    let k = several_length reads n s.rest t.value t.rest t.first in
    let l = ap length (same_value t.second) in
    omega arith
