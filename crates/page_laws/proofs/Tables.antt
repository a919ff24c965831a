-- Tables as rows, and rows put into tables. Shelves and clients are rows of one kind: each has a place, and a value for the cell there.
use Rattle.std.proofs.Common.{◌≡◌, ℕ, zero, suc, ◌+◌, ◌<◌, ◌≤◌, Bool, true, not, ◌&&◌, eqb, ltb, leb, List, [], ◌∷◌, ◌++◌, length, get_or, drop, set, replicate, sym, refl, ap, ◌∙◌, subst, ⊎_elim, arith}
use Rattle.wire.specs.Several.{after}
use Rattle.page.specs.Rows.{listed, rising}
use Rattle.std.proofs.ByRecursion.{All-set}
use Rattle.std.proofs.lemmas.List.{append_assoc, drop_all, drop_more, get_or-set_other, get_or-set_same, length_push, length-set, set_at}
use Rattle.std.proofs.lemmas.Bool.{and_from, and_parts, cases_eq, cases_lt, cond_both, cond-false, cond-true, eq-eqb, eqb-false, le-leb, leb-true, lt-ltb, ltb-true, ne_eqb, not_from_false, not-true}
use Rattle.std.specs.List.{AllByRecursion}

-- a cell set for each row
abbrev pub put_in : {A : Type 0} → (A → ℕ) → (A → ℕ) → List ℕ → A → List ℕ
put_in place value cells row = set cells (place row) (value row)

-- a row that can stand where `next` is the lowest place left, of n places
abbrev pub is_next_of : {A : Type 0} → ℕ → (A → ℕ) → (A → ℕ) → ℕ → A → Bool
is_next_of n place value next row = leb next (place row) && (ltb (place row) n && not (eqb (value row) 0))

-- what the test says
pub record Next {A : Type 0} (n : ℕ) (place value : A → ℕ) (next : ℕ) (row : A) : Type 0 where
  pub above : next ≤ place row
  pub within : place row < n
  pub full : value row ≡ 0 → ⊥

lt_from : (a b : ℕ) → a ≤ b → (b ≡ a → ⊥) → a < b
lt_from a b h o = ⊎_elim (λ (k : a < b). k) (λ (k : b ≤ a). absurd (o (omega arith))) (cases_lt a b)

module _ {A : Type 0} (n : ℕ) (place value : A → ℕ) where
  next_is : (next : ℕ) (row : A) → is_next_of n place value next row ≡ true → Next n place value next row
  next_is next row h =
      let a = and_parts (leb next (place row)) _ h in
      let b = and_parts (ltb (place row) n) _ a.1 in
      record { above = leb-true next (place row) a.0; within = ltb-true (place row) n b.0; full = eqb-false (value row) 0 (not-true (eqb (value row) 0) b.1) }

  is_next_lem : (next : ℕ) (row : A) → Next n place value next row → is_next_of n place value next row ≡ true
  is_next_lem next row h =
      and_from (leb next (place row)) _ (le-leb next (place row) h.above)
      (and_from (ltb (place row) n) _ (lt-ltb (place row) n h.within) (not_from_false (eqb (value row) 0) (ne_eqb (value row) 0 h.full)))

  abbrev pub Rises : ℕ → List A → Type 0
  Rises next rows = rising (is_next_of n place value) place next rows ≡ true

  pub rises_parts : (next : ℕ) (row : A) (rows : List A) → Rises next (row ∷ rows) → Next n place value next row × Rises (place row + 1) rows
  unfolding rising
  rises_parts next row rows h = let a = and_parts (is_next_of n place value next row) _ h in (next_is next row a.0, a.1)

  rises_from : (next : ℕ) (row : A) (rows : List A) → Next n place value next row → Rises (place row + 1) rows → Rises next (row ∷ rows)
  unfolding rising
  rises_from next row rows h k = and_from (is_next_of n place value next row) _ (is_next_lem next row h) k

  -- the rows of a table rise
  pub listed_rises : (make : ℕ → ℕ → A) → ((i x : ℕ) → place (make i x) ≡ i) → ((i x : ℕ) → value (make i x) ≡ x) → (next i : ℕ) (xs : List ℕ) → next ≤ i → i + length xs ≡ n → Rises next (listed make i xs)
  unfolding listed rising
  listed_rises make p v next i [] low long = refl
  listed_rises make p v next i (x ∷ xs) low long =
      ⊎_elim
      (λ (e : x ≡ 0).
      subst (Rises next) (sym (cond-true (eqb x 0) (listed make (i + 1) xs) (make i x ∷ listed make (i + 1) xs) (eq-eqb x 0 e))) (listed_rises make p v next (i + 1) xs (omega arith) (omega arith)))
      (λ (o : x ≡ 0 → ⊥).
      let a = p i x in
      let b = v i x in
      subst (Rises next) (sym (cond-false (eqb x 0) (listed make (i + 1) xs) (make i x ∷ listed make (i + 1) xs) (ne_eqb x 0 o)))
      (rises_from next (make i x) (listed make (i + 1) xs) (record { above = omega arith; within = omega arith; full = λ z. o (omega arith) })
      (listed_rises make p v (place (make i x) + 1) (i + 1) xs (omega arith) (omega arith))))
      (cases_eq x 0)

  -- how long a table is, and what holds of each of its cells
  pub length_put : (cells : List ℕ) (rows : List A) → length (after (put_in place value) cells rows) ≡ length cells
  unfolding after
  length_put cells [] = refl
  length_put cells (row ∷ rows) = length_put (set cells (place row) (value row)) rows ∙ length-set cells (place row) (value row)

  pub all_put : (P : ℕ → Type 0) (cells : List ℕ) (rows : List A) → AllByRecursion P cells → AllByRecursion (λ row. P (value row)) rows → AllByRecursion P (after (put_in place value) cells rows)
  unfolding after
  all_put P cells [] h k = h
  all_put P cells (row ∷ rows) h k = all_put P (set cells (place row) (value row)) rows (All-set P cells (place row) (value row) k.0 h) k.1

  -- places below the rows stay as they are, and each row is found at its own
  untouched : (kept : A → ℕ) (next j : ℕ) (cells : List ℕ) (rows : List A) → Rises next rows → j < next → get_or (after (put_in place kept) cells rows) j 0 ≡ get_or cells j 0
  unfolding after
  untouched kept next j cells [] h low = refl
  untouched kept next j cells (row ∷ rows) h low =
      let p = rises_parts next row rows h in
      let a = p.0.above in
      untouched kept (place row + 1) j (set cells (place row) (kept row)) rows p.1 (omega arith) ∙ get_or-set_other cells (place row) j (kept row) 0 (λ e. omega arith)

  pub found_again : (kept : A → ℕ) (next : ℕ) (cells : List ℕ) (rows : List A) → Rises next rows → length cells ≡ n → AllByRecursion (λ row. get_or (after (put_in place kept) cells rows) (place row) 0 ≡ kept row) rows
  unfolding after
  found_again kept next cells [] h long = tt
  found_again kept next cells (row ∷ rows) h long =
      let p = rises_parts next row rows h in
      let a = p.0.within in
      let new = set cells (place row) (kept row) in (
        untouched kept (place row + 1) (place row) new rows p.1 (omega arith) ∙ get_or-set_same cells (place row) (kept row) 0 (omega arith),
        found_again kept (place row + 1) new rows p.1 (length-set cells (place row) (kept row) ∙ long),
      )

  -- the cells that rising rows make of m cells of 0, behind others: the rows are listed again
  pub record Spread (make : ℕ → ℕ → A) (next m : ℕ) (front : List ℕ) (rows : List A) : Type 0 where
    pub cells : List ℕ
    pub made : after (put_in place value) (front ++ replicate m 0) rows ≡ front ++ cells
    pub again : listed make next cells ≡ rows

  none_listed : (make : ℕ → ℕ → A) (i m : ℕ) → listed make i (replicate m 0) ≡ []
  unfolding listed
  none_listed make i zero = refl
  none_listed make i (suc m) = none_listed make (i + 1) m

  full_listed : (make : ℕ → ℕ → A) (i x : ℕ) (cells : List ℕ) (row : A) (rows : List A) → (x ≡ 0 → ⊥) → make i x ≡ row → listed make (i + 1) cells ≡ rows → listed make i (x ∷ cells) ≡ row ∷ rows
  unfolding listed
  full_listed make i x cells row rows o e f = cond-false (eqb x 0) (listed make (i + 1) cells) (make i x ∷ listed make (i + 1) cells) (ne_eqb x 0 o) ∙ ap (λ (r : A). r ∷ listed make (i + 1) cells) e ∙ ap (λ (l : List A). row ∷ l) f

  pub spread : (make : ℕ → ℕ → A) (m next : ℕ) (front : List ℕ) (rows : List A) → length front ≡ next → next + m ≡ n → Rises next rows → AllByRecursion (λ row. make (place row) (value row) ≡ row) rows → Spread make next m front rows
  unfolding after listed
  spread make zero next front [] here all h k = record { cells = []; made = refl; again = refl }
  spread make zero next front (row ∷ rows) here all h k =
      let p = rises_parts next row rows h in
      let a = p.0.above in
      let b = p.0.within in
      absurd (omega arith)
  spread make (suc m) next front [] here all h k = record { cells = replicate (suc m) 0; made = refl; again = none_listed make next (suc m) }
  spread make (suc m) next front (row ∷ rows) here all h k =
      let p = rises_parts next row rows h in
      let a = p.0.above in
      let v = value row in
      ⊎_elim
      (λ (e : place row ≡ next).
      let s = spread make m (next + 1) (front ++ (v ∷ [])) rows (length_push front v ∙ ap (λ (i : ℕ). i + 1) here) (omega arith) (subst (λ (i : ℕ). Rises (i + 1) rows) e p.1) k.1 in
      record {
        cells = v ∷ s.cells;
        made =
            ap (λ (l : List ℕ). after (put_in place value) l rows) (set_at front 0 (replicate m 0) v (place row) (here ∙ sym e) ∙ sym (append_assoc front (v ∷ []) (replicate m 0))) ∙
            s.made ∙ append_assoc front (v ∷ []) s.cells;
        again = full_listed make next v s.cells row rows p.0.full (ap (λ (i : ℕ). make i v) (sym e) ∙ k.0) s.again;
      })
      (λ (o : place row ≡ next → ⊥).
      let further = rises_from (next + 1) row rows (record { above = (let d : next < place row = lt_from next (place row) a o in omega arith); within = p.0.within; full = p.0.full }) p.1 in
      let s = spread make m (next + 1) (front ++ (0 ∷ [])) (row ∷ rows) (length_push front 0 ∙ ap (λ (i : ℕ). i + 1) here) (omega arith) further k in
      record {
        cells = 0 ∷ s.cells;
        made = ap (λ (l : List ℕ). after (put_in place value) l (row ∷ rows)) (sym (append_assoc front (0 ∷ []) (replicate m 0))) ∙ s.made ∙ append_assoc front (0 ∷ []) s.cells;
        again = s.again;
      })
      (cases_eq (place row) next)

  pub relisted : (make : ℕ → ℕ → A) (rows : List A) → Rises 0 rows → AllByRecursion (λ row. make (place row) (value row) ≡ row) rows → listed make 0 (after (put_in place value) (replicate n 0) rows) ≡ rows
  relisted make rows h k = let s = spread make n 0 [] rows refl (omega arith) h k in ap (listed make 0) s.made ∙ s.again

  -- what holds of the rows of a table, and how many they can be
  pub all_listed : (make : ℕ → ℕ → A) (P : A → Type 0) (Q : ℕ → Type 0) → ((i x : ℕ) → i < n → Q x → P (make i x)) → (i : ℕ) (xs : List ℕ) → i + length xs ≡ n → AllByRecursion Q xs → AllByRecursion P (listed make i xs)
  unfolding listed
  all_listed make P Q f i [] long h = tt
  all_listed make P Q f i (x ∷ xs) long h =
      let k = all_listed make P Q f (i + 1) xs (omega arith) h.1 in
      cond_both (eqb x 0) (listed make (i + 1) xs) (make i x ∷ listed make (i + 1) xs) (AllByRecursion P) (λ b. k) (λ b. (f i x (omega arith) h.0, k))

  pub few_listed : (make : ℕ → ℕ → A) (i : ℕ) (xs : List ℕ) → length (listed make i xs) ≤ length xs
  unfolding listed
  few_listed make i [] = omega arith
  few_listed make i (x ∷ xs) =
      let k = few_listed make (i + 1) xs in
      cond_both (eqb x 0) (listed make (i + 1) xs) (make i x ∷ listed make (i + 1) xs) (λ rows. length rows ≤ suc (length xs)) (λ b. omega arith) (λ b. omega arith)

-- The rows of a table `xs`, put into cells of 0, make a table `ys`.
module _ {A : Type 0} (place kept : A → ℕ) (make : ℕ → ℕ → A) where
  -- what that takes of the cells from place i on: 0 for 0, and else what the row keeps
  abbrev pub Agree : ℕ → List ℕ → List ℕ → Type 0
  Agree i [] [] = Unit {0}
  Agree i [] (y ∷ ys) = ⊥
  Agree i (x ∷ xs) [] = ⊥
  Agree i (x ∷ xs) (y ∷ ys) = (x ≡ 0 → y ≡ 0) × ((x ≡ 0 → ⊥) → kept (make i x) ≡ y) × Agree (i + 1) xs ys

  pub restored : ((i x : ℕ) → place (make i x) ≡ i) → (i : ℕ) (xs ys front : List ℕ) → length front ≡ i → Agree i xs ys → after (put_in place kept) (front ++ replicate (length xs) 0) (listed make i xs) ≡ front ++ ys
  unfolding after listed
  restored p i [] [] front here h = refl
  restored p i [] (y ∷ ys) front here h = absurd h
  restored p i (x ∷ xs) [] front here h = absurd h
  restored p i (x ∷ xs) (y ∷ ys) front here h =
      let zeros = replicate (length xs) 0 in
      let Goal = λ (rows : List A). after (put_in place kept) (front ++ (0 ∷ zeros)) rows ≡ front ++ (y ∷ ys) in
      let rest = restored p (i + 1) xs ys (front ++ (y ∷ [])) (length_push front y ∙ ap (λ (j : ℕ). j + 1) here) h.2 in
      let on = rest ∙ append_assoc front (y ∷ []) ys in
      ⊎_elim
      (λ (e : x ≡ 0).
      subst Goal (sym (cond-true (eqb x 0) (listed make (i + 1) xs) (make i x ∷ listed make (i + 1) xs) (eq-eqb x 0 e)))
      (ap (λ (z : ℕ). after (put_in place kept) (front ++ (z ∷ zeros)) (listed make (i + 1) xs)) (sym (h.0 e)) ∙ ap (λ (l : List ℕ). after (put_in place kept) l (listed make (i + 1) xs)) (sym (append_assoc front (y ∷ []) zeros)) ∙ on))
      (λ (o : x ≡ 0 → ⊥).
      subst Goal (sym (cond-false (eqb x 0) (listed make (i + 1) xs) (make i x ∷ listed make (i + 1) xs) (ne_eqb x 0 o)))
      (ap (λ (l : List ℕ). after (put_in place kept) l (listed make (i + 1) xs))
      (set_at front 0 zeros (kept (make i x)) (place (make i x)) (here ∙ sym (p i x)) ∙ ap (λ (z : ℕ). front ++ (z ∷ zeros)) (h.1 o) ∙ sym (append_assoc front (y ∷ []) zeros)) ∙ on))
      (cases_eq x 0)

  -- rows that keep the cell itself, and rows that keep the cell of another table
  pub agree_own : ((i x : ℕ) → kept (make i x) ≡ x) → (i : ℕ) (xs : List ℕ) → Agree i xs xs
  agree_own v i [] = tt
  agree_own v i (x ∷ xs) = ((λ e. e), (λ o. v i x), agree_own v (i + 1) xs)

  pub agree_other : (others : List ℕ) → ((i x : ℕ) → kept (make i x) ≡ get_or others i 0) → (i : ℕ) (xs : List ℕ) → i + length xs ≡ length others → ((k : ℕ) → get_or xs k 0 ≡ 0 → get_or others (i + k) 0 ≡ 0) → Agree i xs (drop i others)
  agree_other others v i [] long h = subst (Agree i []) (sym (drop_all i others (omega arith))) tt
  agree_other others v i (x ∷ xs) long h =
      let z : i + 0 ≡ i = omega arith in
      subst (Agree i (x ∷ xs)) (sym (drop_more others i 0 (omega arith))) (
        (λ e. ap (λ (j : ℕ). get_or others j 0) (sym z) ∙ h 0 e),
        (λ o. v i x),
        agree_other others v (i + 1) xs (omega arith) (λ k e. let s : i + 1 + k ≡ i + suc k = omega arith in ap (λ (j : ℕ). get_or others j 0) s ∙ h (suc k) e),
      )
