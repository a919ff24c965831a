-- Rows written one behind the other.
use Rattle.std.proofs.Common.{◌≡◌, ℕ, ◌+◌, ◌<◌, ◌≤◌, Bool, true, false, cond, eqb, List, [], ◌∷◌, ◌++◌, length, get_or, drop, Option, Some, None, sym, refl, ap, ◌∙◌, arith}
use Rattle.wire.proofs.Over.{placed_nothing, placed_placed}
use Rattle.wire.specs.Bytes.{placed_at}
use Rattle.wire.specs.Several.{joined}
use Rattle.page.specs.Rows.{listed, row_in}
use Rattle.std.proofs.lemmas.List.{drop_all, drop_more, length-append}

-- the bytes of the rows of the cells from place i on
abbrev from_place : {A : Type 0} → (A → List ℕ) → (ℕ → ℕ → A) → List ℕ → ℕ → List ℕ
from_place bytes row cells i = joined bytes (listed row i (drop i cells))

-- the bytes of the row of a place, if it has one
abbrev row_bytes : {A : Type 0} → (A → List ℕ) → Option A → List ℕ
row_bytes bytes None = []
row_bytes bytes (Some row) = bytes row

joined_cond : {A : Type 0} (bytes : A → List ℕ) (b : Bool) (row : A) (rows : List A) → joined bytes (cond b rows (row ∷ rows)) ≡ row_bytes bytes (cond b None (Some row)) ++ joined bytes rows
unfolding joined
joined_cond bytes true row rows = refl
joined_cond bytes false row rows = refl

-- one place more
one_place : {A : Type 0} (bytes : A → List ℕ) (row : ℕ → ℕ → A) (cells : List ℕ) (i : ℕ) (o : Option A) → i < length cells → row_in row cells i ≡ o → from_place bytes row cells i ≡ row_bytes bytes o ++ from_place bytes row cells (i + 1)
unfolding listed
one_place bytes row cells i o h e =
    let x = get_or cells i 0 in
    ap (λ (l : List ℕ). joined bytes (listed row i l)) (drop_more cells i 0 h) ∙ joined_cond bytes (eqb x 0) (row i x) (listed row (i + 1) (drop (i + 1) cells)) ∙ ap (λ (p : Option _). row_bytes bytes p ++ from_place bytes row cells (i + 1)) e

past_places : {A : Type 0} (bytes : A → List ℕ) (row : ℕ → ℕ → A) (cells : List ℕ) (i : ℕ) → length cells ≤ i → from_place bytes row cells i ≡ []
unfolding joined listed
past_places bytes row cells i h = ap (λ (l : List ℕ). joined bytes (listed row i l)) (drop_all i cells h)

module _ {A : Type 0} (bytes : A → List ℕ) (row : ℕ → ℕ → A) (cells : List ℕ) (at : ℕ) (start : List ℕ) where
  abbrev left : ℕ → List ℕ
  left i = from_place bytes row cells i

  -- the rows from place i on are left to be written, of all that were to be written from `at` on
  pub record Left (i next : ℕ) (out : List ℕ) : Type 0 where
    pub ends : next + length (left i) ≡ at + length (left 0)
    pub makes : placed_at out next (left i) ≡ placed_at start at (left 0)

  -- a place without a row, one with a row, and no place left
  pub left_skip : (i next end : ℕ) (out new : List ℕ) → i < length cells → row_in row cells i ≡ None → end ≡ next → new ≡ out → Left i next out → Left (i + 1) end new
  left_skip i next end out new h z f g l =
      let e = one_place bytes row cells i None h z in
      let k = ap length e in
      let m = l.ends in
      let y = l.makes in
      record { ends = omega arith; makes = cc }

  module _ (i next : ℕ) (out : List ℕ) (r : A) (h : i < length cells) (is : row_in row cells i ≡ Some r) (room : at + length (left 0) ≤ length out) (l : Left i next out) where
    now_left : left i ≡ bytes r ++ left (i + 1)
    now_left = one_place bytes row cells i (Some r) h is

    both_fit : next + (length (bytes r) + length (left (i + 1))) ≡ at + length (left 0)
    both_fit =
        let n = length-append (bytes r) (left (i + 1)) in
        let k = ap length now_left in
        let z = l.ends in
        omega arith

    pub left_room : next + length (bytes r) ≤ length out
    left_room = let z = both_fit in omega arith

    pub left_put : (end : ℕ) (new : List ℕ) → end ≡ next + length (bytes r) → new ≡ placed_at out next (bytes r) → Left (i + 1) end new
    left_put end new f g =
        let z = both_fit in
        record {
          ends = omega arith;
          makes =
              ap (λ (y : List ℕ). placed_at y end (left (i + 1))) g ∙ ap (λ (m : ℕ). placed_at (placed_at out next (bytes r)) m (left (i + 1))) f ∙
              placed_placed out (bytes r) (left (i + 1)) next (omega arith) ∙ ap (placed_at out next) (sym now_left) ∙ l.makes;
        }

  pub left_none : (i next : ℕ) (out : List ℕ) → length cells ≤ i → at + length (left 0) ≤ length out → Left i next out → (next ≡ at + length (left 0)) × (out ≡ placed_at start at (left 0))
  left_none i next out h room l =
      let e = past_places bytes row cells i h in
      let k = ap length e in
      let z = l.ends in
      (omega arith, sym (placed_nothing out (left i) next e (omega arith)) ∙ l.makes)
