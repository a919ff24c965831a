-- How many bytes rows and pages take.
use Rattle.std.proofs.Common.{◌≡◌, ℕ, ◌+◌, ◌*◌, ◌≤◌, Bool, true, false, cond, not, eqb, List, [], ◌∷◌, ◌++◌, length, sym, refl, ap, ◌∙◌, mul-zero, mul-suc, arith}
use Rattle.wire.proofs.Over.{placed_placed}
use Rattle.wire.specs.Bytes.{placed_at}
use Rattle.page.specs.Page.{page_bytes, page_size}
use Rattle.wire.specs.Several.{joined}
use Rattle.page.specs.Rows.{client_bytes, client_row, clients_bytes, listed, occupied, shelf_bytes, shelf_row, shelves_bytes, table_bytes}
use Rattle.std.proofs.lemmas.List.{length-append}
use Rattle.std.proofs.lemmas.List.Sums.{sum_by-cons}
use Rattle.store.specs.Store.{Store}

count_cond : {A : Type 0} (b : Bool) (row : A) (rows : List A) (n : ℕ) → length rows ≡ n → length (cond b rows (row ∷ rows)) ≡ cond (not b) 1 0 + n
count_cond true row rows n h = omega arith
count_cond false row rows n h = omega arith

-- a row for each cell that doesn't hold 0
pub listed_count : {A : Type 0} (row : ℕ → ℕ → A) (i : ℕ) (xs : List ℕ) → length (listed row i xs) ≡ occupied xs
unfolding listed
listed_count row i [] = refl
listed_count row i (x ∷ xs) = count_cond (eqb x 0) (row i x) (listed row (i + 1) xs) (occupied xs) (listed_count row (i + 1) xs) ∙ sym (sum_by-cons (λ x. cond (not (eqb x 0)) 1 0) x xs)

-- rows of the same size
joined_length : {A : Type 0} (bytes : A → List ℕ) (w : ℕ) → ((row : A) → length (bytes row) ≡ w) → (rows : List A) → length (joined bytes rows) ≡ w * length rows
unfolding joined
joined_length bytes w h [] = sym (mul-zero w)
joined_length bytes w h (row ∷ rows) = length-append (bytes row) (joined bytes rows) ∙ (let a = h row in let b = joined_length bytes w h rows in let d = mul-suc w (length rows) in omega arith)

table_size : {A : Type 0} (bytes : A → List ℕ) (w : ℕ) → ((row : A) → length (bytes row) ≡ w) → (row : ℕ → ℕ → A) (cells : List ℕ) → length (table_bytes bytes row cells) ≡ 2 + w * occupied cells
table_size bytes w h row cells =
    let a = joined_length bytes w h (listed row 0 cells) in
    let b = ap (λ (n : ℕ). w * n) (listed_count row 0 cells) in
    omega arith

pub page_parts : (before : ℕ) (s : Store) → length (page_bytes before s) ≡ 4 + (length (shelves_bytes s.shelves) + length (clients_bytes s.lasts s.words))
unfolding page_bytes
page_parts before s = let a = length-append (shelves_bytes s.shelves) (clients_bytes s.lasts s.words) in omega arith

pub page_size_lem : (before : ℕ) (s : Store) → length (page_bytes before s) ≡ page_size s.shelves s.lasts
page_size_lem before s =
    let a = page_parts before s in
    let b = table_size shelf_bytes 6 (λ row. refl) shelf_row s.shelves in
    let d = table_size client_bytes 9 (λ row. refl) (client_row s.words) s.lasts in
    omega arith

-- two parts written, one behind the other
pub both_placed : (a b c : List ℕ) (i j : ℕ) (ys zs : List ℕ) → b ≡ placed_at a i ys → c ≡ placed_at b j zs → j ≡ i + length ys → i + length (ys ++ zs) ≤ length a → c ≡ placed_at a i (ys ++ zs)
both_placed a b c i j ys zs e f g h =
    f ∙ ap (λ (l : List ℕ). placed_at l j zs) e ∙ ap (λ (n : ℕ). placed_at (placed_at a i ys) n zs) g ∙ placed_placed a ys zs i (omega (arith, length-append ys zs))
