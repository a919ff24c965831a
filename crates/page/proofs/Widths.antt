-- Readers that take a fixed number of bytes.
use Rattle.std.proofs.Common.{◌≡◌, ℕ, zero, suc, ◌+◌, ◌*◌, ◌<◌, ◌≤◌, Bool, true, false, cond, ltb, List, [], ◌∷◌, length, take, drop, Some, None, Option, sym, refl, ap, ◌∙◌, ⊎_elim, mul-zero, mul-suc, arith}
use Rattle.wire.specs.Bytes.{Read, ◌then◌, four, one, some, two}
use Rattle.wire.specs.Several.{rest_of, several}
use Rattle.page.specs.Page.{raw_page_of}
use Rattle.page.specs.Rows.{client_of, count_of, rows_of, shelf_of, skip_of}
use Rattle.page.specs.declared.rows.Client.{Client}
use Rattle.page.specs.declared.rows.Shelf.{Shelf}
use Rattle.std.proofs.lemmas.List.{drop-drop, length-drop}
use Rattle.std.proofs.lemmas.Bool.{cases_lt, cond-false, cond-true, le-ltb, lt-ltb}
use Rattle.std.proofs.lemmas.Bool.Decides.{nat_tests}

-- the bytes behind the first n, if there are so many
abbrev pub behind : ℕ → List ℕ → Option (List ℕ)
behind n bs = cond (ltb (length bs) n) None (Some (drop n bs))

-- it takes w bytes wherever there are so many
abbrev pub Wide : {A : Type 0} → ℕ → (List ℕ → Read A) → Type 0
Wide w reads = (bs : List ℕ) → rest_of (reads bs) ≡ behind w bs

behind_short : (n : ℕ) (bs : List ℕ) → length bs < n → behind n bs ≡ None
behind_short n bs h = cond-true (ltb (length bs) n) None (Some (drop n bs)) (lt-ltb (length bs) n h)

behind_long : (n : ℕ) (bs : List ℕ) → n ≤ length bs → behind n bs ≡ Some (drop n bs)
behind_long n bs h = cond-false (ltb (length bs) n) None (Some (drop n bs)) (le-ltb (length bs) n h)

behind_both : (w v : ℕ) (bs : List ℕ) → w ≤ length bs → behind v (drop w bs) ≡ behind (w + v) bs
behind_both w v bs h =
    let n = length-drop w bs in
    let t : ltb (length (drop w bs)) v ≡ ltb (length bs) (w + v) = grind (arith, nat_tests) in
    let d : drop v (drop w bs) ≡ drop (w + v) bs = drop-drop v w bs in
    cc (t, d)

-- nothing, one byte, and one reader behind the other
nothing_wide : {A : Type 0} (a : A) → Wide 0 (λ bs. Some (a, bs))
nothing_wide a bs = sym (behind_long 0 bs (omega arith))

one_wide : Wide 1 one
one_wide [] = refl
one_wide (b ∷ bs) = sym (behind_long 1 (b ∷ bs) (omega arith))

both_read : {A B : Type 0} (w v : ℕ) (k : A → List ℕ → Read B) → ((a : A) → Wide v (k a)) → (bs : List ℕ) (o : Read A) → rest_of o ≡ behind w bs → rest_of (o then k) ≡ behind (w + v) bs
both_read w v k h bs None e =
    ⊎_elim
    (λ (i : length bs < w). sym (behind_short (w + v) bs (omega arith)))
    (λ (i : w ≤ length bs). cc (behind_long w bs i))
    (cases_lt (length bs) w)
both_read w v k h bs (Some p) e =
    ⊎_elim
    (λ (i : length bs < w). cc (behind_short w bs i))
    (λ (i : w ≤ length bs). let d : p.1 ≡ drop w bs = cc (behind_long w bs i) in h p.0 p.1 ∙ ap (behind v) d ∙ behind_both w v bs i)
    (cases_lt (length bs) w)

pub both_wide : {A B : Type 0} (w v : ℕ) (reads : List ℕ → Read A) (k : A → List ℕ → Read B) → Wide w reads → ((a : A) → Wide v (k a)) → Wide (w + v) (λ bs. reads bs then k)
both_wide w v reads k g h bs = both_read w v k h bs (reads bs) (g bs)

-- n of them
pub several_wide : {A : Type 0} (w : ℕ) (reads : List ℕ → Read A) → Wide w reads → (n : ℕ) → Wide (w * n) (several reads n)
unfolding several
several_wide {A} w reads h zero bs = nothing_wide {A = List A} [] bs ∙ ap (λ (m : ℕ). behind m bs) (sym (mul-zero w))
several_wide w reads h (suc n) bs =
    let m : w + (w * n + 0) ≡ w * suc n = (let s = mul-suc w n in omega arith) in
    both_wide w (w * n + 0) reads (λ x bs. several reads n bs then λ xs bs. Some (x ∷ xs, bs)) h
    (λ x. both_wide (w * n) 0 (several reads n) (λ xs bs. Some (x ∷ xs, bs)) (several_wide w reads h n) (λ xs. nothing_wide (x ∷ xs))) bs ∙
    ap (λ (m : ℕ). behind m bs) m

-- one byte and then another thing, and so on: numbers and rows
two_wide : Wide 2 two
two_wide = both_wide 1 1 one _ one_wide (λ high. both_wide 1 0 one _ one_wide (λ low. nothing_wide (high * 256 + low)))

four_wide : Wide 4 four
four_wide = both_wide 2 2 two _ two_wide (λ high. both_wide 2 0 two _ two_wide (λ low. nothing_wide (high * 65536 + low)))

shelf_wide : Wide 6 shelf_of
shelf_wide = both_wide 2 4 two _ two_wide (λ key. both_wide 4 0 four _ four_wide (λ number. nothing_wide {A = Shelf} (record { key = key; number = number })))

client_wide : Wide 9 client_of
client_wide =
    both_wide 1 8 one _ one_wide
    (λ client. both_wide 4 4 four _ four_wide (λ last. both_wide 4 0 four _ four_wide (λ word. nothing_wide {A = Client} (record { client = client; last = last; word = word }))))

-- readers that leave the same bytes
rest_made : {A B : Type 0} (o : Read A) (f : A → B) → rest_of (o then λ a bs. Some (f a, bs)) ≡ rest_of o
rest_made None f = refl
rest_made (Some q) f = refl

same_rests : {A B C D : Type 0} (o : Read A) (p : Read B) (k : A → List ℕ → Read C) (l : B → List ℕ → Read D) → rest_of o ≡ rest_of p → ((a : A) (b : B) (bs : List ℕ) → rest_of (k a bs) ≡ rest_of (l b bs)) →
    rest_of (o then k) ≡ rest_of (p then l)
same_rests None None k l e h = refl
same_rests None (Some q) k l e h = cc
same_rests (Some q) None k l e h = cc
same_rests (Some q) (Some r) k l e h = let d : q.1 ≡ r.1 = cc in ap (λ (bs : List ℕ). rest_of (k q.0 bs)) d ∙ h q.0 r.0 r.1

same_next : {A B C : Type 0} (o : Read A) (k : A → List ℕ → Read B) (l : A → List ℕ → Read C) → ((a : A) (bs : List ℕ) → rest_of (k a bs) ≡ rest_of (l a bs)) → rest_of (o then k) ≡ rest_of (o then l)
same_next None k l h = refl
same_next (Some q) k l h = h q.0 q.1

-- a count and the bytes of so many rows, skipped
some_rest : (b : Bool) (p : List ℕ × List ℕ) → rest_of (cond b None (Some p)) ≡ cond b None (Some p.1)
some_rest true p = refl
some_rest false p = refl

rows_skip : {A : Type 0} (w : ℕ) (reads : List ℕ → Read A) → Wide w reads → (limit : ℕ) (bs : List ℕ) → rest_of (rows_of reads limit bs) ≡ rest_of (skip_of limit w bs)
rows_skip w reads h limit bs =
    same_next (count_of limit bs) (several reads) (λ n bs. some (w * n) bs)
    (λ n bs. several_wide w reads h n bs ∙ sym (some_rest (ltb (length bs) (w * n)) (take (w * n) bs, drop (w * n) bs)))

-- what is left behind a page
pub page_skip : (bs : List ℕ) → rest_of (raw_page_of bs) ≡ rest_of (four bs then λ before bs. skip_of 1024 6 bs then λ shelves bs. skip_of 256 9 bs)
page_skip bs =
    same_next (four bs) _ _
    (λ before bs. same_rests (rows_of shelf_of 1024 bs) (skip_of 1024 6 bs) _ _ (rows_skip 6 shelf_of shelf_wide 1024 bs)
    (λ shelves skipped bs. rest_made (rows_of client_of 256 bs) (λ clients. record { before = before; shelves = shelves; clients = clients }) ∙ rows_skip 9 client_of client_wide 256 bs))
