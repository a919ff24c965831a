-- Bytes written over others.
use Rattle.std.proofs.Common.{◌≡◌, ℕ, ◌+◌, ◌≤◌, ltb, List, [], ◌++◌, length, take, drop, sym, refl, ap, ◌∙◌, add-zero, arith}
use Rattle.wire.specs.Bytes.{over, placed_at}
use Rattle.std.proofs.lemmas.List.{length-append, take-append-drop}
use Rattle.std.proofs.lemmas.Bool.{cond-false, le-ltb}
use Rattle.std.proofs.lemmas.List.Edits.{length-paste, paste-paste, paste_all}
use lib.Seq.{paste}

-- as std says it
pasted : (xs ys : List ℕ) (at n : ℕ) → n ≡ length ys → over xs at ys ≡ paste xs at ys n
pasted xs ys at n e = ap (λ (k : ℕ). take at xs ++ (ys ++ drop (at + k) xs)) (sym e) ∙ sym (paste_all xs at ys n e)

placed_over : (xs ys : List ℕ) (at : ℕ) → at + length ys ≤ length xs → placed_at xs at ys ≡ over xs at ys
placed_over xs ys at h = cond-false (ltb (length xs) (at + length ys)) xs (over xs at ys) (le-ltb (length xs) (at + length ys) h)

-- two writes, one behind the other, are one
over_over : (xs ys zs : List ℕ) (at : ℕ) → at + length ys + length zs ≤ length xs → over (over xs at ys) (at + length ys) zs ≡ over xs at (ys ++ zs)
over_over xs ys zs at h =
    pasted (over xs at ys) zs (at + length ys) (length zs) refl ∙ ap (λ (l : List ℕ). paste l (at + length ys) zs (length zs)) (pasted xs ys at (length ys) refl) ∙
    paste-paste xs at ys zs (length ys) (length zs) refl refl (omega arith) ∙ sym (pasted xs (ys ++ zs) at (length ys + length zs) (sym (length-append ys zs)))

pub length_over : (xs ys : List ℕ) (at : ℕ) → at + length ys ≤ length xs → length (over xs at ys) ≡ length xs
length_over xs ys at h = ap length (pasted xs ys at (length ys) refl) ∙ length-paste xs at ys (length ys) h (omega arith)

pub placed_placed : (xs ys zs : List ℕ) (at : ℕ) → at + length ys + length zs ≤ length xs → placed_at (placed_at xs at ys) (at + length ys) zs ≡ placed_at xs at (ys ++ zs)
placed_placed xs ys zs at h =
    ap (λ (l : List ℕ). placed_at l (at + length ys) zs) (placed_over xs ys at (omega arith)) ∙ placed_over (over xs at ys) zs (at + length ys) (omega (arith, length_over xs ys at (omega arith))) ∙ over_over xs ys zs at h ∙
    sym (placed_over xs (ys ++ zs) at (omega (arith, length-append ys zs)))

-- a write, and what is left to write behind it
pub placed_next : (xs is ys front back : List ℕ) (at next : ℕ) → ys ≡ front ++ back → at + length ys ≤ length xs → is ≡ placed_at xs at front → next ≡ at + length front → placed_at is next back ≡ placed_at xs at ys
placed_next xs is ys front back at next e room w n =
    let long = ap length e ∙ length-append front back in
    ap (λ (l : List ℕ). placed_at l next back) w ∙ ap (λ (m : ℕ). placed_at (placed_at xs at front) m back) n ∙ placed_placed xs front back at (omega arith) ∙ ap (placed_at xs at) (sym e)

-- nothing written
pub placed_nothing : (xs ys : List ℕ) (at : ℕ) → ys ≡ [] → at ≤ length xs → placed_at xs at ys ≡ xs
placed_nothing xs ys at e h =
    ap (placed_at xs at) e ∙ placed_over xs [] at (omega arith) ∙ ap (λ (n : ℕ). take at xs ++ drop n xs) (add-zero at) ∙ take-append-drop at xs
