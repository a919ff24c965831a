-- Lines played one after the other: what is printed and what the lines left will print make the whole.
use Rattle.std.proofs.Common.{◌≡◌, ℕ, ◌+◌, ◌<◌, eqb, List, [], ◌∷◌, ◌++◌, inl, inr, length, get_or, drop, refl, sym, ap, ◌∙◌, arith}
use Rattle.script.specs.Rehearsal.{after, printed, transcript}
use Rattle.std.proofs.lemmas.List.{append_assoc, append-nil, at_drop_all, at_drop_more}
use Rattle.std.specs.List.{enumerate_from, slice_split}
use Rattle.store.specs.Store.{Store}
use Rattle.text.proofs.Parts.{Ends, parts_end}
use Rattle.text.specs.Lines.{lines}

-- the parts of a script between bytes 10, each with its place, counted from 0
abbrev pub placed : List ℕ → List (ℕ × List ℕ)
placed script = enumerate_from 0 (slice_split (λ b. eqb b 10) script)

-- what they print
abbrev pub told : Store → List (ℕ × List ℕ) → List ℕ
told s [] = []
told s (p ∷ more) = printed (p.0 + 1) p.1 s ++ told (after p.1 s) more

told_is : (i : ℕ) (s : Store) (parts : List (List ℕ)) → told s (enumerate_from i parts) ≡ transcript (i + 1) s parts
told_is i s [] = refl
told_is i s (l ∷ more) = ap (λ (x : List ℕ). printed (i + 1) l s ++ x) (told_is (i + 1) (after l s) more)

-- an empty line at the end prints nothing
empty_end : (n : ℕ) (s : Store) (ls : List (List ℕ)) → transcript n s (ls ++ ([] ∷ [])) ≡ transcript n s ls
empty_end n s [] = refl
empty_end n s (l ∷ ls) = ap (λ (x : List ℕ). printed n l s ++ x) (empty_end (n + 1) (after l s) ls)

same_end : (n : ℕ) (s : Store) (parts ls : List (List ℕ)) → Ends parts ls → transcript n s parts ≡ transcript n s ls
same_end n s parts ls (inl e) = ap (transcript n s) e
same_end n s parts ls (inr e) = ap (transcript n s) e ∙ empty_end n s ls

told_all : (s : Store) (script : List ℕ) → told s (placed script) ≡ transcript 1 s (lines script)
told_all s script = told_is 0 s (slice_split (λ b. eqb b 10) script) ∙ same_end 1 s (slice_split (λ b. eqb b 10) script) (lines script) (parts_end script)

-- one line more, the i-th, where k are played and then j
pub told_more : (s t : Store) (ps : List (ℕ × List ℕ)) (i k j : ℕ) (line was is all : List ℕ) → (k < length ps) × ((i, line) ≡ get_or ps k (i, line)) → j ≡ k + 1 → t ≡ after line s → is ≡ was ++ printed (i + 1) line s
    → was ++ told s (drop k ps) ≡ all → is ++ told t (drop j ps) ≡ all
told_more s t ps i k j line was is all turn n a p inv =
    ap (λ (x : List ℕ). x ++ told t (drop j ps)) p ∙ append_assoc was (printed (i + 1) line s) (told t (drop j ps)) ∙
    ap (λ (m : ℕ). was ++ (printed (i + 1) line s ++ told t (drop m ps))) n ∙
    ap (λ (u : Store). was ++ (printed (i + 1) line s ++ told u (drop (k + 1) ps))) a ∙
    ap (λ (q : ℕ × List ℕ). was ++ told s (q ∷ drop (k + 1) ps)) turn.1 ∙
    sym (ap (λ (x : List ℕ). was ++ x) (at_drop_more (told s) ps k (i, line) turn.0)) ∙ inv

pub told_end : (s t : Store) (script : List ℕ) (k : ℕ) (is : List ℕ) → k ≡ length (placed script) → is ++ told t (drop k (placed script)) ≡ told s (placed script) → is ≡ transcript 1 s (lines script)
told_end s t script k is n inv =
    sym (append-nil is) ∙ sym (ap (λ (x : List ℕ). is ++ x) (at_drop_all (told t) (placed script) k (omega (arith, n)))) ∙ inv ∙ told_all s script
