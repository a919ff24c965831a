-- A log filled place by place.
use Rattle.std.proofs.Common.{◌≡◌, ℕ, zero, suc, ◌+◌, ◌<◌, ◌≤◌, Bool, true, ltb, List, [], ◌∷◌, ◌++◌, length, take, drop, set, Some, None, sym, refl, ap, ◌∙◌, add-zero, arith}
use Rattle.wire.proofs.Turns.{front_all}
use Rattle.wire.specs.Bytes.{Read}
use Rattle.wire.specs.Several.{after, first, front, made}
use Rattle.entries.specs.Entries.{entries_in, found_of, judged_of, laid, loaded_into, log_of, read_into, roomy, sound_too}
use Rattle.entry.specs.Entry.{entry_of}
use Rattle.entry.specs.declared.entry.Entry.{Entry}
use Rattle.wire.specs.declared.judged.Judged.{Judged}
use Rattle.std.proofs.lemmas.Bool.{cond-false, le-ltb}
use Rattle.std.proofs.lemmas.List.{append_assoc, drop-append-le, drop-set-lt, length-map, length-take-le, take-append-drop, take_more_set}

-- one entry at its place, and the others behind it
pub laid_more : (log : List Entry) (at : ℕ) (e : Entry) (es : List Entry) → at < length log → laid (at + 1) es (set log at e) ≡ laid at (e ∷ es) log
laid_more log at e es h =
    let n = at + 1 + length es in
    let k : n ≡ at + length (e ∷ es) = omega arith in
    ap (λ (l : List Entry). l ++ (es ++ drop n (set log at e))) (take_more_set log at e h) ∙ append_assoc (take at log) (e ∷ []) (es ++ drop n (set log at e)) ∙
    ap (λ (l : List Entry). take at log ++ (e ∷ (es ++ l))) (drop-set-lt n log at e (omega arith)) ∙ ap (λ (m : ℕ). take at log ++ (e ∷ (es ++ drop m log))) k

pub laid_none : (log : List Entry) (at : ℕ) → laid at [] log ≡ log
laid_none log at = ap (λ (n : ℕ). take at log ++ drop n log) (add-zero at) ∙ take-append-drop at log

-- entries laid into the first places of a log
laid_front : (log es : List Entry) (n : ℕ) → length es ≤ n → n ≤ length log → laid 0 es (take n log) ++ drop n log ≡ laid 0 es log
laid_front log es n few room =
    let k = 0 + length es in
    let long = length-take-le n log room in
    append_assoc es (drop k (take n log)) (drop n log) ∙ ap (λ (l : List Entry). es ++ l) (sym (drop-append-le k (take n log) (drop n log) (omega arith)) ∙ ap (drop k) (take-append-drop n log))

few_more : {A : Type 0} (n : ℕ) (more : List ℕ → List A) (o : Read A) → ((bs : List ℕ) → length (more bs) ≤ n) → length (first o (λ x bs. x ∷ more bs)) ≤ suc n
few_more n more None h = omega arith
few_more n more (Some p) h = let few = h p.1 in omega arith

-- as many as can be read of n are at most n
front_few : {A : Type 0} (reads : List ℕ → Read A) (n : ℕ) (bs : List ℕ) → length (front reads n bs) ≤ n
unfolding front
front_few reads zero bs = omega arith
front_few {A} reads (suc n) bs = few_more n (front reads n) (reads bs) (front_few reads n)

-- a log whose first places have what is read into them
pub loaded : (log places : List Entry) (n k : ℕ) (bs : List ℕ) → k ≡ n → n ≤ length log → places ≡ laid 0 (entries_in (front entry_of n bs)) (take k log) → places ++ drop k log ≡ loaded_into n log bs
loaded log places n k bs same room is =
    let es = entries_in (front entry_of n bs) in
    let few = front_few entry_of n bs in
    let long = length-map (front entry_of n bs) (λ (f : Judged Entry). f.value) in
    ap (λ (l : List Entry). l ++ drop k log) is ∙ laid_front log es k (omega arith) (omega arith) ∙ sym (cond-false (ltb (length log) n) log (laid 0 es log) (le-ltb (length log) n room))

-- where all are there, as many as can be read are all of them
pub loaded_all : (log : List Entry) (n : ℕ) (bs rest : List ℕ) (sound : Bool) → Some (sound, rest) ≡ judged_of n bs → loaded_into n log bs ≡ read_into n log bs
loaded_all log n bs rest sound e = go (found_of n bs) refl e where
  go : (o : Read (List (Judged Entry))) → found_of n bs ≡ o → Some (sound, rest) ≡ made (after sound_too true) o → loaded_into n log bs ≡ read_into n log bs
  go None is h = cc
  go (Some p) is h =
      let all = front_all entry_of n bs p.0 p.1 is in
      ap (λ (fs : List (Judged Entry)). roomy n log (laid 0 (entries_in fs) log) log) all ∙ sym (ap (λ (o : Read (List (Judged Entry))). roomy n log (log_of o log) log) is)
