-- Definitions that stood in `specs/` before, and that those there now are the same: no contract changed its meaning with them.
use Rattle.std.proofs.Common.{◌≡◌, ℕ, zero, suc, ◌+◌, ◌≤◌, true, false, cond, ltb, List, [], ◌∷◌, ◌++◌, length, set, Some, None, sym, refl, ap, ◌∙◌, ⊎_elim, arith}
use Rattle.std.proofs.lemmas.Bool.{cases_Bool, cond-false, cond-true, ltb-false}
use Rattle.std.proofs.lemmas.List.{length-set}
use Rattle.wire.proofs.Turns.{made_then, several_length}
use Rattle.wire.specs.Bytes.{Read, ◌then◌}
use Rattle.wire.specs.Several.{after, joined, made, rest_of, several}
use Rattle.wire.specs.declared.judged.Judged.{Judged}
use Rattle.entry.specs.Entry.{entry_bytes, entry_of}
use Rattle.entry.specs.declared.entry.Entry.{Entry}
use Rattle.entries.proofs.Layers.{laid_more, laid_none}
use Rattle.entries.specs.Entries.{entries_bytes, entries_in, found_of, judged_of, laid, log_of, read_into, read_rest, roomy, sound_too}

-- n steps, each of which reads something and goes on from a state to the next
pub times : {S : Type 0} → (S → List ℕ → Read S) → ℕ → S → List ℕ → Read S
times step zero s bs = Some (s, bs)
times step (suc n) s bs = step s bs then λ s bs. times step n s bs

module _ {A S : Type 0} (reads : List ℕ → Read A) (step : S → A → S) where
  abbrev turn : S → List ℕ → Read S
  turn s bs = reads bs then λ x bs. Some (step s x, bs)

  first_turn : (n : ℕ) (s : S) (o : Read A) → ((t : S) (bs : List ℕ) → times turn n t bs ≡ made (after step t) (several reads n bs)) →
      ((o then λ x bs. Some (step s x, bs)) then λ t bs. times turn n t bs) ≡ (o then λ x bs. made (λ xs. after step s (x ∷ xs)) (several reads n bs))
  unfolding after
  first_turn n s None h = refl
  first_turn n s (Some p) h = h (step s p.0) p.1

  pub times_is : (n : ℕ) (s : S) (bs : List ℕ) → times turn n s bs ≡ made (after step s) (several reads n bs)
  unfolding after several times
  times_is zero s bs = refl
  times_is (suc n) s bs = first_turn n s (reads bs) (times_is n) ∙ sym (made_then (after step s) (reads bs) (several reads n))

-- n entries: whether all are in range
pub judged_is : (n : ℕ) (bs : List ℕ) → times (λ ok bs. entry_of bs then λ f bs. Some (sound_too ok f, bs)) n true bs ≡ judged_of n bs
judged_is n bs = times_is entry_of sound_too n true bs

-- a log that is being filled, and the next place in it
pub record Filling : Type 0 where
  pub at : ℕ
  pub log : List Entry

abbrev pub filling : ℕ → List Entry → Filling
filling at log = record { at = at; log = log }

abbrev pub fill : Filling → Judged Entry → Filling
fill w f = filling (w.at + 1) (set w.log w.at f.value)

abbrev pub filled_of : ℕ → List Entry → List ℕ → Read Filling
filled_of n log bs = times (λ w bs. entry_of bs then λ f bs. Some (fill w f, bs)) n (filling 0 log) bs

abbrev pub filled_log : Read Filling → List Entry → List Entry
filled_log None log = log
filled_log (Some p) log = p.0.log

fill_all : (fs : List (Judged Entry)) (at : ℕ) (log : List Entry) → at + length fs ≤ length log → (after fill (filling at log) fs).log ≡ laid at (entries_in fs) log
unfolding after
fill_all [] at log room = sym (laid_none log at)
fill_all (f ∷ fs) at log room =
    fill_all fs (at + 1) (set log at f.value) (let n = length-set log at f.value in omega arith) ∙ laid_more log at f.value (entries_in fs) (omega arith)

log_is : (n : ℕ) (log : List Entry) (o : Read (List (Judged Entry))) → ((fs : List (Judged Entry)) (rest : List ℕ) → o ≡ Some (fs, rest) → length fs ≡ n) → n ≤ length log →
    filled_log (made (after fill (filling 0 log)) o) log ≡ log_of o log
log_is n log None h room = refl
log_is n log (Some p) h room = let k = h p.0 p.1 refl in fill_all p.0 0 log (omega arith)

rest_is : (n : ℕ) (log : List Entry) (o : Read (List (Judged Entry))) → rest_of (made (after fill (filling 0 log)) o) ≡ rest_of o
rest_is n log None = refl
rest_is n log (Some p) = refl

roomy_same : {A : Type 0} (n : ℕ) (log : List Entry) (x y z : A) → (n ≤ length log → x ≡ y) → cond (ltb (length log) n) z x ≡ roomy n log y z
roomy_same n log x y z h =
    ⊎_elim (λ (b : ltb (length log) n ≡ true). cond-true (ltb (length log) n) z x b ∙ sym (cond-true (ltb (length log) n) z y b))
    (λ (b : ltb (length log) n ≡ false). cond-false (ltb (length log) n) z x b ∙ h (ltb-false (length log) n b) ∙ sym (cond-false (ltb (length log) n) z y b)) (cases_Bool (ltb (length log) n))

-- n entries read into a log, and the bytes behind them
pub read_into_is : (n : ℕ) (log : List Entry) (bs : List ℕ) → cond (ltb (length log) n) log (filled_log (filled_of n log bs) log) ≡ read_into n log bs
read_into_is n log bs =
    roomy_same n log _ _ log (λ room.
    ap (λ (o : Read Filling). filled_log o log) (times_is entry_of fill n (filling 0 log) bs) ∙ log_is n log (found_of n bs) (several_length entry_of n bs) room)

pub read_rest_is : (n : ℕ) (log : List Entry) (bs : List ℕ) → cond (ltb (length log) n) None (rest_of (filled_of n log bs)) ≡ read_rest n log bs
read_rest_is n log bs = roomy_same n log _ _ None (λ room. ap rest_of (times_is entry_of fill n (filling 0 log) bs) ∙ rest_is n log (found_of n bs))

-- the bytes of some entries
pub listed_bytes : List Entry → List ℕ
listed_bytes [] = []
listed_bytes (e ∷ es) = entry_bytes e ++ listed_bytes es

pub entries_joined : (es : List Entry) → listed_bytes es ≡ entries_bytes es
unfolding joined listed_bytes
entries_joined [] = refl
entries_joined (e ∷ es) = ap (λ (l : List ℕ). entry_bytes e ++ l) (entries_joined es)
