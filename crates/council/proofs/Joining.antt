-- A part of a log that joins what a station has is read as the whole log.
use Rattle.std.proofs.Common.{◌≡◌, ℕ, ◌<◌, ◌≤◌, ◌⊎◌, List, ◌++◌, length, take, drop, sym, ap, ◌∙◌, inl, inr, arith}
use Rattle.council.proofs.Carry.{chosen_same, line_same}
use Rattle.council.proofs.Chosen.{Decided, OnePast, Sure}
use Rattle.council.proofs.State.{Held, Own, Safe}
use Rattle.council.specs.Quorum.{Members}
use Rattle.council.specs.Rules.{Log, Msg, Station, ◌∈◌}
use Rattle.entry.specs.declared.entry.Entry.{Entry}
use Rattle.std.proofs.lemmas.List.{take-append-drop, take-take}

pub joins : {ms : Members} {f : ℕ → Station} {air : List Msg} {i : ℕ} {s : Station} {b p : ℕ} {l : List Entry} →
    Safe ms f air → OnePast ms air → Own ms i air s → Sure ms air s →
    Log s.term b l ∈ air → p ≤ length l → ((s.ballot ≡ b) × (p ≤ length s.log)) ⊎ ((s.ballot < b) × (p ≤ s.sure)) → take p s.log ++ drop p l ≡ l
joins {ms} {air = air} {s = s} {b = b} {p = p} {l = l} S one w W out fits way = ap (λ (k : List Entry). k ++ drop p l) (same way) ∙ take-append-drop p l
  where
    -- its log is of the same ballot
    held : s.ballot ≡ b → p ≤ length s.log → Held air s.term s.ballot s.log → take p s.log ≡ take p l
    held e h (inl none) = absurd (omega (arith, (S.good (Log s.term b l) out).pos))
    held e h (inr m) = line_same p (S.line s.term b s.log l (rw (← e) m) out) h fits

    -- what it is sure of begins the logs of higher ballots
    sure : s.ballot < b → p ≤ s.sure → (s.sure ≡ 0) ⊎ Decided ms air s → take p s.log ≡ take p l
    sure h q (inl none) = let z : p ≡ 0 = omega arith in rw z
    sure h q (inr D) =
        sym (take-take p s.sure s.log q) ∙ ap (take p) (D.same ∙ (chosen_same S one D.chosen out (inl (omega arith))).1) ∙ take-take p s.sure l q

    same : ((s.ballot ≡ b) × (p ≤ length s.log)) ⊎ ((s.ballot < b) × (p ≤ s.sure)) → take p s.log ≡ take p l
    same (inl x) = held x.0 x.1 w.holds
    same (inr x) = sure x.0 x.1 W.why
