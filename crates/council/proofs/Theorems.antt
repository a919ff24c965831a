-- The theorems, as they are promised.
use Rattle.std.proofs.Common.{ℕ, suc, ◌<◌, ◌⊎◌, List, [], refl, ◌∙◌, inl, inr, arith}
use Rattle.council.proofs.Books.{each_once_from, same_word_from}
use Rattle.council.proofs.Carry.{carried}
use Rattle.council.proofs.Changes.{Later}
use Rattle.council.proofs.Joining.{joins}
use Rattle.council.proofs.More.{past_more}
use Rattle.council.proofs.Prefixes.{line_of, pre_refl, pre_trans}
use Rattle.council.proofs.Safe.{later_on, run_on, safe, upto_trans}
use Rattle.council.proofs.Settle.{known_on, one_log, settled}
use Rattle.council.proofs.Tidies.{tidy_close}
use Rattle.council.specs.Log.{Line, Prefix}
use Rattle.council.specs.Promises.{Carried, EachOnce, Grows, KeepsWord, Kept, Main, NextCouncil, OneBallot, Part, Past, SameCouncil, SameWord, TookSent}
use Rattle.council.specs.Quorum.{Members}
use Rattle.council.specs.Rules.{Log, Net, Reach, Run, Station, Step, known}
use Rattle.entry.specs.declared.entry.Entry.{Entry}

pub one_ballot : OneBallot
one_ballot ms sound n r = (safe r).line

pub took_sent : TookSent
took_sent ms sound n r t b j c m = ((safe r).good _ m).took

-- what is kept up to a step, and by it
kept_later : {s u v : Station} → (s.term < u.term) ⊎ Kept s u → Later u v → (s.term < v.term) ⊎ Kept s v
kept_later (inl h) (inl k) = inl (omega arith)
kept_later (inl h) (inr k) = inl (omega arith)
kept_later (inr h) (inl k) = inl (omega arith)
kept_later (inr h) (inr k) =
    inr (record { term = h.term ∙ k.term; old = h.old ∙ k.old; members = h.members ∙ k.members; promised = omega arith; took = upto_trans h.took k.took; sure = omega arith })

kept_on : {ms : Members} {n m : Net} → Reach ms n → Run n m → (i : ℕ) → ((n.station i).term < (m.station i).term) ⊎ Kept (n.station i) (m.station i)
kept_on r Run.none i = inr (record { term = refl; old = refl; members = refl; promised = omega arith; took = inr (refl, omega arith); sure = omega arith })
kept_on r (Run.more j q s) i = kept_later (kept_on r q i) (later_on (safe (run_on r q)) s i)

pub keeps_word : KeepsWord
keeps_word ms sound n m r q = kept_on r q

pub carried_law : Carried
carried_law ms sound n r t b d k l high T out fits m lower = carried (safe r) (settled r).one (suc d) t b k d l high (omega arith) T out fits m lower

-- a past stays one as more is sent
past_step : {ms : Members} {may : Entry → Type 0} {i t : ℕ} {n m : Net} {o : List Entry} {cs : Members} → Step may i n m → Past ms n.air t o cs → Past ms m.air t o cs
past_step (Step.step {new = new} L) P = past_more new P

past_on : {ms : Members} {t : ℕ} {n m : Net} {o : List Entry} {cs : Members} → Run n m → Past ms n.air t o cs → Past ms m.air t o cs
past_on Run.none P = P
past_on (Run.more i q s) P = past_step s (past_on q P)

pub same_council : SameCouncil
same_council ms sound n m r q i j e =
    let later = run_on r q in
    (settled later).one (m.station j).term _ _ _ _ (rw e at (past_on q ((safe r).own i).past)) ((safe later).own j).past

pub next_council : NextCouncil
next_council ms sound n r t o cs m =
    let E = (settled r).ended t o cs m in
    (E, (tidy_close E.before [] ((safe r).good (Log E.prev E.ballot _) E.out).tidy refl E.closes).1)

known_run : {ms : Members} {n m : Net} → Reach ms n → Run n m → (i : ℕ) → Prefix (known (n.station i)) (known (m.station i))
known_run {n = n} r Run.none i = pre_refl (known (n.station i))
known_run r (Run.more j q s) i = let before = run_on r q in pre_trans (known_run r q i) (known_on (safe before) (settled before) s i)

pub grows : Grows
grows ms sound n m r q = known_run r q

-- at the later moment, and what was known before is known then
pub main : Main
main ms sound n m r q i j =
    let S = safe (run_on r q) in
    let K = settled (run_on r q) in
    go (one_log S K.one K.ended (S.own i) (K.sure i) (S.own j) (K.sure j))
  where
    go : Line (known (m.station i)) (known (m.station j)) → Line (known (n.station i)) (known (m.station j))
    go (inl p) = inl (pre_trans (known_run r q i) p)
    go (inr p) = line_of (known_run r q i) p

pub part : Part
part ms sound n r j b p l = joins (safe r) (settled r).one ((safe r).own j) ((settled r).sure j)

pub same_word : SameWord
same_word = same_word_from main

pub each_once : EachOnce
each_once = each_once_from main grows
