-- What is decided in a ballot stands in every log of a higher one.
-- All of it holds at one moment, by what was sent until then; no step is looked at.
use Rattle.std.proofs.Common.{◌≡◌, ℕ, zero, suc, ◌<◌, ◌≤◌, ◌⊎◌, List, length, take, sym, refl, ◌∙◌, inl, inr, arith}
use Rattle.council.proofs.Chosen.{Chosen, OnePast}
use Rattle.council.proofs.Meeting.{meet}
use Rattle.council.proofs.Prefixes.{line_of, line_take, pre_length, pre_of, pre_take, pre_trans, take_pre}
use Rattle.council.proofs.Safe.{upto_trans}
use Rattle.council.proofs.State.{Backed, GoodPromise, Held, Safe}
use Rattle.council.specs.Log.{Line, Prefix}
use Rattle.council.specs.Promises.{Taken}
use Rattle.council.specs.Quorum.{Members, IsMember}
use Rattle.council.specs.Rules.{Log, Msg, Promise, Station, Upto, ◌∈◌}
use Rattle.entry.specs.declared.entry.Entry.{Entry}
use Rattle.std.proofs.lemmas.List.{length-take-le, take-take}
use Rattle.std.proofs.lemmas.Bool.{cases_order}

-- two logs in line have the same entries as far as both go
pub line_same : {a b : List Entry} (k : ℕ) → Line a b → k ≤ length a → k ≤ length b → take k a ≡ take k b
line_same k (inl p) g h = take_pre k p g
line_same k (inr p) g h = sym (take_pre k p h)

module _ {ms : Members} {f : ℕ → Station} {air : List Msg} (S : Safe ms f air) (one : OnePast ms air) where
  -- A member that took, and then promised, told its log: the highest log among the promises is no lower than what most took. Here quorums meet.
  top_has : {t b k d : ℕ} {r : List Entry} → Taken ms air t b k → (B : Backed ms air t d r) → b < d → Upto b k B.had (length B.top)
  top_has {t} {b} {k} {d} T B lower = told (meet T.most (rw same B.most))
    where
      same : T.cs ≡ B.cs
      same = (one t _ _ _ _ T.past B.past).1

      told : (j : ℕ) × IsMember j T.cs × IsMember j T.qs × IsMember j B.qs → Upto b k B.had (length B.top)
      told m =
          let took = T.each m.0 m.1 m.2 in
          let heard = B.each m.0 (rw same at m.1) m.3 in
          upto_trans (upto_trans (inr (refl, took.many)) (S.votes t d m.0 _ _ b _ heard.given took.said lower)) heard.upto

  -- logs of one ballot
  in_ballot : {t b k d : ℕ} {l r : List Entry} → Log t b l ∈ air → k ≤ length l → Log t d r ∈ air → (b ≡ d) × (k ≤ length r) → Prefix (take k l) r
  in_ballot {t} {b} {k} {d} {l} {r} out fits other same =
      pre_trans (pre_of (line_same k (S.line t b l r out (rw same.0 other)) fits same.1)) (pre_take k r)

  -- by induction on the higher ballot: its log goes on from the highest log that was promised, which is of a lower ballot
  pub carried : (fuel t b k d : ℕ) (l r : List Entry) → d < fuel → Taken ms air t b k → Log t b l ∈ air → k ≤ length l → Log t d r ∈ air → b < d →
      Prefix (take k l) r
  carried zero t b k d l r small T out fits high lower = absurd (omega arith)
  carried (suc fuel) t b k d l r small T out fits high lower =
      pre_trans (go (carried fuel t b k B.had l B.top (omega (arith, P.below)) T out fits) (top_has T B lower) P.held) B.pre
    where
      B : Backed ms air t d r
      B = (S.good (Log t d r) high).backed

      P : GoodPromise f air t d B.from B.had B.top
      P = S.good (Promise t d B.from B.had B.top) B.given

      go : (Log t B.had B.top ∈ air → b < B.had → Prefix (take k l) B.top) →
          Upto b k B.had (length B.top) → Held air t B.had B.top → Prefix (take k l) B.top
      go below (inl u) (inl h) = absurd (omega arith)
      go below (inl u) (inr m) = below m u
      go below (inr u) (inl h) = absurd (omega (arith, (S.good (Log t b l) out).pos))
      go below (inr u) (inr m) = in_ballot out fits m u

  -- what is decided begins every log that is no lower
  chosen_in : {t b k d : ℕ} {l r : List Entry} → Chosen ms air t b k l → Log t d r ∈ air → Upto b k d (length r) → Prefix (take k l) r
  chosen_in {t} {b} {k} {d} {l} {r} C out (inl lower) = carried (suc d) t b k d l r (omega arith) C.taken C.out C.fits out lower
  chosen_in C out (inr same) = in_ballot C.out C.fits out same

  pub chosen_same : {t b k d : ℕ} {l r : List Entry} → Chosen ms air t b k l → Log t d r ∈ air → Upto b k d (length r) → (k ≤ length r) × (take k l ≡ take k r)
  chosen_same {k = k} {l = l} C out u =
      let p = chosen_in C out u in
      let fits = C.fits in
      let long = length-take-le k l fits in
      (omega (arith, pre_length p), sym (take-take k k l (omega arith)) ∙ take_pre k p (omega arith))

  -- of two decided beginnings, one is a beginning of the other
  pub agree : {t b k d h : ℕ} {l r : List Entry} → Chosen ms air t b k l → Chosen ms air t d h r → Line (take k l) (take h r)
  agree {t} {b} {k} {d} {h} {l} {r} C D = go (cases_order b d)
    where
      go : (b ≡ d) ⊎ ((b < d) ⊎ (d < b)) → Line (take k l) (take h r)
      go (inl e) = line_take k h (S.line t b l r C.out (rw e D.out))
      go (inr (inl lower)) = line_of (chosen_in C D.out (inl lower)) (pre_take h r)
      go (inr (inr higher)) = line_of (pre_take k l) (chosen_in D C.out (inl higher))
