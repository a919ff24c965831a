-- Nobody is stuck: most members of a council can by themselves bring a request into what each of them knows.
use Rattle.std.proofs.Common.{◌≡◌, ℕ, ◌+◌, ◌%◌, ◌^◌, ◌<◌, ◌≤◌, true, false, ◌⊎◌, List, [], ◌∷◌, ◌++◌, length, sym, refl, ap, ◌∙◌, inl, inr, arith}
use Rattle.council.proofs.Moves.{past_begin}
use Rattle.council.proofs.Phases.{Coming, Knows, Led, Ready, ask, close, come, decide, give, lead, propose, taken}
use Rattle.council.proofs.Runs.{Arrives, Voter, path_more, reach_along}
use Rattle.council.proofs.Safe.{safe}
use Rattle.council.proofs.Settle.{settled}
use Rattle.council.proofs.State.{Tidy}
use Rattle.council.proofs.Theorems.{next_council}
use Rattle.council.proofs.Tidies.{tidy_closed, tidy_open}
use Rattle.council.specs.Log.{Closes, Follows, closed}
use Rattle.council.specs.Promises.{Brings, Lively, Nothing, OnlyThese, Passes, Past, Path}
use Rattle.council.specs.Quorum.{Members, Most, Sound}
use Rattle.council.specs.Rules.{Net, Reach}
use Rattle.entry.specs.declared.entry.Entry.{Entry}
use Rattle.entry.specs.declared.entry.Entry.TheVariants.{Close}
use Rattle.std.proofs.lemmas.List.{append_assoc, take_all}
use Rattle.std.proofs.lemmas.Bool.{cases_Bool, cases_lt}

-- every council is sound
past_sound : {ms : Members} {n : Net} {t : ℕ} {o : List Entry} {cs : Members} → Sound ms → Reach ms n → Past ms n.air t o cs → Sound cs
past_sound sound r Past.first = sound
past_sound sound r (Past.after m) = (next_council _ sound _ r _ _ _ m).1

nil_open : closed [] ≡ false
unfolding closed
nil_open = refl

-- a close to the same council may stand in the last place
close_follows : {l : List Entry} {cs : Members} → closed l ≡ false → length l ≡ 4095 → Sound cs → Follows l (Close cs)
close_follows {cs = cs} c h sound = record { unclosed = c; room = inr (h, refl); council = λ ms q. let e : cs ≡ ms = cc q.to in rw e at sound }

module _ {ms cs qs : Members} {n : Net} {i b : ℕ} (r : Reach ms n) (sound : Sound cs) (most : Most cs qs) (v : Voter cs qs i) (own : b % 16 ≡ i) (pos : 1 ≤ b) (fits : b < 2 ^ 32) where
  -- the ballot is asked for and promised, and i leads with some log
  led : {may : Entry → Type 0} {t : ℕ} {Kind : List Entry → Type 0} → Arrives may cs qs n (λ air j s. Ready t b cs Kind s) → (l : List Entry) × Kind l × Arrives may cs qs n (Led i t b cs l)
  led c = lead sound v most pos (give sound v (ask sound v own fits c))

  -- all take the log that i leads with, and decide all of it
  sure_of : {may : Entry → Type 0} {t : ℕ} {l : List Entry} → Arrives may cs qs n (Led i t b cs l) → Arrives may cs qs n (λ air j s. Knows t l s)
  sure_of c = decide sound v r most (taken sound v c)

  -- an entry is proposed, and decided
  bring : {t : ℕ} {l : List Entry} {e : Entry} → closed l ≡ false → length l < 4095 → ((ds : Members) → Closes e ds → Sound ds) → Arrives (OnlyThese e cs) cs qs n (Led i t b cs l) → Brings qs cs n e
  bring {t} {l} {e} q h x c =
      let d = sure_of (propose sound v pos e (inl refl) (record { unclosed = q; room = inl h; council = x }) c) in
      record {
        end = d.end;
        path = d.path;
        each = λ j m a.
            let s = d.end.station j in
            let k = d.all j (record { member = m; acts = a }) in
            record {
              before = s.old ++ l;
              is = ap (λ (a : List Entry). s.old ++ a) (take_all s.sure s.log (omega (arith, ap length k.log)) ∙ k.log) ∙ sym (append_assoc s.old l (e ∷ []));
            };
      }

  -- by cases on the log that i leads with: closed, with room for the entry, or full but for a close, and then again in the next term
  go_on : {t : ℕ} {l : List Entry} {e : Entry} → t < 65535 → ((ds : Members) → Closes e ds → Sound ds) → Arrives Nothing cs qs n (Led i t b cs l) → Brings qs cs n e ⊎ Passes qs cs n t
  go_on {t} {l} {e} few x c = go (cases_Bool (closed l)) (cases_lt (length l) 4095)
    where
      tidy : Tidy l
      tidy = ((safe (reach_along r c.path)).good _ (c.all i v).out).tidy

      free : Arrives (OnlyThese e cs) cs qs n (Led i t b cs l)
      free = record { end = c.end; path = path_more (λ f y. absurd y) c.path; all = c.all }

      again : Arrives (OnlyThese e cs) cs qs n (λ air j s. Ready (t + 1) b cs (λ k. k ≡ []) s) → Brings qs cs n e
      again d = let f = led d in bring (ap closed f.1 ∙ nil_open) (omega (arith, ap length f.1)) x f.2

      go : (closed l ≡ true) ⊎ (closed l ≡ false) → (length l < 4095) ⊎ (4095 ≤ length l) → Brings qs cs n e ⊎ Passes qs cs n t
      go (inl q) h =
          let y = tidy_closed tidy q in
          let d = close sound v y.0 y.1 y.2 y.3 y.4 few pos (sure_of c) in
          inr (record { end = d.end; path = d.path; each = λ j m a. (d.all j (record { member = m; acts = a })).term })
      go (inr q) (inl h) = inl (bring q h x free)
      go (inr q) (inr h) =
          let full : length l ≡ 4095 = omega (arith, tidy_open tidy q) in
          let d = propose sound v pos (Close cs) (inr refl) (close_follows q full sound) free in
          inl (again (close sound v l (Close cs) cs refl (record { to = refl }) few pos (sure_of d)))

pub lively : Lively
lively ms sound n r t o cs qs past most low few i member acts b own pos fits above e names =
    let ok = past_sound sound r past in
    let v : Voter cs qs i = record { member = member; acts = acts } in
    go_on r ok most v own pos fits few names (led r ok most v own pos fits (come ok t o b cs (λ k. Unit {0}) pos tt start)).2
  where
    at : (j : ℕ) → Voter cs qs j → ((n.station j).term < t) ⊎ (t ≤ (n.station j).term) → Coming t o b cs (λ k. Unit {0}) n.air j (n.station j)
    at j v (inl h) = inl (h, past_begin past (omega arith))
    at j v (inr h) =
        let w = (safe r).own j in
        let q : (n.station j).term ≡ t = omega (arith, low j v.member v.acts) in
        let p = above j v.member v.acts q in
        inr (record { term = q; members = ((settled r).one t _ _ _ _ (rw q at w.past) past).1; promised = p; ballot = omega (arith, w.low); kind = tt })

    start : Arrives Nothing cs qs n (Coming t o b cs (λ k. Unit {0}))
    start = record { end = n; path = Path.none; all = λ j v. at j v (cases_lt _ t) }
