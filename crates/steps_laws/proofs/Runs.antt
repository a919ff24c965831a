-- Whatever happens is a run of the rules.
use Rattle.std.proofs.Common.{◌≡◌, ℕ, Bool, true, false, cond, eqb, ◌⊎◌, List, [], ◌∷◌, ◌++◌, sym, refl, ◌∙◌, subst, inl, inr, arith}
use Rattle.council.proofs.Safe.{run_on, safe}
use Rattle.council.proofs.State.{Held, Tidy}
use Rattle.council.proofs.Theorems.{part}
use Rattle.council.specs.Quorum.{Members, Sound}
use Rattle.council.specs.Rules.{Anything, Local, Msg, Net, Reach, Run, Station, Step, put, opening as beginning}
use Rattle.entry.specs.declared.entry.Entry.{Entry}
use Rattle.message.specs.Letter.{Letter}
use Rattle.std.proofs.lemmas.Bool.{eqb-true}
use Rattle.std.specs.List.{AllByRecursion}
use Rattle.steps.specs.Steps.{Done, Outcome, Refused, View}
use Rattle.steps_laws.proofs.Bits.{none_said}
use Rattle.steps_laws.proofs.Keep.{none_live}
use Rattle.steps_laws.proofs.Refine.{Facts, right}
use Rattle.steps_laws.proofs.Stands.{Moved, Right, Stands, all_append, all_mean_more, stands_more, station_of}
use Rattle.steps_laws.specs.Laws.{Means}
use Rattle.steps_laws.specs.World.{Happening, World, after, happened, happens, opening, run}
use Rattle.store.specs.Store.{bare}

-- a view, as station i of a net
pub record Sits (air : List Msg) (i : ℕ) (v : View) (s : Station) : Type 0 where
  pub old : List Entry
  pub me : v.head.me ≡ i
  pub is : s ≡ station_of v old
  pub stands : Stands air v old

-- a world, as a net that the rules reach
pub record Fine (ms : Members) (w : World) : Type 0 where
  pub net : Net
  pub reach : Reach ms net
  pub each : (i : ℕ) → Sits net.air i (w.view i) (net.station i)
  pub air : AllByRecursion (Means net.air) w.air

pub opened : (ms : Members) → Fine ms (opening ms)
opened ms =
    record {
      net = beginning ms;
      reach = Run.none;
      each = λ i.
          record {
            old = [];
            me = refl;
            is = refl;
            stands =
                record {
                  whole = record { len = refl; best = refl; fits = omega arith; live = none_live bare };
                  before = refl;
                  base = none_live bare;
                  gathers = λ h. absurd (omega arith);
                  said = none_said;
                };
          };
      air = tt;
    }

-- what the rules' theorems give
facts : {ms : Members} → Sound ms → {n : Net} → Reach ms n → (i : ℕ) → Facts n.air (n.station i)
facts {ms} sound {n} r i = record { tidy = tidy ((safe r).own i).holds; joins = part ms sound n r i }
  where
    tidy : Held n.air (n.station i).term (n.station i).ballot (n.station i).log → Tidy (n.station i).log
    tidy (inl e) = rw e.1 Tidy.nothing
    tidy (inr m) = ((safe r).good _ m).tidy

sits_more : {air : List Msg} {i : ℕ} {v : View} {s : Station} (new : List Msg) → Sits air i v s → Sits (new ++ air) i v s
sits_more new X = record { old = X.old; me = X.me; is = X.is; stands = stands_more new X.stands }

-- what was done at one station and at no other
abbrev pub Goes : Members → ℕ → Net → World → Type 0
Goes ms i n w = (F : Fine ms w) × ((F.net ≡ n) ⊎ Step Anything i n F.net)

module _ {ms : Members} {w : World} (F : Fine ms w) (i : ℕ) where
  -- the views after it
  moved : (u : View) (sent : List Letter) (f : ℕ → View) → ((j : ℕ) → f j ≡ cond (eqb j i) u (w.view j)) → Moved F.net.air (w.view i) (F.each i).old u sent →
      Goes ms i F.net (record { view = f; air = w.air ++ sent })
  moved u sent f at M = go M.move
    where
      n : Net
      n = F.net

      own : (new : List Msg) (s : Station) → s ≡ station_of u M.old → Stands (new ++ n.air) u M.old → (j : ℕ) → j ≡ i → Sits (new ++ n.air) j u s
      own new s e S j q = record { old = M.old; me = M.me ∙ (F.each i).me ∙ sym q; is = e; stands = S }

      all : (new : List Msg) (g : ℕ → Station) → ((j : ℕ) (c : Bool) → eqb j i ≡ c → Sits (new ++ n.air) j (cond c u (w.view j)) (g j)) → (j : ℕ) → Sits (new ++ n.air) j (f j) (g j)
      all new g h j = subst (λ (v : View). Sits (new ++ n.air) j v (g j)) (sym (at j)) (h j (eqb j i) refl)

      go : ((station_of u M.old ≡ station_of (w.view i) (F.each i).old) × (M.new ≡ [])) ⊎
          Local Anything (w.view i).head.me n.air (station_of (w.view i) (F.each i).old) (station_of u M.old) M.new →
          Goes ms i n (record { view = f; air = w.air ++ sent })
      go (inl x) = (
        record {
          net = n;
          reach = F.reach;
          each = all [] n.station here;
          air = all_append (Means n.air) w.air sent F.air (subst (λ (new : List Msg). AllByRecursion (Means (new ++ n.air)) sent) x.1 M.means);
        },
        inl refl,
      )
        where
          here : (j : ℕ) (c : Bool) → eqb j i ≡ c → Sits n.air j (cond c u (w.view j)) (n.station j)
          here j true e =
              let q = eqb-true j i e in
              own [] (n.station j) (subst (λ (k : ℕ). n.station k ≡ station_of (w.view i) (F.each i).old) (sym q) (F.each i).is ∙ sym x.0)
              (subst (λ (new : List Msg). Stands (new ++ n.air) u M.old) x.1 M.stands) j q
          here j false e = F.each j
      go (inr L) =
          let step = Step.step (subst (λ (s : Station). Local Anything i n.air s (station_of u M.old) M.new) (sym (F.each i).is)
          (subst (λ (k : ℕ). Local Anything k n.air (station_of (w.view i) (F.each i).old) (station_of u M.old) M.new) (F.each i).me L)) in (
            record {
              net = record { station = put i (station_of u M.old) n.station; air = M.new ++ n.air };
              reach = Run.more i F.reach step;
              each = all M.new (put i (station_of u M.old) n.station) here;
              air = all_append (Means (M.new ++ n.air)) w.air sent (all_mean_more n.air M.new w.air F.air) M.means;
            },
            inr step,
          )
        where
          there : (j : ℕ) (c : Bool) → eqb j i ≡ c → Sits (M.new ++ n.air) j (cond c u (w.view j)) (cond c (station_of u M.old) (n.station j))
          there j true e = own M.new (station_of u M.old) refl M.stands j (eqb-true j i e)
          there j false e = sits_more M.new (F.each j)

          here : (j : ℕ) (c : Bool) → eqb j i ≡ c → Sits (M.new ++ n.air) j (cond c u (w.view j)) (put i (station_of u M.old) n.station j)
          here j c e = subst (λ (d : Bool). Sits (M.new ++ n.air) j (cond c u (w.view j)) (cond d (station_of u M.old) (n.station j))) (sym e) (there j c e)

  goes_after : (x : Outcome) → Right F.net.air (w.view i) (F.each i).old x → Goes ms i F.net (after i x w)
  goes_after (Refused r begin) M = moved (w.view i) begin w.view (λ j. same j (eqb j i) refl) M
    where
      same : (j : ℕ) (c : Bool) → eqb j i ≡ c → w.view j ≡ cond c (w.view i) (w.view j)
      same j true e = rw (eqb-true j i e)
      same j false e = refl
  goes_after (Done u written sent) M = moved u sent (λ j. cond (eqb j i) u (w.view j)) (λ j. refl) M

  pub goes : Sound ms → (x : Happening) → Goes ms i F.net (happened i x w)
  goes sound x =
      goes_after (happens x w.air (w.view i))
      (right (F.each i).stands (subst (Facts F.net.air) (F.each i).is (facts sound F.reach i)) w.air F.air x)

-- one happening after the other
step_run : {i : ℕ} {n m : Net} → (m ≡ n) ⊎ Step Anything i n m → Run n m
step_run {n = n} (inl e) = subst (λ (m : Net). Run n m) (sym e) Run.none
step_run {i = i} (inr s) = Run.more i Run.none s

pub runs : {ms : Members} → Sound ms → (xs : List (ℕ × Happening)) {w : World} (F : Fine ms w) → (G : Fine ms (run xs w)) × Run F.net G.net
runs sound [] F = (F, Run.none)
runs sound (x ∷ xs) F =
    let g = goes F x.0 sound x.1 in
    let r = runs sound xs g.0 in
    (r.0, run_on (step_run g.1) r.1)
