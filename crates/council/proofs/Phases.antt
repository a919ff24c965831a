-- How voters, by themselves, come to decide a log: they enter a term, one asks for a ballot, all promise it, that one leads, may propose, all take, it decides.
use Rattle.std.proofs.Common.{◌≡◌, ℕ, zero, suc, ◌+◌, ◌%◌, ◌^◌, ◌<◌, ◌≤◌, cond, eqb, ◌⊎◌, List, [], ◌∷◌, ◌++◌, length, sym, refl, ap, ◌∙◌, inl, inr, arith}
use Rattle.council.proofs.Runs.{Arrives, Lasts, Says, Turn, Voter, below_16, every, one, reach_along, so, voter_or_not}
use Rattle.council.proofs.Safe.{upto_trans}
use Rattle.council.proofs.Settle.{settled}
use Rattle.council.specs.Log.{Closes, Follows}
use Rattle.council.specs.Quorum.{Members, Most, Sound}
use Rattle.council.specs.Rules.{Ask, Begin, Heard, Local, Log, Msg, Net, Promise, Reach, Station, Took, Upto, ◌∈◌, asked, decided, entered, followed, gave, grew, leads}
use Rattle.entry.specs.declared.entry.Entry.{Entry}
use Rattle.std.proofs.lemmas.List.{length_push}
use Rattle.std.proofs.lemmas.Bool.{cases_eq, cases_lt, cases_order, cond-true, eq-eqb}
use mathlib.Core.List.Memᴰ

-- in a term, with a ballot still to be promised, and a log of a kind
pub record Ready (t b : ℕ) (ds : Members) (Kind : List Entry → Type 0) (s : Station) : Type 0 where
  pub term : s.term ≡ t
  pub members : s.members ≡ ds
  pub promised : s.promised < b
  pub ballot : s.ballot < b
  pub kind : Kind s.log

-- behind, with a begin to hear, or there
abbrev pub Coming : ℕ → List Entry → ℕ → Members → (List Entry → Type 0) → Says
Coming t o b ds Kind air j s = ((s.term < t) × (Begin t o ds ∈ air)) ⊎ Ready t b ds Kind s

-- nothing above the ballot was promised or taken, and station i asks for it
pub record Waits (i t b : ℕ) (ds : Members) (j : ℕ) (s : Station) : Type 0 where
  pub term : s.term ≡ t
  pub members : s.members ≡ ds
  pub promised : s.promised ≤ b
  pub ballot : s.ballot < b
  pub asks : j ≡ i → (s.asking ≡ b) × (s.promised ≡ b)

-- the ballot can be promised
pub record Asked (i t b : ℕ) (ds : Members) (Kind : List Entry → Type 0) (air : List Msg) (j : ℕ) (s : Station) : Type 0 where
  pub waits : Waits i t b ds j s
  pub kind : Kind s.log
  pub heard : Ask t b ∈ air

-- the ballot was promised, with a log
pub record Given (i t b : ℕ) (ds : Members) (Kind : List Entry → Type 0) (air : List Msg) (j : ℕ) (s : Station) : Type 0 where
  pub waits : Waits i t b ds j s
  pub was : ℕ
  pub log : List Entry
  pub kind : Kind log
  pub given : Promise t b j was log ∈ air

-- the highest log among the promises of voters below k
record Best (cs qs : Members) (t b : ℕ) (Kind : List Entry → Type 0) (air : List Msg) (k : ℕ) : Type 0 where
  pub from : ℕ
  pub had : ℕ
  pub log : List Entry
  pub kind : Kind log
  pub given : Promise t b from had log ∈ air
  pub each : (j : ℕ) → Voter cs qs j → j < k → Heard air t b j had (length log)

-- the leader, with its log
pub record Leads (b : ℕ) (l : List Entry) (s : Station) : Type 0 where
  pub promised : s.promised ≡ b
  pub ballot : s.ballot ≡ b
  pub log : s.log ≡ l
  pub leading : s.leading ≡ b

-- station i leads with a log, which all can take
pub record Led (i t b : ℕ) (ds : Members) (l : List Entry) (air : List Msg) (j : ℕ) (s : Station) : Type 0 where
  pub term : s.term ≡ t
  pub members : s.members ≡ ds
  pub promised : s.promised ≤ b
  pub upto : Upto s.ballot (length s.log) b (length l)
  pub out : Log t b l ∈ air
  pub leads : j ≡ i → Leads b l s

-- the log was taken
pub record Has (t b : ℕ) (ds : Members) (l : List Entry) (air : List Msg) (j : ℕ) (s : Station) : Type 0 where
  pub term : s.term ≡ t
  pub members : s.members ≡ ds
  pub ballot : s.ballot ≡ b
  pub log : s.log ≡ l
  pub said : Took t b j (length l) ∈ air

-- the log can be decided
pub record Can (cs qs : Members) (t b : ℕ) (l : List Entry) (air : List Msg) (j : ℕ) (s : Station) : Type 0 where
  pub term : s.term ≡ t
  pub members : s.members ≡ cs
  pub ballot : s.ballot ≡ b
  pub log : s.log ≡ l
  pub sure : s.sure ≤ length l
  pub each : (k : ℕ) → Voter cs qs k → Took t b k (length l) ∈ air

-- all of the log is sure
pub record Knows (t : ℕ) (l : List Entry) (s : Station) : Type 0 where
  pub term : s.term ≡ t
  pub log : s.log ≡ l
  pub sure : s.sure ≡ length l

-- what a station asks for stays when it promises that
kept : (x b : ℕ) → x ≡ b → cond (eqb x b) x 0 ≡ b
kept x b e = cond-true (eqb x b) x 0 (eq-eqb x b e) ∙ e

-- of two one is no higher than the other
upto_either : (b c d e : ℕ) → Upto b c d e ⊎ Upto d e b c
upto_either b c d e = go (cases_order b d) (cases_lt c e)
  where
    go : (b ≡ d) ⊎ ((b < d) ⊎ (d < b)) → (c < e) ⊎ (e ≤ c) → Upto b c d e ⊎ Upto d e b c
    go (inl q) (inl h) = inl (inr (omega arith))
    go (inl q) (inr h) = inr (inr (omega arith))
    go (inr (inl q)) h = inl (inl q)
    go (inr (inr q)) h = inr (inl q)

-- one more voter's promise
best_next : {cs qs : Members} {t b k : ℕ} {Kind : List Entry → Type 0} {air : List Msg} (h : Best cs qs t b Kind air k) → (Voter cs qs k → Heard air t b k h.had (length h.log)) →
    Best cs qs t b Kind air (suc k)
best_next {cs} {qs} {t} {b} {k} {Kind} {air} h p =
    record { from = h.from; had = h.had; log = h.log; kind = h.kind; given = h.given; each = λ j v x. go j v x (cases_eq j k) }
  where
    go : (j : ℕ) → Voter cs qs j → j < suc k → (j ≡ k) ⊎ (j ≡ k → ⊥) → Heard air t b j h.had (length h.log)
    go j v x (inl e) = rw e (p (rw e at v))
    go j v x (inr y) = h.each j v (omega arith)

module _ {may : Entry → Type 0} {cs qs : Members} {n : Net} (sound : Sound cs) where
  -- all enter the term
  pub come : (t : ℕ) (o : List Entry) (b : ℕ) (ds : Members) (Kind : List Entry → Type 0) → 1 ≤ b → Kind [] →
      Arrives may cs qs n (Coming t o b ds Kind) → Arrives may cs qs n (λ air j s. Ready t b ds Kind s)
  come t o b ds Kind pos none = every (Coming t o b ds Kind) (λ air j s. Ready t b ds Kind s) sound lasts (λ new air j s r. r) act
    where
      lasts : Lasts (Coming t o b ds Kind)
      lasts new air j s (inl h) = inl (h.0, Memᴰ.append_right new h.1)
      lasts new air j s (inr r) = inr r

      act : (air : List Msg) (j : ℕ) (s : Station) → Voter cs qs j → Coming t o b ds Kind air j s → Ready t b ds Kind s ⊎ Turn may (λ air j s. Ready t b ds Kind s) air j s
      act air j s v (inr r) = inl r
      act air j s v (inl h) =
          inr (record {
            next = entered t o ds;
            new = [];
            does = Local.enter t o ds h.1 h.0;
            gives = record { term = refl; members = refl; promised = pos; ballot = pos; kind = none };
          })

  module _ {i t b : ℕ} {Kind : List Entry → Type 0} (v : Voter cs qs i) where
    -- station i asks
    pub ask : b % 16 ≡ i → b < 2 ^ 32 → Arrives may cs qs n (λ air j s. Ready t b cs Kind s) → Arrives may cs qs n (Asked i t b cs Kind)
    ask own fits c =
        let s = c.end.station i in
        let r = c.all i v in
        let heard : Ask t b ∈ (Ask s.term b ∷ c.end.air) = Memᴰ.head (ap (λ (x : ℕ). Ask x b) (sym r.term)) in
        one c v (record {
          next = asked b s;
          new = Ask s.term b ∷ [];
          does = Local.ask b (rw r.members v.member) own r.promised fits;
          gives = record {
            waits = record { term = r.term; members = r.members; promised = omega arith; ballot = r.ballot; asks = λ e. (refl, refl) };
            kind = r.kind;
            heard = heard;
          };
        })
        (λ j u x a. record {
          waits = record { term = a.term; members = a.members; promised = omega arith; ballot = a.ballot; asks = λ e. absurd (x e) };
          kind = a.kind;
          heard = heard;
        })

    -- all promise
    pub give : Arrives may cs qs n (Asked i t b cs Kind) → Arrives may cs qs n (Given i t b cs Kind)
    give = every (Asked i t b cs Kind) (Given i t b cs Kind) sound lasts lasts' act
      where
        lasts : Lasts (Asked i t b cs Kind)
        lasts new air j s a = record { waits = a.waits; kind = a.kind; heard = Memᴰ.append_right new a.heard }

        lasts' : Lasts (Given i t b cs Kind)
        lasts' new air j s g = record { waits = g.waits; was = g.was; log = g.log; kind = g.kind; given = Memᴰ.append_right new g.given }

        act : (air : List Msg) (j : ℕ) (s : Station) → Voter cs qs j → Asked i t b cs Kind air j s → Given i t b cs Kind air j s ⊎ Turn may (Given i t b cs Kind) air j s
        act air j s u a =
            let w = a.waits in
            inr (record {
              next = gave b s;
              new = Promise s.term b j s.ballot s.log ∷ [];
              does = Local.promise b (rw w.members u.member) (rw w.term a.heard) w.promised w.ballot;
              gives = record {
                waits = record { term = w.term; members = w.members; promised = omega arith; ballot = w.ballot; asks = λ e. (kept s.asking b (w.asks e).0, refl) };
                was = s.ballot;
                log = s.log;
                kind = a.kind;
                given = Memᴰ.head (ap (λ (x : ℕ). Promise x b j s.ballot s.log) (sym w.term));
              };
            })

    -- the highest log that was promised with
    best : (c : Arrives may cs qs n (Given i t b cs Kind)) (k : ℕ) → Best cs qs t b Kind c.end.air k
    best c zero = let g = c.all i v in record { from = i; had = g.was; log = g.log; kind = g.kind; given = g.given; each = λ j w x. absurd (omega arith) }
    best c (suc k) = go (best c k) (voter_or_not cs qs k)
      where
        pick : (h : Best cs qs t b Kind c.end.air k) (g : Given i t b cs Kind c.end.air k (c.end.station k)) →
            Upto g.was (length g.log) h.had (length h.log) ⊎ Upto h.had (length h.log) g.was (length g.log) → Best cs qs t b Kind c.end.air (suc k)
        pick h g (inl u) = best_next h (λ w. record { was = g.was; log = g.log; given = g.given; upto = u })
        pick h g (inr u) =
            best_next (record {
              from = k;
              had = g.was;
              log = g.log;
              kind = g.kind;
              given = g.given;
              each = λ j w x. let e = h.each j w x in record { was = e.was; log = e.log; given = e.given; upto = upto_trans e.upto u };
            })
            (λ w. record { was = g.was; log = g.log; given = g.given; upto = inr (refl, omega arith) })

        go : Best cs qs t b Kind c.end.air k → Voter cs qs k ⊎ (Voter cs qs k → ⊥) → Best cs qs t b Kind c.end.air (suc k)
        go h (inl w) = let g = c.all k w in pick h g (upto_either _ _ _ _)
        go h (inr x) = best_next h (λ w. absurd (x w))

    -- station i leads
    pub lead : Most cs qs → 1 ≤ b → Arrives may cs qs n (Given i t b cs Kind) → (l : List Entry) × Kind l × Arrives may cs qs n (Led i t b cs l)
    lead most pos c =
        let s = c.end.station i in
        let g = (c.all i v).waits in
        let a = g.asks refl in
        let h = best c 16 in
        let out : Log t b h.log ∈ (Took s.term s.asking i (length h.log) ∷ Log s.term s.asking h.log ∷ c.end.air) =
        Memᴰ.tail (Memᴰ.head (cc (g.term, a.0))) in (
          h.log,
          h.kind,
          one c v
              (record {
                next = leads s.asking h.log s;
                new = Took s.term s.asking i (length h.log) ∷ Log s.term s.asking h.log ∷ [];
                does = Local.lead qs h.from h.had h.log (rw g.members v.member) (omega arith) (a.1 ∙ sym a.0) (rw g.members most) (rw (g.term, a.0) h.given)
                    (λ j m q. let w : Voter cs qs j = record { member = rw g.members at m; acts = q } in rw (g.term, a.0) (h.each j w (below_16 sound w)));
                gives = record {
                  term = g.term;
                  members = g.members;
                  promised = omega arith;
                  upto = inr (a.0, omega arith);
                  out = out;
                  leads = λ e. record { promised = a.0; ballot = a.0; log = refl; leading = a.0 };
                };
              })
              (λ j u x d. let w = d.waits in record { term = w.term; members = w.members; promised = w.promised; upto = inl w.ballot; out = out; leads = λ e. absurd (x e) }),
        )

  module _ {i t b : ℕ} {l : List Entry} (v : Voter cs qs i) where
    -- it proposes
    pub propose : 1 ≤ b → (e : Entry) → may e → Follows l e → Arrives may cs qs n (Led i t b cs l) → Arrives may cs qs n (Led i t b cs (l ++ (e ∷ [])))
    propose pos e y f c =
        let s = c.end.station i in
        let a = c.all i v in
        let d = a.leads refl in
        let more = length_push l e in
        let log = ap (λ (k : List Entry). k ++ (e ∷ [])) d.log in
        let out : Log t b (l ++ (e ∷ [])) ∈ (Took s.term s.leading i (length s.log + 1) ∷ Log s.term s.leading (s.log ++ (e ∷ [])) ∷ c.end.air) =
        Memᴰ.tail (Memᴰ.head (cc (a.term, d.leading, log))) in
        one c v
        (record {
          next = grew (s.log ++ (e ∷ [])) s;
          new = Took s.term s.leading i (length s.log + 1) ∷ Log s.term s.leading (s.log ++ (e ∷ [])) ∷ [];
          does = Local.propose e y (rw a.members v.member) (omega arith) (d.promised ∙ sym d.leading) (rw d.log f);
          gives = record {
            term = a.term;
            members = a.members;
            promised = a.promised;
            upto = inr (d.ballot, omega (arith, ap length log));
            out = out;
            leads = λ _. record { promised = d.promised; ballot = d.ballot; log = log; leading = d.leading };
          };
        })
        (λ j u x g. record { term = g.term; members = g.members; promised = g.promised; upto = upto_trans g.upto (inr (refl, omega arith)); out = out; leads = λ q. absurd (x q) })

    -- all take
    pub taken : Arrives may cs qs n (Led i t b cs l) → Arrives may cs qs n (Has t b cs l)
    taken = every (Led i t b cs l) (Has t b cs l) sound lasts lasts' act
      where
        lasts : Lasts (Led i t b cs l)
        lasts new air j s a = record { term = a.term; members = a.members; promised = a.promised; upto = a.upto; out = Memᴰ.append_right new a.out; leads = a.leads }

        lasts' : Lasts (Has t b cs l)
        lasts' new air j s a = record { term = a.term; members = a.members; ballot = a.ballot; log = a.log; said = Memᴰ.append_right new a.said }

        act : (air : List Msg) (j : ℕ) (s : Station) → Voter cs qs j → Led i t b cs l air j s → Has t b cs l air j s ⊎ Turn may (Has t b cs l) air j s
        act air j s w a =
            inr (record {
              next = followed b l s;
              new = Took s.term b j (length l) ∷ [];
              does = Local.take b l (rw a.members w.member) (rw a.term a.out) a.promised a.upto;
              gives = record { term = a.term; members = a.members; ballot = refl; log = refl; said = Memᴰ.head (ap (λ (x : ℕ). Took x b j (length l)) (sym a.term)) };
            })

    -- all decide
    pub decide : {ms : Members} → Reach ms n → Most cs qs → Arrives may cs qs n (Has t b cs l) → Arrives may cs qs n (λ air j s. Knows t l s)
    decide r most c =
        every (Can cs qs t b l) (λ air j s. Knows t l s) sound lasts (λ new air j s k. k) act
        (so c (λ j v a. record {
          term = a.term;
          members = a.members;
          ballot = a.ballot;
          log = a.log;
          sure = omega (arith, ((settled (reach_along r c.path)).sure j).fits, ap length a.log);
          each = λ k w. (c.all k w).said;
        }))
      where
        lasts : Lasts (Can cs qs t b l)
        lasts new air j s a = record { term = a.term; members = a.members; ballot = a.ballot; log = a.log; sure = a.sure; each = λ k w. Memᴰ.append_right new (a.each k w) }

        act : (air : List Msg) (j : ℕ) (s : Station) → Voter cs qs j → Can cs qs t b l air j s → Knows t l s ⊎ Turn may (λ air j s. Knows t l s) air j s
        act air j s v a =
            inr (record {
              next = decided (length l) s;
              new = [];
              does = Local.decide (length l) qs (rw a.members most)
                  (λ k m q. rw (a.term, a.ballot) (record { count = length l; many = omega arith; said = a.each k (record { member = rw a.members at m; acts = q }) }))
                  a.sure (omega (arith, ap length a.log));
              gives = record { term = a.term; log = a.log; sure = refl };
            })

    -- the log ends with a close, and all enter the term that it opens
    pub close : (a : List Entry) (e : Entry) (ds : Members) → l ≡ a ++ (e ∷ []) → Closes e ds → t < 65535 → 1 ≤ b →
        Arrives may cs qs n (λ air j s. Knows t l s) → Arrives may cs qs n (λ air j s. Ready (t + 1) b ds (λ k. k ≡ []) s)
    close a e ds is closes few pos c =
        let s = c.end.station i in
        let d = c.all i v in
        let term = ap (λ (x : ℕ). x + 1) d.term in
        let o = s.old ++ s.log in
        let begin : Begin (t + 1) o ds ∈ (Begin (s.term + 1) o ds ∷ c.end.air) = Memᴰ.head (ap (λ (x : ℕ). Begin x o ds) (sym term)) in
        come (t + 1) o b ds (λ k. k ≡ []) pos refl (one c v
        (record {
          next = entered (s.term + 1) o ds;
          new = Begin (s.term + 1) o ds ∷ [];
          does = Local.close a e ds (d.log ∙ is) closes (d.sure ∙ sym (ap length d.log)) (omega arith);
          gives = inr (record { term = term; members = refl; promised = pos; ballot = pos; kind = refl });
        })
        (λ j u x h. inl (omega arith, begin)))
