-- Sets as bits: what the tests of a head tell of members and quorums.
use Rattle.std.proofs.Common.{◌≡◌, ℕ, zero, suc, ◌+◌, ◌*◌, ◌/◌, ◌%◌, ◌^◌, ◌<◌, ◌≤◌, max, Bool, true, false, cond, eqb, ltb, leb, ◌⊎◌, List, [], ◌∷◌, ◌++◌, length, get_or, set, replicate, sym, refl, ap, ◌∙◌, subst, inl, inr, pow-suc, arith}
use Rattle.council.proofs.More.{has_taken_more}
use Rattle.council.proofs.Meeting.{half, up}
use Rattle.council.specs.Quorum.{Most, IsMember}
use Rattle.council.specs.Rules.{HasTaken, Msg, Took, ◌∈◌}
use Rattle.quorum.specs.Sets.{inserted, is_in, is_most}
use Rattle.quorum.specs.Tally.{noted, raised, takers}
use Rattle.quorum.specs.declared.tally.Tally.{Tally}
use Rattle.std.proofs.lemmas.List.{get_or-set_other, get_or-set_same, set_past}
use Rattle.std.proofs.lemmas.Bool.{and_parts, cases_eq, cases_lt, eqb-true, leb-true, ltb-false, ltb-true}
use Rattle.store_laws.proofs.Lists.{zeros}
use lib.Bits.{bit_and, bit_or, or_step, or_zero_r}
use lib.Count.{ones}

-- bit j + 1 of a set is bit j of half of it
down : (j s : ℕ) → IsMember (suc j) s → IsMember j (s / 2)
down j s h = ap (λ (n : ℕ). n % 2) (sym (half j s)) ∙ h

-- nobody is in the empty set
pub in_none : (j : ℕ) → IsMember j 0 → ⊥
in_none zero h = omega arith
in_none (suc j) h = in_none j (down j 0 h)

pub is_member : (ms j : ℕ) → is_in ms j ≡ true → IsMember j ms
is_member ms j h = eqb-true _ _ (and_parts (ltb j 16) (eqb ((ms / 2 ^ j) % 2) 1) h).1

pub is_most_lem : (ms qs : ℕ) → is_most ms qs ≡ true → Most ms qs
is_most_lem ms qs h = record { many = ltb-true (ones ms) (2 * ones (bit_and ms qs)) h }

-- who is in a set with one more
or_power : (i j s : ℕ) → IsMember j (bit_or s (2 ^ i)) → (j ≡ i) ⊎ IsMember j s
or_power zero zero s h = inl refl
or_power (suc i) zero s h = inr (omega (arith, or_step s (2 ^ suc i), pow-suc 2 i))
or_power zero (suc j) s h =
    let e : bit_or s (2 ^ 0) / 2 ≡ s / 2 = omega (arith, or_step s (2 ^ 0), or_zero_r (s / 2)) in
    inr (up j s (subst (IsMember j) e (down j (bit_or s (2 ^ 0)) h)))
or_power (suc i) (suc j) s h = go (or_power i j (s / 2) (subst (IsMember j) e (down j (bit_or s (2 ^ suc i)) h)))
  where
    two : 2 ^ suc i / 2 ≡ 2 ^ i
    two = omega (arith, pow-suc 2 i)

    e : bit_or s (2 ^ suc i) / 2 ≡ bit_or (s / 2) (2 ^ i)
    e = omega (arith, or_step s (2 ^ suc i), ap (bit_or (s / 2)) two)

    go : (j ≡ i) ⊎ IsMember j (s / 2) → (suc j ≡ suc i) ⊎ IsMember (suc j) s
    go (inl q) = inl (ap suc q)
    go (inr m) = inr (up j s m)

pub in_inserted : (s i j : ℕ) → IsMember j (inserted s i) → (j ≡ i) ⊎ IsMember j s
in_inserted s i j = go (ltb i 16)
  where
    go : (b : Bool) → IsMember j (cond b (bit_or s (2 ^ i)) s) → (j ≡ i) ⊎ IsMember j s
    go true h = or_power i j s h
    go false h = inr h

-- who is among the takers took so many
pub took_many : (k : ℕ) (took : List ℕ) (j : ℕ) → IsMember j (takers k took) → k ≤ get_or took j 0
unfolding takers
took_many k [] j h = absurd (in_none j h)
took_many k (t ∷ ts) zero h = go (leb k t) refl h
  where
    go : (b : Bool) → leb k t ≡ b → IsMember 0 (cond b 1 0 + 2 * takers k ts) → k ≤ t
    go true e m = leb-true k t e
    go false e m = absurd (omega arith)
took_many k (t ∷ ts) (suc j) h = took_many k ts j (subst (IsMember j) (rest (leb k t)) (down j (cond (leb k t) 1 0 + 2 * takers k ts) h))
  where
    rest : (b : Bool) → (cond b 1 0 + 2 * takers k ts) / 2 ≡ takers k ts
    rest true = omega arith
    rest false = omega arith

-- the counts of a tally were said
abbrev pub Said : List Msg → ℕ → ℕ → List ℕ → Type 0
Said air t b took = (j : ℕ) → 1 ≤ get_or took j 0 → HasTaken air t b j (get_or took j 0)

pub said_more : {air : List Msg} {t b : ℕ} (took : List ℕ) (new : List Msg) → Said air t b took → Said (new ++ air) t b took
said_more took new S j h = has_taken_more new (S j h)

pub none_said : {air : List Msg} {t b : ℕ} → Said air t b (replicate 16 0)
none_said j h = let z = zeros 16 j in absurd (omega arith)

-- and so they are with one more
raised_said : {air : List Msg} {t b : ℕ} (took : List ℕ) (j k : ℕ) → Took t b j k ∈ air → Said air t b took → Said air t b (raised j k took)
raised_said {air} {t} {b} took j k m S = go (ltb j 16)
  where
    at : (i : ℕ) → (i ≡ j) ⊎ (i ≡ j → ⊥) → (j < length took) ⊎ (length took ≤ j) → 1 ≤ get_or (set took j (max (get_or took j 0) k)) i 0 →
        HasTaken air t b i (get_or (set took j (max (get_or took j 0) k)) i 0)
    at i x (inr past) = rw (set_past took j (max (get_or took j 0) k) past) (S i)
    at i (inr o) (inl low) = rw (get_or-set_other took j i (max (get_or took j 0) k) 0 o) (S i)
    at i (inl e) (inl low) = rw (e, get_or-set_same took j (max (get_or took j 0) k) 0 low) (λ h. most (cases_lt k (get_or took j 0)))
      where
        most : (k < get_or took j 0) ⊎ (get_or took j 0 ≤ k) → HasTaken air t b j (max (get_or took j 0) k)
        most (inl l) = let T = S j (omega arith) in record { count = T.count; many = omega (arith, T.many); said = T.said }
        most (inr l) = record { count = k; many = omega arith; said = m }

    go : (c : Bool) → Said air t b (cond c (set took j (max (get_or took j 0) k)) took)
    go true i = at i (cases_eq i j) (cases_lt j (length took))
    go false i = S i

pub noted_said : {air : List Msg} {t : ℕ} (T : Tally) (b j k : ℕ) → Took t b j k ∈ air → Said air t T.ballot T.took →
    Said air t (noted b j k T).ballot (noted b j k T).took
noted_said {air} {t} T b j k m S = go (ltb b T.ballot) refl (ltb T.ballot b) refl
  where
    higher : T.ballot ≤ b → max T.ballot b ≡ b
    higher h = omega arith

    go : (x : Bool) → ltb b T.ballot ≡ x → (y : Bool) → ltb T.ballot b ≡ y →
        Said air t (max T.ballot b) (cond x T.took (raised j k (cond y (replicate 16 0) T.took)))
    go true e y f = let l = ltb-true b T.ballot e in let z : max T.ballot b ≡ T.ballot = omega arith in rw z S
    go false e true f = let l = ltb-false b T.ballot e in let z : max T.ballot b ≡ b = omega arith in rw z (raised_said (replicate 16 0) j k m none_said)
    go false e false f =
        let l = ltb-false b T.ballot e in
        let r = ltb-false T.ballot b f in
        let z : T.ballot ≡ b = omega arith in
        let y : max T.ballot b ≡ b = omega arith in
        rw y (raised_said T.took j k m (rw z at S))
