-- What each member said that it took of a ballot, and how many of a log most took.
use Rattle.std.specs.Prelude.{ℕ, ◌+◌, ◌*◌, max, Bool, cond, List, [], ◌∷◌, replicate, nat_le, nat_lt, slice_index, slice_set}
use Rattle.quorum.specs.Sets.{is_most}
use Rattle.quorum.specs.declared.tally.Tally.{Tally}

abbrev pub counts : ℕ → List ℕ → Tally
counts b took = record { ballot = b; took = took }

abbrev pub nobody : ℕ → Tally
nobody b = counts b (replicate 16 0)

-- the highest that a station said counts; what is no station has no count
abbrev pub raised : ℕ → ℕ → List ℕ → List ℕ
raised j k took = cond (nat_lt j 16) (slice_set took j (max (slice_index took j) k)) took

-- a higher ballot starts the counts anew, a lower one doesn't count
abbrev pub noted : ℕ → ℕ → ℕ → Tally → Tally
noted b j k t =
    counts (max t.ballot b) (cond (nat_lt b t.ballot) t.took (raised j k (cond (nat_lt t.ballot b) (replicate 16 0) t.took)))

-- those that took k or more, the first of them as bit 0
unfoldable pub takers : ℕ → List ℕ → ℕ
takers k [] = 0
takers k (t ∷ ts) = cond (nat_le k t) 1 0 + 2 * takers k ts

-- most members took k or more
abbrev pub most_took : ℕ → ℕ → Tally → Bool
most_took members k t = is_most members (takers k t.took)
