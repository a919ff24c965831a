-- Councils and quorums. The rules and their proofs use of this file only `IsMember`, `Most`, and that two quorums meet.
use Rattle.std.specs.Prelude.{◌≡◌, ℕ, ◌*◌, ◌/◌, ◌%◌, ◌^◌, ◌<◌, ◌≤◌, bit_and, count_ones}

-- the members of a council, and any other set of stations: bit j says whether station j is in it
abbrev pub Members : Type 0
Members = ℕ

abbrev pub IsMember : ℕ → Members → Type 0
IsMember j ms = (ms / 2 ^ j) % 2 ≡ 1

-- a council: one or more of the stations 0 to 15
pub record Sound (ms : Members) : Type 0 where
  pub some : 1 ≤ ms
  pub small : ms < 2 ^ 16

-- a quorum: more than half of the members are in qs
pub record Most (ms qs : Members) : Type 0 where
  pub many : count_ones ms < 2 * count_ones (bit_and ms qs)
