-- What is decided, and what a station is sure of: the invariants that rest on quorums.
use Rattle.std.proofs.Common.{◌≡◌, ℕ, ◌≤◌, ◌⊎◌, List, length, take}
use Rattle.council.specs.Promises.{Past, Succeeds, Taken}
use Rattle.council.specs.Quorum.{Members}
use Rattle.council.specs.Rules.{Begin, Log, Msg, Station, ◌∈◌}
use Rattle.entry.specs.declared.entry.Entry.{Entry}

-- a term has one council and one past
abbrev pub OnePast : Members → List Msg → Type 0
OnePast ms air = (t : ℕ) (o p : List Entry) (cs ds : Members) → Past ms air t o cs → Past ms air t p ds → (o ≡ p) × (cs ≡ ds)

-- the first k entries of a log are decided
pub record Chosen (ms : Members) (air : List Msg) (t b k : ℕ) (l : List Entry) : Type 0 where
  pub taken : Taken ms air t b k
  pub out : Log t b l ∈ air
  pub fits : k ≤ length l

-- what a station is sure of was decided, in a ballot no higher than its log's
pub record Decided (ms : Members) (air : List Msg) (s : Station) : Type 0 where
  pub ballot : ℕ
  pub low : ballot ≤ s.ballot
  pub log : List Entry
  pub chosen : Chosen ms air s.term ballot s.sure log
  pub same : take s.sure s.log ≡ take s.sure log

pub record Sure (ms : Members) (air : List Msg) (s : Station) : Type 0 where
  pub fits : s.sure ≤ length s.log
  pub why : (s.sure ≡ 0) ⊎ Decided ms air s

pub record Settled (ms : Members) (f : ℕ → Station) (air : List Msg) : Type 0 where
  pub one : OnePast ms air
  pub ended : (t : ℕ) (o : List Entry) (cs : Members) → Begin t o cs ∈ air → Succeeds ms air t o cs
  pub sure : (i : ℕ) → Sure ms air (f i)
