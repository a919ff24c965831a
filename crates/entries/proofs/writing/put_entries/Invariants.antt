use Rattle.std.proofs.Common.{◌≡◌, ◌+◌, ◌≤◌, drop, length}
use Rattle.wire.specs.Bytes.{placed_at}
use Rattle.entries.proofs.writing.put_entries.Given as goal
use Rattle.entries.specs.Entries.{entries_bytes}

-- what is left to write makes of `out` what all makes of it, and there is room for it
abbrev pub invariant-loop-entry : goal.invariant-loop-entry
invariant-loop-entry l = record {
  bytes : placed_at l.out l.next (entries_bytes (drop l.entry-index l.entries)) ≡ placed_at l.initial.out l.at (entries_bytes l.entries);
  end : l.next + length (entries_bytes (drop l.entry-index l.entries)) ≡ l.at + length (entries_bytes l.entries);
  room : l.next + length (entries_bytes (drop l.entry-index l.entries)) ≤ length l.out;
}
