use Rattle.std.proofs.Common.{◌≡◌, ◌+◌, ◌*◌, ◌≤◌, drop, length}
use Rattle.entries.proofs.writing.entries_size.Given as goal
use Rattle.entries.specs.Entries.{entries_bytes}

abbrev pub invariant-loop-entry : goal.invariant-loop-entry
invariant-loop-entry l = record {
  size : l.size + length (entries_bytes (drop l.entry-index l.entries)) ≡ length (entries_bytes l.entries);
  bound : l.size ≤ 18 * l.entry-index;
}
