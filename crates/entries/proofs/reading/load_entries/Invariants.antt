use Rattle.std.proofs.Common.{◌≡◌, ◌-◌, length}
use Rattle.wire.specs.Several.{front, rest_of, several}
use Rattle.entries.proofs.reading.load_entries.Given as goal
use Rattle.entries.specs.Entries.{entries_in, laid}
use Rattle.entry.specs.Entry.{entry_of}

-- the entries left, laid in from here on, make the log that all make; and the same bytes stand behind them
abbrev pub invariant-loop-place : goal.invariant-loop-place
invariant-loop-place l = record {
  log : laid l.place-index (entries_in (front entry_of (l.count - l.place-index) l.rest)) l.place-items ≡ laid 0 (entries_in (front entry_of l.count l.bytes)) l.initial.place-items;
  rest : rest_of (several entry_of (l.count - l.place-index) l.rest) ≡ rest_of (several entry_of l.count l.bytes);
  count : l.count ≡ length l.place-items;
}
