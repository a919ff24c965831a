use Rattle.std.proofs.Common.{◌≡◌, ◌-◌, true}
use Rattle.wire.specs.Several.{after, made, several}
use Rattle.entries.proofs.reading.judge_entries.Given as goal
use Rattle.entries.specs.Entries.{sound_too}
use Rattle.entry.specs.Entry.{entry_of}

-- those before and those left are in range where all are
abbrev pub invariant-loop : goal.invariant-loop
invariant-loop l = made (after sound_too l.sound) (several entry_of (l.count - l.counter) l.rest) ≡ made (after sound_too true) (several entry_of l.count l.bytes)
