use Rattle.std.proofs.Common.{◌≡◌, ◌++◌, drop, length, string_bytes}
use Rattle.script.proofs.Turns.{placed, told}
use Rattle.script.proofs.rehearsal.play_all.Given as goal
use Rattle.store.specs.Tables.{held_mut}

-- what is printed and what the lines left will print make the whole
abbrev pub invariant-loop-i : goal.invariant-loop-i
invariant-loop-i l = string_bytes l.out ++ told (held_mut l.store) (drop (length l.yielded) (placed l.script)) ≡ told (held_mut l.initial.store) (placed l.script)
