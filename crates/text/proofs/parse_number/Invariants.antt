use Rattle.std.proofs.Common.{◌≡◌, ◌+◌, ◌*◌, ◌≤◌, drop}
use Rattle.text.proofs.parse_number.Given as goal
use Rattle.text.specs.Text.{at_most, digits_after}

-- the digits left go on from what is read so far
abbrev pub invariant-loop-byte : goal.invariant-loop-byte
invariant-loop-byte l = (at_most l.max (digits_after l.value (drop l.byte-index l.word)) ≡ at_most l.max (digits_after 0 l.word)) × (l.value ≤ 10 * l.max + 9)
