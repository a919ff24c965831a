-- What was read, and whether it is in range.
use Rattle.std.specs.Prelude.{Bool, cond, length, Some, None, Ok, Err, Result, ◌==◌}
use Rattle.wire.specs.Bytes.{Read}
use Rattle.wire.specs.declared.fault.Fault.{Fault}
use Rattle.wire.specs.declared.fault.Fault.TheVariants.{Malformed, OutOfRange}
use Rattle.wire.specs.declared.judged.Judged.{Judged}

abbrev pub judged : {A : Type 0} → A → Bool → Judged A
judged value sound = record { value = value; sound = sound }

-- it, if all of it is in range
abbrev pub accepted : {A : Type 0} → Judged A → Result A Fault
accepted j = cond j.sound (Ok j.value) (Err OutOfRange)

-- what some bytes are, read to their end, or what is wrong with them: their form first, and then their range
abbrev pub ended : {A : Type 0} → Read (Judged A) → Result A Fault
ended None = Err Malformed
ended (Some p) = cond (length p.1 == 0) (accepted p.0) (Err Malformed)
