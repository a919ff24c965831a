use Rattle.std.specs.Prelude.{ℕ}
use Rattle.wire.specs.declared.fault.Fault.{Fault}
use Rattle.wire.specs.declared.fault.Fault.TheVariants.{Malformed, OutOfRange}

-- the number of a fault
abbrev pub number_of : Fault → ℕ
number_of Malformed = 1
number_of OutOfRange = 2
