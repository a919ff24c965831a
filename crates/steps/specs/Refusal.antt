use Rattle.std.specs.Prelude.{ℕ}
use Rattle.steps.specs.declared.refusal.Refusal.{Refusal}
use Rattle.steps.specs.declared.refusal.Refusal.TheVariants.{BelowPromise, LogFull, Memory, NoJoin, NoMember, NotClosed, NotLast, NotLeading, NotOwn, NotPromised, NotTaken, OtherTerm}

-- the number of a refusal
abbrev pub number_of : Refusal → ℕ
number_of Memory = 1
number_of OtherTerm = 3
number_of NoMember = 4
number_of NotOwn = 5
number_of BelowPromise = 6
number_of NotPromised = 7
number_of NotLeading = 8
number_of LogFull = 9
number_of NoJoin = 10
number_of NotTaken = 11
number_of NotClosed = 12
number_of NotLast = 13
