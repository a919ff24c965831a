use Rattle.std.specs.Prelude.{ℕ}
use Rattle.store.specs.declared.refusal.Refusal.{Refusal}
use Rattle.store.specs.declared.refusal.Refusal.TheVariants.{Tables, Key, NotNext}

-- the number of a refusal
abbrev pub number_of : Refusal → ℕ
number_of Tables = 1
number_of Key = 2
number_of NotNext = 13
