-- What a request asks of one shelf. Of all that is said of a store, only this file looks at the kind of a request.
use Rattle.std.specs.Prelude.{ℕ, ◌-◌}
use Rattle.store.specs.declared.ask.Ask.{Ask}
use Rattle.store.specs.declared.ask.Ask.TheVariants.{Put, Take, Look}

-- the shelf that it is about
abbrev pub key_of : Ask → ℕ
key_of (Put k v) = k
key_of (Take k a) = k
key_of (Look k) = k

-- what that shelf holds afterwards, if it held `held`: a subtraction stops at 0
abbrev pub leaves : Ask → ℕ → ℕ
leaves (Put k v) held = v
leaves (Take k a) held = held - a
leaves (Look k) held = held

-- the word that the client gets, if the shelf held `held`: of a take, how much it went down
abbrev pub says : Ask → ℕ → ℕ
says (Put k v) held = held
says (Take k a) held = held - (held - a)
says (Look k) held = held
