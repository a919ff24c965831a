-- A script against the requests that stand in it.
use Rattle.std.specs.Prelude.{◌≡◌, ℕ, cond, List, [], ◌∷◌, ◌++◌, Ok, Err, Result}
use Rattle.command.specs.Command.{command_of}
use Rattle.wire.specs.declared.fault.Fault.{Fault}
use Rattle.command.specs.declared.parse.Command.{Command}
use Rattle.command.specs.declared.parse.Command.TheVariants.{Do, Show}
use Rattle.script.specs.Rehearsal.{after, is_passed}
use Rattle.store.specs.Store.{Store, played}
use Rattle.store.specs.declared.request.Request.{Request}

-- the request that a line commands, if it commands one
abbrev pub asked : Result Command Fault → List Request
asked (Ok (Do r)) = r ∷ []
asked (Ok Show) = []
asked (Err f) = []

-- the requests of some lines, in order
abbrev pub requests : List (List ℕ) → List Request
requests [] = []
requests (line ∷ more) = cond (is_passed line) [] (asked (command_of line)) ++ requests more

-- the store behind some lines
abbrev pub left : Store → List (List ℕ) → Store
left s [] = s
left s (line ∷ more) = left (after line s) more

-- What a script leaves is what its requests make of the store: no other line, comment or refusal has a part in it.
-- So the laws of requests hold of scripts.
abbrev pub OnlyRequests : Type 0
OnlyRequests = (s : Store) (lines : List (List ℕ)) → left s lines ≡ played s (requests lines)
