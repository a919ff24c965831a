-- A line leaves what its request, if it commands one, makes of the store.
use Rattle.command.specs.Command.{command_of}
use Rattle.wire.specs.declared.fault.Fault.{Fault}
use Rattle.command.specs.declared.parse.Command.{Command}
use Rattle.command.specs.declared.parse.Command.TheVariants.{Do, Show}
use Rattle.script.specs.Laws.{OnlyRequests, asked, requests}
use Rattle.script.specs.Rehearsal.{after, is_passed, turned}
use Rattle.std.proofs.Common.{◌≡◌, Bool, true, false, cond, List, [], ◌∷◌, ◌++◌, Ok, Err, Result, refl, ◌∙◌}
use Rattle.store.specs.Store.{Store, played}
use Rattle.store.specs.declared.request.Request.{Request}

turn_plays : (passed : Bool) (command : Result Command Fault) (s : Store) (more : List Request) → played (cond passed s (turned command s)) more ≡ played s (cond passed [] (asked command) ++ more)
turn_plays true command s more = refl
turn_plays false (Ok (Do r)) s more = refl
turn_plays false (Ok Show) s more = refl
turn_plays false (Err f) s more = refl

pub only_requests : OnlyRequests
only_requests s [] = refl
only_requests s (line ∷ more) = only_requests (after line s) more ∙ turn_plays (is_passed line) (command_of line) s (requests more)
