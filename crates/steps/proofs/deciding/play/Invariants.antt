use Rattle.council.specs.Log.{requests_in}
use Rattle.steps.proofs.deciding.play.Given as goal
use Rattle.store.specs.Store.{played}
use Rattle.store.specs.Tables.{SameLoans, held_mut}
use Rattle.std.proofs.Common.{◌≡◌, drop}

-- what is left to do makes of the store what all of it makes of the one at the start
abbrev pub invariant-loop-entry : goal.invariant-loop-entry
invariant-loop-entry l = record {
  store : played (held_mut l.store) (requests_in (drop l.entry-index l.entries)) ≡ played (held_mut l.initial.store) (requests_in l.entries);
  loans : SameLoans l.initial.store l.store;
}
