use Rattle.std.proofs.Common.{◌≡◌, ◌+◌, ◌≤◌, drop}
use Rattle.store.proofs.request.apply_all.Given as goal
use Rattle.store.specs.Store.{played, tally}
use Rattle.store.specs.Tables.{SameLoans, held_mut}

-- what is left to do makes of the store what all of it makes of the one at the start, and counts on to the same number
abbrev pub invariant-loop-request : goal.invariant-loop-request
invariant-loop-request l =
    record {
      store : played (held_mut l.store) (drop l.request-index l.requests) ≡ played (held_mut l.initial.store) l.requests;
      count : l.done + tally (held_mut l.store) (drop l.request-index l.requests) ≡ tally (held_mut l.initial.store) l.requests;
      bound : l.done ≤ l.request-index;
      loans : SameLoans l.initial.store l.store;
    }
