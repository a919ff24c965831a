use Rattle.std.proofs.Common.{◌≡◌, ◌-◌}
use Rattle.wire.specs.Several.{after, made, several}
use Rattle.store.specs.Tables.{SameLoans, held_mut}
use Rattle.page.proofs.fill.fill_rows.Given as goal

-- those left make of the tables what all make of those at the start
abbrev pub invariant-loop : goal.invariant-loop
invariant-loop g l =
    record {
      rest : made (after g.R.Row.put (held_mut l.store)) (several g.R.Fixed.decoded (l.count - l.counter) l.rest) ≡ made (after g.R.Row.put (held_mut l.initial.store)) (several g.R.Fixed.decoded l.count l.initial.rest);
      loans : SameLoans l.initial.store l.store;
    }
