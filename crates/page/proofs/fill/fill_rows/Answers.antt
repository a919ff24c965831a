use Rattle.wire.proofs.Turns.{after_end, after_turn, made_cut}
use Rattle.wire.specs.Several.{after}
use Rattle.store.specs.Tables.{held_mut}
use Rattle.page.proofs.fill.fill_rows.Goals as goal
use Rattle.std.proofs.Common.{rules}

pub returns-in_err-row-clause-rest : goal.returns-in_err-row-clause-rest
returns-in_err-row-clause-rest g c =
    let l = c.loop in
    let e = made_cut g.R.Fixed.decoded c.in_ok-count.count l.counter l.rest.now (after g.R.Row.put (held_mut l.store)) c.loop-test.true c.in_err-row.ensures in
    search rules

pub loop-preserved : goal.loop-preserved
loop-preserved g c =
    let l = c.loop in
    let e = after_turn g.R.Fixed.decoded c.in_ok-count.count l.counter l.rest.now g.R.Row.put (held_mut l.store) c.in_ok-row.row c.in_ok-row.after.now (held_mut c.put.new.store) c.loop-test.true c.in_ok-row.ensures c.put.ensures.store in
    record { rest = search rules; loans = search rules }

pub returns-clause-rest : goal.returns-clause-rest
returns-clause-rest g c =
    let l = c.loop in
    let e = after_end g.R.Fixed.decoded c.in_ok-count.count l.counter l.rest.now g.R.Row.put (held_mut l.store) c.loop-test.false in
    search rules
