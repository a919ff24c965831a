use Rattle.script.proofs.Readings.{shown_ok, shown_refused}
use Rattle.script.proofs.reading.push_read.Goals as goal
use Rattle.script.specs.Reading.{blank}
use Rattle.store.specs.Store.{bare}
use Rattle.std.proofs.Common.{rules}

pub returns-in-Ok : goal.returns-in-Ok
unfolding blank
returns-in-Ok c =
    let e = shown_ok c.args.line c.args.bytes.now blank _ bare _ c.in-Ok.message c.in-Ok.ensures.head c.read.ensures.log c.read.ensures.store in
    search rules

pub returns-in-Err-Refused : goal.returns-in-Err-Refused
unfolding blank
returns-in-Err-Refused c = let e = shown_refused c.args.line c.args.bytes.now blank bare c.in-Err-Refused.fault (search rules) in search rules
