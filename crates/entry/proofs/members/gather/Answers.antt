use Rattle.entry.proofs.Walks.{walk_all, walk_more}
use Rattle.entry.proofs.members.gather.Goals as goal
use Rattle.entry.specs.Members.{members_in, walked}
use Rattle.std.proofs.Common.{sym, ◌∙◌, rules}

pub loop-station-preserved : goal.loop-station-preserved
loop-station-preserved c = walk_more c.loop-station.station _ _ c.loop-station-test.true c.visit.ensures ∙ c.loop-station.invariant

pub returns : goal.returns
unfolding members_in
returns c =
    let e = sym (walk_all c.loop-station.station (walked c.loop-station.set c.loop-station.rest.now) c.loop-station-test.false) ∙ c.loop-station.invariant in
    search rules
