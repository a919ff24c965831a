use Rattle.entry.proofs.Listings.{listing_all, listing_member, listing_other}
use Rattle.entry.proofs.members.list_members.Goals as goal
use Rattle.entry.proofs.members.list_members.Goals.{else-left-eq1, then-left-eq1}
use Rattle.std.proofs.Common.{rules, take}
use Rattle.std.proofs.lemmas.List.{length-take-le, take_more_set}

pub loop-station-preserved : goal.loop-station-preserved
loop-station-preserved c =
    let l = c.loop-station in
    let i = c.loop-station-test.true in
    elim c.if-left-eq1.branch [
      | then-left-eq1 w ↦
          let e = listing_member (take l.len l.stations) l.station l.left _ i w.if-left-eq1.true l.invariant.0 in
          let t = take_more_set l.stations l.len l.station (search rules) in
          search rules
      | else-left-eq1 w ↦ let e = listing_other (take l.len l.stations) l.station l.left _ i w.if-left-eq1.false l.invariant.0 in search rules
    ]

pub returns : goal.returns
returns c =
    let l = c.loop-station in
    let e = listing_all (take l.len l.stations) l.station l.left _ c.loop-station-test.false l.invariant.0 in
    let n = length-take-le l.len l.stations (search rules) in
    search rules
