use Rattle.wire.proofs.Turns.{made_cut}
use Rattle.page.proofs.Walks.{judged_more, judged_none}
use Rattle.page.proofs.judge.judge_rows.Goals as goal
use Rattle.page.proofs.judge.judge_rows.Goals.{else-sound, then-sound}
use Rattle.page.specs.Rows.{rising}
use Rattle.std.proofs.Common.{◌≡◌, ◌&&◌, rules}

pub returns-in_err-row : goal.returns-in_err-row
returns-in_err-row g c =
    let l = c.loop in
    let e = made_cut g.R.Fixed.decoded c.in_ok-count.count l.counter l.rest.now (λ rows. l.sound && rising g.R.Row.is_next g.R.Row.place l.next rows) c.loop-test.true c.in_err-row.ensures in
    search rules

pub loop-preserved : goal.loop-preserved
loop-preserved g c =
    let l = c.loop in
    let r = c.in_ok-row.row in
    let b : c.if-sound.sound ≡ (l.sound && g.R.Row.is_next l.next r) = elim c.if-sound.branch [ then-sound w ↦ search rules | else-sound w ↦ search rules ] in
    let e = judged_more g.R.Fixed.decoded c.in_ok-count.count l.counter l.rest.now g.R.Row.is_next g.R.Row.place l.next l.sound r c.in_ok-row.after.now c.from-next.result c.if-sound.sound c.loop-test.true c.in_ok-row.ensures (search rules) b in
    search rules

pub returns : goal.returns
returns g c =
    let l = c.loop in
    let e = judged_none g.R.Fixed.decoded c.in_ok-count.count l.counter l.rest.now g.R.Row.is_next g.R.Row.place l.next l.sound c.loop-test.false in
    search rules
