use Rattle.std.proofs.Common.{◌≡◌, ◌-◌, ◌&&◌}
use Rattle.wire.specs.Several.{made, several}
use Rattle.page.specs.Rows.{rising}
use Rattle.page.proofs.judge.judge_rows.Given as goal

-- those before and those left are sound where all are
abbrev pub invariant-loop : goal.invariant-loop
invariant-loop g l =
    made (λ rows. l.sound && rising g.R.Row.is_next g.R.Row.place l.next rows) (several g.R.Fixed.decoded (l.count - l.counter) l.rest) ≡
    made (rising g.R.Row.is_next g.R.Row.place 0) (several g.R.Fixed.decoded l.count l.initial.rest)
