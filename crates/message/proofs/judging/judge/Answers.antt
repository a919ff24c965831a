use Rattle.std.proofs.Common.{ap, ◌∙◌, rules}
use Rattle.message.proofs.Whole.{whole_is}
use Rattle.message.proofs.judging.judge.Goals as goal
use Rattle.message.specs.Message.{head_in}

pub returns : goal.returns
returns c = ap head_in c.in_ok-message.ensures ∙ whole_is c.args.bytes.now

pub returns-in_err-message : goal.returns-in_err-message
returns-in_err-message c = let e = ap head_in c.in_err-message.ensures ∙ whole_is c.args.bytes.now in search rules
