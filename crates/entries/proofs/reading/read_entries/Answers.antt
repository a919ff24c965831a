use Rattle.entries.proofs.Layers.{loaded_all}
use Rattle.entries.proofs.reading.read_entries.Goals as goal
use Rattle.std.proofs.Common.{rules}

pub returns-clause-log : goal.returns-clause-log
returns-clause-log c = let e = loaded_all c.args.log.now c.args.count c.args.bytes.now _ _ c.in_ok-judge_entries.ensures in search rules
