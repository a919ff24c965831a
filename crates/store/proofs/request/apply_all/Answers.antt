use Rattle.store.proofs.Idle.{played_idle}
use Rattle.store.proofs.request.apply_all.Goals as goal
use Rattle.store.specs.Tables.{held_mut}
use Rattle.std.proofs.Common.{sym}

pub returns-then-not-is_whole-clause-store : goal.returns-then-not-is_whole-clause-store
returns-then-not-is_whole-clause-store c = sym (played_idle (held_mut c.args.store.now) c.args.requests.now (sym c.if-not-is_whole.ensures))
