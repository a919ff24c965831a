use Rattle.std.specs.Iterator.Adapters.{rev_source}
use Rattle.std.specs.Slice.Iter.{iter_rest}
use Rattle.quorum.proofs.Takers.{Gathers}
use Rattle.quorum.proofs.tally.Tally.takers.Given as goal

abbrev pub invariant-loop-took : goal.invariant-loop-took
invariant-loop-took l = Gathers l.count l.fn.self.took (iter_rest (rev_source l.took-iterator)) l.set
