-- `stretch::flat::Places::copy` meets its contract. Assumes nothing.
use Prim.Native.Nat.{◌*◌}
use Rattle.stretch.proofs.Passing.{Passed}
use Rattle.stretch.proofs.flat.Places.copy.Given as goal

abbrev pub invariant-loop-k : goal.invariant-loop-k
invariant-loop-k l = Passed l.block l.self l.initial.mem l.mem (2 * l.k) l.k
