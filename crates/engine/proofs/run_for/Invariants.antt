-- `engine::run_for` meets its contract. The invariant is `Going`. Assumes nothing.
use Prim.Native.Nat.{◌-◌}
use Rattle.engine.proofs.Going.{Going}
use Rattle.engine.proofs.run_for.Given as goal

abbrev pub invariant-loop-run : goal.invariant-loop-run
invariant-loop-run l = Going l.initial.run.blitter l.initial.mem l.budget l.run l.mem

abbrev pub decreases-loop-run : goal.decreases-loop-run
decreases-loop-run l = l.budget - l.run.counts.ticks
