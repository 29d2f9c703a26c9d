-- `engine::run_for` meets its contract. Assumes nothing.
use native.Mathlib.Omega.{arith}
use Rattle.engine.proofs.Going.{going_used, going_idle, going_load, going_busy}
use Rattle.engine.proofs.run_for.Goals as goal

pub returns-in-0 : goal.returns-in-0
returns-in-0 c = record { run = going_idle c.loop-run.invariant c.in-0.is }

pub loop-run-preserved-in-1 : goal.loop-run-preserved-in-1
loop-run-preserved-in-1 c = rw c.load.ensures (going_load c.loop-run.invariant c.loop-run-test.true c.in-1.is)

pub burst-run-requires : goal.burst-run-requires
burst-run-requires c = going_busy c.loop-run.invariant c.loop-run-test.true (omega arith) (omega arith)

pub returns : goal.returns
returns c = record { run = going_used c.loop-run.invariant c.loop-run-test.false }
