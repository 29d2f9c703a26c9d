-- `plan::copy` meets its contract. The loop's invariant: i bytes are laid, and the others are as they were. Assumes nothing.
use mathlib.Core.Path.{◌≡◌}
use lib.ListN.{length}
use lib.Seq.{paste}
use Rattle.plan.proofs.copy.Given as goal

abbrev pub invariant-loop-i : goal.invariant-loop-i
invariant-loop-i l = (l.out ≡ paste l.initial.out 0 l.bytes l.i) × (length l.out ≡ length l.initial.out)
