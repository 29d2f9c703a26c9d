-- `step::Side::address` meets its contract. Assumes nothing.
use native.Mathlib.Omega.{arith}
use Rattle.std.proofs.lemmas.Int.{ints, to_z-of_z}
use Rattle.step.specs.Step.{side_address}
use Rattle.step.proofs.Side.address.Goals as goal

pub overflow_add-start-2 : goal.overflow_add-start-2
overflow_add-start-2 c = omega (arith, ints)

pub returns : goal.returns
unfolding side_address
returns c = grind (arith, to_z-of_z)
