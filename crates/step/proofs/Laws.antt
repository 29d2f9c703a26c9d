-- How large a step and an address can be. Assumes nothing.
use Prim.Native.Nat.{ℕ, ◌<◌}
use native.Mathlib.Omega.{arith}
use lib.IntN.{ℤ, pos, negsuc}
use lib.Signed.{mag}
use Rattle.step.specs.Step.{signed, step_x, step_y, wrap19, side_address}
use Rattle.step.specs.declared.Side.{Side}

-- a signed number's size is below half (`mag` is n for -(n + 1) too)
pub step_x_small : (x : ℕ) → x < 256 → mag (step_x x) < 128
unfolding step_x signed
step_x_small x h = grind arith

pub step_y_small : (low high : ℕ) → low < 256 → mag (step_y low high) < 4096
unfolding step_y signed
step_y_small low high h = grind arith

pub wrap_small : (z : ℤ) → wrap19 z < 524288
unfolding wrap19
wrap_small (pos n) = omega arith
wrap_small (negsuc n) = omega arith

-- an address has 19 bits
pub side_small : (side : Side) (row col : ℕ) → side_address side row col < 524288
unfolding side_address
side_small side row col = wrap_small _
