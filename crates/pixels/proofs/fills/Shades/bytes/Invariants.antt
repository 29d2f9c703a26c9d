-- `pixels::fills::Shades::bytes` meets its contract. Assumes nothing.
use mathlib.Core.Path.{◌≡◌}
use Prim.Native.Nat.{ℕ, ◌<◌}
use lib.ListN.{get_or}
use Rattle.pixels.specs.Fills.{byte_pixel}
use Rattle.pixels.proofs.fills.Shades.bytes.Given as goal

abbrev pub invariant-loop-k : goal.invariant-loop-k
invariant-loop-k l = (j : ℕ) → j < l.k → get_or l.line j 0 ≡ byte_pixel l.piece l.self.video l.self.palette j
