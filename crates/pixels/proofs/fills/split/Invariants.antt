-- `pixels::fills::split` meets its contract. Assumes nothing.
use mathlib.Core.Path.{◌≡◌}
use Prim.Native.Nat.{ℕ, ◌*◌, ◌<◌}
use lib.ListN.{get_or}
use Rattle.pixels.specs.Fills.{nibble_colour}
use Rattle.pixels.proofs.fills.split.Given as goal

abbrev pub invariant-loop-k : goal.invariant-loop-k
invariant-loop-k l = (j : ℕ) → j < l.k * 2 → get_or l.colours j 0 ≡ nibble_colour l.piece j
