-- `pixels::fills::gather` meets its contract. Assumes nothing.
use mathlib.Core.Path.{◌≡◌}
use Prim.Native.Nat.{ℕ, ◌<◌}
use lib.ListN.{get_or}
use Rattle.vram.specs.Memory.{byte_at}
use Rattle.pixels.proofs.fills.gather.Given as goal

abbrev pub invariant-loop-k : goal.invariant-loop-k
invariant-loop-k l = (j : ℕ) → j < l.k → get_or l.piece j 0 ≡ byte_at l.mem l.address j
