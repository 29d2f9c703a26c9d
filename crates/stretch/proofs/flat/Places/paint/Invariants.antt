-- `stretch::flat::Places::paint` meets its contract: what is left to paint makes of memory what the whole makes of the beginning. Assumes nothing.
use mathlib.Core.Path.{◌≡◌}
use Prim.Native.Nat.{◌+◌, ◌-◌}
use Rattle.stretch.specs.Flat.{painted}
use Rattle.stretch.proofs.flat.Places.paint.Given as goal

abbrev pub invariant-loop-k : goal.invariant-loop-k
invariant-loop-k l =
    painted l.value l.mem (l.self.at + l.k) (l.self.count - l.k) ≡ painted l.value l.initial.mem l.self.at l.self.count
