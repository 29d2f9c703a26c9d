-- `stretch::flat::Places::mix` meets its contract, in whatever mode. Assumes nothing.
use mathlib.Core.Bool.{cond}
use Prim.Native.Nat.{◌+◌, ◌*◌, ◌≤◌}
use Rattle.mode.specs.Mode.{cost_in}
use Rattle.block.specs.Byte.{reads_source}
use Rattle.stretch.proofs.Passing.{Passed}
use Rattle.stretch.proofs.flat.Places.mix.Given as goal

abbrev pub invariant-loop-k : goal.invariant-loop-k
invariant-loop-k g l = record {
  few : l.wrote ≤ l.k;
  passed : Passed l.block l.self l.initial.mem l.mem (l.wrote * cost_in g.row.MODE l.block.hitmask + l.k * cond (reads_source l.block) 1 0) l.k;
}
