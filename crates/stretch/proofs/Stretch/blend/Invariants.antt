-- `stretch::Stretch::blend` meets its contract, in whatever mode. Assumes nothing.
use Prim.Native.Nat.{◌*◌, ◌≤◌}
use Rattle.stretch.specs.Stretch.{trace}
use Rattle.stretch.proofs.Strokes.{Near, Left}
use Rattle.stretch.proofs.Stretch.blend.Given as goal

abbrev pub invariant-loop : goal.invariant-loop
invariant-loop g l = record {
  source : Near l.from l.counter;
  dest : Near l.to l.counter;
  few : l.accesses ≤ 3 * l.counter;
  left : Left l.block l.self l.counter l.from l.to (trace l.mem l.note l.accesses) (trace l.initial.mem l.initial.note 0);
}
