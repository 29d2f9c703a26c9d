-- `stretch::Stretch::copy` meets its contract. Assumes nothing.
use Prim.Native.Nat.{◌*◌}
use Rattle.block.specs.declared.Note.{Note}
use Rattle.stretch.specs.Stretch.{trace}
use Rattle.stretch.proofs.Strokes.{Near, Left}
use Rattle.stretch.proofs.Stretch.copy.Given as goal

abbrev pub invariant-loop : goal.invariant-loop
invariant-loop l = record {
  source : Near l.from l.counter;
  dest : Near l.to l.counter;
  left : (note : Note) → Left l.block l.self l.counter l.from l.to (trace l.mem note (2 * l.counter)) (trace l.initial.mem note 0);
}
