-- `stretch::Stretch::fill` meets its contract: no source is read, so that any address does for it. Assumes nothing.
use Rattle.block.specs.declared.Note.{Note}
use Rattle.stretch.specs.Stretch.{trace}
use Rattle.stretch.proofs.Strokes.{Near, Left}
use Rattle.stretch.proofs.Places.{sourceless}
use Rattle.stretch.proofs.Stretch.fill.Given as goal

abbrev pub invariant-loop : goal.invariant-loop
invariant-loop l = record {
  near : Near l.to l.counter;
  left : (note : Note) → Left l.block (sourceless l.self) l.counter 0 l.to (trace l.mem note l.counter) (trace l.initial.mem note 0);
}
