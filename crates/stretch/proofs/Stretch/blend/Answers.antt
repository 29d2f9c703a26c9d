-- `stretch::Stretch::blend` meets its contract, in whatever mode. Assumes nothing.
use mathlib.Core.Path.{sym}
use native.Mathlib.Omega.{arith}
use Rattle.std.proofs.Common.{rules}
use Rattle.stretch.proofs.Strokes.{stroke_small, both_small, left_on, left_none}
use Rattle.stretch.proofs.Single.{stroke_is, under_7}
use Rattle.stretch.proofs.Stretch.blend.Goals as goal

pub settle-struck-requires-clause-few : goal.settle-struck-requires-clause-few
settle-struck-requires-clause-few g c = stroke_small _ _ _ _ _ _ c.stroke_of-stroke.ensures

pub loop-preserved : goal.loop-preserved
loop-preserved g c =
    let now = c.loop.invariant in
    let struck = c.settle-struck.ensures in
    record {
      source = search rules;
      dest = omega arith;
      few = omega (arith, now.few, both_small c.args.block _ _ _ _ _ _ _ c.stroke_of-stroke.ensures struck.struck);
      left =
          left_on now.left c.loop-test.true
          (stroke_is c.args.block _ _ _ _ _ (sym c.requires.mode) (under_7 c.requires.mode c.requires.under) (rw (c.masked-s.ensures, c.cell.ensures)) c.cell-in-loop.ensures c.stroke_of-stroke.ensures struck.struck struck.memory);
    }

pub returns : goal.returns
returns g c = left_none c.loop.invariant.left c.loop-test.false
