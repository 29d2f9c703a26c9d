-- `stretch::Stretch::copy` meets its contract. Assumes nothing.
use mathlib.Core.Path.{◌≡◌, ap, ◌∙◌}
use Prim.Native.Nat.{ℕ, ◌*◌}
use native.Mathlib.Omega.{arith}
use Rattle.std.proofs.Common.{rules}
use Rattle.stretch.specs.Stretch.{trace}
use Rattle.stretch.proofs.Strokes.{left_on, left_none}
use Rattle.stretch.proofs.Single.{copy_is}
use Rattle.stretch.proofs.Stretch.copy.Goals as goal

pub loop-preserved : goal.loop-preserved
loop-preserved c =
    record {
      source = search rules;
      dest = omega arith;
      left =
          λ note.
          rw (c.put.ensures, c.masked.ensures, c.cell.ensures)
          (left_on (c.loop.invariant.left note) c.loop-test.true (copy_is _ _ _ _ _ _ c.requires.mode c.requires.read ∙ ap (trace _ note) (omega arith)));
    }

pub returns : goal.returns
returns c note =
    let all : c.args.self.count ≡ c.loop.counter = omega arith in
    ap (λ (n : ℕ). trace c.loop.mem note (2 * n)) all ∙ left_none (c.loop.invariant.left note) c.loop-test.false
