-- `stretch::Stretch::fill` meets its contract. Assumes nothing.
use mathlib.Core.Path.{◌≡◌, ap, ◌∙◌}
use native.Mathlib.Omega.{arith}
use Rattle.std.proofs.Common.{rules}
use Rattle.stretch.specs.Stretch.{trace}
use Rattle.stretch.proofs.Strokes.{left_on, left_none}
use Rattle.stretch.proofs.Single.{fill_is}
use Rattle.stretch.proofs.Places.{unread, unread_0}
use Rattle.stretch.proofs.Stretch.fill.Goals as goal

pub loop-preserved : goal.loop-preserved
loop-preserved c =
    record {
      near = search rules;
      left = λ note. rw c.put.ensures (left_on (c.loop.invariant.left note) c.loop-test.true (fill_is _ _ _ _ _ _ c.requires.mode c.requires.unread));
    }

pub returns : goal.returns
returns c note =
    let s = c.args.self in
    let all : s.count ≡ c.loop.counter = omega arith in
    ap (trace c.loop.mem note) all
    ∙ left_none (c.loop.invariant.left note) c.loop-test.false
    ∙ unread c.args.block s.step (unread_0 c.args.block c.requires.unread) 0 s.along s.count 0 s.from s.to _
