-- `plantext::put_line` meets its contract. The loop's invariant is `Lining`. Assumes nothing.
use Rattle.plantext.proofs.Line.{line_turn, line_end}
use Rattle.plantext.proofs.put_line.Goals as goal

pub loop-i-preserved : goal.loop-i-preserved
loop-i-preserved c = line_turn _ _ _ _ c.loop-i.invariant c.requires _ c.loop-i-test.true c.put_hex.ensures

pub returns : goal.returns
returns c = line_end _ _ _ _ c.loop-i.invariant c.requires c.loop-i-test.false
