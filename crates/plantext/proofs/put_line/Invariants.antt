-- `plantext::put_line` meets its contract. The loop's invariant is `Lining`. Assumes nothing.
use Rattle.plantext.proofs.Line.{Lining}
use Rattle.plantext.proofs.put_line.Given as goal

abbrev pub invariant-loop-i : goal.invariant-loop-i
invariant-loop-i l = Lining l.s l.initial.text l.text l.i
