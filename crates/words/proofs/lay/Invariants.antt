-- `words::lay` meets its contract. The loop's invariant: i words are laid, and the others are as they were. Assumes nothing.
use Rattle.std.proofs.Common.{◌≡◌}
use Rattle.std.proofs.Math.Seq.{paste}
use Rattle.words.proofs.lay.Given as goal

abbrev pub invariant-loop-i : goal.invariant-loop-i
invariant-loop-i l = l.words ≡ paste l.initial.words 0 l.new l.i
