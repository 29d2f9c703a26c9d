-- `words::there_within` meets its contract. The loop's invariant: the tests so far with those of the words left give what the whole was to give. Assumes nothing.
use mathlib.Core.Path.{◌≡◌}
use mathlib.Core.Bool.{◌&&◌}
use lib.ListN.{drop}
use Rattle.words.specs.Words.{within}
use Rattle.words.proofs.there_within.Given as goal

abbrev pub invariant-loop-i : goal.invariant-loop-i
invariant-loop-i l = l.all && within (drop l.i l.most) l.words l.i ≡ within l.most l.words 0
