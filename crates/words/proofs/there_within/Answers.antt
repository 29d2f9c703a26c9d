-- `words::there_within` meets its contract. The loop's invariant: the tests so far with those of the words left give what the whole was to give. Assumes nothing.
use Rattle.std.proofs.Common.{arith}
use Rattle.std.proofs.Math.Bool.{and_assoc, and-true}
use Rattle.words.proofs.Within.{within_next, within_rest}
use Rattle.words.proofs.there_within.Goals as goal

pub loop-i-preserved : goal.loop-i-preserved
loop-i-preserved c = grind (arith, within_next, and_assoc)

pub returns : goal.returns
returns c = grind (arith, within_rest, and-true)
