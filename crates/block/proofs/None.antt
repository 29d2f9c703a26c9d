-- The test for no block is true of that block, and of it alone. Assumes nothing.
use mathlib.Core.Path.{◌≡◌, ap}
use mathlib.Core.Bool.{true}
use native.Mathlib.Omega.{arith}
use Rattle.std.proofs.lemmas.Bool.Decides.{nat_tests}
use Rattle.block.specs.Block.{none_side, is_none, no_side, no_block}
use Rattle.block.specs.declared.Block.{Block}

pub is_none_lem : (b : Block) → is_none b ≡ true → b ≡ no_block
unfolding is_none none_side no_block no_side
is_none_lem b e = grind (arith, nat_tests)

-- and the other way round
pub none_is : (b : Block) → b ≡ no_block → is_none b ≡ true
unfolding is_none none_side no_block no_side
none_is b e = ap is_none e
