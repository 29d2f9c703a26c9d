-- Words that say the same at each place say the same board. Assumes nothing.
use mathlib.Core.Path.{◌≡◌}
use mathlib.Core.List.{List}
use Prim.Native.Nat.{ℕ}
use Rattle.words.specs.Words.{SameWords}
use Rattle.boardwords.specs.Board.{ports_of, side_of, block_of, blitter_of, board_of}

pub board_same : (a b : List ℕ) → SameWords a b → board_of a ≡ board_of b
unfolding board_of ports_of side_of block_of blitter_of
board_same a b e = simp e
