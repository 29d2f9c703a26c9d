-- `boardwords::put_board` meets its contract: the words stand in the order of the page. Assumes nothing.
use mathlib.Core.Path.{refl}
use Rattle.words.proofs.Laid.{laid_three}
use Rattle.boardwords.specs.Board.{register_words, block_words, position_words, board_words}
use Rattle.boardwords.proofs.put_board.Goals as goal

pub returns : goal.returns
unfolding board_words
returns c =
    let b = c.args.board in
    laid_three (register_words b) (block_words b.blitter.block) (position_words b) c.args.words.now _ _ _ _ c.if-words-lt-BOARD_WORDS.false c.put_registers.ensures c.put_block.ensures refl (simp (c.from.ensures, c.from-2.ensures) at c.lay.ensures)
