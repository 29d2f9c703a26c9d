-- Each contract of this crate admits one outcome only. Assumes nothing.
use mathlib.Core.Path.{sym, ◌∙◌}
use Rattle.laws.proofs.Once.{OneAnswer, OneExit}
use Rattle.boardwords.proofs.board_of.Kinds as board_of_kinds
use Rattle.boardwords.proofs.board_of.Reads as board_of_reads
use Rattle.boardwords.proofs.board_fits.Kinds as board_fits_kinds
use Rattle.boardwords.proofs.board_fits.Reads as board_fits_reads
use Rattle.boardwords.proofs.put_board.Kinds as put_board_kinds
use Rattle.boardwords.proofs.put_board.Reads as put_board_reads

board_of_once : OneAnswer 1 board_of_kinds.ps board_of_kinds.r board_of_reads.Post
board_of_once κs a x y s t p q = p ∙ sym q

board_fits_once : OneAnswer 1 board_fits_kinds.ps board_fits_kinds.r board_fits_reads.Post
board_fits_once κs a x y s t p q = p ∙ sym q

put_board_once : OneExit 1 put_board_kinds.ps put_board_kinds.r put_board_reads.Post (λ κs s. s.0.now)
put_board_once κs a x y s t p q = p ∙ sym q
