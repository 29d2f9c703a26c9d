-- A board whose fields are within their types, laid over words, comes back from them: the words fit, and the same board is read. Assumes nothing.
use mathlib.Core.Path.{◌≡◌, refl}
use mathlib.Core.Bool.{true}
use mathlib.Core.List.{List, ◌++◌}
use Prim.Native.Nat.{ℕ, ◌≤◌}
use lib.ListN.{length, get_or, drop}
use borrow.Author.Tests.{le-leb}
use Rattle.board.specs.declared.Board.{Board}
use Rattle.words.specs.Words.{word_at, byte_in, half_in, within, laid, a_byte, a_half}
use Rattle.words.proofs.Within.{byte_kept, half_kept, switch_kept}
use Rattle.boardwords.specs.Board.{board_size, ports_of, side_of, block_of, blitter_of, board_of, board_words, board_most, board_fits}

-- in front of any words
module _ (b : Board) (rest : List ℕ) (fits : board_fits (board_words b ++ rest) ≡ true) where
  board_back : board_of (board_words b ++ rest) ≡ b
  unfolding board_of ports_of side_of block_of blitter_of board_words board_most
  board_back =
      let words : List ℕ = board_words b ++ rest in
      let byte : ((k : ℕ) → get_or board_most k 0 ≡ a_byte → byte_in words k ≡ word_at words k) = byte_kept board_most words fits in
      let half : ((k : ℕ) → get_or board_most k 0 ≡ a_half → half_in words k ≡ word_at words k) = half_kept board_most words fits in
      simp (
        byte 0 refl,
        byte 3 refl,
        byte 4 refl,
        byte 5 refl,
        byte 6 refl,
        byte 10 refl,
        byte 11 refl,
        byte 12 refl,
        byte 13 refl,
        byte 14 refl,
        byte 15 refl,
        byte 16 refl,
        byte 17 refl,
        byte 18 refl,
        byte 19 refl,
        byte 20 refl,
        byte 21 refl,
        byte 22 refl,
        byte 23 refl,
        byte 24 refl,
        byte 25 refl,
        byte 26 refl,
        byte 27 refl,
        byte 28 refl,
        byte 29 refl,
        byte 30 refl,
        byte 31 refl,
        byte 32 refl,
        half 33 refl,
        half 34 refl,
        switch_kept,
      )

-- words behind a state's do not matter to whether it fits
board_rest : (b : Board) (rest : List ℕ) → board_fits (board_words b) ≡ true → board_fits (board_words b ++ rest) ≡ true
unfolding board_words board_most within
board_rest b rest fits = fits

pub board_crosses :
    (b : Board) (words : List ℕ) → board_size ≤ length words → board_fits (board_words b) ≡ true
    → (board_fits (laid (board_words b) words) ≡ true) × (board_of (laid (board_words b) words) ≡ b)
unfolding board_words
board_crosses b words room fits =
    let front = board_rest b (drop board_size words) fits in
    simp (le-leb board_size (length words) room) (front, board_back b (drop board_size words) front)
