-- Boards as the programs write them, and a block as the bytes of a list.
use Rattle.std.specs.Prelude.{List, [], ◌∷◌, ℕ, ◌+◌, ◌/◌, ◌%◌}
use Rattle.block.specs.declared.Block.{Block}
use Rattle.board.specs.Board.{new_board, write_board}
use Rattle.board.specs.declared.Board.{Board}

-- the three bytes of an address written to registers, from one on, the lowest first
abbrev pub addressed : ℕ → ℕ → Board → Board
addressed offset address b =
    write_board (write_board (write_board b offset (address % 256)) (offset + 1) (address / 256 % 256)) (offset + 2) (address / 65536 % 256)

-- a new board with its XDL_ADR and VIDEO_CONTROL written
abbrev pub pointed : ℕ → ℕ → Board
pointed address video = write_board (addressed 0x41 address new_board) 0x40 video

-- a new board that is told to start its list at an address
abbrev pub started : ℕ → Board
started address = write_board (addressed 0x50 address new_board) 0x53 1

-- the 21 bytes of a block, in the manual's order
abbrev pub bytes_of : Block → List ℕ
bytes_of b =
    b.source.adr0 ∷ b.source.adr1 ∷ b.source.adr2 ∷ b.source.y0 ∷ b.source.y1 ∷ b.source.x
    ∷ b.dest.adr0 ∷ b.dest.adr1 ∷ b.dest.adr2 ∷ b.dest.y0 ∷ b.dest.y1 ∷ b.dest.x
    ∷ b.width0 ∷ b.width1 ∷ b.height ∷ b.andmask ∷ b.xormask ∷ b.hitmask ∷ b.zoom ∷ b.pattern ∷ b.control ∷ []
