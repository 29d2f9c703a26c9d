-- include/deskboard.h: a board as words, and back.
use Rattle.std.specs.Prelude.{Bool, List, [], ◌∷◌, ◌++◌, ℕ, ◌+◌}
use Rattle.step.specs.declared.Side.{Side}
use Rattle.block.specs.declared.Block.{Block}
use Rattle.blitter.specs.declared.Blitter.{Blitter}
use Rattle.board.specs.declared.Ports.{Ports}
use Rattle.board.specs.declared.Board.{Board}
use Rattle.words.specs.Words.{word_at, byte_in, half_in, switch_in, switch_word, a_byte, a_half, a_word, within}

-- "A board is 35 words"
abbrev pub board_size : ℕ
board_size = 35

-- words 0 to 6: VIDEO_CONTROL, XDL_ADR, BL_ADR, P0 to P3
unfoldable pub ports_of : List ℕ → Ports
ports_of words =
    record {
      video = byte_in words 0;
      xdladr = word_at words 1;
      bladr = word_at words 2;
      p0 = byte_in words 3;
      p1 = byte_in words 4;
      p2 = byte_in words 5;
      p3 = byte_in words 6;
    }

-- the six bytes of a side from place k on
unfoldable pub side_of : List ℕ → ℕ → Side
side_of words k =
    record {
      adr0 = byte_in words k;
      adr1 = byte_in words (k + 1);
      adr2 = byte_in words (k + 2);
      y0 = byte_in words (k + 3);
      y1 = byte_in words (k + 4);
      x = byte_in words (k + 5);
    }

-- "12..32 the 21 bytes of the block, as the manual orders them"
unfoldable pub block_of : List ℕ → Block
block_of words =
    record {
      source = side_of words 12;
      dest = side_of words 18;
      width0 = byte_in words 24;
      width1 = byte_in words 25;
      height = byte_in words 26;
      andmask = byte_in words 27;
      xormask = byte_in words 28;
      hitmask = byte_in words 29;
      zoom = byte_in words 30;
      pattern = byte_in words 31;
      control = byte_in words 32;
    }

-- words 7 to 11: IRQE, IRQF, list address, flags, collision code; then the block; 33 and 34: row and column
unfoldable pub blitter_of : List ℕ → Blitter
blitter_of words =
    record {
      irqe = switch_in words 7;
      irqf = switch_in words 8;
      list = word_at words 9;
      flags = byte_in words 10;
      note = record { code = byte_in words 11 };
      block = block_of words;
      row = half_in words 33;
      col = half_in words 34;
    }

unfoldable pub board_of : List ℕ → Board
board_of words = record { ports = ports_of words; blitter = blitter_of words }

-- the other way round, in the same order: the registers, the list address, the flags and the code
abbrev pub register_words : Board → List ℕ
register_words b =
    let p = b.ports in
    let t = b.blitter in
    p.video ∷ p.xdladr ∷ p.bladr ∷ p.p0 ∷ p.p1 ∷ p.p2 ∷ p.p3
    ∷ switch_word t.irqe ∷ switch_word t.irqf ∷ t.list ∷ t.flags ∷ t.note.code ∷ []

abbrev pub side_words : Side → List ℕ
side_words s = s.adr0 ∷ s.adr1 ∷ s.adr2 ∷ s.y0 ∷ s.y1 ∷ s.x ∷ []

abbrev pub shape_words : Block → List ℕ
shape_words b =
    b.width0 ∷ b.width1 ∷ b.height ∷ b.andmask ∷ b.xormask ∷ b.hitmask ∷ b.zoom ∷ b.pattern ∷ b.control ∷ []

abbrev pub block_words : Block → List ℕ
block_words b = (side_words b.source ++ side_words b.dest) ++ shape_words b

abbrev pub position_words : Board → List ℕ
position_words b = b.blitter.row ∷ b.blitter.col ∷ []

unfoldable pub board_words : Board → List ℕ
board_words b = (register_words b ++ block_words b.blitter.block) ++ position_words b

-- "out of its field's type (a byte above 255, a switch that is neither 0 nor 1, a 16-bit field above 65,535)": the largest word of each field
abbrev pub register_most : List ℕ
register_most =
    a_byte ∷ a_word ∷ a_word ∷ a_byte ∷ a_byte ∷ a_byte ∷ a_byte
    ∷ 1 ∷ 1 ∷ a_word ∷ a_byte ∷ a_byte ∷ []

abbrev pub block_most : List ℕ
block_most =
    a_byte ∷ a_byte ∷ a_byte ∷ a_byte ∷ a_byte ∷ a_byte
    ∷ a_byte ∷ a_byte ∷ a_byte ∷ a_byte ∷ a_byte ∷ a_byte
    ∷ a_byte ∷ a_byte ∷ a_byte ∷ a_byte ∷ a_byte ∷ a_byte ∷ a_byte ∷ a_byte ∷ a_byte ∷ []

abbrev pub position_most : List ℕ
position_most = a_half ∷ a_half ∷ []

unfoldable pub board_most : List ℕ
board_most = (register_most ++ block_most) ++ position_most

abbrev pub board_fits : List ℕ → Bool
board_fits words = within board_most words 0
