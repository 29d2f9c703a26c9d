-- Document 01, "The blitter": a block, its sizes, and the two addresses of its byte at a row and a column.
use Rattle.std.specs.Prelude.{Bool, cond, ◌&&◌, List, ℕ, ◌+◌, ◌*◌, ◌/◌, ◌%◌, eqb}
use Rattle.laws.specs.Bit.{bit}
use Rattle.vram.specs.Memory.{byte_at}
use Rattle.step.specs.Step.{side_address}
use Rattle.step.specs.declared.Side.{Side}
use Rattle.block.specs.declared.Block.{Block}

-- the six bytes of a side, some bytes behind the block's first
unfoldable pub side_at : List ℕ → ℕ → ℕ → Side
side_at mem list k =
    record {
      adr0 = byte_at mem list k;
      adr1 = byte_at mem list (k + 1);
      adr2 = byte_at mem list (k + 2);
      y0 = byte_at mem list (k + 3);
      y1 = byte_at mem list (k + 4);
      x = byte_at mem list (k + 5);
    }

-- "the 21 bytes of the block, as the manual orders them, from the list address on"
unfoldable pub block_at : List ℕ → ℕ → Block
block_at mem list =
    record {
      source = side_at mem list 0;
      dest = side_at mem list 6;
      width0 = byte_at mem list 12;
      width1 = byte_at mem list 13;
      height = byte_at mem list 14;
      andmask = byte_at mem list 15;
      xormask = byte_at mem list 16;
      hitmask = byte_at mem list 17;
      zoom = byte_at mem list 18;
      pattern = byte_at mem list 19;
      control = byte_at mem list 20;
    }

-- no block is held: every byte 0
unfoldable pub no_side : Side
no_side = record { adr0 = 0; adr1 = 0; adr2 = 0; y0 = 0; y1 = 0; x = 0 }

unfoldable pub no_block : Block
no_block =
    record {
      source = no_side;
      dest = no_side;
      width0 = 0;
      width1 = 0;
      height = 0;
      andmask = 0;
      xormask = 0;
      hitmask = 0;
      zoom = 0;
      pattern = 0;
      control = 0;
    }

-- whether every byte is 0
unfoldable pub none_side : Side → Bool
none_side s = eqb s.adr0 0 && eqb s.adr1 0 && eqb s.adr2 0 && eqb s.y0 0 && eqb s.y1 0 && eqb s.x 0

unfoldable pub is_none : Block → Bool
is_none b =
    none_side b.source
    && none_side b.dest
    && eqb b.width0 0
    && eqb b.width1 0
    && eqb b.height 0
    && eqb b.andmask 0
    && eqb b.xormask 0
    && eqb b.hitmask 0
    && eqb b.zoom 0
    && eqb b.pattern 0
    && eqb b.control 0

-- "W = blt_width+1 (9 bits), H = blt_height+1, zoom ZX and ZY 1..8"
abbrev pub width_of : Block → ℕ
width_of b = b.width0 + 256 * (b.width1 % 2) + 1

abbrev pub height_of : Block → ℕ
height_of b = b.height + 1

abbrev pub zoom_x : Block → ℕ
zoom_x b = b.zoom % 8 + 1

abbrev pub zoom_y : Block → ℕ
zoom_y b = b.zoom / 16 % 8 + 1

-- "pattern width Q (bits 0..5, plus 1) when IN_USE, else Q = W"
unfoldable pub pattern_of : Block → ℕ
pattern_of b = cond (bit b.pattern 7) (b.pattern % 64 + 1) (width_of b)

-- "Columns run 0..W·ZX−1 inside rows 0..H·ZY−1"
unfoldable pub columns_of : Block → ℕ
columns_of b = width_of b * zoom_x b

unfoldable pub rows_of : Block → ℕ
rows_of b = height_of b * zoom_y b

-- the control byte: MODE, and NEXT (bit 3)
abbrev pub mode_of : Block → ℕ
mode_of b = b.control % 8

abbrev pub next_of : Block → Bool
next_of b = bit b.control 3

-- "destination = dest_adr + row·dest_step_y + col·dest_step_x"
unfoldable pub dest_address : Block → ℕ → ℕ → ℕ
dest_address b row col = side_address b.dest row col

-- "source = source_adr + floor(row/ZY)·source_step_y + (floor(col/ZX) mod Q)·source_step_x"
unfoldable pub source_address : Block → ℕ → ℕ → ℕ
source_address b row col = side_address b.source (row / zoom_y b) (col / zoom_x b % pattern_of b)
