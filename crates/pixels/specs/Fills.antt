-- What the code fills a line of each mode with, in its own terms: promises of functions below `draw`, not of the call.
use Rattle.std.specs.Prelude.{true, cond, not, ◌&&◌, List, ℕ, ◌+◌, ◌-◌, ◌*◌, ◌/◌, ◌%◌, eqb, ltb, get_or}
use Rattle.laws.specs.Bit.{bit}
use Rattle.settings.specs.declared.Settings.{Settings}
use Rattle.vram.specs.Memory.{byte_at}
use Rattle.pixels.specs.Pixels.{plain, nibble_of, shade_of, each}
use Rattle.pixels.specs.Reads.{read_bytes}
use Rattle.pixels.specs.declared.text.Glyph.{Glyph}
use Rattle.pixels.specs.declared.text.Inks.{Inks}

-- the data of a line in one piece
abbrev pub piece_of : List ℕ → Settings → List ℕ
piece_of mem s = each (byte_at mem s.overlay.address) 0 (read_bytes s)

-- SR and LR: a pixel a byte
abbrev pub byte_pixel : List ℕ → ℕ → ℕ → ℕ → ℕ
byte_pixel piece video palette i = shade_of video palette (plain (get_or piece i 0))

-- HR: two colours a byte, and a pixel a colour
abbrev pub nibble_colour : List ℕ → ℕ → ℕ
nibble_colour piece i = nibble_of (get_or piece (i / 2) 0) (i % 2)

abbrev pub nibble_pixel : List ℕ → ℕ → ℕ → ℕ → ℕ
nibble_pixel piece video palette i = shade_of video palette (plain (nibble_colour piece i))

-- text: what its attributes are coloured by
abbrev pub inks_of : ℕ → ℕ → Inks
inks_of video palette =
    record {
      palette = palette;
      bare = shade_of video palette (record { colour = 128; clear = true });
      fifteen = not (bit video 2) && bit video 3;
    }

abbrev pub ink_of : Inks → ℕ → ℕ
ink_of k colour = cond (k.fifteen && eqb (colour % 16) 15) 65535 (k.palette * 256 + colour)

abbrev pub background_of : Inks → ℕ → ℕ
background_of k attribute = cond (ltb attribute 128) k.bare (ink_of k attribute)

-- what character c of the line shows, with the address of its font line; and its pixel at a part
abbrev pub glyph_of : List ℕ → List ℕ → ℕ → Inks → ℕ → Glyph
glyph_of piece mem font k c =
    let attribute = get_or piece (c * 2 + 1) 0 in
    record {
      bits = byte_at mem font (get_or piece (c * 2) 0 * 8);
      set = ink_of k (attribute % 128);
      unset = background_of k attribute;
    }

abbrev pub glyph_pixel : Glyph → ℕ → ℕ
glyph_pixel g part = cond (bit g.bits (7 - part)) g.set g.unset

-- whether it is set, as a number; and the same of each nibble's four parts
abbrev pub lit_of : ℕ → ℕ → ℕ
lit_of bits part = cond (bit bits (7 - part)) 1 0

abbrev pub lit_table : List ℕ
lit_table = each (λ k. cond (bit (k / 4) (3 - k % 4)) 1 0) 0 64

-- the pixel i columns behind a column
abbrev pub column_pixel : List ℕ → List ℕ → ℕ → Inks → ℕ → ℕ → ℕ
column_pixel piece mem font k from i = let column = from + i in glyph_pixel (glyph_of piece mem font k (column / 8)) (column % 8)
