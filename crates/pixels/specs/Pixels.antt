-- Document 02, A5: the pixels of one overlay line, from its settings, VIDEO_CONTROL and memory; the manual, "Overlay modes" and "Transparent Overlay colours".
use Rattle.std.specs.Prelude.{Bool, true, false, cond, not, ◌&&◌, ◌||◌, List, [], ◌∷◌, ℕ, zero, suc, ◌+◌, ◌-◌, ◌*◌, ◌/◌, ◌%◌, eqb, ltb, get_or}
use Rattle.laws.specs.Bit.{bit}
use Rattle.settings.specs.declared.Overlay.{Overlay}
use Rattle.settings.specs.declared.Settings.{Settings}
use Rattle.vram.specs.Memory.{cell_at}
use Rattle.pixels.specs.declared.fills.Dot.{Dot}

-- tables by the mode: 0 off, 1 text, 2 SR, 3 HR, 4 LR; a row by the width: 0 narrow, 1 normal, 2 wide
-- "SR has 256, 320 or 336 pixels by width, LR 128, 160 or 168, HR and text 512, 640 or 672; off gives none"
abbrev pub pixel_table : List (List ℕ)
pixel_table =
    (0 ∷ 0 ∷ 0 ∷ [])
    ∷ (512 ∷ 640 ∷ 672 ∷ [])
    ∷ (256 ∷ 320 ∷ 336 ∷ [])
    ∷ (512 ∷ 640 ∷ 672 ∷ [])
    ∷ (128 ∷ 160 ∷ 168 ∷ [])
    ∷ []

unfoldable pub pixel_count : ℕ → ℕ → ℕ
pixel_count mode width = get_or (get_or pixel_table mode []) width 0

abbrev pub line_count : Settings → ℕ
line_count s = pixel_count s.overlay.mode s.look.width

-- a line's data is a row of cells. Text: a cell is "char (1 byte), attribute (1 byte)" and shows 8 pixels; SR and LR: "Every pixel is represented by a byte";
-- HR: "A byte .. contains information about 2 pixels, 4 bits each"
abbrev pub cell_bytes : ℕ → ℕ
cell_bytes mode = get_or (0 ∷ 2 ∷ 1 ∷ 1 ∷ 1 ∷ []) mode 0

abbrev pub cell_pixels : ℕ → ℕ
cell_pixels mode = get_or (0 ∷ 8 ∷ 1 ∷ 2 ∷ 1 ∷ []) mode 0

-- the column that pixel i shows: in text hscroll shifts the line to the left, and in no other mode
abbrev pub column_of : Overlay → ℕ → ℕ
column_of o i = cond (eqb o.mode 1) (i + o.hscroll) i

-- which of its cell's pixels it is, from the left; how far from the overlay address byte b of that cell is; and its address
abbrev pub part_of : Overlay → ℕ → ℕ
part_of o i = column_of o i % cell_pixels o.mode

abbrev pub offset_of : Overlay → ℕ → ℕ → ℕ
offset_of o i b = column_of o i / cell_pixels o.mode * cell_bytes o.mode + b

abbrev pub data_address : Overlay → ℕ → ℕ → ℕ
data_address o i b = o.address + offset_of o i b

-- a font has 2,048 bytes, a character 8; "the font line is the text counter"
abbrev pub font_address : Overlay → ℕ → ℕ
font_address o char = o.font * 2048 + char * 8 + o.counter

-- A dot is a pixel before palette and flags: its colour, and whether it is clear, that is transparent while no_trans is 0.
-- SR, LR and HR, II: colour "0" is transparent, in HR the nibble 0
abbrev pub plain : ℕ → Dot
plain colour = record { colour = colour; clear = eqb colour 0 }

-- HR: "Leftmost pixel" is b7 to b4
abbrev pub nibble_of : ℕ → ℕ → ℕ
nibble_of v part = cond (eqb part 0) (v / 16) (v % 16)

-- text: a set pixel has "attribute value & 127"; of one that is not set, II: "the background is transparent, if the bit 7 of the attribute is cleared", and its colour
-- is 128 then, else "(attribute & 127) + 128", which is the attribute
abbrev pub inked : ℕ → Bool → Dot
inked attribute set =
    cond set
    (record { colour = attribute % 128; clear = false })
    (cond (ltb attribute 128) (record { colour = 128; clear = true }) (record { colour = attribute; clear = false }))

-- "bit 7 is the leftmost pixel (ours)"
abbrev pub text_dot : List ℕ → Overlay → ℕ → Dot
text_dot mem o i =
    let char = cell_at mem (data_address o i 0) in
    let attribute = cell_at mem (data_address o i 1) in
    inked attribute (bit (cell_at mem (font_address o char)) (7 - part_of o i))

-- SR, LR and HR
abbrev pub byte_dot : List ℕ → Overlay → ℕ → Dot
byte_dot mem o i =
    let v = cell_at mem (data_address o i 0) in
    plain (cond (eqb o.mode 3) (nibble_of v (part_of o i)) v)

unfoldable pub dot_at : List ℕ → Overlay → ℕ → Dot
dot_at mem o i = cond (eqb o.mode 1) (text_dot mem o i) (byte_dot mem o i)

-- no_trans is bit 2 of VIDEO_CONTROL, trans15 bit 3. I: with no_trans "no Overlay colour is transparent". II: without it, a clear dot. III: with trans15 besides
-- "each colour with palette index $HF", in HR "colour index $F"
abbrev pub transparent : ℕ → Dot → Bool
transparent video d = not (bit video 2) && (d.clear || (bit video 3 && eqb (d.colour % 16) 15))

-- "palette times 256 plus colour, and 65,535 where transparent"
abbrev pub shade_of : ℕ → ℕ → Dot → ℕ
shade_of video palette d = cond (transparent video d) 65535 (palette * 256 + d.colour)

-- pixel i of the line. "with the map on this part answers by the XDL's palette too"
unfoldable pub pixel_at : List ℕ → ℕ → Settings → ℕ → ℕ
pixel_at mem video s i = shade_of video s.look.palette (dot_at mem s.overlay i)

-- what f gives for n numbers from i on
unfoldable pub each : (ℕ → ℕ) → ℕ → ℕ → List ℕ
each f i zero = []
each f i (suc n) = f i ∷ each f (i + 1) n
