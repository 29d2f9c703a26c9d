-- One pixel as the code's loops come to it: by its byte, by its nibble, and by its character. Assumes nothing.
use mathlib.Core.Path.{◌≡◌, sym, ap, ap₂, ◌∙◌}
use mathlib.Core.List.{List}
use Prim.Native.Nat.{ℕ, ◌+◌, ◌*◌, ◌/◌, ◌%◌, ◌<◌}
use native.Mathlib.Omega.{arith}
use lib.ListN.{get_or}
use Rattle.pixels.specs.Pixels.{plain, shade_of, each}
use Rattle.pixels.specs.Fills.{byte_pixel, nibble_colour, nibble_pixel, glyph_of, glyph_pixel, column_pixel}
use Rattle.pixels.specs.declared.text.Glyph.{Glyph}
use Rattle.pixels.specs.declared.text.Inks.{Inks}
use Rattle.pixels.proofs.Each.{each_same, each_get}

-- colours drawn as bytes are the nibbles' pixels
pub nibbles_drawn :
    (piece colours : List ℕ) (video palette n m : ℕ) → m ≡ n → colours ≡ each (nibble_colour piece) 0 m
    → each (byte_pixel colours video palette) 0 n ≡ each (nibble_pixel piece video palette) 0 n
nibbles_drawn piece colours video palette n m size is =
    each_same (byte_pixel colours video palette) (nibble_pixel piece video palette) 0 0 n
    (λ j q.
    ap (λ (v : ℕ). shade_of video palette (plain v))
    (ap (λ (l : List ℕ). get_or l (0 + j) 0) is ∙ each_get (nibble_colour piece) m (0 + j) (omega arith)))

module _ (piece mem : List ℕ) (font : ℕ) (inks : Inks) where
  -- its pixels from a part on
  pub column_part :
      (c part : ℕ) (g : Glyph) → g ≡ glyph_of piece mem font inks c → (i : ℕ) → part + i < 8
      → glyph_pixel g (part + i) ≡ column_pixel piece mem font inks (c * 8 + part) i
  column_part c part g is i h =
      let char : (c * 8 + part + i) / 8 ≡ c = omega arith in
      let place : (c * 8 + part + i) % 8 ≡ part + i = omega arith in
      ap (λ (x : Glyph). glyph_pixel x (part + i)) is
      ∙ sym (ap₂ (λ (x k : ℕ). glyph_pixel (glyph_of piece mem font inks x) k) char place)

  -- all eight of the c-th behind character `from`
  pub column_whole :
      (from c : ℕ) (g : Glyph) → g ≡ glyph_of piece mem font inks (from + c)
      → (j : ℕ) → j < 8 → column_pixel piece mem font inks (from * 8) (c * 8 + j) ≡ glyph_pixel g j
  column_whole from c g is j h =
      let char : (from * 8 + (c * 8 + j)) / 8 ≡ from + c = omega arith in
      let part : (from * 8 + (c * 8 + j)) % 8 ≡ j = omega arith in
      ap₂ (λ (x k : ℕ). glyph_pixel (glyph_of piece mem font inks x) k) char part ∙ sym (ap (λ (x : Glyph). glyph_pixel x j) is)

  -- columns from one on are those from an earlier one, further on
  pub column_behind : (a b i j : ℕ) → a + i ≡ b + j → column_pixel piece mem font inks a i ≡ column_pixel piece mem font inks b j
  column_behind a b i j e = ap (λ (column : ℕ). glyph_pixel (glyph_of piece mem font inks (column / 8)) (column % 8)) e
