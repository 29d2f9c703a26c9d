-- A pixel of each mode is what the code fills a line of that mode with, from the line's data in one piece. Assumes nothing.
use mathlib.Core.Path.{◌≡◌, refl, sym, ap, ap₂, ◌∙◌, subst}
use mathlib.Core.Bool.{Bool, true, false, cond}
use mathlib.Core.List.{List}
use Prim.Native.Nat.{ℕ, zero, suc, ◌+◌, ◌-◌, ◌*◌, ◌/◌, ◌%◌, ◌≤◌, ◌<◌}
use native.Mathlib.Nat.{add-zero, add_comm}
use native.Mathlib.Omega.{arith}
use lib.Dec.{ltb}
use lib.ListN.{length, get_or}
use Rattle.laws.specs.Bit.{bit}
use Rattle.settings.specs.declared.Settings.{Settings}
use Rattle.settings.specs.Settings.{sound_settings}
use Rattle.settings.proofs.Sound.{settings_fit}
use Rattle.vram.specs.Memory.{cell_at, byte_at}
use Rattle.pixels.specs.Pixels.{pixel_count, line_count, font_address, plain, nibble_of, inked, shade_of, dot_at, pixel_at, each}
use Rattle.pixels.specs.Reads.{data_bytes, read_bytes}
use Rattle.pixels.specs.Fills.{piece_of, byte_pixel, nibble_pixel, inks_of, ink_of, background_of, column_pixel}
use Rattle.pixels.specs.declared.text.Inks.{Inks}
use Rattle.pixels.proofs.Counts.{off_none, off_no_byte, count_most, count_cells, text_some, pixels_per_byte}
use Rattle.pixels.proofs.Each.{each_length, each_same, each_get}
use Rattle.pixels.proofs.Inks.{set_shade, background_shade}
use Rattle.pixels.proofs.Bytes.{text_within, text_enough}

-- the two entries of a character are its dots' shades
shade_ink : (video palette attribute : ℕ) (b : Bool) → cond b (shade_of video palette (inked attribute true)) (shade_of video palette (inked attribute false)) ≡ shade_of video palette (inked attribute b)
shade_ink video palette attribute true = refl
shade_ink video palette attribute false = refl

pub record TextBounds (bytes count hscroll : ℕ) : Type 0 where
  pub cells : count % 8 ≡ 0
  pub some : 8 ≤ count
  pub scroll : hscroll < 8
  pub even : bytes % 2 ≡ 0
  pub room : count + hscroll ≤ bytes * 4

module _ (mem : List ℕ) (video : ℕ) (s : Settings) where
  -- a byte of the piece
  piece_at : (k : ℕ) → k < read_bytes s → get_or (piece_of mem s) k 0 ≡ byte_at mem s.overlay.address k
  piece_at k h = each_get (byte_at mem s.overlay.address) (read_bytes s) k h

  at_offset :
      (i k : ℕ) → i ≡ k
      → shade_of video s.look.palette (plain (byte_at mem s.overlay.address i)) ≡ shade_of video s.look.palette (plain (cell_at mem (s.overlay.address + k)))
  at_offset i k e = ap (λ (x : ℕ). shade_of video s.look.palette (plain (cell_at mem (s.overlay.address + x)))) e

  -- text: the data of mode 1, and what it needs
  read_text : s.overlay.mode ≡ 1 → data_bytes 1 s.look.width + cond (ltb 0 s.overlay.hscroll) 2 0 ≡ read_bytes s
  read_text e = rw e

  -- byte b of the character of pixel i
  text_byte : s.overlay.mode ≡ 1 → s.overlay.hscroll < 8 → (i b : ℕ) → i < pixel_count 1 s.look.width → b < 2 → (i + s.overlay.hscroll) / 8 * 2 + b < read_bytes s
  text_byte e small i b h q =
      let w = s.look.width in
      subst (λ (n : ℕ). (i + s.overlay.hscroll) / 8 * 2 + b < n) (read_text e)
      (text_within (pixel_count 1 w) (data_bytes 1 w) s.overlay.hscroll i b (count_cells 1 w) (pixels_per_byte 1 w) small h q)

  -- its entry, from character and attribute
  text_entry : ℕ → ℕ → ℕ → ℕ
  text_entry part char attribute =
      cond (bit (cell_at mem (font_address s.overlay char)) (7 - part))
      (shade_of video s.look.palette (inked attribute true))
      (shade_of video s.look.palette (inked attribute false))

  -- the same by the code's inks, from the address of the font line
  ink_entry :
      (part char attribute : ℕ)
      → cond (bit (byte_at mem (font_address s.overlay 0) (char * 8)) (7 - part)) (ink_of (inks_of video s.look.palette) (attribute % 128)) (background_of (inks_of video s.look.palette) attribute)
      ≡ text_entry part char attribute
  unfolding text_entry
  ink_entry part char attribute =
      let same : font_address s.overlay 0 + char * 8 ≡ font_address s.overlay char = omega arith in
      λ k. cond (bit (cell_at mem (same k)) (7 - part)) (set_shade video s.look.palette attribute k) (background_shade video s.look.palette attribute k)

  text_pixel :
      s.overlay.mode ≡ 1 → s.overlay.hscroll < 8 → (i : ℕ) → i < pixel_count 1 s.look.width
      → column_pixel (piece_of mem s) mem (font_address s.overlay 0) (inks_of video s.look.palette) s.overlay.hscroll i ≡ pixel_at mem video s i
  unfolding pixel_at dot_at text_entry
  text_pixel e small i h =
      let o = s.overlay in
      let c = (i + o.hscroll) / 8 in
      let part = (i + o.hscroll) % 8 in
      let piece = piece_of mem s in
      let attribute = byte_at mem o.address (c * 2 + 1) in
      let set : ℕ → Bool = λ k. bit (cell_at mem (font_address o (cell_at mem (o.address + k)))) (7 - part) in
      let first = piece_at (c * 2) (omega (arith, text_byte e small i 0 h (omega arith))) in
      let second = piece_at (c * 2 + 1) (text_byte e small i 1 h (omega arith)) in
      ink_entry ((o.hscroll + i) % 8) (get_or piece ((o.hscroll + i) / 8 * 2) 0) (get_or piece ((o.hscroll + i) / 8 * 2 + 1) 0)
      ∙ ap (λ (k : ℕ). text_entry (k % 8) (get_or piece (k / 8 * 2) 0) (get_or piece (k / 8 * 2 + 1) 0)) (add_comm o.hscroll i)
      ∙ (ap₂ (text_entry part) first second
      ∙ (shade_ink video s.look.palette attribute (set (c * 2))
      ∙ rw e (ap (λ (k : ℕ). shade_of video s.look.palette (inked attribute (set k))) (sym (add-zero (c * 2))))))

  nibble_pixel_lem :
      s.overlay.mode ≡ 3 → (i : ℕ) → i < pixel_count 3 s.look.width
      → nibble_pixel (piece_of mem s) video s.look.palette i ≡ pixel_at mem video s i
  unfolding pixel_at dot_at
  nibble_pixel_lem e i h =
      let o = s.overlay in
      let inside : i / 2 < read_bytes s = rw e (omega (arith, pixels_per_byte 3 s.look.width)) in
      let same : i / 2 ≡ i / 2 * 1 + 0 = omega arith in
      ap (λ (v : ℕ). shade_of video s.look.palette (plain (nibble_of v (i % 2)))) (piece_at (i / 2) inside)
      ∙ rw e (ap (λ (k : ℕ). shade_of video s.look.palette (plain (nibble_of (cell_at mem (o.address + k)) (i % 2)))) same)

  hr_count : s.overlay.mode ≡ 3 → read_bytes s * 2 ≡ line_count s
  hr_count e = rw e (omega (arith, pixels_per_byte 3 s.look.width))

  -- SR and LR, which have a byte a pixel; and off, which has none
  byte_mode :
      (m : ℕ) → s.overlay.mode ≡ m → m < 5 → (m ≡ 1 → ⊥) → (m ≡ 3 → ⊥)
      → (read_bytes s ≡ pixel_count m s.look.width)
      × ((i : ℕ) → i < pixel_count m s.look.width → shade_of video s.look.palette (plain (byte_at mem s.overlay.address i)) ≡ pixel_at mem video s i)
  unfolding pixel_at dot_at
  byte_mode zero e known one three =
      let w = s.look.width in
      (rw e (omega (arith, off_no_byte w, off_none w)), λ i h. absurd (let none = off_none w in omega arith))
  byte_mode (suc zero) e known one three = absurd (one refl)
  byte_mode (suc (suc zero)) e known one three =
      (rw e (omega (arith, pixels_per_byte 2 s.look.width)), λ i h. rw e (at_offset i (i / 1 * 1 + 0) (omega arith)))
  byte_mode (suc (suc (suc zero))) e known one three = absurd (three refl)
  byte_mode (suc (suc (suc (suc zero)))) e known one three =
      (rw e (omega (arith, pixels_per_byte 4 s.look.width)), λ i h. rw e (at_offset i (i / 1 * 1 + 0) (omega arith)))
  byte_mode (suc (suc (suc (suc (suc m))))) e known one three = absurd (omega arith)

  -- the whole line, from the piece
  module _ (piece : List ℕ) (n : ℕ) (is : piece ≡ piece_of mem s) (all : n ≡ line_count s) where
    same_line : (g : ℕ → ℕ) → ((i : ℕ) → i < n → g i ≡ pixel_at mem video s i) → each g 0 n ≡ each (pixel_at mem video s) 0 n
    same_line g h = each_same g (pixel_at mem video s) 0 0 n (λ j q. h (0 + j) (omega arith))

    piece_long : length piece ≡ read_bytes s
    piece_long = ap length is ∙ each_length (byte_at mem s.overlay.address) 0 (read_bytes s)

    below : (m i : ℕ) → s.overlay.mode ≡ m → i < n → i < pixel_count m s.look.width
    below m i e h = subst (λ (k : ℕ). i < pixel_count k s.look.width) e (omega (arith, all, h))

    -- what the loop of text asks for
    pub text_bounds : sound_settings s ≡ true → s.overlay.mode ≡ 1 → TextBounds (length piece) n s.overlay.hscroll
    text_bounds sound e =
        let fit = settings_fit s sound in
        let w = s.look.width in
        let count : n ≡ pixel_count 1 w = all ∙ ap (λ (m : ℕ). pixel_count m w) e in
        let cells = count_cells 1 w in
        let some = text_some w (omega (arith, fit.look.width)) in
        let long : length piece ≡ data_bytes 1 w + cond (ltb 0 s.overlay.hscroll) 2 0 = piece_long ∙ sym (read_text e) in
        let enough = text_enough (pixel_count 1 w) (data_bytes 1 w) s.overlay.hscroll cells (pixels_per_byte 1 w) fit.overlay.hscroll in
        record {
          cells = omega (arith, count, cells);
          some = omega (arith, count, cells, some);
          scroll = fit.overlay.hscroll;
          even = omega (arith, long, enough.0);
          room = omega (arith, count, long, enough.1);
        }

    pub text_line :
        s.overlay.mode ≡ 1 → s.overlay.hscroll < 8
        → (font : ℕ) (inks : Inks) → font ≡ font_address s.overlay 0 → inks ≡ inks_of video s.look.palette
        → each (column_pixel piece mem font inks s.overlay.hscroll) 0 n ≡ each (pixel_at mem video s) 0 n
    text_line e small font inks at by =
        (λ k. each (column_pixel (is k) mem (at k) (by k) s.overlay.hscroll) 0 n)
        ∙ same_line _ (λ i q. text_pixel e small i (below 1 i e q))

    pub hr_bytes : s.overlay.mode ≡ 3 → n ≡ length piece * 2
    hr_bytes e = all ∙ (sym (hr_count e) ∙ sym (ap (λ (k : ℕ). k * 2) piece_long))

    pub hr_most : n ≤ 672
    hr_most = omega (arith, all, count_most s.overlay.mode s.look.width)

    pub nibbles_line : s.overlay.mode ≡ 3 → each (nibble_pixel piece video s.look.palette) 0 n ≡ each (pixel_at mem video s) 0 n
    nibbles_line e =
        ap (λ (p : List ℕ). each (nibble_pixel p video s.look.palette) 0 n) is
        ∙ same_line _ (λ i q. nibble_pixel_lem e i (below 3 i e q))

    module _ (known : s.overlay.mode < 5) (one : s.overlay.mode ≡ 1 → ⊥) (three : s.overlay.mode ≡ 3 → ⊥) where
      pub sr_bytes : n ≡ length piece
      sr_bytes = all ∙ (sym (byte_mode s.overlay.mode refl known one three).0 ∙ sym piece_long)

      pub bytes_line : each (byte_pixel piece video s.look.palette) 0 n ≡ each (pixel_at mem video s) 0 n
      bytes_line =
          ap (λ (p : List ℕ). each (byte_pixel p video s.look.palette) 0 n) is
          ∙ same_line _ (λ i q. ap (λ (v : ℕ). shade_of video s.look.palette (plain v)) (piece_at i (omega (arith, piece_long, sr_bytes, q))) ∙ (byte_mode s.overlay.mode refl known one three).1 i (omega (arith, all, q)))
