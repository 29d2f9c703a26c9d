-- Which bytes a line is drawn from: its data, each byte of it and none behind; and memories that agree there draw alike. Assumes nothing.
use mathlib.Core.Path.{◌≡◌, refl, sym, ap, ap₂, ◌∙◌, subst}
use mathlib.Core.Bool.{Bool, true, false, cond, ◌&&◌}
use mathlib.Core.List.{List, [], ◌∷◌, ◌++◌}
use Prim.Native.Nat.{ℕ, zero, suc, ◌+◌, ◌-◌, ◌*◌, ◌/◌, ◌%◌, ◌≤◌, ◌<◌}
use native.Mathlib.Nat.{mul-mod_left}
use native.Mathlib.Decide.{dec_lt}
use native.Mathlib.Omega.{arith}
use lib.Dec.{eqb, ltb, leb}
use lib.ListN.{length, drop}
use borrow.Author.Tests.{lt-ltb, le-ltb}
use Rattle.laws.specs.Bit.{bit}
use Rattle.refusal.specs.Sheet.{Told, done, unless, kept}
use Rattle.vram.specs.Memory.{cell_at}
use Rattle.board.specs.Board.{sound_board}
use Rattle.settings.specs.Settings.{sound_settings}
use Rattle.settings.specs.declared.Overlay.{Overlay}
use Rattle.settings.specs.declared.Settings.{Settings}
use Rattle.settings.proofs.Sound.{settings_fit}
use Rattle.pixels.specs.Pixels.{pixel_count, line_count, cell_bytes, part_of, offset_of, data_address, font_address, plain, nibble_of, inked, shade_of, text_dot, byte_dot, dot_at, pixel_at}
use Rattle.pixels.specs.Draw.{draw_answer}
use Rattle.pixels.specs.Reads.{data_bytes, read_bytes, FromByte, NoByteMore, EachByte, read_for_text, read_for, SameAt, DrawnAlike}
use Rattle.pixels.proofs.Counts.{off_none, mode_none, off_no_byte, text_some, count_cells, pixels_per_byte}
use Rattle.pixels.proofs.Each.{each_same}
use Rattle.pixels.proofs.Answer.{draw_is_done}

-- the character more of a scrolled line, in bytes
more_some : (h : ℕ) → 0 < h → ◌≡◌ {A = ℕ} (cond (ltb 0 h) 2 0) 2
more_some h q = simp (lt-ltb 0 h q)

more_none : (h : ℕ) → h ≤ 0 → ◌≡◌ {A = ℕ} (cond (ltb 0 h) 2 0) 0
more_none h q = simp (le-ltb 0 h q)

-- text of n pixels and d bytes: where byte b of the character of pixel i is
pub text_within : (n d h i b : ℕ) → n % 8 ≡ 0 → n * 2 ≡ d * 8 → h < 8 → i < n → b < 2 → (i + h) / 8 * 2 + b < d + cond (ltb 0 h) 2 0
text_within n d h i b cells rule small here byte = go (dec_lt 0 h)
  where
    go : Dec (0 < h) → (i + h) / 8 * 2 + b < d + cond (ltb 0 h) 2 0
    go (yes q) =
        let bytes : d ≡ n / 8 * 2 = omega arith in
        let char : (i + h) / 8 ≤ n / 8 = omega arith in
        rw (more_some h q) (omega arith)
    go (no q) =
        let bytes : d ≡ n / 8 * 2 = omega arith in
        let char : (i + h) / 8 < n / 8 = omega arith in
        rw (more_none h (omega arith)) (omega arith)

twos : (d q : ℕ) → d ≡ q * 2 → d % 2 ≡ 0
twos d q e = ap (λ (x : ℕ). x % 2) e ∙ mul-mod_left q 2

-- so many bytes are whole characters, and enough for every column
pub text_enough : (n d h : ℕ) → n % 8 ≡ 0 → n * 2 ≡ d * 8 → h < 8 → ((d + cond (ltb 0 h) 2 0) % 2 ≡ 0) × (n + h ≤ (d + cond (ltb 0 h) 2 0) * 4)
text_enough n d h cells rule small = go (dec_lt 0 h)
  where
    go : Dec (0 < h) → ((d + cond (ltb 0 h) 2 0) % 2 ≡ 0) × (n + h ≤ (d + cond (ltb 0 h) 2 0) * 4)
    go (yes q) = rw (more_some h q) (twos (d + 2) (n / 8 + 1) (omega arith), omega arith)
    go (no q) = rw (more_none h (omega arith)) (twos (d + 0) (n / 8) (omega arith), omega arith)

-- and the pixel that is drawn from byte k
text_from : (n d h k : ℕ) → 0 < n → n % 8 ≡ 0 → n * 2 ≡ d * 8 → h < 8 → k < d + cond (ltb 0 h) 2 0 → (k / 2 * 8 - h < n) × ((k / 2 * 8 - h + h) / 8 * 2 + k % 2 ≡ k)
text_from n d h k some cells rule small here = go (dec_lt 0 h)
  where
    go : Dec (0 < h) → (k / 2 * 8 - h < n) × ((k / 2 * 8 - h + h) / 8 * 2 + k % 2 ≡ k)
    go (yes q) =
        let room : k < d + 2 = subst (λ (m : ℕ). k < d + m) (more_some h q) here in
        let bytes : d ≡ n / 8 * 2 = omega arith in
        let char : k / 2 ≤ n / 8 = omega arith in
        let back : (k / 2 * 8 - h + h) / 8 ≡ k / 2 = omega arith in
        (omega arith, omega arith)
    go (no q) =
        let room : k < d + 0 = subst (λ (m : ℕ). k < d + m) (more_none h (omega arith)) here in
        let bytes : d ≡ n / 8 * 2 = omega arith in
        (omega arith, omega arith)

-- a line of mode m
module _ (o : Overlay) (width : ℕ) (small : o.hscroll < 8) where
  within_data :
      (m i b : ℕ) → o.mode ≡ m → i < pixel_count m width → b < cell_bytes m
      → offset_of o i b < data_bytes m width + cond (eqb m 1 && ltb 0 o.hscroll) 2 0
  within_data zero i b e here byte = absurd (let none = off_none width in omega arith)
  within_data (suc zero) i b e here byte =
      rw e (text_within (pixel_count 1 width) (data_bytes 1 width) o.hscroll i b (count_cells 1 width) (pixels_per_byte 1 width) small here byte)
  within_data (suc (suc zero)) i b e here byte = rw e (let rule = pixels_per_byte 2 width in omega arith)
  within_data (suc (suc (suc zero))) i b e here byte = rw e (let rule = pixels_per_byte 3 width in omega arith)
  within_data (suc (suc (suc (suc zero)))) i b e here byte = rw e (let rule = pixels_per_byte 4 width in omega arith)
  within_data (suc (suc (suc (suc (suc m))))) i b e here byte =
      absurd (let none = mode_none (suc (suc (suc (suc (suc m))))) width (omega arith) in omega arith)

  from_data :
      (m k : ℕ) → m < 5 → width < 3 → o.mode ≡ m → k < data_bytes m width + cond (eqb m 1 && ltb 0 o.hscroll) 2 0
      → (i : ℕ) × (i < pixel_count m width) × FromByte o i k
  from_data zero k known sound e here = absurd (let none = off_no_byte width in omega arith)
  from_data (suc zero) k known sound e here =
      let f = text_from (pixel_count 1 width) (data_bytes 1 width) o.hscroll k (text_some width sound) (count_cells 1 width) (pixels_per_byte 1 width) small here in
      rw e (k / 2 * 8 - o.hscroll, f.0, (k % 2, omega arith, f.1))
  from_data (suc (suc zero)) k known sound e here = rw e (let rule = pixels_per_byte 2 width in (k, omega arith, (0, omega arith, omega arith)))
  from_data (suc (suc (suc zero))) k known sound e here = rw e (let rule = pixels_per_byte 3 width in (k * 2, omega arith, (0, omega arith, omega arith)))
  from_data (suc (suc (suc (suc zero)))) k known sound e here = rw e (let rule = pixels_per_byte 4 width in (k, omega arith, (0, omega arith, omega arith)))
  from_data (suc (suc (suc (suc (suc m))))) k known sound e here = absurd (omega arith)

pub no_byte_more : NoByteMore
no_byte_more b s mem room n i k e here from =
    let d = draw_is_done b s mem room n e in
    let o = s.overlay in
    let small = (settings_fit s d.sound).overlay.hscroll in
    let inside = within_data o s.look.width small o.mode i from.0 refl (subst (λ (m : ℕ). i < m) (sym d.count) here) from.1 in
    subst (λ (x : ℕ). x < read_bytes s) from.2 inside

pub each_byte : EachByte
each_byte b s mem room n k e here =
    let d = draw_is_done b s mem room n e in
    let o = s.overlay in
    let fit = settings_fit s d.sound in
    let from = from_data o s.look.width fit.overlay.hscroll o.mode k (omega (arith, fit.overlay.mode)) (omega (arith, fit.look.width)) refl here in
    subst (λ (m : ℕ). (i : ℕ) × (i < m) × FromByte o i k) d.count from

-- two memories that have the same bytes where pixel i is drawn from
module _ (mem mem' : List ℕ) where
  dot_same : (o : Overlay) (i : ℕ) → SameAt mem mem' (read_for mem o i) → dot_at mem o i ≡ dot_at mem' o i
  unfolding dot_at
  dot_same o i same = by (eqb o.mode 1) same
    where
      by :
          (t : Bool) → SameAt mem mem' (cond t (read_for_text mem o i) (data_address o i 0 ∷ []))
          → cond t (text_dot mem o i) (byte_dot mem o i) ≡ cond t (text_dot mem' o i) (byte_dot mem' o i)
      by true same =
          ap₂ (λ (attribute bits : ℕ). inked attribute (bit bits (7 - part_of o i))) same.1.0
          (same.1.1.0 ∙ ap (λ (char : ℕ). cell_at mem' (font_address o char)) same.0)
      by false same = ap (λ (v : ℕ). plain (cond (eqb o.mode 3) (nibble_of v (part_of o i)) v)) same.0

  pixel_same : (video : ℕ) (s : Settings) (i : ℕ) → SameAt mem mem' (read_for mem s.overlay i) → pixel_at mem video s i ≡ pixel_at mem' video s i
  unfolding pixel_at
  pixel_same video s i same = ap (shade_of video s.look.palette) (dot_same s.overlay i same)

pub drawn_alike : DrawnAlike
unfolding draw_answer
drawn_alike b s mem mem' line good same =
    let video = b.ports.video in
    let n = line_count s in
    let rest = unless (sound_board b && sound_settings s) 15 (unless (leb n (length line)) 17 (done n)) in
    let told = ap (λ (t : Bool). unless t 1 rest) good in
    let pixels = each_same (pixel_at mem video s) (pixel_at mem' video s) 0 0 n (λ j q. pixel_same mem mem' video s (0 + j) (same (0 + j) (omega arith))) in
    record {
      answer = told;
      pixels = ap₂ (λ (t : Told ℕ) (l : List ℕ). kept t line (l ++ drop n line)) told pixels;
    }
