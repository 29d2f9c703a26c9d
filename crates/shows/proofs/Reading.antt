-- The record of a sound item, read where memory holds it: a full band's settings, or those at hand with what a running-on item changes. Assumes nothing.
use mathlib.Core.Path.{◌≡◌, refl, ap, ◌∙◌}
use mathlib.Core.Bool.{Bool, true, false}
use mathlib.Core.List.{List}
use Prim.Native.Nat.{ℕ, zero, suc, ◌+◌, ◌-◌, ◌*◌, ◌/◌, ◌%◌, ◌≤◌}
use native.Mathlib.Omega.{arith}
use lib.Dec.{lit<, eqb}
use borrow.Author.Tests.{eq-eqb, ne_eqb, le-ltb}
use Rattle.laws.specs.Bit.{bit}
use Rattle.vram.specs.Memory.{byte_at, number12, number19}
use Rattle.item.specs.Item.{sound_full, sound_running}
use Rattle.item.specs.declared.Full.{Full}
use Rattle.item.specs.declared.Running.{Running}
use Rattle.item.proofs.Ranges.{full_fits, running_fits}
use Rattle.plan.specs.Xdl.{overlay_bit, map_bit, resolution_bit, end_bit, full_record, running_record}
use Rattle.plan.specs.Meaning.{item_look, full_settings, running_settings}
use Rattle.settings.specs.Parts.{overlay_at, in_mode, stepping, scrolled, in_font, map_at, switched, map_stepping, fielded, with_overlay, with_map, with_look, with_origin}
use Rattle.settings.specs.declared.Settings.{Settings}
use Rattle.record.specs.Parts.{read_on, repeating, ended_by}
use Rattle.record.specs.Record.{overlay_mode, map_switch, field_width, display_width, look_at, record_of}
use Rattle.record.specs.declared.Reader.{Reader}
use Rattle.record.proofs.Readback as readback
use Rattle.record.proofs.Readback.{by_control, full_record_lem, running_record_lem}
use Rattle.shows.specs.Shows.{Holds}

odd : (x n : ℕ) → x ≡ n → n % 2 ≡ 1 → eqb (x % 2) 1 ≡ true
odd x n e h = eq-eqb (x % 2) 1 (ap (λ (y : ℕ). y % 2) e ∙ h)

-- Control bytes: what the mode of a band, its map and END are written as.
record ModeBits (m : ℕ) : Type 0 where
  low : overlay_bit m ≤ 4
  high : resolution_bit m ≤ 32
  apart : resolution_bit m % 16 ≡ 0
  back : (old : ℕ) → overlay_mode (overlay_bit m) (resolution_bit m) old ≡ m

mode_bits : (m : ℕ) → m ≤ 4 → ModeBits m
mode_bits zero h = record { low = omega arith; high = omega arith; apart = refl; back = λ old. refl }
mode_bits (suc zero) h = record { low = omega arith; high = omega arith; apart = refl; back = λ old. refl }
mode_bits (suc (suc zero)) h = record { low = omega arith; high = omega arith; apart = refl; back = λ old. refl }
mode_bits (suc (suc (suc zero))) h = record { low = omega arith; high = omega arith; apart = refl; back = λ old. refl }
mode_bits (suc (suc (suc (suc zero)))) h = record { low = omega arith; high = omega arith; apart = refl; back = λ old. refl }
mode_bits (suc (suc (suc (suc (suc m))))) h = absurd (omega arith)

record MapBit (p : ℕ) : Type 0 where
  high : map_bit p ≤ 16
  apart : map_bit p % 8 ≡ 0
  back : (old : Bool) → map_switch (map_bit p) old ≡ eqb p 1

map_bit_lem : (p : ℕ) → p ≤ 1 → MapBit p
map_bit_lem zero h = record { high = omega arith; apart = refl; back = λ old. refl }
map_bit_lem (suc zero) h = record { high = omega arith; apart = refl; back = λ old. refl }
map_bit_lem (suc (suc p)) h = absurd (omega arith)

record EndBit (last : Bool) : Type 0 where
  high : end_bit last ≤ 128
  apart : end_bit last % 128 ≡ 0
  back : bit (end_bit last) 7 ≡ last

end_bit_lem : (last : Bool) → EndBit last
end_bit_lem true = record { high = omega arith; apart = refl; back = refl }
end_bit_lem false = record { high = omega arith; apart = refl; back = refl }

-- the control bytes of a full band, out of their four parts: each part is read as if it stood alone
module _ (m p : ℕ) (last : Bool) (o : ModeBits m) (q : MapBit p) (e : EndBit last) where
  abbrev c : ℕ
  c = 224 + overlay_bit m + map_bit p

  abbrev d : ℕ
  d = 15 + resolution_bit m + end_bit last

  full_announced : readback.Full c d
  full_announced =
      let low : d % 16 ≡ 15 = omega arith in
      record {
        rptl = odd (c / 32) 7 (omega arith) refl;
        ovadr = odd (c / 64) 3 (omega arith) refl;
        ovscrl = odd (c / 128) 1 (omega arith) refl;
        chbase = eq-eqb (d / 1 % 2) 1 (omega arith);
        mapadr = eq-eqb (d / 2 % 2) 1 (omega arith);
        mappar = eq-eqb (d / 4 % 2) 1 (omega arith);
        ovatt = eq-eqb (d / 8 % 2) 1 (omega arith);
      }

  full_mode : (old : ℕ) → overlay_mode c d old ≡ m
  full_mode old =
      let one : c % 8 ≡ overlay_bit m % 8 = omega arith in
      let two : d / 16 % 4 ≡ resolution_bit m / 16 % 4 = omega arith in
      simp (one, two) (o.back old)

  full_map_lem : (old : Bool) → map_switch c old ≡ eqb p 1
  full_map_lem old =
      let one : c / 8 % 4 ≡ map_bit p / 8 % 4 = omega arith in
      simp one (q.back old)

  full_end : bit d 7 ≡ last
  full_end =
      let one : d / 128 ≡ end_bit last / 128 = omega arith in
      ap (λ (x : ℕ). eqb (x % 2) 1) one ∙ e.back

-- those of a running-on item
running_announced : (last : Bool) → readback.Running 160 (9 + end_bit last)
running_announced true = record { mode = refl; map = refl; rptl = refl; ovadr = refl; ovscrl = refl; chbase = refl; mapadr = refl; mappar = refl; ovatt = refl }
running_announced false = record { mode = refl; map = refl; rptl = refl; ovadr = refl; ovscrl = refl; chbase = refl; mapadr = refl; mappar = refl; ovatt = refl }

running_end : (last : Bool) → bit (9 + end_bit last) 7 ≡ last
running_end true = refl
running_end false = refl

-- Data bytes: what each group makes of the bytes that an item's field is written as.
module _ (x a b : ℕ) (p : a ≡ x % 256) (q : b ≡ x / 256 % 256) where
  step_back : x ≤ 4095 → number12 a b ≡ x
  step_back h = omega arith

  address_back : (t : ℕ) → t ≡ x / 65536 % 256 → x ≤ 524287 → number19 a b t ≡ x
  address_back t r h = omega arith

scroll_back : (x a : ℕ) → a ≡ x → x ≤ 7 → a % 8 ≡ x
scroll_back x a e h = omega arith

map_scroll_back : (x a : ℕ) → a ≡ x → x ≤ 31 → a % 32 ≡ x
map_scroll_back x a e h = omega arith

height_back : (x a : ℕ) → a ≡ x - 1 → 1 ≤ x → x ≤ 32 → a % 32 + 1 ≡ x
height_back x a e l h = omega arith

width_back : (x a : ℕ) → a ≡ x - 1 → 8 ≤ x → x ≤ 32 → field_width a ≡ x
width_back x a e l h = simp (le-ltb (a % 32) 7 (omega arith)) (omega arith)

module _ (w p a : ℕ) (e : a ≡ w + 16 * p) (hw : w ≤ 2) (hp : p ≤ 15) where
  display_back : display_width a ≡ w
  display_back =
      let m : a % 4 ≡ w = omega arith in
      simp (m, ne_eqb w 3 (omega arith))

  palette_back : a / 16 % 4 ≡ p % 4
  palette_back = omega arith

  playfield_back : a / 64 % 4 ≡ p / 4
  playfield_back = omega arith

-- OVATT, from byte k on
look_back : (mem : List ℕ) (at k w p v : ℕ) → byte_at mem at k ≡ w + 16 * p → byte_at mem at (k + 1) ≡ v → w ≤ 2 → p ≤ 15 → look_at mem at k ≡ item_look w p v
look_back mem at k w p v e f hw hp =
    let a = byte_at mem at k in
    λ i. record { width = display_back w p a e hw hp i; palette = palette_back w p a e hw hp i; playfield = playfield_back w p a e hw hp i; priority = f i }

-- The two kinds of record.
module _ (mem : List ℕ) (r : Reader) where
  abbrev at : ℕ
  at = r.position

  -- the reader behind a record of n bytes
  abbrev behind : ℕ → ℕ → Bool → Settings → Reader
  behind n repeat last s = ended_by last (repeating repeat (read_on n s r))

  pub read_full :
      (b : Full) (last : Bool) → sound_full b ≡ true → Holds mem at (full_record b last)
      → record_of mem r ≡ behind 22 (b.lines - 1) last (full_settings b at)
  unfolding full_record full_settings
  read_full b last s h =
      let f = full_fits b s in
      let m = mode_bits b.mode f.mode in
      let p = map_bit_lem b.map f.map in
      let e = end_bit_lem last in
      let mode = full_mode b.mode b.map last m p e r.settings.overlay.mode in
      let on = full_map_lem b.mode b.map last m p e r.settings.map.on in
      let ended = full_end b.mode b.map last m p e in
      by_control mem r _ _ (h 0 (lit< tt)) (h 1 (lit< tt))
      ∙ (full_record_lem mem r _ _ (full_announced b.mode b.map last m p e)
      ∙ λ i.
      let address = address_back b.address _ _ (h 3 (lit< tt)) (h 4 (lit< tt)) _ (h 5 (lit< tt)) f.address i in
      let step = step_back b.step _ _ (h 6 (lit< tt)) (h 7 (lit< tt)) f.step i in
      let hscroll = scroll_back b.hscroll _ (h 8 (lit< tt)) f.hscroll i in
      let vscroll = scroll_back b.vscroll _ (h 9 (lit< tt)) f.vscroll i in
      let o = scrolled hscroll vscroll (stepping address step (in_mode (mode i) r.settings.overlay)) in
      let mapaddress = address_back b.mapaddress _ _ (h 11 (lit< tt)) (h 12 (lit< tt)) _ (h 13 (lit< tt)) f.mapaddress i in
      let mapstep = step_back b.mapstep _ _ (h 14 (lit< tt)) (h 15 (lit< tt)) f.mapstep i in
      let maphscroll = map_scroll_back b.maphscroll _ (h 16 (lit< tt)) f.maphscroll i in
      let mapvscroll = map_scroll_back b.mapvscroll _ (h 17 (lit< tt)) f.mapvscroll i in
      let width = width_back b.fieldwidth _ (h 18 (lit< tt)) f.narrow f.wide i in
      let height = height_back b.fieldheight _ (h 19 (lit< tt)) f.low f.high i in
      let q = fielded maphscroll mapvscroll width height (map_stepping mapaddress mapstep (switched (on i) r.settings.map)) in
      let look = look_back mem at 20 b.width b.palettes b.priority (h 20 (lit< tt)) (h 21 (lit< tt)) f.width f.palettes i in
      behind 22 (h 2 (lit< tt) i) (ended i) (with_look look (with_map (map_at mapaddress (mapvscroll % height) q) (with_overlay (overlay_at address vscroll (in_font (h 10 (lit< tt) i) o)) (with_origin at r.settings)))))

  pub read_running :
      (b : Running) (last : Bool) → sound_running b ≡ true → Holds mem at (running_record b last)
      → record_of mem r ≡ behind 8 (b.lines - 1) last (running_settings b at r.settings)
  unfolding running_record running_settings
  read_running b last s h =
      let f = running_fits b s in
      by_control mem r _ _ (h 0 (lit< tt)) (h 1 (lit< tt))
      ∙ (running_record_lem mem r _ _ (running_announced last)
      ∙ λ i.
      let hscroll = scroll_back b.hscroll _ (h 3 (lit< tt)) f.hscroll i in
      let vscroll = scroll_back b.vscroll _ (h 4 (lit< tt)) f.vscroll i in
      let o = in_font (h 5 (lit< tt) i) (scrolled hscroll vscroll r.settings.overlay) in
      let look = look_back mem at 6 b.width b.palettes b.priority (h 6 (lit< tt)) (h 7 (lit< tt)) f.width f.palettes i in
      behind 8 (h 2 (lit< tt) i) (running_end last i) (with_look look (with_overlay o (with_origin at r.settings))))
