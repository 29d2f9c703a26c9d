-- What a record reads back as: one with all seven data groups (22 bytes), and one with RPTL, OVSCRL, CHBASE and OVATT (8 bytes). Assumes nothing.
use Rattle.std.proofs.Common.{rules}
use mathlib.Core.Path.{◌≡◌, refl, ◌∙◌}
use mathlib.Core.Bool.{Bool, true, false, or-true}
use mathlib.Core.List.{List}
use Prim.Native.Nat.{ℕ, ◌+◌, ◌/◌, ◌%◌}
use Rattle.laws.specs.Bit.{bit}
use Rattle.settings.specs.Parts.{overlay_at, in_mode, stepping, scrolled, in_font, map_at, switched, map_stepping, fielded, with_overlay, with_map, with_look, with_origin}
use Rattle.settings.specs.declared.Settings.{Settings}
use Rattle.settings.specs.declared.Overlay.{Overlay}
use Rattle.settings.specs.declared.Map.{Map}
use Rattle.vram.specs.Memory.{byte_at}
use Rattle.record.specs.Parts.{read_on, repeating, ended_by}
use Rattle.record.specs.Record.{overlay_mode, map_switch, address_at, step_at, field_width, look_at, controlled, repeat_group, address_group, scroll_group, font_group, map_group, field_group, look_group, restarted, record_by, record_of}
use Rattle.record.specs.declared.Reader.{Reader}

-- a record that begins where r is, while it is read: its settings, its repeat, and how many of its bytes are read
module _ (mem : List ℕ) (r : Reader) (ended : Bool) where
  abbrev p : ℕ
  p = r.position

  abbrev put : ℕ → ℕ → Settings → Reader
  put n t s = ended_by ended (repeating t (read_on n s r))

  -- a group that is announced, n bytes behind the record's begin; and one that is not
  module _ (v n t : ℕ) (s : Settings) where
    repeat_read : bit v 5 ≡ true → repeat_group mem v (put n t s) ≡ put (n + 1) (byte_at mem p n) s
    unfolding repeat_group
    repeat_read h = search rules

    address_read : bit v 6 ≡ true → address_group mem v (put n t s) ≡ put (n + 5) t (with_overlay (stepping (address_at mem p n) (step_at mem p (n + 3)) s.overlay) s)
    unfolding address_group
    address_read h = search rules

    address_none : bit v 6 ≡ false → address_group mem v (put n t s) ≡ put n t s
    unfolding address_group
    address_none h = search rules

    scroll_read : bit v 7 ≡ true → scroll_group mem v (put n t s) ≡ put (n + 2) t (with_overlay (scrolled (byte_at mem p n % 8) (byte_at mem p (n + 1) % 8) s.overlay) s)
    unfolding scroll_group
    scroll_read h = search rules

    font_read : bit v 0 ≡ true → font_group mem v (put n t s) ≡ put (n + 1) t (with_overlay (in_font (byte_at mem p n) s.overlay) s)
    unfolding font_group
    font_read h = search rules

    map_read : bit v 1 ≡ true → map_group mem v (put n t s) ≡ put (n + 5) t (with_map (map_stepping (address_at mem p n) (step_at mem p (n + 3)) s.map) s)
    unfolding map_group
    map_read h = search rules

    map_none : bit v 1 ≡ false → map_group mem v (put n t s) ≡ put n t s
    unfolding map_group
    map_none h = search rules

    abbrev fields : ℕ → ℕ → ℕ → ℕ → Settings
    fields a b c d = with_map (fielded (a % 32) (b % 32) (field_width c) (d % 32 + 1) s.map) s

    field_read : bit v 2 ≡ true → field_group mem v (put n t s) ≡ put (n + 4) t (fields (byte_at mem p n) (byte_at mem p (n + 1)) (byte_at mem p (n + 2)) (byte_at mem p (n + 3)))
    unfolding field_group
    field_read h = search rules

    field_none : bit v 2 ≡ false → field_group mem v (put n t s) ≡ put n t s
    unfolding field_group
    field_none h = search rules

    look_read : bit v 3 ≡ true → look_group mem v (put n t s) ≡ put (n + 2) t (with_look (look_at mem p n) s)
    unfolding look_group
    look_read h = search rules

-- control bytes that announce all seven groups
pub record Full (c d : ℕ) : Type 0 where
  pub rptl : bit c 5 ≡ true
  pub ovadr : bit c 6 ≡ true
  pub ovscrl : bit c 7 ≡ true
  pub chbase : bit d 0 ≡ true
  pub mapadr : bit d 1 ≡ true
  pub mappar : bit d 2 ≡ true
  pub ovatt : bit d 3 ≡ true

-- control bytes that change neither mode nor map and announce RPTL, OVSCRL, CHBASE and OVATT alone
pub record Running (c d : ℕ) : Type 0 where
  pub mode : c % 8 ≡ 0
  pub map : c / 8 % 4 ≡ 0
  pub rptl : bit c 5 ≡ true
  pub ovadr : bit c 6 ≡ false
  pub ovscrl : bit c 7 ≡ true
  pub chbase : bit d 0 ≡ true
  pub mapadr : bit d 1 ≡ false
  pub mappar : bit d 2 ≡ false
  pub ovatt : bit d 3 ≡ true

module _ (mem : List ℕ) (r : Reader) (c d : ℕ) where
  abbrev at : ℕ
  at = r.position

  -- the next record by its control bytes
  pub by_control : byte_at mem at 0 ≡ c → byte_at mem at 1 ≡ d → record_of mem r ≡ record_by mem c d r
  by_control e f = simp (e, f)

  -- the settings behind the control bytes
  abbrev switched_by : Settings
  switched_by =
      let s = r.settings in
      let o = in_mode (overlay_mode c d s.overlay.mode) s.overlay in
      with_origin at (with_map (switched (map_switch c s.map.on) s.map) (with_overlay o s))

  repeated : bit c 5 ≡ true → repeat_group mem c (controlled c d r) ≡ put mem r (bit d 7) 3 (byte_at mem at 2) switched_by
  unfolding controlled
  repeated h = repeat_read mem r (bit d 7) c 2 r.repeat _ h

  -- the groups one after the other, by what each makes of the one before
  in_order :
      {r1 r2 r3 r4 r5 r6 r7 : Reader} → repeat_group mem c (controlled c d r) ≡ r1 → address_group mem c r1 ≡ r2
      → scroll_group mem c r2 ≡ r3 → font_group mem d r3 ≡ r4 → map_group mem d r4 ≡ r5 → field_group mem d r5 ≡ r6
      → look_group mem d r6 ≡ r7
      → record_by mem c d r ≡ restarted c d r7
  in_order e1 e2 e3 e4 e5 e6 e7 = cc

  -- the 22 bytes of a full record: every part of overlay, map and look is set
  abbrev full_overlay : Overlay → Overlay
  full_overlay o =
      let stepped = stepping (address_at mem at 3) (step_at mem at 6) (in_mode (overlay_mode c d o.mode) o) in
      let vscroll = byte_at mem at 9 % 8 in
      let moved = scrolled (byte_at mem at 8 % 8) vscroll stepped in
      overlay_at (address_at mem at 3) vscroll (in_font (byte_at mem at 10) moved)

  abbrev full_map : Map → Map
  full_map p =
      let stepped = map_stepping (address_at mem at 11) (step_at mem at 14) (switched (map_switch c p.on) p) in
      let vscroll = byte_at mem at 17 % 32 in
      let width = field_width (byte_at mem at 18) in
      let height = byte_at mem at 19 % 32 + 1 in
      map_at (address_at mem at 11) (vscroll % height) (fielded (byte_at mem at 16 % 32) vscroll width height stepped)

  pub full_record_lem :
      Full c d
      → record_by mem c d r
      ≡ put mem r (bit d 7) 22 (byte_at mem at 2) (with_look (look_at mem at 20) (with_map (full_map r.settings.map) (with_overlay (full_overlay r.settings.overlay) (with_origin at r.settings))))
  unfolding restarted
  full_record_lem f =
      let e = bit d 7 in
      in_order
      (repeated f.rptl)
      (address_read mem r e c 3 _ _ f.ovadr)
      (scroll_read mem r e c 8 _ _ f.ovscrl)
      (font_read mem r e d 10 _ _ f.chbase)
      (map_read mem r e d 11 _ _ f.mapadr)
      (field_read mem r e d 16 _ _ f.mappar)
      (look_read mem r e d 20 _ _ f.ovatt)
      ∙ simp (f.ovadr, f.mapadr, or-true)

  -- the 8 bytes of one that runs on
  abbrev run_overlay : Overlay → Overlay
  run_overlay o = in_font (byte_at mem at 5) (scrolled (byte_at mem at 3 % 8) (byte_at mem at 4 % 8) o)

  pub running_record_lem :
      Running c d
      → record_by mem c d r
      ≡ put mem r (bit d 7) 8 (byte_at mem at 2) (with_look (look_at mem at 6) (with_overlay (run_overlay r.settings.overlay) (with_origin at r.settings)))
  unfolding restarted
  running_record_lem f =
      let e = bit d 7 in
      in_order
      (repeated f.rptl)
      (address_none mem r e c 3 _ _ f.ovadr)
      (scroll_read mem r e c 3 _ _ f.ovscrl)
      (font_read mem r e d 5 _ _ f.chbase)
      (map_none mem r e d 6 _ _ f.mapadr)
      (field_none mem r e d 6 _ _ f.mappar)
      (look_read mem r e d 6 _ _ f.ovatt)
      ∙ rw (f.mode, f.map, f.ovadr, f.mapadr, f.mappar) refl
