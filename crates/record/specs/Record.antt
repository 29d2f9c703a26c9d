-- Document 01, "The XDL and its 240 lines": "A record is two control bytes, then data in the manual's fetch order"; with document 02, A1 and A2. c and d are
-- the control bytes.
use Rattle.std.specs.Prelude.{Bool, cond, ◌||◌, List, ℕ, ◌+◌, ◌/◌, ◌%◌, eqb, ltb}
use Rattle.laws.specs.Bit.{bit}
use Rattle.settings.specs.Parts.{overlay_at, in_mode, stepping, scrolled, in_font, map_at, switched, map_stepping, fielded, with_overlay, with_map, with_origin}
use Rattle.settings.specs.declared.Look.{Look}
use Rattle.vram.specs.Memory.{byte_at, number12, number19}
use Rattle.record.specs.Parts.{read_on, overlaid, mapped, looked, with_settings, repeating, ended_by}
use Rattle.record.specs.declared.Reader.{Reader}

-- "GMON gives SR, HR or LR by byte 2 bits 4 and 5, both set gives off (ours)": HR is bit 4, LR bit 5
abbrev pub pixel_mode : ℕ → ℕ
pixel_mode d = cond (eqb (d / 16 % 4) 0) 2 (cond (eqb (d / 16 % 4) 1) 3 (cond (eqb (d / 16 % 4) 2) 4 0))

-- "Of TMON, GMON, OVOFF: none keeps the mode; two or three give off; OVOFF gives off; TMON gives text": bits 0, 1 and 2
abbrev pub overlay_mode : ℕ → ℕ → ℕ → ℕ
overlay_mode c d mode = cond (eqb (c % 8) 0) mode (cond (eqb (c % 8) 1) 1 (cond (eqb (c % 8) 2) (pixel_mode d) 0))

-- "MAPON alone is on, MAPOFF alone off, neither keeps; both together are off (ours)": bits 3 and 4
abbrev pub map_switch : ℕ → Bool → Bool
map_switch c on = cond (eqb (c / 8 % 4) 0) on (eqb (c / 8 % 4) 1)

-- "addresses 19, steps 12": three bytes, and two, from byte k on
abbrev pub address_at : List ℕ → ℕ → ℕ → ℕ
address_at mem at k = number19 (byte_at mem at k) (byte_at mem at (k + 1)) (byte_at mem at (k + 2))

abbrev pub step_at : List ℕ → ℕ → ℕ → ℕ
step_at mem at k = number12 (byte_at mem at k) (byte_at mem at (k + 1))

-- MAPPAR: "width−1 .. five bits .., width below 8 taken as 8"
abbrev pub field_width : ℕ → ℕ
field_width b = cond (ltb (b % 32) 7) 8 (b % 32 + 1)

-- "Width 3 in OVATT is taken as 1 (ours)": bits 0 and 1
abbrev pub display_width : ℕ → ℕ
display_width b = cond (eqb (b % 4) 3) 1 (b % 4)

-- OVATT's two bytes from byte k on: the width, the overlay palette in bits 4 and 5, the playfield palette in 6 and 7; the priority
abbrev pub look_at : List ℕ → ℕ → ℕ → Look
look_at mem at k =
    let b = byte_at mem at k in
    record { width = display_width b; palette = b / 16 % 4; playfield = b / 64 % 4; priority = byte_at mem at (k + 1) }

-- the control bytes: the mode, the map, and "XDLC_END", byte 2 bit 7; document 02, A1: "the address of the XDL record that was last read", where the
-- first of them stands
unfoldable pub controlled : ℕ → ℕ → Reader → Reader
controlled c d r =
    let s = r.settings in
    let o = in_mode (overlay_mode c d s.overlay.mode) s.overlay in
    let p = switched (map_switch c s.map.on) s.map in
    ended_by (bit d 7) (read_on 2 (with_origin r.position (with_map p (with_overlay o s))) r)

-- "XDLC_RPTL (1 byte)"; "RPTL sets repeat; without it repeat is 0"
unfoldable pub repeat_group : List ℕ → ℕ → Reader → Reader
repeat_group mem c r =
    cond (bit c 5) (repeating (byte_at mem r.position 0) (read_on 1 r.settings r)) (repeating 0 r)

-- "XDLC_OVADR (5 bytes)"
unfoldable pub address_group : List ℕ → ℕ → Reader → Reader
address_group mem c r =
    let at = r.position in
    cond (bit c 6) (overlaid 5 (stepping (address_at mem at 0) (step_at mem at 3) r.settings.overlay) r) r

-- "XDLC_OVSCRL (2 bytes)"; "Overlay scrolls use 3 bits"
unfoldable pub scroll_group : List ℕ → ℕ → Reader → Reader
scroll_group mem c r =
    let at = r.position in
    cond (bit c 7) (overlaid 2 (scrolled (byte_at mem at 0 % 8) (byte_at mem at 1 % 8) r.settings.overlay) r) r

-- "XDLC_CHBASE (1 byte)"
unfoldable pub font_group : List ℕ → ℕ → Reader → Reader
font_group mem d r = cond (bit d 0) (overlaid 1 (in_font (byte_at mem r.position 0) r.settings.overlay) r) r

-- "XDLC_MAPADR (5 bytes)"
unfoldable pub map_group : List ℕ → ℕ → Reader → Reader
map_group mem d r =
    let at = r.position in
    cond (bit d 1) (mapped 5 (map_stepping (address_at mem at 0) (step_at mem at 3) r.settings.map) r) r

-- "XDLC_MAPPAR (4 bytes)"; "hscroll, vscroll, width−1, height−1, five bits each"
unfoldable pub field_group : List ℕ → ℕ → Reader → Reader
field_group mem d r =
    let at = r.position in
    let width = field_width (byte_at mem at 2) in
    let height = byte_at mem at 3 % 32 + 1 in
    cond (bit d 2) (mapped 4 (fielded (byte_at mem at 0 % 32) (byte_at mem at 1 % 32) width height r.settings.map) r) r

-- "XDLC_OVATT (2 bytes)"
unfoldable pub look_group : List ℕ → ℕ → Reader → Reader
look_group mem d r = cond (bit d 3) (looked 2 (look_at mem r.position 0) r) r

-- a reset of the text counter: "TMON alone, or OVADR"
abbrev pub text_restarts : ℕ → Bool
text_restarts c = eqb (c % 8) 1 || bit c 6

-- a reset of the field counter: "MAPADR or MAPPAR"
abbrev pub field_restarts : ℕ → Bool
field_restarts d = bit d 1 || bit d 2

-- both counters, once all data of the record are read; document 02, A2: "a reset of the text counter puts it to vscroll after the record's own OVSCRL, and a
-- reset of the field counter puts it to map vscroll modulo the field height"
unfoldable pub restarted : ℕ → ℕ → Reader → Reader
restarted c d r =
    let o = r.settings.overlay in
    let p = r.settings.map in
    let o1 = overlay_at o.address (cond (text_restarts c) o.vscroll o.counter) o in
    let p1 = map_at p.address (cond (field_restarts d) (p.vscroll % p.height) p.counter) p in
    with_settings (with_map p1 (with_overlay o1 r.settings)) r

-- "The order of fetching data in the XDL": the data that the control bytes announce, first to last
abbrev pub fetched_by : List ℕ → ℕ → ℕ → Reader → Reader
fetched_by mem c d r =
    let r1 = address_group mem c (repeat_group mem c r) in
    let r2 = font_group mem d (scroll_group mem c r1) in
    let r3 = field_group mem d (map_group mem d r2) in
    look_group mem d r3

-- one record by its control bytes, and the next one of the list
abbrev pub record_by : List ℕ → ℕ → ℕ → Reader → Reader
record_by mem c d r = restarted c d (fetched_by mem c d (controlled c d r))

abbrev pub record_of : List ℕ → Reader → Reader
record_of mem r = record_by mem (byte_at mem r.position 0) (byte_at mem r.position 1) r
