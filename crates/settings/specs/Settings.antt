-- Document 01, "The XDL and its 240 lines", and document 02, A1: the settings of a line, how they begin, which are sound, and how a line advances them.
use Rattle.std.specs.Prelude.{Bool, false, cond, ◌&&◌, ℕ, ◌+◌, ◌%◌, eqb, ltb, leb}
use Rattle.settings.specs.Parts.{overlay_at, in_mode, map_at, switched, with_overlay, with_map, with_origin}
use Rattle.settings.specs.declared.Settings.{Settings}
use Rattle.settings.specs.declared.Overlay.{Overlay}
use Rattle.settings.specs.declared.Map.{Map}
use Rattle.settings.specs.declared.Look.{Look}

-- A1: "the address of the XDL record that was last read for it, as a 19-bit number, and 524,288 where no record has been read in the frame"
abbrev pub no_record : ℕ
no_record = 524288

-- "Settings begin: overlay off, map off, scrolls 0, width 1, overlay palette 1, playfield palette 0, priority 255; ours: addresses, steps, font and counters 0, field 8 by 8"
abbrev pub beginning : Settings
beginning =
    record {
      overlay = record { mode = 0; address = 0; step = 0; hscroll = 0; vscroll = 0; font = 0; counter = 0 };
      map = record { on = false; address = 0; step = 0; hscroll = 0; vscroll = 0; width = 8; height = 8; counter = 0 };
      look = record { width = 1; palette = 1; playfield = 0; priority = 255 };
      origin = no_record;
    }

-- "each field within its width or range"; font and priority are any byte
abbrev pub sound_overlay : Overlay → Bool
sound_overlay o =
    leb o.mode 4
    && ltb o.address 524288
    && ltb o.step 4096
    && ltb o.hscroll 8
    && ltb o.vscroll 8
    && ltb o.counter 8

abbrev pub sound_map : Map → Bool
sound_map p =
    ltb p.address 524288
    && ltb p.step 4096
    && ltb p.hscroll 32
    && ltb p.vscroll 32
    && leb 8 p.width
    && leb p.width 32
    && leb 1 p.height
    && leb p.height 32
    && ltb p.counter p.height

abbrev pub sound_look : Look → Bool
sound_look l = leb l.width 2 && ltb l.palette 4 && ltb l.playfield 4

abbrev pub sound_settings : Settings → Bool
sound_settings s = sound_overlay s.overlay && sound_map s.map && sound_look s.look && leb s.origin no_record

-- "SR, HR, LR add OVSTEP. Text adds 1 to the text counter; at 8 it adds OVSTEP and the counter is 0. Off adds nothing."
unfoldable pub advanced_overlay : Overlay → Overlay
advanced_overlay o =
    let further = (o.address + o.step) % 524288 in
    cond (eqb o.mode 0)
    o
    (cond (eqb o.mode 1)
    (cond (ltb o.counter 7) (overlay_at o.address (o.counter + 1) o) (overlay_at further 0 o))
    (overlay_at further o.counter o))

-- "Map on: the field counter likewise against the height, with MAPSTEP."
unfoldable pub advanced_map : Map → Map
advanced_map p =
    cond p.on
    (cond (ltb (p.counter + 1) p.height)
    (map_at p.address (p.counter + 1) p)
    (map_at ((p.address + p.step) % 524288) 0 p))
    p

unfoldable pub advanced : Settings → Settings
advanced s = with_map (advanced_map s.map) (with_overlay (advanced_overlay s.overlay) s)

-- "overlay and map are off .. and all else is held"
unfoldable pub off : Settings → Settings
off s = with_map (switched false s.map) (with_overlay (in_mode 0 s.overlay) s)

-- "The record address of A1 is left out of the comparison" (A6): settings but for the record that made them
abbrev pub without_record : Settings → Settings
without_record s = with_origin no_record s
