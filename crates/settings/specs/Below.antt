-- Document 01, "Plans", and document 02, A2: what a band shows some lines below its first line. The counters of that line are where the band starts.
use Rattle.std.specs.Prelude.{cond, ℕ, ◌+◌, ◌*◌, ◌/◌, ◌%◌, eqb}
use Rattle.settings.specs.Parts.{overlay_at, map_at, with_overlay, with_map}
use Rattle.settings.specs.declared.Settings.{Settings}
use Rattle.settings.specs.declared.Overlay.{Overlay}
use Rattle.settings.specs.declared.Map.{Map}

-- "n = k in pixel modes, floor(k/8) in text, 0 in an off band"; A2: in text "k becomes k plus the full band's vscroll", which is where its counter starts
abbrev pub overlay_steps : Overlay → ℕ → ℕ
overlay_steps o k = cond (eqb o.mode 0) 0 (cond (eqb o.mode 1) ((k + o.counter) / 8) k)

-- "the overlay address is OVADR + n·OVSTEP modulo 524,288 ..; text counter k mod 8 in text"; A2: "k plus .., in the address and in the counter; in pixel
-- modes and off bands the text counter holds that starting value"
unfoldable pub overlay_below : Overlay → ℕ → Overlay
overlay_below o k =
    overlay_at
    ((o.address + overlay_steps o k * o.step) % 524288)
    (cond (eqb o.mode 1) ((k + o.counter) % 8) o.counter)
    o

-- "Map likewise with floor(k/height) and k mod height when on, else 0"; A2: "k plus (its map vscroll mod height) for the map", which is where its counter
-- starts, and "with the map off" the counter holds that value
unfoldable pub map_below : Map → ℕ → Map
map_below p k =
    map_at
    ((p.address + cond p.on ((k + p.counter) / p.height) 0 * p.step) % 524288)
    (cond p.on ((k + p.counter) % p.height) p.counter)
    p

-- the settings of a band whose first line has s, k lines below it
unfoldable pub settings_below : Settings → ℕ → Settings
settings_below s k = with_map (map_below s.map k) (with_overlay (overlay_below s.overlay k) s)
