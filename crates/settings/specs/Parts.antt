-- The same settings, overlay or map with other parts.
use Rattle.std.specs.Prelude.{Bool, ℕ}
use Rattle.settings.specs.declared.Settings.{Settings}
use Rattle.settings.specs.declared.Overlay.{Overlay}
use Rattle.settings.specs.declared.Map.{Map}
use Rattle.settings.specs.declared.Look.{Look}

-- an overlay at another address and counter, in another mode, with another address and step, other scrolls, another font
abbrev pub overlay_at : ℕ → ℕ → Overlay → Overlay
overlay_at address counter o = record o { address = address; counter = counter }

abbrev pub in_mode : ℕ → Overlay → Overlay
in_mode mode o = record o { mode = mode }

abbrev pub stepping : ℕ → ℕ → Overlay → Overlay
stepping address step o = record o { address = address; step = step }

abbrev pub scrolled : ℕ → ℕ → Overlay → Overlay
scrolled hscroll vscroll o = record o { hscroll = hscroll; vscroll = vscroll }

abbrev pub in_font : ℕ → Overlay → Overlay
in_font font o = record o { font = font }

-- a map at another address and counter, switched on or off, with another address and step, with other fields
abbrev pub map_at : ℕ → ℕ → Map → Map
map_at address counter p = record p { address = address; counter = counter }

abbrev pub switched : Bool → Map → Map
switched on p = record p { on = on }

abbrev pub map_stepping : ℕ → ℕ → Map → Map
map_stepping address step p = record p { address = address; step = step }

abbrev pub fielded : ℕ → ℕ → ℕ → ℕ → Map → Map
fielded hscroll vscroll width height p = record p { hscroll = hscroll; vscroll = vscroll; width = width; height = height }

-- settings with another overlay, map or look, or made by another record
abbrev pub with_overlay : Overlay → Settings → Settings
with_overlay o s = record s { overlay = o }

abbrev pub with_map : Map → Settings → Settings
with_map p s = record s { map = p }

abbrev pub with_look : Look → Settings → Settings
with_look l s = record s { look = l }

abbrev pub with_origin : ℕ → Settings → Settings
with_origin at s = record s { origin = at }
