-- Sound settings: the row of tests taken apart into facts and put together again; beginning, advancing and going dark keep it. Assumes nothing.
use Rattle.std.proofs.Common.{rules}
use mathlib.Core.Path.{◌≡◌, refl}
use mathlib.Core.Bool.{Bool, true}
use mathlib.Core.List.{[], ◌∷◌}
use Prim.Native.Nat.{ℕ, ◌≤◌, ◌<◌}
use lib.Dec.{leb}
use Rattle.laws.proofs.Choice.{each_test}
use Rattle.settings.specs.Settings.{no_record, beginning, sound_overlay, sound_map, sound_look, sound_settings, advanced_overlay, advanced_map, advanced, off}
use Rattle.settings.specs.Parts.{overlay_at, in_mode, stepping, scrolled, in_font, map_at, switched, map_stepping}
use Rattle.settings.specs.declared.Settings.{Settings}
use Rattle.settings.specs.declared.Overlay.{Overlay}
use Rattle.settings.specs.declared.Map.{Map}
use Rattle.settings.specs.declared.Look.{Look}

-- what each test says
pub record OverlayFits (o : Overlay) : Type 0 where
  pub mode : o.mode ≤ 4
  pub address : o.address < 524288
  pub step : o.step < 4096
  pub hscroll : o.hscroll < 8
  pub vscroll : o.vscroll < 8
  pub counter : o.counter < 8

pub record MapFits (p : Map) : Type 0 where
  pub address : p.address < 524288
  pub step : p.step < 4096
  pub hscroll : p.hscroll < 32
  pub vscroll : p.vscroll < 32
  pub narrow : 8 ≤ p.width
  pub wide : p.width ≤ 32
  pub low : 1 ≤ p.height
  pub high : p.height ≤ 32
  pub counter : p.counter < p.height

pub record LookFits (l : Look) : Type 0 where
  pub width : l.width ≤ 2
  pub palette : l.palette < 4
  pub playfield : l.playfield < 4

pub record SettingsFit (s : Settings) : Type 0 where
  pub overlay : OverlayFits s.overlay
  pub map : MapFits s.map
  pub look : LookFits s.look
  pub origin : s.origin ≤ 524288

pub overlay_fits : (o : Overlay) → sound_overlay o ≡ true → OverlayFits o
overlay_fits o e = search rules

pub map_fits : (p : Map) → sound_map p ≡ true → MapFits p
map_fits p e = search rules

pub look_fits : (l : Look) → sound_look l ≡ true → LookFits l
look_fits l e = search rules

pub settings_fit : (s : Settings) → sound_settings s ≡ true → SettingsFit s
settings_fit s e =
    let r = each_test (sound_overlay s.overlay) (sound_map s.map ∷ sound_look s.look ∷ leb s.origin no_record ∷ []) e in
    record { overlay = overlay_fits _ r.0; map = map_fits _ r.1.0; look = look_fits _ r.1.1.0; origin = search rules }

-- and back
pub overlay_sound : (o : Overlay) → OverlayFits o → sound_overlay o ≡ true
overlay_sound o f = search rules

pub map_sound : (p : Map) → MapFits p → sound_map p ≡ true
map_sound p f = search rules

pub look_sound : (l : Look) → LookFits l → sound_look l ≡ true
look_sound l f = search rules

pub settings_sound : (s : Settings) → SettingsFit s → sound_settings s ≡ true
settings_sound s f = search (rules, overlay_sound, map_sound, look_sound)

-- an overlay and a map with other parts that are within their ranges
module _ (o : Overlay) (f : OverlayFits o) where
  pub overlay_at_fits : (a c : ℕ) → a < 524288 → c < 8 → OverlayFits (overlay_at a c o)
  overlay_at_fits a c l m = search rules

  pub in_mode_fits : (m : ℕ) → m ≤ 4 → OverlayFits (in_mode m o)
  in_mode_fits m h = search rules

  pub stepping_fits : (a s : ℕ) → a < 524288 → s < 4096 → OverlayFits (stepping a s o)
  stepping_fits a s l m = search rules

  pub scrolled_fits : (h v : ℕ) → h < 8 → v < 8 → OverlayFits (scrolled h v o)
  scrolled_fits h v l m = search rules

  pub in_font_fits : (n : ℕ) → OverlayFits (in_font n o)
  in_font_fits n = search rules

module _ (p : Map) (f : MapFits p) where
  pub map_at_fits : (a c : ℕ) → a < 524288 → c < p.height → MapFits (map_at a c p)
  map_at_fits a c l m = search rules

  pub switched_fits : (on : Bool) → MapFits (switched on p)
  switched_fits on = search rules

  pub map_stepping_fits : (a s : ℕ) → a < 524288 → s < 4096 → MapFits (map_stepping a s p)
  map_stepping_fits a s l m = search rules

overlay_advances : (o : Overlay) → OverlayFits o → OverlayFits (advanced_overlay o)
unfolding advanced_overlay
overlay_advances o f = search rules

map_advances : (p : Map) → MapFits p → MapFits (advanced_map p)
unfolding advanced_map
map_advances p f = search rules

pub sound_beginning : sound_settings beginning ≡ true
sound_beginning = refl

pub sound_advanced : (s : Settings) → sound_settings s ≡ true → sound_settings (advanced s) ≡ true
unfolding advanced
sound_advanced s e =
    let f = settings_fit s e in
    search (rules, settings_sound, overlay_advances, map_advances)

pub sound_off : (s : Settings) → sound_settings s ≡ true → sound_settings (off s) ≡ true
unfolding off
sound_off s e =
    let f = settings_fit s e in
    search rules
