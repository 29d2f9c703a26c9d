-- A record of bytes keeps settings sound and the position in 19 bits. Between a smaller MAPPAR and the restart behind it the field counter may stand
-- above the height, so while a record is read the map is sound but for its counter. Assumes nothing.
use Rattle.std.proofs.Common.{rules}
use mathlib.Core.Path.{◌≡◌}
use mathlib.Core.Bool.{false}
use mathlib.Core.List.{List}
use Prim.Native.Nat.{ℕ, ◌+◌, ◌≤◌, ◌<◌}
use native.Mathlib.Nat.{mod-lt}
use native.Mathlib.Omega.{arith}
use lib.ListN.{length}
use Rattle.laws.specs.Bit.{bit}
use Rattle.settings.proofs.Sound.{OverlayFits, MapFits, LookFits, SettingsFit}
use Rattle.settings.specs.Parts.{map_at}
use Rattle.settings.specs.declared.Settings.{Settings}
use Rattle.vram.specs.Memory.{Bytes, byte_at, place}
use Rattle.record.specs.Record.{overlay_mode, address_at, step_at, field_width, display_width, controlled, repeat_group, address_group, scroll_group, font_group, map_group, field_group, look_group, restarted, fetched_by, record_of}
use Rattle.record.specs.declared.Reader.{Reader}

-- the numbers that a record's bytes give
mode_fits : (c d mode : ℕ) → mode ≤ 4 → overlay_mode c d mode ≤ 4
mode_fits c d mode h = search rules

field_narrow : (b : ℕ) → 8 ≤ field_width b
field_narrow b = search rules

field_wide : (b : ℕ) → field_width b ≤ 32
field_wide b = search rules

display_fits : (b : ℕ) → display_width b ≤ 2
display_fits b = search rules

module _ (mem : List ℕ) (bytes : Bytes mem) (at k : ℕ) where
  address_fits : address_at mem at k < 524288
  address_fits = omega (arith, bytes (place (length mem) (at + k)), bytes (place (length mem) (at + (k + 1))))

  step_fits : step_at mem at k < 4096
  step_fits = omega (arith, bytes (place (length mem) (at + k)))

-- settings inside a record whose second control byte is d
record Loose (d : ℕ) (s : Settings) : Type 0 where
  overlay : OverlayFits s.overlay
  map : MapFits (map_at s.map.address 0 s.map)
  field : bit d 2 ≡ false → s.map.counter < s.map.height
  look : LookFits s.look
  origin : s.origin ≤ 524288

-- a reader there
record Fits (d : ℕ) (r : Reader) : Type 0 where
  settings : Loose d r.settings
  position : r.position < 524288

module _ (mem : List ℕ) (bytes : Bytes mem) (c d : ℕ) where
  controlled_fits : (r : Reader) → SettingsFit r.settings → r.position < 524288 → Fits d (controlled c d r)
  unfolding controlled
  controlled_fits r f at = search (rules, mode_fits)

  repeat_fits : (r : Reader) → Fits d r → Fits d (repeat_group mem c r)
  unfolding repeat_group
  repeat_fits r f = search rules

  address_group_fits : (r : Reader) → Fits d r → Fits d (address_group mem c r)
  unfolding address_group
  address_group_fits r f = search (rules, address_fits mem bytes, step_fits mem bytes)

  scroll_fits : (r : Reader) → Fits d r → Fits d (scroll_group mem c r)
  unfolding scroll_group
  scroll_fits r f = search rules

  font_fits : (r : Reader) → Fits d r → Fits d (font_group mem d r)
  unfolding font_group
  font_fits r f = search rules

  map_group_fits : (r : Reader) → Fits d r → Fits d (map_group mem d r)
  unfolding map_group
  map_group_fits r f = search (rules, address_fits mem bytes, step_fits mem bytes)

  -- MAPPAR alone changes the height, and then the counter starts again
  field_fits : (r : Reader) → Fits d r → Fits d (field_group mem d r)
  unfolding field_group
  field_fits r f = search (rules, field_narrow, field_wide)

  look_group_fits : (r : Reader) → Fits d r → Fits d (look_group mem d r)
  unfolding look_group
  look_group_fits r f = search (rules, display_fits)

  restarted_fits : (r : Reader) → Fits d r → SettingsFit (restarted c d r).settings
  unfolding restarted
  restarted_fits r f = search (rules, mod-lt)

  fetched_fits : (r : Reader) → Fits d r → Fits d (fetched_by mem c d r)
  fetched_fits r f =
      look_group_fits _ (field_fits _ (map_group_fits _ (font_fits _ (scroll_fits _ (address_group_fits _ (repeat_fits r f))))))

-- a sound frame's record leaves sound settings, and a position of 19 bits
module _ (mem : List ℕ) (bytes : Bytes mem) (r : Reader) (f : SettingsFit r.settings) (at : r.position < 524288) where
  abbrev c : ℕ
  c = byte_at mem r.position 0

  abbrev d : ℕ
  d = byte_at mem r.position 1

  read_fits : Fits d (fetched_by mem c d (controlled c d r))
  read_fits = fetched_fits mem bytes c d _ (controlled_fits mem bytes c d r f at)

  pub record_fits : SettingsFit (record_of mem r).settings
  record_fits = restarted_fits mem bytes c d _ read_fits

  pub record_position : (record_of mem r).position < 524288
  unfolding restarted
  record_position = read_fits.position
