-- What the data of a record leave as it is: the origin, which is where the record begins, and both counters, which are reset once all data are read.
-- Assumes nothing.
use Rattle.std.proofs.Common.{rules, arith}
use mathlib.Core.Path.{◌≡◌}
use mathlib.Core.List.{List}
use Prim.Native.Nat.{ℕ}
use Rattle.record.specs.Record.{controlled, repeat_group, address_group, scroll_group, font_group, map_group, field_group, look_group, restarted, fetched_by, record_of}
use Rattle.record.specs.Counters.{TextCounter, FieldCounter}
use Rattle.record.specs.declared.Reader.{Reader}

abbrev pub origin_in : Reader → ℕ
origin_in r = r.settings.origin

record Kept : Type 0 where
  origin : ℕ
  text : ℕ
  field : ℕ

abbrev kept_in : Reader → Kept
kept_in r = record { origin = origin_in r; text = r.settings.overlay.counter; field = r.settings.map.counter }

-- each group of data
module _ (mem : List ℕ) (v : ℕ) (r : Reader) where
  abbrev Keeps : Reader → Type 0
  Keeps x = kept_in x ≡ kept_in r

  repeat_keeps : Keeps (repeat_group mem v r)
  unfolding repeat_group
  repeat_keeps = search rules

  address_keeps : Keeps (address_group mem v r)
  unfolding address_group
  address_keeps = search rules

  scroll_keeps : Keeps (scroll_group mem v r)
  unfolding scroll_group
  scroll_keeps = search rules

  font_keeps : Keeps (font_group mem v r)
  unfolding font_group
  font_keeps = search rules

  map_keeps : Keeps (map_group mem v r)
  unfolding map_group
  map_keeps = search rules

  field_keeps : Keeps (field_group mem v r)
  unfolding field_group
  field_keeps = search rules

  look_keeps : Keeps (look_group mem v r)
  unfolding look_group
  look_keeps = search rules

fetched_keeps : (mem : List ℕ) (c d : ℕ) (r : Reader) → kept_in (fetched_by mem c d r) ≡ kept_in r
fetched_keeps mem c d r = search (rules, repeat_keeps, address_keeps, scroll_keeps, font_keeps, map_keeps, field_keeps, look_keeps)

pub record_origin : (mem : List ℕ) (r : Reader) → origin_in (record_of mem r) ≡ r.position
unfolding restarted controlled
record_origin mem r = grind (arith, fetched_keeps)

pub text_counter_lem : TextCounter
unfolding restarted controlled
text_counter_lem mem r = grind (arith, fetched_keeps)

pub field_counter_lem : FieldCounter
unfolding restarted controlled
field_counter_lem mem r = grind (arith, fetched_keeps)
