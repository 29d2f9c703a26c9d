-- Document 02, A2: the counters after a record, said of the record as it ends, whatever its data are.
use Rattle.std.specs.Prelude.{◌≡◌, cond, List, ℕ, ◌%◌}
use Rattle.settings.specs.declared.Overlay.{Overlay}
use Rattle.settings.specs.declared.Map.{Map}
use Rattle.vram.specs.Memory.{byte_at}
use Rattle.record.specs.Record.{text_restarts, field_restarts, record_of}
use Rattle.record.specs.declared.Reader.{Reader}

-- "a reset of the text counter puts it to vscroll after the record's own OVSCRL"; "A later OVSCRL without a reset doesn't move the counter"
abbrev pub text_counter : ℕ → Overlay → Overlay → ℕ
text_counter c before after = cond (text_restarts c) after.vscroll before.counter

-- "a reset of the field counter puts it to map vscroll modulo the field height"
abbrev pub field_counter : ℕ → Map → Map → ℕ
field_counter d before after = cond (field_restarts d) (after.vscroll % after.height) before.counter

abbrev pub TextCounter : Type 0
TextCounter =
    (mem : List ℕ) (r : Reader)
    → (record_of mem r).settings.overlay.counter
    ≡ text_counter (byte_at mem r.position 0) r.settings.overlay (record_of mem r).settings.overlay

abbrev pub FieldCounter : Type 0
FieldCounter =
    (mem : List ℕ) (r : Reader)
    → (record_of mem r).settings.map.counter
    ≡ field_counter (byte_at mem r.position 1) r.settings.map (record_of mem r).settings.map
