-- Document 01, "Plans", "Bytes": the display list of a plan, record by record in the manual's fetch order.
use Rattle.std.specs.Prelude.{Bool, true, false, cond, List, [], ◌∷◌, ◌++◌, ℕ, ◌+◌, ◌-◌, ◌*◌, ◌/◌, ◌%◌, eqb}
use Rattle.item.specs.declared.Full.{Full}
use Rattle.item.specs.declared.Running.{Running}
use Rattle.item.specs.declared.Item.{Item}
use Rattle.item.specs.declared.Item.TheVariants.{Full as full, Running as running}
use Rattle.plan.specs.Plan.{parse, items_of}

-- control byte 1, bits 0 to 2: "OVOFF .. where off", TMON for text, GMON for SR, HR and LR
abbrev pub overlay_bit : ℕ → ℕ
overlay_bit mode = cond (eqb mode 0) 4 (cond (eqb mode 1) 1 2)

-- bits 3 and 4: MAPON, or "MAPOFF where off"
abbrev pub map_bit : ℕ → ℕ
map_bit map = cond (eqb map 0) 16 8

-- control byte 2, bits 4 and 5: HR for mode 3, LR for mode 4
abbrev pub resolution_bit : ℕ → ℕ
resolution_bit mode = cond (eqb mode 3) 16 (cond (eqb mode 4) 32 0)

-- bit 7: "The last has END"
abbrev pub end_bit : Bool → ℕ
end_bit last = cond last 128 0

-- "a kind 1 record is always 22 bytes with all seven data groups"
unfoldable pub full_record : Full → Bool → List ℕ
full_record b last =
    -- the control bytes: RPTL, OVADR, OVSCRL are 224; CHBASE, MAPADR, MAPPAR, OVATT are 15
    (224 + overlay_bit b.mode + map_bit b.map)
    ∷ (15 + resolution_bit b.mode + end_bit last)
    -- RPTL
    ∷ (b.lines - 1)
    -- OVADR, with OVSTEP
    ∷ (b.address % 256)
    ∷ (b.address / 256 % 256)
    ∷ (b.address / 65536 % 256)
    ∷ (b.step % 256)
    ∷ (b.step / 256 % 256)
    -- OVSCRL
    ∷ b.hscroll
    ∷ b.vscroll
    -- CHBASE
    ∷ b.font
    -- MAPADR, with MAPSTEP
    ∷ (b.mapaddress % 256)
    ∷ (b.mapaddress / 256 % 256)
    ∷ (b.mapaddress / 65536 % 256)
    ∷ (b.mapstep % 256)
    ∷ (b.mapstep / 256 % 256)
    -- MAPPAR
    ∷ b.maphscroll
    ∷ b.mapvscroll
    ∷ (b.fieldwidth - 1)
    ∷ (b.fieldheight - 1)
    -- OVATT: width in bits 0 and 1, overlay palette in 4 and 5, playfield palette in 6 and 7; priority
    ∷ (b.width + 16 * b.palettes)
    ∷ b.priority
    ∷ []

-- "kind 2 is 8 bytes, control 0xA0 0x09": RPTL, OVSCRL, CHBASE, OVATT
unfoldable pub running_record : Running → Bool → List ℕ
running_record b last =
    160
    ∷ (9 + end_bit last)
    ∷ (b.lines - 1)
    ∷ b.hscroll
    ∷ b.vscroll
    ∷ b.font
    ∷ (b.width + 16 * b.palettes)
    ∷ b.priority
    ∷ []

-- the record of either kind, and its size
abbrev pub record_bytes : Item → Bool → List ℕ
record_bytes (full b) last = full_record b last
record_bytes (running b) last = running_record b last

abbrev pub record_size : Item → ℕ
record_size (full b) = 22
record_size (running b) = 8

-- "Each record is written .. behind the one before", the last with END
abbrev pub is_last : List Item → Bool
is_last [] = true
is_last (it ∷ l) = false

abbrev pub bytes_of : List Item → List ℕ
bytes_of [] = []
bytes_of (it ∷ l) = record_bytes it (is_last l) ++ bytes_of l

-- the list of a plan; none where it is refused
unfoldable pub xdl_bytes : List ℕ → List ℕ
xdl_bytes plan = bytes_of (items_of (parse plan))
