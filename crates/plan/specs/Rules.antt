-- Document 01, "Plans" and "Refusal numbers": which plans break no rule, said of the bytes that are written and not of how they are read.
use Rattle.std.specs.Prelude.{◌≡◌, true, List, [], ◌∷◌, ◌++◌, ℕ, ◌+◌, ◌/◌, ◌%◌, ◌≤◌}
use Rattle.vram.specs.Memory.{Bytes}
use Rattle.item.specs.Item.{sound_item, lines_of, is_full}
use Rattle.item.specs.declared.Full.{Full}
use Rattle.item.specs.declared.Running.{Running}
use Rattle.item.specs.declared.Item.{Item}
use Rattle.item.specs.declared.Item.TheVariants.{Full as full, Running as running}
use Rattle.plan.specs.Plan.{good, parse}

-- "Items, little-endian: body length (2 bytes), kind (2), body"; "Kind 1, full band, 23 bytes"
unfoldable pub full_bytes : Full → List ℕ
full_bytes b =
    23 ∷ 0
    ∷ 1 ∷ 0
    ∷ b.lines
    ∷ b.mode
    ∷ (b.address % 256)
    ∷ (b.address / 256 % 256)
    ∷ (b.address / 65536)
    ∷ (b.step % 256)
    ∷ (b.step / 256)
    ∷ b.hscroll
    ∷ b.vscroll
    ∷ b.font
    ∷ b.map
    ∷ (b.mapaddress % 256)
    ∷ (b.mapaddress / 256 % 256)
    ∷ (b.mapaddress / 65536)
    ∷ (b.mapstep % 256)
    ∷ (b.mapstep / 256)
    ∷ b.maphscroll
    ∷ b.mapvscroll
    ∷ b.fieldwidth
    ∷ b.fieldheight
    ∷ b.width
    ∷ b.palettes
    ∷ b.priority
    ∷ []

-- "Kind 2, running on, 7 bytes"
unfoldable pub running_bytes : Running → List ℕ
running_bytes b =
    7 ∷ 0
    ∷ 2 ∷ 0
    ∷ b.lines
    ∷ b.hscroll
    ∷ b.vscroll
    ∷ b.font
    ∷ b.width
    ∷ b.palettes
    ∷ b.priority
    ∷ []

abbrev pub item_bytes : Item → List ℕ
item_bytes (full b) = full_bytes b
item_bytes (running b) = running_bytes b

-- a plan is its items, one behind the other
abbrev pub plan_bytes : List Item → List ℕ
plan_bytes [] = []
plan_bytes (it ∷ more) = item_bytes it ++ plan_bytes more

-- 6 and 10: there is an item, and the first is a full band
abbrev pub StartsFull : List Item → Type 0
StartsFull [] = ⊥
StartsFull (it ∷ more) = is_full it ≡ true

-- 9: no "field out of its range"
abbrev pub AllSound : List Item → Type 0
AllSound [] = Unit
AllSound (it ∷ more) = (sound_item it ≡ true) × AllSound more

-- 11: the lines of all items
abbrev pub lines_in : List Item → ℕ
lines_in [] = 0
lines_in (it ∷ more) = lines_of it + lines_in more

-- The items break no rule if they begin with a full band, are sound and have 240 lines at most; 5, 7 and 8 are about bytes that are no items.
-- The bytes of such items are read as these items,
abbrev pub RulesSuffice : Type 0
RulesSuffice =
    (items : List Item) → StartsFull items → AllSound items → lines_in items ≤ 240
    → parse (plan_bytes items) ≡ good items

-- and a plan that is read as items is their bytes, and they are such
abbrev pub RulesNeeded : Type 0
RulesNeeded =
    (plan : List ℕ) (items : List Item) → Bytes plan
    → parse plan ≡ good items
    → (plan ≡ plan_bytes items) × StartsFull items × AllSound items × (lines_in items ≤ 240)
