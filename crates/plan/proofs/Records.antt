-- A record's size, and that it is bytes. Assumes nothing.
use mathlib.Core.Path.{◌≡◌, refl, subst}
use mathlib.Core.Bool.{Bool, true, false}
use mathlib.Core.List.{List, [], ◌∷◌, ◌++◌}
use Prim.Native.Nat.{ℕ, zero, suc, ◌+◌, ◌-◌, ◌%◌, ◌≤◌, ◌<◌}
use native.Mathlib.Decide.{dec_lt}
use native.Mathlib.Omega.{arith}
use lib.Dec.{eqb}
use lib.ListN.{length, get_or, get_or-append}
use lib.Seq.{get_or-append-add}
use Rattle.laws.proofs.Choice.{by_cond}
use Rattle.vram.specs.Memory.{Bytes}
use Rattle.item.specs.Item.{sound_item}
use Rattle.item.specs.declared.Item.{Item}
use Rattle.item.specs.declared.Item.TheVariants.{Full as full, Running as running}
use Rattle.item.proofs.Ranges.{full_fits, running_fits}
use Rattle.plan.specs.Xdl.{overlay_bit, map_bit, resolution_bit, end_bit, full_record, running_record, record_bytes, record_size}

pub length_record : (it : Item) (last : Bool) → length (record_bytes it last) ≡ record_size it
unfolding full_record running_record
length_record (full b) last = refl
length_record (running b) last = refl

pub size_le : (it : Item) → record_size it ≤ 22
size_le (full b) = omega arith
size_le (running b) = omega arith

pub size_some : (it : Item) → 1 ≤ record_size it
size_some (full b) = omega arith
size_some (running b) = omega arith

-- bytes, one by one
infixr 30 ◌then◌
data Each : List ℕ → Type 0 where
  none : Each []
  ◌then◌ : {x : ℕ} {xs : List ℕ} → x < 256 → Each xs → Each (x ∷ xs)

bytes_each : {xs : List ℕ} → Each xs → Bytes xs
bytes_each none i = omega arith
bytes_each (h then e) zero = h
bytes_each (h then e) (suc i) = bytes_each e i

pub bytes_append : (xs ys : List ℕ) → Bytes xs → Bytes ys → Bytes (xs ++ ys)
bytes_append xs ys f g i = go (dec_lt i (length xs))
  where
    go : Dec (i < length xs) → get_or (xs ++ ys) i 0 < 256
    go (yes lt) = rw (get_or-append xs ys 0 i lt) (f i)
    go (no nlt) =
        let at : length xs + (i - length xs) ≡ i = omega arith in
        subst (λ (k : ℕ). get_or (xs ++ ys) k 0 < 256) at (rw (get_or-append-add xs ys (i - length xs) 0) (g (i - length xs)))

-- the two fields of an item that may be any byte
abbrev pub Open : Item → Type 0
Open (full b) = (b.font < 256) × (b.priority < 256)
Open (running b) = (b.font < 256) × (b.priority < 256)

overlay_le : (mode : ℕ) → overlay_bit mode ≤ 4
overlay_le mode =
    by_cond (λ (k : ℕ). k ≤ 4) (eqb mode 0) 4 _ (λ e. omega arith) (λ e. by_cond (λ (k : ℕ). k ≤ 4) (eqb mode 1) 1 2 (λ f. omega arith) (λ f. omega arith))

map_le : (map : ℕ) → map_bit map ≤ 16
map_le map = by_cond (λ (k : ℕ). k ≤ 16) (eqb map 0) 16 8 (λ e. omega arith) (λ e. omega arith)

resolution_le : (mode : ℕ) → resolution_bit mode ≤ 32
resolution_le mode =
    by_cond (λ (k : ℕ). k ≤ 32) (eqb mode 3) 16 _ (λ e. omega arith) (λ e. by_cond (λ (k : ℕ). k ≤ 32) (eqb mode 4) 32 0 (λ f. omega arith) (λ f. omega arith))

end_le : (last : Bool) → end_bit last ≤ 128
end_le true = omega arith
end_le false = omega arith

low : (x : ℕ) → x % 256 < 256
low x = omega arith

-- the record of a sound item is bytes
pub bytes_record : (it : Item) (last : Bool) → sound_item it ≡ true → Open it → Bytes (record_bytes it last)
unfolding full_record running_record
bytes_record (full b) last s o =
    let f = full_fits b s in
    bytes_each
    (omega (arith, overlay_le b.mode, map_le b.map)
    then omega (arith, resolution_le b.mode, end_le last)
    then omega (arith, f.lines)
    then low _
    then low _
    then low _
    then low _
    then low _
    then omega (arith, f.hscroll)
    then omega (arith, f.vscroll)
    then o.0
    then low _
    then low _
    then low _
    then low _
    then low _
    then omega (arith, f.maphscroll)
    then omega (arith, f.mapvscroll)
    then omega (arith, f.wide)
    then omega (arith, f.high)
    then omega (arith, f.width, f.palettes)
    then o.1
    then none)
bytes_record (running b) last s o =
    let f = running_fits b s in
    bytes_each
    (omega arith
    then omega (arith, end_le last)
    then omega (arith, f.lines)
    then omega (arith, f.hscroll)
    then omega (arith, f.vscroll)
    then o.0
    then omega (arith, f.width, f.palettes)
    then o.1
    then none)
