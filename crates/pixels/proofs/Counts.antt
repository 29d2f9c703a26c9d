-- The counts: at most 672, whole cells, and none past the tables; the shared rule for pixels per byte. Assumes nothing.
use mathlib.Core.Path.{◌≡◌, refl, sym, ap, ◌∙◌}
use mathlib.Core.List.{[], ◌∷◌}
use Prim.Native.Nat.{ℕ, zero, suc, ◌*◌, ◌%◌, ◌≤◌, ◌<◌, zero-le}
use native.Mathlib.Nat.{zero-mul}
use native.Mathlib.Decide.{dec_lt}
use native.Mathlib.Omega.{arith}
use lib.Dec.{eqb, ltb, leb}
use lib.ListN.{get_or}
use borrow.Author.Tests.{ltb-true, leb-true, eqb-true}
use Rattle.pixels.specs.Pixels.{pixel_table, pixel_count, cell_bytes, cell_pixels}
use Rattle.pixels.specs.Reads.{data_table, data_bytes, PixelsPerByte}
use Rattle.pixels.proofs.Table.{below, tested, past_row, past_table}

-- past the tables there is no pixel
wide_none : (mode width : ℕ) → 3 ≤ width → pixel_count mode width ≡ 0
unfolding pixel_count
wide_none mode width h = past_row 3 pixel_table refl mode width h

pub mode_none : (mode width : ℕ) → 5 ≤ mode → pixel_count mode width ≡ 0
unfolding pixel_count
mode_none mode width h = past_table pixel_table mode width h

-- a fact about a count that holds in the tables and for none holds for all modes and widths
module _ (P : ℕ → ℕ → Type 0) (none : (mode : ℕ) → P mode 0) where
  each_count : ((mode width : ℕ) → mode < 5 → width < 3 → P mode (pixel_count mode width)) → (mode width : ℕ) → P mode (pixel_count mode width)
  each_count inside mode width = go (dec_lt mode 5) (dec_lt width 3)
    where
      go : Dec (mode < 5) → Dec (width < 3) → P mode (pixel_count mode width)
      go (yes m) (yes w) = inside mode width m w
      go (yes m) (no w) = rw (wide_none mode width (omega arith)) (none mode)
      go (no m) (yes w) = rw (mode_none mode width (omega arith)) (none mode)
      go (no m) (no w) = rw (mode_none mode width (omega arith)) (none mode)

-- off has no pixel and no byte
nothing : (width : ℕ) → ◌≡◌ {A = ℕ} (get_or (0 ∷ 0 ∷ 0 ∷ []) width 0) 0
nothing zero = refl
nothing (suc zero) = refl
nothing (suc (suc zero)) = refl
nothing (suc (suc (suc w))) = refl

pub off_none : (width : ℕ) → pixel_count 0 width ≡ 0
unfolding pixel_count
off_none width = nothing width

pub off_no_byte : (width : ℕ) → data_bytes 0 width ≡ 0
unfolding data_bytes
off_no_byte width = nothing width

mode_no_byte : (mode width : ℕ) → 5 ≤ mode → data_bytes mode width ≡ 0
unfolding data_bytes
mode_no_byte mode width h = past_table data_table mode width h

pub count_most : (mode width : ℕ) → pixel_count mode width ≤ 672
unfolding pixel_count
count_most =
    each_count (λ mode n. n ≤ 672) (λ mode. zero-le)
    (λ mode width h k. leb-true _ _ (tested (λ m w. leb (pixel_count m w) 672) refl mode width h k))

-- what the last arm of a match on the modes 1 to 4 knows: there is nothing in a table whose row of off is empty
else_none :
    (f : ℕ → ℕ → ℕ) → ((w : ℕ) → f 0 w ≡ 0) → ((m w : ℕ) → 5 ≤ m → f m w ≡ 0) → (mode width : ℕ)
    → (mode ≡ 1 → ⊥) → (mode ≡ 2 → ⊥) → (mode ≡ 3 → ⊥) → (mode ≡ 4 → ⊥)
    → 0 ≡ f mode width
else_none f off past zero w one two three four = sym (off w)
else_none f off past (suc zero) w one two three four = absurd (one refl)
else_none f off past (suc (suc zero)) w one two three four = absurd (two refl)
else_none f off past (suc (suc (suc zero))) w one two three four = absurd (three refl)
else_none f off past (suc (suc (suc (suc zero)))) w one two three four = absurd (four refl)
else_none f off past (suc (suc (suc (suc (suc m))))) w one two three four = sym (past (suc (suc (suc (suc (suc m))))) w (omega arith))

pub count_else : (mode width : ℕ) → (mode ≡ 1 → ⊥) → (mode ≡ 2 → ⊥) → (mode ≡ 3 → ⊥) → (mode ≡ 4 → ⊥) → 0 ≡ pixel_count mode width
count_else = else_none pixel_count off_none mode_none

pub bytes_else : (mode width : ℕ) → (mode ≡ 1 → ⊥) → (mode ≡ 2 → ⊥) → (mode ≡ 3 → ⊥) → (mode ≡ 4 → ⊥) → 0 ≡ data_bytes mode width
bytes_else = else_none data_bytes off_no_byte mode_no_byte

-- a line is whole cells: twos in HR, eights in text
pub count_cells : (mode width : ℕ) → pixel_count mode width % 8 ≡ 0
unfolding pixel_count
count_cells =
    each_count (λ mode n. n % 8 ≡ 0) (λ mode. refl)
    (λ mode width h k. eqb-true _ _ (tested (λ m w. eqb (pixel_count m w % 8) 0) refl mode width h k))

-- of bytes there are at most 336; in text at most 168, so two more fit
pub bytes_most : (mode width : ℕ) → data_bytes mode width ≤ 336
unfolding data_bytes
bytes_most mode width = go (dec_lt mode 5) (dec_lt width 3)
  where
    go : Dec (mode < 5) → Dec (width < 3) → data_bytes mode width ≤ 336
    go (yes m) (yes w) = leb-true _ _ (tested (λ a b. leb (data_bytes a b) 336) refl mode width m w)
    go (yes m) (no w) = let none = past_row 3 data_table refl mode width (omega arith) in omega arith
    go (no m) w = let none = past_table data_table mode width (omega arith) in omega arith

pub text_most : (width : ℕ) → width < 3 → data_bytes 1 width ≤ 168
unfolding data_bytes
text_most width h = leb-true _ _ (below 3 (λ w. leb (data_bytes 1 w) 168) refl width h)

-- a text line has some
pub text_some : (width : ℕ) → width < 3 → 0 < pixel_count 1 width
unfolding pixel_count
text_some width h = ltb-true _ _ (below 3 (λ w. ltb 0 (pixel_count 1 w)) refl width h)

-- "the shared rule for pixels per byte once over all modes and widths"
pub pixels_per_byte : PixelsPerByte
unfolding pixel_count data_bytes
pixels_per_byte mode width = go (dec_lt mode 5) (dec_lt width 3)
  where
    go : Dec (mode < 5) → Dec (width < 3) → pixel_count mode width * cell_bytes mode ≡ data_bytes mode width * cell_pixels mode
    go (yes m) (yes w) =
        eqb-true _ _ (tested (λ a b. eqb (pixel_count a b * cell_bytes a) (data_bytes a b * cell_pixels a)) refl mode width m w)
    go (yes m) (no w) =
        ap (λ (n : ℕ). n * cell_bytes mode) (past_row 3 pixel_table refl mode width (omega arith))
        ∙ (zero-mul (cell_bytes mode)
        ∙ sym (ap (λ (n : ℕ). n * cell_pixels mode) (past_row 3 data_table refl mode width (omega arith)) ∙ zero-mul (cell_pixels mode)))
    go (no m) w =
        ap (λ (n : ℕ). n * cell_bytes mode) (past_table pixel_table mode width (omega arith))
        ∙ (zero-mul (cell_bytes mode)
        ∙ sym (ap (λ (n : ℕ). n * cell_pixels mode) (past_table data_table mode width (omega arith)) ∙ zero-mul (cell_pixels mode)))
