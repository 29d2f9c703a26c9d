-- The place after a place of a block: each quotient and what it leaves, one further. Assumes nothing.
use mathlib.Core.Path.{◌≡◌, ap}
use Prim.Native.Nat.{ℕ, ◌+◌, ◌/◌, ◌%◌, ◌≤◌, ◌<◌}
use native.Mathlib.Nat.{mod-le, div-le_self, div-eq_of_lt, mod-eq_of_lt}
use native.Mathlib.Numerals.{add-one}
use native.Mathlib.Omega.{arith}
use Rattle.step.specs.Step.{side_address}
use Rattle.block.specs.Block.{zoom_x, zoom_y, pattern_of, source_address}
use Rattle.block.specs.declared.Block.{Block}
use Rattle.block.proofs.Place.{next_col, next_row}
use Rattle.block.proofs.Sizes.{pattern_pos}
use Rattle.engine.specs.declared.Place.{Place}
use Rattle.engine.specs.Engine.{place_at}

-- the laws of a table's next place, said of n + 1
on_col : (c : ℕ) → 0 < c → (n : ℕ) → n % c + 1 < c → ((n + 1) / c ≡ n / c) × ((n + 1) % c ≡ n % c + 1)
on_col c some n h = rw (add-one n) (next_col c some n h)

on_row : (c : ℕ) → 0 < c → (n : ℕ) → c ≤ n % c + 1 → ((n + 1) / c ≡ n / c + 1) × ((n + 1) % c ≡ 0)
on_row c some n h = rw (add-one n) (next_row c some n h)

module _ (b : Block) (p : Place) (at : p ≡ place_at b p.row p.col) where
  zoom_x_pos : 0 < zoom_x b
  zoom_x_pos = omega arith

  zoom_y_pos : 0 < zoom_y b
  zoom_y_pos = omega arith

  pub down_is : p.down ≡ p.row % zoom_y b
  down_is = ap (λ (x : Place). x.down) at

  pub across_is : p.across ≡ p.col % zoom_x b
  across_is = ap (λ (x : Place). x.across) at

  pub sourcerow_is : p.sourcerow ≡ p.row / zoom_y b
  sourcerow_is = ap (λ (x : Place). x.sourcerow) at

  pub sourcecol_is : p.sourcecol ≡ p.col / zoom_x b % pattern_of b
  sourcecol_is = ap (λ (x : Place). x.sourcecol) at

  -- the source's address
  pub source_is : side_address b.source p.sourcerow p.sourcecol ≡ source_address b p.row p.col
  unfolding source_address
  source_is = ap (λ (x : Place). side_address b.source x.sourcerow x.sourcecol) at

  -- no part is larger than the row or the column
  pub down_small : p.down ≤ p.row
  down_small = grind (arith, mod-le, div-le_self)

  pub across_small : p.across ≤ p.col
  across_small = grind (arith, mod-le, div-le_self)

  pub sourcerow_small : p.sourcerow ≤ p.row
  sourcerow_small = grind (arith, mod-le, div-le_self)

  pub sourcecol_small : p.sourcecol ≤ p.col
  sourcecol_small = grind (arith, mod-le, div-le_self)

  -- the next column, in the same source column
  pub same_column : p.across + 1 < zoom_x b
      → record { row = p.row; col = p.col + 1; down = p.down; across = p.across + 1; sourcerow = p.sourcerow; sourcecol = p.sourcecol } ≡ place_at b p.row (p.col + 1)
  same_column h = grind (arith, on_col, on_row, pattern_pos)

  module _ (h : zoom_x b ≤ p.across + 1) where
    -- in the pattern's next column
    pub next_column : p.sourcecol + 1 < pattern_of b
        → record { row = p.row; col = p.col + 1; down = p.down; across = 0; sourcerow = p.sourcerow; sourcecol = p.sourcecol + 1 } ≡ place_at b p.row (p.col + 1)
    next_column k = grind (arith, on_col, on_row, pattern_pos)

    -- in its first
    pub first_column : pattern_of b ≤ p.sourcecol + 1
        → record { row = p.row; col = p.col + 1; down = p.down; across = 0; sourcerow = p.sourcerow; sourcecol = 0 } ≡ place_at b p.row (p.col + 1)
    first_column k = grind (arith, on_col, on_row, pattern_pos)

  -- the next row's first column, in the same source row
  pub same_row : p.down + 1 < zoom_y b
      → record { row = p.row + 1; col = 0; down = p.down + 1; across = 0; sourcerow = p.sourcerow; sourcecol = 0 } ≡ place_at b (p.row + 1) 0
  same_row h = grind (arith, on_col, on_row, div-eq_of_lt, mod-eq_of_lt, pattern_pos)

  -- in the next
  pub below_row : zoom_y b ≤ p.down + 1
      → record { row = p.row + 1; col = 0; down = 0; across = 0; sourcerow = p.sourcerow + 1; sourcecol = 0 } ≡ place_at b (p.row + 1) 0
  below_row h = grind (arith, on_col, on_row, div-eq_of_lt, mod-eq_of_lt, pattern_pos)

pub ruleset next_column_is = (same_column, next_column, first_column)

pub ruleset next_row_is = (same_row, below_row)
