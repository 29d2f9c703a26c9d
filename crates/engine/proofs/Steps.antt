-- Inside a stretch each byte's addresses are a step further than the last one's. Assumes nothing.
use mathlib.Core.Path.{◌≡◌, refl}
use mathlib.Core.Bool.{Bool, true, false, cond}
use mathlib.Core.Logic.{⊎_elim}
use Prim.Native.Nat.{ℕ, suc, ◌+◌, ◌*◌, ◌/◌, ◌%◌, ◌<◌}
use native.Mathlib.Nat.{mul-zero, div-one}
use native.Mathlib.Omega.{arith}
use lib.Dec.{eqb}
use borrow.Author.Tests.{eqb-true, eqb-false}
use Rattle.laws.proofs.Choice.{by_cond, both}
use Rattle.step.specs.Step.{side_address, across_of, down_of}
use Rattle.step.proofs.Further.{side_19, across_on, down_on}
use Rattle.block.specs.Block.{zoom_x, zoom_y, pattern_of, columns_of, dest_address, source_address}
use Rattle.block.specs.declared.Block.{Block}
use Rattle.block.proofs.Place.{far_col}
use Rattle.block.proofs.Sizes.{pattern_pos}
use Rattle.engine.specs.Engine.{Column, Row, Reach, tall_of, source_step, dest_step, ahead_row, ahead_col}

-- by the kind of block
by_tall : (b : Block) (row col k : ℕ) (t : Bool)
    → dest_address b (cond t (row + k) row) (cond t col (col + k)) ≡ (dest_address b row col + k * cond t (down_of b.dest) (across_of b.dest)) % 524288
unfolding dest_address
by_tall b row col k true = down_on b.dest row col k
by_tall b row col k false = across_on b.dest row col k

module _ (b : Block) (row col k : ℕ) where
  pub dest_on : dest_address b (ahead_row b row k) (ahead_col b col k) ≡ (dest_address b row col + k * dest_step b) % 524288
  dest_on = by_tall b row col k (tall_of b)

  -- down a tall block
  module _ (c : Column b row (suc k)) where
    flat : zoom_y b ≡ 1
    flat = eqb-true (zoom_y b) 1 (both (eqb (columns_of b) 1) (eqb (zoom_y b) 1) c.tall).1

    column_on : source_address b (ahead_row b row k) (ahead_col b col k) ≡ (source_address b row col + k * source_step b) % 524288
    unfolding source_address
    column_on = grind (arith, flat, div-one, down_on)

  -- along a row
  module _ (r : Row b col (suc k)) where
    abbrev Goal : ℕ → Type 0
    Goal step = side_address b.source (row / zoom_y b) ((col + k) / zoom_x b % pattern_of b) ≡ (side_address b.source (row / zoom_y b) (col / zoom_x b % pattern_of b) + k * step) % 524288

    plain_on : zoom_x b ≡ 1 → Goal (across_of b.source)
    plain_on e =
        let near : col / zoom_x b % pattern_of b + k < pattern_of b = omega (arith, r.plain e) in
        let one : (col + k) / zoom_x b ≡ col / zoom_x b + k = rw (e, div-one (col + k), div-one col) refl in
        rw (one, (far_col (pattern_of b) (pattern_pos b) (col / zoom_x b) k near).1) (across_on b.source (row / zoom_y b) (col / zoom_x b % pattern_of b) k)

    zoomed_on : (zoom_x b ≡ 1 → ⊥) → Goal 0
    zoomed_on n = grind (arith, far_col, mul-zero, side_19)

    row_on : source_address b (ahead_row b row k) (ahead_col b col k) ≡ (source_address b row col + k * source_step b) % 524288
    unfolding source_address
    row_on = rw r.wide (by_cond Goal (eqb (zoom_x b) 1) _ 0 (λ t. plain_on (eqb-true (zoom_x b) 1 t)) (λ t. zoomed_on (eqb-false (zoom_x b) 1 t)))

  pub source_on : Reach b row col (suc k) → source_address b (ahead_row b row k) (ahead_col b col k) ≡ (source_address b row col + k * source_step b) % 524288
  source_on = ⊎_elim column_on row_on
