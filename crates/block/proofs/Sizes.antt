-- How large a block and its addresses can be, from bytes. Assumes nothing.
use Prim.Native.Nat.{ℕ, ◌≤◌, ◌<◌}
use native.Mathlib.Nat.{mul-le-mul}
use native.Mathlib.Omega.{arith}
use Rattle.step.proofs.Laws.{side_small}
use Rattle.block.specs.Block.{pattern_of, columns_of, rows_of, dest_address, source_address}
use Rattle.block.specs.declared.Block.{Block}

module _ (b : Block) where
  pub columns_small : b.width0 < 256 → columns_of b ≤ 4096
  unfolding columns_of
  columns_small h = mul-le-mul {n₂ = 512} {m₂ = 8} (omega arith) (omega arith)

  pub rows_small : b.height < 256 → rows_of b ≤ 2048
  unfolding rows_of
  rows_small h = mul-le-mul {n₂ = 256} {m₂ = 8} (omega arith) (omega arith)

  -- a block has at least one byte
  pub columns_pos : 0 < columns_of b
  unfolding columns_of
  columns_pos = omega arith

  pub rows_pos : 0 < rows_of b
  unfolding rows_of
  rows_pos = omega arith

  pub pattern_pos : 0 < pattern_of b
  unfolding pattern_of
  pattern_pos = grind arith

  pub dest_small : (row col : ℕ) → dest_address b row col < 524288
  unfolding dest_address
  dest_small row col = side_small b.dest row col

  pub source_small : (row col : ℕ) → source_address b row col < 524288
  unfolding source_address
  source_small row col = side_small b.source _ _
