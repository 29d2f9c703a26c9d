-- Which blitters are sound, as facts and as the test. Assumes nothing.
use mathlib.Core.Path.{◌≡◌, refl}
use mathlib.Core.Bool.{Bool, true}
use Prim.Native.Nat.{ℕ, ◌≤◌, ◌<◌}
use native.Mathlib.Omega.{arith}
use Rattle.std.proofs.lemmas.Bool.Decides.{nat_tests}
use Rattle.block.specs.Block.{columns_of, rows_of, no_block, is_none}
use Rattle.block.specs.declared.Block.{Block}
use Rattle.block.proofs.None.{is_none_lem, none_is}
use Rattle.block.proofs.Sizes.{columns_pos, rows_pos}
use Rattle.blitter.specs.declared.Blitter.{Blitter}
use Rattle.blitter.specs.State.{new_blitter, sound_blitter, started, stopped, interrupts}

-- "while BUSY, row and column inside the block"
pub record Inside (block : Block) (row col : ℕ) : Type 0 where
  pub row_in : row < rows_of block
  pub col_in : col < columns_of block

-- "while not BUSY, block fields and position all 0"
pub record Blank (block : Block) (row col : ℕ) : Type 0 where
  pub block_is : block ≡ no_block
  pub row_is : row ≡ 0
  pub col_is : col ≡ 0

pub record Sound (b : Blitter) : Type 0 where
  pub list_in : b.list < 524288
  pub flags_in : b.flags ≤ 2
  pub busy : b.flags ≡ 2 → Inside b.block b.row b.col
  pub idle : (b.flags ≡ 2 → ⊥) → Blank b.block b.row b.col

-- what the test says
pub sound_facts : (b : Blitter) → sound_blitter b ≡ true → Sound b
unfolding sound_blitter
sound_facts b e =
    record {
      list_in = grind (arith, nat_tests);
      flags_in = grind (arith, nat_tests);
      busy = λ two. record { row_in = grind (arith, nat_tests); col_in = grind (arith, nat_tests) };
      idle = λ not. record { block_is = is_none_lem b.block (grind (arith, nat_tests)); row_is = grind (arith, nat_tests); col_is = grind (arith, nat_tests) };
    }

-- and the other way round
pub sound_test : (b : Blitter) → Sound b → sound_blitter b ≡ true
unfolding sound_blitter
sound_test b s = let none : (b.flags ≡ 2 → ⊥) → is_none b.block ≡ true = λ not. none_is b.block (s.idle not).block_is in grind (arith, nat_tests, none)

pub first_inside : (block : Block) → Inside block 0 0
first_inside block = record { row_in = rows_pos block; col_in = columns_pos block }

pub blank_none : Blank no_block 0 0
blank_none = record { block_is = refl; row_is = refl; col_is = refl }

-- a blitter that is not busy and holds nothing
resting : (b : Blitter) → b.list < 524288 → b.flags ≤ 1 → Blank b.block b.row b.col → Sound b
resting b l f n = record { list_in = l; flags_in = omega arith; busy = λ two. absurd (omega arith); idle = λ _. n }

-- new, started, stopped and with other interrupts, a blitter is sound
pub new_sound : Sound new_blitter
new_sound = resting new_blitter (omega arith) (omega arith) blank_none

pub started_sound : (list : ℕ) (b : Blitter) → list < 524288 → Sound (started list b)
unfolding started
started_sound list b h = resting (started list b) h (omega arith) blank_none

pub stopped_sound : (b : Blitter) → Sound b → Sound (stopped b)
unfolding stopped
stopped_sound b s = resting (stopped b) s.list_in (omega arith) blank_none

pub interrupts_sound : (irqe : Bool) (b : Blitter) → Sound b → Sound (interrupts irqe b)
unfolding interrupts
interrupts_sound irqe b s = record { list_in = s.list_in; flags_in = s.flags_in; busy = s.busy; idle = s.idle }
