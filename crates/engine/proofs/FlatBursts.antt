-- What holds at each turn of a burst over flat stretches: the burst goes on at a place, or the block has ended. Assumes nothing.
use mathlib.Core.Path.{◌≡◌, refl, ap, ◌∙◌}
use mathlib.Core.Bool.{Bool, true, false, cond, ◌&&◌}
use mathlib.Core.List.{List}
use Prim.Native.Nat.{ℕ, ◌+◌, ◌-◌, ◌≤◌, ◌<◌, min}
use native.Mathlib.Omega.{arith}
use lib.Dec.{ltb}
use lib.ListN.{length}
use borrow.Author.Tests.{ltb-true, ltb-false}
use Rattle.laws.proofs.Choice.{both, and_both}
use Rattle.vram.specs.Memory.{good_length}
use Rattle.block.specs.Block.{columns_of, rows_of}
use Rattle.stretch.specs.Stretch.{Trace, trace_of}
use Rattle.stretch.specs.declared.Stretch.{Stretch}
use Rattle.stretch.specs.Flat.{flat_count, first_of}
use Rattle.stretch.proofs.Fitting.{some_drawn, few_drawn}
use Rattle.blitter.proofs.Sound.{Inside, first_inside}
use Rattle.engine.specs.declared.Sofar.{Sofar}
use Rattle.engine.specs.Tick.{ended}
use Rattle.engine.specs.Engine.{BurstTo, Reach, after_row, after_col, level_block, stretch_at, left_at}
use Rattle.engine.proofs.Bursts.{Bursting, sofar, Stretched, reach_less, burst_left, last_row, last_col, sum, last_in, stretch_col, stretch_row, stretch_end}

pub record Turned (run : Sofar) (first : List ℕ) (budget : ℕ) (now : Trace) (row col done : ℕ) : Type 0 where
  pub going : row < rows_of run.blitter.block → Bursting run first budget now row col done
  pub ending : rows_of run.blitter.block ≤ row → BurstTo run first budget (sofar (ended run.blitter now.note) done now.accesses) now.mem
  pub row_in : row ≤ rows_of run.blitter.block
  pub col_in : col < columns_of run.blitter.block

module _ {run : Sofar} {first : List ℕ} {budget : ℕ} where
  -- the budget is used, or the block has ended
  pub turned_left : {now : Trace} {row col done rows : ℕ} → Turned run first budget now row col done → rows ≡ rows_of run.blitter.block
      → (ltb row rows && ltb done budget) ≡ false → BurstTo run first budget (sofar (left_at run.blitter row col now.note) done now.accesses) now.mem
  turned_left g e t = grind (arith, burst_left)

-- behind a whole stretch
module _ {run : Sofar} {first : List ℕ} {budget : ℕ} {now : Trace} {row col done count : ℕ} {d : Trace} (s : Stretched run first budget now row col done count d) where
  pub turned_on : Turned run first budget (sum s) (after_row run.blitter.block row col count) (after_col run.blitter.block col count) (done + count)
  turned_on = by_test (ltb (last_col s + 1) (columns_of run.blitter.block)) refl
    where
      inside : Inside run.blitter.block (last_row s) (last_col s)
      inside = last_in s

      by_test : (t : Bool) → ltb (last_col s + 1) (columns_of run.blitter.block) ≡ t
          → Turned run first budget (sum s) (cond t (last_row s) (last_row s + 1)) (cond t (last_col s + 1) 0) (done + count)
      by_test true t = let h = ltb-true (last_col s + 1) (columns_of run.blitter.block) t in grind (arith, inside, stretch_col s h)
      by_test false t = let h = ltb-false (last_col s + 1) (columns_of run.blitter.block) t in grind (arith, inside, stretch_row s h, stretch_end s h, first_inside)

-- as the program comes to it
module _ {run : Sofar} {first : List ℕ} {budget : ℕ} {now : Trace} {row col done rows : ℕ} (t : Turned run first budget now row col done)
    (e : rows ≡ rows_of run.blitter.block) (test : (ltb row rows && ltb done budget) ≡ true) where
  pub turned_room : done < budget
  turned_room = ltb-true done budget (both (ltb row rows) (ltb done budget) test).1

  pub turned_going : Bursting run first budget now row col done
  turned_going = t.going (omega (arith, ltb-true row rows (both (ltb row rows) (ltb done budget) test).0))

  tests : level_block run.blitter.block ≡ true → (good_length (length now.mem) && level_block run.blitter.block) ≡ true
  tests l = and_both (good_length (length now.mem)) (level_block run.blitter.block) (ap good_length turned_going.long ∙ turned_going.from.board) l

  -- of most bytes count are drawn at once
  pub at_once : level_block run.blitter.block ≡ true → {reached most : ℕ} → (0 < reached) × Reach run.blitter.block row col reached → most ≡ min reached (budget - done)
      → {bytes : Stretch} → bytes ≡ stretch_at run.blitter.block row col most
      → {count : ℕ} {d : Trace} → count ≡ flat_count (length now.mem) run.blitter.block bytes → d ≡ trace_of run.blitter.block (first_of bytes count) now.mem now.note
      → Stretched run first budget now row col done count d
  at_once l r m s c i = grind (arith, turned_room, turned_going, few_drawn, some_drawn, tests, reach_less)
