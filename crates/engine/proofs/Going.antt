-- What holds whenever the test of a run's loop is reached: the rest of the budget makes of it what the whole makes of the beginning. Assumes nothing.
use mathlib.Core.Path.{◌≡◌, sym, ap, ◌∙◌}
use mathlib.Core.Bool.{true}
use mathlib.Core.List.{List}
use Prim.Native.Nat.{ℕ, ◌+◌, ◌-◌, ◌*◌, ◌≤◌, ◌<◌}
use native.Mathlib.Omega.{arith}
use lib.ListN.{length}
use borrow.Author.Tests.{eq-eqb, ne_eqb}
use Rattle.vram.specs.Memory.{good_length}
use Rattle.blitter.specs.declared.Blitter.{Blitter}
use Rattle.blitter.specs.State.{sound_blitter}
use Rattle.engine.specs.Tick.{load_tick, tick_blitter, tick_memory, tick_count}
use Rattle.engine.specs.Run.{ticked, run_for, begun}
use Rattle.engine.specs.declared.Sofar.{Sofar}
use Rattle.engine.specs.Engine.{so_far, BurstFrom}
use Rattle.blitter.proofs.Sound.{sound_facts, sound_test}
use Rattle.engine.proofs.Tick.{load_sound}
use Rattle.engine.proofs.Runs.{run_idle, run_tick}
use Rattle.engine.proofs.Bursts.{less, sofar}

pub record Going (start : Blitter) (first : List ℕ) (budget : ℕ) (run : Sofar) (mem : List ℕ) : Type 0 where
  pub board : good_length (length first) ≡ true
  pub small : budget ≤ 1000000
  pub long : length mem ≡ length first
  pub within : run.counts.ticks ≤ budget
  pub counted : run.counts.accesses ≤ 21 * run.counts.ticks
  pub sound : sound_blitter run.blitter ≡ true
  pub same : run_for (budget - run.counts.ticks) (so_far run mem) ≡ run_for budget (begun start first)

none_left : (budget ticks : ℕ) → budget ≤ ticks → 0 ≡ budget - ticks
none_left budget ticks h = omega arith

module _ {start : Blitter} {first : List ℕ} {budget : ℕ} where
  module _ {run : Sofar} {mem : List ℕ} (g : Going start first budget run mem) where
    -- the budget is used
    pub going_used : budget ≤ run.counts.ticks → so_far run mem ≡ run_for budget (begun start first)
    unfolding run_for
    going_used h = grind (arith, none_left)

    -- the flags are 0
    pub going_idle : run.blitter.flags ≡ 0 → so_far run mem ≡ run_for budget (begun start first)
    going_idle e = grind (arith, run_idle)

    module _ (h : run.counts.ticks < budget) where
      -- a load
      pub going_load : run.blitter.flags ≡ 1 → Going start first budget (sofar (load_tick run.blitter mem) (run.counts.ticks + 1) (run.counts.accesses + 21)) mem
      unfolding ticked tick_blitter tick_memory tick_count
      going_load e =
          record {
            board = g.board;
            small = g.small;
            long = g.long;
            within = omega arith;
            counted = omega (arith, g.counted);
            sound = sound_test _ (load_sound run.blitter mem);
            same =
                rw (ne_eqb run.blitter.flags 0 (omega arith), eq-eqb run.blitter.flags 1 e) at (sym (run_tick (budget - (run.counts.ticks + 1)) (so_far run mem) (omega arith)))
                ∙ ap (λ (k : ℕ). run_for k (so_far run mem)) (less budget run.counts.ticks h)
                ∙ g.same;
          }

      -- a burst may begin
      pub going_busy : (run.blitter.flags ≡ 0 → ⊥) → (run.blitter.flags ≡ 1 → ⊥) → BurstFrom run mem budget
      going_busy n0 n1 =
          let s = sound_facts run.blitter g.sound in
          let two : run.blitter.flags ≡ 2 = omega (arith, s.flags_in) in
          record {
            board = ap good_length g.long ∙ g.board;
            busy = two;
            list = s.list_in;
            row = (s.busy two).row_in;
            col = (s.busy two).col_in;
            left = h;
            small = g.small;
            counted = g.counted;
          }
