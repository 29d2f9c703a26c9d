-- Document 01, "The blitter": "A run takes a budget and does ticks until the budget is used or flags are 0. It reports ticks done and accesses made."
use Rattle.std.specs.Prelude.{cond, List, ℕ, zero, suc, ◌+◌, eqb, leb, length}
use Rattle.refusal.specs.Sheet.{Told, done, unless, kept}
use Rattle.vram.specs.Memory.{good_length}
use Rattle.blitter.specs.declared.Blitter.{Blitter}
use Rattle.engine.specs.declared.Counts.{Counts}
use Rattle.blitter.specs.State.{sound_blitter}
use Rattle.engine.specs.Tick.{tick_blitter, tick_memory, tick_count}

-- a run so far: the blitter, memory, and the two counts
pub record Progress : Type 0 where
  pub blitter : Blitter
  pub mem : List ℕ
  pub ticks : ℕ
  pub accesses : ℕ

-- one tick more
unfoldable pub ticked : Progress → Progress
ticked r =
    record {
      blitter = tick_blitter r.blitter r.mem;
      mem = tick_memory r.blitter r.mem;
      ticks = r.ticks + 1;
      accesses = r.accesses + tick_count r.blitter r.mem;
    }

-- a tick unless the flags are 0
unfoldable pub onward : Progress → Progress
onward r = cond (eqb r.blitter.flags 0) r (ticked r)

-- a budget's worth
unfoldable pub run_for : ℕ → Progress → Progress
run_for zero r = r
run_for (suc n) r = run_for n (onward r)

abbrev pub progress : Blitter → List ℕ → ℕ → ℕ → Progress
progress b mem ticks accesses = record { blitter = b; mem = mem; ticks = ticks; accesses = accesses }

abbrev pub begun : Blitter → List ℕ → Progress
begun b mem = progress b mem 0 0

-- what is reported: ticks and accesses
abbrev pub counted : Progress → Told Counts
counted r = done (record { ticks = r.ticks; accesses = r.accesses })

-- 1 board, 15 state, 2 budget
unfoldable pub engine_answer : Blitter → List ℕ → ℕ → Told Counts
engine_answer b mem budget =
    unless (good_length (length mem)) 1
    (unless (sound_blitter b) 15 (unless (leb budget 1000000) 2 (counted (run_for budget (begun b mem)))))

unfoldable pub engine_blitter : Blitter → List ℕ → ℕ → Blitter
engine_blitter b mem budget = kept (engine_answer b mem budget) b (run_for budget (begun b mem)).blitter

unfoldable pub engine_memory : Blitter → List ℕ → ℕ → List ℕ
engine_memory b mem budget = kept (engine_answer b mem budget) mem (run_for budget (begun b mem)).mem
