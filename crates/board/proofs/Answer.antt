-- What each call answers, case by case in the order of its refusals. Assumes nothing.
use mathlib.Core.Path.{◌≡◌, refl, sym, ap, ◌∙◌}
use mathlib.Core.Bool.{Bool, true, false, cond}
use mathlib.Core.List.{List}
use Prim.Native.Nat.{ℕ}
use native.Mathlib.Nat.{zero-add}
use lib.Dec.{eqb}
use lib.ListN.{length}
use Rattle.refusal.specs.Sheet.{Told, done, refused, unless, kept}
use Rattle.vram.specs.Memory.{good_length}
use Rattle.engine.specs.Tick.{tick_blitter, tick_memory, tick_count}
use Rattle.engine.specs.declared.Counts.{Counts}
use Rattle.engine.specs.Run as blit
use Rattle.engine.specs.Run.{Progress, ticked, onward, run_for, begun, counted}
use Rattle.blitter.specs.declared.Blitter.{Blitter}
use Rattle.board.specs.declared.Ports.{Ports}
use Rattle.board.specs.declared.Board.{Board}
use Rattle.board.specs.Ports.{sound_ports, ports_written}
use Rattle.board.specs.Board.{changed, with_blitter, sound_board, register, blitter_written, write_answer, write_board, run_answer, run_board, run_memory, tick_answer, tick_board, tick_mem}

-- Registers.
module _ (b : Board) (offset v : ℕ) where
  pub write_done :
      sound_board b ≡ true → register offset ≡ true → (p : Ports) (t : Blitter) → p ≡ ports_written offset v b.ports → t ≡ blitter_written b.ports.bladr offset v b.blitter
      → (done tt ≡ write_answer b offset) × (changed p t b ≡ write_board b offset v)
  unfolding write_answer write_board
  write_done s r p t e f = (simp (s, r), simp (s, r) (λ i. changed (e i) (f i) b))

-- A run.
-- what is kept of a field is the field of what is kept
kept_in : {X A B : Type 0} (f : A → B) (t : Told X) (x y : A) → kept t (f x) (f y) ≡ f (kept t x y)
kept_in f (done v) x y = refl
kept_in f (refused k i) x y = refl

module _ (b : Board) (mem : List ℕ) (budget : ℕ) where
  -- a run tells this, and leaves this board and this memory
  abbrev pub Gives : Told Counts → Board → List ℕ → Type 0
  Gives told b' mem' = (told ≡ run_answer b mem budget) × ((b' ≡ run_board b mem budget) × (mem' ≡ run_memory b mem budget))

  module _ (g : good_length (length mem) ≡ true) where
    -- past these the blitter's own answer is the board's
    module _ (s : sound_ports b.ports ≡ true) where
      same_answer : run_answer b mem budget ≡ blit.engine_answer b.blitter mem budget
      unfolding run_answer sound_board blit.engine_answer
      same_answer = simp (g, s)

      pub as_blitter :
          (told : Told Counts) (t : Blitter) (mem' : List ℕ) → told ≡ blit.engine_answer b.blitter mem budget → t ≡ blit.engine_blitter b.blitter mem budget
          → mem' ≡ blit.engine_memory b.blitter mem budget → Gives told (with_blitter t b) mem'
      unfolding run_board run_memory blit.engine_blitter blit.engine_memory
      as_blitter told t mem' p q r =
          let held : (Blitter → Board) = λ x. with_blitter x b in (
            p ∙ sym same_answer,
            (
              ap held q
                  ∙ sym (kept_in held (blit.engine_answer b.blitter mem budget) b.blitter (run_for budget (begun b.blitter mem)).blitter)
                  ∙ ap (λ (x : Told Counts). kept x b (held (run_for budget (begun b.blitter mem)).blitter)) (sym same_answer),
              r ∙ ap (λ (x : Told Counts). kept x mem (run_for budget (begun b.blitter mem)).mem) (sym same_answer),
            ),
          )

-- One tick is the run with a budget of 1.
module _ (b : Blitter) (mem : List ℕ) where
  one_tick : run_for 1 (begun b mem) ≡ record { blitter = tick_blitter b mem; mem = tick_memory b mem; ticks = cond (eqb b.flags 0) 0 1; accesses = tick_count b mem }
  unfolding run_for onward ticked tick_blitter tick_memory tick_count
  one_tick = by (eqb b.flags 0) refl
    where
      by : (t : Bool) → eqb b.flags 0 ≡ t → cond (eqb b.flags 0) (begun b mem) (ticked (begun b mem)) ≡ record { blitter = tick_blitter b mem; mem = tick_memory b mem; ticks = cond (eqb b.flags 0) 0 1; accesses = tick_count b mem }
      by true e = simp e
      by false e = simp (e, zero-add)

module _ (b : Board) (mem : List ℕ) where
  pub tick_answer_lem : run_answer b mem 1 ≡ tick_answer b mem
  unfolding run_answer tick_answer
  tick_answer_lem = ap (λ (r : Progress). unless (good_length (length mem)) 1 (unless (sound_board b) 15 (counted r))) (one_tick b.blitter mem)

  pub tick_board_lem : run_board b mem 1 ≡ tick_board b mem
  unfolding run_board tick_board
  tick_board_lem = rw (tick_answer_lem, one_tick b.blitter mem)

  pub tick_memory_lem : run_memory b mem 1 ≡ tick_mem b mem
  unfolding run_memory tick_mem
  tick_memory_lem = rw (tick_answer_lem, one_tick b.blitter mem)
