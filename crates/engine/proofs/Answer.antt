-- What a run that is refused answers, case by case in the order of its refusals. Assumes nothing.
use mathlib.Core.Path.{◌≡◌}
use mathlib.Core.Bool.{true, false}
use mathlib.Core.List.{List}
use Prim.Native.Nat.{ℕ, ◌<◌}
use lib.ListN.{length}
use borrow.Author.Tests.{lt-leb}
use Rattle.refusal.specs.Sheet.{Told, refused}
use Rattle.vram.specs.Memory.{good_length}
use Rattle.blitter.specs.declared.Blitter.{Blitter}
use Rattle.blitter.specs.State.{sound_blitter}
use Rattle.engine.specs.declared.Counts.{Counts}
use Rattle.engine.specs.Run.{engine_answer, engine_blitter, engine_memory}

module _ (b : Blitter) (mem : List ℕ) (budget : ℕ) where
  -- a run tells this, and leaves this blitter and this memory
  abbrev pub Gives : Told Counts → Blitter → List ℕ → Type 0
  Gives told b' mem' = (told ≡ engine_answer b mem budget) × ((b' ≡ engine_blitter b mem budget) × (mem' ≡ engine_memory b mem budget))

  pub no_board : good_length (length mem) ≡ false → Gives (refused 1 0) b mem
  unfolding engine_answer engine_blitter engine_memory
  no_board g = (simp g, (simp g, simp g))

  module _ (g : good_length (length mem) ≡ true) where
    pub no_state : sound_blitter b ≡ false → Gives (refused 15 0) b mem
    unfolding engine_answer engine_blitter engine_memory
    no_state s = (simp (g, s), (simp (g, s), simp (g, s)))

    module _ (s : sound_blitter b ≡ true) where
      pub no_budget : 1000000 < budget → Gives (refused 2 0) b mem
      unfolding engine_answer engine_blitter engine_memory
      no_budget h = let l = lt-leb budget 1000000 h in (simp (g, s, l), (simp (g, s, l), simp (g, s, l)))
