-- The lines of a frame on unchanged memory, one after the other. Assumes nothing.
use mathlib.Core.Path.{◌≡◌, refl, sym, ap, ◌∙◌}
use mathlib.Core.Bool.{true}
use mathlib.Core.List.{List}
use Prim.Native.Nat.{ℕ, zero, suc, ◌+◌, ◌<◌}
use native.Mathlib.Omega.{arith}
use lib.ListN.{length}
use Rattle.refusal.specs.Sheet.{done}
use Rattle.vram.specs.Memory.{Bytes, good_length}
use Rattle.frame.specs.Frame.{sound_frame, shown, next_frame, lines_on, line_at}
use Rattle.frame.proofs.Cases.{line_given}
use Rattle.frame.proofs.Sound.{sound_next}
use Rattle.frame.specs.declared.Frame.{Frame}

-- a line that is given counts itself
pub next_line_is : (mem : List ℕ) (f : Frame) → (next_frame mem f).line ≡ f.line + 1
unfolding next_frame
next_line_is mem f = refl

module _ (mem : List ℕ) (g : good_length (length mem) ≡ true) where
  -- the first line, and those after it
  module _ (f : Frame) (s : sound_frame f ≡ true) (h : f.line < 240) where
    pub line_first : line_at mem f 0 ≡ done (shown mem f)
    unfolding lines_on
    line_first = (line_given mem f g s h).0

    pub line_more : (k : ℕ) → line_at mem f (suc k) ≡ line_at mem (next_frame mem f) k
    unfolding lines_on
    line_more k = ap (λ (x : Frame). line_at mem x k) (line_given mem f g s h).1

    pub lines_more : (k : ℕ) → lines_on mem f (suc k) ≡ lines_on mem (next_frame mem f) k
    unfolding lines_on
    lines_more k = ap (λ (x : Frame). lines_on mem x k) (line_given mem f g s h).1

  -- none of the 240 lines is refused
  pub line_told_lem : Bytes mem → (k : ℕ) (f : Frame) → sound_frame f ≡ true → f.line + k < 240 → line_at mem f k ≡ done (shown mem (lines_on mem f k))
  unfolding lines_on
  line_told_lem bytes zero f s h = line_first f s (omega arith)
  line_told_lem bytes (suc k) f s h =
      let l : f.line < 240 = omega arith in
      let n : (next_frame mem f).line + k < 240 = omega (arith, next_line_is mem f) in
      line_more f s l k ∙ line_told_lem bytes k (next_frame mem f) (sound_next mem bytes f s l) n ∙ ap (λ (x : Frame). done (shown mem x)) (sym (lines_more f s l k))
