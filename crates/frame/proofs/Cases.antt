-- The cases of a line, one equation each. Assumes nothing.
use mathlib.Core.Path.{◌≡◌}
use mathlib.Core.Bool.{Bool, true, false, cond}
use mathlib.Core.List.{List}
use Prim.Native.Nat.{ℕ, ◌+◌, ◌-◌, ◌≤◌, ◌<◌}
use lib.ListN.{length}
use borrow.Author.Tests.{lt-ltb, le-ltb}
use Rattle.record.specs.Parts.{with_settings, repeating}
use Rattle.record.specs.Record.{record_of}
use Rattle.record.specs.declared.Reader.{Reader}
use Rattle.refusal.specs.Sheet.{done, refused}
use Rattle.settings.specs.Settings.{beginning, off}
use Rattle.vram.specs.Memory.{good_length}
use Rattle.frame.specs.Frame.{sound_frame, frame_at, fetched, advanced_reader, shown, next_frame, line_answer, line_frame}
use Rattle.frame.specs.declared.Frame.{Frame}

-- the second and the third of three
second : {A : Type 0} (s t : Bool) (x y z : A) → s ≡ false → t ≡ true → cond s x (cond t y z) ≡ y
second s t x y z p q = simp (p, q)

third : {A : Type 0} (s t : Bool) (x y z : A) → s ≡ false → t ≡ false → cond s x (cond t y z) ≡ z
third s t x y z p q = simp (p, q)

-- what is fetched: a repeat, the end, a record
module _ (mem : List ℕ) (r : Reader) where
  pub fetched_repeat : 0 < r.repeat → fetched mem r ≡ repeating (r.repeat - 1) r
  unfolding fetched
  fetched_repeat h = simp (lt-ltb _ _ h)

  pub fetched_end : r.repeat ≤ 0 → r.ended ≡ true → fetched mem r ≡ with_settings (off r.settings) r
  unfolding fetched
  fetched_end h e = second _ r.ended _ _ _ (le-ltb 0 r.repeat h) e

  pub fetched_record : r.repeat ≤ 0 → r.ended ≡ false → fetched mem r ≡ record_of mem r
  unfolding fetched
  fetched_record h e = third _ r.ended _ _ _ (le-ltb 0 r.repeat h) e

module _ (mem : List ℕ) (f : Frame) where
  -- a frame that is switched on, and one that is not
  pub shown_on : f.on ≡ true → shown mem f ≡ (fetched mem f.reader).settings
  unfolding shown
  shown_on e = simp e

  pub shown_off : f.on ≡ false → shown mem f ≡ beginning
  unfolding shown
  shown_off e = simp e

  pub next_on : f.on ≡ true → next_frame mem f ≡ frame_at (f.line + 1) (advanced_reader (fetched mem f.reader)) f
  unfolding next_frame
  next_on e = simp e

  pub next_off : f.on ≡ false → next_frame mem f ≡ frame_at (f.line + 1) f.reader f
  unfolding next_frame
  next_off e = simp e

  -- the refusals: what is told, and the frame as it was handed in
  pub line_board : good_length (length mem) ≡ false → (line_answer f mem ≡ refused 1 0) × (line_frame f mem ≡ f)
  line_board g = (simp g, simp g)

  pub line_state : good_length (length mem) ≡ true → sound_frame f ≡ false → (line_answer f mem ≡ refused 15 0) × (line_frame f mem ≡ f)
  line_state g s = (simp (g, s), simp (g, s))

  module _ (g : good_length (length mem) ≡ true) (s : sound_frame f ≡ true) where
    pub line_over : 240 ≤ f.line → (line_answer f mem ≡ refused 4 0) × (line_frame f mem ≡ f)
    line_over h = (simp (g, s, le-ltb _ _ h), simp (g, s, le-ltb _ _ h))

    -- a line that is given
    pub line_given : f.line < 240 → (line_answer f mem ≡ done (shown mem f)) × (line_frame f mem ≡ next_frame mem f)
    line_given h = (simp (g, s, lt-ltb _ _ h), simp (g, s, lt-ltb _ _ h))
