-- `pixels::text::Text::cut` meets its contract. Assumes nothing.
use mathlib.Core.Path.{◌≡◌}
use Prim.Native.Nat.{ℕ, ◌+◌, ◌<◌}
use lib.ListN.{get_or}
use Rattle.pixels.specs.Fills.{glyph_pixel}
use Rattle.pixels.proofs.text.Text.cut.Given as goal

abbrev pub invariant-loop-i : goal.invariant-loop-i
invariant-loop-i l = (j : ℕ) → j < l.i → get_or l.line j 0 ≡ glyph_pixel l.glyph (l.part + j)
