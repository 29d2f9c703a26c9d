-- `pixels::text::Glyph::put` meets its contract. Assumes nothing.
use mathlib.Core.Path.{◌≡◌}
use Prim.Native.Nat.{ℕ, ◌<◌}
use lib.ListN.{get_or}
use Rattle.pixels.specs.Fills.{glyph_pixel}
use Rattle.pixels.proofs.text.Glyph.put.Given as goal

abbrev pub invariant-loop-part : goal.invariant-loop-part
invariant-loop-part l = (j : ℕ) → j < l.part → get_or l.line j 0 ≡ glyph_pixel l.self j
