-- `pixels::text::Text::characters` meets its contract. Assumes nothing.
use mathlib.Core.Path.{◌≡◌}
use Prim.Native.Nat.{ℕ, ◌*◌, ◌<◌}
use lib.ListN.{get_or}
use Rattle.pixels.specs.Fills.{column_pixel}
use Rattle.pixels.proofs.text.Text.characters.Given as goal

abbrev pub invariant-loop-c : goal.invariant-loop-c
invariant-loop-c l = (j : ℕ) → j < l.c * 8 → get_or l.line j 0 ≡ column_pixel l.self.piece.now l.self.mem.now l.self.font l.self.inks (l.from * 8) j
