-- `pixels::text::Text::cut` meets its contract. Assumes nothing.
use mathlib.Core.Path.{◌∙◌}
use native.Mathlib.Omega.{arith}
use Rattle.pixels.proofs.Each.{each_all}
use Rattle.pixels.proofs.Pixel.{column_part}
use Rattle.pixels.proofs.text.Text.cut.Goals as goal

pub returns : goal.returns
returns c =
    let t = c.args.self in
    each_all _ _ _ (omega arith)
    (λ k q. c.loop-i.invariant k (omega arith) ∙ column_part t.piece.now t.mem.now t.font t.inks c.args.c c.args.part _ c.glyph_at-glyph.ensures k (omega arith))
