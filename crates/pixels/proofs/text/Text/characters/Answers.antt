-- `pixels::text::Text::characters` meets its contract, eight pixels a character. Assumes nothing.
use mathlib.Core.Path.{refl, sym}
use Prim.Native.Nat.{◌*◌}
use native.Mathlib.Omega.{arith}
use Rattle.pixels.specs.Pixels.{each}
use Rattle.pixels.proofs.Each.{each_all, each_more}
use Rattle.pixels.proofs.Pixel.{column_whole}
use Rattle.pixels.proofs.text.Text.characters.Goals as goal

pub put-requires-clause-table : goal.put-requires-clause-table
unfolding each
put-requires-clause-table c = refl

pub loop-c-preserved : goal.loop-c-preserved
loop-c-preserved c =
    let t = c.args.self in
    let l = c.loop-c in
    λ j q. each_more _ _ (l.c * 8) 8 _ l.line _ (omega arith) c.put.ensures
    (λ i h. sym (column_whole t.piece.now t.mem.now t.font t.inks c.args.from l.c _ c.glyph_at.ensures i h))
    l.invariant
    j
    (omega arith)

pub returns : goal.returns
returns c = each_all _ _ _ (omega arith) (λ k q. c.loop-c.invariant k (omega arith))
