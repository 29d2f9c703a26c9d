-- `pixels::fills::Shades::nibbles` meets its contract: its colours, drawn as bytes. Assumes nothing.
use mathlib.Core.Path.{◌∙◌}
use native.Mathlib.Omega.{arith}
use lib.ListN.{length, replicate, length-replicate}
use lib.Seq.{length-take-le}
use Rattle.pixels.proofs.Pixel.{nibbles_drawn}
use Rattle.pixels.proofs.fills.Shades.nibbles.Goals as goal

pub returns : goal.returns
returns c =
    let a = c.args in
    c.bytes.ensures ∙ nibbles_drawn a.piece.now c.split.new.colours a.self.video a.self.palette (length a.line.now) _ (length-take-le (length a.line.now) (replicate 672 0) (simp length-replicate (omega arith))) c.split.ensures
