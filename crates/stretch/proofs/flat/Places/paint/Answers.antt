-- `stretch::flat::Places::paint` meets its contract. Assumes nothing.
use mathlib.Core.Path.{◌∙◌}
use Rattle.stretch.proofs.Painting.{paint_on, paint_done}
use Rattle.stretch.proofs.flat.Places.paint.Goals as goal

pub loop-k-preserved : goal.loop-k-preserved
loop-k-preserved c = paint_on _ c.args.self.at c.args.self.count _ c.loop-k.k c.loop-k-test.true ∙ c.loop-k.invariant

pub returns : goal.returns
returns c = paint_done _ _ _ _ _ c.loop-k-test.false ∙ c.loop-k.invariant
