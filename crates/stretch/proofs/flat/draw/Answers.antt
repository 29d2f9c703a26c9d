-- `stretch::flat::draw` meets its contract. Assumes nothing.
use mathlib.Core.Path.{sym, ◌∙◌}
use Rattle.laws.proofs.Choice.{both}
use Rattle.stretch.proofs.Fitting.{part_flat}
use Rattle.stretch.proofs.flat.draw.Goals as goal

pub whole-requires-clause-flat : goal.whole-requires-clause-flat
whole-requires-clause-flat c =
    let tests = both _ _ c.if-not-good_length-level.false in
    part_flat _ (sym c.good_length.ensures ∙ tests.0) _ _ (sym c.level.ensures ∙ tests.1) _ c.before_wrap.ensures
