-- `stretch::flat::whole` meets its contract. Assumes nothing.
use mathlib.Core.Path.{sym, ◌∙◌}
use native.Mathlib.Omega.{arith}
use Rattle.stretch.proofs.Levels.{no_mask}
use Rattle.stretch.proofs.FlatWhole.{by_mix}
use Rattle.stretch.proofs.Whole.{by_idle}
use Rattle.stretch.proofs.flat.whole.Goals as goal

pub blend-requires-clause-clear : goal.blend-requires-clause-clear
blend-requires-clause-clear c = no_mask c.args.block _ _ c.requires.flat.level (λ e. omega (arith, e, c.mode.ensures))

pub returns-in-7 : goal.returns-in-7
returns-in-7 c = by_idle _ _ _ (sym c.mode.ensures ∙ c.in-7.is)

pub returns-in_default : goal.returns-in_default
returns-in_default c = by_mix _ c.requires.flat c.of-places.ensures (λ e. omega (arith, e, c.mode.ensures)) c.blend.ensures
