-- `stretch::draw` meets its contract. Assumes nothing.
use mathlib.Core.Path.{sym, ◌∙◌}
use native.Mathlib.Omega.{arith}
use Rattle.stretch.specs.Stretch.{trace_of}
use Rattle.stretch.proofs.Whole.{by_idle}
use Rattle.stretch.proofs.draw.Goals as goal

pub returns-in_default : goal.returns-in_default
unfolding trace_of
returns-in_default c =
    let a = c.args in
    rw (sym c.good_length.ensures ∙ c.if-not-good_length.false) (by_idle a.block a.stretch a.mem.now (omega (arith, c.mode.ensures)) a.note)
