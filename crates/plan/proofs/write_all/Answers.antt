-- `plan::write_all` meets its contract. The loop's invariant is `Writing`. Assumes nothing.
use mathlib.Core.Path.{sym, ◌∙◌}
use native.Mathlib.Omega.{arith}
use Rattle.plan.proofs.Writing.{write_start, write_never, write_taken, write_fits, write_may, write_turn, write_end}
use Rattle.plan.proofs.write_all.Goals as goal

pub loop-at-init : goal.loop-at-init
loop-at-init c = write_start _ _ c.requires.0 c.requires.1

pub returns-in_default : goal.returns-in_default
returns-in_default c = write_never _ _ _ _ _ c.loop-at.invariant c.loop-at-test.true _ (sym c.known_at.ensures ∙ c.in_default.is)

pub write_record-to-requires : goal.write_record-to-requires
write_record-to-requires c = write_may _ _ _ _ _ c.loop-at.invariant c.loop-at-test.true _ _ (sym c.known_at.ensures ∙ c.in-Ok.is)

pub overflow_add-to : goal.overflow_add-to
overflow_add-to c = omega (arith, c.write_record-to.ensures.0, write_fits _ _ _ _ _ c.loop-at.invariant c.loop-at-test.true _ _ (sym c.known_at.ensures ∙ c.in-Ok.is))

pub loop-at-smaller : goal.loop-at-smaller
loop-at-smaller c = omega (arith, c.loop-at-test.true, (write_taken _ _ _ _ _ c.loop-at.invariant c.loop-at-test.true _ _ (sym c.known_at.ensures ∙ c.in-Ok.is)).on)

pub loop-at-preserved : goal.loop-at-preserved
loop-at-preserved c =
    let w = c.write_record-to in
    write_turn _ _ _ _ _ c.loop-at.invariant c.loop-at-test.true _ _ (sym c.known_at.ensures ∙ c.in-Ok.is) _ _ w.ensures.0 w.ensures.1

pub returns : goal.returns
returns c = write_end _ _ _ _ _ c.requires.0 c.loop-at.invariant c.loop-at-test.false
