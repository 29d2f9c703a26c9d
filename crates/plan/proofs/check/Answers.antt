-- `plan::check` meets its contract. The loop's invariant is `Checking`. Assumes nothing.
use mathlib.Core.Path.{sym, ◌∙◌}
use native.Mathlib.Omega.{arith}
use Rattle.plan.proofs.Refusing.{numbered_ok}
use Rattle.item.proofs.Taken.{taken}
use Rattle.plan.proofs.Checking.{check_turn}
use Rattle.plan.proofs.check.Goals as goal

pub overflow_add-total : goal.overflow_add-total
overflow_add-total c =
    let read = numbered_ok _ _ _ (sym c.read_at.ensures ∙ c.in_ok-read.was) in
    omega (arith, c.lines_of-total.ensures, (taken _ _ _ _ _ _ read).fits.lines)

pub loop-at-smaller : goal.loop-at-smaller
loop-at-smaller c =
    let read = numbered_ok _ _ _ (sym c.read_at.ensures ∙ c.in_ok-read.was) in
    let i = taken _ _ _ _ _ _ read in
    omega (arith, c.loop-at-test.true)

pub loop-at-preserved : goal.loop-at-preserved
loop-at-preserved c =
    let read = numbered_ok _ _ _ (sym c.read_at.ensures ∙ c.in_ok-read.was) in
    check_turn _ _ _ _ _ c.loop-at.invariant _ _ _ _ c.loop-at-test.true read c.size_of-bytes.ensures c.lines_of-total.ensures
