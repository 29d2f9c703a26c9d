-- `capi::draw_unreported` meets its contract: what is told of a line of 672 entries decides. Assumes nothing.
use mathlib.Core.Path.{sym, ap, ◌∙◌}
use borrow.Author.Tests.{leb-true, leb-false}
use Rattle.refusal.specs.Sheet.{number_of, refused, told}
use Rattle.refusal.specs.declared.Refusal.{Refusal}
use Rattle.refusal.proofs.Sheet.{asked_ok, asked_err}
use Rattle.capi.proofs.Told.{told_on}
use Rattle.capi.proofs.Drawn.{too_short, long_enough}
use Rattle.capi.proofs.draw_unreported.Goals as goal

pub returns-in_err-ask : goal.returns-in_err-ask
returns-in_err-ask c =
    let a = asked_err _ _ _ (sym c.ask.ensures ∙ c.in_err-ask.was) in
    told_on _ _ c.from_residual-in_err-ask.ensures.1
    ∙ (ap (λ (w : Refusal). refused (number_of w) 0) a.1 ∙ sym (too_short _ _ _ _ _ (sym (ap told c.in_ok-count.was) ∙ c.draw.ensures.answer) (leb-false _ _ a.0)))

pub returns : goal.returns
returns c =
    sym (long_enough _ _ _ _ _ (sym (ap told c.in_ok-count.was) ∙ c.draw.ensures.answer) (leb-true _ _ (asked_ok _ _ (sym c.ask.ensures ∙ c.in_ok-ask.was))))
