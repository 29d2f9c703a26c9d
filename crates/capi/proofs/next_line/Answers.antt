-- `capi::next_line` meets its contract: the line's own answer, and then the room of the settings. Assumes nothing.
use mathlib.Core.Path.{sym, ap, ◌∙◌}
use borrow.Author.Tests.{leb-true, leb-false}
use Rattle.refusal.specs.Sheet.{number_of, refused, told}
use Rattle.refusal.specs.declared.Refusal.{Refusal}
use Rattle.refusal.proofs.Sheet.{asked_ok, asked_err}
use Rattle.framewords.specs.Frame.{settings_size, settings_words, frame_size, frame_of, frame_fits}
use Rattle.capi.specs.Calls.{reportable}
use Rattle.capi.proofs.Told.{told_on, asked_true, no_change, no_report, short}
use Rattle.capi.proofs.Passed.{as_tested, line_passed, line_done}
use Rattle.capi.proofs.next_line.Goals as goal

pub returns-in_err-line : goal.returns-in_err-line
returns-in_err-line c =
    let good = asked_true _ c.good_length.ensures c.ask.ensures c.in_ok-ask.was in
    let frame = as_tested frame_size frame_fits frame_of c.frame_in.ensures c.in_ok-frame_in.was in
    let p = line_passed frame _ c.args.settings.now good _ c.next_line-next.ensures.report ∙ ap (reportable settings_size c.args.settings.now) (ap told c.in_err-line.was) in
    record { answer = told_on _ _ c.from_residual-in_err-line.ensures.1 ∙ sym p; frame = no_change _ _ _ p _ _; settings = no_report _ _ _ p settings_words c.args.settings.now }

pub returns-in_err-ask-2 : goal.returns-in_err-ask-2
returns-in_err-ask-2 c =
    let good = asked_true _ c.good_length.ensures c.ask.ensures c.in_ok-ask.was in
    let frame = as_tested frame_size frame_fits frame_of c.frame_in.ensures c.in_ok-frame_in.was in
    let a = asked_err _ _ _ (sym c.ask-2.ensures ∙ c.in_err-ask-2.was) in
    let p = line_passed frame _ c.args.settings.now good _ c.next_line-next.ensures.report
    ∙ (ap (reportable settings_size c.args.settings.now) (ap told c.in_ok-line.was) ∙ short settings_size c.args.settings.now (leb-false _ _ a.0) c.in_ok-line.line) in
    let why = told_on _ _ c.from_residual-in_err-ask-2.ensures.1 ∙ ap (λ (w : Refusal). refused (number_of w) 0) a.1 in
    record { answer = why ∙ sym p; frame = no_change _ _ _ p _ _; settings = no_report _ _ _ p settings_words c.args.settings.now }

pub returns : goal.returns
returns c =
    let good = asked_true _ c.good_length.ensures c.ask.ensures c.in_ok-ask.was in
    let frame = as_tested frame_size frame_fits frame_of c.frame_in.ensures c.in_ok-frame_in.was in
    let room = leb-true _ _ (asked_ok _ _ (sym c.ask-2.ensures ∙ c.in_ok-ask-2.was)) in
    let given = sym (ap told c.in_ok-line.was) ∙ c.next_line-next.ensures.report in
    let each = line_done frame _ _ good room _ _ _ _ given c.next_line-next.ensures.frame c.put_frame.ensures c.put_settings.ensures in
    record { answer = each.0; frame = each.1.0; settings = each.1.1 }
