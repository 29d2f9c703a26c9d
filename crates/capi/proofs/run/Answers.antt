-- `capi::run` meets its contract: the run's own answer, and then the room of the report. Assumes nothing.
use mathlib.Core.Path.{◌∙◌}
use Rattle.capi.proofs.Told.{asked_true}
use Rattle.capi.proofs.Passed.{as_tested, run_short, run_kept}
use Rattle.capi.proofs.run.Goals as goal

pub returns-then-report-lt2-clause-answer : goal.returns-then-report-lt2-clause-answer
returns-then-report-lt2-clause-answer c =
    c.run_unreported.ensures
    ∙ run_short (as_tested _ _ _ c.board_in.ensures c.in_ok-before.was) _ _ _ (asked_true _ c.good_length.ensures c.ask.ensures c.in_ok-ask.was) c.if-report-lt2.true

pub returns-in_err-counts-clause-memory : goal.returns-in_err-counts-clause-memory
returns-in_err-counts-clause-memory c =
    run_kept (as_tested _ _ _ c.board_in.ensures c.in_ok-before.was) _ _ _ (asked_true _ c.good_length.ensures c.ask.ensures c.in_ok-ask.was) c.if-report-lt2.false _ c.run-ran.ensures.memory
