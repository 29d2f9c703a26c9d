-- `capi::deskboard_tick` meets its contract: a run with a budget of 1 is one tick. Assumes nothing.
use Rattle.capi.proofs.Passed.{tick_done}
use Rattle.capi.proofs.deskboard_tick.Goals as goal

pub returns : goal.returns
returns c =
    let ran = c.deskboard_run.ensures in
    let each = tick_done _ _ _ _ _ _ _ (ran.number, (ran.board, (ran.memory, ran.report))) in
    record { number = each.0; board = each.1.0; memory = each.1.1.0; report = each.1.1.1 }
