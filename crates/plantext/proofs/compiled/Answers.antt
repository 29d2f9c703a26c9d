-- `plantext::compiled` meets its contract: a compiled list fits the buffer, and has some bytes. Assumes nothing.
use Rattle.std.proofs.Common.{ap, arith, sym}
use Rattle.plan.proofs.Compiling.{accepted}
use Rattle.plantext.specs.Listed.{list_size}
use Rattle.plantext.proofs.Counting.{prefix_len_of_le}
use Rattle.plantext.proofs.Listing.{list_some}
use Rattle.plantext.proofs.compiled.Goals as goal

pub returns-in-Ok-clause-prefix_len : goal.returns-in-Ok-clause-prefix_len
returns-in-Ok-clause-prefix_len g c =
    let taken = accepted c.args.plan.now c.args.list.now c.in-Ok.bytes (sym c.in-Ok.ensures.answer) in
    prefix_len_of_le _ _ (omega (arith, taken.room, c.compile.auto))

pub returns-in-Ok-clause-bytes : goal.returns-in-Ok-clause-bytes
returns-in-Ok-clause-bytes g c =
    let taken = accepted c.args.plan.now c.args.list.now c.in-Ok.bytes (sym c.in-Ok.ensures.answer) in
    (ap list_size c.in-Ok.ensures.answer, omega (arith, taken.count, list_some c.args.plan.now taken.items))
