-- `plantext::print_records` ends: each record leaves less of the list. Assumes nothing.
use Rattle.std.proofs.Common.{length}
use Rattle.plantext.proofs.print_records.Given as goal

abbrev pub decreases-loop-control : goal.decreases-loop-control
decreases-loop-control g l = length l.rest
