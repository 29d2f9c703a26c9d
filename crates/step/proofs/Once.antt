-- Each public contract of this crate admits one outcome only. Assumes nothing.
use mathlib.Core.Path.{sym, ◌∙◌}
use Rattle.laws.proofs.Once.{OneAnswer}
use Rattle.step.proofs.step_x.Kinds as step_x_kinds
use Rattle.step.proofs.step_x.Reads as step_x_reads
use Rattle.step.proofs.step_y.Kinds as step_y_kinds
use Rattle.step.proofs.step_y.Reads as step_y_reads
use Rattle.step.proofs.Side.address.Kinds as address_kinds
use Rattle.step.proofs.Side.address.Reads as address
use Rattle.step.proofs.Side.across.Kinds as across_kinds
use Rattle.step.proofs.Side.across.Reads as across
use Rattle.step.proofs.Side.down.Kinds as down_kinds
use Rattle.step.proofs.Side.down.Reads as down

step_x_once : OneAnswer 0 step_x_kinds.ps step_x_kinds.r step_x_reads.Post
step_x_once κs a x y s t p q = p ∙ sym q

step_y_once : OneAnswer 0 step_y_kinds.ps step_y_kinds.r step_y_reads.Post
step_y_once κs a x y s t p q = p ∙ sym q

address_once : OneAnswer 0 address_kinds.ps address_kinds.r address.Post
address_once κs a x y s t p q = p ∙ sym q

across_once : OneAnswer 0 across_kinds.ps across_kinds.r across.Post
across_once κs a x y s t p q = p ∙ sym q

down_once : OneAnswer 0 down_kinds.ps down_kinds.r down.Post
down_once κs a x y s t p q = p ∙ sym q
