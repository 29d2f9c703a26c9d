-- Each public contract of this crate admits one outcome only. Assumes nothing.
use mathlib.Core.Path.{sym, ◌∙◌}
use Rattle.laws.proofs.Once.{OneAnswer}
use Rattle.mode.proofs.value.Kinds as value_kinds
use Rattle.mode.proofs.value.Reads as value
use Rattle.mode.proofs.writes.Kinds as writes_kinds
use Rattle.mode.proofs.writes.Reads as writes
use Rattle.mode.proofs.cost.Kinds as cost_kinds
use Rattle.mode.proofs.cost.Reads as cost
use Rattle.mode.proofs.stroke_of.Kinds as stroke_kinds
use Rattle.mode.proofs.stroke_of.Reads as stroke

value_once : OneAnswer 0 value_kinds.ps value_kinds.r value.Post
value_once κs a x y s t p q = p ∙ sym q

writes_once : OneAnswer 0 writes_kinds.ps writes_kinds.r writes.Post
writes_once κs a x y s t p q = p ∙ sym q

cost_once : OneAnswer 0 cost_kinds.ps cost_kinds.r cost.Post
cost_once κs a x y s t p q = p ∙ sym q

stroke_once : OneAnswer 0 stroke_kinds.ps stroke_kinds.r stroke.Post
stroke_once κs a x y s t p q = p ∙ sym q
