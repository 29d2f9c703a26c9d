-- Each contract of this crate admits one outcome only. Assumes nothing.
use mathlib.Core.Path.{sym, ◌∙◌}
use Rattle.laws.proofs.Once.{OneAnswer}
use Rattle.item.proofs.Told.{item_one}
use Rattle.item.proofs.lines_of.Kinds as lines_of_kinds
use Rattle.item.proofs.lines_of.Reads as lines_of
use Rattle.item.proofs.item_at.Kinds as item_at_kinds
use Rattle.item.proofs.item_at.Reads as item_at_reads
use Rattle.item.proofs.known_at.Kinds as known_at_kinds
use Rattle.item.proofs.known_at.Reads as known_at_lem

lines_of_once : OneAnswer 0 lines_of_kinds.ps lines_of_kinds.r lines_of.Post
lines_of_once κs a x y s t p q = p ∙ sym q

item_at_once : OneAnswer 1 item_at_kinds.ps item_at_kinds.r item_at_reads.Post
item_at_once κs a x y s t p q = item_one _ x y (p ∙ sym q)

known_at_once : OneAnswer 1 known_at_kinds.ps known_at_kinds.r known_at_lem.Post
known_at_once κs a x y s t p q = p ∙ sym q
