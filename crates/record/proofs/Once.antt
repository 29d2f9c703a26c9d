-- The contracts of this crate admit one outcome only. Assumes nothing.
use mathlib.Core.Path.{sym, ◌∙◌}
use Rattle.laws.proofs.Once.{OneAnswer}
use Rattle.record.proofs.Reader.new.Kinds as new_kinds
use Rattle.record.proofs.Reader.new.Reads as new
use Rattle.record.proofs.Reader.read.Kinds as read_kinds
use Rattle.record.proofs.Reader.read.Reads as read

new_once : OneAnswer 0 new_kinds.ps new_kinds.r new.Post
new_once κs a x y s t p q = p ∙ sym q

read_once : OneAnswer 1 read_kinds.ps read_kinds.r read.Post
read_once κs a x y s t p q = p ∙ sym q
