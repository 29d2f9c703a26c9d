-- Each contract of this crate's public calls admits one outcome only. Assumes nothing.
use mathlib.Core.Path.{sym, ◌∙◌}
use Rattle.laws.proofs.Once.{OneAnswer}
use Rattle.refusal.proofs.Sheet.{told_one, after_one}
use Rattle.frame.proofs.Frame.start.Kinds as start_kinds
use Rattle.frame.proofs.Frame.start.Reads as start
use Rattle.frame.proofs.Frame.next_line.Kinds as next_line_kinds
use Rattle.frame.proofs.Frame.next_line.Reads as next_line_reads

next_line_once : OneAnswer 1 next_line_kinds.ps next_line_kinds.r next_line_reads.Post
next_line_once κs a x y s t p q = after_one x y (p.1 ∙ sym q.1) (p.0 ∙ sym q.0)

start_once : OneAnswer 0 start_kinds.ps start_kinds.r start.Post
start_once κs a x y s t p q = told_one x y (p ∙ sym q)
