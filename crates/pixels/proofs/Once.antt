-- The contract of `draw` admits one outcome only. Assumes nothing.
use mathlib.Core.Path.{sym, ◌∙◌}
use Rattle.laws.proofs.Once.{OneAnswer, OneExit}
use Rattle.refusal.proofs.Sheet.{told_one}
use Rattle.pixels.proofs.draw.Kinds as draw_kinds
use Rattle.pixels.proofs.draw.Reads as draw

draw_once : OneAnswer 2 draw_kinds.ps draw_kinds.r draw.Post
draw_once κs a x y s t p q = told_one x y (p.0 ∙ sym q.0)

draw_line_once : OneExit 2 draw_kinds.ps draw_kinds.r draw.Post (λ κs s. s.1.1.1.0.now)
draw_line_once κs a x y s t p q = p.1 ∙ sym q.1
