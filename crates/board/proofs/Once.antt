-- Each contract of this crate's public calls admits one outcome only. Assumes nothing.
use mathlib.Core.Path.{sym, ◌∙◌}
use Rattle.laws.proofs.Once.{OneAnswer, OneExit}
use Rattle.refusal.proofs.Sheet.{told_one, after_one}
use Rattle.board.proofs.Board.new.Kinds as new_kinds
use Rattle.board.proofs.Board.new.Reads as new
use Rattle.board.proofs.Board.sound.Kinds as sound_kinds
use Rattle.board.proofs.Board.sound.Reads as sound
use Rattle.board.proofs.Board.write.Kinds as write_kinds
use Rattle.board.proofs.Board.write.Reads as write
use Rattle.board.proofs.Board.read.Kinds as read_kinds
use Rattle.board.proofs.Board.read.Reads as read
use Rattle.board.proofs.Board.reset.Kinds as reset_kinds
use Rattle.board.proofs.Board.reset.Reads as reset
use Rattle.board.proofs.Board.run.Kinds as run_kinds
use Rattle.board.proofs.Board.run.Reads as run
use Rattle.board.proofs.Board.tick.Kinds as tick_kinds
use Rattle.board.proofs.Board.tick.Reads as tick

new_once : OneAnswer 0 new_kinds.ps new_kinds.r new.Post
new_once κs a x y s t p q = p ∙ sym q

sound_once : OneAnswer 0 sound_kinds.ps sound_kinds.r sound.Post
sound_once κs a x y s t p q = p ∙ sym q

write_once : OneAnswer 0 write_kinds.ps write_kinds.r write.Post
write_once κs a x y s t p q = after_one x y (p.1 ∙ sym q.1) (p.0 ∙ sym q.0)

read_once : OneAnswer 0 read_kinds.ps read_kinds.r read.Post
read_once κs a x y s t p q = told_one x y (p ∙ sym q)

reset_once : OneAnswer 0 reset_kinds.ps reset_kinds.r reset.Post
reset_once κs a x y s t p q = after_one x y (p.1 ∙ sym q.1) (p.0 ∙ sym q.0)

run_once : OneAnswer 1 run_kinds.ps run_kinds.r run.Post
run_once κs a x y s t p q = after_one x y (p.1.0 ∙ sym q.1.0) (p.0 ∙ sym q.0)

run_memory_once : OneExit 1 run_kinds.ps run_kinds.r run.Post (λ κs s. s.1.0.now)
run_memory_once κs a x y s t p q = p.1.1 ∙ sym q.1.1

tick_once : OneAnswer 1 tick_kinds.ps tick_kinds.r tick.Post
tick_once κs a x y s t p q = after_one x y (p.1.0 ∙ sym q.1.0) (p.0 ∙ sym q.0)

tick_memory_once : OneExit 1 tick_kinds.ps tick_kinds.r tick.Post (λ κs s. s.1.0.now)
tick_memory_once κs a x y s t p q = p.1.1 ∙ sym q.1.1
