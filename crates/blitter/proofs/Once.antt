-- Each contract of this crate's public calls admits one outcome only. Assumes nothing.
use mathlib.Core.Path.{sym, ◌∙◌}
use Rattle.laws.proofs.Once.{OneAnswer}
use Rattle.blitter.proofs.Blitter.new.Kinds as new_kinds
use Rattle.blitter.proofs.Blitter.new.Reads as new
use Rattle.blitter.proofs.Blitter.sound.Kinds as sound_kinds
use Rattle.blitter.proofs.Blitter.sound.Reads as sound
use Rattle.blitter.proofs.Blitter.start.Kinds as start_kinds
use Rattle.blitter.proofs.Blitter.start.Reads as start
use Rattle.blitter.proofs.Blitter.stop.Kinds as stop_kinds
use Rattle.blitter.proofs.Blitter.stop.Reads as stop
use Rattle.blitter.proofs.Blitter.interrupts.Kinds as interrupts_kinds
use Rattle.blitter.proofs.Blitter.interrupts.Reads as interrupts

new_once : OneAnswer 0 new_kinds.ps new_kinds.r new.Post
new_once κs a x y s t p q = p ∙ sym q

sound_once : OneAnswer 0 sound_kinds.ps sound_kinds.r sound.Post
sound_once κs a x y s t p q = p ∙ sym q

start_once : OneAnswer 0 start_kinds.ps start_kinds.r start.Post
start_once κs a x y s t p q = p ∙ sym q

stop_once : OneAnswer 0 stop_kinds.ps stop_kinds.r stop.Post
stop_once κs a x y s t p q = p ∙ sym q

interrupts_once : OneAnswer 0 interrupts_kinds.ps interrupts_kinds.r interrupts.Post
interrupts_once κs a x y s t p q = p ∙ sym q
