-- Each contract of this crate admits one outcome only. Assumes nothing.
use mathlib.Core.Path.{sym, ◌∙◌}
use Rattle.laws.proofs.Once.{OneAnswer, OneExit}
use Rattle.refusal.proofs.Sheet.{told_one}
use Rattle.vram.proofs.good_length.Kinds as good_length_kinds
use Rattle.vram.proofs.good_length.Reads as good_length
use Rattle.vram.proofs.byte_at.Kinds as byte_at_kinds
use Rattle.vram.proofs.byte_at.Reads as byte_at
use Rattle.vram.proofs.number_12.Kinds as number_12_kinds
use Rattle.vram.proofs.number_12.Reads as number_12_reads
use Rattle.vram.proofs.number_19.Kinds as number_19_kinds
use Rattle.vram.proofs.number_19.Reads as number_19_reads
use Rattle.vram.proofs.install.Kinds as install_kinds
use Rattle.vram.proofs.install.Reads as install

good_length_once : OneAnswer 0 good_length_kinds.ps good_length_kinds.r good_length.Post
good_length_once κs a x y s t p q = p ∙ sym q

byte_at_once : OneAnswer 1 byte_at_kinds.ps byte_at_kinds.r byte_at.Post
byte_at_once κs a x y s t p q = p ∙ sym q

number_12_once : OneAnswer 0 number_12_kinds.ps number_12_kinds.r number_12_reads.Post
number_12_once κs a x y s t p q = p ∙ sym q

number_19_once : OneAnswer 0 number_19_kinds.ps number_19_kinds.r number_19_reads.Post
number_19_once κs a x y s t p q = p ∙ sym q

install_once : OneAnswer 2 install_kinds.ps install_kinds.r install.Post
install_once κs a x y s t p q = told_one x y (p.0 ∙ sym q.0)

install_memory_once : OneExit 2 install_kinds.ps install_kinds.r install.Post (λ κs s. s.0.now)
install_memory_once κs a x y s t p q = p.1 ∙ sym q.1
