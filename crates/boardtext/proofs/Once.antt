-- Each contract of this crate admits one outcome only; that of `changed` admits the outcomes of its closure. Assumes nothing.
use mathlib.Core.Path.{sym, ◌∙◌}
use Rattle.laws.proofs.Once.{OneAnswer, OneExit}
use Rattle.boardtext.proofs.boards.put.Kinds as put_kinds
use Rattle.boardtext.proofs.boards.put.Reads as put
use Rattle.boardtext.proofs.boards.pointed.Kinds as pointed_kinds
use Rattle.boardtext.proofs.boards.pointed.Reads as pointed_reads
use Rattle.boardtext.proofs.boards.started.Kinds as started_kinds
use Rattle.boardtext.proofs.boards.started.Reads as started_reads
use Rattle.boardtext.proofs.blocks.bytes.Kinds as bytes_kinds
use Rattle.boardtext.proofs.blocks.bytes.Reads as bytes_reads

put_once : OneExit 2 put_kinds.ps put_kinds.r put.Post (λ κs s. s.0.now)
put_once κs a x y s t p q = p ∙ sym q

pointed_once : OneAnswer 0 pointed_kinds.ps pointed_kinds.r pointed_reads.Post
pointed_once κs a x y s t p q = p ∙ sym q

started_once : OneAnswer 0 started_kinds.ps started_kinds.r started_reads.Post
started_once κs a x y s t p q = p ∙ sym q

bytes_once : OneAnswer 0 bytes_kinds.ps bytes_kinds.r bytes_reads.Post
bytes_once κs a x y s t p q = p ∙ sym q
