-- Each public contract of this crate admits one outcome only. Assumes nothing.
use mathlib.Core.Path.{sym, ◌∙◌}
use Rattle.laws.proofs.Once.{OneAnswer}
use Rattle.block.proofs.block_at.Kinds as block_at_kinds
use Rattle.block.proofs.block_at.Reads as block_at
use Rattle.block.proofs.Block.none.Kinds as none_kinds
use Rattle.block.proofs.Block.none.Reads as none
use Rattle.block.proofs.Block.is_none.Kinds as is_none_kinds
use Rattle.block.proofs.Block.is_none.Reads as is_none
use Rattle.block.proofs.Block.zoom_x.Kinds as zoom_x_kinds
use Rattle.block.proofs.Block.zoom_x.Reads as zoom_x_reads
use Rattle.block.proofs.Block.zoom_y.Kinds as zoom_y_kinds
use Rattle.block.proofs.Block.zoom_y.Reads as zoom_y_reads
use Rattle.block.proofs.Block.columns.Kinds as columns_kinds
use Rattle.block.proofs.Block.columns.Reads as columns
use Rattle.block.proofs.Block.rows.Kinds as rows_kinds
use Rattle.block.proofs.Block.rows.Reads as rows
use Rattle.block.proofs.Block.pattern_width.Kinds as pattern_width_kinds
use Rattle.block.proofs.Block.pattern_width.Reads as pattern_width_reads
use Rattle.block.proofs.Block.mode.Kinds as mode_kinds
use Rattle.block.proofs.Block.mode.Reads as mode
use Rattle.block.proofs.Block.next.Kinds as next_kinds
use Rattle.block.proofs.Block.next.Reads as next
use Rattle.block.proofs.Block.reads.Kinds as reads_kinds
use Rattle.block.proofs.Block.reads.Reads as reads
use Rattle.block.proofs.Block.destination.Kinds as destination_kinds
use Rattle.block.proofs.Block.destination.Reads as destination
use Rattle.block.proofs.Block.source.Kinds as source_kinds
use Rattle.block.proofs.Block.source.Reads as source

block_at_once : OneAnswer 1 block_at_kinds.ps block_at_kinds.r block_at.Post
block_at_once κs a x y s t p q = p ∙ sym q

none_once : OneAnswer 0 none_kinds.ps none_kinds.r none.Post
none_once κs a x y s t p q = p ∙ sym q

is_none_once : OneAnswer 0 is_none_kinds.ps is_none_kinds.r is_none.Post
is_none_once κs a x y s t p q = p ∙ sym q

zoom_x_once : OneAnswer 0 zoom_x_kinds.ps zoom_x_kinds.r zoom_x_reads.Post
zoom_x_once κs a x y s t p q = p ∙ sym q

zoom_y_once : OneAnswer 0 zoom_y_kinds.ps zoom_y_kinds.r zoom_y_reads.Post
zoom_y_once κs a x y s t p q = p ∙ sym q

columns_once : OneAnswer 0 columns_kinds.ps columns_kinds.r columns.Post
columns_once κs a x y s t p q = p ∙ sym q

rows_once : OneAnswer 0 rows_kinds.ps rows_kinds.r rows.Post
rows_once κs a x y s t p q = p ∙ sym q

pattern_width_once : OneAnswer 0 pattern_width_kinds.ps pattern_width_kinds.r pattern_width_reads.Post
pattern_width_once κs a x y s t p q = p ∙ sym q

mode_once : OneAnswer 0 mode_kinds.ps mode_kinds.r mode.Post
mode_once κs a x y s t p q = p ∙ sym q

next_once : OneAnswer 0 next_kinds.ps next_kinds.r next.Post
next_once κs a x y s t p q = p ∙ sym q

reads_once : OneAnswer 0 reads_kinds.ps reads_kinds.r reads.Post
reads_once κs a x y s t p q = p ∙ sym q

destination_once : OneAnswer 0 destination_kinds.ps destination_kinds.r destination.Post
destination_once κs a x y s t p q = p ∙ sym q

source_once : OneAnswer 0 source_kinds.ps source_kinds.r source.Post
source_once κs a x y s t p q = p ∙ sym q
