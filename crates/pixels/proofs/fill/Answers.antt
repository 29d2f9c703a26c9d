-- `pixels::fill` meets its contract: the piece is memory's own, or gathered. Assumes nothing.
use mathlib.Core.Path.{sym, ap, ◌∙◌}
use native.Mathlib.Omega.{arith}
use lib.ListN.{replicate, length-replicate}
use lib.Seq.{length-take-le}
use Rattle.vram.proofs.Length.{good}
use Rattle.vram.specs.Memory.{byte_at}
use Rattle.pixels.specs.Pixels.{each}
use Rattle.pixels.proofs.Piece.{read_most, inside}
use Rattle.pixels.proofs.fill.Goals as goal

pub paint-requires-clause-piece : goal.paint-requires-clause-piece
paint-requires-clause-piece c =
    let a = c.args in
    inside a.mem.now a.settings _ c.read_bytes-n.ensures c.if-to-mem.true (good _ c.requires.3).most

pub slice_bounds-room-end : goal.slice_bounds-room-end
slice_bounds-room-end c = omega (arith, c.read_bytes-n.ensures, read_most c.args.settings c.requires.0)

pub slice_bounds-piece-end : goal.slice_bounds-piece-end
slice_bounds-piece-end c = sym (length-take-le c.read_bytes-n.result (replicate 336 0) (simp length-replicate (omega (arith, c.read_bytes-n.ensures, read_most c.args.settings c.requires.0))))

pub paint-requires-2-clause-piece : goal.paint-requires-2-clause-piece
paint-requires-2-clause-piece c =
    let a = c.args in
    let n = c.read_bytes-n.result in
    let long = length-take-le n (replicate 336 0) (simp length-replicate (omega (arith, c.read_bytes-n.ensures, read_most c.args.settings c.requires.0))) in
    c.gather.ensures ∙ ap (each (byte_at a.mem.now a.settings.overlay.address) 0) (long ∙ c.read_bytes-n.ensures)
