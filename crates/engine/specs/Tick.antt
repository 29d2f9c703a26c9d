-- Document 01, "The blitter": a tick. What it makes of the state, of memory, and how many accesses it counts are three definitions.
use Rattle.std.specs.Prelude.{true, cond, List, ℕ, ◌+◌, ◌%◌, eqb, ltb}
use Rattle.block.specs.Block.{block_at, no_block, columns_of, rows_of, next_of}
use Rattle.block.specs.Byte.{written, struck_at}
use Rattle.block.specs.declared.Note.{Note}
use Rattle.blitter.specs.declared.Blitter.{Blitter}
use Rattle.blitter.specs.State.{with_work, with_list, with_note, with_interrupt}

-- "A load tick (flags 1) reads the 21 bytes of the block .. from the list address on; adds 21 to it; sets flags to 2 (BUSY), row and column to 0"
unfoldable pub load_tick : Blitter → List ℕ → Blitter
load_tick b mem = with_work 2 (block_at mem b.list) 0 0 (with_list ((b.list + 21) % 524288) b)

-- the same block at another position, with another note of collisions
abbrev pub busy_at : Blitter → ℕ → ℕ → Note → Blitter
busy_at b row col note = with_work 2 b.block row col (with_note note b)

-- "After the last byte, in that same tick: block and position go to 0; with NEXT (bit 3) flags become 1; else flags 0, and IRQF = 1 if IRQE"
unfoldable pub ended : Blitter → Note → Blitter
ended b note =
    let next = next_of b.block in
    let irqf = cond next b.irqf (cond b.irqe true b.irqf) in
    with_interrupt b.irqe irqf (with_work (cond next 1 0) no_block 0 0 (with_note note b))

-- "Columns run 0..W·ZX−1 inside rows 0..H·ZY−1": the next column, else the next row, else the end
unfoldable pub moved_on : Blitter → Note → Blitter
moved_on b note =
    cond (ltb (b.col + 1) (columns_of b.block))
    (busy_at b b.row (b.col + 1) note)
    (cond (ltb (b.row + 1) (rows_of b.block)) (busy_at b (b.row + 1) 0 note) (ended b note))

-- "A byte tick (flags 2) handles one destination byte"
unfoldable pub byte_tick : Blitter → List ℕ → Blitter
byte_tick b mem = moved_on b (struck_at b.block mem b.row b.col b.note).note

-- an idle blitter's tick changes nothing
unfoldable pub tick_blitter : Blitter → List ℕ → Blitter
tick_blitter b mem = cond (eqb b.flags 0) b (cond (eqb b.flags 1) (load_tick b mem) (byte_tick b mem))

unfoldable pub tick_memory : Blitter → List ℕ → List ℕ
tick_memory b mem =
    cond (eqb b.flags 0) mem (cond (eqb b.flags 1) mem (written b.block b.row b.col mem))

-- "It counts 21 accesses"; a byte's are the mode table's
unfoldable pub tick_count : Blitter → List ℕ → ℕ
tick_count b mem =
    cond (eqb b.flags 0)
    0
    (cond (eqb b.flags 1) 21 (struck_at b.block mem b.row b.col b.note).accesses)
