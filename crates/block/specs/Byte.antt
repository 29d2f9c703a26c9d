-- Document 01, "The blitter": one destination byte of a block in memory, and the n-th byte of a block.
use Rattle.std.specs.Prelude.{Bool, not, cond, ◌&&◌, List, ℕ, ◌+◌, ◌*◌, ◌/◌, ◌%◌, eqb, length, set}
use Rattle.std.specs.Int.Bits.{bit_and, bit_xor}
use Rattle.vram.specs.Memory.{place, cell_at}
use Rattle.mode.specs.Mode.{writes_in, value_in, stroke_of}
use Rattle.mode.specs.declared.Stroke.{Stroke}
use Rattle.block.specs.declared.Block.{Block}
use Rattle.block.specs.declared.Note.{Note}
use Rattle.block.specs.declared.Struck.{Struck}
use Rattle.block.specs.Fold.{each}
use Rattle.block.specs.Block.{columns_of, rows_of, mode_of, dest_address, source_address}

-- "If the AND mask is 0 the source is not read"; in mode 7 "the source unread"
unfoldable pub reads_source : Block → Bool
reads_source b = not (eqb b.andmask 0) && not (eqb (mode_of b) 7)

-- One destination byte, from the address of its source and its own.
-- "s = (source AND mask) XOR mask2"; a source that is not read counts as 0
unfoldable pub source_by : Block → List ℕ → ℕ → ℕ
source_by b mem from = bit_xor (bit_and (cond (reads_source b) (cell_at mem from) 0) b.andmask) b.xormask

-- what its mode makes of it: "d = destination before"
unfoldable pub stroke_by : Block → List ℕ → ℕ → ℕ → ℕ → Stroke
stroke_by b mem from to code = stroke_of (mode_of b) b.hitmask (source_by b mem from) (cell_at mem to) code

-- memory after it: what is written does not depend on the code
unfoldable pub written_by : Block → ℕ → ℕ → List ℕ → List ℕ
written_by b from to mem =
    let s = source_by b mem from in
    cond (writes_in (mode_of b) s) (set mem (place (length mem) to) (value_in (mode_of b) s (cell_at mem to))) mem

-- what bytes leave of collisions: nothing yet, and after a byte with this stroke
abbrev pub new_note : Note
new_note = record { code = 0 }

abbrev pub noted : Stroke → Note
noted k = record { code = k.code }

-- the note after it, and its accesses: "A source read counts 1"
unfoldable pub struck_by : Block → List ℕ → ℕ → ℕ → Note → Struck
struck_by b mem from to note =
    let k = stroke_by b mem from to note.code in
    record { note = noted k; accesses = k.accesses + cond (reads_source b) 1 0 }

-- the byte at a row and a column
abbrev pub source_byte : Block → List ℕ → ℕ → ℕ → ℕ
source_byte b mem row col = source_by b mem (source_address b row col)

abbrev pub written : Block → ℕ → ℕ → List ℕ → List ℕ
written b row col mem = written_by b (source_address b row col) (dest_address b row col) mem

abbrev pub struck_at : Block → List ℕ → ℕ → ℕ → Note → Struck
struck_at b mem row col note = struck_by b mem (source_address b row col) (dest_address b row col) note

-- the n-th byte of a block, by rows
abbrev pub row_at : Block → ℕ → ℕ
row_at b n = n / columns_of b

abbrev pub col_at : Block → ℕ → ℕ
col_at b n = n % columns_of b

abbrev pub size_of : Block → ℕ
size_of b = rows_of b * columns_of b

-- the places in memory of its destination and of its source: "a memory access uses it modulo L"
unfoldable pub dest_of : List ℕ → Block → ℕ → ℕ
dest_of mem b n = place (length mem) (dest_address b (row_at b n) (col_at b n))

unfoldable pub source_of : List ℕ → Block → ℕ → ℕ
source_of mem b n = place (length mem) (source_address b (row_at b n) (col_at b n))

-- memory after the first k bytes: "Columns run .. inside rows"
unfoldable pub block_mem : Block → ℕ → List ℕ → List ℕ
block_mem b k mem = each (λ n. written b (row_at b n) (col_at b n)) k mem

-- and the note: "Later collisions replace earlier ones"
unfoldable pub block_note : Block → ℕ → List ℕ → Note → Note
block_note b k mem note = each (λ n before. (struck_at b (block_mem b n mem) (row_at b n) (col_at b n) before).note) k note
