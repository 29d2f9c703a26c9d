-- What a stretch of bytes makes of memory, the note of collisions and the count of accesses: each byte by the address of its source and its own.
use Rattle.std.specs.Prelude.{◌≡◌, cond, List, ℕ, zero, suc, ◌+◌, length}
use Rattle.vram.specs.Memory.{good_length}
use Rattle.block.specs.Byte.{written_by, struck_by}
use Rattle.block.specs.declared.Block.{Block}
use Rattle.block.specs.declared.Note.{Note}
use Rattle.stretch.specs.declared.Stretch.{Stretch}
use Rattle.stretch.specs.declared.Drawn.{Drawn}

-- a stretch so far: memory, the note, the accesses
pub record Trace : Type 0 where
  pub mem : List ℕ
  pub note : Note
  pub accesses : ℕ

abbrev pub trace : List ℕ → Note → ℕ → Trace
trace mem note accesses = record { mem = mem; note = note; accesses = accesses }

-- one byte more
unfoldable pub struck : Block → ℕ → ℕ → Trace → Trace
struck b from to d =
    let byte = struck_by b d.mem from to d.note in
    trace (written_by b from to d.mem) byte.note (d.accesses + byte.accesses)

-- n bytes more, each address a step further
unfoldable pub strokes : Block → ℕ → ℕ → ℕ → ℕ → ℕ → Trace → Trace
strokes b along step zero from to d = d
strokes b along step (suc n) from to d = strokes b along step n (from + along) (to + step) (struck b from to d)

-- a loop has drawn a stretch: from one memory and note to another memory, with the note and the accesses that all its bytes leave
abbrev pub Draws : Block → Stretch → List ℕ → Note → List ℕ → Drawn → Type 0
Draws b s mem note mem' drawn =
    trace mem' drawn.note drawn.accesses ≡ strokes b s.along s.step s.count s.from s.to (trace mem note 0)

-- what so many strokes make of memory, and their accesses, whatever the note is: it stays
abbrev pub Makes : Block → ℕ → ℕ → ℕ → ℕ → ℕ → List ℕ → List ℕ → ℕ → Type 0
Makes b along step count from to mem mem' accesses =
    (note : Note) → trace mem' note accesses ≡ strokes b along step count from to (trace mem note 0)

-- a loop that leaves the note has drawn a stretch
abbrev pub Covers : Block → Stretch → List ℕ → List ℕ → ℕ → Type 0
Covers b s mem mem' accesses = Makes b s.along s.step s.count s.from s.to mem mem' accesses

-- a whole stretch; in a memory of no board's length nothing is done
unfoldable pub trace_of : Block → Stretch → List ℕ → Note → Trace
trace_of b s mem note =
    cond (good_length (length mem))
    (strokes b s.along s.step s.count s.from s.to (trace mem note 0))
    (trace mem note 0)
