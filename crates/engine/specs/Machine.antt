-- The blitter with its memory, and what n ticks make of both: the words of the theorems over a list, where counts do not matter.
use Rattle.std.specs.Prelude.{List, ℕ, zero, suc, ◌+◌, ◌%◌}
use Rattle.block.specs.Byte.{row_at, col_at}
use Rattle.block.specs.declared.Block.{Block}
use Rattle.block.specs.declared.Note.{Note}
use Rattle.blitter.specs.declared.Blitter.{Blitter}
use Rattle.blitter.specs.State.{with_work, with_list}
use Rattle.engine.specs.Tick.{busy_at, tick_blitter, tick_memory}

pub record Machine : Type 0 where
  pub blitter : Blitter
  pub mem : List ℕ

abbrev pub machine : Blitter → List ℕ → Machine
machine b mem = record { blitter = b; mem = mem }

-- one tick; an idle blitter's changes nothing
unfoldable pub tock : Machine → Machine
tock s = record { blitter = tick_blitter s.blitter s.mem; mem = tick_memory s.blitter s.mem }

-- n ticks
unfoldable pub after : ℕ → Machine → Machine
after zero s = s
after (suc n) s = tock (after n s)

-- a blitter that has loaded block k: the load tick, with the block named
unfoldable pub holding : Block → Blitter → Blitter
holding k b = with_work 2 k 0 0 (with_list ((b.list + 21) % 524288) b)

-- busy with the n-th byte of its block
abbrev pub busy_on : Blitter → Note → ℕ → Blitter
busy_on b note n = busy_at b (row_at b.block n) (col_at b.block n) note
