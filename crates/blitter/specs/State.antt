-- Document 01, "The blitter": the state between two ticks, which states are sound, and what START, stop and reset make of it.
use Rattle.std.specs.Prelude.{Bool, false, cond, ◌&&◌, ℕ, eqb, ltb, leb}
use Rattle.block.specs.Block.{is_none, no_block, columns_of, rows_of}
use Rattle.block.specs.Byte.{new_note}
use Rattle.block.specs.declared.Block.{Block}
use Rattle.block.specs.declared.Note.{Note}
use Rattle.blitter.specs.declared.Blitter.{Blitter}

-- "A new board has every register, flag and state field 0"
abbrev pub new_blitter : Blitter
new_blitter = record { irqe = false; irqf = false; list = 0; flags = 0; note = new_note; block = no_block; row = 0; col = 0 }

-- A part changed, and the others kept: the flags with the block being done and the position in it,
abbrev pub with_work : ℕ → Block → ℕ → ℕ → Blitter → Blitter
with_work flags block row col b =
    record { irqe = b.irqe; irqf = b.irqf; list = b.list; flags = flags; note = b.note; block = block; row = row; col = col }

-- the list address,
abbrev pub with_list : ℕ → Blitter → Blitter
with_list list b =
    record { irqe = b.irqe; irqf = b.irqf; list = list; flags = b.flags; note = b.note; block = b.block; row = b.row; col = b.col }

-- what collisions left,
abbrev pub with_note : Note → Blitter → Blitter
with_note note b =
    record { irqe = b.irqe; irqf = b.irqf; list = b.list; flags = b.flags; note = note; block = b.block; row = b.row; col = b.col }

-- and the interrupt's enable and request
abbrev pub with_interrupt : Bool → Bool → Blitter → Blitter
with_interrupt irqe irqf b =
    record { irqe = irqe; irqf = irqf; list = b.list; flags = b.flags; note = b.note; block = b.block; row = b.row; col = b.col }

-- "while BUSY, row and column inside the block"
abbrev pub inside : Block → ℕ → ℕ → Bool
inside block row col = ltb row (rows_of block) && ltb col (columns_of block)

-- "while not BUSY, block fields and position all 0"
abbrev pub blank : Block → ℕ → ℕ → Bool
blank block row col = is_none block && eqb row 0 && eqb col 0

-- "each field within its width or range below; flags 0, 1 or 2"
unfoldable pub sound_blitter : Blitter → Bool
sound_blitter b =
    ltb b.list 524288
    && leb b.flags 2
    && cond (eqb b.flags 2) (inside b.block b.row b.col) (blank b.block b.row b.col)

-- "copies BL_ADR to the list address, sets flags to 1 (BCB_LOAD), clears the collision code, block and position"
unfoldable pub started : ℕ → Blitter → Blitter
started list b = with_work 1 no_block 0 0 (with_note new_note (with_list list b))

-- "Writing 0 sets flags to 0 and clears block and position, with no interrupt"
unfoldable pub stopped : Blitter → Blitter
stopped b = with_work 0 no_block 0 0 b

-- "IRQ_CONTROL (sets IRQE from bit 0, clears IRQF)"
unfoldable pub interrupts : Bool → Blitter → Blitter
interrupts irqe b = with_interrupt irqe false b
