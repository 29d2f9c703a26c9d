-- A block from its load to its end: the blitter and memory after n of its bytes, and after all. Assumes nothing.
use mathlib.Core.Path.{◌≡◌, refl, sym, ap, ◌∙◌}
use mathlib.Core.List.{List}
use Prim.Native.Nat.{ℕ, zero, suc, ◌<◌}
use native.Mathlib.Nat.{zero-div, zero-mod, mul-le-mul}
use native.Mathlib.Omega.{arith}
use borrow.Author.Tests.{eq-eqb, ne_eqb}
use Rattle.block.specs.Block.{columns_of, block_at}
use Rattle.block.specs.Byte.{written, struck_at, size_of, block_mem, block_note}
use Rattle.block.specs.declared.Block.{Block}
use Rattle.block.specs.declared.Note.{Note}
use Rattle.block.proofs.Byte.{block_none, block_next, note_none, note_next}
use Rattle.block.proofs.Place.{next_col, next_row, more_rows, no_column, no_row}
use Rattle.block.proofs.Sizes.{columns_pos, rows_pos}
use Rattle.blitter.specs.declared.Blitter.{Blitter}
use Rattle.engine.specs.Tick.{load_tick, busy_at, ended, moved_on, byte_tick, tick_blitter, tick_memory}
use Rattle.engine.specs.Machine.{Machine, machine, tock, after, holding, busy_on}
use Rattle.engine.proofs.Machine.{after_none, after_suc, after_first}

-- a block has at least one byte
pub size_pos : (k : Block) → 0 < size_of k
size_pos k = mul-le-mul {n₁ = 1} {m₁ = 1} (rows_pos k) (columns_pos k)

module _ (b : Blitter) where
  -- one byte tick
  busy_tock :
      (row col : ℕ) (note : Note) (mem : List ℕ)
      → tock (machine (busy_at b row col note) mem) ≡ machine (moved_on (busy_at b row col note) (struck_at b.block mem row col note).note) (written b.block row col mem)
  unfolding tock tick_blitter tick_memory byte_tick
  busy_tock row col note mem = refl

  module _ (note next : Note) (n : ℕ) where
    -- the next byte
    next_on : suc n < size_of b.block → moved_on (busy_on b note n) next ≡ busy_on b next (suc n)
    unfolding moved_on
    next_on l = grind (arith, next_col, next_row, more_rows, columns_pos)

    -- the end
    last_on : suc n ≡ size_of b.block → moved_on (busy_on b note n) next ≡ ended b next
    unfolding moved_on ended
    last_on l = grind (arith, no_column, no_row, columns_pos)

  module _ (note : Note) (mem : List ℕ) where
    -- the tick of the n-th byte, and what it makes of the blitter
    step_on :
        (n : ℕ) (b' : Blitter) → after n (machine (busy_on b note 0) mem) ≡ machine (busy_on b (block_note b.block n mem note) n) (block_mem b.block n mem)
        → moved_on (busy_on b (block_note b.block n mem note) n) (block_note b.block (suc n) mem note) ≡ b'
        → after (suc n) (machine (busy_on b note 0) mem) ≡ machine b' (block_mem b.block (suc n) mem)
    step_on n b' before e = grind (arith, after_suc, busy_tock, note_next, block_next)

    -- a busy blitter after n bytes of its block
    pub during :
        (n : ℕ) → n < size_of b.block
        → after n (machine (busy_on b note 0) mem) ≡ machine (busy_on b (block_note b.block n mem note) n) (block_mem b.block n mem)
    during zero l = after_none _ ∙ sym (λ i. machine (busy_on b (note_none b.block mem note i) 0) (block_none b.block mem i))
    during (suc n) l = step_on n _ (during n (omega arith)) (next_on (block_note b.block n mem note) (block_note b.block (suc n) mem note) n l)

    -- and after all of them
    pub whole :
        after (size_of b.block) (machine (busy_on b note 0) mem)
        ≡ machine (ended b (block_note b.block (size_of b.block) mem note)) (block_mem b.block (size_of b.block) mem)
    whole = at (size_of b.block) refl
      where
        at : (n : ℕ) → n ≡ size_of b.block → after n (machine (busy_on b note 0) mem) ≡ machine (ended b (block_note b.block n mem note)) (block_mem b.block n mem)
        at zero e = absurd (omega (arith, size_pos b.block, e))
        at (suc n) e = step_on n _ (during n (omega arith)) (last_on (block_note b.block n mem note) (block_note b.block (suc n) mem note) n e)

-- a machine whose next block is known
module _ (s : Machine) (k : Block) (load : s.blitter.flags ≡ 1) (known : block_at s.mem s.blitter.list ≡ k) where
  -- its load
  pub loaded : tock s ≡ machine (busy_on (holding k s.blitter) s.blitter.note 0) s.mem
  unfolding tock tick_blitter tick_memory load_tick holding
  loaded =
      rw (ne_eqb s.blitter.flags 0 (omega arith), eq-eqb s.blitter.flags 1 load, zero-div (columns_of k), zero-mod (columns_of k))
      (ap (λ (x : Block). machine (holding x s.blitter) s.mem) known)

  -- after n bytes of the block
  pub block_busy :
      (n : ℕ) → n < size_of k
      → after (suc n) s ≡ machine (busy_on (holding k s.blitter) (block_note k n s.mem s.blitter.note) n) (block_mem k n s.mem)
  unfolding holding
  block_busy n l = after_first n s ∙ ap (after n) loaded ∙ during (holding k s.blitter) s.blitter.note s.mem n l

  -- from its load to its end
  pub block_step :
      after (suc (size_of k)) s ≡ machine (ended (holding k s.blitter) (block_note k (size_of k) s.mem s.blitter.note)) (block_mem k (size_of k) s.mem)
  unfolding holding
  block_step = after_first (size_of k) s ∙ ap (after (size_of k)) loaded ∙ whole (holding k s.blitter) s.blitter.note s.mem
