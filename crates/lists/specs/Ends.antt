-- Document 02, A10: "a list of one or more blocks, of which only the last has NEXT clear, no destination of which falls on any byte of the list modulo L,
-- once started goes idle after exactly the sum over its blocks of 1 + W·ZX·H·ZY ticks, across as many runs as wanted".
use Rattle.std.specs.Prelude.{◌≡◌, true, List, ℕ, zero, suc, ◌+◌, ◌*◌, ◌%◌, ◌≤◌, ◌<◌, ltb, length}
use Rattle.vram.specs.Memory.{good_length, place}
use Rattle.block.specs.Fold.{each}
use Rattle.block.specs.Block.{block_at, columns_of, rows_of, next_of, dest_address}
use Rattle.block.specs.Byte.{size_of, block_mem}
use Rattle.block.specs.declared.Block.{Block}
use Rattle.board.specs.Board.{sound_board, write_board}
use Rattle.board.specs.declared.Board.{Board}
use Rattle.lists.specs.Bench.{Bench, bench, runs, reported, sum, allowed}

-- the k-th block, from 0, of the list at an address, as memory has it; a list may wrap at the top
abbrev pub nth_block : List ℕ → ℕ → ℕ → Block
nth_block mem a k = block_at mem (a + 21 * k)

-- such a list, of m blocks
pub record Chain (mem : List ℕ) (a m : ℕ) : Type 0 where
  -- "one or more blocks"
  pub some : 0 < m
  -- "only the last has NEXT clear": NEXT is set where a block follows, and nowhere else
  pub links : (k : ℕ) → k < m → next_of (nth_block mem a k) ≡ ltb (suc k) m
  -- "no destination of which falls on any byte of the list modulo L": of every row and column, written or not
  pub apart :
      (k row col j : ℕ) → k < m → row < rows_of (nth_block mem a k) → col < columns_of (nth_block mem a k) → j < 21 * m
      → place (length mem) (a + j) ≡ place (length mem) (dest_address (nth_block mem a k) row col)
      → ⊥

-- "the sum over its blocks of 1 + W·ZX·H·ZY ticks"
unfoldable pub list_ticks : List ℕ → ℕ → ℕ → ℕ
list_ticks mem a zero = 0
list_ticks mem a (suc k) = list_ticks mem a k + (1 + size_of (nth_block mem a k))

-- memory after its blocks, one after the other
unfoldable pub list_memory : List ℕ → ℕ → ℕ → List ℕ
list_memory mem a m = each (λ k. block_mem (nth_block mem a k) (size_of (nth_block mem a k))) m mem

-- "goes idle after exactly" so many ticks, with this memory: whatever the budgets of the runs are
pub record Ends (s : Bench) (ticks : ℕ) (last : List ℕ) : Type 0 where
  pub busy : (ns : List ℕ) → allowed ns ≡ true → sum ns < ticks → (runs ns s).board.blitter.flags ≡ 0 → ⊥
  pub used : (ns : List ℕ) → allowed ns ≡ true → sum ns < ticks → reported ns s ≡ sum ns
  pub idle : (ns : List ℕ) → allowed ns ≡ true → ticks ≤ sum ns → (runs ns s).board.blitter.flags ≡ 0
  pub counted : (ns : List ℕ) → allowed ns ≡ true → ticks ≤ sum ns → reported ns s ≡ ticks
  pub memory : (ns : List ℕ) → allowed ns ≡ true → ticks ≤ sum ns → (runs ns s).mem ≡ last

-- "once started": a value with bit 0 set is written to BLITTER_START, on any sound board whose BL_ADR is the list's address
abbrev pub ListEnds : Type 0
ListEnds =
    (b : Board) (mem : List ℕ) (m v : ℕ) → sound_board b ≡ true → good_length (length mem) ≡ true → v % 2 ≡ 1
    → Chain mem b.ports.bladr m
    → Ends (bench (write_board b 0x53 v) mem) (list_ticks mem b.ports.bladr m) (list_memory mem b.ports.bladr m)
