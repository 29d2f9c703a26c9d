-- Document 02, A13: "a list of one mode 5 block, NEXT clear, whose destinations meet neither its sources nor its own 21 bytes, modulo L,
-- run to the end twice, gives back memory as it was. Repeated destinations are allowed. Also two such lists, each one's destinations meeting
-- no source or block byte of either, give the same memory in both orders. Collision codes are not part of these laws."
use Rattle.std.specs.Prelude.{◌≡◌, true, false, List, ℕ, ◌+◌, ◌%◌, ◌≤◌, ◌<◌, length}
use Rattle.vram.specs.Memory.{place}
use Rattle.block.specs.Block.{block_at, mode_of, next_of}
use Rattle.block.specs.Byte.{reads_source, size_of, dest_of, source_of}
use Rattle.board.specs.Board.{sound_board, write_board}
use Rattle.board.specs.declared.Board.{Board}
use Rattle.lists.specs.Bench.{bench, runs, sum, allowed}

-- "destinations meeting no source or block byte", "modulo L": the destinations of the list at a, the sources and the block bytes of the list at z
pub record Spares (mem : List ℕ) (a z : ℕ) : Type 0 where
  -- a source is a byte that is read: with AND 0 there are none
  pub sources :
      (n m : ℕ) → n < size_of (block_at mem a) → m < size_of (block_at mem z) → reads_source (block_at mem z) ≡ true
      → dest_of mem (block_at mem a) n ≡ source_of mem (block_at mem z) m
      → ⊥
  -- a list may wrap at the top
  pub bytes : (n j : ℕ) → n < size_of (block_at mem a) → j < 21 → dest_of mem (block_at mem a) n ≡ place (length mem) (z + j) → ⊥

-- "a list of one mode 5 block, NEXT clear, whose destinations meet neither its sources nor its own 21 bytes"
pub record Pointer (mem : List ℕ) (a : ℕ) : Type 0 where
  pub mode : mode_of (block_at mem a) ≡ 5
  pub last : next_of (block_at mem a) ≡ false
  pub apart : Spares mem a a

-- one drawing: a board, the value that is written to its BLITTER_START, and the budgets of the runs behind it
pub record Drawing : Type 0 where
  pub board : Board
  pub start : ℕ
  pub budgets : List ℕ

-- memory after it
abbrev pub drawn : Drawing → List ℕ → List ℕ
drawn d mem = (runs d.budgets (bench (write_board d.board 0x53 d.start) mem)).mem

-- "run to the end", of the list at a: on any sound board whose BL_ADR is a, started by bit 0, with budgets of at most 1,000,000 that together have the ticks of its load and its bytes
pub record ToTheEnd (mem : List ℕ) (a : ℕ) (d : Drawing) : Type 0 where
  pub sound : sound_board d.board ≡ true
  pub address : d.board.ports.bladr ≡ a
  pub odd : d.start % 2 ≡ 1
  pub small : allowed d.budgets ≡ true
  pub enough : 1 + size_of (block_at mem a) ≤ sum d.budgets

-- "run to the end twice, gives back memory as it was"
abbrev pub Erases : Type 0
Erases = (mem : List ℕ) (a : ℕ) (d e : Drawing) → Pointer mem a → ToTheEnd mem a d → ToTheEnd mem a e → drawn e (drawn d mem) ≡ mem

-- "two such lists, each one's destinations meeting no source or block byte of either"; their destinations may meet
pub record Pair (mem : List ℕ) (a z : ℕ) : Type 0 where
  pub first : Pointer mem a
  pub second : Pointer mem z
  pub there : Spares mem a z
  pub back : Spares mem z a

-- "give the same memory in both orders"; a board and its runs need not be the same in both
abbrev pub BothOrders : Type 0
BothOrders =
    (mem : List ℕ) (a z : ℕ) (d d' e e' : Drawing) → Pair mem a z
    → ToTheEnd mem a d → ToTheEnd mem a d' → ToTheEnd mem z e → ToTheEnd mem z e'
    → drawn e (drawn d mem) ≡ drawn d' (drawn e' mem)
