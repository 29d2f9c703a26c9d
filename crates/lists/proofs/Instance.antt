-- Both theorems at one list, with every number written out. A fill of 3 by 2 bytes at 2000h, zoomed 2 by 3, with NEXT; then a fill of one byte at 3000h: 37 ticks and 2.
-- Memory is 16,384 zeros but for the list, which begins at 524,270 and so wraps behind 18 bytes. Assumes nothing.
use mathlib.Core.Path.{◌≡◌, refl, sym, ap, ◌∙◌, subst}
use mathlib.Core.Bool.{true, false}
use mathlib.Core.List.{List, [], ◌∷◌}
use Prim.Native.Nat.{ℕ, zero, suc, ◌+◌, ◌*◌, ◌<◌, ◌≤◌}
use native.Mathlib.Nat.{add_assoc}
use native.Mathlib.Omega.{arith}
use lib.Dec.{ltb, lit<, lit≤}
use lib.ListN.{length, get_or}
use lib.Seq.{get_or-set_same}
use borrow.Author.Tests.{lt-ltb}
use Rattle.vram.specs.Memory.{good_length, place, byte_at, cell_at}
use Rattle.vram.specs.Install.{install_memory}
use Rattle.vram.proofs.Length.{shortest, own_place}
use Rattle.vram.proofs.Blank.{blank, on_blank_long, on_blank_byte, on_blank_other}
use Rattle.block.specs.Block.{side_at, block_at, no_side, none_side, no_block, is_none, columns_of, rows_of, next_of, dest_address}
use Rattle.block.specs.Fold.{each}
use Rattle.block.specs.Byte.{reads_source, source_by, written_by, size_of, block_mem}
use Rattle.block.proofs.Byte.{block_length}
use Rattle.mode.specs.Mode.{writes_in, value_in}
use Rattle.block.specs.declared.Block.{Block}
use Rattle.block.proofs.Bytes.{block_same}
use Rattle.step.specs.Step.{signed, step_x, step_y, wrap19, side_address}
use Rattle.blitter.specs.State.{new_blitter, sound_blitter}
use Rattle.board.specs.Ports.{new_ports, bladr_set}
use Rattle.board.specs.Board.{new_board, changed, sound_board, write_board}
use Rattle.board.specs.declared.Board.{Board}
use Rattle.lists.specs.Bench.{Bench, bench, runs, reported, sum, allowed}
use Rattle.lists.specs.Touch.{Touched}
use Rattle.lists.specs.Ends.{nth_block, Chain, list_ticks, list_memory, Ends}
use Rattle.lists.proofs.Theorem.{run_touches, ends}

abbrev bytes : List ℕ
bytes =
    0 ∷ 0 ∷ 0 ∷ 0 ∷ 0 ∷ 1 ∷ 0 ∷ 0x20 ∷ 0 ∷ 16 ∷ 0 ∷ 1 ∷ 2 ∷ 0 ∷ 1 ∷ 0 ∷ 1 ∷ 0 ∷ 0x21 ∷ 0 ∷ 8
    ∷ 0 ∷ 0 ∷ 0 ∷ 0 ∷ 0 ∷ 1 ∷ 0 ∷ 0x30 ∷ 0 ∷ 0 ∷ 0 ∷ 1 ∷ 0 ∷ 0 ∷ 0 ∷ 0 ∷ 2 ∷ 0 ∷ 0 ∷ 0 ∷ 0 ∷ []

pub memory : List ℕ
memory = install_memory blank bytes 524270

-- BL_ADR has a list's address; all else is new
abbrev pub board_at : ℕ → Board
board_at a = changed (bladr_set a new_ports) new_blitter new_board

pub board_at_sound : (a : ℕ) → a < 524288 → sound_board (board_at a) ≡ true
unfolding sound_board sound_blitter is_none none_side no_block no_side
board_at_sound a l = rw (lt-ltb a 524288 l)

memory_long : length memory ≡ 16384
unfolding memory
memory_long = on_blank_long bytes 524270

-- the list's bytes are those written out, so its blocks are
laid : (j : ℕ) → j < 42 → byte_at memory 524270 j ≡ get_or bytes j 0
unfolding memory
laid = on_blank_byte bytes 524270 (lit≤ tt) (lit≤ tt)

block_is : (k : ℕ) → k < 2 → nth_block memory 524270 k ≡ nth_block bytes 0 k
block_is k l =
    block_same memory bytes (524270 + 21 * k) (0 + 21 * k)
    (λ j q.
    ap (cell_at memory) (add_assoc 524270 (21 * k) j)
    ∙ laid (21 * k + j) (omega arith)
    ∙ sym (ap (λ (n : ℕ). get_or bytes n 0) (ap (place 42) (let e : 0 + 21 * k + j ≡ 21 * k + j = omega arith in e) ∙ own_place 42 (21 * k + j) (omega arith) (lit≤ tt))))

first_is : nth_block memory 524270 0 ≡ nth_block bytes 0 0
first_is = block_is 0 (lit< tt)

second_is : nth_block memory 524270 1 ≡ nth_block bytes 0 1
second_is = block_is 1 (lit< tt)

-- 6 rows of 6 and 1 of 1; their NEXT
sizes : (rows_of (nth_block bytes 0 0) ≡ 6) × (columns_of (nth_block bytes 0 0) ≡ 6) × (rows_of (nth_block bytes 0 1) ≡ 1) × (columns_of (nth_block bytes 0 1) ≡ 1)
unfolding block_at rows_of columns_of
sizes = (refl, refl, refl, refl)

nexts : (next_of (nth_block bytes 0 0) ≡ true) × (next_of (nth_block bytes 0 1) ≡ false)
unfolding block_at
nexts = (refl, refl)

-- their destinations, which are none of the 42 cells from 16,366 on, over the top to 23
abbrev Between : Block → Type 0
Between b = (row col : ℕ) → row < rows_of b → col < columns_of b → (24 ≤ dest_address b row col) × (dest_address b row col < 16366)

first_between : Between (nth_block bytes 0 0)
unfolding block_at side_at rows_of columns_of dest_address side_address step_y step_x signed wrap19
first_between row col r c = (omega arith, omega arith)

second_between : Between (nth_block bytes 0 1)
unfolding block_at side_at rows_of columns_of dest_address side_address step_y step_x signed wrap19
second_between row col r c = (omega arith, omega arith)

off_list : (d j : ℕ) → (24 ≤ d) × (d < 16366) → j < 42 → place 16384 (524270 + j) ≡ place 16384 d → ⊥
off_list d j between l e = omega (arith, between.0, between.1)

chain : Chain memory 524270 2
chain = record { some = lit< tt; links = links; apart = λ k row col j l r c q. rw memory_long (off_list _ j (between k l row col r c) q) }
  where
    links : (k : ℕ) → k < 2 → next_of (nth_block memory 524270 k) ≡ ltb (suc k) 2
    links zero l = ap next_of first_is ∙ nexts.0
    links (suc zero) l = ap next_of second_is ∙ nexts.1
    links (suc (suc k)) l = absurd (omega arith)

    between : (k : ℕ) → k < 2 → Between (nth_block memory 524270 k)
    between zero l = subst Between (sym first_is) first_between
    between (suc zero) l = subst Between (sym second_is) second_between
    between (suc (suc k)) l = absurd (omega arith)

-- 39 ticks in all
ticks_are : list_ticks memory 524270 2 ≡ 39
unfolding list_ticks
ticks_are = rw (first_is, second_is, sizes.0, sizes.1, sizes.2, sizes.3)

abbrev started : Bench
started = bench (write_board (board_at 524270) 0x53 1) memory

pub example_ends : Ends started 39 (list_memory memory 524270 2)
example_ends =
    subst (λ (t : ℕ). Ends started t (list_memory memory 524270 2)) ticks_are
    (ends (board_at 524270) memory 2 1 (board_at_sound 524270 (lit< tt)) (ap good_length memory_long ∙ shortest) refl chain)

-- in runs of 10, 20, 8, 1 and 5: not idle after three of them, idle after the fourth, and the fifth counts nothing
pub example_busy : (runs (10 ∷ 20 ∷ 8 ∷ []) started).board.blitter.flags ≡ 0 → ⊥
unfolding allowed sum
example_busy = example_ends.busy (10 ∷ 20 ∷ 8 ∷ []) refl (lit< tt)

pub example_idle : (runs (10 ∷ 20 ∷ 8 ∷ 1 ∷ []) started).board.blitter.flags ≡ 0
unfolding allowed sum
example_idle = example_ends.idle (10 ∷ 20 ∷ 8 ∷ 1 ∷ []) refl (lit≤ tt)

pub example_counted : reported (10 ∷ 20 ∷ 8 ∷ 1 ∷ 5 ∷ []) started ≡ 39
unfolding allowed sum
example_counted = example_ends.counted (10 ∷ 20 ∷ 8 ∷ 1 ∷ 5 ∷ []) refl (lit≤ tt)

-- the byte at 3000h is 0 before, and 2 behind the second block
zero_before : get_or memory 12288 0 ≡ 0
unfolding memory
zero_before = on_blank_other bytes 524270 (lit≤ tt) (lit≤ tt) 12288 (lit< tt) none
  where
    none : (i : ℕ) → i < 42 → place 16384 (524270 + i) ≡ 12288 → ⊥
    none i l e = omega arith

two_behind : (x : List ℕ) → length x ≡ 16384 → get_or (block_mem (nth_block bytes 0 1) 1 x) 12288 0 ≡ 2
unfolding block_mem each written_by writes_in value_in source_by reads_source block_at side_at columns_of dest_address side_address step_y step_x signed wrap19
two_behind x long = rw long (get_or-set_same x 12288 2 0 (omega (arith, long)))

two_after : get_or (list_memory memory 524270 2) 12288 0 ≡ 2
unfolding list_memory each
two_after =
    ap (λ (b : Block). get_or (block_mem b (size_of b) (list_memory memory 524270 1)) 12288 0) second_is
    ∙ ap (λ (n : ℕ). get_or (block_mem (nth_block bytes 0 1) n (list_memory memory 524270 1)) 12288 0) (λ i. sizes.2 i * sizes.3 i)
    ∙ two_behind (list_memory memory 524270 1) (block_length (nth_block memory 524270 0) memory _ ∙ memory_long)

-- so a run of 39 ticks touches it
pub example_touched : Touched started 39 12288
unfolding allowed sum runs
example_touched =
    run_touches (write_board (board_at 524270) 0x53 1) memory 39 12288
    (λ e. omega (arith, e, zero_before, two_after, ap (λ (m : List ℕ). get_or m 12288 0) (example_ends.memory (39 ∷ []) refl (lit≤ tt))))
