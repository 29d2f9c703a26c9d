-- Both laws at two lists in one memory, with every number written out. The first draws 3 and 5 onto one cell, which holds 9; the second, with AND 0, draws 77 onto that cell.
-- Memory is 16,384 zeros but for 45 bytes from 524,270 on, over the top: the first list, the second, which is at 3, and the bytes 3, 5 and 9 at 24, 25 and 26. Assumes nothing.
use mathlib.Core.Path.{◌≡◌, refl, sym, ap, ◌∙◌, subst}
use mathlib.Core.Bool.{true, false}
use mathlib.Core.List.{List, [], ◌∷◌}
use Prim.Native.Nat.{ℕ, ◌+◌, ◌<◌}
use native.Mathlib.Omega.{arith}
use lib.Bits.{bit_xor}
use lib.Dec.{lit<, lit≤}
use lib.ListN.{length, get_or, length-set}
use lib.Seq.{get_or-set_same}
use Rattle.laws.proofs.Choice.{true_false}
use Rattle.laws.proofs.Xor.{xor_at, set_xor}
use Rattle.vram.specs.Memory.{good_length, place, byte_at, cell_at}
use Rattle.vram.specs.Install.{install_memory}
use Rattle.vram.proofs.Length.{shortest, own_place}
use Rattle.vram.proofs.Blank.{blank, on_blank_long, on_blank_byte}
use Rattle.block.specs.Block.{side_at, block_at, columns_of, rows_of, pattern_of, mode_of, next_of, dest_address, source_address}
use Rattle.block.specs.Fold.{each}
use Rattle.block.specs.Byte.{reads_source, source_by, size_of, dest_of, source_of}
use Rattle.block.specs.declared.Block.{Block}
use Rattle.block.proofs.Bytes.{block_same}
use Rattle.step.specs.Step.{signed, step_x, step_y, wrap19, side_address}
use Rattle.lists.specs.Bench.{sum, allowed}
use Rattle.lists.proofs.Instance.{board_at, board_at_sound}
use Rattle.pointer.specs.Pointer.{Spares, Pointer, Drawing, drawn, ToTheEnd, Pair}
use Rattle.pointer.proofs.Xors.{value_of, Stands, stands_self, xors, block_xors}
use Rattle.pointer.proofs.Theorem.{drawn_block, erases, both_orders}

abbrev bytes : List ℕ
bytes =
    24 ∷ 0 ∷ 0 ∷ 0 ∷ 0 ∷ 1 ∷ 26 ∷ 0x40 ∷ 0 ∷ 0 ∷ 0 ∷ 0 ∷ 1 ∷ 0 ∷ 0 ∷ 255 ∷ 0 ∷ 0 ∷ 0 ∷ 0 ∷ 5
    ∷ 26 ∷ 0 ∷ 0 ∷ 0 ∷ 0 ∷ 0 ∷ 26 ∷ 0 ∷ 0 ∷ 0 ∷ 0 ∷ 0 ∷ 0 ∷ 0 ∷ 0 ∷ 0 ∷ 77 ∷ 0 ∷ 0 ∷ 0 ∷ 5
    ∷ 3 ∷ 5 ∷ 9 ∷ []

pub memory : List ℕ
memory = install_memory blank bytes 524270

memory_long : length memory ≡ 16384
unfolding memory
memory_long = on_blank_long bytes 524270

-- what stands at 524,270 + j, and at a cell over the top
laid : (j : ℕ) → j < 45 → byte_at memory 524270 j ≡ get_or bytes j 0
unfolding memory
laid = on_blank_byte bytes 524270 (lit≤ tt) (lit≤ tt)

cell_is : (i : ℕ) → i < 27 → get_or memory i 0 ≡ get_or bytes (18 + i) 0
cell_is i l = ap (λ (p : ℕ). get_or memory p 0) (sym (ap (λ (long : ℕ). place long (524270 + (18 + i))) memory_long ∙ there)) ∙ laid (18 + i) (omega arith)
  where
    there : place 16384 (524270 + (18 + i)) ≡ i
    there = omega arith

-- the two blocks
abbrev first : Block
first = block_at bytes 0

abbrev second : Block
second = block_at bytes 21

in_bytes : (n : ℕ) → n < 45 → cell_at bytes n ≡ get_or bytes n 0
in_bytes n l = ap (λ (p : ℕ). get_or bytes p 0) (own_place 45 n l (lit≤ tt))

first_is : block_at memory 524270 ≡ first
first_is = block_same memory bytes 524270 0 (λ j l. laid j (omega arith) ∙ same j ∙ sym (in_bytes (0 + j) (omega arith)))
  where
    same : (j : ℕ) → get_or bytes j 0 ≡ get_or bytes (0 + j) 0
    same j = ap (λ (n : ℕ). get_or bytes n 0) (let e : j ≡ 0 + j = omega arith in e)

second_is : block_at memory 3 ≡ second
second_is = block_same memory bytes 3 21 (λ j l. ap (λ (p : ℕ). get_or memory p 0) (there j l) ∙ cell_is (3 + j) (omega arith) ∙ same j ∙ sym (in_bytes (21 + j) (omega arith)))
  where
    there : (j : ℕ) → j < 21 → place (length memory) (3 + j) ≡ 3 + j
    there j l = rw memory_long (omega arith)

    same : (j : ℕ) → get_or bytes (18 + (3 + j)) 0 ≡ get_or bytes (21 + j) 0
    same j = ap (λ (n : ℕ). get_or bytes n 0) (let e : 18 + (3 + j) ≡ 21 + j = omega arith in e)

sizes : (size_of first ≡ 2) × (size_of second ≡ 1)
unfolding block_at rows_of columns_of
sizes = (refl, refl)

controls : (mode_of first ≡ 5) × (next_of first ≡ false) × (mode_of second ≡ 5) × (next_of second ≡ false)
unfolding block_at
controls = (refl, refl, refl, refl)

-- every destination is cell 26
abbrev On26 : Block → Type 0
On26 k = (n : ℕ) → dest_of memory k n ≡ 26

first_on : On26 first
unfolding dest_of block_at side_at dest_address side_address step_y step_x signed wrap19
first_on n = rw memory_long (omega arith)

second_on : On26 second
unfolding dest_of block_at side_at dest_address side_address step_y step_x signed wrap19
second_on n = rw memory_long (omega arith)

-- the first reads 24 and 25, the second nothing
abbrev Below26 : Block → Type 0
Below26 k = (n : ℕ) → n < size_of k → reads_source k ≡ true → source_of memory k n < 26

first_below : Below26 first
unfolding source_of block_at side_at rows_of columns_of pattern_of source_address side_address step_y step_x signed wrap19
first_below n l r = rw memory_long (omega arith)

second_below : Below26 second
unfolding reads_source block_at
second_below n l r = true_false (sym r)

-- what is known of the list at a: destinations on 26, sources below it, its own bytes elsewhere
record Known (a : ℕ) : Type 0 where
  on : On26 (block_at memory a)
  below : Below26 (block_at memory a)
  own : (j : ℕ) → j < 21 → place 16384 (a + j) ≡ 26 → ⊥

first_known : Known 524270
first_known = record { on = subst On26 (sym first_is) first_on; below = subst Below26 (sym first_is) first_below; own = λ j l e. omega arith }

second_known : Known 3
second_known = record { on = subst On26 (sym second_is) second_on; below = subst Below26 (sym second_is) second_below; own = λ j l e. omega arith }

spares : {a z : ℕ} → Known a → Known z → Spares memory a z
spares {z = z} k h =
    record {
      sources = λ n m u v r e. omega (arith, k.on n, h.below m v r, e);
      bytes = λ n j u v e. h.own j v (sym (ap (λ (long : ℕ). place long (z + j)) memory_long) ∙ sym e ∙ k.on n);
    }

first_pointer : Pointer memory 524270
first_pointer = record { mode = ap mode_of first_is ∙ controls.0; last = ap next_of first_is ∙ controls.1; apart = spares first_known first_known }

second_pointer : Pointer memory 3
second_pointer = record { mode = ap mode_of second_is ∙ controls.2; last = ap next_of second_is ∙ controls.3; apart = spares second_known second_known }

pair : Pair memory 524270 3
pair = record { first = first_pointer; second = second_pointer; there = spares first_known second_known; back = spares second_known first_known }

-- the first is drawn in one run, and in three; the second in one
abbrev once : Drawing
once = record { board = board_at 524270; start = 1; budgets = 3 ∷ [] }

abbrev again : Drawing
again = record { board = board_at 524270; start = 255; budgets = 1 ∷ 1 ∷ 1 ∷ [] }

abbrev other : Drawing
other = record { board = board_at 3; start = 1; budgets = 2 ∷ [] }

once_ends : ToTheEnd memory 524270 once
unfolding allowed sum
once_ends = record { sound = board_at_sound 524270 (lit< tt); address = refl; odd = refl; small = refl; enough = rw (ap size_of first_is ∙ sizes.0) (lit≤ tt) }

again_ends : ToTheEnd memory 524270 again
unfolding allowed sum
again_ends = record { sound = board_at_sound 524270 (lit< tt); address = refl; odd = refl; small = refl; enough = rw (ap size_of first_is ∙ sizes.0) (lit≤ tt) }

other_ends : ToTheEnd memory 3 other
unfolding allowed sum
other_ends = record { sound = board_at_sound 3 (lit< tt); address = refl; odd = refl; small = refl; enough = rw (ap size_of second_is ∙ sizes.1) (lit≤ tt) }

-- what the first reads, and so what it does
reads_3 : value_of memory first 0 ≡ 3
unfolding source_by reads_source block_at side_at columns_of pattern_of source_address side_address step_y step_x signed wrap19
reads_3 = rw memory_long (rw (cell_is 24 (lit< tt)))

reads_5 : value_of memory first 1 ≡ 5
unfolding source_by reads_source block_at side_at columns_of pattern_of source_address side_address step_y step_x signed wrap19
reads_5 = rw memory_long (rw (cell_is 25 (lit< tt)))

first_does : xors memory 524270 memory ≡ xor_at 26 5 (xor_at 26 3 memory)
unfolding xors each
first_does =
    ap (λ (k : Block). each (λ n. xor_at (dest_of memory k n) (value_of memory k n)) (size_of k) memory) first_is
    ∙ ap (λ (size : ℕ). each (λ n. xor_at (dest_of memory first n) (value_of memory first n)) size memory) sizes.0
    ∙ (λ i. xor_at (first_on 1 i) (reads_5 i) (xor_at (first_on 0 i) (reads_3 i) memory))

-- the cell of an exclusive or
there : (v : ℕ) (m : List ℕ) → length m ≡ 16384 → get_or (xor_at 26 v m) 26 0 ≡ bit_xor (get_or m 26 0) v
there v m long = ap (λ (x : List ℕ). get_or x 26 0) (sym (set_xor 26 v m)) ∙ get_or-set_same m 26 _ 0 (omega (arith, long))

-- 9 becomes 15, and 9 again
pub example_drawn : get_or (drawn once memory) 26 0 ≡ 15
example_drawn =
    ap (λ (x : List ℕ). get_or x 26 0)
    (drawn_block first_pointer self once (ap good_length memory_long ∙ shortest) once_ends ∙ block_xors memory memory 524270 first_pointer self ∙ first_does)
    ∙ there 5 (xor_at 26 3 memory) (ap length (sym (set_xor 26 3 memory)) ∙ length-set memory 26 _ ∙ memory_long)
    ∙ ap (λ (v : ℕ). bit_xor v 5) (there 3 memory memory_long ∙ ap (λ (v : ℕ). bit_xor v 3) (cell_is 26 (lit< tt)))
  where
    self : Stands memory memory 524270
    self = stands_self memory 524270

pub example_erased : drawn again (drawn once memory) ≡ memory
example_erased = erases memory 524270 once again first_pointer once_ends again_ends

-- with the second one before or behind it, on the same cell
pub example_orders : drawn other (drawn once memory) ≡ drawn again (drawn other memory)
example_orders = both_orders memory 524270 3 once again other other pair once_ends again_ends other_ends other_ends
