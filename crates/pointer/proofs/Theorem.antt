-- Both laws of A13, by the board's promises. Assumes nothing.
use mathlib.Core.Path.{◌≡◌, refl, sym, ◌∙◌, ap, subst}
use mathlib.Core.Bool.{Bool, true, false}
use mathlib.Core.List.{List, [], ◌∷◌}
use Prim.Native.Nat.{ℕ, zero, suc, ◌+◌, ◌*◌, ◌%◌, ◌<◌}
use native.Mathlib.Omega.{arith}
use lib.Dec.{ltb, lit<}
use lib.ListN.{length}
use Rattle.laws.proofs.Choice.{by_cond}
use Rattle.vram.specs.Memory.{good_length, place}
use Rattle.block.specs.Fold.{each}
use Rattle.block.specs.Block.{block_at, columns_of, rows_of, next_of, dest_address}
use Rattle.block.specs.Byte.{size_of, dest_of, block_mem}
use Rattle.block.specs.declared.Block.{Block}
use Rattle.block.proofs.Byte.{place_length}
use Rattle.block.proofs.Place.{row_of, col_of, inside}
use Rattle.block.proofs.Sizes.{columns_pos}
use Rattle.board.specs.Board.{sound_board, write_board, run_answer, run_board, run_memory}
use Rattle.board.specs.declared.Board.{Board}
use Rattle.lists.specs.Bench.{Bench, bench, runs}
use Rattle.lists.specs.Ends.{nth_block, Chain, list_ticks, list_memory, Ends}
use Rattle.lists.proofs.Theorem.{ends}
use Rattle.pointer.specs.Pointer.{Spares, Pointer, Drawing, drawn, ToTheEnd, Erases, BothOrders}
use Rattle.pointer.proofs.Xors.{Stands, stands_self, stands_after, xors, block_xors, xors_twice, xors_swap}

-- the destination at a row and a column is that of the n-th byte
dest_at : (mem : List ℕ) (k : Block) (row col : ℕ) → col < columns_of k → dest_of mem k (row * columns_of k + col) ≡ place (length mem) (dest_address k row col)
unfolding dest_of
dest_at mem k row col c =
    λ i. place (length mem) (dest_address k (row_of (columns_of k) (columns_pos k) row col c i) (col_of (columns_of k) (columns_pos k) row col c i))

-- A pointer's list, in any memory in which it stands.
module _ {mem x : List ℕ} {a : ℕ} (p : Pointer mem a) (s : Stands mem x a) where
  abbrev block : Block
  block = block_at mem a

  -- the list's first block there is the pointer's
  first_is : nth_block x a 0 ≡ block
  first_is = ap (block_at x) (let e : a + 21 * 0 ≡ a = omega arith in e) ∙ s.block

  abbrev Off : Block → Type 0
  Off k = (row col j : ℕ) → row < rows_of k → col < columns_of k → j < 21 → place (length x) (a + j) ≡ place (length x) (dest_address k row col) → ⊥

  off : Off block
  off row col j r c l e =
      p.apart.bytes (row * columns_of block + col) j (inside (columns_of block) (columns_pos block) (rows_of block) row col r c) l
      (dest_at mem block row col c ∙ sym (place_length x mem _ s.long) ∙ sym e ∙ place_length x mem (a + j) s.long)

  -- it is one of A10's lists
  chain : Chain x a 1
  chain = record { some = lit< tt; links = links; apart = apart }
    where
      links : (k : ℕ) → k < 1 → next_of (nth_block x a k) ≡ ltb (suc k) 1
      links zero l = ap next_of first_is ∙ p.last
      links (suc k) l = absurd (omega arith)

      apart :
          (k row col j : ℕ) → k < 1 → row < rows_of (nth_block x a k) → col < columns_of (nth_block x a k) → j < 21 * 1
          → place (length x) (a + j) ≡ place (length x) (dest_address (nth_block x a k) row col) → ⊥
      apart zero row col j l = subst Off (sym first_is) off row col j
      apart (suc k) row col j l = absurd (omega arith)

  ticks_are : list_ticks x a 1 ≡ 1 + size_of block
  unfolding list_ticks
  ticks_are = ap (λ (k : Block). 0 + (1 + size_of k)) first_is ∙ (let e : 0 + (1 + size_of block) ≡ 1 + size_of block = omega arith in e)

  memory_is : list_memory x a 1 ≡ block_mem block (size_of block) x
  unfolding list_memory each
  memory_is = ap (λ (k : Block). block_mem k (size_of k) x) first_is

  -- so it goes idle after exactly the ticks of its load and its bytes, with what the block makes of memory
  pub pointer_ends :
      good_length (length mem) ≡ true → (b : Board) (v : ℕ) → sound_board b ≡ true → b.ports.bladr ≡ a → v % 2 ≡ 1
      → Ends (bench (write_board b 0x53 v) x) (1 + size_of (block_at mem a)) (block_mem (block_at mem a) (size_of (block_at mem a)) x)
  pointer_ends good b v sound at odd =
      subst (λ (t : ℕ). Ends (bench (write_board b 0x53 v) x) t (block_mem block (size_of block) x)) ticks_are
      (subst (λ (m : List ℕ). Ends (bench (write_board b 0x53 v) x) (list_ticks x a 1) m) memory_is
      (subst (λ (y : ℕ). Ends (bench (write_board b 0x53 v) x) (list_ticks x y 1) (list_memory x y 1)) at
      (ends b x 1 v sound (ap good_length s.long ∙ good) odd (subst (λ (y : ℕ). Chain x y 1) (sym at) chain))))

  pub drawn_block : (d : Drawing) → good_length (length mem) ≡ true → ToTheEnd mem a d → drawn d x ≡ block_mem (block_at mem a) (size_of (block_at mem a)) x
  drawn_block d good t = (pointer_ends good d.board d.start t.sound t.address t.odd).memory d.budgets t.small t.enough

-- two drawings, the first of which spares the second's list
in_turn :
    {mem : List ℕ} {a z : ℕ} (d e : Drawing) → Pointer mem a → Pointer mem z → Spares mem a z → ToTheEnd mem a d → ToTheEnd mem z e → good_length (length mem) ≡ true
    → drawn e (drawn d mem) ≡ xors mem z (xors mem a mem)
in_turn {mem = mem} {a = a} {z = z} d e p q spares t u good =
    ap (drawn e) (drawn_block p self d good t)
    ∙ drawn_block q there e good u
    ∙ block_xors mem _ z q there
    ∙ ap (xors mem z) (block_xors mem mem a p self)
  where
    self : Stands mem mem a
    self = stands_self mem a

    there : Stands mem (block_mem (block_at mem a) (size_of (block_at mem a)) mem) z
    there = stands_after spares (stands_self mem z) (size_of (block_at mem a)) (omega arith)

-- where the length is not a board's, every run is refused
never_run : (ns : List ℕ) (s : Bench) → good_length (length s.mem) ≡ false → (runs ns s).mem ≡ s.mem
unfolding runs
never_run [] s bad = refl
never_run (n ∷ ns) s bad = ap (λ (m : List ℕ). (runs ns (bench board m)).mem) same ∙ never_run ns (bench board s.mem) bad
  where
    board : Board
    board = run_board s.board s.mem n

    same : run_memory s.board s.mem n ≡ s.mem
    same = unfold run_memory run_answer in rw bad

never_drawn : (d e : Drawing) (mem : List ℕ) → good_length (length mem) ≡ false → drawn e (drawn d mem) ≡ mem
never_drawn d e mem bad = ap (drawn e) (never_run d.budgets _ bad) ∙ never_run e.budgets _ bad

-- so the length need not be known
either_way : {P : Type 0} (mem : List ℕ) → (good_length (length mem) ≡ true → P) → (good_length (length mem) ≡ false → P) → P
either_way {P = P} mem = by_cond (λ (_ : Bool). P) (good_length (length mem)) true false

pub erases : Erases
erases mem a d e p t u = either_way mem (λ good. in_turn d e p p p.apart t u good ∙ xors_twice mem mem a) (never_drawn d e mem)

pub both_orders : BothOrders
both_orders mem a z d d' e e' p t t' u u' =
    either_way mem
    (λ good.
    in_turn d e p.first p.second p.there t u good
    ∙ xors_swap mem mem a z
    ∙ sym (in_turn e' d' p.second p.first p.back u' t' good))
    (λ bad. never_drawn d e mem bad ∙ sym (never_drawn e' d' mem bad))
