-- A block of mode 5 that spares its sources is a sequence of exclusive ors, each with a place and a value that are known beforehand. Assumes nothing.
use mathlib.Core.Path.{◌≡◌, refl, sym, ◌∙◌, ap}
use mathlib.Core.Bool.{Bool, true, false}
use mathlib.Core.List.{List}
use Prim.Native.Nat.{ℕ, ◌+◌, ◌≤◌, ◌<◌}
use native.Mathlib.Omega.{arith}
use lib.ListN.{length, get_or}
use Rattle.laws.proofs.Xor.{xor_at, set_xor, xor_at_twice, xor_at_swap}
use Rattle.vram.specs.Memory.{place}
use Rattle.mode.specs.Mode.{writes_in, value_in}
use Rattle.block.specs.Fold.{each}
use Rattle.block.specs.Block.{block_at, mode_of}
use Rattle.block.specs.Byte.{reads_source, source_by, source_byte, written_by, written, row_at, col_at, size_of, dest_of, source_of, block_mem}
use Rattle.block.specs.declared.Block.{Block}
use Rattle.block.proofs.Byte.{place_length, dest_same, source_same, value_same, block_length, block_other}
use Rattle.block.proofs.Bytes.{block_same}
use Rattle.block.proofs.Fold.{each_same, each_twice, each_swap}
use Rattle.pointer.specs.Pointer.{Spares, Pointer}

-- s of the n-th byte
abbrev pub value_of : List ℕ → Block → ℕ → ℕ
value_of mem k n = source_byte k mem (row_at k n) (col_at k n)

-- one byte of mode 5
xor_byte : (k : Block) (n : ℕ) (mem : List ℕ) → mode_of k ≡ 5 → written k (row_at k n) (col_at k n) mem ≡ xor_at (dest_of mem k n) (value_of mem k n) mem
unfolding written_by dest_of writes_in value_in
xor_byte k n mem five = rw five (set_xor _ _ mem)

-- where no source is read, s does not depend on memory
unread : (x y : List ℕ) (k : Block) (n : ℕ) → reads_source k ≡ false → value_of x k n ≡ value_of y k n
unfolding source_by
unread x y k n e = rw e

-- a memory in which the list at z stands as in another: its block, and what the block makes of its sources
pub record Stands (mem x : List ℕ) (z : ℕ) : Type 0 where
  pub long : length x ≡ length mem
  pub block : block_at x z ≡ block_at mem z
  pub values : (n : ℕ) → n < size_of (block_at mem z) → value_of x (block_at mem z) n ≡ value_of mem (block_at mem z) n

pub stands_self : (mem : List ℕ) (z : ℕ) → Stands mem mem z
stands_self mem z = record { long = refl; block = refl; values = λ n l. refl }

-- it stands after the first bytes of a block that spares it
module _ {mem x : List ℕ} {a z : ℕ} (spares : Spares mem a z) (s : Stands mem x z) (count : ℕ) (few : count ≤ size_of (block_at mem a)) where
  -- the one that draws, and the one that stands
  abbrev k : Block
  k = block_at mem a

  abbrev h : Block
  h = block_at mem z

  abbrev after : List ℕ
  after = block_mem k count x

  long : length after ≡ length x
  long = block_length k x count

  -- a place that is no destination keeps its byte
  keeps : (i : ℕ) → ((n : ℕ) → n < size_of k → dest_of mem k n ≡ i → ⊥) → get_or after i 0 ≡ get_or x i 0
  keeps i none = block_other k x count i (λ n u e. none n (omega arith) (sym (e ∙ dest_same x mem k n s.long)))

  byte : (j : ℕ) → j < 21 → get_or after (place (length after) (z + j)) 0 ≡ get_or x (place (length x) (z + j)) 0
  byte j u =
      ap (λ (i : ℕ). get_or after i 0) (place_length after x (z + j) long)
      ∙ keeps (place (length x) (z + j)) (λ n v e. spares.bytes n j v u (e ∙ place_length x mem (z + j) s.long))

  value : (n : ℕ) → n < size_of h → (r : Bool) → reads_source h ≡ r → value_of after h n ≡ value_of x h n
  value n u true reads =
      value_same after x h n long (keeps (source_of x h n) (λ m v e. spares.sources m n v u reads (e ∙ source_same x mem h n s.long)))
  value n u false reads = unread after x h n reads

  pub stands_after : Stands mem (block_mem (block_at mem a) count x) z
  stands_after =
      record {
        long = long ∙ s.long;
        block = block_same after x z z byte ∙ s.block;
        values = λ n u. value n u (reads_source h) refl ∙ s.values n u;
      }

-- the exclusive ors of the list at a
unfoldable pub xors : List ℕ → ℕ → List ℕ → List ℕ
xors mem a x =
    let k = block_at mem a in
    each (λ n. xor_at (dest_of mem k n) (value_of mem k n)) (size_of k) x

-- they are what its block does wherever it stands
pub block_xors : (mem x : List ℕ) (a : ℕ) → Pointer mem a → Stands mem x a → block_mem (block_at mem a) (size_of (block_at mem a)) x ≡ xors mem a x
unfolding xors block_mem
block_xors mem x a p s = each_same _ _ (size_of k) x (λ n l. xor_byte k n (block_mem k n x) p.mode ∙ known n l)
  where
    k : Block
    k = block_at mem a

    known :
        (n : ℕ) → n < size_of k
        → xor_at (dest_of (block_mem k n x) k n) (value_of (block_mem k n x) k n) (block_mem k n x) ≡ xor_at (dest_of mem k n) (value_of mem k n) (block_mem k n x)
    known n l =
        let t = stands_after p.apart s n (omega arith) in
        λ i. xor_at (dest_same (block_mem k n x) mem k n t.long i) (t.values n l i) (block_mem k n x)

-- done twice they are undone, also where places repeat; and those of two lists change places
pub xors_twice : (mem x : List ℕ) (a : ℕ) → xors mem a (xors mem a x) ≡ x
unfolding xors
xors_twice mem x a = each_twice _ (size_of (block_at mem a)) x (λ n m. xor_at_twice _ _ m) (λ n j m. xor_at_swap _ _ _ _ m)

pub xors_swap : (mem x : List ℕ) (a z : ℕ) → xors mem z (xors mem a x) ≡ xors mem a (xors mem z x)
unfolding xors
xors_swap mem x a z = each_swap _ _ (size_of (block_at mem z)) (size_of (block_at mem a)) x (λ n j m. xor_at_swap _ _ _ _ m)
