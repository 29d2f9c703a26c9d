-- Document 02, A10: "Over any run, a byte that differs afterwards is the destination, modulo L, of some byte tick of a block as it stood when loaded."
use Rattle.std.specs.Prelude.{◌≡◌, List, ℕ, suc, ◌<◌, length, get_or}
use Rattle.vram.specs.Memory.{place}
use Rattle.block.specs.Block.{block_at, columns_of, rows_of, dest_address}
use Rattle.block.specs.declared.Block.{Block}
use Rattle.blitter.specs.declared.Blitter.{Blitter}
use Rattle.board.specs.Board.{run_memory}
use Rattle.board.specs.declared.Board.{Board}
use Rattle.lists.specs.Bench.{Bench, bench, ran}

-- the blitter before tick t of a run, from 0: as a run of t ticks leaves it
abbrev pub blitter_at : Bench → ℕ → Blitter
blitter_at s t = (ran t s).board.blitter

-- "a block as it stood when loaded", before tick t: held when the run began; read from memory by the tick before, a load tick; or held through it, a byte tick
pub data Loaded (s : Bench) : ℕ → Block → Type 0 where
  held : Loaded s 0 s.board.blitter.block
  read : {t : ℕ} → (blitter_at s t).flags ≡ 1 → Loaded s (suc t) (block_at (ran t s).mem (blitter_at s t).list)
  still : {t : ℕ} {k : Block} → (blitter_at s t).flags ≡ 2 → Loaded s t k → Loaded s (suc t) k

-- "the destination, modulo L, of some byte tick": the blitter's own block, row and column before that tick
pub record Touched (s : Bench) (budget i : ℕ) : Type 0 where
  pub tick : ℕ
  pub early : tick < budget
  pub busy : (blitter_at s tick).flags ≡ 2
  pub loaded : Loaded s tick (blitter_at s tick).block
  pub row_in : (blitter_at s tick).row < rows_of (blitter_at s tick).block
  pub col_in : (blitter_at s tick).col < columns_of (blitter_at s tick).block
  pub there : i ≡ place (length s.mem) (dest_address (blitter_at s tick).block (blitter_at s tick).row (blitter_at s tick).col)

-- "a byte that differs afterwards"
abbrev pub Differs : List ℕ → List ℕ → ℕ → Type 0
Differs mem afterwards i = get_or afterwards i 0 ≡ get_or mem i 0 → ⊥

-- "Over any run": any board, memory and budget, refused or not
abbrev pub Touches : Type 0
Touches = (b : Board) (mem : List ℕ) (budget i : ℕ) → Differs mem (run_memory b mem budget) i → Touched (bench b mem) budget i
