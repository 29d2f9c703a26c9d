-- The inner promises of the engine, in the words of a run: nothing here is needed to read what the calls promise.
use Rattle.std.specs.Prelude.{◌≡◌, Bool, true, false, cond, ◌&&◌, List, ◌⊎◌, ℕ, ◌+◌, ◌-◌, ◌*◌, ◌/◌, ◌%◌, ◌≤◌, ◌<◌, eqb, leb, ltb, length}
use Rattle.vram.specs.Memory.{good_length}
use Rattle.step.specs.Step.{across_of, down_of}
use Rattle.block.specs.Block.{zoom_x, zoom_y, pattern_of, columns_of, rows_of, dest_address, source_address}
use Rattle.block.specs.declared.Block.{Block}
use Rattle.block.specs.declared.Note.{Note}
use Rattle.stretch.specs.declared.Stretch.{Stretch}
use Rattle.stretch.specs.Flat.{level_of}
use Rattle.blitter.specs.declared.Blitter.{Blitter}
use Rattle.blitter.specs.State.{sound_blitter, with_work, with_note}
use Rattle.engine.specs.declared.Place.{Place}
use Rattle.engine.specs.declared.Sofar.{Sofar}
use Rattle.engine.specs.Tick.{ended}
use Rattle.engine.specs.Run.{Progress, run_for, progress}

-- a place in a block, with "floor(row/ZY)" and "floor(col/ZX) mod Q", and what those divisions leave
abbrev pub place_at : Block → ℕ → ℕ → Place
place_at b row col =
    record {
      row = row;
      col = col;
      down = row % zoom_y b;
      across = col % zoom_x b;
      sourcerow = row / zoom_y b;
      sourcecol = col / zoom_x b % pattern_of b;
    }

-- a place inside its block
pub record Placed (b : Block) (p : Place) : Type 0 where
  pub at : p ≡ place_at b p.row p.col
  pub row_in : p.row < rows_of b
  pub col_in : p.col < columns_of b

-- one column, not zoomed in y
abbrev pub tall_of : Block → Bool
tall_of b = eqb (columns_of b) 1 && eqb (zoom_y b) 1

-- how much further the source and the destination of the next byte are, inside a stretch
abbrev pub source_step : Block → ℕ
source_step b = cond (tall_of b) (down_of b.source) (cond (eqb (zoom_x b) 1) (across_of b.source) 0)

abbrev pub dest_step : Block → ℕ
dest_step b = cond (tall_of b) (down_of b.dest) (across_of b.dest)

-- k bytes are in reach of a place: a tall block has so many rows left; else the row has so many columns left, and so has the
-- pattern or, zoomed, the source byte
pub record Column (b : Block) (row k : ℕ) : Type 0 where
  pub tall : tall_of b ≡ true
  pub left : row + k ≤ rows_of b

pub record Row (b : Block) (col k : ℕ) : Type 0 where
  pub wide : tall_of b ≡ false
  pub left : col + k ≤ columns_of b
  pub plain : zoom_x b ≡ 1 → col / zoom_x b % pattern_of b + k ≤ pattern_of b
  pub zoomed : (zoom_x b ≡ 1 → ⊥) → col % zoom_x b + k ≤ zoom_x b

abbrev pub Reach : Block → ℕ → ℕ → ℕ → Type 0
Reach b row col k = Column b row k ⊎ Row b col k

-- the row and the column k bytes on
abbrev pub ahead_row : Block → ℕ → ℕ → ℕ
ahead_row b row k = cond (tall_of b) (row + k) row

abbrev pub ahead_col : Block → ℕ → ℕ → ℕ
ahead_col b col k = cond (tall_of b) col (col + k)

-- the row and the column behind so many bytes: the next column, or the first of the next row
abbrev pub after_row : Block → ℕ → ℕ → ℕ → ℕ
after_row b row col k =
    let last = ahead_row b row (k - 1) in
    cond (ltb (ahead_col b col (k - 1) + 1) (columns_of b)) last (last + 1)

abbrev pub after_col : Block → ℕ → ℕ → ℕ
after_col b col k =
    let last = ahead_col b col (k - 1) in
    cond (ltb (last + 1) (columns_of b)) (last + 1) 0

-- the stretches of a block have the steps of flat ones
abbrev pub level_block : Block → Bool
level_block b = level_of b (source_step b) (dest_step b)

-- a stretch of so many bytes
abbrev pub stretch_at : Block → ℕ → ℕ → ℕ → Stretch
stretch_at b row col count =
    record { from = source_address b row col; along = source_step b; to = dest_address b row col; step = dest_step b; count = count }

-- the blitter at a place that a burst has come to, or behind the block's last row
abbrev pub left_at : Blitter → ℕ → ℕ → Note → Blitter
left_at b row col note =
    cond (leb (rows_of b.block) row)
    (ended b note)
    (with_work b.flags b.block row col (with_note note b))

-- a run so far, with its memory, in the words of a run
abbrev pub so_far : Sofar → List ℕ → Progress
so_far r mem = progress r.blitter mem r.counts.ticks r.counts.accesses

-- what a burst is handed: a busy blitter, and budget left
pub record BurstFrom (r : Sofar) (mem : List ℕ) (budget : ℕ) : Type 0 where
  pub board : good_length (length mem) ≡ true
  pub busy : r.blitter.flags ≡ 2
  pub list : r.blitter.list < 524288
  pub row : r.blitter.row < rows_of r.blitter.block
  pub col : r.blitter.col < columns_of r.blitter.block
  pub left : r.counts.ticks < budget
  pub small : budget ≤ 1000000
  pub counted : r.counts.accesses ≤ 21 * r.counts.ticks

-- what it gives: the rest of the budget makes of this what the whole makes of what was handed in
pub record BurstTo (r : Sofar) (mem : List ℕ) (budget : ℕ) (r' : Sofar) (mem' : List ℕ) : Type 0 where
  pub sound : sound_blitter r'.blitter ≡ true
  pub long : length mem' ≡ length mem
  pub further : r.counts.ticks < r'.counts.ticks
  pub within : r'.counts.ticks ≤ budget
  pub counted : r'.counts.accesses ≤ 21 * r'.counts.ticks
  pub same : run_for (budget - r'.counts.ticks) (so_far r' mem') ≡ run_for (budget - r.counts.ticks) (so_far r mem)
