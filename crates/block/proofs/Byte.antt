-- One destination byte of a block in memory, and the first k bytes: what they leave as it was, and how large they are. Assumes nothing.
use mathlib.Core.Path.{◌≡◌, refl, ap, ◌∙◌}
use mathlib.Core.Bool.{cond}
use mathlib.Core.List.{List}
use Prim.Native.Nat.{ℕ, zero, suc, ◌≤◌, ◌<◌}
use native.Mathlib.Omega.{arith}
use lib.Bits.{and_lt, xor_lt}
use lib.ListN.{length, get_or, set}
use Rattle.std.proofs.lemmas.Grind.{common_steps}
use Rattle.vram.specs.Memory.{Bytes, place, cell_at}
use Rattle.mode.proofs.Laws.{value_small, code_small, accesses_small}
use Rattle.mode.specs.Mode.{stroke_of}
use Rattle.block.specs.Fold.{each}
use Rattle.block.specs.Block.{mode_of}
use Rattle.block.specs.Byte.{reads_source, source_by, source_byte, stroke_by, written_by, written, struck_by, struck_at, row_at, col_at, dest_of, source_of, block_mem, block_note}
use Rattle.block.specs.declared.Block.{Block}
use Rattle.block.specs.declared.Note.{Note}
use Rattle.block.proofs.Bytes.{NoteBytes}
use Rattle.block.proofs.Fold.{each_keeps}

-- a place depends on the length alone, and so do a destination's and a source's
pub place_length : (x y : List ℕ) (a : ℕ) → length x ≡ length y → place (length x) a ≡ place (length y) a
place_length x y a e = ap (λ (l : ℕ). place l a) e

module _ (x y : List ℕ) (b : Block) (n : ℕ) (long : length x ≡ length y) where
  pub dest_same : dest_of x b n ≡ dest_of y b n
  unfolding dest_of
  dest_same = rw long

  pub source_same : source_of x b n ≡ source_of y b n
  unfolding source_of
  source_same = rw long

  -- and s depends on the byte there
  pub value_same : get_or x (source_of y b n) 0 ≡ get_or y (source_of y b n) 0 → source_byte b x (row_at b n) (col_at b n) ≡ source_byte b y (row_at b n) (col_at b n)
  unfolding source_by source_of
  value_same h = rw (long, h)

-- a byte put into a list of bytes
set_byte : (m : List ℕ) (p v i : ℕ) → Bytes m → v < 256 → get_or (set m p v) i 0 < 256
set_byte m p v i bytes h = grind (arith, common_steps, bytes i)

-- a source's access
pub read_small : (b : Block) → cond (reads_source b) 1 0 ≤ 1
read_small b = grind arith

module _ (b : Block) (from to : ℕ) (mem : List ℕ) where
  pub written_length : length (written_by b from to mem) ≡ length mem
  unfolding written_by
  written_length = grind (arith, common_steps)

  -- a place that is not the destination's keeps its byte
  pub written_other : (i : ℕ) → (i ≡ place (length mem) to → ⊥) → get_or (written_by b from to mem) i 0 ≡ get_or mem i 0
  unfolding written_by
  written_other i h = grind (arith, common_steps)

  -- a byte tick has at most 3 accesses
  pub struck_small : (note : Note) → (struck_by b mem from to note).accesses ≤ 3
  unfolding struck_by stroke_by stroke_of
  struck_small note = omega (arith, read_small b, accesses_small (mode_of b) b.hitmask (source_by b mem from))

  module _ (bytes : Bytes mem) where
    source_byte_lem : b.andmask < 256 → b.xormask < 256 → source_by b mem from < 256
    unfolding source_by
    source_byte_lem h k = xor_lt 8 _ b.xormask (and_lt 8 _ b.andmask (grind (arith, bytes)) h) k

    -- memory stays one of bytes
    pub written_bytes : b.andmask < 256 → b.xormask < 256 → Bytes (written_by b from to mem)
    unfolding written_by
    written_bytes h k i =
        let v = value_small (mode_of b) _ (cell_at mem to) (source_byte_lem h k) (bytes _) in
        grind (arith, bytes i, set_byte mem (place (length mem) to) _ i bytes v)

    -- and the note one of bytes
    pub note_bytes : (note : Note) → NoteBytes note → NoteBytes (struck_by b mem from to note).note
    unfolding struck_by stroke_by stroke_of
    note_bytes note h = record { code = code_small (mode_of b) b.hitmask _ (cell_at mem to) note.code (bytes _) h.code }

-- the first k bytes
module _ (b : Block) (mem : List ℕ) where
  pub block_none : block_mem b 0 mem ≡ mem
  unfolding block_mem each
  block_none = refl

  pub block_next : (k : ℕ) → block_mem b (suc k) mem ≡ written b (row_at b k) (col_at b k) (block_mem b k mem)
  unfolding block_mem each
  block_next k = refl

  pub note_none : (note : Note) → block_note b 0 mem note ≡ note
  unfolding block_note each
  note_none note = refl

  pub note_next : (k : ℕ) (note : Note) → block_note b (suc k) mem note ≡ (struck_at b (block_mem b k mem) (row_at b k) (col_at b k) (block_note b k mem note)).note
  unfolding block_note each
  note_next k note = refl

  pub block_length : (k : ℕ) → length (block_mem b k mem) ≡ length mem
  unfolding block_mem
  block_length k = each_keeps (λ (m : List ℕ). length m ≡ length mem) _ k mem (λ n x l e. written_length b _ _ x ∙ e) refl

  -- a place that none of their destinations falls on keeps its byte
  pub block_other : (k i : ℕ) → ((n : ℕ) → n < k → i ≡ dest_of mem b n → ⊥) → get_or (block_mem b k mem) i 0 ≡ get_or mem i 0
  unfolding block_mem each dest_of
  block_other zero i h = refl
  block_other (suc k) i h =
      let there = dest_same (block_mem b k mem) mem b k (block_length k) in
      written_other b _ _ (block_mem b k mem) i (λ e. h k (omega arith) (e ∙ there)) ∙ block_other k i (λ n l. h n (omega arith))
