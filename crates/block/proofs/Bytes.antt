-- The block that is read: the 21 bytes decide it, and its fields are bytes. Assumes nothing.
use mathlib.Core.Path.{◌≡◌}
use mathlib.Core.List.{List}
use Prim.Native.Nat.{ℕ, ◌<◌}
use native.Mathlib.Omega.{arith}
use Rattle.vram.specs.Memory.{Bytes, byte_at}
use Rattle.step.specs.declared.Side.{Side}
use Rattle.block.specs.Block.{side_at, block_at}
use Rattle.block.specs.Byte.{new_note}
use Rattle.block.specs.declared.Block.{Block}
use Rattle.block.specs.declared.Note.{Note}

-- two memories, or two addresses, that agree on the 21 bytes give the same block
pub block_same : (x y : List ℕ) (a b : ℕ) → ((j : ℕ) → j < 21 → byte_at x a j ≡ byte_at y b j) → block_at x a ≡ block_at y b
unfolding block_at side_at
block_same x y a b same = grind (arith, same)

-- every field is a byte
pub record SideBytes (s : Side) : Type 0 where
  pub adr0 : s.adr0 < 256
  pub adr1 : s.adr1 < 256
  pub adr2 : s.adr2 < 256
  pub y0 : s.y0 < 256
  pub y1 : s.y1 < 256
  pub x : s.x < 256

pub record BlockBytes (b : Block) : Type 0 where
  pub source : SideBytes b.source
  pub dest : SideBytes b.dest
  pub width0 : b.width0 < 256
  pub width1 : b.width1 < 256
  pub height : b.height < 256
  pub andmask : b.andmask < 256
  pub xormask : b.xormask < 256
  pub hitmask : b.hitmask < 256
  pub zoom : b.zoom < 256
  pub pattern : b.pattern < 256
  pub control : b.control < 256

-- and so is a note's
pub record NoteBytes (n : Note) : Type 0 where
  pub code : n.code < 256

pub new_note_bytes : NoteBytes new_note
new_note_bytes = record { code = omega arith }

-- of a memory of bytes
pub block_bytes : (mem : List ℕ) (list : ℕ) → Bytes mem → BlockBytes (block_at mem list)
unfolding block_at side_at
block_bytes mem list bytes = search bytes
