-- Bytes stay bytes over a tick, over n ticks and over a run: memory's, the block's and the note's. Assumes nothing.
use mathlib.Core.List.{List}
use Prim.Native.Nat.{ℕ}
use native.Mathlib.Omega.{arith}
use Rattle.vram.specs.Memory.{Bytes}
use Rattle.block.specs.Block.{no_side, no_block}
use Rattle.block.specs.declared.Note.{Note}
use Rattle.block.proofs.Byte.{note_bytes, written_bytes}
use Rattle.block.proofs.Bytes.{SideBytes, BlockBytes, NoteBytes, block_bytes}
use Rattle.blitter.specs.declared.Blitter.{Blitter}
use Rattle.engine.specs.Tick.{load_tick, ended, moved_on, byte_tick, tick_blitter, tick_memory}
use Rattle.engine.specs.Run.{Progress, ticked, run_for}
use Rattle.engine.specs.Machine.{Machine, tock, after}
use Rattle.engine.proofs.Runs.{run_keeps}
use Rattle.engine.proofs.Machine.{after_keeps}

-- what a blitter holds in bytes
pub record Held (b : Blitter) : Type 0 where
  pub block_in : BlockBytes b.block
  pub note_in : NoteBytes b.note

-- and with it memory
pub record InBytes (b : Blitter) (mem : List ℕ) : Type 0 where
  pub cells : Bytes mem
  pub held : Held b

none_side_lem : SideBytes no_side
unfolding no_side
none_side_lem = grind arith

pub none_bytes : BlockBytes no_block
unfolding no_block
none_bytes = grind (arith, none_side_lem)

advanced_held : (b : Blitter) (note : Note) → BlockBytes b.block → NoteBytes note → Held (moved_on b note)
unfolding moved_on ended
advanced_held b note k c = grind (arith, none_bytes)

pub tick_bytes_lem : (b : Blitter) (mem : List ℕ) → InBytes b mem → InBytes (tick_blitter b mem) (tick_memory b mem)
unfolding tick_blitter tick_memory load_tick byte_tick
tick_bytes_lem b mem h = grind (arith, block_bytes, written_bytes, note_bytes, advanced_held)

pub after_bytes : (n : ℕ) (s : Machine) → InBytes s.blitter s.mem → InBytes (after n s).blitter (after n s).mem
after_bytes n s = after_keeps (λ (q : Machine). InBytes q.blitter q.mem) (λ q h. unfold tock in tick_bytes_lem q.blitter q.mem h) n s

pub run_bytes_lem : (n : ℕ) (r : Progress) → InBytes r.blitter r.mem → InBytes (run_for n r).blitter (run_for n r).mem
run_bytes_lem n r = run_keeps (λ (q : Progress). InBytes q.blitter q.mem) (λ q h. unfold ticked in tick_bytes_lem q.blitter q.mem h) n r
