-- Laws of a tick: it keeps soundness and memory's length, and makes at most 21 accesses on load and 3 otherwise. Assumes nothing.
use mathlib.Core.Path.{◌≡◌, refl}
use mathlib.Core.List.{List}
use Prim.Native.Nat.{ℕ, ◌≤◌, ◌<◌}
use native.Mathlib.Omega.{arith}
use lib.ListN.{length}
use Rattle.block.specs.Byte.{struck_at}
use Rattle.block.specs.declared.Note.{Note}
use Rattle.block.proofs.Byte.{written_length, struck_small}
use Rattle.blitter.specs.declared.Blitter.{Blitter}
use Rattle.engine.specs.Tick.{load_tick, busy_at, ended, moved_on, byte_tick, tick_blitter, tick_memory, tick_count}
use Rattle.blitter.proofs.Sound.{Inside, Sound, first_inside, blank_none}

pub tick_length : (b : Blitter) (mem : List ℕ) → length (tick_memory b mem) ≡ length mem
unfolding tick_memory
tick_length b mem = grind (arith, written_length)

-- a byte tick's accesses
byte_few : (b : Blitter) (mem : List ℕ) → (struck_at b.block mem b.row b.col b.note).accesses ≤ 3
byte_few b mem = struck_small b.block _ _ mem b.note

pub tick_small : (b : Blitter) (mem : List ℕ) → tick_count b mem ≤ 21
unfolding tick_count
tick_small b mem = grind (arith, byte_few)

-- 3 where it is no load
pub tick_few : (b : Blitter) (mem : List ℕ) → (b.flags ≡ 1 → ⊥) → tick_count b mem ≤ 3
unfolding tick_count
tick_few b mem n1 = grind (arith, byte_few)

pub load_sound : (b : Blitter) (mem : List ℕ) → Sound (load_tick b mem)
unfolding load_tick
load_sound b mem = record { list_in = omega arith; flags_in = omega arith; busy = λ _. first_inside _; idle = λ n. absurd (n refl) }

pub busy_sound : (b : Blitter) (row col : ℕ) (note : Note) → b.list < 524288 → Inside b.block row col → Sound (busy_at b row col note)
busy_sound b row col note l i = record { list_in = l; flags_in = omega arith; busy = λ _. i; idle = λ n. absurd (n refl) }

pub ended_sound : (b : Blitter) (note : Note) → b.list < 524288 → Sound (ended b note)
unfolding ended
ended_sound b note l = grind (arith, blank_none)

pub advanced_sound : (b : Blitter) (note : Note) → b.list < 524288 → Inside b.block b.row b.col → Sound (moved_on b note)
unfolding moved_on
advanced_sound b note l i = grind (arith, first_inside, busy_sound, ended_sound)

pub tick_sound : (b : Blitter) (mem : List ℕ) → Sound b → Sound (tick_blitter b mem)
unfolding tick_blitter byte_tick
tick_sound b mem s = grind (arith, load_sound, advanced_sound)
