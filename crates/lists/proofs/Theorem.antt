-- Both facts of A10, by the board's promises. Assumes nothing.
use mathlib.Core.Path.{◌≡◌, refl, sym, ap, subst}
use mathlib.Core.Bool.{true}
use mathlib.Core.List.{List}
use Prim.Native.Nat.{ℕ, ◌%◌, ◌≤◌}
use native.Mathlib.Nat.{mod-eq_of_lt}
use lib.Dec.{leb}
use lib.ListN.{length, get_or}
use borrow.Author.Tests.{eq-eqb, leb-true}
use Rattle.refusal.specs.Sheet.{Told, done, refused, unless, kept}
use Rattle.refusal.proofs.Sheet.{passed}
use Rattle.vram.specs.Memory.{good_length}
use Rattle.blitter.specs.State.{started}
use Rattle.blitter.proofs.Sound.{started_sound}
use Rattle.engine.specs.declared.Counts.{Counts}
use Rattle.engine.specs.Run.{run_for, begun, counted}
use Rattle.board.specs.Board.{with_blitter, sound_board, blitter_written, write_board, run_answer, run_memory}
use Rattle.board.specs.Ports.{ports_written}
use Rattle.board.specs.declared.Board.{Board}
use Rattle.board.proofs.Answer.{write_done}
use Rattle.board.proofs.Sound.{Sound, sound_facts}
use Rattle.lists.specs.Bench.{bench}
use Rattle.lists.specs.Touch.{Touched, Differs, Touches}
use Rattle.lists.specs.Ends.{list_ticks, list_memory, Ends, ListEnds}
use Rattle.lists.proofs.Runs.{machine_of, Ready, runs_end}
use Rattle.lists.proofs.Touch.{touched}
use Rattle.lists.proofs.Blocks.{list_ends}

-- a run that was done was not refused, and one that was refused changed nothing
module _ (b : Board) (mem : List ℕ) (n : ℕ) where
  done_ready : (v : Counts) → run_answer b mem n ≡ done v → Ready (bench b mem) × (n ≤ 1000000)
  unfolding run_answer
  done_ready v e =
      let ran = counted (run_for n (begun b.blitter mem)) in
      let one = passed (good_length (length mem)) 1 (unless (sound_board b) 15 (unless (leb n 1000000) 2 ran)) v e in
      let two = passed (sound_board b) 15 (unless (leb n 1000000) 2 ran) v one.1 in
      let three = passed (leb n 1000000) 2 ran v two.1 in
      (record { good = one.0; sound = sound_facts b two.0 }, leb-true n 1000000 three.0)

  refused_same : (number item : ℕ) → run_answer b mem n ≡ refused number item → run_memory b mem n ≡ mem
  unfolding run_memory
  refused_same number item e = ap (λ (t : Told Counts). kept t mem (run_for n (begun b.blitter mem)).mem) e

pub run_touches : Touches
run_touches b mem n i = by (run_answer b mem n) refl
  where
    by : (t : Told Counts) → run_answer b mem n ≡ t → Differs mem (run_memory b mem n) i → Touched (bench b mem) n i
    by (done v) e d = let r = done_ready b mem n v e in touched r.0 n i r.1 d
    by (refused number item) e d = absurd (d (ap (λ (m : List ℕ). get_or m i 0) (refused_same b mem n number item e)))

-- BLITTER_START, by the board's write
abbrev started_board : Board → Board
started_board b = with_blitter (started b.ports.bladr b.blitter) b

pub start_is : (b : Board) (v : ℕ) → sound_board b ≡ true → v % 2 ≡ 1 → started_board b ≡ write_board b 0x53 v
unfolding ports_written blitter_written
start_is b v s odd = (write_done b 0x53 v s refl b.ports (started b.ports.bladr b.blitter) refl (rw (eq-eqb (v % 2) 1 odd))).1

start_ready : (b : Board) (mem : List ℕ) → Sound b → good_length (length mem) ≡ true → Ready (bench (started_board b) mem)
start_ready b mem s good =
    record { good = good; sound = record { ports_in = s.ports_in; blitter_in = started_sound b.ports.bladr b.blitter s.ports_in.bladr_in } }

pub ends : ListEnds
unfolding started
ends b mem m v sound good odd c =
    let s = sound_facts b sound in
    subst (λ (x : Board). Ends (bench x mem) (list_ticks mem b.ports.bladr m) (list_memory mem b.ports.bladr m)) (start_is b v sound odd)
    (runs_end (start_ready b mem s good) (list_ends (machine_of (bench (started_board b) mem)) b.ports.bladr m refl (sym (mod-eq_of_lt s.ports_in.bladr_in)) c))
