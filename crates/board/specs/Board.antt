-- Document 01, "Registers" and "The blitter": what each call on a board answers, and the board and memory after it.
use Rattle.std.specs.Prelude.{Bool, false, cond, ◌&&◌, List, ℕ, ◌%◌, eqb, leb, length}
use Rattle.refusal.specs.Sheet.{Told, done, unless, kept}
use Rattle.vram.specs.Memory.{good_length}
use Rattle.blitter.specs.State.{new_blitter, sound_blitter, started, stopped, interrupts}
use Rattle.engine.specs.Tick.{tick_blitter, tick_memory, tick_count}
use Rattle.engine.specs.declared.Counts.{Counts}
use Rattle.engine.specs.Run.{run_for, begun, counted}
use Rattle.blitter.specs.declared.Blitter.{Blitter}
use Rattle.board.specs.declared.Ports.{Ports}
use Rattle.board.specs.declared.Board.{Board}
use Rattle.board.specs.Ports.{new_ports, sound_ports, video_set, among, ports_written}

-- "A new board has every register, flag and state field 0"
abbrev pub new_board : Board
new_board = record { ports = new_ports; blitter = new_blitter }

-- a board with other ports and another blitter, or with another blitter alone: all else stays
abbrev pub changed : Ports → Blitter → Board → Board
changed p t b = record { ports = p; blitter = t }

abbrev pub with_blitter : Blitter → Board → Board
with_blitter t b = changed b.ports t b

unfoldable pub sound_board : Board → Bool
sound_board b = sound_ports b.ports && sound_blitter b.blitter

-- 3 "offset outside 0x40..0x5F"
abbrev pub register : ℕ → Bool
register offset = among 0x40 0x5F offset

-- "Writing bit 0 = 1 to BLITTER_START" starts, "Writing 0" stops; "0x54 IRQ_CONTROL"
unfoldable pub blitter_written : ℕ → ℕ → ℕ → Blitter → Blitter
blitter_written bladr offset v b =
    cond (eqb offset 0x53)
    (cond (eqb (v % 2) 1) (started bladr b) (stopped b))
    (cond (eqb offset 0x54) (interrupts (eqb (v % 2) 1) b) b)

-- writing a register: 15 state, 3 register
unfoldable pub write_answer : Board → ℕ → Told (Unit {0})
write_answer b offset = unless (sound_board b) 15 (unless (register offset) 3 (done tt))

unfoldable pub write_board : Board → ℕ → ℕ → Board
write_board b offset v =
    kept (write_answer b offset) b (changed (ports_written offset v b.ports) (blitter_written b.ports.bladr offset v b.blitter) b)

-- "Reads: 0x40 gives 0x10, 0x41 gives 0x24 .., 0x50 the code, 0x53 the flags, 0x54 IRQF, 0x4A, 0x5E and 0x5F give 0 .., others 255"
unfoldable pub read_byte : Board → ℕ → ℕ
read_byte b offset =
    cond (eqb offset 0x40) 0x10
    (cond (eqb offset 0x41) 0x24
    (cond (eqb offset 0x4A) 0
    (cond (eqb offset 0x50) b.blitter.note.code
    (cond (eqb offset 0x53) b.blitter.flags
    (cond (eqb offset 0x54) (cond b.blitter.irqf 1 0)
    (cond (eqb offset 0x5E) 0
    (cond (eqb offset 0x5F) 0 255)))))))

-- reading a register: 15 state, 3 register
unfoldable pub read_answer : Board → ℕ → Told ℕ
read_answer b offset = unless (sound_board b) 15 (unless (register offset) 3 (done (read_byte b offset)))

-- "Reset clears VIDEO_CONTROL, flags, block, position, IRQE and IRQF; the rest stays"
unfoldable pub reset_answer : Board → Told (Unit {0})
reset_answer b = unless (sound_board b) 15 (done tt)

unfoldable pub reset_board : Board → Board
reset_board b =
    kept (reset_answer b) b (changed (video_set 0 b.ports) (interrupts false (stopped b.blitter)) b)

-- a run, of the blitter alone: 1 board, 15 state, 2 budget
unfoldable pub run_answer : Board → List ℕ → ℕ → Told Counts
run_answer b mem budget =
    unless (good_length (length mem)) 1
    (unless (sound_board b) 15 (unless (leb budget 1000000) 2 (counted (run_for budget (begun b.blitter mem)))))

unfoldable pub run_board : Board → List ℕ → ℕ → Board
run_board b mem budget =
    kept (run_answer b mem budget) b (with_blitter (run_for budget (begun b.blitter mem)).blitter b)

unfoldable pub run_memory : Board → List ℕ → ℕ → List ℕ
run_memory b mem budget = kept (run_answer b mem budget) mem (run_for budget (begun b.blitter mem)).mem

-- one tick: 1 board, 15 state; an idle board does none
unfoldable pub tick_answer : Board → List ℕ → Told Counts
tick_answer b mem =
    unless (good_length (length mem)) 1
    (unless (sound_board b) 15
    (done (record { ticks = cond (eqb b.blitter.flags 0) 0 1; accesses = tick_count b.blitter mem })))

unfoldable pub tick_board : Board → List ℕ → Board
tick_board b mem = kept (tick_answer b mem) b (with_blitter (tick_blitter b.blitter mem) b)

unfoldable pub tick_mem : Board → List ℕ → List ℕ
tick_mem b mem = kept (tick_answer b mem) mem (tick_memory b.blitter mem)
