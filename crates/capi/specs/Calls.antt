-- include/deskboard.h: what each call returns, and what it leaves in the words and in the memory that are lent to it.
use Rattle.engine.specs.declared.Counts.{Counts}
use Rattle.std.specs.Prelude.{List, [], ◌∷◌, ℕ, ◌+◌, ◌*◌, leb, length}
use Rattle.refusal.specs.Sheet.{Told, done, refused, unless, kept}
use Rattle.vram.specs.Memory.{good_length}
use Rattle.board.specs.Board.{new_board, sound_board, write_answer, write_board, read_answer, reset_answer, reset_board, run_answer, run_board, run_memory, tick_answer, tick_board, tick_mem}
use Rattle.board.specs.declared.Board.{Board}
use Rattle.settings.specs.declared.Settings.{Settings}
use Rattle.frame.specs.declared.Frame.{Frame}
use Rattle.frame.specs.Frame.{line_answer, line_frame, start_answer}
use Rattle.pixels.specs.Draw.{draw_answer, draw_output}
use Rattle.plan.specs.Compile.{compile_answer, compile_output}
use Rattle.words.specs.Words.{laid}
use Rattle.boardwords.specs.Board.{board_size, board_of, board_words, board_fits}
use Rattle.framewords.specs.Frame.{settings_size, frame_size, settings_of, settings_words, settings_fits, frame_of, frame_words, frame_fits}

-- "0 where it was done, else the number of its refusal plus 256 times the item"
abbrev pub number_told : {X : Type 0} → Told X → ℕ
number_told (done v) = 0
number_told (refused number item) = number + 256 * item

-- where it was done its values are laid over what is lent; "A refused call changes nothing that was lent to it"
abbrev pub report_laid : {X : Type 0} → (X → List ℕ) → Told X → List ℕ → List ℕ
report_laid words (done v) old = laid (words v) old
report_laid words (refused number item) old = old

-- "A state's buffer that is shorter than the state is refusal 15"
abbrev pub whole : {X : Type 0} → ℕ → List ℕ → Told X → Told X
whole n words rest = unless (leb n (length words)) 15 rest

-- "A report that is too short is refusal 13, tested last; so are settings that a call writes to": after all else
abbrev pub reportable : {X : Type 0} → ℕ → List ℕ → Told X → Told X
reportable n report (done v) = unless (leb n (length report)) 13 (done v)
reportable n report (refused number item) = refused number item

-- "A new board: refusal 15."
unfoldable pub new_call : List ℕ → Told (Unit {0})
new_call board = whole board_size board (done tt)

abbrev pub new_words : List ℕ → List ℕ
new_words board = kept (new_call board) board (laid (board_words new_board) board)

-- "Writes a register, offsets 0x40 to 0x5F: refusals 15, 3."
unfoldable pub write_call : List ℕ → ℕ → Told (Unit {0})
write_call board offset =
    whole board_size board (unless (board_fits board) 15 (write_answer (board_of board) offset))

abbrev pub write_words : List ℕ → ℕ → ℕ → List ℕ
write_words board offset v = kept (write_call board offset) board (laid (board_words (write_board (board_of board) offset v)) board)

-- "Reads one: refusals 15, 3, 13. The value goes to report[0]."
unfoldable pub read_call : List ℕ → ℕ → List ℕ → Told ℕ
read_call board offset report =
    reportable 1 report
    (whole board_size board (unless (board_fits board) 15 (read_answer (board_of board) offset)))

abbrev pub read_report : List ℕ → ℕ → List ℕ → List ℕ
read_report board offset report = report_laid (λ v. v ∷ []) (read_call board offset report) report

-- "RESET: refusal 15."
unfoldable pub reset_call : List ℕ → Told (Unit {0})
reset_call board = whole board_size board (unless (board_fits board) 15 (reset_answer (board_of board)))

abbrev pub reset_words : List ℕ → List ℕ
reset_words board = kept (reset_call board) board (laid (board_words (reset_board (board_of board))) board)

-- "report[0] is ticks done, report[1] accesses made"
abbrev pub count_words : Counts → List ℕ
count_words n = n.ticks ∷ n.accesses ∷ []

-- "One tick: refusals 1, 15, 13."
unfoldable pub tick_call : List ℕ → List ℕ → List ℕ → Told Counts
tick_call board mem report =
    reportable 2 report
    (unless (good_length (length mem)) 1
    (whole board_size board (unless (board_fits board) 15 (tick_answer (board_of board) mem))))

abbrev pub tick_words : List ℕ → List ℕ → List ℕ → List ℕ
tick_words board mem report = kept (tick_call board mem report) board (laid (board_words (tick_board (board_of board) mem)) board)

abbrev pub tick_bytes : List ℕ → List ℕ → List ℕ → List ℕ
tick_bytes board mem report = kept (tick_call board mem report) mem (tick_mem (board_of board) mem)

abbrev pub tick_report : List ℕ → List ℕ → List ℕ → List ℕ
tick_report board mem report = report_laid count_words (tick_call board mem report) report

-- "A run: refusals 1, 15, 2, 13."
unfoldable pub run_call : List ℕ → List ℕ → ℕ → List ℕ → Told Counts
run_call board mem budget report =
    reportable 2 report
    (unless (good_length (length mem)) 1
    (whole board_size board (unless (board_fits board) 15 (run_answer (board_of board) mem budget))))

-- what is left of it where the memory is good, the words fit and the report is too short: it is done in no case
abbrev pub run_unreported : Board → ℕ → Told Counts
run_unreported b budget = unless (sound_board b) 15 (unless (leb budget 1000000) 2 (refused 13 0))

abbrev pub run_words : List ℕ → List ℕ → ℕ → List ℕ → List ℕ
run_words board mem budget report =
    kept (run_call board mem budget report) board (laid (board_words (run_board (board_of board) mem budget)) board)

abbrev pub run_bytes : List ℕ → List ℕ → ℕ → List ℕ → List ℕ
run_bytes board mem budget report = kept (run_call board mem budget report) mem (run_memory (board_of board) mem budget)

abbrev pub run_report : List ℕ → List ℕ → ℕ → List ℕ → List ℕ
run_report board mem budget report = report_laid count_words (run_call board mem budget report) report

-- "Frame start: refusal 15. Makes a frame from a board."
unfoldable pub start_call : List ℕ → List ℕ → Told Frame
start_call board frame =
    whole board_size board
    (whole frame_size frame (unless (board_fits board) 15 (start_answer (board_of board))))

abbrev pub start_words : List ℕ → List ℕ → List ℕ
start_words board frame = report_laid frame_words (start_call board frame) frame

-- "The next line: refusals 1, 15, 4, 13. The frame goes on, and the line's settings go to settings[0..19]."
unfoldable pub line_call : List ℕ → List ℕ → List ℕ → Told Settings
line_call frame mem settings =
    reportable settings_size settings
    (unless (good_length (length mem)) 1
    (whole frame_size frame (unless (frame_fits frame) 15 (line_answer (frame_of frame) mem))))

abbrev pub line_words : List ℕ → List ℕ → List ℕ → List ℕ
line_words frame mem settings = kept (line_call frame mem settings) frame (laid (frame_words (line_frame (frame_of frame) mem)) frame)

abbrev pub line_settings : List ℕ → List ℕ → List ℕ → List ℕ
line_settings frame mem settings = report_laid settings_words (line_call frame mem settings) settings

-- "Draws a line: refusals 1, 15, 17, 13. The number of pixels goes to report[0]"
unfoldable pub draw_call : List ℕ → List ℕ → List ℕ → ℕ → List ℕ → Told ℕ
draw_call board settings mem room report =
    reportable 1 report
    (unless (good_length (length mem)) 1
    (whole board_size board
    (unless (board_fits board) 15
    (whole settings_size settings
    (unless (settings_fits settings) 15 (draw_answer (board_of board) (settings_of settings) mem room))))))

abbrev pub draw_line : List ℕ → List ℕ → List ℕ → List ℕ → List ℕ → List ℕ
draw_line board settings mem line report =
    kept (draw_call board settings mem (length line) report) line (draw_output (board_of board) (settings_of settings) mem line)

abbrev pub draw_report : List ℕ → List ℕ → List ℕ → ℕ → List ℕ → List ℕ
draw_report board settings mem room report = report_laid (λ n. n ∷ []) (draw_call board settings mem room report) report

-- "Compiles a plan: refusals 6, 5, 7 to 11, 13. The number of bytes goes to report[0]."
unfoldable pub compile_call : List ℕ → ℕ → List ℕ → Told ℕ
compile_call plan room report = reportable 1 report (compile_answer plan room)

abbrev pub compile_bytes : List ℕ → List ℕ → List ℕ → List ℕ
compile_bytes plan out report = kept (compile_call plan (length out) report) out (compile_output plan out)

abbrev pub compile_report : List ℕ → ℕ → List ℕ → List ℕ
compile_report plan room report = report_laid (λ n. n ∷ []) (compile_call plan room report) report
