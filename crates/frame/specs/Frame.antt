-- Document 01, "The XDL and its 240 lines", and document 02, A1: a frame, how it starts, and what its next line reports and leaves.
use Rattle.std.specs.Prelude.{◌≡◌, Bool, true, false, cond, ◌&&◌, ◌||◌, List, ℕ, zero, suc, ◌+◌, ◌-◌, ◌<◌, ltb, leb, length}
use Rattle.laws.specs.Bit.{bit}
use Rattle.board.specs.Board.{sound_board}
use Rattle.board.specs.declared.Board.{Board}
use Rattle.record.specs.Parts.{with_settings, repeating}
use Rattle.record.specs.Record.{record_of}
use Rattle.record.specs.declared.Reader.{Reader}
use Rattle.refusal.specs.Sheet.{Told, done, unless, kept}
use Rattle.settings.specs.Settings.{no_record, beginning, sound_settings, advanced, off}
use Rattle.settings.specs.declared.Settings.{Settings}
use Rattle.vram.specs.Memory.{good_length}
use Rattle.frame.specs.declared.Frame.{Frame}

-- "it takes XDL_ADR as the list position and bit 0 of VIDEO_CONTROL, with line and repeat 0 and the list not ended"
abbrev pub start_of : ℕ → ℕ → Frame
start_of address control =
    record {
      reader = record { settings = beginning; position = address; repeat = 0; ended = false };
      line = 0;
      on = bit control 0;
    }

-- frame start: 15 state
unfoldable pub start_answer : Board → Told Frame
start_answer b = unless (sound_board b) 15 (done (start_of b.ports.xdladr b.ports.video))

-- "line at most 240, repeat at most 255", which every byte is; the list position has 19 bits
abbrev pub sound_frame : Frame → Bool
sound_frame f = sound_settings f.reader.settings && ltb f.reader.position 524288 && leb f.line 240

-- "if repeat is above 0, lower it; else, if the list has not ended, read one record"; "When END's record and its repeats are displayed, overlay and map are off"
unfoldable pub fetched : List ℕ → Reader → Reader
fetched mem r =
    cond (ltb 0 r.repeat)
    (repeating (r.repeat - 1) r)
    (cond r.ended (with_settings (off r.settings) r) (record_of mem r))

-- "Not switched on: every line has these", the settings that a frame begins with; else "Report the settings"
unfoldable pub shown : List ℕ → Frame → Settings
shown mem f = cond f.on (fetched mem f.reader).settings beginning

-- "then advance"
abbrev pub advanced_reader : Reader → Reader
advanced_reader r = with_settings (advanced r.settings) r

-- the same frame at another line, with another reader
abbrev pub frame_at : ℕ → Reader → Frame → Frame
frame_at line r f = record { reader = r; line = line; on = f.on }

-- to the next line; a frame that is not switched on only counts the line
unfoldable pub next_frame : List ℕ → Frame → Frame
next_frame mem f =
    frame_at (f.line + 1) (cond f.on (advanced_reader (fetched mem f.reader)) f.reader) f

-- 1 board, 15 state, 4 frame over
abbrev pub line_answer : Frame → List ℕ → Told Settings
line_answer f mem =
    unless (good_length (length mem)) 1 (unless (sound_frame f) 15 (unless (ltb f.line 240) 4 (done (shown mem f))))

abbrev pub line_frame : Frame → List ℕ → Frame
line_frame f mem = kept (line_answer f mem) f (next_frame mem f)

-- the frame after k lines on unchanged memory, and what the line after these reports
unfoldable pub lines_on : List ℕ → Frame → ℕ → Frame
lines_on mem f zero = f
lines_on mem f (suc k) = lines_on mem (line_frame f mem) k

abbrev pub line_at : List ℕ → Frame → ℕ → Told Settings
line_at mem f k = line_answer (lines_on mem f k) mem

-- a repeat and a line below the end read no record
abbrev pub reads_none : Reader → Bool
reads_none r = ltb 0 r.repeat || r.ended

-- A1: the record "that was last read for it". These lines have the one before, which the reader carries; a line that reads one has that one, which begins
-- at the list position
abbrev pub origin_fetched : Reader → ℕ
origin_fetched r = cond (reads_none r) r.settings.origin r.position

-- "and 524,288 where no record has been read in the frame": one that is not switched on reads none
abbrev pub origin_of : Frame → ℕ
origin_of f = cond f.on (origin_fetched f.reader) no_record

-- a line tells it; a frame that is switched on carries it to the next line, one that is not keeps what it holds
pub record OriginGiven (f : Frame) (mem : List ℕ) (s : Settings) : Type 0 where
  pub told : s.origin ≡ origin_of f
  pub carried : (line_frame f mem).reader.settings.origin ≡ cond f.on (origin_of f) f.reader.settings.origin

-- every line that is given, of any frame
abbrev pub OriginTold : Type 0
OriginTold = (f : Frame) (mem : List ℕ) (s : Settings) → line_answer f mem ≡ done s → OriginGiven f mem s

-- "as a 19-bit number": every line that is given, of a frame that was started and is switched on
abbrev pub OriginAddress : Type 0
OriginAddress =
    (b : Board) (f : Frame) (mem : List ℕ) (k : ℕ) (s : Settings) → start_answer b ≡ done f → f.on ≡ true
    → line_at mem f k ≡ done s
    → s.origin < 524288
