-- Document 02, A5: what drawing a line tells, and what the lent line holds then.
use Rattle.std.specs.Prelude.{◌&&◌, List, ◌++◌, ℕ, leb, length, drop}
use Rattle.refusal.specs.Sheet.{Told, done, unless, kept}
use Rattle.vram.specs.Memory.{good_length}
use Rattle.board.specs.Board.{sound_board}
use Rattle.board.specs.declared.Board.{Board}
use Rattle.settings.specs.Settings.{sound_settings}
use Rattle.settings.specs.declared.Settings.{Settings}
use Rattle.pixels.specs.Pixels.{line_count, pixel_at, each}

-- "17 when the lent line is shorter than the count, after 1 and 15; the line's settings are tested as a state"
unfoldable pub draw_answer : Board → Settings → List ℕ → ℕ → Told ℕ
draw_answer b s mem room =
    unless (good_length (length mem)) 1
    (unless (sound_board b && sound_settings s) 15
    (unless (leb (line_count s) room) 17 (done (line_count s))))

-- n pixels by f, and "Entries past the count stay"
abbrev pub filled : (ℕ → ℕ) → ℕ → List ℕ → List ℕ
filled f n line = each f 0 n ++ drop n line

abbrev pub draw_output : Board → Settings → List ℕ → List ℕ → List ℕ
draw_output b s mem line =
    kept (draw_answer b s mem (length line)) line (filled (pixel_at mem b.ports.video s) (line_count s) line)
