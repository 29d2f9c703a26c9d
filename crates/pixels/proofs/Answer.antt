-- The cases of a drawing, one equation each, and what a drawing that is done says of its settings. Assumes nothing.
use mathlib.Core.Path.{◌≡◌, refl, sym, ap}
use mathlib.Core.Bool.{Bool, true, false, ◌&&◌}
use mathlib.Core.List.{List}
use Prim.Native.Nat.{ℕ, ◌<◌}
use lib.Dec.{leb}
use lib.ListN.{length}
use borrow.Author.Tests.{le-leb, lt-leb}
use Rattle.laws.proofs.Choice.{both}
use Rattle.refusal.specs.Sheet.{Told, done, refused, unless}
use Rattle.refusal.proofs.Sheet.{passed}
use Rattle.vram.specs.Memory.{good_length}
use Rattle.board.specs.Board.{sound_board}
use Rattle.board.specs.declared.Board.{Board}
use Rattle.settings.specs.Settings.{sound_settings}
use Rattle.settings.specs.declared.Settings.{Settings}
use Rattle.pixels.specs.Pixels.{line_count}
use Rattle.pixels.specs.Draw.{draw_answer, draw_output}
use Rattle.pixels.proofs.Counts.{count_most}

-- what is told, and what the line holds
pub record Outcome (b : Board) (s : Settings) (mem line : List ℕ) (told : Told ℕ) (after : List ℕ) : Type 0 where
  pub answer : told ≡ draw_answer b s mem (length line)
  pub output : after ≡ draw_output b s mem line

module _ (b : Board) (s : Settings) (mem line : List ℕ) where
  module _ (g : good_length (length mem) ≡ true) where
    module _ (h : sound_board b ≡ true) where
      module _ (k : sound_settings s ≡ true) where
        pub draw_short : length line < line_count s → Outcome b s mem line (refused 17 0) line
        unfolding draw_answer
        draw_short q = let t = lt-leb (line_count s) (length line) q in record { answer = simp (g, h, k, t); output = simp (g, h, k, t) }

-- a drawing that is done has sound settings and their count
pub record Done (s : Settings) (n : ℕ) : Type 0 where
  pub sound : sound_settings s ≡ true
  pub count : line_count s ≡ n

count_one : {m n : ℕ} → done m ≡ done n → m ≡ n
count_one e = cc

pub draw_is_done : (b : Board) (s : Settings) (mem : List ℕ) (room n : ℕ) → draw_answer b s mem room ≡ done n → Done s n
unfolding draw_answer
draw_is_done b s mem room n e =
    let one = passed (good_length (length mem)) 1 _ n e in
    let two = passed (sound_board b && sound_settings s) 15 _ n one.1 in
    let three = passed (leb (line_count s) room) 17 _ n two.1 in
    record { sound = (both (sound_board b) (sound_settings s) two.0).1; count = count_one three.1 }

-- an answer as it is for a line of another length
abbrev pub in_room : ℕ → Told ℕ → Told ℕ
in_room room (done n) = unless (leb n room) 17 (done n)
in_room room (refused number item) = refused number item

-- a line of 672 entries has room for every count: what is told of it decides for a line of any length
pub any_room : (b : Board) (s : Settings) (mem : List ℕ) (room : ℕ) → draw_answer b s mem room ≡ in_room room (draw_answer b s mem 672)
unfolding draw_answer
any_room b s mem room = go (good_length (length mem)) (sound_board b && sound_settings s)
  where
    n : ℕ
    n = line_count s

    go : (g h : Bool) → unless g 1 (unless h 15 (unless (leb n room) 17 (done n))) ≡ in_room room (unless g 1 (unless h 15 (unless (leb n 672) 17 (done n))))
    go true true = sym (ap (λ (t : Bool). in_room room (unless t 17 (done n))) (le-leb n 672 (count_most s.overlay.mode s.look.width)))
    go true false = refl
    go false h = refl
