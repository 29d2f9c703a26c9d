-- What is told of a line of 672 entries decides what is told of one of another length and no report. Assumes nothing.
use mathlib.Core.Path.{◌≡◌, sym, ap, ◌∙◌}
use mathlib.Core.Bool.{Bool}
use mathlib.Core.List.{List, []}
use Prim.Native.Nat.{ℕ, ◌≤◌, ◌<◌}
use borrow.Author.Tests.{le-leb, lt-leb}
use Rattle.refusal.specs.Sheet.{Told, done, refused, unless}
use Rattle.board.specs.declared.Board.{Board}
use Rattle.settings.specs.declared.Settings.{Settings}
use Rattle.pixels.specs.Draw.{draw_answer}
use Rattle.pixels.proofs.Answer.{in_room, any_room}
use Rattle.capi.specs.Calls.{reportable}

module _ (b : Board) (s : Settings) (mem : List ℕ) (room : ℕ) where
  abbrev unreported : Told ℕ
  unreported = reportable 1 [] (draw_answer b s mem room)

  by_672 : (told : Told ℕ) → told ≡ draw_answer b s mem 672 → unreported ≡ reportable 1 [] (in_room room told)
  by_672 told e = ap (reportable 1 []) (any_room b s mem room ∙ ap (in_room room) (sym e))

  pub too_short : (n : ℕ) → done n ≡ draw_answer b s mem 672 → room < n → unreported ≡ refused 17 0
  too_short n e h = by_672 (done n) e ∙ ap (λ (t : Bool). reportable 1 [] (unless t 17 (done n))) (lt-leb n room h)

  pub long_enough : (n : ℕ) → done n ≡ draw_answer b s mem 672 → n ≤ room → unreported ≡ refused 13 0
  long_enough n e h = by_672 (done n) e ∙ ap (λ (t : Bool). reportable 1 [] (unless t 17 (done n))) (le-leb n room h)

  pub refused_too : (number item : ℕ) → refused number item ≡ draw_answer b s mem 672 → unreported ≡ refused number item
  refused_too number item e = by_672 (refused number item) e
