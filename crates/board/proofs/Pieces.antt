-- A board's run in two pieces is one run: the board, memory and counts, by the public answers. Assumes nothing.
use mathlib.Core.Path.{◌≡◌, refl, sym, ap, subst, ◌∙◌}
use mathlib.Core.Bool.{true}
use mathlib.Core.List.{List}
use Prim.Native.Nat.{ℕ, ◌+◌, ◌≤◌}
use lib.ListN.{length}
use Rattle.vram.specs.Memory.{good_length}
use Rattle.engine.specs.Run as blit
use Rattle.blitter.specs.declared.Blitter.{Blitter}
use Rattle.engine.proofs.Pieces.{Taken, added, pieces_blitter, pieces_memory, pieces_answer}
use Rattle.board.specs.declared.Board.{Board}
use Rattle.board.specs.Board.{with_blitter, run_answer, run_board, run_memory}
use Rattle.board.proofs.Answer.{Gives, as_blitter}
use Rattle.board.proofs.Sound.{Sound, ports_test, run_board_sound, run_board_length}

-- a board's run gives what the blitter's run from x and m gives
abbrev pub Same : Board → List ℕ → ℕ → Board → List ℕ → Type 0
Same b mem n x m =
    Gives b mem n (blit.engine_answer x.blitter m n) (with_blitter (blit.engine_blitter x.blitter m n) x) (blit.engine_memory x.blitter m n)

-- past the refusals 1 and 15, from its own
pub run_is : (b : Board) (mem : List ℕ) (n : ℕ) → good_length (length mem) ≡ true → Sound b → Same b mem n b mem
run_is b mem n good sound = as_blitter b mem n good (ports_test b.ports sound.ports_in) _ _ _ refl refl refl

module _ (b : Board) (mem : List ℕ) (m n : ℕ) (good : good_length (length mem) ≡ true) (sound : Sound b) (small : m + n ≤ 1000000) where
  taken : Taken b.blitter mem (m + n)
  taken = record { good = good; sound = sound.blitter_in; small = small }

  first : Same b mem m b mem
  first = run_is b mem m good sound

  second : Same (run_board b mem m) (run_memory b mem m) n (with_blitter (blit.engine_blitter b.blitter mem m) b) (blit.engine_memory b.blitter mem m)
  second =
      let then = run_is (run_board b mem m) (run_memory b mem m) n (ap good_length (run_board_length b mem m) ∙ good) (run_board_sound b mem m sound) in
      subst (Same (run_board b mem m) (run_memory b mem m) n (with_blitter (blit.engine_blitter b.blitter mem m) b)) (sym first.1.1)
      (subst (λ (x : Board). Same (run_board b mem m) (run_memory b mem m) n x (run_memory b mem m)) (sym first.1.0) then)

  whole : Same b mem (m + n) b mem
  whole = run_is b mem (m + n) good sound

  pub run_pieces_board : run_board (run_board b mem m) (run_memory b mem m) n ≡ run_board b mem (m + n)
  run_pieces_board =
      sym second.1.0 ∙ ap (λ (x : Blitter). with_blitter x b) (pieces_blitter m n taken) ∙ whole.1.0

  pub run_pieces_memory : run_memory (run_board b mem m) (run_memory b mem m) n ≡ run_memory b mem (m + n)
  run_pieces_memory = sym second.1.1 ∙ pieces_memory m n taken ∙ whole.1.1

  pub run_pieces_answer : run_answer b mem (m + n) ≡ added (run_answer b mem m) (run_answer (run_board b mem m) (run_memory b mem m) n)
  run_pieces_answer = sym whole.0 ∙ pieces_answer m n taken ∙ (λ i. added (first.0 i) (second.0 i))
