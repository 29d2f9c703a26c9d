-- A board with the memory that is lent to it, and what runs make of both, as the promise of `Board::run` says it.
use Rattle.engine.specs.declared.Counts.{Counts}
use Rattle.std.specs.Prelude.{Bool, true, ◌&&◌, List, [], ◌∷◌, ℕ, ◌+◌, leb}
use Rattle.refusal.specs.Sheet.{Told, done, refused}
use Rattle.board.specs.Board.{run_answer, run_board, run_memory}
use Rattle.board.specs.declared.Board.{Board}

pub record Bench : Type 0 where
  pub board : Board
  pub mem : List ℕ

abbrev pub bench : Board → List ℕ → Bench
bench b mem = record { board = b; mem = mem }

-- one run with a budget
abbrev pub ran : ℕ → Bench → Bench
ran budget s = bench (run_board s.board s.mem budget) (run_memory s.board s.mem budget)

-- the ticks that a run reports; a refused one reports none
abbrev pub ticks_in : Told Counts → ℕ
ticks_in (done c) = c.ticks
ticks_in (refused number item) = 0

-- "across as many runs as wanted", each with its budget; "if nobody writes to the board or memory between them": each begins with what the one before left
unfoldable pub runs : List ℕ → Bench → Bench
runs [] s = s
runs (n ∷ ns) s = runs ns (ran n s)

-- the ticks that they report together
unfoldable pub reported : List ℕ → Bench → ℕ
reported [] s = 0
reported (n ∷ ns) s = ticks_in (run_answer s.board s.mem n) + reported ns (ran n s)

-- their budgets together
unfoldable pub sum : List ℕ → ℕ
sum [] = 0
sum (n ∷ ns) = n + sum ns

-- no budget is refused
unfoldable pub allowed : List ℕ → Bool
allowed [] = true
allowed (n ∷ ns) = leb n 1000000 && allowed ns
