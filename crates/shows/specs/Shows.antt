-- Demand 3: "Every plan that breaks no plan rule, given room, becomes a display list. Put that list at any address of a desk board, point the list
-- register there, switch the list on and start a frame. If memory stays unchanged until the frame ends, each of its 240 lines has exactly the settings
-- the plan means". It is said over what the public calls answer, as their promises define it: compile, install, write, start, next_line.
use Rattle.std.specs.Prelude.{◌≡◌, true, List, ℕ, ◌/◌, ◌%◌, ◌≤◌, ◌<◌, length, take, get_or}
use Rattle.refusal.specs.Sheet.{Told, done, refused}
use Rattle.vram.specs.Memory.{Bytes, good_length, byte_at}
use Rattle.vram.specs.Install.{install_answer, install_memory}
use Rattle.settings.specs.declared.Settings.{Settings}
use Rattle.board.specs.Board.{sound_board, write_board}
use Rattle.board.specs.declared.Board.{Board}
use Rattle.frame.specs.Frame.{start_answer, line_at}
use Rattle.frame.specs.declared.Frame.{Frame}
use Rattle.item.specs.declared.Item.{Item}
use Rattle.plan.specs.Plan.{good, parse}
use Rattle.plan.specs.Xdl.{bytes_of}
use Rattle.plan.specs.Compile.{compile_answer, compile_output}
use Rattle.plan.specs.Meaning.{meaning}

-- "point the list register there": XDL_ADR, byte by byte
abbrev pub pointed : ℕ → Board → Board
pointed address b =
    write_board (write_board (write_board b 0x41 (address % 256)) 0x42 (address / 256 % 256)) 0x43 (address / 65536)

-- "switch the list on and start a frame": a value with bit 0 set to VIDEO_CONTROL
abbrev pub frame_started : ℕ → ℕ → Board → Told Frame
frame_started address video b = start_answer (write_board (pointed address b) 0x40 video)

-- what line k of that frame tells, memory staying unchanged
abbrev pub line_of : Told Frame → List ℕ → ℕ → Told Settings
line_of (done f) mem k = line_at mem f k
line_of (refused number item) mem k = refused number item

-- "each of its 240 lines has exactly the settings the plan means", which are worked out from its items, and their record from the address too
abbrev pub EachLine : List ℕ → List Item → ℕ → ℕ → Board → Type 0
EachLine mem items address video b = (k : ℕ) → k < 240 → line_of (frame_started address video b) mem k ≡ done (meaning items address k)

-- any memory of a board's length, "any address of a desk board", any sound board, any value that switches the list on
pub record Desk (mem : List ℕ) (address video : ℕ) (b : Board) : Type 0 where
  pub bytes : Bytes mem
  pub board : good_length (length mem) ≡ true
  pub at_most : address ≤ 524287
  pub sound : sound_board b ≡ true
  pub on : video % 2 ≡ 1

-- "Every plan that breaks no plan rule, given room": `RulesSuffice` and `RulesNeeded` in plan say which plans these are
pub record Valid (plan out : List ℕ) (items : List Item) : Type 0 where
  pub bytes : Bytes plan
  pub rules : parse plan ≡ good items
  pub room : length (bytes_of items) ≤ length out

-- the list that compiling left in the buffer
abbrev pub list_of : List ℕ → List ℕ → List Item → List ℕ
list_of plan out items = take (length (bytes_of items)) (compile_output plan out)

-- compiling is done, installing is done, and each line shows the plan
pub record Shown (plan out mem : List ℕ) (items : List Item) (address video : ℕ) (b : Board) : Type 0 where
  pub compiled : compile_answer plan (length out) ≡ done (length (bytes_of items))
  pub installed : install_answer mem (list_of plan out items) address ≡ done tt
  pub lines : EachLine (install_memory mem (list_of plan out items) address) items address video b

-- the whole demand
abbrev pub Demand3 : Type 0
Demand3 =
    (plan out mem : List ℕ) (items : List Item) (address video : ℕ) (b : Board) → Valid plan out items → Desk mem address video b
    → Shown plan out mem items address video b

-- memory holds a list from an address on, at (address + i) mod 524,288 mod L
abbrev pub Holds : List ℕ → ℕ → List ℕ → Type 0
Holds mem address list = (i : ℕ) → i < length list → byte_at mem address i ≡ get_or list i 0

-- the same of memory that holds a plan's list, whoever put it there
abbrev pub Held : Type 0
Held =
    (plan mem : List ℕ) (items : List Item) (address video : ℕ) (b : Board) → parse plan ≡ good items → Desk mem address video b
    → Holds mem address (bytes_of items)
    → EachLine mem items address video b
