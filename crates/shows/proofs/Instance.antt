-- The theorem at two plans, with every number written out: the plan of document 01's example, and a scrolled text band with a scrolled map and four lines
-- that run on.
-- Memory is 16,384 zeros, the board is new, and the list begins at 524,286, so that it wraps behind two bytes. Assumes nothing.
use mathlib.Core.Path.{◌≡◌, refl}
use mathlib.Core.Bool.{Bool, true, false, ◌&&◌}
use mathlib.Core.List.{List, [], ◌∷◌, ◌++◌}
use Prim.Native.Nat.{ℕ, zero, suc, ◌<◌}
use native.Mathlib.Omega.{arith}
use lib.Dec.{lit<, ltb}
use lib.ListN.{length, replicate, length-replicate}
use borrow.Author.Tests.{ltb-true}
use Rattle.laws.proofs.Choice.{both}
use Rattle.refusal.specs.Sheet.{Told, done}
use Rattle.vram.specs.Memory.{Bytes}
use Rattle.vram.specs.Install.{install_memory}
use Rattle.vram.proofs.Blank.{blank, blank_good}
use Rattle.settings.specs.Settings.{off}
use Rattle.settings.specs.Below.{overlay_below, map_below, settings_below}
use Rattle.settings.specs.declared.Settings.{Settings}
use Rattle.block.specs.Block.{no_side, none_side, no_block, is_none}
use Rattle.blitter.specs.State.{sound_blitter}
use Rattle.board.specs.Board.{new_board, sound_board}
use Rattle.item.specs.Item.{full_at, running_at, sound_full, sound_running, fitted, item_at}
use Rattle.plan.specs.Plan.{good, parse_from, rest, parse, items_of}
use Rattle.plan.specs.Xdl.{full_record, running_record, bytes_of}
use Rattle.plan.specs.Meaning.{full_settings, running_settings, meaning_from, meaning}
use Rattle.shows.specs.Shows.{frame_started, line_of, Desk, Valid, list_of}
use Rattle.shows.proofs.Theorem.{demand_3}

-- bytes that are written out, and zeros
abbrev all_below : List ℕ → Bool
all_below [] = true
all_below (x ∷ l) = ltb x 256 && all_below l

bytes_below : (l : List ℕ) → all_below l ≡ true → Bytes l
bytes_below [] e i = omega arith
bytes_below (x ∷ l) e zero = ltb-true x 256 (both (ltb x 256) (all_below l) e).0
bytes_below (x ∷ l) e (suc i) = bytes_below l (both (ltb x 256) (all_below l) e).1 i

zeros_below : (n : ℕ) → Bytes (replicate n 0)
zeros_below zero i = omega arith
zeros_below (suc n) zero = omega arith
zeros_below (suc n) (suc i) = zeros_below n i

new_sound : sound_board new_board ≡ true
unfolding sound_board sound_blitter is_none none_side no_block no_side
new_sound = refl

-- line k of a plan whose list has n bytes
abbrev line : List ℕ → ℕ → ℕ → Told Settings
line plan n k = line_of (frame_started 524286 1 new_board) (install_memory blank (list_of plan (replicate n 0) (items_of (parse plan))) 524286) k

desk : Desk blank 524286 1 new_board
desk =
    record {
      bytes = zeros_below 16384;
      board = blank_good;
      at_most = omega arith;
      sound = new_sound;
      on = refl;
    }

module _
    (plan : List ℕ) (n : ℕ) (bytes : all_below plan ≡ true) (taken : parse plan ≡ good (items_of (parse plan)))
    (count : length (bytes_of (items_of (parse plan))) ≡ n) where
  valid : Valid plan (replicate n 0) (items_of (parse plan))
  valid = record { bytes = bytes_below plan bytes; rules = taken; room = omega (arith, length-replicate {A = ℕ} n 0) }

  line_is : (k : ℕ) → k < 240 → line plan n k ≡ done (meaning (items_of (parse plan)) 524286 k)
  line_is = (demand_3 plan (replicate n 0) blank (items_of (parse plan)) 524286 1 new_board valid desk).lines

-- "17 00 01 00, 01, seventeen bytes 00, 08 01 01 01 FF"
abbrev example : List ℕ
example = 0x17 ∷ 0 ∷ 1 ∷ 0 ∷ 1 ∷ (replicate 17 0 ++ (8 ∷ 1 ∷ 1 ∷ 1 ∷ 255 ∷ []))

example_taken : (parse example ≡ good (items_of (parse example))) × (length (bytes_of (items_of (parse example))) ≡ 22)
unfolding parse rest parse_from item_at fitted full_at sound_full full_record
example_taken = (refl, refl)

-- everything off, a field of 8 by 1; the list's one record is where the list is
abbrev example_line : Settings
example_line =
    record {
      overlay = record { mode = 0; address = 0; step = 0; hscroll = 0; vscroll = 0; font = 0; counter = 0 };
      map = record { on = false; address = 0; step = 0; hscroll = 0; vscroll = 0; width = 8; height = 1; counter = 0 };
      look = record { width = 1; palette = 1; playfield = 0; priority = 255 };
      origin = 524286;
    }

pub example_first : line example 22 0 ≡ done example_line
unfolding parse rest parse_from item_at fitted full_at sound_full meaning_from full_settings settings_below overlay_below map_below
example_first = line_is example 22 refl example_taken.0 example_taken.1 0 (lit< tt)

pub example_last : line example 22 239 ≡ done example_line
unfolding parse rest parse_from item_at fitted full_at sound_full meaning_from full_settings settings_below overlay_below map_below off
example_last = line_is example 22 refl example_taken.0 example_taken.1 239 (lit< tt)

-- twelve lines of text from 524,272 on, 40 bytes a row, scrolled by 2 lines; a map from 1,000 on with fields 5 lines high, 80 bytes a row, scrolled by 7,
-- which is 2 lines of a field; then four lines that run on, with another vscroll
abbrev rows : List ℕ
rows =
    0x17 ∷ 0 ∷ 1 ∷ 0
    ∷ 12 ∷ 1 ∷ 240 ∷ 255 ∷ 7 ∷ 40 ∷ 0 ∷ 1 ∷ 2 ∷ 3 ∷ 1 ∷ 232 ∷ 3 ∷ 0 ∷ 80 ∷ 0 ∷ 4 ∷ 7 ∷ 9 ∷ 5 ∷ 2 ∷ 7 ∷ 99
    ∷ 7 ∷ 0 ∷ 2 ∷ 0
    ∷ 4 ∷ 6 ∷ 7 ∷ 8 ∷ 0 ∷ 14 ∷ 33
    ∷ []

rows_taken : (parse rows ≡ good (items_of (parse rows))) × (length (bytes_of (items_of (parse rows))) ≡ 30)
unfolding parse rest parse_from item_at fitted full_at sound_full running_at sound_running full_record running_record
rows_taken = (refl, refl)

-- line 14 runs on: 16 lines below where the rows start, so row 2 of text, line 0 of it; row 3 of the map, line 1 of it; the second record, 22 bytes behind
-- 524,286, is at 20
pub rows_running : line rows 30 14 ≡ done (record {
  overlay = record { mode = 1; address = 64; step = 40; hscroll = 6; vscroll = 7; font = 8; counter = 0 };
  map = record { on = true; address = 1240; step = 80; hscroll = 4; vscroll = 7; width = 9; height = 5; counter = 1 };
  look = record { width = 0; palette = 2; playfield = 3; priority = 33 };
  origin = 20;
})
unfolding parse rest parse_from item_at fitted full_at sound_full running_at sound_running meaning_from full_settings running_settings settings_below overlay_below map_below
rows_running = line_is rows 30 refl rows_taken.0 rows_taken.1 14 (lit< tt)

-- below the plan: off, and the rest held as 16 lines left it
pub rows_below : line rows 30 239 ≡ done (record {
  overlay = record { mode = 0; address = 64; step = 40; hscroll = 6; vscroll = 7; font = 8; counter = 2 };
  map = record { on = false; address = 1240; step = 80; hscroll = 4; vscroll = 7; width = 9; height = 5; counter = 3 };
  look = record { width = 0; palette = 2; playfield = 3; priority = 33 };
  origin = 20;
})
unfolding parse rest parse_from item_at fitted full_at sound_full running_at sound_running meaning_from full_settings running_settings settings_below overlay_below map_below off
rows_below = line_is rows 30 refl rows_taken.0 rows_taken.1 239 (lit< tt)
