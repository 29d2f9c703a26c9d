-- The list register pointed at an address, the list switched on and a frame started: whatever the sound board was, the frame begins at that address
-- and is switched on. Assumes nothing.
use mathlib.Core.Path.{◌≡◌, refl, sym, ap, ◌∙◌}
use mathlib.Core.Bool.{true}
use mathlib.Core.List.{[], ◌∷◌}
use Prim.Native.Nat.{ℕ, ◌+◌, ◌*◌, ◌/◌, ◌%◌, ◌≤◌, ◌<◌}
use native.Mathlib.Nat.{mod-lt}
use native.Mathlib.Omega.{arith}
use lib.Dec.{ltb}
use borrow.Author.Tests.{lt-ltb, eq-eqb}
use Rattle.laws.proofs.Choice.{both, each_test}
use Rattle.laws.specs.Bit.{bit}
use Rattle.refusal.specs.Sheet.{done}
use Rattle.blitter.specs.State.{sound_blitter}
use Rattle.board.specs.Ports.{sound_ports, video_set, xdladr_set, byte_set, ports_written}
use Rattle.board.specs.Board.{changed, sound_board, blitter_written, write_board}
use Rattle.board.specs.declared.Board.{Board}
use Rattle.board.proofs.Answer.{write_done}
use Rattle.frame.specs.Frame.{start_of, start_answer}
use Rattle.shows.specs.Shows.{pointed, frame_started}

-- the same board with another list register, and with another VIDEO_CONTROL
abbrev listing : ℕ → Board → Board
listing a b = changed (xdladr_set a b.ports) b.blitter b

abbrev showing : ℕ → Board → Board
showing v b = changed (video_set v b.ports) b.blitter b

-- what is sound of a board, beside its list register
record Fits (b : Board) : Type 0 where
  video : ltb b.ports.video 16 ≡ true
  list : ltb b.ports.xdladr 524288 ≡ true
  blocks : ltb b.ports.bladr 524288 ≡ true
  blitter : sound_blitter b.blitter ≡ true

fits : (b : Board) → sound_board b ≡ true → Fits b
unfolding sound_board
fits b e =
    let p = both (sound_ports b.ports) (sound_blitter b.blitter) e in
    let q = each_test (ltb b.ports.video 16) (ltb b.ports.xdladr 524288 ∷ ltb b.ports.bladr 524288 ∷ []) p.0 in
    record { video = q.0; list = q.1.0; blocks = q.1.1.0; blitter = p.1 }

sound_listing : (b : Board) (a : ℕ) → sound_board b ≡ true → a < 524288 → sound_board (listing a b) ≡ true
unfolding sound_board
sound_listing b a s h = let f = fits b s in simp (f.video, lt-ltb a 524288 h, f.blocks, f.blitter)

sound_showing : (b : Board) (v : ℕ) → sound_board b ≡ true → v < 16 → sound_board (showing v b) ≡ true
unfolding sound_board
sound_showing b v s h = let f = fits b s in simp (lt-ltb v 16 h, f.list, f.blocks, f.blitter)

-- one write to each of the four registers
module _ (b : Board) (v : ℕ) (s : sound_board b ≡ true) where
  low_written : write_board b 0x41 v ≡ listing (byte_set b.ports.xdladr 0 v) b
  unfolding ports_written blitter_written
  low_written = sym (write_done b 0x41 v s refl _ _ refl refl).1

  middle_written : write_board b 0x42 v ≡ listing (byte_set b.ports.xdladr 1 v) b
  unfolding ports_written blitter_written
  middle_written = sym (write_done b 0x42 v s refl _ _ refl refl).1

  high_written : write_board b 0x43 v ≡ listing (byte_set b.ports.xdladr 2 v) b
  unfolding ports_written blitter_written
  high_written = sym (write_done b 0x43 v s refl _ _ refl refl).1

  video_written : write_board b 0x40 v ≡ showing (v % 16) b
  unfolding ports_written blitter_written
  video_written = sym (write_done b 0x40 v s refl _ _ refl refl).1

-- the low and the middle byte of a number of three bytes
low_of : (l m h : ℕ) → l < 256 → (l + 256 * m + 65536 * h) % 256 ≡ l
low_of l m h p = omega arith

middle_of : (l m h : ℕ) → l < 256 → m < 256 → (l + 256 * m + 65536 * h) / 256 % 256 ≡ m
middle_of l m h p q = omega arith

-- the three bytes of an address, written over any other
module _ (x a : ℕ) (h : a ≤ 524287) where
  abbrev x1 : ℕ
  x1 = byte_set x 0 (a % 256)

  abbrev x2 : ℕ
  x2 = byte_set x1 1 (a / 256 % 256)

  x1_fits : x1 < 524288
  x1_fits = omega arith

  x2_fits : x2 < 524288
  x2_fits = omega arith

  whole : byte_set x2 2 (a / 65536) ≡ a
  whole =
      let first : x1 % 256 ≡ a % 256 = low_of (a % 256) (x / 256 % 256) (x / 65536 % 8 % 8) (mod-lt a (omega arith)) in
      let low : x2 % 256 ≡ x1 % 256 = low_of (x1 % 256) (a / 256 % 256) (x1 / 65536 % 8 % 8) (mod-lt x1 (omega arith)) in
      let middle : x2 / 256 % 256 ≡ a / 256 % 256 = middle_of (x1 % 256) (a / 256 % 256) (x1 / 65536 % 8 % 8) (mod-lt x1 (omega arith)) (mod-lt (a / 256) (omega arith)) in
      bytes_of (x2 % 256) (x2 / 256 % 256) (low ∙ first) middle
    where
      bytes_of : (l m : ℕ) → l ≡ a % 256 → m ≡ a / 256 % 256 → l + 256 * m + 65536 * (a / 65536 % 8) ≡ a
      bytes_of l m p q = omega arith

module _ (b : Board) (a : ℕ) (s : sound_board b ≡ true) (h : a ≤ 524287) where
  abbrev x : ℕ
  x = b.ports.xdladr

  pub pointed_is : pointed a b ≡ listing a b
  pointed_is =
      let one = low_written b (a % 256) s in
      let two = middle_written (listing (x1 x a h) b) (a / 256 % 256) (sound_listing b (x1 x a h) s (x1_fits x a h)) in
      let three = high_written (listing (x2 x a h) b) (a / 65536) (sound_listing b (x2 x a h) s (x2_fits x a h)) in
      ap (λ (c : Board). write_board (write_board c 0x42 (a / 256 % 256)) 0x43 (a / 65536)) one
      ∙ (ap (λ (c : Board). write_board c 0x43 (a / 65536)) two
      ∙ (three
      ∙ ap (λ (y : ℕ). listing y b) (whole x a h)))

start_done : (b : Board) → sound_board b ≡ true → start_answer b ≡ done (start_of b.ports.xdladr b.ports.video)
unfolding start_answer
start_done b s = simp s

switched_on : (v : ℕ) → v % 2 ≡ 1 → bit (v % 16) 0 ≡ true
switched_on v e = eq-eqb (v % 16 / 1 % 2) 1 (omega arith)

-- a value with bit 0 set starts the frame that 1 starts
pub started_is : (b : Board) (a v : ℕ) → sound_board b ≡ true → a ≤ 524287 → v % 2 ≡ 1 → frame_started a v b ≡ done (start_of a 1)
started_is b a v s h on =
    let c = listing a b in
    let t : sound_board c ≡ true = sound_listing b a s (omega arith) in
    ap (λ (d : Board). start_answer (write_board d 0x40 v)) (pointed_is b a s h)
    ∙ (ap start_answer (video_written c v t)
    ∙ (start_done (showing (v % 16) c) (sound_showing c (v % 16) t (mod-lt v (omega arith)))
    ∙ simp (switched_on v on)))
