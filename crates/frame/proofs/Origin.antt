-- Which record made a line that is given, and that it has an address of 19 bits. Assumes nothing.
use mathlib.Core.Path.{◌≡◌, refl, sym, ap, ◌∙◌, subst}
use mathlib.Core.Bool.{Bool, true, false, cond}
use mathlib.Core.List.{List}
use mathlib.Core.Logic.{◌⊎◌, inl, inr, ⊎_elim}
use Prim.Native.Nat.{ℕ, zero, suc, ◌<◌}
use native.Mathlib.Omega.{arith}
use lib.Dec.{ltb}
use lib.ListN.{length}
use borrow.Author.Tests.{ltb-true, ltb-false}
use Rattle.laws.proofs.Choice.{by_cond, true_false}
use Rattle.block.specs.Block.{no_side, none_side, no_block, is_none}
use Rattle.blitter.specs.State.{sound_blitter}
use Rattle.board.specs.Ports.{ports_written}
use Rattle.board.specs.Board.{sound_board, new_board, write_answer, write_board, blitter_written}
use Rattle.board.specs.declared.Board.{Board}
use Rattle.record.specs.declared.Reader.{Reader}
use Rattle.record.proofs.Kept.{origin_in, record_origin}
use Rattle.refusal.specs.Sheet.{Told, done, refused, kept}
use Rattle.refusal.proofs.Sheet.{passed}
use Rattle.settings.specs.Settings.{advanced, off}
use Rattle.settings.specs.declared.Settings.{Settings}
use Rattle.vram.specs.Memory.{good_length}
use Rattle.vram.proofs.Blank.{blank, blank_good}
use Rattle.frame.specs.Frame.{start_of, start_answer, sound_frame, fetched, shown, next_frame, line_answer, line_frame, lines_on, line_at, reads_none, origin_fetched, origin_of, OriginTold, OriginAddress}
use Rattle.frame.proofs.Cases.{fetched_repeat, fetched_end, fetched_record, shown_on, shown_off, next_on, next_off, line_given}
use Rattle.frame.proofs.Sound.{frame_fits_lem, sound_start}
use Rattle.frame.specs.declared.Frame.{Frame}

-- the reader of a frame that is switched on: a repeat and the end keep the record, else one is read
module _ (mem : List ℕ) (r : Reader) where
  by_reader : (x : Bool) → ltb 0 r.repeat ≡ x → (y : Bool) → r.ended ≡ y → origin_in (fetched mem r) ≡ origin_fetched r
  unfolding off
  by_reader true p y q = simp (p, q) (ap origin_in (fetched_repeat mem r (ltb-true 0 r.repeat p)))
  by_reader false p true q = simp (p, q) (ap origin_in (fetched_end mem r (ltb-false 0 r.repeat p) q))
  by_reader false p false q = simp (p, q) (ap origin_in (fetched_record mem r (ltb-false 0 r.repeat p) q) ∙ record_origin mem r)

  fetched_origin : origin_in (fetched mem r) ≡ origin_fetched r
  fetched_origin = by_reader (ltb 0 r.repeat) refl r.ended refl

module _ (f : Frame) (mem : List ℕ) where
  shown_origin : (x : Bool) → f.on ≡ x → (shown mem f).origin ≡ origin_of f
  shown_origin true e = simp e (ap (λ (s : Settings). s.origin) (shown_on mem f e) ∙ fetched_origin mem f.reader)
  shown_origin false e = simp e (ap (λ (s : Settings). s.origin) (shown_off mem f e))

  next_origin : (x : Bool) → f.on ≡ x → (next_frame mem f).reader.settings.origin ≡ cond f.on (origin_of f) f.reader.settings.origin
  unfolding advanced
  next_origin true e = simp e (ap (λ (g : Frame). origin_in g.reader) (next_on mem f e) ∙ fetched_origin mem f.reader)
  next_origin false e = simp e (ap (λ (g : Frame). origin_in g.reader) (next_off mem f e))

  -- a line that is given: the frame is sound, it tells what it shows, and goes on
  record Given (s : Settings) : Type 0 where
    sound : sound_frame f ≡ true
    is : s ≡ shown mem f
    next : line_frame f mem ≡ next_frame mem f

  given : (s : Settings) → line_answer f mem ≡ done s → Given s
  given s e =
      let board = passed (good_length (length mem)) 1 _ s e in
      let state = passed (sound_frame f) 15 _ s board.1 in
      let line = passed (ltb f.line 240) 4 _ s state.1 in
      let told : done (shown mem f) ≡ done s = line.1 in
      record {
        sound = state.0;
        is = cc;
        next = (line_given mem f board.0 state.0 (ltb-true f.line 240 line.0)).1;
      }

pub origin_told : OriginTold
origin_told f mem s e =
    let g = given f mem s e in
    record {
      told = ap (λ (t : Settings). t.origin) g.is ∙ shown_origin f mem f.on refl;
      carried = ap (λ (h : Frame). origin_in h.reader) g.next ∙ next_origin f mem f.on refl;
    }

-- Addresses. A frame that is switched on stands before its first record, or has told one's address
abbrev Addressed : Frame → Type 0
Addressed f = (f.on ≡ true) × ((reads_none f.reader ≡ false) ⊎ (f.reader.settings.origin < 524288))

module _ (mem : List ℕ) where
  fetched_address : (f : Frame) (s : Settings) → line_answer f mem ≡ done s → Addressed f → origin_fetched f.reader < 524288
  fetched_address f s e a =
      by_cond (λ (n : ℕ). n < 524288) (reads_none f.reader) _ _
      (λ t. ⊎_elim (λ n. true_false (sym t ∙ n)) (λ h. h) a.1)
      (λ t. (frame_fits_lem f (given f mem s e).sound).reader.position)

  on_origin : (f : Frame) → f.on ≡ true → origin_of f ≡ origin_fetched f.reader
  on_origin f e = simp e

  on_carried : (f : Frame) → f.on ≡ true → cond f.on (origin_of f) f.reader.settings.origin ≡ origin_fetched f.reader
  on_carried f e = simp e

  told_address : (f : Frame) (s : Settings) → line_answer f mem ≡ done s → Addressed f → s.origin < 524288
  told_address f s e a =
      subst (λ (n : ℕ). n < 524288) (sym ((origin_told f mem s e).told ∙ on_origin f a.0)) (fetched_address f s e a)

  -- a line keeps it, refused or given
  next_addressed : (f : Frame) → Addressed f → (t : Told Settings) → line_answer f mem ≡ t → Addressed (line_frame f mem)
  unfolding next_frame
  next_addressed f a (refused number item) e = subst Addressed (sym (ap (λ (t : Told Settings). kept t f (next_frame mem f)) e)) a
  next_addressed f a (done s) e =
      let carried = (origin_told f mem s e).carried ∙ on_carried f a.0 in (
        ap (λ (h : Frame). h.on) (given f mem s e).next ∙ a.0,
        inr (subst (λ (n : ℕ). n < 524288) (sym carried) (fetched_address f s e a)),
      )

  lines_address : (k : ℕ) (f : Frame) (s : Settings) → Addressed f → line_at mem f k ≡ done s → s.origin < 524288
  unfolding lines_on
  lines_address zero f s a e = told_address f s e a
  lines_address (suc k) f s a e = lines_address k (line_frame f mem) s (next_addressed f a (line_answer f mem) refl) e

-- a frame starts before its first record
starts_before : (b : Board) (f : Frame) → start_answer b ≡ done f → reads_none f.reader ≡ false
unfolding start_answer
starts_before b f e =
    let told : done (start_of b.ports.xdladr b.ports.video) ≡ done f = (passed (sound_board b) 15 _ f e).1 in
    let is : start_of b.ports.xdladr b.ports.video ≡ f = cc in
    subst (λ (g : Frame). reads_none g.reader ≡ false) is refl

pub origin_address : OriginAddress
origin_address b f mem k s start on e = lines_address mem k f s (on, inl (starts_before b f start)) e

-- an instance of both: the first line of a frame, in a memory of zeros, that a new board with its list switched on starts
abbrev first : Frame
first = start_of 0 1

first_started : start_answer (write_board new_board 0x40 1) ≡ done first
unfolding start_answer write_board write_answer ports_written blitter_written sound_board sound_blitter is_none none_side no_block no_side
first_started = refl

first_given : line_answer first blank ≡ done (shown blank first)
first_given = (line_given blank first blank_good (sound_start 0 1 (omega arith)) (omega arith)).0

pub first_told : ((shown blank first).origin ≡ 0) × ((line_frame first blank).reader.settings.origin ≡ 0)
first_told =
    let g = origin_told first blank (shown blank first) first_given in (g.told, g.carried)

pub first_address : (shown blank first).origin < 524288
unfolding lines_on
first_address = origin_address (write_board new_board 0x40 1) first blank 0 (shown blank first) first_started refl first_given
