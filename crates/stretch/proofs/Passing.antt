-- A loop over the places of a flat stretch: it goes on by one byte, and ends, whatever the note is. Assumes nothing.
use mathlib.Core.Path.{◌≡◌, refl, sym, ap, ◌∙◌}
use mathlib.Core.Bool.{Bool, true, false, cond}
use mathlib.Core.List.{List}
use Prim.Native.Nat.{ℕ, ◌+◌, ◌*◌, ◌<◌}
use native.Mathlib.Nat.{add-zero, suc-mul}
use native.Mathlib.Numerals.{add-one}
use native.Mathlib.Omega.{arith}
use lib.Bits.{bit_and, bit_xor}
use lib.ListN.{length, get_or, set}
use lib.Seq.{set-get_or}
use mir.Val.{bool_byte}
use Rattle.vram.specs.Memory.{good_length, place}
use Rattle.mode.specs.Mode.{value_in, writes_in, cost_in, accesses_in, stroke_of}
use Rattle.mode.proofs.Laws.{code_stays}
use Rattle.block.specs.Block.{mode_of}
use Rattle.block.specs.Byte.{reads_source, stroke_by, written_by, struck_by}
use Rattle.block.specs.declared.Block.{Block}
use Rattle.block.specs.declared.Note.{Note}
use Rattle.stretch.specs.declared.Stretch.{Stretch}
use Rattle.stretch.specs.declared.flat.Places.{Places}
use Rattle.stretch.specs.Stretch.{trace, struck, Makes}
use Rattle.stretch.specs.Flat.{Within}
use Rattle.stretch.proofs.Strokes.{Left, left_on, left_none}
use Rattle.stretch.proofs.Single.{masked, masked_read, copy_is}
use Rattle.stretch.proofs.Places.{stands}

-- a byte that is not written may be written as it was
write_back : (t : Bool) (mem : List ℕ) (i v : ℕ) → cond t (set mem i v) mem ≡ set mem i (cond t v (get_or mem i 0))
write_back true mem i v = refl
write_back false mem i v = sym (set-get_or mem i 0)

-- the accesses, with one byte more: those written cost the same each
one_more : (t : Bool) (wrote cost k read : ℕ) → wrote * cost + k * read + (cond t cost 0 + read) ≡ (wrote + bool_byte t) * cost + (k + 1) * read
one_more true wrote cost k read = rw (add-one wrote, add-one k, suc-mul wrote cost, suc-mul k read) (omega arith)
one_more false wrote cost k read = rw (add-zero wrote, add-one k, suc-mul k read) (omega arith)

-- the stretch of such places
abbrev pub straight : Places → Stretch
straight p = record { from = p.from; along = 1; to = p.at; step = 1; count = p.count }

pub record Passed (b : Block) (p : Places) (first mem : List ℕ) (made k : ℕ) : Type 0 where
  pub left : (note : Note) → Left b (straight p) k (p.from + k) (p.at + k) (trace mem note made) (trace first note 0)

module _ {b : Block} {p : Places} {first : List ℕ} where
  pub passed_all : {mem : List ℕ} {made : ℕ} → Passed b p first mem made p.count → Makes b 1 1 p.count p.from p.at first mem made
  passed_all l note = left_none (l.left note) (omega arith)

  module _ {mem : List ℕ} {made k : ℕ} (l : Passed b p first mem made k) where
    passed_on : k < p.count → (mem' : List ℕ) (made' : ℕ) → ((note : Note) → struck b (p.from + k) (p.at + k) (trace mem note made) ≡ trace mem' note made')
        → Passed b p first mem' made' (k + 1)
    passed_on h mem' made' e =
        let on : (x : ℕ) → x + (k + 1) ≡ x + k + 1 = λ x. omega arith in
        record { left = λ note. rw (on p.from, on p.at) (left_on (l.left note) h (e note)) }

    module _ (long : length mem ≡ length first) (w : Within (length first) p) (h : k < p.count) where
      board : good_length (length mem) ≡ true
      board = rw long w.good

      -- the places of the byte and of its source
      here : place (length mem) (p.at + k) ≡ p.at + k
      here = stands (length mem) board (p.at + k) (omega (arith, long, w.at_in))

      there : place (length mem) (p.from + k) ≡ p.from + k
      there = stands (length mem) board (p.from + k) (omega (arith, long, w.from_in))

      -- the source byte after both masks, and the byte
      abbrev s : ℕ
      s = bit_xor (bit_and (get_or mem (p.from + k) 0) b.andmask) b.xormask

      abbrev d : ℕ
      d = get_or mem (p.at + k) 0

      -- a byte of a copy
      pub passed_copy : mode_of b ≡ 0 → (b.andmask ≡ 0 → ⊥) → made ≡ 2 * k → Passed b p first (set mem (p.at + k) s) (2 * (k + 1)) (k + 1)
      passed_copy m z e =
          passed_on h _ _
          (λ note.
          copy_is b mem (p.from + k) (p.at + k) note made m z
          ∙ ap (λ (i : ℕ). trace (set mem i (masked b mem (p.from + k))) note (made + 2)) here
          ∙ ap (λ (i : ℕ). trace (set mem (p.at + k) (bit_xor (bit_and (get_or mem i 0) b.andmask) b.xormask)) note (made + 2)) there
          ∙ ap (trace (set mem (p.at + k) s) note) (omega arith))

      -- a byte of modes 1 to 6
      module _ (mode : ℕ) (m : mode_of b ≡ mode) (under : mode < 7) (z : b.hitmask ≡ 0) where
        abbrev read : ℕ
        read = cond (reads_source b) 1 0

        byte : (note : Note) → struck b (p.from + k) (p.at + k) (trace mem note made) ≡ trace (set mem (p.at + k) (cond (writes_in mode s) (value_in mode s d) d)) note (made + (cond (writes_in mode s) (cost_in mode b.hitmask) 0 + read))
        unfolding struck struck_by stroke_by written_by stroke_of accesses_in
        byte note =
            rw (masked_read b mem (p.from + k) (λ e. omega arith), there, here, m, code_stays mode b.hitmask s d note.code z)
            (ap (λ (l : List ℕ). trace l note (made + (cond (writes_in mode s) (cost_in mode b.hitmask) 0 + read))) (write_back (writes_in mode s) mem (p.at + k) (value_in mode s d)))

        pub passed_mix : (wrote : ℕ) → made ≡ wrote * cost_in mode b.hitmask + k * read
            → Passed b p first (set mem (p.at + k) (cond (writes_in mode s) (value_in mode s d) d)) ((wrote + bool_byte (writes_in mode s)) * cost_in mode b.hitmask + (k + 1) * read) (k + 1)
        passed_mix wrote e =
            passed_on h _ _
            (λ note.
            byte note
            ∙ ap (trace (set mem (p.at + k) (cond (writes_in mode s) (value_in mode s d) d)) note)
            (ap (λ (n : ℕ). n + (cond (writes_in mode s) (cost_in mode b.hitmask) 0 + read)) e ∙ one_more (writes_in mode s) wrote (cost_in mode b.hitmask) k read))
