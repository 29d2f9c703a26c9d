-- What one byte of a stretch is in each kind of loop. Assumes nothing.
use mathlib.Core.Path.{◌≡◌, refl, sym, ap, ◌∙◌}
use mathlib.Core.Bool.{Bool, true, false, cond, not, and-false}
use mathlib.Core.List.{List}
use Prim.Native.Nat.{ℕ, ◌+◌, ◌<◌}
use native.Mathlib.Nat.{add-zero}
use native.Mathlib.Omega.{arith}
use lib.Bits.{bit_and, bit_xor, and_zero_r, xor_zero_l}
use lib.Dec.{eqb}
use lib.ListN.{length, set}
use borrow.Author.Tests.{eqb-true, eqb-false, ne_eqb}
use Rattle.vram.specs.Memory.{place, cell_at}
use Rattle.mode.specs.Mode.{stroke_of, writes_in, value_in, cost_in, accesses_in, code_in}
use Rattle.mode.specs.declared.Stroke.{Stroke}
use Rattle.block.specs.Block.{mode_of}
use Rattle.block.specs.Byte.{reads_source, noted, source_by, stroke_by, written_by, struck_by}
use Rattle.block.specs.declared.Block.{Block}
use Rattle.block.specs.declared.Note.{Note}
use Rattle.block.specs.declared.Struck.{Struck}
use Rattle.stretch.specs.Stretch.{trace, struck}

-- the source byte after both masks
abbrev pub masked : Block → List ℕ → ℕ → ℕ
masked b mem from = bit_xor (bit_and (cell_at mem from) b.andmask) b.xormask

pub under_7 : {m n : ℕ} → m ≡ n → n < 7 → m ≡ 7 → ⊥
under_7 p h e = omega arith

-- outside mode 7 the source is read unless the AND mask is 0
reads_some : (b : Block) → (b.andmask ≡ 0 → ⊥) → (mode_of b ≡ 7 → ⊥) → reads_source b ≡ true
unfolding reads_source
reads_some b h k = rw (ne_eqb b.andmask 0 h, ne_eqb (mode_of b) 7 k)

reads_none : (b : Block) → mode_of b ≡ 7 → reads_source b ≡ false
unfolding reads_source
reads_none b m = rw m (and-false (not (eqb b.andmask 0)))

-- so the source byte may be read where it counts for nothing
pub masked_read : (b : Block) (mem : List ℕ) (from : ℕ) → (mode_of b ≡ 7 → ⊥) → source_by b mem from ≡ masked b mem from
unfolding source_by
masked_read b mem from h = by_test (eqb b.andmask 0) refl
  where
    by_test : (t : Bool) → eqb b.andmask 0 ≡ t → bit_xor (bit_and (cond (reads_source b) (cell_at mem from) 0) b.andmask) b.xormask ≡ masked b mem from
    by_test true e =
        let gone : (x : ℕ) → bit_and x b.andmask ≡ 0 = λ x. ap (bit_and x) (eqb-true b.andmask 0 e) ∙ and_zero_r x in
        ap (λ (x : ℕ). bit_xor x b.xormask) (gone (cond (reads_source b) (cell_at mem from) 0) ∙ sym (gone (cell_at mem from)))
    by_test false e = rw (reads_some b (eqb-false b.andmask 0 e) h)

module _ (b : Block) (mem : List ℕ) (from to : ℕ) (note : Note) (made : ℕ) where
  -- mode 0 with an AND mask of 0
  pub fill_is : mode_of b ≡ 0 → b.andmask ≡ 0 → struck b from to (trace mem note made) ≡ trace (set mem (place (length mem) to) b.xormask) note (made + 1)
  unfolding struck struck_by stroke_by written_by source_by stroke_of writes_in value_in code_in cost_in accesses_in reads_source
  fill_is m a = rw (m, a, xor_zero_l b.xormask)

  -- mode 0 with any other
  pub copy_is : mode_of b ≡ 0 → (b.andmask ≡ 0 → ⊥) → struck b from to (trace mem note made) ≡ trace (set mem (place (length mem) to) (masked b mem from)) note (made + 2)
  unfolding struck struck_by stroke_by written_by source_by stroke_of writes_in value_in code_in cost_in accesses_in
  copy_is m a = rw (reads_some b a (under_7 m (omega arith)), m)

  -- any mode but 7, by its stroke
  pub stroke_is :
      {mode s d : ℕ} {k : Stroke} {u : Struck} {mem' : List ℕ} → mode ≡ mode_of b → (mode_of b ≡ 7 → ⊥) → s ≡ masked b mem from → d ≡ cell_at mem to
      → k ≡ stroke_of mode b.hitmask s d note.code → (u.note ≡ noted k) × (u.accesses ≡ k.accesses + cond (reads_source b) 1 0)
      → mem' ≡ cond k.written (set mem (place (length mem) to) k.value) mem
      → struck b from to (trace mem note made) ≡ trace mem' u.note (made + u.accesses)
  unfolding struck struck_by stroke_by written_by stroke_of
  stroke_is m n sis dis kis uis mis =
      rw (mis, uis.0, uis.1, kis, sis, dis, m, masked_read b mem from n)

  -- mode 7 does nothing
  pub still : mode_of b ≡ 7 → struck b from to (trace mem note made) ≡ trace mem note made
  unfolding struck struck_by stroke_by written_by source_by stroke_of writes_in value_in code_in cost_in accesses_in
  still m = rw (reads_none b m, m) (ap (λ (n : ℕ). trace mem note n) (add-zero made))
