-- One value in each byte: a loop over the places of a fill, or of one source byte that is none of those written, makes what the strokes make. Assumes nothing.
use mathlib.Core.Path.{◌≡◌, sym, ap, ◌∙◌}
use mathlib.Core.Bool.{true}
use mathlib.Core.List.{List}
use Prim.Native.Nat.{ℕ, zero, suc, ◌+◌, ◌-◌, ◌*◌, ◌≤◌, ◌<◌}
use native.Mathlib.Nat.{add-zero}
use native.Mathlib.Omega.{arith}
use lib.ListN.{length, get_or, set, length-set}
use lib.Seq.{get_or-set_other}
use Rattle.vram.specs.Memory.{good_length, place}
use Rattle.block.specs.Block.{mode_of}
use Rattle.block.specs.declared.Block.{Block}
use Rattle.block.specs.declared.Note.{Note}
use Rattle.stretch.specs.Stretch.{trace, strokes}
use Rattle.stretch.specs.Flat.{painted}
use Rattle.stretch.proofs.Strokes.{less, none}
use Rattle.stretch.proofs.Single.{masked, fill_is, copy_is}
use Rattle.stretch.proofs.Places.{stands}

-- the loop: one turn and its end
module _ (v at count : ℕ) (mem : List ℕ) where
  pub paint_on : (k : ℕ) → k < count → painted v (set mem (at + k) v) (at + (k + 1)) (count - (k + 1)) ≡ painted v mem (at + k) (count - k)
  unfolding painted
  paint_on k h =
      let further : at + (k + 1) ≡ at + k + 1 = omega arith in
      ap (λ (i : ℕ). painted v (set mem (at + k) v) i (count - (k + 1))) further
      ∙ ap (λ (n : ℕ). painted v mem (at + k) n) (less count k h)

  pub paint_done : (k : ℕ) → count ≤ k → mem ≡ painted v mem (at + k) (count - k)
  unfolding painted
  paint_done k h = ap (λ (n : ℕ). painted v mem (at + k) n) (sym (none count k h))

module _ (b : Block) (m : mode_of b ≡ 0) where
  -- a fill
  pub fills : b.andmask ≡ 0 → (along n : ℕ) (mem : List ℕ) (from at : ℕ) (note : Note) (made : ℕ) → good_length (length mem) ≡ true → at + n ≤ length mem
      → trace (painted b.xormask mem at n) note (made + n) ≡ strokes b along 1 n from at (trace mem note made)
  unfolding strokes painted
  fills z along zero mem from at note made g h = ap (trace mem note) (add-zero made)
  fills z along (suc n) mem from at note made g h =
      let x = b.xormask in
      let long = length-set mem at x in
      ap (trace _ note) (omega arith)
      ∙ fills z along n (set mem at x) (from + along) (at + 1) note (made + 1) (rw long g) (omega arith)
      ∙ ap (λ (i : ℕ). strokes b along 1 n (from + along) (at + 1) (trace (set mem i x) note (made + 1))) (sym (stands _ g at (omega arith)))
      ∙ ap (strokes b along 1 n (from + along) (at + 1)) (sym (fill_is b mem from at note made m z))

  -- a copy of one byte
  pub repeats : (b.andmask ≡ 0 → ⊥) → (n : ℕ) (mem : List ℕ) (from at : ℕ) (note : Note) (made v : ℕ) → good_length (length mem) ≡ true → at + n ≤ length mem
      → masked b mem from ≡ v → ((k : ℕ) → k < n → place (length mem) from ≡ at + k → ⊥)
      → trace (painted v mem at n) note (made + 2 * n) ≡ strokes b 0 1 n from at (trace mem note made)
  unfolding strokes painted
  repeats z zero mem from at note made v g h s a = ap (trace mem note) (omega arith)
  repeats z (suc n) mem from at note made v g h s a =
      ap (trace _ note) (omega arith)
      ∙ repeats z n (set mem at v) from (at + 1) note (made + 2) v (rw long g) (omega (arith, long)) again onward
      ∙ ap (λ (i : ℕ). strokes b 0 1 n i (at + 1) (trace (set mem at v) note (made + 2))) (sym (add-zero from))
      ∙ ap (λ (i : ℕ). strokes b 0 1 n (from + 0) (at + 1) (trace (set mem i v) note (made + 2))) (sym (stands _ g at (omega arith)))
      ∙ ap (λ (u : ℕ). strokes b 0 1 n (from + 0) (at + 1) (trace (set mem (place (length mem) at) u) note (made + 2))) (sym s)
      ∙ ap (strokes b 0 1 n (from + 0) (at + 1)) (sym (copy_is b mem from at note made m z))
    where
      long : length (set mem at v) ≡ length mem
      long = length-set mem at v

      other : get_or (set mem at v) (place (length mem) from) 0 ≡ get_or mem (place (length mem) from) 0
      other = get_or-set_other mem at (place (length mem) from) v 0 (λ e. a 0 (omega arith) (e ∙ sym (add-zero at)))

      again : masked b (set mem at v) from ≡ v
      again = rw (long, other) s

      onward : (k : ℕ) → k < n → place (length (set mem at v)) from ≡ at + 1 + k → ⊥
      onward k h e = a (k + 1) (omega arith) (ap (λ (L : ℕ). place L from) (sym long) ∙ e ∙ omega arith)
