-- Strokes one after the other: the last one apart, counted from any number, and how many accesses they make. Assumes nothing.
use mathlib.Core.Path.{◌≡◌, refl, ap, ◌∙◌}
use mathlib.Core.List.{List}
use Prim.Native.Nat.{ℕ, zero, suc, ◌+◌, ◌*◌, ◌%◌, ◌≤◌}
use native.Mathlib.Nat.{zero-mul, suc-mul, add-zero, add_assoc, mod-mod}
use native.Mathlib.Omega.{arith}
use lib.ListN.{length}
use Rattle.vram.specs.Memory.{place}
use Rattle.block.specs.Block.{dest_address, source_address}
use Rattle.block.specs.Byte.{written_by, struck_by}
use Rattle.block.specs.declared.Block.{Block}
use Rattle.block.specs.declared.Note.{Note}
use Rattle.stretch.specs.Stretch.{Trace, trace, struck, strokes}
use Rattle.stretch.proofs.Strokes.{struck_few}
use Rattle.stretch.proofs.Places.{same_byte}

-- an address stands for the same place as it does reduced
same_place : (n a x : ℕ) → x ≡ a % 524288 → place n a ≡ place n x
same_place n a x e = rw (e, mod-mod a 524288) refl

-- a stroke by the addresses of a row and a column is that byte's
pub struck_at_lem :
    (b : Block) (row col from to : ℕ) (d : Trace) → source_address b row col ≡ from % 524288 → dest_address b row col ≡ to % 524288
    → struck b from to d ≡ struck b (source_address b row col) (dest_address b row col) d
struck_at_lem b row col from to d e f = same_byte b from _ to _ d (same_place (length d.mem) from _ e) (same_place (length d.mem) to _ f)

module _ (b : Block) (along step : ℕ) where
  further : (from n d : ℕ) → from + d + n * d ≡ from + suc n * d
  further from n d = omega (arith, suc-mul n d)

  pub strokes_last : (n from to : ℕ) (d : Trace) → strokes b along step (suc n) from to d ≡ struck b (from + n * along) (to + n * step) (strokes b along step n from to d)
  unfolding strokes
  strokes_last zero from to d = rw (zero-mul along, zero-mul step, add-zero from, add-zero to) refl
  strokes_last (suc n) from to d =
      let e = strokes_last n (from + along) (to + step) (struck b from to d) in
      e ∙ (λ i. struck b (further from n along i) (further to n step i) (strokes b along step n (from + along) (to + step) (struck b from to d)))

  -- accesses counted from a number
  pub strokes_from : (n from to : ℕ) (mem : List ℕ) (note : Note) (made more : ℕ)
      → let d = strokes b along step n from to (trace mem note more) in
      strokes b along step n from to (trace mem note (made + more)) ≡ trace d.mem d.note (made + d.accesses)
  unfolding strokes struck
  strokes_from zero from to mem note made more = refl
  strokes_from (suc n) from to mem note made more =
      let byte = struck_by b mem from to note in
      ap (λ (a : ℕ). strokes b along step n (from + along) (to + step) (trace (written_by b from to mem) byte.note a)) (add_assoc made more byte.accesses)
      ∙ strokes_from n (from + along) (to + step) _ byte.note made (more + byte.accesses)

  -- at most 3 each
  pub strokes_few : (n from to : ℕ) (d : Trace) → (strokes b along step n from to d).accesses ≤ d.accesses + 3 * n
  unfolding strokes
  strokes_few zero from to d = omega arith
  strokes_few (suc n) from to d = omega (arith, strokes_few n (from + along) (to + step) (struck b from to d), struck_few b from to d)
