-- Addresses further on: k columns or k rows are k steps, modulo 524,288. Assumes nothing.
use mathlib.Core.Path.{◌≡◌, ap, ◌∙◌}
use Prim.Native.Nat.{ℕ, zero, suc, ◌+◌, ◌*◌, ◌%◌, ◌<◌}
use native.Mathlib.Omega.{arith}
use lib.IntN.{ℤ, pos, negsuc, ◌+ℤ◌, ◌*ℤ◌}
use Rattle.std.proofs.lemmas.Int.{ints}
use Rattle.step.specs.Step.{wrap19, side_address, across_of, down_of}
use Rattle.step.specs.declared.Side.{Side}
use Rattle.step.proofs.Laws.{wrap_small, side_small}

-- a sum may be reduced before
wrap_sum : (z w : ℤ) → wrap19 (z +ℤ w) ≡ (wrap19 z + wrap19 w) % 524288
unfolding wrap19
wrap_sum (pos a) (pos b) = omega arith
wrap_sum (pos a) (negsuc b) = grind arith
wrap_sum (negsuc a) (pos b) = grind arith
wrap_sum (negsuc a) (negsuc b) = omega arith

-- and so may a sum with k equal parts
wrap_more : (z w : ℤ) (k : ℕ) → wrap19 (z +ℤ pos k *ℤ w) ≡ (wrap19 z + k * wrap19 w) % 524288
wrap_more z w zero =
    let e : z +ℤ pos 0 *ℤ w ≡ z = omega (arith, ints) in
    omega (arith, ap wrap19 e, wrap_small z)
wrap_more z w (suc k) =
    let e : z +ℤ pos (suc k) *ℤ w ≡ z +ℤ pos k *ℤ w +ℤ w = omega (arith, ints) in
    omega (arith, ap wrap19 e, wrap_sum (z +ℤ pos k *ℤ w) w, wrap_more z w k)

pub side_19 : (s : Side) (row col : ℕ) → side_address s row col ≡ (side_address s row col + 0) % 524288
side_19 s row col = omega (arith, side_small s row col)

pub across_on : (s : Side) (row col k : ℕ) → side_address s row (col + k) ≡ (side_address s row col + k * across_of s) % 524288
unfolding side_address across_of
across_on s row col k = ap wrap19 (omega (arith, ints)) ∙ wrap_more _ _ k

pub down_on : (s : Side) (row col k : ℕ) → side_address s (row + k) col ≡ (side_address s row col + k * down_of s) % 524288
unfolding side_address down_of
down_on s row col k = ap wrap19 (omega (arith, ints)) ∙ wrap_more _ _ k

pub across_small : (s : Side) → across_of s < 524288
unfolding across_of
across_small s = wrap_small _

pub down_small : (s : Side) → down_of s < 524288
unfolding down_of
down_small s = wrap_small _
