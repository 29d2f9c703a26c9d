-- What a collision mask says of the range that a colour is in. Assumes nothing.
use mathlib.Core.Path.{◌≡◌, refl, sym, ap, subst, ◌∙◌}
use mathlib.Core.Logic.{◌⊎◌, inl, inr}
use mathlib.Core.Bool.{true, false, not, ◌&&◌, and-false, and-true}
use Prim.Native.Nat.{ℕ, zero, suc, ◌+◌, ◌*◌, ◌-◌, ◌/◌, ◌%◌, ◌^◌, ◌<◌}
use native.Mathlib.Nat.{mod-lt, zero-div, zero-mul}
use lib.Pow.{pow_pos, pow-add}
use native.Mathlib.Omega.{arith}
use lib.Bits.{bit_and, and_high}
use lib.Dec.{eqb}
use borrow.Author.Tests.{ne_eqb}
use Rattle.laws.specs.Bit.{bit}
use Rattle.mode.specs.Mode.{hits}

-- a bit times its place is 0 where the bit is
placed : (v p : ℕ) → v < 2 → 0 < p → not (eqb (v * p) 0) ≡ eqb v 1
placed zero p h k = rw (zero-mul p)
placed (suc zero) p h k = rw (ne_eqb (1 * p) 0 (λ e. omega (arith, e)))
placed (suc (suc v)) p h k = absurd (omega arith)

-- the manual's test of one bit
tested : (mask k : ℕ) → not (eqb (bit_and mask (2 ^ k)) 0) ≡ bit mask k
tested mask k =
    let lone : 2 ^ (1 + k) - 2 ^ k ≡ 2 ^ k = omega (arith, pow-add 2 1 k) in
    ap (λ (v : ℕ). not (eqb v 0)) (ap (bit_and mask) (sym lone) ∙ and_high mask 1 k)
    ∙ placed (mask / 2 ^ k % 2) (2 ^ k) (mod-lt (mask / 2 ^ k) (omega arith)) (pow_pos k)

-- one range, by its number: a colour in it that is not 0 meets the mask's bit
pub in_range : (colours mask d k : ℕ) → 0 < d → d / colours ≡ k → not (eqb (bit_and mask (2 ^ k)) 0) ≡ not (eqb d 0) && bit mask (d / colours)
in_range colours mask d k h e = tested mask k ∙ ap (bit mask) (sym e) ∙ rw (ne_eqb d 0 (λ n. omega (arith, n)))

-- no range has a bit of 0,
no_bit : (k : ℕ) → bit 0 k ≡ false
no_bit k = rw (zero-div (2 ^ k))

-- and each of the eight has one of 255
every_bit : (k : ℕ) → k < 8 → bit 255 k ≡ true
every_bit zero h = refl
every_bit (suc zero) h = refl
every_bit (suc (suc zero)) h = refl
every_bit (suc (suc (suc zero))) h = refl
every_bit (suc (suc (suc (suc zero)))) h = refl
every_bit (suc (suc (suc (suc (suc zero))))) h = refl
every_bit (suc (suc (suc (suc (suc (suc zero)))))) h = refl
every_bit (suc (suc (suc (suc (suc (suc (suc zero))))))) h = refl
every_bit (suc (suc (suc (suc (suc (suc (suc (suc k)))))))) h = absurd (omega arith)

-- the two rules: ranges of 32 colours of a byte, and of 2 of a nibble
abbrev Rule : ℕ → ℕ → Type 0
Rule colours d = (colours ≡ 32) ⊎ ((colours ≡ 2) × (d < 16))

-- either has eight ranges
pub eight : (colours d : ℕ) → d < 256 → Rule colours d → d / colours < 8
eight colours d h (inl e) = subst (λ (n : ℕ). d / n < 8) (sym e) (omega arith)
eight colours d h (inr (e, k)) = subst (λ (n : ℕ). d / n < 8) (sym e) (omega arith)

-- and what is not the first is the second
pub paired : (colours d : ℕ) → (colours ≡ 32 → ⊥) → Rule colours d → (colours ≡ 2) × (d < 16)
paired colours d n (inl e) = absurd (n e)
paired colours d n (inr p) = p

-- a source byte that is not 0 meets what the range's bit says,
pub met : (colours mask s d : ℕ) → (s ≡ 0 → ⊥) → hits colours mask s d ≡ not (eqb d 0) && bit mask (d / colours)
unfolding hits
met colours mask s d n = rw (ne_eqb s 0 n)

-- nothing where the mask is 0,
pub none_met : (colours s d : ℕ) → hits colours 0 s d ≡ false
unfolding hits
none_met colours s d = rw (no_bit (d / colours), and-false (not (eqb s 0) && not (eqb d 0)))

-- and every colour but 0 where it is 255
pub all_met : (colours s d : ℕ) → (s ≡ 0 → ⊥) → d / colours < 8 → hits colours 255 s d ≡ not (eqb d 0)
all_met colours s d n h = met colours 255 s d n ∙ rw (every_bit (d / colours) h, and-true (not (eqb d 0)))
