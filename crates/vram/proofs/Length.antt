-- A board's length is a power of two and divides 524,288. So an access need not wrap at 524,288 first, and the length less one is a mask. Assumes nothing.
use mathlib.Core.Path.{◌≡◌, refl, sym, ap, ◌∙◌, subst}
use mathlib.Core.Bool.{true}
use mathlib.Core.List.{[], ◌∷◌}
use mathlib.Core.Logic.{⊎_elim}
use Prim.Native.Nat.{ℕ, suc, ◌-◌, ◌*◌, ◌/◌, ◌%◌, ◌^◌, ◌≤◌, ◌<◌, ◌∣◌}
use native.Mathlib.Nat.{mod-eq_of_lt, mod-mod_of_dvd, dvd-mul_left, pow-suc, lt_of_not-le, not-le_of_lt, eq-zero-or-pos, sub-add_cancel, le_of_suc-le-suc}
use native.Mathlib.Omega.{arith}
use lib.Arith.{bin_ind}
use lib.Bits.{bit_and, and_mask, mask_lt}
use lib.Count.{ones, ones_step}
use lib.Dec.{eqb, leb}
use lib.Pow.{pow-add, pow-lt}
use borrow.Author.Tests.{eqb-true, leb-true}
use Rattle.laws.proofs.Choice.{each_test}
use Rattle.vram.specs.Memory.{good_length, place}

no_ones : ones 0 ≡ 0
unfolding ones
no_ones = refl

-- no bit set: the number is 0
no_bit : (n : ℕ) → ones n ≡ 0 → n ≡ 0
no_bit = bin_ind (λ (n : ℕ). ones n ≡ 0 → n ≡ 0) (λ e. refl) (λ n rest e. let s = ones_step n in let half = rest (omega arith) in omega arith)

-- one bit set: the number is a power of two
pub one_bit : (n : ℕ) → ones n ≡ 1 → (k : ℕ) × (n ≡ 2 ^ k)
one_bit = bin_ind (λ (n : ℕ). ones n ≡ 1 → (k : ℕ) × (n ≡ 2 ^ k)) none step
  where
    none : ones 0 ≡ 1 → (k : ℕ) × (0 ≡ 2 ^ k)
    none e = absurd (let z : ones 0 ≡ 0 = no_ones in omega arith)

    step : (n : ℕ) → (ones (n / 2) ≡ 1 → (k : ℕ) × (n / 2 ≡ 2 ^ k)) → ones n ≡ 1 → (k : ℕ) × (n ≡ 2 ^ k)
    step n rest e =
        let s = ones_step n in
        ⊎_elim
        (λ z. let r = rest (omega arith) in let p = r.1 in (suc r.0, omega (arith, pow-suc 2 r.0)))
        (λ o. let z = no_bit (n / 2) (omega arith) in (0, omega arith))
        (eq-zero-or-pos (n % 2))

-- such an L divides 524,288
pub divides : (L : ℕ) → ones L ≡ 1 → L ≤ 524288 → L ∣ 524288
divides L e h =
    let k = (one_bit L e).0 in
    let p : L ≡ 2 ^ k = (one_bit L e).1 in
    let small : k ≤ 19 = le_of_suc-le-suc (lt_of_not-le (λ (g : 20 ≤ k). not-le_of_lt (pow-lt g) (subst (λ (x : ℕ). x ≤ 524288) p h))) in
    let whole : 524288 ≡ 2 ^ (19 - k) * L = ap (λ (x : ℕ). 2 ^ x) (sym (sub-add_cancel small)) ∙ pow-add 2 (19 - k) k ∙ ap (λ (x : ℕ). 2 ^ (19 - k) * x) (sym p) in
    subst (λ (x : ℕ). L ∣ x) (sym whole) (dvd-mul_left L (2 ^ (19 - k)))

-- what the length rule says
pub record Good (L : ℕ) : Type 0 where
  pub one : ones L ≡ 1
  pub least : 16384 ≤ L
  pub most : L ≤ 524288

pub good : (L : ℕ) → good_length L ≡ true → Good L
good L e =
    let t = each_test (eqb (ones L) 1) (leb 16384 L ∷ leb L 524288 ∷ []) e in
    record { one = eqb-true (ones L) 1 t.0; least = leb-true 16384 L t.1.0; most = leb-true L 524288 t.1.1.0 }

-- the shortest is taken
pub shortest : good_length 16384 ≡ true
unfolding ones
shortest = refl

-- an access need not wrap at 524,288 first
pub wrap : (L : ℕ) → good_length L ≡ true → (x : ℕ) → place L x ≡ x % L
wrap L e x = let g = good L e in mod-mod_of_dvd L x (divides L g.one g.most)

-- an address below the length of a memory is its own place
pub own_place : (L a : ℕ) → a < L → L ≤ 524288 → place L a ≡ a
own_place L a l h = ap (λ (x : ℕ). x % L) (mod-eq_of_lt {n = a} {m = 524288} (omega arith)) ∙ mod-eq_of_lt l

pub one_some : (L : ℕ) → ones L ≡ 1 → 1 ≤ L
one_some L e =
    ⊎_elim (λ z. absurd (let o : ones L ≡ 0 = ap ones z ∙ no_ones in omega arith)) (λ o. omega arith) (eq-zero-or-pos L)

-- L less one is a mask
pub mask_is : (L x : ℕ) → ones L ≡ 1 → bit_and x (L - 1) ≡ x % L
mask_is L x e = let r = one_bit L e in rw r.1 (and_mask x r.0)

pub mask_under : (L x : ℕ) → ones L ≡ 1 → bit_and x (L - 1) < L
mask_under L x e = let r = one_bit L e in rw r.1 (mask_lt x r.0)
