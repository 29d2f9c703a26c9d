-- The choice by a Bool. Assumes nothing.
use mathlib.Core.Path.{◌≡◌, refl, ap}
use mathlib.Core.Bool.{Bool, true, false, cond, ◌&&◌, and-eq-true_iff}
use mathlib.Core.List.{List, [], ◌∷◌}
use Prim.Native.Nat.{ℕ, ◌≤◌}
use native.Mathlib.Omega.{arith}
use mir.Val.{bool_byte}

-- what holds of x where the test is true and of y where it is false holds of the choice
pub by_cond {ℓ} : {A : Type ℓ} (P : A → Type 0) (t : Bool) (x y : A) → (t ≡ true → P x) → (t ≡ false → P y) → P (cond t x y)
by_cond P true x y f g = f refl
by_cond P false x y f g = g refl

-- two tests that hold, taken apart
pub both : (s t : Bool) → s && t ≡ true → (s ≡ true) × (t ≡ true)
both s t = (and-eq-true_iff s t).0

-- and put together
pub and_both : (s t : Bool) → s ≡ true → t ≡ true → s && t ≡ true
and_both s t p q = (and-eq-true_iff s t).1 (p, q)

-- a row of tests, joined from the left as `a & b & c` is; where it holds, each of them does
abbrev pub row : Bool → List Bool → Bool
row b [] = b
row b (x ∷ l) = row (b && x) l

abbrev pub Each : List Bool → Type 0
Each [] = Unit
Each (x ∷ l) = (x ≡ true) × Each l

pub each_test : (b : Bool) (l : List Bool) → row b l ≡ true → (b ≡ true) × Each l
each_test b [] e = (e, tt)
each_test b (x ∷ l) e = let r = each_test (b && x) l e in let t = both b x r.0 in (t.0, (t.1, r.1))

-- a test does not both hold and fail
pub true_false : {A : Type 0} → true ≡ false → A
true_false e = absurd (let z : ◌≡◌ {A = ℕ} 1 0 = ap (λ (t : Bool). cond t 1 0) e in omega arith)

-- a Bool as a byte
pub bool_byte_lem : (t : Bool) → bool_byte t ≡ cond t 1 0
bool_byte_lem true = refl
bool_byte_lem false = refl

pub bool_small : (t : Bool) → bool_byte t ≤ 1
bool_small true = omega arith
bool_small false = omega arith
