-- The n-th place of a table with c columns: row n / c, column n % c. Assumes nothing.
use mathlib.Core.Path.{◌≡◌}
use Prim.Native.Nat.{ℕ, suc, ◌+◌, ◌*◌, ◌/◌, ◌%◌, ◌<◌, ◌≤◌}
use native.Mathlib.Nat.{mod-lt, mul-mod_left, mul-div_left}
use native.Mathlib.Numerals.{add-one}
use native.Mathlib.Omega.{arith}
use Rattle.std.proofs.lemmas.Nat.{div-mul-add, mod-mul-add, div-add-mod', div_below, mul-add-lt}

module _ (c : ℕ) (some : 0 < c) where
  -- the place of row r and column k
  pub row_of : (r k : ℕ) → k < c → (r * c + k) / c ≡ r
  row_of r k h = div-mul-add r c k h

  pub col_of : (r k : ℕ) → k < c → (r * c + k) % c ≡ k
  col_of r k h = mod-mul-add r c k h

  -- a place further on in the same row
  pub far_col : (n k : ℕ) → n % c + k < c → ((n + k) / c ≡ n / c) × ((n + k) % c ≡ n % c + k)
  far_col n k h =
      let e : n + k ≡ n / c * c + (n % c + k) = omega (arith, div-add-mod' n c) in
      rw e (row_of (n / c) (n % c + k) h, col_of (n / c) (n % c + k) h)

  -- the next place: in the same row, or at the beginning of the next
  pub next_col : (n : ℕ) → n % c + 1 < c → (suc n / c ≡ n / c) × (suc n % c ≡ n % c + 1)
  next_col n h = rw (← add-one n) (far_col n 1 h)

  pub next_row : (n : ℕ) → c ≤ n % c + 1 → (suc n / c ≡ n / c + 1) × (suc n % c ≡ 0)
  next_row n h =
      let e : suc n ≡ (n / c + 1) * c + 0 = omega (arith, div-add-mod' n c, mod-lt n some) in
      rw e (row_of (n / c + 1) 0 some, col_of (n / c + 1) 0 some)

  -- inside a table of r rows
  pub row_in : (r n : ℕ) → n < r * c → n / c < r
  row_in r n h = div_below n c r some h

  pub col_in : (n : ℕ) → n % c < c
  col_in n = mod-lt n some

  pub inside : (r row col : ℕ) → row < r → col < c → row * c + col < r * c
  inside r row col h k = omega (arith, mul-add-lt row c col r h k)

  -- at a row's end, where a place is left, the next row is inside
  pub more_rows : (r n : ℕ) → suc n < r * c → c ≤ n % c + 1 → n / c + 1 < r
  more_rows r n l h = omega (arith, (next_row n h).0, row_in r (suc n) l)

  -- the last place: no column is left, and no row
  pub no_column : (r n : ℕ) → suc n ≡ r * c → c ≤ n % c + 1
  no_column r n e =
      let f : n % c + 1 < c → suc n % c ≡ n % c + 1 = λ h. (next_col n h).1 in
      let z : suc n % c ≡ 0 = rw e (mul-mod_left r c) in
      grind (arith, f)

  pub no_row : (r n : ℕ) → suc n ≡ r * c → r ≤ n / c + 1
  no_row r n e =
      let z : suc n / c ≡ r = rw e (mul-div_left r some) in
      omega (arith, (next_row n (no_column r n e)).0)
