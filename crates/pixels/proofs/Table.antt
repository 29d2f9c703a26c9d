-- What a test that is computed over the tables says of every mode and width, and that past the tables there is nothing. Assumes nothing.
use mathlib.Core.Path.{◌≡◌, refl, ap}
use mathlib.Core.Bool.{Bool, true, ◌&&◌}
use mathlib.Core.List.{List, [], ◌∷◌}
use Prim.Native.Nat.{ℕ, zero, suc, ◌≤◌, ◌<◌}
use native.Mathlib.Omega.{arith}
use lib.Dec.{leb}
use lib.ListN.{length, get_or, get_or-eq_default}
use borrow.Author.Tests.{leb-true}
use Rattle.std.proofs.lemmas.Bool.{agree_below, agree_below_at}
use Rattle.laws.proofs.Choice.{both}

-- every number below n passes
abbrev pub all_below : ℕ → (ℕ → Bool) → Bool
all_below n t = agree_below t (λ k. true) n

pub below : (n : ℕ) (t : ℕ → Bool) → all_below n t ≡ true → (k : ℕ) → k < n → t k ≡ true
below n t e k h = agree_below_at t (λ k. true) n k e h

-- a test of all five modes and three widths
abbrev pub Tested : (ℕ → ℕ → Bool) → Type 0
Tested t = all_below 5 (λ mode. all_below 3 (t mode)) ≡ true

pub tested : (t : ℕ → ℕ → Bool) → Tested t → (mode width : ℕ) → mode < 5 → width < 3 → t mode width ≡ true
tested t e mode width h k = below 3 (t mode) (below 5 (λ m. all_below 3 (t m)) e mode h) width k

-- no row is longer than n
abbrev pub narrow : ℕ → List (List ℕ) → Bool
narrow n [] = true
narrow n (row ∷ rows) = leb (length row) n && narrow n rows

pub past_row : (n : ℕ) (rows : List (List ℕ)) → narrow n rows ≡ true → (mode width : ℕ) → n ≤ width → get_or (get_or rows mode []) width 0 ≡ 0
past_row n [] e mode width h = refl
past_row n (row ∷ rows) e zero width h =
    let short = leb-true (length row) n (both (leb (length row) n) (narrow n rows) e).0 in
    get_or-eq_default row 0 {n = width} (omega arith)
past_row n (row ∷ rows) e (suc mode) width h = past_row n rows (both (leb (length row) n) (narrow n rows) e).1 mode width h

pub past_table : (rows : List (List ℕ)) (mode width : ℕ) → length rows ≤ mode → get_or (get_or rows mode []) width 0 ≡ 0
past_table rows mode width h = ap (λ (row : List ℕ). get_or row width 0) (get_or-eq_default rows [] {n = mode} h)
