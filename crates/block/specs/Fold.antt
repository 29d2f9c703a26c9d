-- A thing done k times, told which time it is: for the bytes of a block, its rows, the blocks of a list.
use Rattle.std.specs.Prelude.{ℕ, zero, suc}

-- f 0, then f 1, up to f (k - 1)
unfoldable pub each {ℓ} : {A : Type ℓ} → (ℕ → A → A) → ℕ → A → A
each f zero a = a
each f (suc k) a = f k (each f k a)
