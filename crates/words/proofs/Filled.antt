-- Words filled up with zeros: a word that is missing is 0, so at each place they say the same. Assumes nothing.
use mathlib.Core.Path.{◌≡◌, refl, ap, ◌∙◌}
use mathlib.Core.List.{List, [], ◌∷◌, ◌++◌}
use Prim.Native.Nat.{ℕ, zero, suc, ◌≤◌}
use native.Mathlib.Nat.{not-suc-le-zero, le_of_suc-le-suc}
use native.Mathlib.Omega.{arith}
use lib.ListN.{length, drop, replicate, length-replicate, length-append, length-drop}
use Rattle.words.specs.Words.{SameWords, word_at, laid}
use Rattle.words.proofs.Laid.{laid_room}

zeros_at : (n k : ℕ) → word_at (replicate n 0) k ≡ 0
zeros_at zero k = refl
zeros_at (suc n) zero = refl
zeros_at (suc n) (suc k) = zeros_at n k

zeros_behind : (words : List ℕ) (n : ℕ) → length words ≤ n → SameWords (words ++ drop (length words) (replicate n 0)) words
zeros_behind [] n h k = zeros_at n k
zeros_behind (w ∷ words) zero h k = absurd (not-suc-le-zero h)
zeros_behind (w ∷ words) (suc n) h zero = refl
zeros_behind (w ∷ words) (suc n) h (suc k) = zeros_behind words n (le_of_suc-le-suc h) k

pub filled : (words : List ℕ) (n : ℕ) (whole : List ℕ) → length words ≤ n → whole ≡ laid words (replicate n 0) → (length whole ≡ n) × SameWords whole words
filled words n whole h e =
    let is : whole ≡ words ++ drop (length words) (replicate n 0) = e ∙ laid_room words (replicate n 0) (omega (arith, length-replicate {A = ℕ} n 0)) in
    (simp (is, length-append, length-drop, length-replicate) (omega arith), (λ k. ap (λ (l : List ℕ). word_at l k) is ∙ zeros_behind words n h k))
