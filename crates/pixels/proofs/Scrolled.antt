-- A line of text, scrolled: its cut first character, its whole ones and the cut one more are the columns from hscroll on. Assumes nothing.
use mathlib.Core.Path.{◌≡◌, ap, ◌∙◌}
use mathlib.Core.List.{List, ◌++◌}
use Prim.Native.Nat.{ℕ, ◌+◌, ◌-◌, ◌*◌, ◌/◌, ◌%◌, ◌≤◌, ◌<◌}
use native.Mathlib.Omega.{arith}
use Rattle.pixels.specs.Pixels.{each}
use Rattle.pixels.specs.Fills.{column_pixel}
use Rattle.pixels.specs.declared.text.Inks.{Inks}
use Rattle.pixels.proofs.Each.{each_parts}
use Rattle.pixels.proofs.Pixel.{column_behind}

module _ (piece mem : List ℕ) (font : ℕ) (inks : Inks) (h count : ℕ) where
  pub text_scrolled :
      count % 8 ≡ 0 → h < 8 → 8 ≤ count
      → (n m k : ℕ) → n ≡ 8 - h → m ≡ count - 8 → k ≡ h
      → (one ys zs : List ℕ)
      → one ≡ each (column_pixel piece mem font inks (0 * 8 + h)) 0 n
      → ys ≡ each (column_pixel piece mem font inks (1 * 8)) 0 m
      → zs ≡ each (column_pixel piece mem font inks (count / 8 * 8 + 0)) 0 k
      → one ++ (ys ++ zs) ≡ each (column_pixel piece mem font inks h) 0 count
  text_scrolled cells small some n m k first middle last one ys zs e f g =
      let column = column_pixel piece mem font inks in
      let from-h : 0 * 8 + h ≡ h = omega arith in
      let all : n + (m + k) ≡ count = omega arith in
      let rest = each_parts (column (1 * 8)) (column (count / 8 * 8 + 0)) m k ys zs f g (λ j q. column_behind piece mem font inks (1 * 8) (count / 8 * 8 + 0) (m + j) j (omega arith)) in
      each_parts (column h) (column (1 * 8)) n (m + k) one (ys ++ zs)
      (e ∙ ap (λ (x : ℕ). each (column x) 0 n) from-h)
      rest
      (λ j q. column_behind piece mem font inks h (1 * 8) (n + j) j (omega arith))
      ∙ ap (each (column h) 0) all
