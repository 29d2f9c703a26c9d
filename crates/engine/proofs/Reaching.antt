-- How far a place's stretch reaches, and the place k bytes on. Assumes nothing.
use mathlib.Core.Path.{◌≡◌, refl, sym, ap, ◌∙◌}
use mathlib.Core.Bool.{true, false}
use mathlib.Core.Logic.{inr}
use Prim.Native.Nat.{ℕ, ◌+◌, ◌-◌, ◌/◌, ◌%◌, ◌≤◌, ◌<◌, min}
use native.Mathlib.Nat.{mod-lt, mod-one, div-one}
use native.Mathlib.Omega.{arith}
use Rattle.block.specs.Block.{zoom_x, pattern_of, columns_of}
use Rattle.block.specs.declared.Block.{Block}
use Rattle.block.proofs.Place.{far_col}
use Rattle.block.proofs.Sizes.{columns_small, rows_small, pattern_pos}
use Rattle.blitter.proofs.Sound.{Inside, first_inside}
use Rattle.engine.specs.declared.Place.{Place}
use Rattle.engine.specs.Engine.{place_at, Placed, Column, Row, Reach, tall_of, ahead_row, ahead_col}
use Rattle.engine.proofs.Following.{down_is, across_is, sourcerow_is, sourcecol_is, across_small, sourcerow_small, sourcecol_small}

module _ {b : Block} {p : Place} (q : Placed b p) where
  zoom_x_pos : 0 < zoom_x b
  zoom_x_pos = omega arith

  pub sourcecol_in : p.sourcecol < pattern_of b
  sourcecol_in = grind (arith, mod-lt, pattern_pos)

  pub reach_plain : tall_of b ≡ false → zoom_x b ≡ 1 → {n : ℕ} → n ≡ min (columns_of b - p.col) (pattern_of b - p.sourcecol) → (0 < n) × Reach b p.row p.col n
  reach_plain t e {n} m =
      let least : (0 < n) × (n ≤ columns_of b - p.col) × (n ≤ pattern_of b - p.sourcecol) = (omega (arith, q.col_in, sourcecol_in), omega arith, omega arith) in
      (least.0, inr (record { wide = t; left = omega (arith, least.1, q.col_in); plain = λ _. omega (arith, least.2, sourcecol_is b p q.at, sourcecol_in); zoomed = λ f. absurd (f e) }))

  module _ (k : ℕ) (r : Reach b p.row p.col (k + 1)) where
    as_column : tall_of b ≡ true → Column b p.row (k + 1)
    as_column t = grind arith

    as_row : tall_of b ≡ false → Row b p.col (k + 1)
    as_row f = grind arith

    -- what is in reach is inside the block
    pub ahead_in : Inside b (ahead_row b p.row k) (ahead_col b p.col k)
    ahead_in = grind arith

    -- along a row, in the given source column
    ahead_along : tall_of b ≡ false → (across sourcecol : ℕ) → across ≡ (p.col + k) % zoom_x b → sourcecol ≡ (p.col + k) / zoom_x b % pattern_of b
        → record { row = p.row; col = p.col + k; down = p.down; across = across; sourcerow = p.sourcerow; sourcecol = sourcecol }
        ≡ place_at b (ahead_row b p.row k) (ahead_col b p.col k)
    ahead_along t across sourcecol e f = rw t (λ i. record { row = p.row; col = p.col + k; down = down_is b p q.at i; across = e i; sourcerow = sourcerow_is b p q.at i; sourcecol = f i })

    pub ahead_plain : tall_of b ≡ false → zoom_x b ≡ 1
        → record { row = p.row; col = p.col + k; down = p.down; across = p.across; sourcerow = p.sourcerow; sourcecol = p.sourcecol + k }
        ≡ place_at b (ahead_row b p.row k) (ahead_col b p.col k)
    ahead_plain t one =
        let near : p.col / zoom_x b % pattern_of b + k < pattern_of b = omega (arith, (as_row t).plain one) in
        let on : (p.col + k) / zoom_x b ≡ p.col / zoom_x b + k = rw (one, div-one (p.col + k), div-one p.col) refl in
        ahead_along t p.across (p.sourcecol + k)
        (across_is b p q.at ∙ rw (one, mod-one p.col, mod-one (p.col + k)) refl)
        (ap (λ (x : ℕ). x + k) (sourcecol_is b p q.at) ∙ sym (ap (λ (x : ℕ). x % pattern_of b) on ∙ (far_col (pattern_of b) (pattern_pos b) (p.col / zoom_x b) k near).1))

    pub ahead_zoomed : tall_of b ≡ false → (zoom_x b ≡ 1 → ⊥)
        → record { row = p.row; col = p.col + k; down = p.down; across = p.across + k; sourcerow = p.sourcerow; sourcecol = p.sourcecol }
        ≡ place_at b (ahead_row b p.row k) (ahead_col b p.col k)
    ahead_zoomed t more =
        let near : p.col % zoom_x b + k < zoom_x b = omega (arith, (as_row t).zoomed more) in
        let far = far_col (zoom_x b) zoom_x_pos p.col k near in
        ahead_along t (p.across + k) p.sourcecol
        (ap (λ (x : ℕ). x + k) (across_is b p q.at) ∙ sym far.1)
        (sourcecol_is b p q.at ∙ ap (λ (x : ℕ). x % pattern_of b) (sym far.0))

-- behind so many bytes, l being the place of the last
module _ {b : Block} {p : Place} (q : Placed b p) {count : ℕ} (some : 0 < count) (r : Reach b p.row p.col count) {l : Place}
    (e : l ≡ place_at b (ahead_row b p.row (count - 1)) (ahead_col b p.col (count - 1))) where
  pub last_at : l ≡ place_at b l.row l.col
  last_at = rw e refl

  pub last_inside : Inside b l.row l.col
  last_inside = grind (arith, ahead_in)

-- a block's first place is inside it
pub first_placed : (b : Block) (p : Place) → p ≡ place_at b 0 0 → Placed b p
first_placed b p e = let first = first_inside b in rw e (record { at = refl; row_in = first.row_in; col_in = first.col_in })

-- no reach is long
pub reach_small : (b : Block) (row col n : ℕ) → b.height < 256 → b.width0 < 256 → Reach b row col n → n ≤ 4096
reach_small b row col n h w = grind (arith, rows_small, columns_small)

-- a place inside its block is small, and so is what is in reach of it
pub ruleset small = (columns_small, rows_small, across_small, sourcerow_small, sourcecol_small, reach_small)

pub ruleset ahead_is = (ahead_plain, ahead_zoomed)

pub ruleset last_is = (last_at, last_inside)
