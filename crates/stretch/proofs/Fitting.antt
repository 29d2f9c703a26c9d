-- How many bytes come before a wrap: they, and their sources where they are read, end inside memory. Assumes nothing.
use mathlib.Core.Path.{◌≡◌}
use mathlib.Core.Bool.{true, ◌&&◌}
use Prim.Native.Nat.{ℕ, ◌-◌, ◌≤◌, ◌<◌}
use native.Mathlib.Omega.{arith}
use lib.Dec.{eqb, ltb}
use borrow.Author.Tests.{ltb-true, ltb-false, eqb-true}
use Rattle.laws.proofs.Choice.{by_cond, both}
use Rattle.vram.specs.Memory.{good_length, place}
use Rattle.block.specs.declared.Block.{Block}
use Rattle.stretch.specs.declared.Stretch.{Stretch}
use Rattle.stretch.specs.Flat.{level_of, Inside, Flat, until_end, before_wrap, flat_count, first_of}
use Rattle.stretch.proofs.Places.{place_in}

-- they end inside memory, and some are left of some
pub record Some (L address most r : ℕ) : Type 0 where
  pub some : 0 < most → 0 < r
  pub few : r ≤ most
  pub inside : Inside L address r

module _ (L : ℕ) (g : good_length L ≡ true) where
  some_left : (address count : ℕ) → Some L address count (until_end L address count)
  unfolding until_end
  some_left address count =
      let p = place L address in
      let under = place_in L g address in
      by_cond (Some L address count) (ltb (L - p) count) (L - p) count
      (λ t. let l = ltb-true (L - p) count t in record { some = λ h. omega arith; few = omega arith; inside = omega arith })
      (λ t. let l = ltb-false (L - p) count t in record { some = λ h. h; few = omega arith; inside = omega arith })

  module _ (b : Block) (s : Stretch) where
    abbrev here : Some L s.to s.count (until_end L s.to s.count)
    here = some_left s.to s.count

    abbrev there : Some L s.from (until_end L s.to s.count) (until_end L s.from (until_end L s.to s.count))
    there = some_left s.from (until_end L s.to s.count)

    before_wrap_some : Some L s.to s.count (before_wrap L b s) × ((b.andmask ≡ 0 → ⊥) → Inside L s.from (before_wrap L b s))
    unfolding before_wrap
    before_wrap_some =
        by_cond (λ (r : ℕ). Some L s.to s.count r × ((b.andmask ≡ 0 → ⊥) → Inside L s.from r)) (eqb b.andmask 0) (until_end L s.to s.count) _
        (λ t. (here, λ f. absurd (f (eqb-true b.andmask 0 t))))
        (λ t. (record { some = λ h. there.some (here.some h); few = omega (arith, here.few, there.few); inside = omega (arith, here.inside, there.few) }, λ _. there.inside))

    -- and a part of a stretch is flat where the steps are
    pub part_flat : level_of b s.along s.step ≡ true → (count : ℕ) → count ≡ before_wrap L b s → Flat L b (first_of s count)
    part_flat l count e = record { level = l; to_in = rw e before_wrap_some.0.inside; from_in = λ z. rw e (before_wrap_some.1 z) }

-- the number of bytes drawn
module _ (L : ℕ) (b : Block) (s : Stretch) (t : (good_length L && level_of b s.along s.step) ≡ true) where
  -- some of some
  pub some_drawn : 0 < s.count → 0 < flat_count L b s
  unfolding flat_count
  some_drawn h = rw t ((before_wrap_some L (both (good_length L) _ t).0 b s).0.some h)

  pub few_drawn : flat_count L b s ≤ s.count
  unfolding flat_count
  few_drawn = rw t (before_wrap_some L (both (good_length L) _ t).0 b s).0.few
