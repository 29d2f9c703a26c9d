-- What the steps of a flat stretch are. Assumes nothing.
use mathlib.Core.Path.{◌≡◌, ◌∙◌}
use mathlib.Core.Bool.{Bool, true, ◌&&◌, ◌||◌}
use Prim.Native.Nat.{ℕ, ◌≤◌}
use lib.Dec.{eqb, leb}
use borrow.Author.Tests.{eqb-true, leb-true, ne_eqb, eq-eqb}
use Rattle.laws.proofs.Choice.{both}
use Rattle.block.specs.Block.{mode_of}
use Rattle.block.specs.declared.Block.{Block}
use Rattle.stretch.specs.Flat.{level_of}

module _ (b : Block) (along step : ℕ) where
  -- the tests that are left
  level_0 : step ≡ 1 → mode_of b ≡ 0 → (eqb b.andmask 0 || leb along 1) ≡ level_of b along step
  unfolding level_of
  level_0 e m = rw (eq-eqb step 1 e, eq-eqb (mode_of b) 0 m)

  level_mixed : step ≡ 1 → (mode_of b ≡ 0 → ⊥) → (eqb b.hitmask 0 && (eqb b.andmask 0 || eqb along 1)) ≡ level_of b along step
  unfolding level_of
  level_mixed e m = rw (eq-eqb step 1 e, ne_eqb (mode_of b) 0 m)

  -- one of two tests, of which the first fails
  other : (t : Bool) → (b.andmask ≡ 0 → ⊥) → (eqb b.andmask 0 || t) ≡ true → t ≡ true
  other t z h = rw (ne_eqb b.andmask 0 z) at h

  module _ (l : level_of b along step ≡ true) where
    pub one_step : step ≡ 1
    unfolding level_of
    one_step = eqb-true step 1 (both (eqb step 1) _ l).0

    pub near : mode_of b ≡ 0 → (b.andmask ≡ 0 → ⊥) → along ≤ 1
    near m z = leb-true along 1 (other (leb along 1) z (level_0 one_step m ∙ l))

    module _ (m : mode_of b ≡ 0 → ⊥) where
      abbrev tests : (eqb b.hitmask 0 ≡ true) × ((eqb b.andmask 0 || eqb along 1) ≡ true)
      tests = both (eqb b.hitmask 0) (eqb b.andmask 0 || eqb along 1) (level_mixed one_step m ∙ l)

      pub no_mask : b.hitmask ≡ 0
      no_mask = eqb-true b.hitmask 0 tests.0

      pub one_along : (b.andmask ≡ 0 → ⊥) → along ≡ 1
      one_along z = eqb-true along 1 (other (eqb along 1) z tests.1)
