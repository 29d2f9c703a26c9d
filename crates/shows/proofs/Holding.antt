-- Memory that holds two lists, one behind the other. Assumes nothing.
use mathlib.Core.Path.{◌≡◌, ap, ◌∙◌}
use mathlib.Core.List.{List, ◌++◌}
use Prim.Native.Nat.{ℕ, ◌+◌, ◌%◌}
use native.Mathlib.Nat.{add_assoc, mod-add-mod}
use native.Mathlib.Omega.{arith}
use lib.ListN.{length, get_or, length-append, get_or-append}
use lib.Seq.{get_or-append-add}
use Rattle.vram.specs.Memory.{cell_at}
use Rattle.shows.specs.Shows.{Holds}

module _ (mem : List ℕ) (a : ℕ) (xs ys : List ℕ) (h : Holds mem a (xs ++ ys)) where
  pub holds_front : Holds mem a xs
  holds_front i lt = h i (simp length-append (omega arith)) ∙ get_or-append xs ys 0 i lt

  -- the second begins at a position of 19 bits
  pub holds_back : (n : ℕ) → length xs ≡ n → Holds mem ((a + n) % 524288) ys
  holds_back n e i lt =
      ap (λ (p : ℕ). get_or mem (p % length mem) 0) (mod-add-mod (a + n) 524288 i)
      ∙ (ap (cell_at mem) (add_assoc a n i ∙ ap (λ (k : ℕ). a + (k + i)) (omega (arith, e)))
      ∙ (h (length xs + i) (simp length-append (omega arith)) ∙ get_or-append-add xs ys i 0))
