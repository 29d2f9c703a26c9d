-- The shortest memory, blank but for a list that was installed: for instances. Assumes nothing.
use mathlib.Core.Path.{◌≡◌, ap, ◌∙◌}
use mathlib.Core.Bool.{true}
use mathlib.Core.List.{List}
use Prim.Native.Nat.{ℕ, ◌+◌, ◌≤◌, ◌<◌}
use lib.ListN.{length, get_or, replicate, length-replicate, get_or-replicate}
use Rattle.refusal.specs.Sheet.{done}
use Rattle.vram.specs.Memory.{good_length, place, byte_at}
use Rattle.vram.specs.Install.{install_answer, install_memory}
use Rattle.vram.proofs.Length.{shortest}
use Rattle.vram.proofs.ReadBack.{takes, installed_byte, installed_other, install_length}

abbrev pub blank : List ℕ
blank = replicate 16384 0

blank_long : length blank ≡ 16384
blank_long = length-replicate {A = ℕ} 16384 0

pub blank_good : good_length (length blank) ≡ true
blank_good = ap good_length blank_long ∙ shortest

module _ (vs : List ℕ) (a : ℕ) where
  pub on_blank_long : length (install_memory blank vs a) ≡ 16384
  on_blank_long = install_length blank vs a ∙ blank_long

  module _ (at_most : a ≤ 524287) (short : length vs ≤ 5280) where
    installs : install_answer blank vs a ≡ done tt
    installs = takes blank vs a (record { board = blank_good; address = at_most; room = short })

    pub on_blank_byte : (j : ℕ) → j < length vs → byte_at (install_memory blank vs a) a j ≡ get_or vs j 0
    on_blank_byte j l = installed_byte blank vs a installs j l

    pub on_blank_other : (i : ℕ) → i < 16384 → ((j : ℕ) → j < length vs → place 16384 (a + j) ≡ i → ⊥) → get_or (install_memory blank vs a) i 0 ≡ 0
    on_blank_other i l none = installed_other blank vs a installs i (λ j u. rw blank_long (none j u)) ∙ get_or-replicate {A = ℕ} 16384 i 0 0 l
