-- `pixels::text::lit` meets its contract. Assumes nothing.
use mathlib.Core.Path.{ap, ◌∙◌}
use mathlib.Core.List.{List}
use Prim.Native.Nat.{ℕ, ◌+◌, ◌-◌, ◌*◌, ◌/◌, ◌%◌}
use native.Mathlib.Omega.{arith}
use lib.ListN.{get_or}
use Rattle.pixels.proofs.Inks.{lit_left, lit_right}
use Rattle.pixels.proofs.text.lit.Goals as goal

pub returns-then-part-lt4 : goal.returns-then-part-lt4
returns-then-part-lt4 c =
    let a = c.args in
    ap (λ (l : List ℕ). get_or l (a.bits / 16 * 4 + a.part) 0) c.requires.table ∙ lit_left a.bits a.part (omega arith) c.if-part-lt4.true

pub returns : goal.returns
returns c =
    let a = c.args in
    ap (λ (l : List ℕ). get_or l (a.bits % 16 * 4 + (a.part - 4)) 0) c.requires.table ∙ lit_right a.bits a.part c.if-part-lt4.false c.requires.part
