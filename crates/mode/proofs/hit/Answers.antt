-- `mode::hit` meets its contract. Assumes nothing.
use mathlib.Core.Path.{sym, ◌∙◌}
use native.Mathlib.Omega.{arith}
use Rattle.mode.specs.Mode.{hits}
use Rattle.mode.proofs.Ranges.{eight, paired, none_met, all_met, met}
use Rattle.mode.proofs.hit.Goals as goal

pub returns-then-s-eq0 : goal.returns-then-s-eq0
unfolding hits
returns-then-s-eq0 c = rw c.if-s-eq0.true

pub returns-then-mask-eq0 : goal.returns-then-mask-eq0
returns-then-mask-eq0 c = rw c.if-mask-eq0.true (sym (none_met _ _ _))

pub returns-then-mask-eq255 : goal.returns-then-mask-eq255
returns-then-mask-eq255 c = rw c.if-mask-eq255.true (sym (all_met _ _ _ c.if-s-eq0.false (eight _ _ (omega arith) c.requires)))

pub returns-then-colours-eq32 : goal.returns-then-colours-eq32
returns-then-colours-eq32 c = rw c.if-colours-eq32.true (c.collision_sr.ensures ∙ sym (met _ _ _ _ c.if-s-eq0.false))

pub returns-else-colours-eq32 : goal.returns-else-colours-eq32
returns-else-colours-eq32 c =
    rw (paired _ _ c.if-colours-eq32.false c.requires).0
    (c.collision_hr.ensures ∙ sym (met _ _ _ _ c.if-s-eq0.false))
