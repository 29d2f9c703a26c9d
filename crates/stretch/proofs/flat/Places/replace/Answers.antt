-- `stretch::flat::Places::replace` meets its contract. Assumes nothing.
use mathlib.Core.Path.{sym, ◌∙◌}
use Rattle.stretch.proofs.FlatWhole.{by_fill, by_copy, by_one}
use Rattle.stretch.proofs.flat.Places.replace.Goals as goal
use Rattle.stretch.proofs.flat.Places.replace.Goals.{then-stretch-eq1, else-stretch-eq1+then-apart, else-stretch-eq1+else-apart}

pub returns-then-block-eq0 : goal.returns-then-block-eq0
returns-then-block-eq0 c = let p = c.requires in by_fill _ p.flat p.lies p.mode c.if-block-eq0.true c.paint.ensures

pub returns : goal.returns
returns c =
    let p = c.requires in
    elim c.if-stretch-eq1.branch [
      | then-stretch-eq1 w ↦ rw w.mem-is (by_copy _ p.flat p.lies p.mode w.if-stretch-eq1.true w.copy.ensures)
      | else-stretch-eq1+then-apart w ↦ rw w.mem-is (by_one _ p.flat p.lies p.mode c.if-block-eq0.false w.if-stretch-eq1.false (sym w.apart.ensures ∙ w.if-apart.true) (rw w.masked-s.ensures at w.paint-then-apart.ensures))
      | else-stretch-eq1+else-apart w ↦ rw (w.mem-is, p.lies.count) w.copy-else-apart.ensures
    ]
