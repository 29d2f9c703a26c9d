-- `engine::Sofar::burst_each` meets its contract. Assumes nothing.
use mathlib.Core.Path.{refl}
use native.Mathlib.Omega.{arith}
use Rattle.stretch.specs.Stretch.{trace}
use Rattle.engine.proofs.Bursts.{Stretched, reach_less, placed_in, stretched, stretch_made, stretch_col, stretch_row, stretch_end, burst_left}
use Rattle.engine.proofs.Sofar.burst_each.Goals as goal
use Rattle.engine.proofs.Sofar.burst_each.Goals.{After-draw-drawn}

-- one turn's stretch
turn : (c : After-draw-drawn)
    → let l = c.loop-counts in
    let d = c.draw-drawn in
    Stretched c.args.self c.args.mem.now c.args.budget (trace l.mem l.note l.counts.accesses) l.place.row l.place.col l.counts.ticks c.min-count.result (trace d.new.mem d.result.note d.result.accesses)
turn c = stretched c.loop-counts.invariant.going c.loop-counts-test.true c.reach.ensures c.min-count.ensures c.stretch.ensures c.draw-drawn.ensures

pub overflow_add-counts : goal.overflow_add-counts
overflow_add-counts c = stretch_made (turn (goal.at.overflow_add-counts c).After-draw-drawn)

pub ahead-requires : goal.ahead-requires
ahead-requires c =
    let t = turn (goal.at.ahead-requires c).After-draw-drawn in
    (placed_in c.loop-counts.invariant.going c.loop-counts.invariant.at, reach_less _ _ _ _ _ (omega (arith, t.some)) t.reach)

pub loop-counts-preserved-then-place-columns : goal.loop-counts-preserved-then-place-columns
loop-counts-preserved-then-place-columns c =
    let t = turn (goal.at.loop-counts-preserved-then-place-columns c).After-draw-drawn in
    record { kept = c.loop-counts.invariant.kept; going = rw (c.next_col.ensures, c.ahead.ensures) (stretch_col t (rw (c.ahead.ensures, c.columns-columns.ensures) at c.if-place-columns.true)); at = rw c.next_col.ensures refl }

pub loop-counts-preserved : goal.loop-counts-preserved
loop-counts-preserved c =
    let t = turn (goal.at.loop-counts-preserved c).After-draw-drawn in
    record {
      kept = c.loop-counts.invariant.kept;
      going = rw (c.next_row.ensures, c.ahead.ensures) (stretch_row t (rw (c.ahead.ensures, c.columns-columns.ensures) at c.if-place-columns.false) (rw (c.ahead.ensures, c.rows-rows.ensures) at c.if-place-rows.true));
      at = rw c.next_row.ensures refl;
    }

pub returns-else-place-rows : goal.returns-else-place-rows
returns-else-place-rows c =
    let t = turn (goal.at.returns-else-place-rows c).After-draw-drawn in
    rw (c.end.ensures, c.loop-counts.invariant.kept)
    (stretch_end t (rw (c.ahead.ensures, c.columns-columns.ensures) at c.if-place-columns.false) (rw (c.ahead.ensures, c.rows-rows.ensures) at c.if-place-rows.false))

pub returns : goal.returns
returns c = rw (c.leave.ensures, c.loop-counts.invariant.kept) (burst_left c.loop-counts.invariant.going c.loop-counts-test.false)
