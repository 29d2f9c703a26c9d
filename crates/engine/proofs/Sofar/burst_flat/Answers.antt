-- `engine::Sofar::burst_flat` meets its contract. Assumes nothing.
use mathlib.Core.Path.{refl}
use native.Mathlib.Omega.{arith}
use Rattle.stretch.specs.Stretch.{trace}
use Rattle.engine.proofs.Bursts.{Stretched, placed_in, stretch_made, stretch_done}
use Rattle.engine.proofs.FlatBursts.{turned_left, turned_on, at_once}
use Rattle.engine.proofs.Sofar.burst_flat.Goals as goal
use Rattle.engine.proofs.Sofar.burst_flat.Goals.{After-draw-part}

-- one turn's stretch
turn : (c : After-draw-part)
    → let l = c.loop-place in
    let d = c.draw-part in
    Stretched c.args.self c.args.mem.now c.args.budget (trace l.mem l.note l.counts.accesses) l.place.row l.place.col l.counts.ticks d.result.count (trace d.new.mem d.result.note d.result.accesses)
turn c =
    at_once c.loop-place.invariant.turned c.rows-rows.ensures c.loop-place-test.true c.requires.1 c.reach.ensures c.min-most.ensures c.stretch.ensures
    c.draw-part.ensures.count c.draw-part.ensures.drawn

pub overflow_add-counts : goal.overflow_add-counts
overflow_add-counts c = stretch_made (turn (goal.at.overflow_add-counts c).After-draw-part)

pub overflow_add-counts-in-loop-place : goal.overflow_add-counts-in-loop-place
overflow_add-counts-in-loop-place c = stretch_done (turn (goal.at.overflow_add-counts-in-loop-place c).After-draw-part)

pub after-requires : goal.after-requires
after-requires c =
    let t = turn (goal.at.after-requires c).After-draw-part in
    (placed_in t.going c.loop-place.invariant.at, t.some, t.reach)

pub loop-place-smaller : goal.loop-place-smaller
loop-place-smaller c =
    let t = turn (goal.at.loop-place-smaller c).After-draw-part in
    omega (arith, t.some, t.room)

pub loop-place-preserved : goal.loop-place-preserved
loop-place-preserved c =
    let t = turn (goal.at.loop-place-preserved c).After-draw-part in
    rw c.after.ensures (record { turned = turned_on t; at = refl })

pub returns : goal.returns
returns c = rw c.leave.ensures (turned_left c.loop-place.invariant.turned c.rows-rows.ensures c.loop-place-test.false)
