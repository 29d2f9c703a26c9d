-- `engine::Sofar::burst_flat` meets its contract. The invariant is `Turned`, at a place that is what it should be. Assumes nothing.
use mathlib.Core.Path.{◌≡◌}
use Prim.Native.Nat.{◌-◌}
use Rattle.stretch.specs.Stretch.{trace}
use Rattle.engine.specs.Engine.{place_at}
use Rattle.engine.proofs.FlatBursts.{Turned}
use Rattle.engine.proofs.Sofar.burst_flat.Given as goal

abbrev pub invariant-loop-place : goal.invariant-loop-place
invariant-loop-place l =
    record {
      turned : Turned l.self l.initial.mem l.budget (trace l.mem l.note l.counts.accesses) l.place.row l.place.col l.counts.ticks;
      at : l.place ≡ place_at l.self.blitter.block l.place.row l.place.col;
    }

abbrev pub decreases-loop-place : goal.decreases-loop-place
decreases-loop-place l = l.budget - l.counts.ticks
