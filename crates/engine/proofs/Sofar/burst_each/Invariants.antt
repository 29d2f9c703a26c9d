-- `engine::Sofar::burst_each` meets its contract. The invariant is `Bursting`, at a place that is what it should be. Assumes nothing.
use mathlib.Core.Path.{◌≡◌}
use Prim.Native.Nat.{◌-◌}
use Rattle.stretch.specs.Stretch.{trace}
use Rattle.engine.specs.Engine.{place_at}
use Rattle.engine.proofs.Bursts.{Bursting}
use Rattle.engine.proofs.Sofar.burst_each.Given as goal

abbrev pub invariant-loop-counts : goal.invariant-loop-counts
invariant-loop-counts l =
    record {
      kept : l.self ≡ l.initial.self;
      going : Bursting l.initial.self l.initial.mem l.budget (trace l.mem l.note l.counts.accesses) l.place.row l.place.col l.counts.ticks;
      at : l.place ≡ place_at l.initial.self.blitter.block l.place.row l.place.col;
    }

abbrev pub decreases-loop-counts : goal.decreases-loop-counts
decreases-loop-counts l = l.budget - l.counts.ticks
