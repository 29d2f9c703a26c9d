-- `stretch::flat::Places::copy` meets its contract. Assumes nothing.
use mathlib.Core.Path.{◌≡◌, refl}
use native.Mathlib.Omega.{arith}
use Rattle.stretch.proofs.Passing.{passed_copy, passed_all}
use Rattle.stretch.proofs.flat.Places.copy.Goals as goal

pub loop-k-preserved : goal.loop-k-preserved
loop-k-preserved c =
    let p = c.requires in
    let l = c.loop-k in
    rw c.masked.ensures (passed_copy l.invariant l.auto.mem p.within c.loop-k-test.true p.mode p.read refl)

pub returns : goal.returns
returns c =
    let all : c.loop-k.k ≡ c.args.self.count = omega arith in
    passed_all (rw all at c.loop-k.invariant)
