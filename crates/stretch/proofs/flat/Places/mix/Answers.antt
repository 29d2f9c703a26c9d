-- `stretch::flat::Places::mix` meets its contract, in whatever mode. Assumes nothing.
use mathlib.Core.Path.{◌≡◌, refl}
use native.Mathlib.Omega.{arith}
use Rattle.laws.proofs.Choice.{bool_byte_lem, bool_small}
use Rattle.block.specs.Byte.{reads_source}
use Rattle.stretch.proofs.Passing.{passed_mix, passed_all}
use Rattle.stretch.proofs.flat.Places.mix.Goals as goal

pub loop-k-preserved : goal.loop-k-preserved
loop-k-preserved g c =
    let p = c.requires in
    let l = c.loop-k in
    record {
      few = omega (arith, l.invariant.few, bool_small c.writes.result);
      passed = rw (c.after.ensures, c.writes.ensures, c.masked-s.ensures) (passed_mix l.invariant.passed l.auto.mem p.within c.loop-k-test.true _ p.mode p.under p.clear l.wrote refl);
    }

pub returns : goal.returns
returns g c =
    let all : c.loop-k.k ≡ c.args.self.count = omega arith in
    rw (c.cost.ensures, c.reads.ensures, bool_byte_lem (reads_source c.args.block)) (passed_all (rw all at c.loop-k.invariant.passed))
