-- `words::read_whole` meets its contract. Assumes nothing.
use Rattle.std.proofs.Common.{refl, arith}
use Rattle.words.proofs.Filled.{filled}
use Rattle.words.proofs.read_whole.Goals as goal

pub returns-then-words : goal.returns-then-words
returns-then-words g c =
    let f = filled c.args.words.now g.row.N c.lay.new.words (omega arith) c.lay.ensures in
    (_, omega (arith, f.0), f.1, record { shown = _; shows = refl; says = record { met = c.read.ensures } })

pub returns : goal.returns
returns g c = (_, omega arith, (λ k. refl), record { shown = c.args.words; shows = refl; says = record { met = c.read-2.ensures } })
