-- `words::lay` meets its contract. The loop's invariant: i words are laid, and the others are as they were. Assumes nothing.
use Rattle.std.proofs.Common.{ℕ, List, ◌+◌, ◌∙◌, sym, ap, get_or, arith, zero-add}
use Rattle.std.proofs.Math.ListN.{set}
use Rattle.std.proofs.lemmas.List.Edits.{paste_more}
use Rattle.words.proofs.lay.Goals as goal

pub loop-i-preserved : goal.loop-i-preserved
loop-i-preserved c =
    let l = c.loop-i in
    let new = c.args.new.now in
    ap (λ (j : ℕ). set l.words j (get_or new l.i 0)) (sym (zero-add l.i))
    ∙ ap (λ (words : List ℕ). set words (0 + l.i) (get_or new l.i 0)) l.invariant
    ∙ paste_more c.args.words.now 0 new l.i 0 (omega arith) (omega arith)
