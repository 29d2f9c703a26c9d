-- `stretch::index` meets its contract: a board's length less one is a mask, and no wrap at 524,288 is needed first. Assumes nothing.
use mathlib.Core.Path.{sym, ◌∙◌}
use Rattle.vram.proofs.Length.{good, wrap, mask_is, mask_under}
use Rattle.stretch.proofs.index.Goals as goal

pub returns : goal.returns
returns c =
    let a = c.args in
    let one = (good a.n c.requires).one in
    (mask_is a.n a.address one ∙ sym (wrap a.n c.requires a.address), mask_under a.n a.address one)
