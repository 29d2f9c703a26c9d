-- `pixels::text::Text::font_byte` meets its contract: a board's length less one is a mask. Assumes nothing.
use mathlib.Core.Path.{sym, ap, ◌∙◌}
use Prim.Native.Nat.{ℕ, ◌+◌, ◌*◌}
use lib.ListN.{length, get_or}
use Rattle.vram.proofs.Length.{good, wrap, mask_is}
use Rattle.pixels.proofs.text.Text.font_byte.Goals as goal

pub returns : goal.returns
returns c =
    let t = c.args.self in
    let at = t.font + c.args.char * 8 in
    ap (λ (k : ℕ). get_or t.mem.now k 0) (mask_is (length t.mem.now) at (good _ t.good).one ∙ sym (wrap (length t.mem.now) t.good at))
