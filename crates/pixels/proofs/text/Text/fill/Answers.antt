-- `pixels::text::Text::fill` meets its contract. Assumes nothing.
use native.Mathlib.Omega.{arith}
use lib.ListN.{length}
use Rattle.pixels.proofs.Scrolled.{text_scrolled}
use Rattle.pixels.proofs.text.Text.fill.Goals as goal

pub returns : goal.returns
returns c =
    let t = c.args.self in
    let p = c.requires in
    text_scrolled t.piece.now t.mem.now t.font t.inks c.args.hscroll (length c.args.line.now) p.cells p.scroll p.some _ _ _
    (omega arith)
    (omega arith)
    (omega arith)
    _ _ _
    c.cut.ensures
    c.characters-2.ensures
    c.cut-2.ensures
