-- `pixels::paint` meets its contract, mode by mode. Assumes nothing.
use mathlib.Core.Path.{◌∙◌}
use native.Mathlib.Omega.{arith}
use borrow.Author.Rules.{rules}
use lib.ListN.{length}
use Rattle.settings.proofs.Sound.{settings_fit}
use Rattle.pixels.proofs.Modes.{text_bounds, hr_bytes, hr_most, sr_bytes, text_line, nibbles_line, bytes_line}
use Rattle.pixels.proofs.paint.Goals as goal

pub fill-requires : goal.fill-requires
fill-requires c =
    let a = c.args in
    let p = c.requires in
    let k = text_bounds a.mem.now a.video a.settings a.piece.now (length a.line.now) p.piece p.count p.sound c.in-1.is in
    record { cells = k.cells; some = k.some; scroll = k.scroll; even = k.even; room = k.room }

pub nibbles-requires : goal.nibbles-requires
nibbles-requires c =
    let a = c.args in
    let p = c.requires in
    record {
      two = hr_bytes a.mem.now a.video a.settings a.piece.now (length a.line.now) p.piece p.count c.in-3.is;
      most = hr_most a.mem.now a.video a.settings a.piece.now (length a.line.now) p.piece p.count;
    }

pub bytes-requires : goal.bytes-requires
bytes-requires c =
    let a = c.args in
    let p = c.requires in
    sr_bytes a.mem.now a.video a.settings a.piece.now (length a.line.now) p.piece p.count (omega (arith, (settings_fit a.settings p.sound).overlay.mode)) (search rules) (search rules)

pub returns-in-1 : goal.returns-in-1
returns-in-1 c =
    let a = c.args in
    let p = c.requires in
    c.fill.ensures ∙ text_line a.mem.now a.video a.settings a.piece.now (length a.line.now) p.piece p.count c.in-1.is (settings_fit a.settings p.sound).overlay.hscroll _ _ (omega arith) c.new.ensures

pub returns-in-3 : goal.returns-in-3
returns-in-3 c =
    let a = c.args in
    let p = c.requires in
    c.nibbles.ensures ∙ nibbles_line a.mem.now a.video a.settings a.piece.now (length a.line.now) p.piece p.count c.in-3.is

pub returns-in_default : goal.returns-in_default
returns-in_default c =
    let a = c.args in
    let p = c.requires in
    c.bytes.ensures ∙ bytes_line a.mem.now a.video a.settings a.piece.now (length a.line.now) p.piece p.count (omega (arith, (settings_fit a.settings p.sound).overlay.mode)) (search rules) (search rules)
