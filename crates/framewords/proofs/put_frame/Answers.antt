-- `framewords::put_frame` meets its contract: five words behind those of the settings. Assumes nothing.
use Rattle.laws.proofs.Choice.{bool_byte_lem}
use Rattle.words.proofs.Laid.{laid_on}
use Rattle.framewords.specs.Frame.{settings_words, place_words, frame_words}
use Rattle.framewords.proofs.put_frame.Goals as goal

pub returns : goal.returns
unfolding frame_words settings_words
returns c =
    let f = c.args.frame in
    let five = simp (c.from.ensures, c.from-2.ensures, c.from-3.ensures, c.from-4.ensures, bool_byte_lem) at c.lay.ensures in
    laid_on (settings_words f.reader.settings) (place_words f) c.args.words.now _ _ c.if-words-lt-FRAME_WORDS.false c.put_settings.ensures five
