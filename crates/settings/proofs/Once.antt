-- Each contract of this crate admits one outcome only. Assumes nothing.
use mathlib.Core.Path.{sym, ◌∙◌}
use Rattle.laws.proofs.Once.{OneAnswer}
use Rattle.settings.proofs.further.Kinds as further_kinds
use Rattle.settings.proofs.further.Reads as further
use Rattle.settings.proofs.Settings.new.Kinds as new_kinds
use Rattle.settings.proofs.Settings.new.Reads as new
use Rattle.settings.proofs.Settings.sound.Kinds as sound_kinds
use Rattle.settings.proofs.Settings.sound.Reads as sound
use Rattle.settings.proofs.Settings.advance.Kinds as advance_kinds
use Rattle.settings.proofs.Settings.advance.Reads as advance
use Rattle.settings.proofs.Settings.dark.Kinds as dark_kinds
use Rattle.settings.proofs.Settings.dark.Reads as dark

further_once : OneAnswer 0 further_kinds.ps further_kinds.r further.Post
further_once κs a x y s t p q = p ∙ sym q

new_once : OneAnswer 0 new_kinds.ps new_kinds.r new.Post
new_once κs a x y s t p q = p ∙ sym q

sound_once : OneAnswer 0 sound_kinds.ps sound_kinds.r sound.Post
sound_once κs a x y s t p q = p ∙ sym q

advance_once : OneAnswer 0 advance_kinds.ps advance_kinds.r advance.Post
advance_once κs a x y s t p q = p ∙ sym q

dark_once : OneAnswer 0 dark_kinds.ps dark_kinds.r dark.Post
dark_once κs a x y s t p q = p ∙ sym q
