-- Each contract of this crate admits one outcome only. Assumes nothing.
use mathlib.Core.Path.{sym, ◌∙◌}
use Rattle.laws.proofs.Once.{OneAnswer, OneExit}
use Rattle.framewords.proofs.put_settings.Kinds as put_settings_kinds
use Rattle.framewords.proofs.put_settings.Reads as put_settings_reads
use Rattle.framewords.proofs.settings_of.Kinds as settings_of_kinds
use Rattle.framewords.proofs.settings_of.Reads as settings_of_reads
use Rattle.framewords.proofs.settings_fits.Kinds as settings_fits_kinds
use Rattle.framewords.proofs.settings_fits.Reads as settings_fits_reads
use Rattle.framewords.proofs.frame_of.Kinds as frame_of_kinds
use Rattle.framewords.proofs.frame_of.Reads as frame_of_reads
use Rattle.framewords.proofs.frame_fits.Kinds as frame_fits_kinds
use Rattle.framewords.proofs.frame_fits.Reads as frame_fits_lem
use Rattle.framewords.proofs.put_frame.Kinds as put_frame_kinds
use Rattle.framewords.proofs.put_frame.Reads as put_frame_reads

put_settings_once : OneExit 1 put_settings_kinds.ps put_settings_kinds.r put_settings_reads.Post (λ κs s. s.0.now)
put_settings_once κs a x y s t p q = p ∙ sym q

settings_of_once : OneAnswer 1 settings_of_kinds.ps settings_of_kinds.r settings_of_reads.Post
settings_of_once κs a x y s t p q = p ∙ sym q

settings_fits_once : OneAnswer 1 settings_fits_kinds.ps settings_fits_kinds.r settings_fits_reads.Post
settings_fits_once κs a x y s t p q = p ∙ sym q

frame_of_once : OneAnswer 1 frame_of_kinds.ps frame_of_kinds.r frame_of_reads.Post
frame_of_once κs a x y s t p q = p ∙ sym q

frame_fits_once : OneAnswer 1 frame_fits_kinds.ps frame_fits_kinds.r frame_fits_lem.Post
frame_fits_once κs a x y s t p q = p ∙ sym q

put_frame_once : OneExit 1 put_frame_kinds.ps put_frame_kinds.r put_frame_reads.Post (λ κs s. s.0.now)
put_frame_once κs a x y s t p q = p ∙ sym q
