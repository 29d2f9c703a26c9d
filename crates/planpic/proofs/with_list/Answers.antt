-- `planpic::with_list` is safe: that an image of 524,289 zeros has its length is a law, so that no byte is counted. Assumes nothing.
use Rattle.std.proofs.Common.{ℕ, sym}
use Rattle.std.proofs.lemmas.List.{length-replicate}
use Rattle.planpic.proofs.with_list.Goals as goal

pub slice_bounds-with_image-end : goal.slice_bounds-with_image-end
slice_bounds-with_image-end g c = sym (length-replicate {A = ℕ} 524289 0)
