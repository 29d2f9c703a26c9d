-- `install_edges::too_long` is safe: that a memory of 1,048,576 zeros has its length is a law, so that no byte is counted. Assumes nothing.
use Rattle.std.proofs.Common.{ℕ, sym}
use Rattle.std.proofs.lemmas.List.{length-replicate}
use Rattle.install_edges.proofs.too_long.Goals as goal

pub slice_bounds-told-end : goal.slice_bounds-told-end
slice_bounds-told-end g c = sym (length-replicate {A = ℕ} 1048576 0)
