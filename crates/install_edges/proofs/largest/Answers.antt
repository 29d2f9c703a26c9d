-- `install_edges::largest` is safe: that a memory of 524,288 zeros has its length is a law, so that no byte is counted. Assumes nothing.
use Rattle.std.proofs.Common.{ℕ, sym}
use Rattle.std.proofs.lemmas.List.{length-replicate}
use Rattle.install_edges.proofs.largest.Goals as goal

pub slice_bounds-in_the_largest-end : goal.slice_bounds-in_the_largest-end
slice_bounds-in_the_largest-end g c = sym (length-replicate {A = ℕ} 524288 0)
