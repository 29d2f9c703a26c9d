-- A count that a buffer has room for. Assumes nothing.
use Rattle.std.proofs.Common.{ℕ, ◌≤◌, List, length, sym}
use Rattle.std.proofs.Math.Seq.{length-take-le}
use Rattle.plantext.specs.Counts.{IsPrefixLen}

pub prefix_len_of_le : (n : ℕ) (xs : List ℕ) → n ≤ length xs → IsPrefixLen n xs
prefix_len_of_le n xs h = (h, sym (length-take-le n xs h))
