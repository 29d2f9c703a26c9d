-- One bit of a number.
use Rattle.std.specs.Prelude.{Bool, ℕ, ◌/◌, ◌%◌, ◌^◌, eqb}

-- whether bit k of v is set
abbrev pub bit : ℕ → ℕ → Bool
bit v k = eqb (v / 2 ^ k % 2) 1
