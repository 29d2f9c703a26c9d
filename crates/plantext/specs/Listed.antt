-- How much of a buffer a compiled list fills.
use Rattle.std.specs.Prelude.{ℕ}
use Rattle.refusal.specs.Sheet.{Told, done, refused}

-- the list's bytes; none where the plan is refused
abbrev pub list_size : Told ℕ → ℕ
list_size (done bytes) = bytes
list_size (refused number item) = 0
