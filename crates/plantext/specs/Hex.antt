-- Document 01, "At the edges": "one line a record in hex".
use Rattle.std.specs.Prelude.{Bool, true, false, cond, List, [], ◌∷◌, ◌++◌, ℕ, ◌+◌, ◌/◌, ◌%◌, ltb}

-- "0" to "9", then "A" to "F"
abbrev pub digit_of : ℕ → ℕ
digit_of n = cond (ltb n 10) (48 + n) (55 + n)

-- a space between bytes, the line's end behind the last
abbrev pub behind_of : Bool → ℕ
behind_of last = cond last 10 32

-- a byte: two digits and what stands behind them
abbrev pub hex_of : ℕ → Bool → List ℕ
hex_of b last = digit_of (b / 16) ∷ digit_of (b % 16) ∷ behind_of last ∷ []

-- whether no byte is left
abbrev pub is_empty : List ℕ → Bool
is_empty [] = true
is_empty (b ∷ bs) = false

-- the line of some bytes
unfoldable pub hex_line : List ℕ → List ℕ
hex_line [] = []
hex_line (b ∷ bs) = hex_of b (is_empty bs) ++ hex_line bs
