-- Document 01, "The blitter": the mode table and the collision rules, for one destination byte. s is the source byte after both masks, d the destination byte before.
use Rattle.std.specs.Prelude.{Bool, true, false, not, cond, ◌&&◌, [], ◌∷◌, ℕ, ◌+◌, ◌*◌, ◌/◌, ◌%◌, eqb, get_or}
use Rattle.std.specs.Int.Bits.{bit_and, bit_or, bit_xor}
use Rattle.laws.specs.Bit.{bit}
use Rattle.mode.specs.declared.Stroke.{Stroke}

-- "each nibble of s that is not 0 replaces that of d"
unfoldable pub over_nibble : ℕ → ℕ → ℕ
over_nibble s d = cond (eqb s 0) d s

unfoldable pub over : ℕ → ℕ → ℕ
over s d = over_nibble (s / 16) (d / 16) * 16 + over_nibble (s % 16) (d % 16)

-- The table, an entry for each mode from 0: what is written,
unfoldable pub value_in : ℕ → ℕ → ℕ → ℕ
value_in mode s d = get_or (s ∷ s ∷ (d + s) % 256 ∷ bit_or d s ∷ bit_and d s ∷ bit_xor d s ∷ over s d ∷ []) mode d

-- whether it is written: modes 1, 2, 3 and 6 skip s = 0, mode 7 does nothing,
unfoldable pub writes_in : ℕ → ℕ → Bool
writes_in mode s =
    let some = not (eqb s 0) in
    get_or (true ∷ some ∷ some ∷ some ∷ true ∷ true ∷ some ∷ []) mode false

-- and the destination accesses: none "where s=0 skips the write", and none in mode 7
unfoldable pub cost_in : ℕ → ℕ → ℕ
cost_in mode mask = get_or (1 ∷ cond (eqb mask 0) 1 2 ∷ 2 ∷ 2 ∷ 2 ∷ 2 ∷ 2 ∷ []) mode 0

unfoldable pub accesses_in : ℕ → ℕ → ℕ → ℕ
accesses_in mode mask s = cond (writes_in mode s) (cost_in mode mask) 0

-- "s≠0, d≠0 and mask bit floor(d/32) set"; for a nibble floor(d nibble/2)
unfoldable pub hits : ℕ → ℕ → ℕ → ℕ → Bool
hits colours mask s d = not (eqb s 0) && not (eqb d 0) && bit mask (d / colours)

-- a collision puts d into the code, or d's nibble into the code's
unfoldable pub code_by : ℕ → ℕ → ℕ → ℕ → ℕ → ℕ
code_by colours mask s d code = cond (hits colours mask s d) d code

-- "Collision, modes 1 to 5"
unfoldable pub code_byte : ℕ → ℕ → ℕ → ℕ → ℕ
code_byte mask s d code = code_by 32 mask s d code

-- "Mode 6, each nibble apart"
unfoldable pub code_nibbles : ℕ → ℕ → ℕ → ℕ → ℕ
code_nibbles mask s d code =
    code_by 2 mask (s / 16) (d / 16) (code / 16) * 16 + code_by 2 mask (s % 16) (d % 16) (code % 16)

unfoldable pub code_in : ℕ → ℕ → ℕ → ℕ → ℕ → ℕ
code_in mode mask s d code =
    let one = code_byte mask s d code in
    get_or (code ∷ one ∷ one ∷ one ∷ one ∷ one ∷ code_nibbles mask s d code ∷ []) mode code

-- one destination byte, whole
unfoldable pub stroke_of : ℕ → ℕ → ℕ → ℕ → ℕ → Stroke
stroke_of mode mask s d code =
    record { written = writes_in mode s; value = value_in mode s d; code = code_in mode mask s d code; accesses = accesses_in mode mask s }
