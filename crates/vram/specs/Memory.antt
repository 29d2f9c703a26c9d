-- Document 01, "What the desk board is": video memory is a lent slice, here a list of bytes.
use Rattle.std.specs.Prelude.{Bool, ◌&&◌, List, ℕ, ◌+◌, ◌*◌, ◌%◌, ◌<◌, eqb, leb, length, get_or}
use Rattle.std.specs.Int.Count.{ones}

-- every byte is below 256
abbrev pub Bytes : List ℕ → Type 0
Bytes s = (i : ℕ) → get_or s i 0 < 256

-- "a number with exactly one bit set, from 16,384 to 524,288"
abbrev pub good_length : ℕ → Bool
good_length L = eqb (ones L) 1 && leb 16384 L && leb L 524288

-- "Every address is 19 bits and wraps at 524,288; a memory access uses it modulo L"
abbrev pub place : ℕ → ℕ → ℕ
place L address = address % 524288 % L

-- the byte at an address, and the one some bytes further on
abbrev pub cell_at : List ℕ → ℕ → ℕ
cell_at mem address = get_or mem (place (length mem) address) 0

abbrev pub byte_at : List ℕ → ℕ → ℕ → ℕ
byte_at mem address offset = cell_at mem (address + offset)

-- numbers of 12 and of 19 bits, low byte first; unused bits of the last byte are ignored
abbrev pub number12 : ℕ → ℕ → ℕ
number12 low high = low + 256 * (high % 16)

abbrev pub number19 : ℕ → ℕ → ℕ → ℕ
number19 low middle high = low + 256 * middle + 65536 * (high % 8)
