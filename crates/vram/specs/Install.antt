-- Document 01, "Plans": "Installing writes bytes at an address modulo L", with the refusals 1, 14 and 13 in that order.
use Rattle.std.specs.Prelude.{List, [], ◌∷◌, ℕ, ◌+◌, leb, length, set}
use Rattle.refusal.specs.Sheet.{Told, done, unless, kept}
use Rattle.vram.specs.Memory.{good_length, place}

-- a memory of L bytes, with the bytes of the list from an address on
abbrev pub poured : ℕ → List ℕ → ℕ → List ℕ → List ℕ
poured L mem address [] = mem
poured L mem address (v ∷ vs) = poured L (set mem (place L address) v) (address + 1) vs

-- 1 board, 14 address, 13 room
abbrev pub install_answer : List ℕ → List ℕ → ℕ → Told (Unit {0})
install_answer mem list address =
    unless (good_length (length mem)) 1 (unless (leb address 524287) 14 (unless (leb (length list) 5280) 13 (done tt)))

abbrev pub install_memory : List ℕ → List ℕ → ℕ → List ℕ
install_memory mem list address = kept (install_answer mem list address) mem (poured (length mem) mem address list)
