-- include/deskboard.h: "States are lent as words, one 32-bit word a field".
use Rattle.std.specs.Prelude.{◌≡◌, Bool, true, cond, ◌&&◌, List, [], ◌∷◌, ◌++◌, ℕ, ◌+◌, ◌%◌, eqb, leb, length, drop, get_or}

-- the word at a place; past the end there is 0
abbrev pub word_at : List ℕ → ℕ → ℕ
word_at words k = get_or words k 0

-- it as a byte, as 16 bits and as a switch: of a word within its field's type, the word itself
abbrev pub byte_in : List ℕ → ℕ → ℕ
byte_in words k = word_at words k % 256

abbrev pub half_in : List ℕ → ℕ → ℕ
half_in words k = word_at words k % 65536

abbrev pub switch_in : List ℕ → ℕ → Bool
switch_in words k = eqb (word_at words k) 1

-- a switch as a word
abbrev pub switch_word : Bool → ℕ
switch_word on = cond on 1 0

-- the largest word of a byte, of 16 bits and of 32 bits
abbrev pub a_byte : ℕ
a_byte = 255

abbrev pub a_half : ℕ
a_half = 65535

abbrev pub a_word : ℕ
a_word = 4294967295

-- the words from place k on are at most these
unfoldable pub within : List ℕ → List ℕ → ℕ → Bool
within [] words k = true
within (most ∷ more) words k = leb (word_at words k) most && within more words (k + 1)

-- a state's words laid over what is lent: "words past the last stay as they are". Where there is no room nothing is written
abbrev pub laid : List ℕ → List ℕ → List ℕ
laid new old = cond (leb (length new) (length old)) (new ++ drop (length new) old) old

-- two buffers that say the same at each place
abbrev pub SameWords : List ℕ → List ℕ → Type 0
SameWords a b = (k : ℕ) → word_at a k ≡ word_at b k
