-- Flat stretches: bytes that lie one after the other in memory. Nothing here is needed to read what the calls promise.
use Rattle.std.specs.Prelude.{◌≡◌, Bool, true, cond, ◌&&◌, ◌||◌, List, ℕ, zero, suc, ◌+◌, ◌-◌, ◌≤◌, eqb, leb, ltb, set}
use Rattle.vram.specs.Memory.{good_length, place}
use Rattle.block.specs.Block.{mode_of}
use Rattle.block.specs.declared.Block.{Block}
use Rattle.stretch.specs.declared.Stretch.{Stretch}
use Rattle.stretch.specs.declared.flat.Places.{Places}

-- the steps: 1, and 1 of the sources where they are read, or 0 in mode 0, where one byte is copied many times; and no collision can be seen
unfoldable pub level_of : Block → ℕ → ℕ → Bool
level_of b along step =
    let unread = eqb b.andmask 0 in
    eqb step 1 && cond (eqb (mode_of b) 0) (unread || leb along 1) (eqb b.hitmask 0 && (unread || eqb along 1))

-- so many bytes from an address on end before a memory of L bytes does
abbrev pub Inside : ℕ → ℕ → ℕ → Type 0
Inside L address count = place L address + count ≤ L

-- a flat stretch
pub record Flat (L : ℕ) (b : Block) (s : Stretch) : Type 0 where
  pub level : level_of b s.along s.step ≡ true
  pub to_in : Inside L s.to s.count
  pub from_in : (b.andmask ≡ 0 → ⊥) → Inside L s.from s.count

-- its places: bytes and sources are inside a board's memory,
pub record Within (L : ℕ) (p : Places) : Type 0 where
  pub good : good_length L ≡ true
  pub at_in : p.at + p.count ≤ L
  pub from_in : p.from + p.count ≤ L

-- and begin where the stretch says, the sources where they are read
pub record Lies (L : ℕ) (b : Block) (s : Stretch) (p : Places) : Type 0 where
  pub count : p.count ≡ s.count
  pub at : p.at ≡ place L s.to
  pub from : (b.andmask ≡ 0 → ⊥) → p.from ≡ place L s.from
  pub within : Within L p

-- how many of so many bytes come before memory's end,
unfoldable pub until_end : ℕ → ℕ → ℕ → ℕ
until_end L address count = cond (ltb (L - place L address) count) (L - place L address) count

-- and how many of a stretch, with their sources
unfoldable pub before_wrap : ℕ → Block → Stretch → ℕ
before_wrap L b s =
    let count = until_end L s.to s.count in
    cond (eqb b.andmask 0) count (until_end L s.from count)

-- how many are drawn at once: none where the stretch is not flat, or in a memory of no board's length
unfoldable pub flat_count : ℕ → Block → Stretch → ℕ
flat_count L b s = cond (good_length L && level_of b s.along s.step) (before_wrap L b s) 0

-- a stretch's first bytes
abbrev pub first_of : Stretch → ℕ → Stretch
first_of s count = record { from = s.from; along = s.along; to = s.to; step = s.step; count = count }

-- one value in n places from at on
unfoldable pub painted : ℕ → List ℕ → ℕ → ℕ → List ℕ
painted v mem at zero = mem
painted v mem at (suc n) = painted v (set mem at v) (at + 1) n
