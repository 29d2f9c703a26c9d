-- Words within a table: one word more, none past the end, two tables, and what is known of each word. Assumes nothing.
use Rattle.std.proofs.Common.{◌≡◌, refl, Bool, true, false, ◌&&◌, List, [], ◌∷◌, ◌++◌, ℕ, zero, suc, ◌+◌, ◌≤◌, ◌<◌, min, length, drop, get_or, eqb, leb, arith, add-one, add-zero, drop-cons, inl, inr}
use Rattle.std.proofs.Math.Dec.{leb-zero}
use Rattle.std.proofs.Math.ListN.{drop_of_length-le}
use Rattle.std.proofs.Math.Nat.{mod-eq_of_lt}
use Rattle.std.proofs.lemmas.Bool.{leb-true, cases_lt}
use Rattle.std.proofs.lemmas.List.{get_or_past}
use Rattle.std.specs.Cmp.Derive.{both_true}
use Rattle.laws.proofs.Choice.{both}
use Rattle.words.specs.Words.{word_at, byte_in, half_in, switch_word, a_byte, a_half, within}

-- a word's test, and those of the words behind it
pub within_next : (most words : List ℕ) (i : ℕ) → i < length most → within (drop i most) words i ≡ (leb (word_at words i) (get_or most i 0) && within (drop (i + 1) most) words (i + 1))
unfolding within
within_next most words i h = rw (add-one, drop-cons most i 0 h) (rw (add-one i) refl)

-- past the end there are zeros, and these are within every limit
within_past : (most words : List ℕ) (k : ℕ) → length words ≤ k → within most words k ≡ true
unfolding within
within_past [] words k h = refl
within_past (m ∷ more) words k h = both_true (rw (get_or_past words k 0 h) (leb-zero m)) (within_past more words (k + 1) (omega arith))

-- so where the limits or the words are at an end, the rest is within
pub within_rest : (most words : List ℕ) (i : ℕ) → min (length words) (length most) ≤ i → within (drop i most) words i ≡ true
unfolding within
within_rest most words i h =
    elim (cases_lt i (length words)) [ inl a ↦ rw (drop_of_length-le most {i = i} (omega arith)) | inr b ↦ within_past (drop i most) words i b ]

-- the words of the table in front are within it
pub within_front : (most more words : List ℕ) (k : ℕ) → within (most ++ more) words k ≡ true → within most words k ≡ true
unfolding within
within_front [] more words k e = refl
within_front (m ∷ most) more words k e =
    let b = both (leb (word_at words k) m) (within (most ++ more) words (k + 1)) e in
    both_true b.0 (within_front most more words (k + 1) b.1)

-- each word is at most its limit
within_at : (most words : List ℕ) (k i j : ℕ) → j ≡ k + i → within most words k ≡ true → i < length most → word_at words j ≤ get_or most i 0
unfolding within
within_at [] words k i j is e h = absurd (omega arith)
within_at (m ∷ more) words k zero j is e h = rw (is, add-zero k) (leb-true (word_at words k) m (both (leb (word_at words k) m) (within more words (k + 1)) e).0)
within_at (m ∷ more) words k (suc i) j is e h = within_at more words (k + 1) i j (omega arith) (both (leb (word_at words k) m) (within more words (k + 1)) e).1 (omega arith)

-- so a byte's word, or one of 16 bits, is the field's value
module _ (most words : List ℕ) (fits : within most words 0 ≡ true) (i : ℕ) where
  most_at : (m : ℕ) → 0 < m → get_or most i 0 ≡ m → word_at words i ≤ m
  most_at m h e =
      elim (cases_lt i (length most)) [ inl a ↦ rw e at (within_at most words 0 i i (omega arith) fits a) | inr b ↦ absurd (omega (arith, get_or_past most i 0 b)) ]

  pub byte_kept : get_or most i 0 ≡ a_byte → byte_in words i ≡ word_at words i
  byte_kept e = mod-eq_of_lt (let s = most_at a_byte (omega arith) e in omega arith)

  pub half_kept : get_or most i 0 ≡ a_half → half_in words i ≡ word_at words i
  half_kept e = mod-eq_of_lt (let s = most_at a_half (omega arith) e in omega arith)

-- a switch comes back
pub switch_kept : (on : Bool) → eqb (switch_word on) 1 ≡ on
switch_kept true = refl
switch_kept false = refl
