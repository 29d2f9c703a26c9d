-- A whole flat stretch, by the places of its bytes, in each kind of loop. Assumes nothing.
use mathlib.Core.Path.{◌≡◌, refl, sym, ap, ◌∙◌}
use mathlib.Core.Bool.{Bool, true, false, ◌||◌}
use mathlib.Core.List.{List}
use Prim.Native.Nat.{ℕ, ◌+◌, ◌*◌, ◌<◌}
use native.Mathlib.Nat.{zero-add}
use native.Mathlib.Omega.{arith}
use lib.Bits.{bit_and, bit_xor}
use lib.Dec.{eqb, leb, ltb}
use lib.ListN.{length, get_or}
use borrow.Author.Tests.{eqb-true, eqb-false, lt-leb, le-ltb}
use Rattle.laws.proofs.Choice.{true_false}
use Rattle.vram.specs.Memory.{place}
use Rattle.block.specs.Block.{mode_of}
use Rattle.block.specs.declared.Block.{Block}
use Rattle.stretch.specs.declared.Stretch.{Stretch}
use Rattle.stretch.specs.declared.flat.Places.{Places}
use Rattle.stretch.specs.Stretch.{trace, strokes, Makes, Covers}
use Rattle.stretch.specs.Flat.{Flat, Lies, painted}
use Rattle.stretch.proofs.Places.{place_place, by_places, unread, unread_0}
use Rattle.stretch.proofs.Levels.{one_step, near, one_along}
use Rattle.stretch.proofs.Painting.{fills, repeats}

-- a place apart from those written is none of them
none_of : (i at count : ℕ) → (ltb i at || leb (at + count) i) ≡ true → (k : ℕ) → k < count → i ≡ at + k → ⊥
none_of i at count t k h e = true_false (sym (rw (le-ltb i at (omega arith), lt-leb (at + count) i (omega arith)) at t))

module _ {b : Block} {s : Stretch} {p : Places} (mem : List ℕ) (f : Flat (length mem) b s) (l : Lies (length mem) b s p) where
  there : (b.andmask ≡ 0 → ⊥) → place (length mem) p.from ≡ place (length mem) s.from
  there z = ap (place (length mem)) (l.from z) ∙ place_place (length mem) l.within.good s.from

  -- what a loop makes by places, with sources so far apart, is what the stretch does
  covers : (along : ℕ) → ((b.andmask ≡ 0 → ⊥) → along ≡ s.along) → {mem' : List ℕ} {accesses : ℕ} → Makes b along 1 p.count p.from p.at mem mem' accesses → Covers b s mem mem' accesses
  covers along a {mem'} {accesses} e = by_test (eqb b.andmask 0) refl
    where
      here : place (length mem) p.at ≡ place (length mem) s.to
      here = ap (place (length mem)) l.at ∙ place_place (length mem) l.within.good s.to

      on : (from : ℕ) → Makes b s.along 1 p.count from p.at mem mem' accesses → place (length mem) from ≡ place (length mem) s.from → Covers b s mem mem' accesses
      on from m q note =
          m note
          ∙ by_places b 1 s.along p.count from s.from p.at s.to (trace mem note 0) l.within.good q here
          ∙ ap (λ (n : ℕ). strokes b s.along 1 n s.from s.to (trace mem note 0)) l.count
          ∙ ap (λ (x : ℕ). strokes b s.along x s.count s.from s.to (trace mem note 0)) (sym (one_step b s.along s.step f.level))

      by_test : (t : Bool) → eqb b.andmask 0 ≡ t → Covers b s mem mem' accesses
      by_test true t =
          on s.from (λ note. e note ∙ unread b 1 (unread_0 b (eqb-true b.andmask 0 t)) along s.along p.count p.from s.from p.at (trace mem note 0)) refl
      by_test false t =
          let z = eqb-false b.andmask 0 t in
          on p.from (λ note. e note ∙ ap (λ (x : ℕ). strokes b x 1 p.count p.from p.at (trace mem note 0)) (a z)) (there z)

  module _ (m : mode_of b ≡ 0) where
    pub by_fill : b.andmask ≡ 0 → {mem' : List ℕ} → mem' ≡ painted b.xormask mem p.at p.count → Covers b s mem mem' p.count
    by_fill z e =
        covers 0 (λ n. absurd (n z))
        (λ note. ap (λ (x : List ℕ). trace x note p.count) e ∙ ap (trace _ note) (sym (zero-add p.count)) ∙ fills b m z 0 p.count mem p.from p.at note 0 l.within.good l.within.at_in)

    pub by_copy : s.along ≡ 1 → {mem' : List ℕ} → Makes b 1 1 p.count p.from p.at mem mem' (2 * p.count) → Covers b s mem mem' (2 * p.count)
    by_copy a e = covers 1 (λ _. sym a) e

    pub by_one : (b.andmask ≡ 0 → ⊥) → (s.along ≡ 1 → ⊥) → (ltb p.from p.at || leb (p.at + p.count) p.from) ≡ true → {mem' : List ℕ}
        → mem' ≡ painted (bit_xor (bit_and (get_or mem p.from 0) b.andmask) b.xormask) mem p.at p.count → Covers b s mem mem' (2 * p.count)
    by_one z a t e =
        let still : s.along ≡ 0 = omega (arith, near b s.along s.step f.level m z) in
        let own : place (length mem) p.from ≡ p.from = there z ∙ sym (l.from z) in
        covers 0 (λ _. sym still)
        (λ note.
        ap (λ (x : List ℕ). trace x note (2 * p.count)) e
        ∙ ap (trace _ note) (sym (zero-add (2 * p.count)))
        ∙ repeats b m z p.count mem p.from p.at note 0 _ l.within.good l.within.at_in (ap (λ (i : ℕ). bit_xor (bit_and (get_or mem i 0) b.andmask) b.xormask) own) (λ k h q. none_of p.from p.at p.count t k h (sym own ∙ q)))

  -- modes 1 to 6
  pub by_mix : (mode_of b ≡ 0 → ⊥) → {mem' : List ℕ} {accesses : ℕ} → Makes b 1 1 p.count p.from p.at mem mem' accesses → Covers b s mem mem' accesses
  by_mix m e = covers 1 (λ z. sym (one_along b s.along s.step f.level m z)) e
