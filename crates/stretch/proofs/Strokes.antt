-- What holds at each turn of a loop over a stretch: the bytes that are left make of it what the whole stretch makes of the beginning. Assumes nothing.
use mathlib.Core.Path.{◌≡◌, sym, ap, ◌∙◌}
use mathlib.Core.Bool.{cond}
use Prim.Native.Nat.{ℕ, suc, ◌+◌, ◌-◌, ◌*◌, ◌≤◌, ◌<◌}
use native.Mathlib.Omega.{arith}
use lib.ListN.{length}
use Rattle.mode.specs.Mode.{stroke_of}
use Rattle.mode.specs.declared.Stroke.{Stroke}
use Rattle.mode.proofs.Laws.{accesses_small}
use Rattle.block.specs.Byte.{reads_source, noted}
use Rattle.block.specs.declared.Block.{Block}
use Rattle.block.specs.declared.Struck.{Struck}
use Rattle.stretch.specs.declared.Stretch.{Stretch}
use Rattle.block.proofs.Byte.{written_length, read_small, struck_small}
use Rattle.stretch.specs.Stretch.{Trace, struck, strokes}

-- a byte less is left, or none
pub less : (count k : ℕ) → k < count → suc (count - (k + 1)) ≡ count - k
less count k h = omega arith

pub none : (count k : ℕ) → count ≤ k → count - k ≡ 0
none count k h = omega arith

-- a stroke's accesses, and the source's with them
pub stroke_small : (mode mask s d code : ℕ) (k : Stroke) → k ≡ stroke_of mode mask s d code → k.accesses ≤ 2
unfolding stroke_of
stroke_small mode mask s d code k e = rw (ap (λ (x : Stroke). x.accesses) e) (accesses_small mode mask s)

pub both_small :
    (b : Block) (mode mask s d code : ℕ) (k : Stroke) (u : Struck) → k ≡ stroke_of mode mask s d code
    → (u.note ≡ noted k) × (u.accesses ≡ k.accesses + cond (reads_source b) 1 0) → u.accesses ≤ 3
both_small b mode mask s d code k u e i = omega (arith, stroke_small mode mask s d code k e, read_small b, i.1)

-- one byte keeps memory's length and has at most 3 accesses
module _ (b : Block) (from to : ℕ) (d : Trace) where
  pub struck_length : length (struck b from to d).mem ≡ length d.mem
  unfolding struck
  struck_length = written_length b from to d.mem

  pub struck_few : (struck b from to d).accesses ≤ d.accesses + 3
  unfolding struck
  struck_few = omega (arith, struck_small b from to d.mem d.note)

-- an address after k steps of a word each
abbrev pub Near : ℕ → ℕ → Type 0
Near address k = address ≤ 4294967295 * (k + 1)

-- after k bytes the rest of a stretch makes what the whole stretch makes of the beginning
pub record Left (b : Block) (s : Stretch) (k from to : ℕ) (d first : Trace) : Type 0 where
  pub same : strokes b s.along s.step (s.count - k) from to d ≡ strokes b s.along s.step s.count s.from s.to first

module _ {b : Block} {s : Stretch} {k from to : ℕ} {d first : Trace} (l : Left b s k from to d first) where
  -- one byte less,
  pub left_on : {d' : Trace} → k < s.count → struck b from to d ≡ d' → Left b s (k + 1) (from + s.along) (to + s.step) d' first
  unfolding strokes
  left_on h e =
      record {
        same =
            ap (strokes b s.along s.step (s.count - (k + 1)) (from + s.along) (to + s.step)) (sym e)
            ∙ ap (λ (n : ℕ). strokes b s.along s.step n from to d) (less s.count k h)
            ∙ l.same;
      }

  -- and none
  pub left_none : s.count ≤ k → d ≡ strokes b s.along s.step s.count s.from s.to first
  unfolding strokes
  left_none h = ap (λ (n : ℕ). strokes b s.along s.step n from to d) (sym (none s.count k h)) ∙ l.same
