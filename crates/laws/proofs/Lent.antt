-- A lent part of a slice: a buffer that is filled from the front, its rest lent from the middle on. Assumes nothing.
use mathlib.Core.Path.{◌≡◌, sym, ap, ◌∙◌}
use mathlib.Core.List.{List, ◌++◌, append_assoc, append-nil}
use Prim.Native.Nat.{ℕ, ◌+◌, ◌-◌, ◌≤◌}
use native.Mathlib.Omega.{arith}
use lib.ListN.{length, take, drop, length-append, length-drop, drop_of_length-le}
use lib.Seq.{take_all, take_at, drop_at, drop-drop, length-take-le}
use borrow.Rule.Slice.PartMut.{put_mid}

-- what `&mut out[to..]` lends is the rest
pub tail_lent : (out : List ℕ) (to : ℕ) → take (length out - to) (drop to out) ≡ drop to out
tail_lent out to = take_all (length out - to) (drop to out) (simp length-drop (omega arith))

-- and what stands there when it comes back as ys
pub tail_back : (out ys : List ℕ) (to : ℕ) → to ≤ length out → put_mid to (length out - to) out ys ≡ take to out ++ ys
tail_back out ys to h =
    ap (λ (z : List ℕ). take to out ++ (ys ++ z)) (drop_of_length-le (drop to out) {i = length out - to} (simp length-drop (omega arith)))
    ∙ ap (λ (z : List ℕ). take to out ++ z) (append-nil ys)

-- out after k bytes more, those of new, behind the first `to`; what lies past them is first's
pub record Filled (first out after new : List ℕ) (to k : ℕ) : Type 0 where
  pub long : length after ≡ length out
  pub front : take (to + k) after ≡ take to out ++ new
  pub kept : drop (to + k) after ≡ drop (to + k) first

pub filled :
    (first out new ys : List ℕ) (to k : ℕ) → length new ≡ k → to + k ≤ length out → drop to out ≡ drop to first
    → ys ≡ new ++ drop k (take (length out - to) (drop to out))
    → Filled first out (put_mid to (length out - to) out ys) new to k
filled first out new ys to k size room old e =
    let back : put_mid to (length out - to) out ys ≡ (take to out ++ new) ++ drop k (drop to out) =
    tail_back out ys to (omega arith)
    ∙ (ap (λ (z : List ℕ). take to out ++ z) (e ∙ ap (λ (z : List ℕ). new ++ drop k z) (tail_lent out to))
    ∙ sym (append_assoc (take to out) new (drop k (drop to out)))) in
    let len : length (take to out ++ new) ≡ to + k = simp length-append (omega (arith, length-take-le to out (omega arith))) in
    record {
      long = ap length back ∙ simp length-append (omega (arith, length-take-le to out (omega arith), length-drop k (drop to out), length-drop to out));
      front = ap (take (to + k)) back ∙ take_at (take to out ++ new) (drop k (drop to out)) (to + k) len;
      kept = ap (drop (to + k)) back ∙ (drop_at (take to out ++ new) (drop k (drop to out)) (to + k) len ∙ (ap (drop k) old ∙ drop-drop k to first));
    }
