-- The first pass: with the bytes counted so far, what is left of the plan gives what the whole was to give. Assumes nothing.
use mathlib.Core.Path.{◌≡◌, refl, sym, ap, ◌∙◌}
use mathlib.Core.List.{List}
use Prim.Native.Nat.{ℕ, ◌+◌, ◌*◌, ◌≤◌, ◌<◌, zero-le}
use native.Mathlib.Nat.{zero-add, add-zero}
use native.Mathlib.Omega.{arith}
use lib.ListN.{length, length-append}
use Rattle.std.specs.Prelude.{Result, Ok, Err}
use Rattle.refusal.specs.declared.Refusal.{Refusal}
use Rattle.item.specs.Item.{is, lines_of, item_at}
use Rattle.item.specs.declared.Item.{Item}
use Rattle.item.proofs.Ranges.{some_line}
use Rattle.item.proofs.Taken.{taken}
use Rattle.plan.specs.Plan.{Parsed, good, bad, with, rest}
use Rattle.plan.specs.Xdl.{record_size, bytes_of}
use Rattle.plan.specs.Compile.{at_item, checked_of}
use Rattle.plan.specs.declared.ItemRefusal.{ItemRefusal}
use Rattle.plan.proofs.Records.{length_record, size_le}
use Rattle.plan.proofs.Walk.{rest_end, rest_bad, rest_item}

-- what the pass tells, w bytes being counted already
abbrev summed : ℕ → Parsed → Result ℕ ItemRefusal
summed w (good l) = Ok (w + length (bytes_of l))
summed w (bad why n) = Err (at_item why n)

summed_zero : (p : Parsed) → summed 0 p ≡ checked_of p
summed_zero (good l) = ap Ok (zero-add (length (bytes_of l)))
summed_zero (bad why n) = refl

summed_with : (w : ℕ) (it : Item) (p : Parsed) → summed w (with it p) ≡ summed (w + record_size it) p
summed_with w it (good l) = ap Ok (simp (length-append, length_record) (omega arith))
summed_with w it (bad why n) = refl

pub record Checking (s : List ℕ) (at n total bytes : ℕ) : Type 0 where
  pub within : at ≤ length s
  pub numbered : n ≤ at
  pub few : n ≤ total
  pub lines : total ≤ 240
  pub short : bytes ≤ 22 * total
  pub same : summed bytes (rest s at n total) ≡ checked_of (rest s 0 0 0)

pub check_start : (s : List ℕ) → Checking s 0 0 0 0
check_start s =
    record { within = zero-le; numbered = zero-le; few = zero-le; lines = zero-le; short = zero-le; same = summed_zero (rest s 0 0 0) }

module _ (s : List ℕ) (at n total bytes : ℕ) (w : Checking s at n total bytes) where
  -- an item is counted: its size and its lines as the code has them
  pub check_turn :
      (it : Item) (next k t : ℕ) → at < length s → item_at s at n total ≡ is it next → k ≡ record_size it → t ≡ lines_of it
      → Checking s next (n + 1) (total + t) (bytes + k)
  check_turn it next k t lt e ek et =
      let i = taken s at n total it next e in
      let one = some_line it i.fits.sound in
      let z = size_le it in
      rw (ek, et)
      (record {
        within = i.within;
        numbered = omega arith;
        few = omega arith;
        lines = i.fits.lines;
        short = omega arith;
        same =
            sym (summed_with bytes it (rest s next (n + 1) (total + lines_of it)))
            ∙ (ap (summed bytes) (sym (rest_item s at n total lt w.numbered it next e)) ∙ w.same);
      })

  pub check_bad : (why : Refusal) → at < length s → item_at s at n total ≡ Err why → Err (at_item why n) ≡ checked_of (rest s 0 0 0)
  check_bad why lt e = ap (summed bytes) (sym (rest_bad s at n total lt w.numbered why e)) ∙ w.same

  pub check_end : length s ≤ at → Ok bytes ≡ checked_of (rest s 0 0 0)
  check_end h = ap Ok (sym (add-zero bytes)) ∙ (ap (summed bytes) (sym (rest_end s at n total h)) ∙ w.same)
