-- What is known of the items of a plan that is taken, and of its list. Assumes nothing.
use mathlib.Core.Path.{◌≡◌, refl, sym, ◌∙◌}
use mathlib.Core.Bool.{true}
use mathlib.Core.List.{List, [], ◌∷◌}
use Prim.Native.Nat.{ℕ, ◌+◌, ◌*◌, ◌≤◌, zero-le}
use native.Mathlib.Omega.{arith}
use lib.Dec.{eqb}
use lib.ListN.{length, length-append}
use borrow.Author.Tests.{eqb-true}
use Rattle.laws.proofs.Choice.{by_cond}
use Rattle.vram.specs.Memory.{Bytes}
use Rattle.item.specs.Item.{number2, full_at, running_at, lines_of, body_at}
use Rattle.item.specs.declared.Item.{Item}
use Rattle.item.specs.declared.Item.TheVariants.{Full as full, Running as running}
use Rattle.item.proofs.Ranges.{some_line}
use Rattle.item.proofs.Taken.{taken}
use Rattle.plan.specs.Plan.{Parsed, good, bad, rest, parse, items_of}
use Rattle.plan.specs.Rules.{StartsFull, AllSound, lines_in}
use Rattle.plan.specs.Xdl.{is_last, record_bytes, bytes_of, xdl_bytes}
use Rattle.plan.specs.Compile.{AtMost}
use Rattle.plan.proofs.Records.{length_record, size_le, bytes_append, Open, bytes_record}
use Rattle.plan.proofs.Walk.{bad_good, uncons, last_is, parse_none, parse_taken}

module _ (s : List ℕ) where
  rest_sound : (l : List Item) (at n total : ℕ) → n ≤ at → rest s at n total ≡ good l → AllSound l
  rest_sound [] at n total few e = tt
  rest_sound (it ∷ l) at n total few e =
      let u = uncons s at n total it l few e in
      let i = taken s at n total it u.next u.item in
      (i.fits.sound, rest_sound l u.next (n + 1) (total + lines_of it) (omega (arith, i.on)) u.more)

  rest_lines : (l : List Item) (at n total : ℕ) → n ≤ at → total ≤ 240 → rest s at n total ≡ good l → total + lines_in l ≤ 240
  rest_lines [] at n total few h e = omega arith
  rest_lines (it ∷ l) at n total few h e =
      let u = uncons s at n total it l few e in
      let i = taken s at n total it u.next u.item in
      omega (arith, rest_lines l u.next (n + 1) (total + lines_of it) (omega (arith, i.on)) i.fits.lines u.more)

  -- fonts and priorities are bytes of the plan
  body_open : Bytes s → (at kind : ℕ) → Open (body_at s at kind)
  unfolding full_at running_at
  body_open b at kind =
      by_cond Open (eqb kind 1) (full (full_at s at)) (running (running_at s at)) (λ e. (b (at + 9), b (at + 22))) (λ e. (b (at + 3), b (at + 6)))

  rest_bytes : Bytes s → (l : List Item) (at n total : ℕ) → n ≤ at → rest s at n total ≡ good l → Bytes (bytes_of l)
  rest_bytes b [] at n total few e = λ i. omega arith
  rest_bytes b (it ∷ l) at n total few e =
      let u = uncons s at n total it l few e in
      let i = taken s at n total it u.next u.item in
      let o = rw i.body at (body_open b (at + 4) (number2 s (at + 2))) in
      bytes_append (record_bytes it (is_last l)) (bytes_of l) (bytes_record it (is_last l) i.fits.sound o)
      (rest_bytes b l u.next (n + 1) (total + lines_of it) (omega (arith, i.on)) u.more)

  module _ (l : List Item) (e : parse s ≡ good l) where
    walk : rest s 0 0 0 ≡ good l
    walk = sym (parse_taken s l e) ∙ e

    pub all_sound : AllSound l
    all_sound = rest_sound l 0 0 0 zero-le walk

    pub all_lines : lines_in l ≤ 240
    all_lines = omega (arith, rest_lines l 0 0 0 zero-le zero-le walk)

    pub all_bytes : Bytes s → Bytes (bytes_of l)
    all_bytes b = rest_bytes b l 0 0 0 zero-le walk

  pub starts_full : (l : List Item) → parse s ≡ good l → StartsFull l
  starts_full (it ∷ l) e =
      let u = uncons s 0 0 0 it l zero-le (walk (it ∷ l) e) in
      (taken s 0 0 0 it u.next u.item).fits.first refl
  starts_full [] e =
      let none : eqb 0 (length s) ≡ true = last_is s 0 0 0 [] zero-le zero-le (walk [] e) in
      bad_good (sym (parse_none s (sym (eqb-true 0 (length s) none))) ∙ e)

-- a list has at most 22 bytes for each line, so 5,280
list_le : (l : List Item) → AllSound l → length (bytes_of l) ≤ 22 * lines_in l
list_le [] a = omega arith
list_le (it ∷ l) a =
    omega
    (arith, length-append (record_bytes it (is_last l)) (bytes_of l), length_record it (is_last l), size_le it, some_line it a.0, list_le l a.1)

pub at_most : AtMost
at_most s l e = omega (arith, list_le l (all_sound s l e), all_lines s l e)

-- the same of a plan's list, which is empty where the plan is refused
module _ (s : List ℕ) (P : List ℕ → Type 0) (none : P []) (some : (l : List Item) → parse s ≡ good l → P (bytes_of l)) where
  of_list : P (xdl_bytes s)
  unfolding xdl_bytes
  of_list = go (parse s) refl
    where
      go : (p : Parsed) → parse s ≡ p → P (bytes_of (items_of p))
      go (good l) e = some l e
      go (bad why n) e = none

pub xdl_at_most : (s : List ℕ) → length (xdl_bytes s) ≤ 5280
xdl_at_most s = of_list s (λ (xs : List ℕ). length xs ≤ 5280) zero-le (at_most s)

pub xdl_bytes_lem : (s : List ℕ) → Bytes s → Bytes (xdl_bytes s)
xdl_bytes_lem s b = of_list s Bytes (λ i. omega arith) (λ l e. all_bytes s l e b)
