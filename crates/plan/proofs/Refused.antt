-- What is known where a plan is refused: the number of its item, and that room alone does not change a refusal of the plan itself. Assumes nothing.
use mathlib.Core.Path.{◌≡◌, refl, sym}
use mathlib.Core.Bool.{Bool, true, false, cond}
use mathlib.Core.List.{List, [], ◌∷◌}
use Prim.Native.Nat.{ℕ, zero, suc, ◌+◌, ◌-◌, ◌≤◌, ◌<◌, zero-le}
use native.Mathlib.Decide.{dec_lt}
use native.Mathlib.Omega.{arith}
use lib.Dec.{eqb, leb}
use lib.ListN.{length, length-append}
use borrow.Author.Tests.{lt-ltb, le-ltb, lt-leb}
use Rattle.std.specs.Prelude.{Result, Ok, Err}
use Rattle.refusal.specs.Sheet.{Told, done, refused, unless}
use Rattle.refusal.specs.declared.Refusal.{Refusal}
use Rattle.refusal.specs.declared.Refusal.TheVariants.{NoBand}
use Rattle.refusal.proofs.Sheet.{done_refused}
use Rattle.item.specs.Item.{lines_of, item_at}
use Rattle.item.specs.declared.Item.{Item}
use Rattle.item.specs.declared.ItemRead.{ItemRead}
use Rattle.item.proofs.Ranges.{some_line}
use Rattle.item.proofs.Taken.{taken}
use Rattle.plan.specs.Plan.{Parsed, good, bad, with, parse_from, rest, parse}
use Rattle.plan.specs.Xdl.{is_last, record_bytes, bytes_of}
use Rattle.plan.specs.Compile.{compile_told, checked_of, fitting, compile_answer}
use Rattle.plan.proofs.Records.{length_record, size_some}
use Rattle.plan.proofs.Valid.{starts_full}
use Rattle.plan.proofs.Walk.{bad_good}

bad_with : (it : Item) (p : Parsed) (why : Refusal) (k : ℕ) → with it p ≡ bad why k → p ≡ bad why k
bad_with it (good l) why k e = bad_good (sym e)
bad_with it (bad w n) why k e = e

-- each item before it has a line, and all have 240 at most
module _ (s : List ℕ) (why : Refusal) (k : ℕ) where
  -- the walk from a place on
  abbrev Small : ℕ → ℕ → ℕ → ℕ → Type 0
  Small f at n total = n ≤ total → total ≤ 240 → parse_from f s at n total ≡ bad why k → k ≤ 240

  from_item :
      (r : Result ItemRead Refusal) (f at n total : ℕ) → at < length s → item_at s at n total ≡ r → ((next m t : ℕ) → Small f next m t) → Small (suc f) at n total
  unfolding parse_from
  from_item (Err w) f at n total lt i more h l e =
      let z : bad w n ≡ bad why k = simp (lt-ltb at (length s) lt, i) at e in
      let same : n ≡ k = cc z in
      omega arith
  from_item (Ok r) f at n total lt i more h l e =
      let t = taken s at n total r.item r.next i in
      let z : with r.item (parse_from f s r.next (n + 1) (total + lines_of r.item)) ≡ bad why k = simp (lt-ltb at (length s) lt, i) at e in
      more r.next (n + 1) (total + lines_of r.item) (omega (arith, some_line r.item t.fits.sound)) t.fits.lines (bad_with r.item _ why k z)

  from_end : (f at n total : ℕ) → length s ≤ at → Small (suc f) at n total
  unfolding parse_from
  from_end f at n total ge h l e =
      let z : good [] ≡ bad why k = simp (le-ltb at (length s) ge) at e in
      bad_good (sym z)

  from_small : (f at n total : ℕ) → Small f at n total
  unfolding parse_from
  from_small zero at n total h l e = bad_good (sym e)
  from_small (suc f) at n total h l e = go (dec_lt at (length s)) (λ next m t. from_small f next m t) h l e
    where
      go : Dec (at < length s) → ((next m t : ℕ) → Small f next m t) → Small (suc f) at n total
      go (yes lt) more = from_item (item_at s at n total) f at n total lt refl more
      go (no nlt) more = from_end f at n total (omega arith)

  bad_small : parse s ≡ bad why k → k ≤ 240
  unfolding parse rest
  bad_small = go (eqb (length s) 0)
    where
      go : (t : Bool) → cond t (bad NoBand 0) (parse_from (length s - 0) s 0 0 0) ≡ bad why k → k ≤ 240
      go true e = let same : 0 ≡ k = cc e in omega arith
      go false e = from_small (length s - 0) 0 0 0 zero-le zero-le e

-- a list has a byte
pub some_byte : (s : List ℕ) (l : List Item) → parse s ≡ good l → 1 ≤ length (bytes_of l)
some_byte s [] e = absurd (starts_full s [] e)
some_byte s (it ∷ l) e =
    omega (arith, length-append (record_bytes it (is_last l)) (bytes_of l), length_record it (is_last l), size_some it)

-- what compiling tells, by what the plan is
abbrev Compiles : Parsed → ℕ → Told ℕ
Compiles p room = fitting (compile_told (checked_of p)) room

pub refused_item : (plan : List ℕ) (room k n : ℕ) → compile_answer plan room ≡ refused k n → n ≤ 240
unfolding compile_answer
refused_item plan room k n = go (parse plan) refl
  where
    chain : (b : Bool) (m : ℕ) → unless b 13 (done m) ≡ refused k n → n ≤ 240
    chain true m e = done_refused e
    chain false m e = let same : 0 ≡ n = cc e in omega arith

    go : (p : Parsed) → parse plan ≡ p → Compiles p room ≡ refused k n → n ≤ 240
    go (good l) q e = chain (leb (length (bytes_of l)) room) (length (bytes_of l)) e
    go (bad why m) q e = let same : m ≡ n = cc e in omega (arith, bad_small plan why m q)

-- without any room a plan that is taken is refused 13, and one that is refused is refused as before
abbrev pub roomless : Told ℕ → Told ℕ
roomless (done n) = refused 13 0
roomless (refused k n) = refused k n

pub no_room : (plan : List ℕ) (room : ℕ) → compile_answer plan 0 ≡ roomless (compile_answer plan room)
unfolding compile_answer
no_room plan room = go (parse plan) refl
  where
    chain : (b : Bool) (m : ℕ) → refused 13 0 ≡ roomless (unless b 13 (done m))
    chain true m = refl
    chain false m = refl

    go : (p : Parsed) → parse plan ≡ p → Compiles p 0 ≡ roomless (Compiles p room)
    go (bad why m) q = refl
    go (good l) q =
        simp (lt-leb (length (bytes_of l)) 0 (some_byte plan l q)) (chain (leb (length (bytes_of l)) room) (length (bytes_of l)))
