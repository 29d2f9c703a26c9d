-- The second pass: what is written so far, with the records to come, is the whole list; past it the output is as it was. Assumes nothing.
use mathlib.Core.Path.{◌≡◌, refl, sym, ap, ap₂, ◌∙◌, subst}
use mathlib.Core.Bool.{Bool, true}
use mathlib.Core.List.{List, [], ◌++◌, append_assoc, append-nil}
use Prim.Native.Nat.{ℕ, ◌+◌, ◌-◌, ◌≤◌, ◌<◌, zero-le}
use native.Mathlib.Omega.{arith}
use lib.Dec.{eqb}
use lib.ListN.{length, take, drop, length-append, length-drop, take-append-drop}
use lib.Seq.{length-take-le}
use borrow.Rule.Slice.PartMut.{put_mid}
use Rattle.std.specs.Prelude.{Result, Ok, Err}
use Rattle.laws.proofs.Lent.{tail_lent, filled}
use Rattle.refusal.specs.declared.Refusal.{Refusal}
use Rattle.item.specs.Item.{is, sound_item, lines_of, item_at, known_at}
use Rattle.item.specs.declared.Item.{Item}
use Rattle.item.specs.declared.ItemRead.{ItemRead}
use Rattle.item.proofs.Taken.{Taken, taken, taken_again}
use Rattle.plan.specs.Plan.{Parsed, good, rest, parse, items_of}
use Rattle.plan.specs.Xdl.{record_bytes, record_size, bytes_of, xdl_bytes}
use Rattle.plan.proofs.Walk.{bad_good, rest_end, rest_bad, rest_item, TailGood, tail_good, last_is, parse_taken, xdl_rest}
use Rattle.plan.proofs.Records.{length_record}

-- the pass itself counts neither items nor lines: n and total are what the first pass had at this place
pub record Writing (s first out : List ℕ) (at to : ℕ) : Type 0 where
  pub n : ℕ
  pub total : ℕ
  pub numbered : n ≤ at
  pub long : length out ≡ length first
  pub well : rest s at n total ≡ good (items_of (rest s at n total))
  pub room : to + length (bytes_of (items_of (rest s at n total))) ≤ length out
  pub sofar : take to out ++ bytes_of (items_of (rest s at n total)) ≡ bytes_of (items_of (rest s 0 0 0))
  pub kept : drop to out ≡ drop to first

pub write_start :
    (s out : List ℕ) → parse s ≡ good (items_of (parse s)) → length (xdl_bytes s) ≤ length out → Writing s out out 0 0
write_start s out g h =
    let e = parse_taken s (items_of (parse s)) g in
    let room = rw (xdl_rest s e) at h in
    record {
      n = 0;
      total = 0;
      numbered = zero-le;
      long = refl;
      well = rw e at g;
      room = omega arith;
      sofar = refl;
      kept = refl;
    }

module _ (s first out : List ℕ) (at to : ℕ) (w : Writing s first out at to) (lt : at < length s) where
  abbrev n : ℕ
  n = w.n

  abbrev total : ℕ
  total = w.total

  -- the first pass refused none
  refused : {A : Type 0} (why : Refusal) → item_at s at n total ≡ Err why → A
  refused why e = bad_good (sym (rest_bad s at n total lt w.numbered why e) ∙ w.well)

  -- so this one reads what that took
  again : item_at s at n total ≡ known_at s at
  again = go (item_at s at n total) refl
    where
      go : (r : Result ItemRead Refusal) → item_at s at n total ≡ r → item_at s at n total ≡ known_at s at
      go (Ok r) e = e ∙ sym (taken_again s at n total r.item r.next e)
      go (Err why) e = refused why e

  -- and refuses none either
  pub write_never : {A : Type 0} (why : Refusal) → known_at s at ≡ Err why → A
  write_never why e = refused why (again ∙ e)

  module _ (it : Item) (next : ℕ) (known : known_at s at ≡ is it next) where
    read : item_at s at n total ≡ is it next
    read = again ∙ known

    pub write_taken : Taken s at n total it next
    write_taken = taken s at n total it next read

    abbrev later : Parsed
    later = rest s next (n + 1) (total + lines_of it)

    step : TailGood it later (items_of (rest s at n total))
    step = tail_good it later (items_of (rest s at n total)) (sym (rest_item s at n total lt w.numbered it next read) ∙ w.well)

    -- the record comes next, with END where the plan's bytes end
    bytes : bytes_of (items_of (rest s at n total)) ≡ record_bytes it (eqb next (length s)) ++ bytes_of (items_of later)
    bytes =
        let i = write_taken in
        ap bytes_of step.items
        ∙ ap (λ (b : Bool). record_bytes it b ++ bytes_of (items_of later))
        (sym (last_is s next (n + 1) (total + lines_of it) (items_of later) (omega (arith, w.numbered)) i.within step.tail))

    pub write_fits : to + record_size it + length (bytes_of (items_of later)) ≤ length out
    write_fits =
        omega
        (arith, w.room, ap length bytes, length-append (record_bytes it (eqb next (length s))) (bytes_of (items_of later)), length_record it (eqb next (length s)))

    -- what the record writer asks of the rest that it is lent
    pub write_may : (record_size it ≤ length (take (length out - to) (drop to out))) × (sound_item it ≡ true)
    write_may = (rw tail_lent (simp length-drop (omega (arith, write_fits))), write_taken.fits.sound)

    -- a record is written: its size as the code has it
    pub write_turn :
        (k : ℕ) (ys : List ℕ) → k ≡ record_size it
        → ys ≡ record_bytes it (eqb next (length s)) ++ drop (record_size it) (take (length out - to) (drop to out))
        → Writing s first (put_mid to (length out - to) out ys) next (to + k)
    write_turn k ys ek ey =
        let i = write_taken in
        let f = filled first out (record_bytes it (eqb next (length s))) ys to (record_size it) (length_record it _) (omega (arith, write_fits)) w.kept ey in
        rw ek
        (record {
          n = n + 1;
          total = total + lines_of it;
          numbered = omega (arith, w.numbered, i.on);
          long = f.long ∙ w.long;
          well = step.tail;
          room = subst (λ (k : ℕ). to + record_size it + length (bytes_of (items_of later)) ≤ k) (sym f.long) write_fits;
          sofar =
              ap (λ (z : List ℕ). z ++ bytes_of (items_of later)) f.front
              ∙ (append_assoc (take to out) (record_bytes it (eqb next (length s))) (bytes_of (items_of later))
              ∙ (ap (λ (z : List ℕ). take to out ++ z) (sym bytes) ∙ w.sofar));
          kept = f.kept;
        })

pub write_end :
    (s first out : List ℕ) (at to : ℕ) → parse s ≡ good (items_of (parse s)) → Writing s first out at to → length s ≤ at
    → out ≡ xdl_bytes s ++ drop (length (xdl_bytes s)) first
write_end s first out at to g w h =
    let nil : items_of (rest s at w.n w.total) ≡ [] = ap items_of (rest_end s at w.n w.total h) in
    let all : take to out ≡ bytes_of (items_of (rest s 0 0 0)) =
    sym (append-nil (take to out)) ∙ (ap (λ (z : List Item). take to out ++ bytes_of z) (sym nil) ∙ w.sofar) in
    let count : to ≡ length (bytes_of (items_of (rest s 0 0 0))) = sym (length-take-le to out (omega (arith, w.room))) ∙ ap length all in
    rw (xdl_rest s (parse_taken s (items_of (parse s)) g))
    (sym (take-append-drop to out) ∙ ap₂ (λ (a b : List ℕ). a ++ b) all (w.kept ∙ ap (λ (k : ℕ). drop k first) count))
