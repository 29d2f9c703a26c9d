-- The walk over a plan's items, taken one item at a time. Assumes nothing.
use mathlib.Core.Path.{◌≡◌, refl, sym, ap, ◌∙◌}
use mathlib.Core.Bool.{true}
use mathlib.Core.List.{List, [], ◌∷◌}
use Prim.Native.Nat.{ℕ, zero, suc, ◌+◌, ◌-◌, ◌≤◌, ◌<◌}
use native.Mathlib.Decide.{dec_lt}
use native.Mathlib.Omega.{arith}
use lib.Dec.{eqb}
use lib.ListN.{length}
use borrow.Author.Tests.{lt-ltb, le-ltb, eq-eqb, ne_eqb}
use Rattle.refusal.specs.declared.Refusal.{Refusal}
use Rattle.refusal.specs.declared.Refusal.TheVariants.{NoBand}
use Rattle.item.specs.Item.{is, lines_of, item_at}
use Rattle.item.specs.declared.Item.{Item}
use Rattle.item.specs.declared.ItemRead.{ItemRead}
use Rattle.std.specs.Prelude.{Result, Ok, Err}
use Rattle.plan.specs.Plan.{Parsed, good, bad, with, parse_from, rest, parse, items_of}
use Rattle.plan.specs.Xdl.{is_last, bytes_of, xdl_bytes}

-- a plan that is refused is not taken, and one with no items has none
pub bad_good : {A : Type 0} {why : Refusal} {n : ℕ} {l : List Item} → bad why n ≡ good l → A
bad_good e = absurd (let z : ◌≡◌ {A = ℕ} 0 1 = cc in omega arith)

none_some : {A : Type 0} {it : Item} {l : List Item} → [] ≡ it ∷ l → A
none_some e = absurd (let z : ◌≡◌ {A = ℕ} 0 1 = cc in omega arith)

-- at the end of the plan
pub rest_end : (s : List ℕ) (at n total : ℕ) → length s ≤ at → rest s at n total ≡ good []
unfolding rest parse_from
rest_end s at n total h = go (length s - n)
  where
    go : (f : ℕ) → parse_from f s at n total ≡ good []
    go zero = refl
    go (suc f) = simp (le-ltb _ _ h)

fuel : (l n : ℕ) → n < l → l - n ≡ suc (l - (n + 1))
fuel l n h = omega arith

module _ (s : List ℕ) (at n total : ℕ) (lt : at < length s) (few : n ≤ at) where
  -- at an item that is refused
  pub rest_bad : (why : Refusal) → item_at s at n total ≡ Err why → rest s at n total ≡ bad why n
  unfolding rest parse_from
  rest_bad why e = rw (fuel (length s) n (omega arith)) (simp (lt-ltb _ _ lt, e))

  -- at an item that is taken
  pub rest_item :
      (it : Item) (next : ℕ) → item_at s at n total ≡ is it next
      → rest s at n total ≡ with it (rest s next (n + 1) (total + lines_of it))
  unfolding rest parse_from
  rest_item it next e = rw (fuel (length s) n (omega arith)) (simp (lt-ltb _ _ lt, e))

-- what is good with an item in front is good
pub record TailGood (it : Item) (p : Parsed) (l : List Item) : Type 0 where
  pub tail : p ≡ good (items_of p)
  pub items : l ≡ it ∷ items_of p

pub tail_good : (it : Item) (p : Parsed) (l : List Item) → with it p ≡ good l → TailGood it p l
tail_good it (good m) l e = record { tail = refl; items = cc }
tail_good it (bad why n) l e = bad_good e

-- the walk taken apart at its first item
pub record Uncons (s : List ℕ) (at n total : ℕ) (it : Item) (l : List Item) : Type 0 where
  pub next : ℕ
  pub item : item_at s at n total ≡ is it next
  pub more : rest s next (n + 1) (total + lines_of it) ≡ good l

pub uncons :
    (s : List ℕ) (at n total : ℕ) (it : Item) (l : List Item) → n ≤ at → rest s at n total ≡ good (it ∷ l) → Uncons s at n total it l
uncons s at n total it l few e = go (dec_lt at (length s))
  where
    some : (r : Result ItemRead Refusal) → at < length s → item_at s at n total ≡ r → Uncons s at n total it l
    some (Ok r) lt i =
        let later = rest s r.next (n + 1) (total + lines_of r.item) in
        let t = tail_good r.item later (it ∷ l) (sym (rest_item s at n total lt few r.item r.next i) ∙ e) in
        let same : r.item ≡ it = cc t.items in
        let tail : items_of later ≡ l = cc t.items in
        record {
          next = r.next;
          item = i ∙ ap (λ (x : Item). is x r.next) same;
          more = ap (λ (x : Item). rest s r.next (n + 1) (total + lines_of x)) (sym same) ∙ (t.tail ∙ ap good tail);
        }
    some (Err why) lt i = bad_good (sym (rest_bad s at n total lt few why i) ∙ e)

    go : Dec (at < length s) → Uncons s at n total it l
    go (yes lt) = some (item_at s at n total) lt refl
    go (no nlt) = none_some (ap items_of (sym (rest_end s at n total (omega arith)) ∙ e))

-- no items are left exactly where no bytes are
pub last_is : (s : List ℕ) (at n total : ℕ) (l : List Item) → n ≤ at → at ≤ length s → rest s at n total ≡ good l → eqb at (length s) ≡ is_last l
last_is s at n total (it ∷ l) few h e = ne_eqb at (length s) (λ end.
    none_some (ap items_of (sym (rest_end s at n total (omega arith)) ∙ e)))
last_is s at n total [] few h e = go (dec_lt at (length s))
  where
    some : (r : Result ItemRead Refusal) → at < length s → item_at s at n total ≡ r → eqb at (length s) ≡ true
    some (Ok r) lt i =
        let t = tail_good r.item (rest s r.next (n + 1) (total + lines_of r.item)) [] (sym (rest_item s at n total lt few r.item r.next i) ∙ e) in
        none_some t.items
    some (Err why) lt i = bad_good (sym (rest_bad s at n total lt few why i) ∙ e)

    go : Dec (at < length s) → eqb at (length s) ≡ true
    go (yes lt) = some (item_at s at n total) lt refl
    go (no nlt) = eq-eqb at (length s) (omega arith)

-- a plan with no bytes, and any other
pub parse_none : (s : List ℕ) → length s ≡ 0 → parse s ≡ bad NoBand 0
unfolding parse
parse_none s h = simp (eq-eqb _ _ h)

pub parse_rest : (s : List ℕ) → (length s ≡ 0 → ⊥) → parse s ≡ rest s 0 0 0
unfolding parse
parse_rest s h = simp (ne_eqb _ _ h)

-- a plan that is taken is its walk
pub parse_taken : (s : List ℕ) (l : List Item) → parse s ≡ good l → parse s ≡ rest s 0 0 0
parse_taken s l e = parse_rest s (λ (h : length s ≡ 0). bad_good (sym (parse_none s h) ∙ e))

pub xdl_rest : (s : List ℕ) → parse s ≡ rest s 0 0 0 → xdl_bytes s ≡ bytes_of (items_of (rest s 0 0 0))
unfolding xdl_bytes
xdl_rest s e = ap (λ (p : Parsed). bytes_of (items_of p)) e
