-- What is known of an item that is taken. Assumes nothing.
use mathlib.Core.Path.{◌≡◌, refl, sym, ap, ◌∙◌}
use mathlib.Core.Bool.{Bool, true, false, ◌||◌, or-false}
use mathlib.Core.List.{List}
use Prim.Native.Nat.{ℕ, ◌+◌, ◌-◌, ◌≤◌}
use native.Mathlib.Omega.{arith}
use lib.Dec.{eqb, ltb, leb}
use lib.ListN.{length}
use borrow.Author.Tests.{le-leb, leb-true, eqb-true}
use Rattle.std.specs.Prelude.{Result}
use Rattle.refusal.specs.declared.Refusal.{Refusal}
use Rattle.refusal.specs.declared.Refusal.TheVariants.{PlanCut, Kind, Length, Field, First, Lines}
use Rattle.refusal.proofs.Sheet.{refused_done}
use Rattle.item.specs.Item.{number2, sound_item, lines_of, is_full, body_size, body_at, is, must, fitted, item_at, known_at, item_told}
use Rattle.item.specs.declared.Item.{Item}
use Rattle.item.specs.declared.ItemRead.{ItemRead}

-- a chain that ends in an item passed its first test
passed : (t : Bool) (why : Refusal) (rest : Result ItemRead Refusal) (it : Item) (next : ℕ) → must t why rest ≡ is it next → (t ≡ true) × (rest ≡ is it next)
passed true why rest it next e = (refl, e)
passed false why rest it next e = refused_done (ap (item_told 0) e)

-- what is known of an item by itself, of the item at its place, and of its place
pub record Fits (n total : ℕ) (it : Item) : Type 0 where
  pub first : n ≡ 0 → is_full it ≡ true
  pub sound : sound_item it ≡ true
  pub lines : total + lines_of it ≤ 240

pub record Taken (s : List ℕ) (at n total : ℕ) (it : Item) (next : ℕ) : Type 0 where
  pub kind : eqb (number2 s (at + 2)) 1 || eqb (number2 s (at + 2)) 2 ≡ true
  pub size : number2 s at ≡ body_size (number2 s (at + 2))
  pub body : body_at s (at + 4) (number2 s (at + 2)) ≡ it
  pub behind : at + 4 + body_size (number2 s (at + 2)) ≡ next
  pub on : at + 4 ≤ next
  pub within : next ≤ length s
  pub fits : Fits n total it

fitted_is : (it : Item) (n total next : ℕ) (it' : Item) (next' : ℕ) → fitted it n total next ≡ is it' next' → (is it next ≡ is it' next') × Fits n total it
unfolding fitted
fitted_is it n total next it' next' e =
    let a = passed (is_full it || ltb 0 n) First _ it' next' e in
    let b = passed (sound_item it) Field _ it' next' a.1 in
    let d = passed (leb (total + lines_of it) 240) Lines _ it' next' b.1 in
    (d.1, record { first = λ z. sym (or-false (is_full it)) ∙ (ap (λ (k : ℕ). is_full it || ltb 0 k) (sym z) ∙ a.0); sound = b.0; lines = leb-true _ _ d.0 })

pub taken : (s : List ℕ) (at n total : ℕ) (it : Item) (next : ℕ) → item_at s at n total ≡ is it next → Taken s at n total it next
unfolding item_at
taken s at n total it next e =
    let kind = number2 s (at + 2) in
    let size = body_size kind in
    let a = passed (leb 4 (length s - at)) PlanCut _ it next e in
    let b = passed (eqb kind 1 || eqb kind 2) Kind _ it next a.1 in
    let d = passed (eqb (number2 s at) size) Length _ it next b.1 in
    let f = passed (leb (4 + size) (length s - at)) PlanCut _ it next d.1 in
    let g = fitted_is (body_at s (at + 4) kind) n total (at + 4 + size) it next f.1 in
    let read : ◌≡◌ {A = ItemRead} (record { item = body_at s (at + 4) kind; next = at + 4 + size }) (record { item = it; next = next }) = cc g.0 in
    let here : at + 4 + size ≡ next = ap (λ (r : ItemRead). r.next) read in
    let same : body_at s (at + 4) kind ≡ it = ap (λ (r : ItemRead). r.item) read in
    let room = leb-true (4 + size) (length s - at) f.0 in
    record {
      kind = b.0;
      size = eqb-true (number2 s at) size d.0;
      body = same;
      behind = here;
      on = omega arith;
      within = omega arith;
      fits = rw same at g.1;
    }

-- an item that was taken is read again
pub taken_again : (s : List ℕ) (at n total : ℕ) (it : Item) (next : ℕ) → item_at s at n total ≡ is it next → known_at s at ≡ is it next
unfolding known_at
taken_again s at n total it next e =
    let i = taken s at n total it next e in
    simp (le-leb (4 + body_size (number2 s (at + 2))) (length s - at) (omega (arith, i.behind, i.within)), i.body, i.behind)
