-- Document 01, "Refusal numbers" and "Plans": the items of a plan, or its first refusal with the item's number.
use Rattle.std.specs.Prelude.{cond, List, [], ◌∷◌, ℕ, zero, suc, ◌+◌, ◌-◌, eqb, ltb, length, Result, Ok, Err}
use Rattle.refusal.specs.declared.Refusal.{Refusal}
use Rattle.refusal.specs.declared.Refusal.TheVariants.{NoBand}
use Rattle.item.specs.Item.{lines_of, item_at}
use Rattle.item.specs.declared.Item.{Item}
use Rattle.item.specs.declared.ItemRead.{ItemRead}

-- the items, or the first refusal and the number of its item
pub data Parsed : Type 0 where
  good : List Item → Parsed
  bad : Refusal → ℕ → Parsed

-- one item more in front; a refusal stays
abbrev pub with : Item → Parsed → Parsed
with it (good l) = good (it ∷ l)
with it (bad why n) = bad why n

-- what stands at a place, item n, leads to, where `on` reads on
abbrev pub with_rest : Result ItemRead Refusal → ℕ → (Item → ℕ → Parsed) → Parsed
with_rest (Ok r) n on = with r.item (on r.item r.next)
with_rest (Err why) n on = bad why n

-- "item by item", from a place on. The first number only makes the definition end: an item has more than one byte
unfoldable pub parse_from : ℕ → List ℕ → ℕ → ℕ → ℕ → Parsed
parse_from zero s at n total = good []
parse_from (suc f) s at n total =
    cond (ltb at (length s))
    (with_rest (item_at s at n total) n (λ it next. parse_from f s next (n + 1) (total + lines_of it)))
    (good [])

-- the items from a place on: n is the next item's number, total the lines before it
unfoldable pub rest : List ℕ → ℕ → ℕ → ℕ → Parsed
rest s at n total = parse_from (length s - n) s at n total

-- "6 first; then item by item"
unfoldable pub parse : List ℕ → Parsed
parse s = cond (eqb (length s) 0) (bad NoBand 0) (rest s 0 0 0)

-- the items of a plan; none where it is refused
abbrev pub items_of : Parsed → List Item
items_of (good l) = l
items_of (bad why n) = []
