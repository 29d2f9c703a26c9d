-- A plan that is read is the bytes of its items, and the bytes of items that keep the rules are read as these items. Assumes nothing.
use mathlib.Core.Path.{◌≡◌, refl, sym, ap, ap₂, ◌∙◌}
use mathlib.Core.Bool.{Bool, true, false, cond, ◌||◌, or-true}
use mathlib.Core.List.{List, [], ◌∷◌, ◌++◌}
use mathlib.Core.Logic.{◌⊎◌, inl, inr, ⊎_elim}
use Prim.Native.Nat.{ℕ, zero, suc, ◌+◌, ◌-◌, ◌*◌, ◌/◌, ◌%◌, ◌≤◌, ◌<◌, zero-le}
use native.Mathlib.Nat.{add_assoc, add-zero}
use native.Mathlib.Omega.{arith}
use lib.Dec.{eqb, ltb}
use lib.ListN.{length, get_or, take, drop, length-append, length-drop, take-append-drop, drop_of_length-le}
use lib.Seq.{get_or-drop, drop-drop, drop-cons, drop_at}
use borrow.Author.Tests.{lt-ltb, le-leb, eq-eqb, eqb-true}
use Rattle.vram.specs.Memory.{Bytes}
use Rattle.item.specs.Item.{is, number2, full_at, running_at, sound_item, lines_of, is_full, body_size, body_at, fitted, item_at}
use Rattle.item.specs.declared.Full.{Full}
use Rattle.item.specs.declared.Running.{Running}
use Rattle.item.specs.declared.Item.{Item}
use Rattle.item.specs.declared.Item.TheVariants.{Full as full, Running as running}
use Rattle.item.proofs.Taken.{taken}
use Rattle.plan.specs.Plan.{good, with, rest}
use Rattle.plan.specs.Rules.{full_bytes, running_bytes, item_bytes, plan_bytes, StartsFull, AllSound, lines_in, RulesSuffice, RulesNeeded}
use Rattle.plan.proofs.Valid.{all_sound, all_lines, starts_full}
use Rattle.plan.proofs.Walk.{rest_end, rest_item, uncons, last_is, parse_rest, parse_taken}

-- 1. Numbers of two and of three bytes, put together and taken apart.
back2 : (x : ℕ) → x % 256 + 256 * (x / 256) ≡ x
back2 x = omega arith

back3 : (x : ℕ) → x % 256 + 256 * (x / 256 % 256) + 65536 * (x / 65536) ≡ x
back3 x = omega arith

low2 : (a b : ℕ) → a < 256 → a ≡ (a + 256 * b) % 256
low2 a b p = omega arith

high2 : (a b : ℕ) → a < 256 → b ≡ (a + 256 * b) / 256
high2 a b p = omega arith

-- of two bytes that say a small number the second is 0
one_byte : (a b n : ℕ) → a + 256 * b ≡ n → n < 256 → (a ≡ n) × (b ≡ 0)
one_byte a b n e h = (omega arith, omega arith)

low3 : (a b c : ℕ) → a < 256 → a ≡ (a + 256 * b + 65536 * c) % 256
low3 a b c p = omega arith

middle3 : (a b c : ℕ) → a < 256 → b < 256 → b ≡ (a + 256 * b + 65536 * c) / 256 % 256
middle3 a b c p q = omega arith

high3 : (a b c : ℕ) → a < 256 → b < 256 → c ≡ (a + 256 * b + 65536 * c) / 65536
high3 a b c p q = omega arith

-- 2. What stands at a place of a plan stands at the beginning of what is left there.
module _ (s : List ℕ) (at : ℕ) where
  size_left : number2 s at ≡ number2 (drop at s) 0
  size_left = simp (get_or-drop, add-zero)

  kind_left : number2 s (at + 2) ≡ number2 (drop at s) 2
  kind_left = simp (get_or-drop, add_assoc)

  full_left : full_at s (at + 4) ≡ full_at (drop at s) 4
  unfolding full_at
  full_left = simp (get_or-drop, add_assoc)

  running_left : running_at s (at + 4) ≡ running_at (drop at s) 4
  unfolding running_at
  running_left = simp (get_or-drop, add_assoc)

  body_left : (kind : ℕ) → body_at s (at + 4) kind ≡ body_at (drop at s) 4 kind
  body_left kind = ap₂ (λ (f : Full) (r : Running). cond (eqb kind 1) (full f) (running r)) full_left running_left

  bytes_left : Bytes s → Bytes (drop at s)
  bytes_left b i = rw get_or-drop (b (at + i))

-- 3. An item that was read is written as the same bytes.
by_kind : (k : ℕ) → (eqb k 1 || eqb k 2) ≡ true → (k ≡ 1) ⊎ (k ≡ 2)
by_kind k = go (eqb k 1) (eqb k 2) refl refl
  where
    go : (a b : Bool) → eqb k 1 ≡ a → eqb k 2 ≡ b → (a || b) ≡ true → (k ≡ 1) ⊎ (k ≡ 2)
    go true b p q e = inl (eqb-true k 1 p)
    go false b p q e = inr (eqb-true k 2 (q ∙ e))

module _ (xs : List ℕ) where
  -- n bytes from byte k on
  abbrev cells : ℕ → ℕ → List ℕ
  cells k zero = []
  cells k (suc n) = get_or xs k 0 ∷ cells (k + 1) n

  cells_are : (n k : ℕ) → k + n ≤ length xs → take n (drop k xs) ≡ cells k n
  cells_are zero k h = refl
  cells_are (suc n) k h =
      let on : suc k ≡ k + 1 = omega arith in
      ap (take (suc n)) (drop-cons xs k 0 (omega arith))
      ∙ ap (λ (l : List ℕ). get_or xs k 0 ∷ l) (ap (λ (j : ℕ). take n (drop j xs)) on ∙ cells_are n (k + 1) (omega arith))

  module _ (b : Bytes xs) where
    full_forth : 27 ≤ length xs → number2 xs 0 ≡ 23 → number2 xs 2 ≡ 1 → take 27 xs ≡ full_bytes (full_at xs 4)
    unfolding full_bytes full_at
    full_forth room size kind =
        let s = one_byte _ _ 23 size (omega arith) in
        let k = one_byte _ _ 1 kind (omega arith) in
        cells_are 27 0 room
        ∙ (λ i.
        s.0 i ∷ s.1 i ∷ k.0 i ∷ k.1 i
        ∷ get_or xs 4 0
        ∷ get_or xs 5 0
        ∷ low3 (get_or xs 6 0) (get_or xs 7 0) (get_or xs 8 0) (b 6) i
        ∷ middle3 (get_or xs 6 0) (get_or xs 7 0) (get_or xs 8 0) (b 6) (b 7) i
        ∷ high3 (get_or xs 6 0) (get_or xs 7 0) (get_or xs 8 0) (b 6) (b 7) i
        ∷ low2 (get_or xs 9 0) (get_or xs 10 0) (b 9) i
        ∷ high2 (get_or xs 9 0) (get_or xs 10 0) (b 9) i
        ∷ get_or xs 11 0
        ∷ get_or xs 12 0
        ∷ get_or xs 13 0
        ∷ get_or xs 14 0
        ∷ low3 (get_or xs 15 0) (get_or xs 16 0) (get_or xs 17 0) (b 15) i
        ∷ middle3 (get_or xs 15 0) (get_or xs 16 0) (get_or xs 17 0) (b 15) (b 16) i
        ∷ high3 (get_or xs 15 0) (get_or xs 16 0) (get_or xs 17 0) (b 15) (b 16) i
        ∷ low2 (get_or xs 18 0) (get_or xs 19 0) (b 18) i
        ∷ high2 (get_or xs 18 0) (get_or xs 19 0) (b 18) i
        ∷ cells 20 7)

    running_forth : 11 ≤ length xs → number2 xs 0 ≡ 7 → number2 xs 2 ≡ 2 → take 11 xs ≡ running_bytes (running_at xs 4)
    unfolding running_bytes running_at
    running_forth room size kind =
        let s = one_byte _ _ 7 size (omega arith) in
        let k = one_byte _ _ 2 kind (omega arith) in
        cells_are 11 0 room ∙ (λ i. s.0 i ∷ s.1 i ∷ k.0 i ∷ k.1 i ∷ cells 4 7)

    body_forth :
        (k : ℕ) → number2 xs 2 ≡ k → (eqb k 1 || eqb k 2) ≡ true → number2 xs 0 ≡ body_size k → 4 + body_size k ≤ length xs
        → take (4 + body_size k) xs ≡ item_bytes (body_at xs 4 k)
    body_forth k kind known size room =
        ⊎_elim
        (λ (e : k ≡ 1). rw e (full_forth (rw e at room) (rw e at size) (kind ∙ e)))
        (λ (e : k ≡ 2). rw e (running_forth (rw e at room) (rw e at size) (kind ∙ e)))
        (by_kind k known)

module _ (s : List ℕ) (b : Bytes s) where
  item_forth : (at n total : ℕ) (it : Item) (next : ℕ) → item_at s at n total ≡ is it next → drop at s ≡ item_bytes it ++ drop next s
  item_forth at n total it next e =
      let t = taken s at n total it next e in
      let k = number2 s (at + 2) in
      let m = 4 + body_size k in
      let room : m ≤ length (drop at s) = simp length-drop (omega (arith, t.within, t.behind)) in
      let same : take m (drop at s) ≡ item_bytes it =
      body_forth (drop at s) (bytes_left s at b) k (sym (kind_left s at)) t.kind (sym (size_left s at) ∙ t.size) room
      ∙ ap item_bytes (sym (body_left s at k) ∙ t.body) in
      let on : at + m ≡ next = omega (arith, t.behind) in
      sym (take-append-drop m (drop at s))
      ∙ ap₂ (λ (x y : List ℕ). x ++ y) same (drop-drop m at s ∙ ap (λ (j : ℕ). drop j s) on)

  rest_forth : (l : List Item) (at n total : ℕ) → n ≤ at → at ≤ length s → rest s at n total ≡ good l → drop at s ≡ plan_bytes l
  rest_forth [] at n total few h e =
      let end = eqb-true at (length s) (last_is s at n total [] few h e) in
      drop_of_length-le s {i = at} (omega arith)
  rest_forth (it ∷ l) at n total few h e =
      let u = uncons s at n total it l few e in
      let t = taken s at n total it u.next u.item in
      item_forth at n total it u.next u.item
      ∙ ap (λ (x : List ℕ). item_bytes it ++ x) (rest_forth l u.next (n + 1) (total + lines_of it) (omega (arith, t.on)) t.within u.more)

pub rules_needed : RulesNeeded
rules_needed s l b e =
    (rest_forth s b l 0 0 0 zero-le zero-le (sym (parse_taken s l e) ∙ e), starts_full s l e, all_sound s l e, all_lines s l e)

-- 4. The bytes of an item are read back as the item.
abbrev kind_of : Item → ℕ
kind_of (full b) = 1
kind_of (running b) = 2

-- what stands in front of a plan that begins with the bytes of an item
record Front (it : Item) (more : List ℕ) : Type 0 where
  size : number2 (item_bytes it ++ more) 0 ≡ body_size (kind_of it)
  kind : number2 (item_bytes it ++ more) 2 ≡ kind_of it
  body : body_at (item_bytes it ++ more) 4 (kind_of it) ≡ it
  known : eqb (kind_of it) 1 || eqb (kind_of it) 2 ≡ true
  long : length (item_bytes it) ≡ 4 + body_size (kind_of it)

full_back : (b : Full) (more : List ℕ) → full_at (full_bytes b ++ more) 4 ≡ b
unfolding full_at full_bytes
full_back b more = simp (back3, back2)

front : (it : Item) (more : List ℕ) → Front it more
unfolding full_bytes running_bytes running_at
front (full b) more = record { size = refl; kind = refl; body = ap full (full_back b more); known = refl; long = refl }
front (running b) more = record { size = refl; kind = refl; body = refl; known = refl; long = refl }

fits : (it : Item) (n total next : ℕ) → (is_full it ≡ true) ⊎ (0 < n) → sound_item it ≡ true → total + lines_of it ≤ 240 → fitted it n total next ≡ is it next
unfolding fitted
fits it n total next first sound lines =
    let one : is_full it || ltb 0 n ≡ true = ⊎_elim (λ (e : is_full it ≡ true). simp e) (λ (e : 0 < n). simp (lt-ltb 0 n e, or-true)) first in
    simp (one, sound, le-leb (total + lines_of it) 240 lines)

item_back :
    (s : List ℕ) (at n total : ℕ) (more : List ℕ) (it : Item) → drop at s ≡ item_bytes it ++ more → (is_full it ≡ true) ⊎ (0 < n) → sound_item it ≡ true
    → total + lines_of it ≤ 240
    → item_at s at n total ≡ is it (at + length (item_bytes it))
unfolding item_at
item_back s at n total more it e first sound lines =
    let f = front it more in
    let k = kind_of it in
    let kind : number2 s (at + 2) ≡ k = kind_left s at ∙ (ap (λ (x : List ℕ). number2 x 2) e ∙ f.kind) in
    let size : number2 s at ≡ body_size k = size_left s at ∙ (ap (λ (x : List ℕ). number2 x 0) e ∙ f.size) in
    let body : body_at s (at + 4) k ≡ it = body_left s at k ∙ (ap (λ (x : List ℕ). body_at x 4 k) e ∙ f.body) in
    let long : length s - at ≡ length (item_bytes it) + length more = sym (length-drop at s) ∙ (ap length e ∙ length-append (item_bytes it) more) in
    rw (kind, size, body)
    (simp (f.known, eq-eqb (body_size k) (body_size k) refl, le-leb 4 (length s - at) (omega (arith, f.long)), le-leb (4 + body_size k) (length s - at) (omega (arith, f.long)))
    (fits it n total (at + 4 + body_size k) first sound lines ∙ ap (λ (j : ℕ). is it j) (omega (arith, f.long))))

-- an item has a byte
item_some : (it : Item) → 1 ≤ length (item_bytes it)
item_some it = omega (arith, (front it []).long)

-- 5. The walk over the bytes of items that keep the rules. Where a full band is not behind us, one comes next.
module _ (s : List ℕ) where
  abbrev Begun : ℕ → List Item → Type 0
  Begun n [] = Unit
  Begun n (it ∷ l) = (is_full it ≡ true) ⊎ (0 < n)

  begun : (n : ℕ) (l : List Item) → Begun (n + 1) l
  begun n [] = tt
  begun n (it ∷ l) = inr (omega arith)

  rest_back :
      (l : List Item) (at n total : ℕ) → drop at s ≡ plan_bytes l → at ≤ length s → n ≤ at → AllSound l → Begun n l → total + lines_in l ≤ 240
      → rest s at n total ≡ good l
  rest_back [] at n total e h few sound first lines = rest_end s at n total (omega (arith, sym (length-drop at s) ∙ ap length e))
  rest_back (it ∷ l) at n total e h few sound first lines =
      let m = length (item_bytes it) in
      let item = item_back s at n total (plan_bytes l) it e first sound.0 (omega arith) in
      let long : length s - at ≡ m + length (plan_bytes l) = sym (length-drop at s) ∙ (ap length e ∙ length-append (item_bytes it) (plan_bytes l)) in
      let left : drop (at + m) s ≡ plan_bytes l = sym (drop-drop m at s) ∙ (ap (drop m) e ∙ drop_at (item_bytes it) (plan_bytes l) m refl) in
      let some = item_some it in
      rest_item s at n total (omega arith) few it (at + m) item
      ∙ ap (with it) (rest_back l (at + m) (n + 1) (total + lines_of it) left (omega arith) (omega arith) sound.1 (begun n l) (omega arith))

some_bytes : (l : List Item) → StartsFull l → length (plan_bytes l) ≡ 0 → ⊥
some_bytes [] f e = f
some_bytes (it ∷ l) f e = absurd (omega (arith, length-append (item_bytes it) (plan_bytes l), item_some it))

pub rules_suffice : RulesSuffice
rules_suffice [] first sound lines = absurd first
rules_suffice (it ∷ l) first sound lines =
    let items = it ∷ l in
    parse_rest (plan_bytes items) (some_bytes items first)
    ∙ rest_back (plan_bytes items) items 0 0 0 refl zero-le zero-le sound (inl first) (omega arith)
