-- Document 01, "Plans": the items of a plan and their refusals.
use Rattle.std.specs.Prelude.{Bool, true, false, cond, ◌&&◌, ◌||◌, List, [], ◌∷◌, ℕ, ◌+◌, ◌*◌, ◌-◌, eqb, ltb, leb, length, get_or, Result, Ok, Err}
use Rattle.refusal.specs.Sheet.{number_of, Told, done, refused}
use Rattle.refusal.specs.declared.Refusal.{Refusal}
use Rattle.refusal.specs.declared.Refusal.TheVariants.{PlanCut, Kind, Length, Field, First, Lines}
use Rattle.item.specs.declared.Full.{Full}
use Rattle.item.specs.declared.Running.{Running}
use Rattle.item.specs.declared.Item.{Item}
use Rattle.item.specs.declared.Item.TheVariants.{Full as full, Running as running}
use Rattle.item.specs.declared.ItemRead.{ItemRead}
use Rattle.item.specs.declared.ItemKind.{ItemKind}
use Rattle.item.specs.declared.ItemKind.TheVariants.{Full as kind1, Running as kind2}

-- "Items, little-endian": numbers of 2 and of 3 bytes
abbrev pub number2 : List ℕ → ℕ → ℕ
number2 s at = get_or s at 0 + 256 * get_or s (at + 1) 0

abbrev pub number3 : List ℕ → ℕ → ℕ
number3 s at = get_or s at 0 + 256 * get_or s (at + 1) 0 + 65536 * get_or s (at + 2) 0

-- "Kind 1, full band, 23 bytes", its fields in their order
unfoldable pub full_at : List ℕ → ℕ → Full
full_at s at =
    record {
      lines = get_or s at 0;
      mode = get_or s (at + 1) 0;
      address = number3 s (at + 2);
      step = number2 s (at + 5);
      hscroll = get_or s (at + 7) 0;
      vscroll = get_or s (at + 8) 0;
      font = get_or s (at + 9) 0;
      map = get_or s (at + 10) 0;
      mapaddress = number3 s (at + 11);
      mapstep = number2 s (at + 14);
      maphscroll = get_or s (at + 16) 0;
      mapvscroll = get_or s (at + 17) 0;
      fieldwidth = get_or s (at + 18) 0;
      fieldheight = get_or s (at + 19) 0;
      width = get_or s (at + 20) 0;
      palettes = get_or s (at + 21) 0;
      priority = get_or s (at + 22) 0;
    }

-- "Kind 2, running on, 7 bytes": "lines, hscroll, vscroll, font, width, palettes, priority"
unfoldable pub running_at : List ℕ → ℕ → Running
running_at s at =
    record {
      lines = get_or s at 0;
      hscroll = get_or s (at + 1) 0;
      vscroll = get_or s (at + 2) 0;
      font = get_or s (at + 3) 0;
      width = get_or s (at + 4) 0;
      palettes = get_or s (at + 5) 0;
      priority = get_or s (at + 6) 0;
    }

-- a field and the two ends of its range, and that it is between them
pub record Range : Type 0 where
  pub value : ℕ
  pub low : ℕ
  pub high : ℕ

abbrev pub range : ℕ → ℕ → ℕ → Range
range value low high = record { value = value; low = low; high = high }

abbrev pub in_range : Range → Bool
in_range r = leb r.low r.value && leb r.value r.high

abbrev pub all_in : List Range → Bool
all_in [] = true
all_in (r ∷ l) = in_range r && all_in l

-- kind 1, in the paper's order: "lines 1..240; mode 0 off, 1 text, 2 SR, 3 HR, 4 LR; .. OVSTEP (2, to 4,095); hscroll, vscroll 0..7; .. map 0..1; ..
-- map step (2, to 4,095); map hscroll, vscroll 0..31; field width 8..32; field height 1..32; width 0..2; palettes 0..15";
-- "Both addresses go to 524,287; font and priority are any byte", so these two have no range here
abbrev pub full_ranges : Full → List Range
full_ranges b =
    range b.lines 1 240
    ∷ range b.mode 0 4
    ∷ range b.address 0 524287
    ∷ range b.step 0 4095
    ∷ range b.hscroll 0 7
    ∷ range b.vscroll 0 7
    ∷ range b.map 0 1
    ∷ range b.mapaddress 0 524287
    ∷ range b.mapstep 0 4095
    ∷ range b.maphscroll 0 31
    ∷ range b.mapvscroll 0 31
    ∷ range b.fieldwidth 8 32
    ∷ range b.fieldheight 1 32
    ∷ range b.width 0 2
    ∷ range b.palettes 0 15
    ∷ []

-- kind 2: "same ranges"
abbrev pub running_ranges : Running → List Range
running_ranges b =
    range b.lines 1 240
    ∷ range b.hscroll 0 7
    ∷ range b.vscroll 0 7
    ∷ range b.width 0 2
    ∷ range b.palettes 0 15
    ∷ []

-- an item is sound where each of its fields is within its range
unfoldable pub sound_full : Full → Bool
sound_full b = all_in (full_ranges b)

unfoldable pub sound_running : Running → Bool
sound_running b = all_in (running_ranges b)

-- the same of either kind
abbrev pub ranges_of : Item → List Range
ranges_of (full b) = full_ranges b
ranges_of (running b) = running_ranges b

abbrev pub sound_item : Item → Bool
sound_item (full b) = sound_full b
sound_item (running b) = sound_running b

-- what else is asked of an item
abbrev pub lines_of : Item → ℕ
lines_of (full b) = b.lines
lines_of (running b) = b.lines

abbrev pub is_full : Item → Bool
is_full (full b) = true
is_full (running b) = false

-- the length of a body of kind 1 or 2, and the body
abbrev pub body_size : ℕ → ℕ
body_size kind = cond (eqb kind 1) 23 7

abbrev pub body_at : List ℕ → ℕ → ℕ → Item
body_at s at kind = cond (eqb kind 1) (full (full_at s at)) (running (running_at s at))

-- the number of a kind
abbrev pub kind_number : ItemKind → ℕ
kind_number kind1 = 1
kind_number kind2 = 2

-- an item was read, and where the next begins
abbrev pub is : Item → ℕ → Result ItemRead Refusal
is it next = Ok (record { item = it; next = next })

-- the rest where the test holds, else the refusal: a chain of these is the order of the refusals
abbrev pub must : Bool → Refusal → Result ItemRead Refusal → Result ItemRead Refusal
must true why rest = rest
must false why rest = Err why

-- 10 "the first item is of kind 2", 9 "a field out of its range", 11 "lines so far, this item's included, exceed 240"
unfoldable pub fitted : Item → ℕ → ℕ → ℕ → Result ItemRead Refusal
fitted it n total next =
    must (is_full it || ltb 0 n) First (must (sound_item it) Field (must (leb (total + lines_of it) 240) Lines (is it next)))

-- the item at a place of a plan, n its number and total the lines before it: "5 (header), 7, 8, 5 (body), 10, 9, 11"
unfoldable pub item_at : List ℕ → ℕ → ℕ → ℕ → Result ItemRead Refusal
item_at s at n total =
    let kind = number2 s (at + 2) in
    let size = body_size kind in
    must (leb 4 (length s - at)) PlanCut
    (must (eqb kind 1 || eqb kind 2) Kind
    (must (eqb (number2 s at) size) Length
    (must (leb (4 + size) (length s - at)) PlanCut
    (fitted (body_at s (at + 4) kind) n total (at + 4 + size)))))

-- the item at a place where one was read before: nothing is asked but that its bytes are there
unfoldable pub known_at : List ℕ → ℕ → Result ItemRead Refusal
known_at s at =
    let kind = number2 s (at + 2) in
    let size = body_size kind in
    must (leb (4 + size) (length s - at)) PlanCut (is (body_at s (at + 4) kind) (at + 4 + size))

-- the paper's number and values for each case: "Numbers 5 and 7 to 11 come with the item's number from 0"
abbrev pub item_told : ℕ → Result ItemRead Refusal → Told ItemRead
item_told n (Ok r) = done r
item_told n (Err why) = refused (number_of why) n

abbrev pub item_answer : List ℕ → ℕ → ℕ → ℕ → Told ItemRead
item_answer s at n total = item_told n (item_at s at n total)
