-- The lines seen from where memory holds the records of a plan's items are what the items mean. Assumes nothing.
use mathlib.Core.Path.{◌≡◌, refl, sym, ap, ap₂, ◌∙◌}
use mathlib.Core.Bool.{Bool, true, false, cond}
use mathlib.Core.List.{List, [], ◌∷◌}
use mathlib.Core.Logic.{◌⊎◌, inl, inr, ⊎_elim}
use Prim.Native.Nat.{ℕ, zero, suc, ◌+◌, ◌-◌, ◌%◌, ◌≤◌, ◌<◌}
use native.Mathlib.Decide.{dec_lt}
use native.Mathlib.Nat.{zero-add, add-zero, add_assoc, suc-add, mod-lt}
use native.Mathlib.Omega.{arith}
use lib.Dec.{ltb}
use borrow.Author.Tests.{lt-ltb, le-ltb}
use Rattle.laws.proofs.Choice.{true_false}
use Rattle.settings.specs.Settings.{beginning, advanced, off}
use Rattle.settings.specs.Below.{overlay_below, map_below, settings_below}
use Rattle.settings.specs.declared.Settings.{Settings}
use Rattle.settings.proofs.Steps.{settings_below_lem, settings_first, advanced_off, off_off}
use Rattle.record.specs.declared.Reader.{Reader}
use Rattle.frame.specs.Frame.{fetched, advanced_reader}
use Rattle.item.specs.Item.{sound_item, lines_of, is_full}
use Rattle.item.specs.declared.Full.{Full}
use Rattle.item.specs.declared.Running.{Running}
use Rattle.item.specs.declared.Item.{Item}
use Rattle.item.specs.declared.Item.TheVariants.{Full as full, Running as running}
use Rattle.item.proofs.Ranges.{full_fits, some_line}
use Rattle.plan.specs.Xdl.{is_last, record_bytes, record_size, bytes_of}
use Rattle.plan.specs.Meaning.{full_settings, running_settings, Latest, enter, lower, settings_at, meaning_from, meaning}
use Rattle.plan.proofs.Records.{length_record}
use Rattle.plan.specs.Rules.{StartsFull, AllSound}
use Rattle.shows.specs.Shows.{Holds}
use Rattle.shows.proofs.Holding.{holds_front, holds_back}
use Rattle.shows.proofs.Reading.{read_full, read_running}
use Rattle.shows.proofs.Seen.{seen, same_fetch}

-- a field of the latest band has a line
abbrev Tall : Latest → Type 0
Tall e = 1 ≤ e.first.map.height

-- one line further below the latest full band
advance : (e : Latest) (d : ℕ) → Tall e → advanced (settings_at e d) ≡ settings_at e (d + 1)
advance e d tall =
    settings_below_lem e.first (e.below + d) tall ∙ ap (settings_below e.first) (add_assoc e.below d 1)

-- the lines of an item that are left over are those of the next
lowered : (e : Latest) (n : ℕ) → settings_at e n ≡ settings_at (lower n e) 0
lowered e n = ap (settings_below e.first) (sym (add-zero (e.below + n)))

-- a full band's first line; one that runs on leaves addresses and counters as they are
full_first : (b : Full) (at : ℕ) → sound_item (full b) ≡ true → full_settings b at ≡ settings_below (full_settings b at) (0 + 0)
unfolding full_settings
full_first b at s =
    let f = full_fits b s in
    sym (settings_first (full_settings b at) (omega (arith, f.address)) (omega (arith, f.vscroll)) (omega (arith, f.mapaddress)) (mod-lt b.mapvscroll f.low))

running_below : (b : Running) (at : ℕ) (s : Settings) (k : ℕ) → running_settings b at (settings_below s k) ≡ settings_below (running_settings b at s) k
unfolding running_settings settings_below overlay_below map_below
running_below b at s k = refl

-- an item keeps the field's height, or brings its own
enter_tall : (it : Item) (l : Latest) → sound_item it ≡ true → (is_full it ≡ true) ⊎ Tall l → Tall (enter it l)
unfolding full_settings running_settings
enter_tall (full b) l s t = (full_fits b s).low
enter_tall (running b) l s t = ⊎_elim (λ (e : false ≡ true). true_false (sym e)) (λ h. h) t

module _ (mem : List ℕ) where
  -- a reader at p; at the begin of a record or past the last; and one that repeats a record's settings
  abbrev reading : Settings → ℕ → ℕ → Bool → Reader
  reading set p repeat ended = record { settings = set; position = p; repeat = repeat; ended = ended }

  abbrev at_item : Settings → ℕ → Bool → Reader
  at_item set p ended = reading set p 0 ended

  abbrev held : Latest → ℕ → ℕ → ℕ → Bool → Reader
  held e r p d last = reading (settings_at e d) p r last

  -- 1. The lines that are repeated.
  module _ (e : Latest) (tall : Tall e) (p : ℕ) (last : Bool) where
    fetch_held : (r d : ℕ) → fetched mem (held e (suc r) p d last) ≡ held e r p d last
    unfolding fetched
    fetch_held r d = simp (lt-ltb 0 (suc r) (omega arith)) (ap (λ (x : ℕ). held e x p d last) (omega arith))

    turn : (r d k : ℕ) → seen mem (held e (suc r) p d last) (suc k) ≡ seen mem (held e r p (d + 1) last) k
    unfolding seen
    turn r d k =
        ap (λ (f : Reader). seen mem (advanced_reader f) k) (fetch_held r d)
        ∙ ap (λ (x : Settings). seen mem (reading x p r last) k) (advance e d tall)

    held_in : (r d k : ℕ) → k < r → seen mem (held e r p d last) k ≡ settings_at e (d + k)
    unfolding seen
    held_in zero d k h = absurd (omega arith)
    held_in (suc r) d zero h = ap (λ (f : Reader). f.settings) (fetch_held r d) ∙ ap (settings_at e) (sym (add-zero d))
    held_in (suc r) d (suc k) h = turn r d k ∙ (held_in r (d + 1) k (omega arith) ∙ ap (settings_at e) (omega arith))

    held_out : (r d k : ℕ) → seen mem (held e r p d last) (r + k) ≡ seen mem (held e 0 p (d + r) last) k
    held_out zero d k = ap₂ (λ (a b : ℕ). seen mem (held e 0 p a last) b) (sym (add-zero d)) (zero-add k)
    held_out (suc r) d k =
        ap (seen mem (held e (suc r) p d last)) (suc-add r k)
        ∙ (turn r d (r + k) ∙ (held_out r (d + 1) k ∙ ap (λ (a : ℕ). seen mem (held e 0 p a last) k) (omega arith)))

  -- 2. An item: its first line is as if it had been held for as many lines as it has.
  -- the settings at hand are the latest band's, unless the next item brings its own
  abbrev Ready : List Item → Latest → Settings → Type 0
  Ready [] l set = set ≡ settings_at l 0
  Ready (it ∷ more) l set = (is_full it ≡ true) ⊎ ((set ≡ settings_at l 0) × Tall l)

  ready : (items : List Item) (l : Latest) (set : Settings) → set ≡ settings_at l 0 → Tall l → Ready items l set
  ready [] l set e t = e
  ready (it ∷ more) l set e t = inr (e, t)

  fetch_item :
      (it : Item) (more : List Item) (l : Latest) (set : Settings) (last : Bool) → sound_item it ≡ true → Ready (it ∷ more) l set
      → Holds mem l.next (record_bytes it last)
      → fetched mem (at_item set l.next false) ≡ held (enter it l) (lines_of it - 1) (enter it l).next 0 last
  unfolding fetched
  fetch_item (full b) more l set last s r h =
      read_full mem (at_item set l.next false) b last s h
      ∙ ap (λ (x : Settings). reading x ((l.next + 22) % 524288) (b.lines - 1) last) (full_first b l.next s)
  fetch_item (running b) more l set last s r h =
      ⊎_elim
      (λ (e : false ≡ true). true_false (sym e))
      (λ e.
      read_running mem (at_item set l.next false) b last s h
      ∙ ap (λ (x : Settings). reading x ((l.next + 8) % 524288) (b.lines - 1) last)
      (ap (running_settings b l.next) e.0 ∙ running_below b l.next l.first (l.below + 0)))
      r

  as_held :
      (it : Item) (more : List Item) (l : Latest) (set : Settings) (last : Bool) → sound_item it ≡ true → Ready (it ∷ more) l set → Tall (enter it l)
      → Holds mem l.next (record_bytes it last)
      → (k : ℕ) → seen mem (at_item set l.next false) k ≡ seen mem (held (enter it l) (lines_of it) (enter it l).next 0 last) k
  as_held it more l set last s r tall h =
      let e = enter it l in
      let one : lines_of it ≡ suc (lines_of it - 1) = omega (arith, some_line it s) in
      same_fetch mem _ _
      (fetch_item it more l set last s r h
      ∙ sym (ap (λ (n : ℕ). fetched mem (held e n e.next 0 last)) one ∙ fetch_held e tall e.next last (lines_of it - 1) 0))

  -- 3. After the list.
  after_end : (set : Settings) (p k : ℕ) → seen mem (at_item set p true) k ≡ off set
  unfolding seen fetched
  after_end set p zero = refl
  after_end set p (suc k) = ap (λ (s : Settings). seen mem (at_item s p true) k) (advanced_off set) ∙ (after_end (off set) p k ∙ off_off set)

  -- 4. The walk.
  split : (a b : ℕ) → b ≤ a → a ≡ b + (a - b)
  split a b h = omega arith

  walk :
      (items : List Item) (l : Latest) (set : Settings) → AllSound items → Ready items l set → Holds mem l.next (bytes_of items)
      → (k : ℕ) → seen mem (at_item set l.next (is_last items)) k ≡ meaning_from items l k
  unfolding meaning_from
  walk [] l set s r h k = after_end set l.next k ∙ ap off r
  walk (it ∷ more) l set s r h k =
      go (dec_lt k (lines_of it)) (walk more (lower (lines_of it) e) (settings_at e (0 + lines_of it)) s.1 (ready more _ _ (ap (settings_at e) (zero-add (lines_of it)) ∙ lowered e (lines_of it)) tall) back)
    where
      e : Latest
      e = enter it l

      last : Bool
      last = is_last more

      tall : Tall (enter it l)
      tall = enter_tall it l s.0 (⊎_elim (λ f. inl f) (λ t. inr t.1) r)

      front : Holds mem l.next (record_bytes it (is_last more))
      front = holds_front mem l.next (record_bytes it (is_last more)) (bytes_of more) h

      back : Holds mem (enter it l).next (bytes_of more)
      back = holds_back mem l.next (record_bytes it (is_last more)) (bytes_of more) h (record_size it) (length_record it (is_last more))

      go :
          Dec (k < lines_of it) → ((j : ℕ) → seen mem (at_item (settings_at e (0 + lines_of it)) e.next (is_last more)) j ≡ meaning_from more (lower (lines_of it) e) j)
          → seen mem (at_item set l.next false) k ≡ cond (ltb k (lines_of it)) (settings_at e k) (meaning_from more (lower (lines_of it) e) (k - lines_of it))
      go (yes lt) below =
          simp (lt-ltb k (lines_of it) lt)
          (as_held it more l set last s.0 r tall front k ∙ (held_in e tall e.next last (lines_of it) 0 k lt ∙ ap (settings_at e) (zero-add k)))
      go (no nlt) below =
          simp (le-ltb k (lines_of it) (omega arith))
          (as_held it more l set last s.0 r tall front k
          ∙ (ap (seen mem (held e (lines_of it) e.next 0 last)) (split k (lines_of it) (omega arith))
          ∙ (held_out e tall e.next last (lines_of it) 0 (k - lines_of it) ∙ below (k - lines_of it))))

  -- a plan begins with a full band
  pub walked :
      (items : List Item) (p : ℕ) → AllSound items → StartsFull items → Holds mem p (bytes_of items)
      → (k : ℕ) → seen mem (at_item beginning p false) k ≡ meaning items p k
  walked [] p s f h k = absurd f
  walked (it ∷ more) p s f h k = walk (it ∷ more) (record { first = beginning; below = 0; next = p }) beginning s (inl f) h k
