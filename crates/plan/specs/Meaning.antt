-- Document 01, "Plans", "Meaning", with document 02, A2: the settings of each of the 240 lines, worked out from the items alone; A1: their record "worked
-- out from the install address and the sizes of the items".
use Rattle.std.specs.Prelude.{◌≡◌, cond, List, [], ◌∷◌, ℕ, ◌+◌, ◌-◌, ◌/◌, ◌%◌, eqb, ltb}
use Rattle.settings.specs.Parts.{scrolled, in_font, with_overlay, with_look, with_origin}
use Rattle.settings.specs.Settings.{beginning, off, without_record}
use Rattle.settings.specs.Below.{settings_below}
use Rattle.settings.specs.declared.Settings.{Settings}
use Rattle.settings.specs.declared.Look.{Look}
use Rattle.item.specs.Item.{lines_of, is_full}
use Rattle.item.specs.declared.Full.{Full}
use Rattle.item.specs.declared.Running.{Running}
use Rattle.item.specs.declared.Item.{Item}
use Rattle.item.specs.declared.Item.TheVariants.{Full as full, Running as running}
use Rattle.plan.specs.Xdl.{record_size}

-- "palettes 0..15 (overlay + 4·playfield)"
abbrev pub item_look : ℕ → ℕ → ℕ → Look
item_look width palettes priority = record { width = width; palette = palettes % 4; playfield = palettes / 4; priority = priority }

-- the first line of a full band whose record is at an address; A2: where its counters start, "the full band's vscroll" and "its map vscroll mod height"
unfoldable pub full_settings : Full → ℕ → Settings
full_settings b at =
    record {
      overlay = record {
        mode = b.mode;
        address = b.address;
        step = b.step;
        hscroll = b.hscroll;
        vscroll = b.vscroll;
        font = b.font;
        counter = b.vscroll;
      };
      map = record {
        on = eqb b.map 1;
        address = b.mapaddress;
        step = b.mapstep;
        hscroll = b.maphscroll;
        vscroll = b.mapvscroll;
        width = b.fieldwidth;
        height = b.fieldheight;
        counter = b.mapvscroll % b.fieldheight;
      };
      look = item_look b.width b.palettes b.priority;
      origin = at;
    }

-- a running-on item changes "hscroll, vscroll, font, width, palettes, priority. All else runs on from above.", so its vscroll moves no counter; its record
-- is its own
unfoldable pub running_settings : Running → ℕ → Settings → Settings
running_settings b at s =
    with_look (item_look b.width b.palettes b.priority)
    (with_overlay (in_font b.font (scrolled b.hscroll b.vscroll s.overlay)) (with_origin at s))

-- an item whose record is at an address
abbrev pub item_settings : Item → ℕ → Settings → Settings
item_settings (full b) at s = full_settings b at
item_settings (running b) at s = running_settings b at s

-- the latest full band, with what ran on since: its settings as of its first line, and how many lines below that line we are; where the next record is
pub record Latest : Type 0 where
  pub first : Settings
  pub below : ℕ
  pub next : ℕ

-- at an item's first line; the next record is behind this one, which has 22 bytes or 8
abbrev pub enter : Item → Latest → Latest
enter it l =
    record {
      first = item_settings it l.next l.first;
      below = cond (is_full it) 0 l.below;
      next = (l.next + record_size it) % 524288;
    }

-- some lines further down
abbrev pub lower : ℕ → Latest → Latest
lower n l = record { first = l.first; below = l.below + n; next = l.next }

-- "on the line k lines below the first line of the latest full band"
abbrev pub settings_at : Latest → ℕ → Settings
settings_at l k = settings_below l.first (l.below + k)

-- "Below the plan: overlay and map off; the rest as if the last item had one line more, held."
unfoldable pub meaning_from : List Item → Latest → ℕ → Settings
meaning_from [] l k = off (settings_at l 0)
meaning_from (it ∷ more) l k =
    cond (ltb k (lines_of it))
    (settings_at (enter it l) k)
    (meaning_from more (lower (lines_of it) (enter it l)) (k - lines_of it))

-- the settings of line k, where the list is installed at an address
abbrev pub meaning : List Item → ℕ → ℕ → Settings
meaning items address k = meaning_from items (record { first = beginning; below = 0; next = address }) k

-- "Nothing else in a line's settings moves": the install address decides the record and nothing else
abbrev pub AddressApart : Type 0
AddressApart =
    (items : List Item) (a b k : ℕ) → without_record (meaning items a k) ≡ without_record (meaning items b k)
