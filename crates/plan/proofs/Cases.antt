-- The definitions tried on small plans: the paper's example, and the meaning of bands that run on, are scrolled, and end. Assumes nothing.
use mathlib.Core.Path.{◌≡◌, refl, sym, ap, ◌∙◌}
use mathlib.Core.List.{List, [], ◌∷◌}
use Prim.Native.Nat.{ℕ}
use native.Mathlib.Omega.{arith}
use lib.ListN.{drop, replicate}
use Rattle.refusal.specs.Sheet.{done, refused}
use Rattle.settings.specs.Settings.{off}
use Rattle.settings.specs.Below.{overlay_below, map_below, settings_below}
use Rattle.settings.specs.declared.Settings.{Settings}
use Rattle.item.specs.Item.{full_at, running_at, sound_full, sound_running, fitted, item_at}
use Rattle.item.specs.declared.Item.{Item}
use Rattle.item.specs.declared.Item.TheVariants.{Full as full, Running as running}
use Rattle.plan.specs.Plan.{good, parse_from, rest, parse}
use Rattle.plan.specs.Rules.{full_bytes, plan_bytes}
use Rattle.plan.specs.Xdl.{full_record, running_record, xdl_bytes}
use Rattle.plan.specs.Compile.{compile_answer, compile_output}
use Rattle.plan.specs.Meaning.{full_settings, running_settings, meaning_from, meaning}
use Rattle.plan.proofs.Rules.{rules_suffice}

-- the example of document 01, "At the edges"
abbrev plan : List ℕ
plan =
    23 ∷ 0 ∷ 1 ∷ 0 ∷ 1 ∷ 0 ∷ 0 ∷ 0 ∷ 0 ∷ 0 ∷ 0 ∷ 0 ∷ 0 ∷ 0 ∷ 0 ∷ 0 ∷ 0 ∷ 0 ∷ 0 ∷ 0 ∷ 0 ∷ 0 ∷ 8 ∷ 1 ∷ 1 ∷ 1 ∷ 255 ∷ []

example :
    xdl_bytes plan
    ≡ 244 ∷ 143 ∷ 0 ∷ 0 ∷ 0 ∷ 0 ∷ 0 ∷ 0 ∷ 0 ∷ 0 ∷ 0 ∷ 0 ∷ 0 ∷ 0 ∷ 0 ∷ 0 ∷ 0 ∷ 0 ∷ 7 ∷ 0 ∷ 17 ∷ 255 ∷ []
unfolding xdl_bytes parse rest parse_from item_at fitted full_at running_at sound_full sound_running full_record running_record
example = refl

-- a buffer that the list just fills is taken, one byte less is refused 13, and what lies past the list stays
room :
    (compile_answer plan 21 ≡ refused 13 0)
    × (compile_answer plan 22 ≡ done 22)
    × (drop 21 (compile_output plan (replicate 25 238)) ≡ 255 ∷ 238 ∷ 238 ∷ 238 ∷ [])
    × (compile_output plan (replicate 21 238) ≡ replicate 21 238)
unfolding compile_answer compile_output xdl_bytes parse rest parse_from item_at fitted full_at running_at sound_full sound_running full_record running_record
room = (refl, refl, refl, refl)

-- a full band and a running-on item with the fields that matter here, scrolled by so many lines or not
abbrev band_by : ℕ → ℕ → ℕ → ℕ → ℕ → ℕ → ℕ → ℕ → ℕ → Item
band_by vscroll mapvscroll lines mode address step map mapstep height =
    full
    (record {
      lines = lines;
      mode = mode;
      address = address;
      step = step;
      hscroll = 0;
      vscroll = vscroll;
      font = 0;
      map = map;
      mapaddress = 0;
      mapstep = mapstep;
      maphscroll = 0;
      mapvscroll = mapvscroll;
      fieldwidth = 8;
      fieldheight = height;
      width = 1;
      palettes = 1;
      priority = 255;
    })

abbrev band : ℕ → ℕ → ℕ → ℕ → ℕ → ℕ → ℕ → Item
band = band_by 0 0

abbrev onward_by : ℕ → ℕ → ℕ → ℕ → Item
onward_by vscroll lines hscroll palettes =
    running (record { lines = lines; hscroll = hscroll; vscroll = vscroll; font = 0; width = 1; palettes = palettes; priority = 255 })

abbrev onward : ℕ → ℕ → ℕ → Item
onward = onward_by 0

-- the example's one item, written out: it keeps the rules, so the plan is read as it
abbrev items : List Item
items = band 1 0 0 0 0 0 1 ∷ []

written : plan_bytes items ≡ plan
unfolding full_bytes
written = refl

pub example_read : parse plan ≡ good items
unfolding sound_full
example_read = ap parse (sym written) ∙ rules_suffice items refl (refl, tt) (omega arith)

-- mode, address, text counter; map address, field counter; hscroll and the palettes; the record
abbrev shown : Settings → List ℕ
shown s =
    s.overlay.mode
    ∷ s.overlay.address
    ∷ s.overlay.counter
    ∷ s.map.address
    ∷ s.map.counter
    ∷ s.overlay.hscroll
    ∷ s.look.palette
    ∷ s.look.playfield
    ∷ s.origin
    ∷ []

abbrev lines : List Item → ℕ → List ℕ → List (List ℕ)
lines items address [] = []
lines items address (k ∷ ks) = shown (meaning items address k) ∷ lines items address ks

-- SR, 6 lines from 1000h by 140h, and 2 lines that run on: then off, one line further, to line 239. The list is at 524,270, so its second record,
-- 22 bytes further, is at 4 (an item of the plan has 27 bytes, which would give 9)
pixels :
    lines (band 6 2 4096 320 0 0 8 ∷ onward 2 5 6 ∷ []) 524270 (0 ∷ 5 ∷ 6 ∷ 7 ∷ 8 ∷ 239 ∷ [])
    ≡ (2 ∷ 4096 ∷ 0 ∷ 0 ∷ 0 ∷ 0 ∷ 1 ∷ 0 ∷ 524270 ∷ [])
    ∷ (2 ∷ 5696 ∷ 0 ∷ 0 ∷ 0 ∷ 0 ∷ 1 ∷ 0 ∷ 524270 ∷ [])
    ∷ (2 ∷ 6016 ∷ 0 ∷ 0 ∷ 0 ∷ 5 ∷ 2 ∷ 1 ∷ 4 ∷ [])
    ∷ (2 ∷ 6336 ∷ 0 ∷ 0 ∷ 0 ∷ 5 ∷ 2 ∷ 1 ∷ 4 ∷ [])
    ∷ (0 ∷ 6656 ∷ 0 ∷ 0 ∷ 0 ∷ 5 ∷ 2 ∷ 1 ∷ 4 ∷ [])
    ∷ (0 ∷ 6656 ∷ 0 ∷ 0 ∷ 0 ∷ 5 ∷ 2 ∷ 1 ∷ 4 ∷ [])
    ∷ []
unfolding off overlay_below map_below settings_below full_settings running_settings meaning_from
pixels = refl

-- text goes on with its row of characters, a map of fields 3 lines high with its fields; a second full band begins anew. The records are at 7, 29, 37
text :
    lines (band 3 1 4096 160 1 50 3 ∷ onward 6 0 1 ∷ band 1 4 524287 1 0 50 3 ∷ []) 7 (0 ∷ 2 ∷ 3 ∷ 7 ∷ 8 ∷ 9 ∷ 10 ∷ [])
    ≡ (1 ∷ 4096 ∷ 0 ∷ 0 ∷ 0 ∷ 0 ∷ 1 ∷ 0 ∷ 7 ∷ [])
    ∷ (1 ∷ 4096 ∷ 2 ∷ 0 ∷ 2 ∷ 0 ∷ 1 ∷ 0 ∷ 7 ∷ [])
    ∷ (1 ∷ 4096 ∷ 3 ∷ 50 ∷ 0 ∷ 0 ∷ 1 ∷ 0 ∷ 29 ∷ [])
    ∷ (1 ∷ 4096 ∷ 7 ∷ 100 ∷ 1 ∷ 0 ∷ 1 ∷ 0 ∷ 29 ∷ [])
    ∷ (1 ∷ 4256 ∷ 0 ∷ 100 ∷ 2 ∷ 0 ∷ 1 ∷ 0 ∷ 29 ∷ [])
    ∷ (4 ∷ 524287 ∷ 0 ∷ 0 ∷ 0 ∷ 0 ∷ 1 ∷ 0 ∷ 37 ∷ [])
    ∷ (0 ∷ 0 ∷ 0 ∷ 0 ∷ 0 ∷ 0 ∷ 1 ∷ 0 ∷ 37 ∷ [])
    ∷ []
unfolding off overlay_below map_below settings_below full_settings running_settings meaning_from
text = refl

-- text scrolled by 3: its first row has five lines, and a running-on item's vscroll moves no counter. Beside it a map that is scrolled by 13, in fields of
-- 4 lines: of the first field three lines are left
scrolled_text :
    lines (band_by 3 13 6 1 4096 160 1 50 4 ∷ onward_by 6 2 0 1 ∷ []) 7 (0 ∷ 1 ∷ 2 ∷ 3 ∷ 4 ∷ 5 ∷ 6 ∷ 7 ∷ 8 ∷ 239 ∷ [])
    ≡ (1 ∷ 4096 ∷ 3 ∷ 0 ∷ 1 ∷ 0 ∷ 1 ∷ 0 ∷ 7 ∷ [])
    ∷ (1 ∷ 4096 ∷ 4 ∷ 0 ∷ 2 ∷ 0 ∷ 1 ∷ 0 ∷ 7 ∷ [])
    ∷ (1 ∷ 4096 ∷ 5 ∷ 0 ∷ 3 ∷ 0 ∷ 1 ∷ 0 ∷ 7 ∷ [])
    ∷ (1 ∷ 4096 ∷ 6 ∷ 50 ∷ 0 ∷ 0 ∷ 1 ∷ 0 ∷ 7 ∷ [])
    ∷ (1 ∷ 4096 ∷ 7 ∷ 50 ∷ 1 ∷ 0 ∷ 1 ∷ 0 ∷ 7 ∷ [])
    ∷ (1 ∷ 4256 ∷ 0 ∷ 50 ∷ 2 ∷ 0 ∷ 1 ∷ 0 ∷ 7 ∷ [])
    ∷ (1 ∷ 4256 ∷ 1 ∷ 50 ∷ 3 ∷ 0 ∷ 1 ∷ 0 ∷ 29 ∷ [])
    ∷ (1 ∷ 4256 ∷ 2 ∷ 100 ∷ 0 ∷ 0 ∷ 1 ∷ 0 ∷ 29 ∷ [])
    ∷ (0 ∷ 4256 ∷ 3 ∷ 100 ∷ 1 ∷ 0 ∷ 1 ∷ 0 ∷ 29 ∷ [])
    ∷ (0 ∷ 4256 ∷ 3 ∷ 100 ∷ 1 ∷ 0 ∷ 1 ∷ 0 ∷ 29 ∷ [])
    ∷ []
unfolding off overlay_below map_below settings_below full_settings running_settings meaning_from
scrolled_text = refl

-- an off band scrolled by 5 and SR scrolled by 3, with maps scrolled by 10 and 13 that are off: the counters hold where they start, and the addresses
-- are as ever
starts_held :
    lines (band_by 5 10 2 0 9 7 0 50 4 ∷ band_by 3 13 2 2 5 7 0 50 4 ∷ []) 7 (0 ∷ 1 ∷ 2 ∷ 3 ∷ 4 ∷ [])
    ≡ (0 ∷ 9 ∷ 5 ∷ 0 ∷ 2 ∷ 0 ∷ 1 ∷ 0 ∷ 7 ∷ [])
    ∷ (0 ∷ 9 ∷ 5 ∷ 0 ∷ 2 ∷ 0 ∷ 1 ∷ 0 ∷ 7 ∷ [])
    ∷ (2 ∷ 5 ∷ 3 ∷ 0 ∷ 1 ∷ 0 ∷ 1 ∷ 0 ∷ 29 ∷ [])
    ∷ (2 ∷ 12 ∷ 3 ∷ 0 ∷ 1 ∷ 0 ∷ 1 ∷ 0 ∷ 29 ∷ [])
    ∷ (0 ∷ 19 ∷ 3 ∷ 0 ∷ 1 ∷ 0 ∷ 1 ∷ 0 ∷ 29 ∷ [])
    ∷ []
unfolding off overlay_below map_below settings_below full_settings running_settings meaning_from
starts_held = refl
