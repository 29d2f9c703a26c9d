-- The fields of a sound item, each within its range. Assumes nothing.
use mathlib.Core.Path.{◌≡◌, refl, sym, ap, ◌∙◌}
use mathlib.Core.Bool.{Bool, true, ◌&&◌, and-true, and_assoc}
use mathlib.Core.List.{List, [], ◌∷◌}
use Prim.Native.Nat.{ℕ, zero, suc, ◌≤◌}
use native.Mathlib.Omega.{arith}
use lib.Dec.{leb, leb-zero}
use lib.ListN.{get_or}
use borrow.Author.Tests.{leb-true}
use Rattle.laws.proofs.Choice.{both}
use Rattle.item.specs.Item.{Range, range, in_range, all_in, sound_full, sound_running, ranges_of, sound_item, lines_of}
use Rattle.item.specs.declared.Full.{Full}
use Rattle.item.specs.declared.Running.{Running}
use Rattle.item.specs.declared.Item.{Item}
use Rattle.item.specs.declared.Item.TheVariants.{Full as full, Running as running}

-- an item is sound by its one list of ranges
pub sound_ranges : (it : Item) → sound_item it ≡ all_in (ranges_of it)
unfolding sound_full sound_running
sound_ranges (full b) = refl
sound_ranges (running b) = refl

-- so the field at each place of the list is in its range; past the last, three times 0 will do
abbrev placed : List Range → ℕ → Range
placed l k = get_or l k (range 0 0 0)

abbrev Between : Range → Type 0
Between r = (r.low ≤ r.value) × (r.value ≤ r.high)

all_between : (l : List Range) → all_in l ≡ true → (k : ℕ) → Between (placed l k)
all_between [] e k = (omega arith, omega arith)
all_between (r ∷ l) e zero =
    let t = both (in_range r) (all_in l) e in
    let u = both (leb r.low r.value) (leb r.value r.high) t.0 in
    (leb-true r.low r.value u.0, leb-true r.value r.high u.1)
all_between (r ∷ l) e (suc k) = all_between l (both (in_range r) (all_in l) e).1 k

between : (it : Item) → sound_item it ≡ true → (k : ℕ) → Between (placed (ranges_of it) k)
between it e = all_between (ranges_of it) (sym (sound_ranges it) ∙ e)

-- the tests of a list of ranges as code joins them: from the left, and none of a low end that is 0
abbrev ends : Bool → ℕ → ℕ → ℕ → Bool
ends t value zero high = t && leb value high
ends t value (suc k) high = t && leb (suc k) value && leb value high

abbrev joined : Bool → List Range → Bool
joined t [] = t
joined t (r ∷ l) = joined (ends t r.value r.low r.high) l

ends_in : (t : Bool) (value low high : ℕ) → ends t value low high ≡ t && (leb low value && leb value high)
ends_in t value zero high = simp leb-zero
ends_in t value (suc k) high = and_assoc t (leb (suc k) value) (leb value high)

joined_all : (t : Bool) (l : List Range) → joined t l ≡ t && all_in l
joined_all t [] = sym (and-true t)
joined_all t (r ∷ l) =
    joined_all (ends t r.value r.low r.high) l
    ∙ (ap (λ (u : Bool). u && all_in l) (ends_in t r.value r.low r.high) ∙ and_assoc t (in_range r) (all_in l))

pub joined_sound : (it : Item) → joined true (ranges_of it) ≡ sound_item it
joined_sound it = joined_all true (ranges_of it) ∙ sym (sound_ranges it)

pub record FullFits (b : Full) : Type 0 where
  pub some : 1 ≤ b.lines
  pub lines : b.lines ≤ 240
  pub mode : b.mode ≤ 4
  pub address : b.address ≤ 524287
  pub step : b.step ≤ 4095
  pub hscroll : b.hscroll ≤ 7
  pub vscroll : b.vscroll ≤ 7
  pub map : b.map ≤ 1
  pub mapaddress : b.mapaddress ≤ 524287
  pub mapstep : b.mapstep ≤ 4095
  pub maphscroll : b.maphscroll ≤ 31
  pub mapvscroll : b.mapvscroll ≤ 31
  pub narrow : 8 ≤ b.fieldwidth
  pub wide : b.fieldwidth ≤ 32
  pub low : 1 ≤ b.fieldheight
  pub high : b.fieldheight ≤ 32
  pub width : b.width ≤ 2
  pub palettes : b.palettes ≤ 15

pub full_fits : (b : Full) → sound_full b ≡ true → FullFits b
full_fits b e =
    let f = between (full b) e in
    record {
      some = (f 0).0;
      lines = (f 0).1;
      mode = (f 1).1;
      address = (f 2).1;
      step = (f 3).1;
      hscroll = (f 4).1;
      vscroll = (f 5).1;
      map = (f 6).1;
      mapaddress = (f 7).1;
      mapstep = (f 8).1;
      maphscroll = (f 9).1;
      mapvscroll = (f 10).1;
      narrow = (f 11).0;
      wide = (f 11).1;
      low = (f 12).0;
      high = (f 12).1;
      width = (f 13).1;
      palettes = (f 14).1;
    }

pub record RunningFits (b : Running) : Type 0 where
  pub some : 1 ≤ b.lines
  pub lines : b.lines ≤ 240
  pub hscroll : b.hscroll ≤ 7
  pub vscroll : b.vscroll ≤ 7
  pub width : b.width ≤ 2
  pub palettes : b.palettes ≤ 15

pub running_fits : (b : Running) → sound_running b ≡ true → RunningFits b
running_fits b e =
    let f = between (running b) e in
    record { some = (f 0).0; lines = (f 0).1; hscroll = (f 1).1; vscroll = (f 2).1; width = (f 3).1; palettes = (f 4).1 }

-- an item has at least one line
pub some_line : (it : Item) → sound_item it ≡ true → 1 ≤ lines_of it
some_line (full b) e = (full_fits b e).some
some_line (running b) e = (running_fits b e).some
