-- What advancing makes of an address and a counter some lines below a band's first line: a counter that turns at h steps its address
-- every h lines. Assumes nothing.
use mathlib.Core.Path.{◌≡◌, refl, ap, ◌∙◌}
use mathlib.Core.Bool.{true, false}
use Prim.Native.Nat.{ℕ, ◌+◌, ◌*◌, ◌/◌, ◌%◌, ◌≤◌, ◌<◌}
use native.Mathlib.Nat.{div-add-mod', mod-lt, mod-add-mod, mod-eq_of_lt, div-eq_of_lt, add-mul}
use native.Mathlib.Omega.{arith}
use lib.Arith.{digits_div, digits_mod}
use borrow.Author.Tests.{ne_eqb}
use Rattle.settings.specs.Parts.{overlay_at, map_at}
use Rattle.settings.specs.Settings.{advanced_overlay, advanced_map, advanced, off}
use Rattle.settings.specs.Below.{overlay_below, map_below, settings_below}
use Rattle.settings.specs.declared.Settings.{Settings}
use Rattle.settings.specs.declared.Overlay.{Overlay}
use Rattle.settings.specs.declared.Map.{Map}

-- an address n steps on, and one step more
pub step_more : (a s n : ℕ) → ((a + n * s) % 524288 + s) % 524288 ≡ (a + (n + 1) * s) % 524288
step_more a s n = mod-add-mod (a + n * s) 524288 s ∙ ap (λ (x : ℕ). x % 524288) (omega (arith, add-mul n 1 s))

-- the line n behind line m: inside a turn of h lines, and at the turn's end
module _ (m n h : ℕ) (next : n ≡ m + 1) where
  whole : n ≡ m / h * h + (m % h + 1)
  whole = omega (arith, div-add-mod' m h)

  turned : 0 < h → h ≤ m % h + 1 → n ≡ (m / h + 1) * h + 0
  turned pos l = omega (arith, whole, mod-lt m pos, add-mul (m / h) 1 h)

  inside_count : m % h + 1 < h → n % h ≡ m % h + 1
  inside_count l = ap (λ (x : ℕ). x % h) whole ∙ digits_mod (m / h) l

  inside_steps : m % h + 1 < h → n / h ≡ m / h
  inside_steps l = ap (λ (x : ℕ). x / h) whole ∙ digits_div (m / h) l

  turn_count : 0 < h → h ≤ m % h + 1 → n % h ≡ 0
  turn_count pos l = ap (λ (x : ℕ). x % h) (turned pos l) ∙ digits_mod (m / h + 1) pos

  turn_steps : 0 < h → h ≤ m % h + 1 → n / h ≡ m / h + 1
  turn_steps pos l = ap (λ (x : ℕ). x / h) (turned pos l) ∙ digits_div (m / h + 1) pos

-- what stands k lines below: where the overlay is off, in text, in a pixel mode; where the map is off, and where it is on
pub off_below : (o : Overlay) (k : ℕ) → o.mode ≡ 0 → overlay_below o k ≡ overlay_at ((o.address + 0 * o.step) % 524288) o.counter o
unfolding overlay_below
off_below o k m = simp m

pub text_below : (o : Overlay) (k : ℕ) → o.mode ≡ 1 → overlay_below o k ≡ overlay_at ((o.address + (k + o.counter) / 8 * o.step) % 524288) ((k + o.counter) % 8) o
unfolding overlay_below
text_below o k m = simp m

pub pixels_below : (o : Overlay) (k : ℕ) → (o.mode ≡ 0 → ⊥) → (o.mode ≡ 1 → ⊥) → overlay_below o k ≡ overlay_at ((o.address + k * o.step) % 524288) o.counter o
unfolding overlay_below
pixels_below o k m n = simp (ne_eqb _ _ m, ne_eqb _ _ n)

pub off_map_below : (p : Map) (k : ℕ) → p.on ≡ false → map_below p k ≡ map_at ((p.address + 0 * p.step) % 524288) p.counter p
unfolding map_below
off_map_below p k e = simp e

pub on_map_below : (p : Map) (k : ℕ) → p.on ≡ true → map_below p k ≡ map_at ((p.address + (k + p.counter) / p.height * p.step) % 524288) ((k + p.counter) % p.height) p
unfolding map_below
on_map_below p k e = simp e

pub overlay_below_lem : (o : Overlay) (k : ℕ) → advanced_overlay (overlay_below o k) ≡ overlay_below o (k + 1)
unfolding advanced_overlay overlay_below
overlay_below_lem o k = grind (arith, step_more)

pub map_below_lem : (p : Map) (k : ℕ) → 1 ≤ p.height → advanced_map (map_below p k) ≡ map_below p (k + 1)
unfolding advanced_map map_below
map_below_lem p k pos =
    let m = k + p.counter in
    let n = k + 1 + p.counter in
    let e : n ≡ m + 1 = omega arith in
    grind (arith, inside_count m n p.height e, inside_steps m n p.height e, turn_count m n p.height e, turn_steps m n p.height e, step_more)

-- a line advances the settings k lines below a band's first line to those one line more below
pub settings_below_lem : (s : Settings) (k : ℕ) → 1 ≤ s.map.height → advanced (settings_below s k) ≡ settings_below s (k + 1)
unfolding advanced settings_below
settings_below_lem s k pos = simp (overlay_below_lem, map_below_lem s.map k pos)

-- a band's first line
pub overlay_first : (o : Overlay) → o.address < 524288 → o.counter < 8 → overlay_below o 0 ≡ o
unfolding overlay_below
overlay_first o l z = grind arith

pub map_first : (p : Map) → p.address < 524288 → p.counter < p.height → map_below p 0 ≡ p
unfolding map_below
map_first p l z = grind (arith, mod-eq_of_lt, div-eq_of_lt)

pub settings_first :
    (s : Settings) → s.overlay.address < 524288 → s.overlay.counter < 8 → s.map.address < 524288 → s.map.counter < s.map.height
    → settings_below s 0 ≡ s
unfolding settings_below
settings_first s l z m y = grind (arith, overlay_first, map_first)

-- what is off stays as it is: no advance adds to it
pub advanced_off : (s : Settings) → advanced (off s) ≡ off s
unfolding advanced off advanced_overlay advanced_map
advanced_off s = refl

pub off_off : (s : Settings) → off (off s) ≡ off s
unfolding off
off_off s = refl
