-- The colours of text, worked out once a line; and the parts of a font line, by nibbles. Assumes nothing.
use mathlib.Core.Path.{◌≡◌, refl, ap, ap₂, ◌∙◌}
use mathlib.Core.Bool.{Bool, true, false, cond, not, ◌&&◌, ◌||◌}
use Prim.Native.Nat.{ℕ, zero, suc, ◌+◌, ◌-◌, ◌*◌, ◌/◌, ◌%◌, ◌≤◌, ◌<◌}
use native.Mathlib.Omega.{arith}
use lib.Dec.{eqb, ltb}
use lib.ListN.{get_or}
use Rattle.laws.specs.Bit.{bit}
use Rattle.pixels.specs.Pixels.{inked, shade_of}
use Rattle.pixels.specs.Fills.{inks_of, ink_of, background_of, lit_of, lit_table}
use Rattle.pixels.proofs.Each.{each_at}

-- a colour that is not clear goes by trans15 alone
ink_shade : (video palette colour : ℕ) → ink_of (inks_of video palette) colour ≡ shade_of video palette (record { colour = colour; clear = false })
ink_shade video palette colour = go (bit video 2) (bit video 3) (eqb (colour % 16) 15)
  where
    go : (nothing more fifteen : Bool)
        → cond ((not nothing && more) && fifteen) 65535 (palette * 256 + colour)
        ≡ cond (not nothing && (false || (more && fifteen))) 65535 (palette * 256 + colour)
    go true more fifteen = refl
    go false true fifteen = refl
    go false false fifteen = refl

-- a set pixel and one that is not
pub set_shade : (video palette attribute : ℕ) → ink_of (inks_of video palette) (attribute % 128) ≡ shade_of video palette (inked attribute true)
set_shade video palette attribute = ink_shade video palette (attribute % 128)

pub background_shade : (video palette attribute : ℕ) → background_of (inks_of video palette) attribute ≡ shade_of video palette (inked attribute false)
background_shade video palette attribute = go (ltb attribute 128)
  where
    go : (low : Bool)
        → cond low (inks_of video palette).bare (ink_of (inks_of video palette) attribute)
        ≡ shade_of video palette (cond low (record { colour = 128; clear = true }) (record { colour = attribute; clear = false }))
    go true = refl
    go false = ink_shade video palette attribute

-- a number of the table is a bit of its nibble
lit_nibble : (n part : ℕ) → n < 16 → part < 4 → get_or lit_table (n * 4 + part) 0 ≡ cond (bit n (3 - part)) 1 0
lit_nibble n part h k =
    let nibble : (0 + (n * 4 + part)) / 4 ≡ n = omega arith in
    let place : (0 + (n * 4 + part)) % 4 ≡ part = omega arith in
    each_at (λ j. cond (bit (j / 4) (3 - j % 4)) 1 0) 0 64 (n * 4 + part) (omega arith)
    ∙ ap₂ (λ (m q : ℕ). cond (bit m (3 - q)) 1 0) nibble place

-- the high nibble has the left four parts, the low one the right four
same_bit : (x y : ℕ) → x ≡ y → eqb x 1 ≡ eqb y 1
same_bit x y e = ap (λ (n : ℕ). eqb n 1) e

high_bit : (v part : ℕ) → part < 4 → bit (v / 16) (3 - part) ≡ bit v (7 - part)
high_bit v zero h = same_bit (v / 16 / 8 % 2) (v / 128 % 2) (omega arith)
high_bit v (suc zero) h = same_bit (v / 16 / 4 % 2) (v / 64 % 2) (omega arith)
high_bit v (suc (suc zero)) h = same_bit (v / 16 / 2 % 2) (v / 32 % 2) (omega arith)
high_bit v (suc (suc (suc zero))) h = same_bit (v / 16 / 1 % 2) (v / 16 % 2) (omega arith)
high_bit v (suc (suc (suc (suc part)))) h = absurd (omega arith)

low_bit : (v part : ℕ) → part < 4 → bit (v % 16) (3 - part) ≡ bit v (7 - (4 + part))
low_bit v zero h = same_bit (v % 16 / 8 % 2) (v / 8 % 2) (omega arith)
low_bit v (suc zero) h = same_bit (v % 16 / 4 % 2) (v / 4 % 2) (omega arith)
low_bit v (suc (suc zero)) h = same_bit (v % 16 / 2 % 2) (v / 2 % 2) (omega arith)
low_bit v (suc (suc (suc zero))) h = same_bit (v % 16 / 1 % 2) (v / 1 % 2) (omega arith)
low_bit v (suc (suc (suc (suc part)))) h = absurd (omega arith)

pub lit_left : (bits part : ℕ) → bits < 256 → part < 4 → get_or lit_table (bits / 16 * 4 + part) 0 ≡ lit_of bits part
lit_left bits part h k = lit_nibble (bits / 16) part (omega arith) k ∙ ap (λ (b : Bool). cond b 1 0) (high_bit bits part k)

pub lit_right : (bits part : ℕ) → 4 ≤ part → part < 8 → get_or lit_table (bits % 16 * 4 + (part - 4)) 0 ≡ lit_of bits part
lit_right bits part h k =
    let back : 4 + (part - 4) ≡ part = omega arith in
    lit_nibble (bits % 16) (part - 4) (omega arith) (omega arith)
    ∙ (ap (λ (b : Bool). cond b 1 0) (low_bit bits (part - 4) (omega arith)) ∙ ap (lit_of bits) back)
