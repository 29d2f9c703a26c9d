-- Document 01, "The blitter": the steps, and the two sums. A sum is taken over ℤ and reduced once, to 19 bits.
use Rattle.std.specs.Prelude.{cond, ℕ, ◌+◌, ◌-◌, ◌*◌, ◌%◌, ltb, ℤ, pos, negsuc, ◌+ℤ◌, ◌-ℤ◌, ◌*ℤ◌}
use Rattle.vram.specs.Memory.{number19}
use Rattle.step.specs.declared.Side.{Side}

-- a number below 2 · half, read as signed
unfoldable pub signed : ℕ → ℕ → ℤ
signed half v = cond (ltb v half) (pos v) (pos v -ℤ pos (half + half))

-- "A step in x is a signed byte"
unfoldable pub step_x : ℕ → ℤ
step_x x = signed 128 x

-- "A step in y is signed in 13 bits, -4096 to 4095: the low byte and five bits of the high byte"
unfoldable pub step_y : ℕ → ℕ → ℤ
step_y low high = signed 4096 (low + 256 * (high % 32))

-- z modulo 524,288, never negative: -(n + 1) is 524,287 - n modulo 524,288
unfoldable pub wrap19 : ℤ → ℕ
wrap19 (pos n) = n % 524288
wrap19 (negsuc n) = 524287 - n % 524288

-- adr + row · step_y + column · step_x, of the source or of the destination
unfoldable pub side_address : Side → ℕ → ℕ → ℕ
side_address side row col =
    wrap19 (pos (number19 side.adr0 side.adr1 side.adr2) +ℤ pos row *ℤ step_y side.y0 side.y1 +ℤ pos col *ℤ step_x side.x)

-- a step in x and in y of an address, modulo 524,288
unfoldable pub across_of : Side → ℕ
across_of side = wrap19 (step_x side.x)

unfoldable pub down_of : Side → ℕ
down_of side = wrap19 (step_y side.y0 side.y1)
