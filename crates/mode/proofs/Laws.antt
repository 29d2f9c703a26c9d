-- How large the entries of the mode table are, from bytes; and that no code is left without a mask. Assumes nothing.
use mathlib.Core.Path.{◌≡◌, refl}
use mathlib.Core.Bool.{Bool, not, cond, ◌&&◌, and-false}
use mathlib.Core.List.{List, [], ◌∷◌}
use Prim.Native.Nat.{ℕ, zero, suc, ◌+◌, ◌*◌, ◌/◌, ◌%◌, ◌^◌, ◌≤◌, ◌<◌}
use native.Mathlib.Nat.{zero-div}
use native.Mathlib.Omega.{arith}
use lib.Bits.{or_lt, and_lt, xor_lt}
use lib.Dec.{eqb}
use lib.ListN.{get_or}
use Rattle.laws.proofs.Choice.{by_cond}
use Rattle.mode.specs.Mode.{over_nibble, over, value_in, writes_in, cost_in, accesses_in, hits, code_by, code_byte, code_nibbles, code_in}

-- a choice between two numbers below n
either : (n : ℕ) (t : Bool) (x y : ℕ) → x < n → y < n → cond t x y < n
either n t x y h k = by_cond (λ (v : ℕ). v < n) t x y (λ _. h) (λ _. k)

-- two nibbles make a byte
byte : (high low : ℕ) → high < 16 → low < 16 → high * 16 + low < 256
byte high low h k = omega arith

-- what holds of each entry of a list, and of what stands past it, holds at every place
module _ (P : ℕ → Type 0) where
  data Each : List ℕ → Type 0 where
    none : Each []
    one : {v : ℕ} {vs : List ℕ} → P v → Each vs → Each (v ∷ vs)

  entry : {vs : List ℕ} → Each vs → (k d : ℕ) → P d → P (get_or vs k d)
  entry none k d p = p
  entry (one q e) zero d p = q
  entry (one q e) (suc k) d p = entry e k d p

over_nibble_lem : (s d : ℕ) → s < 16 → d < 16 → over_nibble s d < 16
unfolding over_nibble
over_nibble_lem s d h k = either 16 (eqb s 0) d s k h

-- the high nibble and the low one of a byte laid over another
pub over_high : (s d : ℕ) → s < 256 → d < 256 → over_nibble (s / 16) (d / 16) < 16
over_high s d h k = over_nibble_lem (s / 16) (d / 16) (omega arith) (omega arith)

pub over_low : (s d : ℕ) → over_nibble (s % 16) (d % 16) < 16
over_low s d = over_nibble_lem (s % 16) (d % 16) (omega arith) (omega arith)

over_small : (s d : ℕ) → s < 256 → d < 256 → over s d < 256
unfolding over
over_small s d h k = byte _ _ (over_high s d h k) (over_low s d)

pub value_small : (mode s d : ℕ) → s < 256 → d < 256 → value_in mode s d < 256
unfolding value_in
value_small mode s d h k =
    entry (λ (v : ℕ). v < 256) (one h (one h (one (omega arith) (one (or_lt 8 d s k h) (one (and_lt 8 d s k h) (one (xor_lt 8 d s k h) (one (over_small s d h k) none))))))) mode d k

code_by_lem : (n colours mask s d code : ℕ) → d < n → code < n → code_by colours mask s d code < n
unfolding code_by
code_by_lem n colours mask s d code h k = either n (hits colours mask s d) d code h k

-- the high nibble of the code, and the low one
pub code_high : (mask s d code : ℕ) → d < 256 → code < 256 → code_by 2 mask (s / 16) (d / 16) (code / 16) < 16
code_high mask s d code h k = code_by_lem 16 2 mask (s / 16) (d / 16) (code / 16) (omega arith) (omega arith)

pub code_low : (mask s d code : ℕ) → code_by 2 mask (s % 16) (d % 16) (code % 16) < 16
code_low mask s d code = code_by_lem 16 2 mask (s % 16) (d % 16) (code % 16) (omega arith) (omega arith)

code_nibbles_lem : (mask s d code : ℕ) → d < 256 → code < 256 → code_nibbles mask s d code < 256
unfolding code_nibbles
code_nibbles_lem mask s d code h k = byte _ _ (code_high mask s d code h k) (code_low mask s d code)

pub code_small : (mode mask s d code : ℕ) → d < 256 → code < 256 → code_in mode mask s d code < 256
unfolding code_in code_byte
code_small mode mask s d code h k =
    let b = code_by_lem 256 32 mask s d code h k in
    entry (λ (v : ℕ). v < 256) (one k (one b (one b (one b (one b (one b (one (code_nibbles_lem mask s d code h k) none))))))) mode code k

two : 2 ≤ 2
two = omega arith

cost_small : (mode mask : ℕ) → cost_in mode mask ≤ 2
unfolding cost_in
cost_small mode mask =
    let one-or-two = either 3 (eqb mask 0) 1 2 (omega arith) (omega arith) in
    entry (λ (v : ℕ). v ≤ 2) (one (omega arith) (one (omega arith) (one two (one two (one two (one two (one two none))))))) mode 0 (omega arith)

-- at most two accesses to the destination
pub accesses_small : (mode mask s : ℕ) → accesses_in mode mask s ≤ 2
unfolding accesses_in
accesses_small mode mask s = by_cond (λ (v : ℕ). v ≤ 2) (writes_in mode s) (cost_in mode mask) 0 (λ _. cost_small mode mask) (λ _. omega arith)

-- where no bit of the mask is set the code stays
no_hit : (colours s d code : ℕ) → code_by colours 0 s d code ≡ code
unfolding code_by hits
no_hit colours s d code = rw (zero-div (2 ^ (d / colours)), and-false (not (eqb s 0) && not (eqb d 0)))

pub code_stays : (mode mask s d code : ℕ) → mask ≡ 0 → code_in mode mask s d code ≡ code
unfolding code_in code_byte code_nibbles
code_stays mode mask s d code z =
    let whole : code_by 32 mask s d code ≡ code = rw z (no_hit 32 s d code) in
    let halves : code_by 2 mask (s / 16) (d / 16) (code / 16) * 16 + code_by 2 mask (s % 16) (d % 16) (code % 16) ≡ code =
    rw (z, no_hit 2 (s / 16) (d / 16) (code / 16), no_hit 2 (s % 16) (d % 16) (code % 16)) (omega arith) in
    entry (λ (v : ℕ). v ≡ code) (one refl (one whole (one whole (one whole (one whole (one whole (one halves none))))))) mode code refl
