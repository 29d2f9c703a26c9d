-- A line's data in one piece: as it stands in memory, and gathered. Assumes nothing.
use mathlib.Core.Path.{◌≡◌, refl, sym, ap, ◌∙◌}
use mathlib.Core.Bool.{Bool, true, false, cond}
use mathlib.Core.List.{List}
use Prim.Native.Nat.{ℕ, ◌+◌, ◌-◌, ◌≤◌, ◌<◌}
use native.Mathlib.Omega.{arith}
use lib.Dec.{eqb, ltb}
use lib.ListN.{length, take, drop, get_or, length-drop}
use lib.Seq.{get_or-take, get_or-drop, length-take-le}
use borrow.Author.Tests.{eqb-true}
use Rattle.settings.specs.Settings.{sound_settings}
use Rattle.settings.specs.declared.Settings.{Settings}
use Rattle.settings.proofs.Sound.{settings_fit}
use Rattle.vram.specs.Memory.{byte_at}
use Rattle.vram.proofs.Length.{own_place}
use Rattle.pixels.specs.Pixels.{each}
use Rattle.pixels.specs.Reads.{read_bytes}
use Rattle.pixels.specs.Fills.{piece_of}
use Rattle.pixels.proofs.Counts.{bytes_most, text_most}
use Rattle.pixels.proofs.Each.{each_all}

-- it fits into 336 bytes
more_most : (b : Bool) → cond b 2 0 ≤ 2
more_most true = omega arith
more_most false = omega arith

pub read_most : (s : Settings) → sound_settings s ≡ true → read_bytes s ≤ 336
read_most s e = go (eqb s.overlay.mode 1) refl
  where
    go : (b : Bool) → eqb s.overlay.mode 1 ≡ b → read_bytes s ≤ 336
    go true q =
        let text = text_most s.look.width (omega (arith, (settings_fit s e).look.width)) in
        rw (eqb-true s.overlay.mode 1 q) (omega (arith, text, more_most (ltb 0 s.overlay.hscroll)))
    go false q = rw q (omega (arith, bytes_most s.overlay.mode s.look.width))

-- a byte that is inside memory stands there
byte_inside : (mem : List ℕ) (a k : ℕ) → a + k < length mem → length mem ≤ 524288 → byte_at mem a k ≡ get_or mem (a + k) 0
byte_inside mem a k h m = ap (λ (p : ℕ). get_or mem p 0) (own_place (length mem) (a + k) h m)

slice_each : (mem : List ℕ) (a n : ℕ) → a + n ≤ length mem → length mem ≤ 524288 → take n (drop a mem) ≡ each (byte_at mem a) 0 n
slice_each mem a n h m =
    each_all (byte_at mem a) (take n (drop a mem)) n (length-take-le n (drop a mem) (simp length-drop (omega arith)))
    (λ i q. get_or-take n (drop a mem) i 0 q ∙ (get_or-drop a mem i 0 ∙ sym (byte_inside mem a i (omega arith) m)))

module _ (mem : List ℕ) (s : Settings) (n : ℕ) (is : n ≡ read_bytes s) where
  pub inside :
      s.overlay.address + n ≤ length mem → length mem ≤ 524288
      → take (s.overlay.address + n - s.overlay.address) (drop s.overlay.address mem) ≡ piece_of mem s
  inside h m =
      let a = s.overlay.address in
      let size : a + n - a ≡ n = omega arith in
      ap (λ (k : ℕ). take k (drop a mem)) size
      ∙ (slice_each mem a n h m ∙ ap (each (byte_at mem a) 0) is)
