-- The definitions tried on small memories, by computing: the cases of D126 and D127. Assumes nothing.
use mathlib.Core.Path.{◌≡◌, refl}
use mathlib.Core.Bool.{false}
use mathlib.Core.List.{List, [], ◌∷◌, ◌++◌}
use Prim.Native.Nat.{ℕ}
use lib.ListN.{replicate}
use Rattle.settings.specs.declared.Settings.{Settings}
use Rattle.pixels.specs.Pixels.{dot_at, pixel_at, each}

-- a narrow line at address 0, with its mode, hscroll, palette, font and text counter
abbrev line_of : ℕ → ℕ → ℕ → ℕ → ℕ → Settings
line_of mode hscroll palette font counter =
    record {
      overlay = record { mode = mode; address = 0; step = 0; hscroll = hscroll; vscroll = 0; font = font; counter = counter };
      map = record { on = false; address = 0; step = 0; hscroll = 0; vscroll = 0; width = 8; height = 8; counter = 0 };
      look = record { width = 0; palette = palette; playfield = 0; priority = 255 };
      origin = 0;
    }

-- HR, palette 1, bytes F0 1F: no flags, trans15, no_trans with and without it; hscroll 5 does nothing
abbrev nibbles : ℕ → List ℕ
nibbles video = each (pixel_at (0xF0 ∷ 0x1F ∷ []) video (line_of 3 5 1 0 0)) 0 4

hr :
    (nibbles 0 ≡ 271 ∷ 65535 ∷ 257 ∷ 271 ∷ [])
    × (nibbles 8 ≡ 65535 ∷ 65535 ∷ 257 ∷ 65535 ∷ [])
    × (nibbles 4 ≡ 271 ∷ 256 ∷ 257 ∷ 271 ∷ [])
    × (nibbles 12 ≡ 271 ∷ 256 ∷ 257 ∷ 271 ∷ [])
unfolding each pixel_at dot_at
hr = (refl, refl, refl, refl)

-- SR and LR, palette 2, bytes 1F 80 03 00
abbrev bytes : ℕ → ℕ → List ℕ
bytes mode video = each (pixel_at (0x1F ∷ 0x80 ∷ 0x03 ∷ 0x00 ∷ []) video (line_of mode 7 2 0 0)) 0 4

sr_lr :
    (bytes 2 0 ≡ 543 ∷ 640 ∷ 515 ∷ 65535 ∷ [])
    × (bytes 2 8 ≡ 65535 ∷ 640 ∷ 515 ∷ 65535 ∷ [])
    × (bytes 4 4 ≡ 543 ∷ 640 ∷ 515 ∷ 512 ∷ [])
    × (bytes 4 12 ≡ 543 ∷ 640 ∷ 515 ∷ 512 ∷ [])
unfolding each pixel_at dot_at
sr_lr = (refl, refl, refl, refl)

-- text, palette 2, character 2 with an attribute and its font line 3, A1h, in a memory of 32 bytes, in which font 1 is at 0 too; from a scroll on
abbrev text : ℕ → ℕ → ℕ → List ℕ
text attribute hscroll video =
    each (pixel_at (2 ∷ attribute ∷ 0 ∷ 5 ∷ (replicate 15 0 ++ (0xA1 ∷ replicate 12 0))) video (line_of 1 hscroll 2 1 3)) 0 8

inks :
    (text 0x0F 0 0 ≡ 527 ∷ 65535 ∷ 527 ∷ 65535 ∷ 65535 ∷ 65535 ∷ 65535 ∷ 527 ∷ [])
    × (text 0x0F 0 4 ≡ 527 ∷ 640 ∷ 527 ∷ 640 ∷ 640 ∷ 640 ∷ 640 ∷ 527 ∷ [])
    × (text 0x0F 0 8 ≡ replicate 8 65535)
    × (text 0x8F 0 0 ≡ 527 ∷ 655 ∷ 527 ∷ 655 ∷ 655 ∷ 655 ∷ 655 ∷ 527 ∷ [])
    × (text 0x8F 0 8 ≡ replicate 8 65535)
    × (text 0x80 0 8 ≡ 512 ∷ 640 ∷ 512 ∷ 640 ∷ 640 ∷ 640 ∷ 640 ∷ 512 ∷ [])
    × (text 0x00 0 0 ≡ 512 ∷ 65535 ∷ 512 ∷ 65535 ∷ 65535 ∷ 65535 ∷ 65535 ∷ 512 ∷ [])
    × (text 0x85 1 0 ≡ 645 ∷ 517 ∷ 645 ∷ 645 ∷ 645 ∷ 645 ∷ 517 ∷ 65535 ∷ [])
unfolding each pixel_at dot_at
inks = (refl, refl, refl, refl, refl, refl, refl, refl)
