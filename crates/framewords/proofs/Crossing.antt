-- Settings and a frame whose fields are within their types, laid over words, come back from them: the words fit, and the same state is read. Assumes nothing.
use mathlib.Core.Path.{◌≡◌, refl}
use mathlib.Core.Bool.{true}
use mathlib.Core.List.{List, ◌++◌}
use Prim.Native.Nat.{ℕ, ◌≤◌}
use lib.ListN.{length, get_or, drop}
use borrow.Author.Tests.{le-leb}
use Rattle.settings.specs.declared.Settings.{Settings}
use Rattle.frame.specs.declared.Frame.{Frame}
use Rattle.words.specs.Words.{word_at, byte_in, half_in, within, laid, a_byte, a_half}
use Rattle.words.proofs.Within.{byte_kept, half_kept, switch_kept, within_front}
use Rattle.framewords.specs.Frame.{settings_size, frame_size, overlay_of, map_of, look_of, settings_of, settings_words, settings_most, settings_fits, frame_of, place_words, frame_words, frame_most, frame_fits}

-- in front of any words
module _ (s : Settings) (rest : List ℕ) (fits : settings_fits (settings_words s ++ rest) ≡ true) where
  settings_back : settings_of (settings_words s ++ rest) ≡ s
  unfolding settings_of overlay_of map_of look_of settings_words settings_most
  settings_back =
      let words : List ℕ = settings_words s ++ rest in
      let byte : ((k : ℕ) → get_or settings_most k 0 ≡ a_byte → byte_in words k ≡ word_at words k) = byte_kept settings_most words fits in
      let half : ((k : ℕ) → get_or settings_most k 0 ≡ a_half → half_in words k ≡ word_at words k) = half_kept settings_most words fits in
      simp (
        byte 0 refl,
        half 2 refl,
        byte 3 refl,
        byte 4 refl,
        byte 5 refl,
        byte 6 refl,
        half 9 refl,
        byte 10 refl,
        byte 11 refl,
        byte 12 refl,
        byte 13 refl,
        byte 14 refl,
        byte 15 refl,
        byte 16 refl,
        byte 17 refl,
        byte 18 refl,
        switch_kept,
      )

settings_rest : (s : Settings) (rest : List ℕ) → settings_fits (settings_words s) ≡ true → settings_fits (settings_words s ++ rest) ≡ true
unfolding settings_words settings_most within
settings_rest s rest fits = fits

pub settings_crosses :
    (s : Settings) (words : List ℕ) → settings_size ≤ length words → settings_fits (settings_words s) ≡ true
    → (settings_fits (laid (settings_words s) words) ≡ true) × (settings_of (laid (settings_words s) words) ≡ s)
unfolding settings_words
settings_crosses s words room fits =
    let front = settings_rest s (drop settings_size words) fits in
    simp (le-leb settings_size (length words) room) (front, settings_back s (drop settings_size words) front)

-- a frame's words behind those of its settings
module _ (f : Frame) (rest : List ℕ) (fits : frame_fits (frame_words f ++ rest) ≡ true) where
  behind : List ℕ
  behind = place_words f ++ rest

  front_fits : settings_fits (settings_words f.reader.settings ++ behind) ≡ true
  unfolding behind frame_words settings_words frame_most
  front_fits = within_front settings_most _ (frame_words f ++ rest) 0 fits

  frame_back : frame_of (frame_words f ++ rest) ≡ f
  unfolding behind frame_of frame_words settings_words frame_most settings_most
  frame_back =
      let words : List ℕ = frame_words f ++ rest in
      simp (settings_back f.reader.settings behind front_fits, byte_kept frame_most words fits 21 refl, half_kept frame_most words fits 22 refl, switch_kept)

frame_rest : (f : Frame) (rest : List ℕ) → frame_fits (frame_words f) ≡ true → frame_fits (frame_words f ++ rest) ≡ true
unfolding frame_words settings_words frame_most settings_most within
frame_rest f rest fits = fits

pub frame_crosses :
    (f : Frame) (words : List ℕ) → frame_size ≤ length words → frame_fits (frame_words f) ≡ true
    → (frame_fits (laid (frame_words f) words) ≡ true) × (frame_of (laid (frame_words f) words) ≡ f)
unfolding frame_words settings_words
frame_crosses f words room fits =
    let front = frame_rest f (drop frame_size words) fits in
    simp (le-leb frame_size (length words) room) (front, frame_back f (drop frame_size words) front)
