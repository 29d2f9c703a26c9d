-- Words that say the same at each place say the same settings, and the same frame. Assumes nothing.
use mathlib.Core.Path.{◌≡◌}
use mathlib.Core.List.{List}
use Prim.Native.Nat.{ℕ}
use Rattle.words.specs.Words.{SameWords}
use Rattle.framewords.specs.Frame.{overlay_of, map_of, look_of, settings_of, frame_of}

module _ (a b : List ℕ) (e : SameWords a b) where
  pub settings_same : settings_of a ≡ settings_of b
  unfolding settings_of overlay_of map_of look_of
  settings_same = simp e

  pub frame_same : frame_of a ≡ frame_of b
  unfolding frame_of
  frame_same = simp (settings_same, e)
