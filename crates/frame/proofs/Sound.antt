-- A sound frame stays sound over a line, whatever the bytes of memory are. Assumes nothing.
use mathlib.Core.Path.{◌≡◌, refl, ap, ◌∙◌}
use mathlib.Core.Bool.{Bool, true, false}
use mathlib.Core.List.{List, [], ◌∷◌}
use Prim.Native.Nat.{ℕ, ◌≤◌, ◌<◌}
use native.Mathlib.Omega.{arith}
use lib.Dec.{ltb, leb}
use lib.ListN.{length}
use borrow.Author.Tests.{ltb-true, ltb-false, leb-true, lt-ltb, le-leb}
use Rattle.laws.proofs.Choice.{by_cond, each_test}
use Rattle.record.proofs.Sound.{record_fits, record_position}
use Rattle.record.specs.declared.Reader.{Reader}
use Rattle.settings.specs.declared.Settings.{Settings}
use Rattle.settings.proofs.Sound.{settings_fit, settings_sound, sound_advanced, sound_off, sound_beginning}
use Rattle.settings.specs.Settings.{sound_settings}
use Rattle.vram.specs.Memory.{Bytes, good_length}
use Rattle.frame.specs.Frame.{start_of, sound_frame, fetched, shown, next_frame, line_frame}
use Rattle.frame.proofs.Cases.{line_board, line_over, line_given}
use Rattle.frame.specs.declared.Frame.{Frame}

-- what the tests of a sound frame say
pub record ReaderFits (r : Reader) : Type 0 where
  pub settings : sound_settings r.settings ≡ true
  pub position : r.position < 524288

pub record FrameFits (f : Frame) : Type 0 where
  pub reader : ReaderFits f.reader
  pub line : f.line ≤ 240

pub frame_fits_lem : (f : Frame) → sound_frame f ≡ true → FrameFits f
frame_fits_lem f e =
    let r = each_test (sound_settings f.reader.settings) (ltb f.reader.position 524288 ∷ leb f.line 240 ∷ []) e in
    record { reader = record { settings = r.0; position = ltb-true _ _ r.1.0 }; line = leb-true _ _ r.1.1.0 }

pub frame_sound : (f : Frame) → FrameFits f → sound_frame f ≡ true
frame_sound f k = simp (k.reader.settings, lt-ltb _ _ k.reader.position, le-leb _ _ k.line)

module _ (mem : List ℕ) (bytes : Bytes mem) where
  fetched_fits : (r : Reader) → ReaderFits r → ReaderFits (fetched mem r)
  unfolding fetched
  fetched_fits r k =
      by_cond ReaderFits (ltb 0 r.repeat) _ _
      (λ e. record { settings = k.settings; position = k.position })
      (λ e. by_cond ReaderFits r.ended _ _
      (λ e. record { settings = sound_off r.settings k.settings; position = k.position })
      (λ e. let s = settings_fit r.settings k.settings in record { settings = settings_sound _ (record_fits mem bytes r s k.position); position = record_position mem bytes r s k.position }))

  next_fits : (f : Frame) → FrameFits f → f.line < 240 → FrameFits (next_frame mem f)
  unfolding next_frame
  next_fits f k h =
      let g = fetched_fits f.reader k.reader in
      record {
        reader = by_cond ReaderFits f.on _ _ (λ e. record { settings = sound_advanced _ g.settings; position = g.position }) (λ e. k.reader);
        line = omega arith;
      }

  -- the reported settings are sound too
  pub sound_shown : (f : Frame) → FrameFits f → sound_settings (shown mem f) ≡ true
  unfolding shown
  sound_shown f k =
      by_cond (λ (s : Settings). sound_settings s ≡ true) f.on _ _ (λ e. (fetched_fits f.reader k.reader).settings) (λ e. sound_beginning)

module _ (mem : List ℕ) (bytes : Bytes mem) (f : Frame) (s : sound_frame f ≡ true) where
  pub sound_next : f.line < 240 → sound_frame (next_frame mem f) ≡ true
  sound_next h = frame_sound (next_frame mem f) (next_fits mem bytes f (frame_fits_lem f s) h)

  -- also where the line is refused
  pub sound_line : sound_frame (line_frame f mem) ≡ true
  sound_line = by (good_length (length mem)) refl (ltb f.line 240) refl
    where
      by : (g : Bool) → good_length (length mem) ≡ g → (h : Bool) → ltb f.line 240 ≡ h → sound_frame (line_frame f mem) ≡ true
      by false g h e = ap sound_frame (line_board mem f g).1 ∙ s
      by true g false e = ap sound_frame (line_over mem f g s (ltb-false f.line 240 e)).1 ∙ s
      by true g true e = let l = ltb-true f.line 240 e in ap sound_frame (line_given mem f g s l).1 ∙ sound_next l

-- a frame starts sound
pub sound_start : (address control : ℕ) → address < 524288 → sound_frame (start_of address control) ≡ true
sound_start address control h = simp (lt-ltb _ _ h)
