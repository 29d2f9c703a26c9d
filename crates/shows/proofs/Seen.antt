-- The lines of a frame that is switched on, told without the frame's own line: what is fetched and advanced is a reader. None of the 240 is refused. Assumes nothing.
use mathlib.Core.Path.{◌≡◌, ap, ◌∙◌}
use mathlib.Core.Bool.{true}
use mathlib.Core.List.{List}
use Prim.Native.Nat.{ℕ, zero, suc, ◌+◌, ◌<◌}
use native.Mathlib.Omega.{arith}
use lib.ListN.{length}
use Rattle.refusal.specs.Sheet.{done}
use Rattle.settings.specs.declared.Settings.{Settings}
use Rattle.vram.specs.Memory.{Bytes, good_length}
use Rattle.record.specs.declared.Reader.{Reader}
use Rattle.frame.specs.Frame.{sound_frame, fetched, advanced_reader, next_frame, line_at}
use Rattle.frame.specs.declared.Frame.{Frame}
use Rattle.frame.proofs.Cases.{shown_on, next_on}
use Rattle.frame.proofs.Lines.{next_line_is, line_first, line_more}
use Rattle.frame.proofs.Sound.{sound_next}

-- line k from here
unfoldable pub seen : List ℕ → Reader → ℕ → Settings
seen mem r zero = (fetched mem r).settings
seen mem r (suc k) = seen mem (advanced_reader (fetched mem r)) k

module _ (mem : List ℕ) where
  pub told_seen :
      good_length (length mem) ≡ true → Bytes mem
      → (k : ℕ) (f : Frame) → sound_frame f ≡ true → f.on ≡ true → f.line + k < 240 → line_at mem f k ≡ done (seen mem f.reader k)
  unfolding seen
  told_seen g bytes zero f s on h = line_first mem g f s (omega arith) ∙ ap done (shown_on mem f on)
  told_seen g bytes (suc k) f s on h =
      let l : f.line < 240 = omega arith in
      let n : (next_frame mem f).line + k < 240 = omega (arith, next_line_is mem f) in
      let e = next_on mem f on in
      line_more mem g f s l k
      ∙ (told_seen g bytes k (next_frame mem f) (sound_next mem bytes f s l) (ap (λ (x : Frame). x.on) e ∙ on) n
      ∙ ap (λ (x : Frame). done (seen mem x.reader k)) e)

  -- a line depends on what is fetched alone
  pub same_fetch : (r q : Reader) → fetched mem r ≡ fetched mem q → (k : ℕ) → seen mem r k ≡ seen mem q k
  unfolding seen
  same_fetch r q e zero = ap (λ (x : Reader). x.settings) e
  same_fetch r q e (suc k) = ap (λ (x : Reader). seen mem (advanced_reader x) k) e
