-- An address may stand for its place, and where no source is read any address for the source's. Assumes nothing.
use mathlib.Core.Path.{◌≡◌, refl, sym, ap, ◌∙◌}
use mathlib.Core.Bool.{true, false}
use Prim.Native.Nat.{ℕ, zero, suc, ◌+◌, ◌%◌, ◌<◌}
use native.Mathlib.Nat.{mod-lt, mod-mod, mod-add-mod}
use native.Mathlib.Omega.{arith}
use lib.ListN.{length}
use Rattle.vram.specs.Memory.{good_length, place}
use Rattle.vram.proofs.Length.{good, wrap, own_place}
use Rattle.block.specs.Byte.{reads_source, source_by, stroke_by, written_by, struck_by}
use Rattle.block.specs.declared.Block.{Block}
use Rattle.stretch.specs.declared.Stretch.{Stretch}
use Rattle.stretch.specs.Stretch.{Trace, struck, strokes}
use Rattle.stretch.proofs.Strokes.{struck_length}

module _ (L : ℕ) (g : good_length L ≡ true) where
  pub place_in : (a : ℕ) → place L a < L
  place_in a = rw (wrap L g a) (mod-lt a (omega (arith, (good L g).least)))

  -- a place inside memory is its own
  pub stands : (i : ℕ) → i < L → place L i ≡ i
  stands i h = own_place L i h (good L g).most

  pub place_place : (a : ℕ) → place L (place L a) ≡ place L a
  place_place a = wrap L g (place L a) ∙ ap (λ (x : ℕ). x % L) (wrap L g a) ∙ mod-mod a L ∙ sym (wrap L g a)

  -- equal places stay so further on
  place_on : (a b k : ℕ) → place L a ≡ place L b → place L (a + k) ≡ place L (b + k)
  place_on a b k e =
      wrap L g (a + k)
      ∙ sym (mod-add-mod a L k)
      ∙ ap (λ (x : ℕ). (x + k) % L) (sym (wrap L g a) ∙ e ∙ wrap L g b)
      ∙ mod-add-mod b L k
      ∙ sym (wrap L g (b + k))

-- one byte, by the same places, or with no source read
module _ (b : Block) (from from' to to' : ℕ) (d : Trace) where
  pub same_byte : place (length d.mem) from ≡ place (length d.mem) from' → place (length d.mem) to ≡ place (length d.mem) to' → struck b from to d ≡ struck b from' to' d
  unfolding struck struck_by stroke_by written_by source_by
  same_byte p q = rw (p, q)

  unread_byte : reads_source b ≡ false → struck b from to d ≡ struck b from' to d
  unfolding struck struck_by stroke_by written_by source_by
  unread_byte r = rw r

-- with an AND mask of 0 none is read
pub unread_0 : (b : Block) → b.andmask ≡ 0 → reads_source b ≡ false
unfolding reads_source
unread_0 b z = rw z

module _ (b : Block) (step : ℕ) where
  -- a stretch, by the same places
  pub by_places : (along n from from' to to' : ℕ) (d : Trace) → good_length (length d.mem) ≡ true
      → place (length d.mem) from ≡ place (length d.mem) from' → place (length d.mem) to ≡ place (length d.mem) to'
      → strokes b along step n from to d ≡ strokes b along step n from' to' d
  unfolding strokes
  by_places along zero from from' to to' d g p q = refl
  by_places along (suc n) from from' to to' d g p q =
      let long = struck_length b from to d in
      by_places along n (from + along) (from' + along) (to + step) (to' + step) (struck b from to d) (rw long g) (rw long (place_on _ g from from' along p)) (rw long (place_on _ g to to' step q))
      ∙ ap (strokes b along step n (from' + along) (to' + step)) (same_byte b from from' to to' d p q)

  -- and with no source read
  pub unread : reads_source b ≡ false → (along along' n from from' to : ℕ) (d : Trace) → strokes b along step n from to d ≡ strokes b along' step n from' to d
  unfolding strokes
  unread r along along' zero from from' to d = refl
  unread r along along' (suc n) from from' to d =
      unread r along along' n (from + along) (from' + along') (to + step) (struck b from to d)
      ∙ ap (strokes b along' step n (from' + along') (to + step)) (unread_byte b from from' to to d r)

-- a stretch whose sources are all at 0
abbrev pub sourceless : Stretch → Stretch
sourceless s = record { from = 0; along = 0; to = s.to; step = s.step; count = s.count }
