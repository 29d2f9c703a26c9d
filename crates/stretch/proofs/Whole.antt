-- A whole stretch, by memory's length and the mode. Assumes nothing.
use mathlib.Core.Path.{◌≡◌, refl, sym, ap, ◌∙◌}
use mathlib.Core.List.{List}
use Prim.Native.Nat.{ℕ, zero, suc, ◌+◌}
use lib.ListN.{length}
use Rattle.laws.proofs.Choice.{by_cond}
use Rattle.vram.specs.Memory.{good_length}
use Rattle.block.specs.Block.{mode_of}
use Rattle.block.specs.declared.Block.{Block}
use Rattle.block.specs.declared.Note.{Note}
use Rattle.stretch.specs.declared.Stretch.{Stretch}
use Rattle.stretch.specs.Stretch.{Trace, trace, strokes, Covers, trace_of}
use Rattle.stretch.specs.Flat.{first_of}
use Rattle.stretch.proofs.Single.{still}

-- in mode 7 nothing changes
idle : (b : Block) (along step n from to : ℕ) (mem : List ℕ) (note : Note) (made : ℕ) → mode_of b ≡ 7 → strokes b along step n from to (trace mem note made) ≡ trace mem note made
unfolding strokes
idle b along step zero from to mem note made m = refl
idle b along step (suc n) from to mem note made m =
    ap (λ (d : Trace). strokes b along step n (from + along) (to + step) d) (still b mem from to note made m)
    ∙ idle b along step n (from + along) (to + step) mem note made m

pub by_idle : (b : Block) (s : Stretch) (mem : List ℕ) → mode_of b ≡ 7 → Covers b s mem mem 0
by_idle b s mem m note = sym (idle b s.along s.step s.count s.from s.to mem note 0 m)

-- none of its bytes
pub by_nothing : (b : Block) (s : Stretch) (mem : List ℕ) (note : Note) → trace mem note 0 ≡ trace_of b (first_of s 0) mem note
unfolding trace_of strokes
by_nothing b s mem note = by_cond (λ (d : Trace). trace mem note 0 ≡ d) (good_length (length mem)) (trace mem note 0) (trace mem note 0) (λ _. refl) (λ _. refl)
