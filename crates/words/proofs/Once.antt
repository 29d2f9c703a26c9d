-- Each contract of this crate admits one outcome only. Assumes nothing.
use mathlib.Core.Path.{◌≡◌, sym, ◌∙◌}
use mathlib.Core.List.{List}
use Prim.Native.Nat.{ℕ}
use denote.Param.{number}
use denote.Param.Laws.{Laws}
use denote.RattleType.{RattleType}
use mir.Syntax.{Dict, w64}
use mir.Val.{Fits}
use Rattle.std.specs.Fn.{FnReturnsAt}
use Rattle.laws.proofs.Once.{OneAnswer, OneExit}
use Rattle.words.specs.Words.{SameWords}
use Rattle.words.specs.contracts.read_whole.F-Fn as reading
use Rattle.words.proofs.byte.Kinds as byte_kinds
use Rattle.words.proofs.byte.Reads as byte_reads
use Rattle.words.proofs.half.Kinds as half_kinds
use Rattle.words.proofs.half.Reads as half_reads
use Rattle.words.proofs.there_within.Kinds as there_within_kinds
use Rattle.words.proofs.there_within.Reads as there_within_reads
use Rattle.words.proofs.all_within.Kinds as all_within_kinds
use Rattle.words.proofs.all_within.Reads as all_within_reads
use Rattle.words.proofs.lay.Kinds as lay_kinds
use Rattle.words.proofs.lay.Reads as lay
use Rattle.words.proofs.read_whole.Kinds as read_whole_kinds
use Rattle.words.proofs.read_whole.Reads as read_whole_reads

byte_once : OneAnswer 0 byte_kinds.ps byte_kinds.r byte_reads.Post
byte_once κs a x y s t p q = p ∙ sym q

half_once : OneAnswer 0 half_kinds.ps half_kinds.r half_reads.Post
half_once κs a x y s t p q = p ∙ sym q

there_within_once : OneAnswer 2 there_within_kinds.ps there_within_kinds.r there_within_reads.Post
there_within_once κs a x y s t p q = p ∙ sym q

all_within_once : OneAnswer 2 all_within_kinds.ps all_within_kinds.r all_within_reads.Post
all_within_once κs a x y s t p q = p ∙ sym q

lay_once : OneExit 2 lay_kinds.ps lay_kinds.r lay.Post (λ κs s. s.0.now)
lay_once κs a x y s t p q = p ∙ sym q

-- of a reading that answers one value where words say the same
module _ (T F : RattleType) (N : ℕ) (L : Laws T) (M : Laws F) (h : Fits w64 N) (G : reading.Ghosts T F (number N)) (D1 D2 D3 D4 : Dict) where
  read_whole_once :
      ((f : F.Denot) (u v : List ℕ) (x y : T.Denot) → SameWords u v → FnReturnsAt G f u x → FnReturnsAt G f v y → x ≡ y)
      → OneAnswer 4 (read_whole_kinds.ps T F N L M h) (read_whole_kinds.r T F N L M h) (read_whole_reads.Post T F N L M h G D1 D2 D3 D4)
  read_whole_once one κs a x y s t p q = one _ p.0 q.0 x y (λ k. p.2 k ∙ sym (q.2 k)) p.3 q.3
