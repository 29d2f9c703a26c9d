-- The contract of `plantext::compiled` admits one outcome only, at whatever the refusals are printed to. Assumes nothing.
use mathlib.Core.Path.{sym, ◌∙◌}
use denote.Param.Laws.{Laws}
use denote.RattleType.{RattleType}
use mir.Syntax.{Dict}
use Rattle.std.specs.declared.io.Print as print
use Rattle.laws.proofs.Once.{OneAnswer, OneExit}
use Rattle.plantext.proofs.Listing.{counted_once}
use Rattle.plantext.proofs.compiled.Kinds as compiled_kinds
use Rattle.plantext.proofs.compiled.Reads as compiled

module _ (T : RattleType) (L : Laws T) (P : print.Ghosts T.Denot) (D : Dict) where
  compiled_once : OneAnswer 4 (compiled_kinds.ps T L) (compiled_kinds.r T L) (compiled.Post T L P D)
  compiled_once κs a x y s t p q = counted_once _ x y p.1.0 q.1.0

  compiled_list_once : OneExit 4 (compiled_kinds.ps T L) (compiled_kinds.r T L) (compiled.Post T L P D) (λ κs s. s.1.0.now)
  compiled_list_once κs a x y s t p q = p.1.1 ∙ sym q.1.1
