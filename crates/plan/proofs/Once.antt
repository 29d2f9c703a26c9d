-- Each contract of this crate admits one outcome only. Assumes nothing.
use mathlib.Core.Path.{◌≡◌, sym, ap, ap₂, ◌∙◌}
use Rattle.std.specs.Prelude.{ℕ, Result, Ok, Err}
use Rattle.laws.proofs.Once.{OneAnswer, OneExit}
use Rattle.refusal.proofs.Sheet.{number_one, done_refused, refused_done}
use Rattle.plan.specs.Compile.{at_item, compile_told}
use Rattle.plan.specs.declared.ItemRefusal.{ItemRefusal}
use Rattle.plan.proofs.compile.Kinds as compile_kinds
use Rattle.plan.proofs.compile.Reads as compile

-- what is told means one answer
compile_one : (x y : Result ℕ ItemRefusal) → compile_told x ≡ compile_told y → x ≡ y
compile_one (Ok a) (Ok b) e = ap Ok (cc)
compile_one (Ok a) (Err w) e = done_refused e
compile_one (Err v) (Ok b) e = refused_done e
compile_one (Err v) (Err w) e = ap Err (ap₂ at_item (number_one v.why w.why (cc)) (cc))

compile_once : OneAnswer 2 compile_kinds.ps compile_kinds.r compile.Post
compile_once κs a x y s t p q = compile_one x y (p.0 ∙ sym q.0)

compile_output_once : OneExit 2 compile_kinds.ps compile_kinds.r compile.Post (λ κs s. s.1.0.now)
compile_output_once κs a x y s t p q = p.1 ∙ sym q.1
