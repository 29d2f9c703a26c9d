-- One outcome only. `Post` is what Rattle reads of a function's `ensures` clauses, so a statement by these is about the contract as the source has it. Assumes nothing.
use mathlib.Core.Path.{◌≡◌}
use mathlib.Core.List.{List}
use Prim.Native.Nat.{ℕ}
use borrow.Fn.Kinds.{ParamKind, ResultKind, Out, Dens, res_t, ended_of}
use contract.Lifetimes.{Lfts}
use denote.Triple.Clauses.{AtExit}

module _ (n : ℕ) (ps : List (ParamKind n)) (r : ResultKind n) (Post : Out n ps r) where
  -- two results that the contract allows at the same arguments are the same
  abbrev pub OneAnswer : Type 0
  OneAnswer = (κs : Lfts n) (a : Dens κs ps) (x y : (res_t r κs).Denot) (s t : AtExit (ended_of n ps r) κs) → Post κs a x s → Post κs a y t → x ≡ y

  -- and so is what `see` shows of the lent parameters at exit
  abbrev pub OneExit : {B : Type 0} → ((κs : Lfts n) → AtExit (ended_of n ps r) κs → B) → Type 0
  OneExit see = (κs : Lfts n) (a : Dens κs ps) (x y : (res_t r κs).Denot) (s t : AtExit (ended_of n ps r) κs) → Post κs a x s → Post κs a y t → see κs s ≡ see κs t
