-- What was read with its number is what was read. Assumes nothing.
use mathlib.Core.Path.{◌≡◌, ap}
use Prim.Native.Nat.{ℕ}
use Rattle.std.specs.Prelude.{Result, Ok, Err}
use Rattle.refusal.specs.declared.Refusal.{Refusal}
use Rattle.item.specs.declared.ItemRead.{ItemRead}
use Rattle.plan.specs.Compile.{numbered}

pub numbered_ok : (n : ℕ) (x : Result ItemRead Refusal) (r : ItemRead) → numbered n x ≡ Ok r → x ≡ Ok r
numbered_ok n (Ok a) r e = ap Ok (cc)
numbered_ok n (Err w) r e = cc
