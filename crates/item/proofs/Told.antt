-- What is told of an item means one answer. Assumes nothing.
use mathlib.Core.Path.{◌≡◌, ap}
use Prim.Native.Nat.{ℕ}
use Rattle.std.specs.Prelude.{Result, Ok, Err}
use Rattle.refusal.specs.declared.Refusal.{Refusal}
use Rattle.refusal.proofs.Sheet.{number_one, done_refused, refused_done}
use Rattle.item.specs.Item.{item_told}
use Rattle.item.specs.declared.ItemRead.{ItemRead}

pub item_one : (n : ℕ) (x y : Result ItemRead Refusal) → item_told n x ≡ item_told n y → x ≡ y
item_one n (Ok a) (Ok b) e = cc
item_one n (Ok a) (Err w) e = done_refused e
item_one n (Err v) (Ok b) e = refused_done e
item_one n (Err v) (Err w) e = ap Err (number_one v w (cc))
