-- No two refusals share a number; what a chain of refusals that ends well says. Assumes nothing.
use mathlib.Core.Path.{◌≡◌, refl, sym, ap, ◌∙◌}
use mathlib.Core.Bool.{Bool, true, false}
use mathlib.Core.List.{[], ◌∷◌}
use Prim.Native.Nat.{ℕ}
use native.Mathlib.Omega.{arith}
use lib.ListN.{get_or}
use Rattle.laws.proofs.Once.{OneAnswer}
use Rattle.refusal.specs.Sheet.{number_of, Told, done, refused, told, asked, unless}
use Rattle.refusal.specs.declared.Refusal.{Refusal}
use Rattle.refusal.specs.declared.Refusal.TheVariants.{Board, Budget, Register, FrameOver, PlanCut, NoBand, Kind, Length, Field, First, Lines, Room, Address, State, Short}
use Rattle.std.specs.Prelude.{Result, Ok, Err}
use Rattle.refusal.specs.declared.After.{After}
use Rattle.refusal.proofs.ask.Kinds as ask_kinds
use Rattle.refusal.proofs.ask.Reads as ask
use Rattle.refusal.proofs.Refusal.number.Kinds as number_kinds
use Rattle.refusal.proofs.Refusal.number.Reads as number

-- the name at a number; at an unused one, any
abbrev name_of : ℕ → Refusal
name_of k =
    get_or (Board ∷ Board ∷ Budget ∷ Register ∷ FrameOver ∷ PlanCut ∷ NoBand ∷ Kind ∷ Length ∷ Field ∷ First ∷ Lines ∷ Board ∷ Room ∷ Address ∷ State ∷ Board ∷ Short ∷ []) k Board

name_number : (w : Refusal) → name_of (number_of w) ≡ w
name_number Board = refl
name_number Budget = refl
name_number Register = refl
name_number FrameOver = refl
name_number PlanCut = refl
name_number NoBand = refl
name_number Kind = refl
name_number Length = refl
name_number Field = refl
name_number First = refl
name_number Lines = refl
name_number Room = refl
name_number Address = refl
name_number State = refl
name_number Short = refl

-- no two refusals share a number
pub number_one : (v w : Refusal) → number_of v ≡ number_of w → v ≡ w
number_one v w e = sym (name_number v) ∙ ap name_of e ∙ name_number w

-- a refusal is no answer
pub done_refused : {X A : Type 0} {v : X} {number item : ℕ} → done v ≡ refused number item → A
done_refused e = absurd (let z : ◌≡◌ {A = ℕ} 0 1 = cc in omega arith)

pub refused_done : {X A : Type 0} {v : X} {number item : ℕ} → refused number item ≡ done v → A
refused_done e = done_refused (sym e)

-- what is told means one answer
pub told_one : {V : Type 0} (x y : Result V Refusal) → told x ≡ told y → x ≡ y
told_one (Ok v) (Ok w) e = cc
told_one (Ok v) (Err w) e = done_refused e
told_one (Err v) (Ok w) e = refused_done e
told_one (Err v) (Err w) e = ap Err (number_one v w (cc))

-- a state and what is told mean one outcome
pub after_one : {S V : Type 0} (x y : After S V) → x.state ≡ y.state → told x.report ≡ told y.report → x ≡ y
after_one x y p q = λ i. record { state = p i; report = told_one x.report y.report q i }

number_once : OneAnswer 0 number_kinds.ps number_kinds.r number.Post
number_once κs a x y s t p q = p ∙ sym q

ask_once : OneAnswer 0 ask_kinds.ps ask_kinds.r ask.Post
ask_once κs a x y s t p q = p ∙ sym q

-- a chain that is done passed its first test
pub passed : {X : Type 0} (t : Bool) (k : ℕ) (rest : Told X) (v : X) → unless t k rest ≡ done v → (t ≡ true) × (rest ≡ done v)
passed true k rest v e = (refl, e)
passed false k rest v e = refused_done e

-- what a test of a refusal says, by its answer
pub asked_ok : (t : Bool) (why : Refusal) {v : Unit {0}} → asked t why ≡ Ok v → t ≡ true
asked_ok true why e = refl
asked_ok false why e = cc

pub asked_err : (t : Bool) (why v : Refusal) → asked t why ≡ Err v → (t ≡ false) × (v ≡ why)
asked_err true why v e = cc
asked_err false why v e = (refl, cc)
