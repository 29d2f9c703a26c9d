-- Document 01, "Refusal numbers": the table, and what a call tells.
use Rattle.std.specs.Prelude.{ℕ, Bool, true, false, Result, Ok, Err}
use Rattle.refusal.specs.declared.Refusal.{Refusal}
use Rattle.refusal.specs.declared.Refusal.TheVariants.{Board, Budget, Register, FrameOver, PlanCut, NoBand, Kind, Length, Field, First, Lines, Room, Address, State, Short}

-- the table: each name's number; 12 is unused (document 02, A7), 17 is of document 02, A5, and 16 is not there
abbrev pub number_of : Refusal → ℕ
number_of Board = 1
number_of Budget = 2
number_of Register = 3
number_of FrameOver = 4
number_of PlanCut = 5
number_of NoBand = 6
number_of Kind = 7
number_of Length = 8
number_of Field = 9
number_of First = 10
number_of Lines = 11
number_of Room = 13
number_of Address = 14
number_of State = 15
number_of Short = 17

-- what a call tells: its values, or the number and the item of a refusal
pub data Told (X : Type 0) : Type 0 where
  done : X → Told X
  refused : ℕ → ℕ → Told X

-- the paper's number and values for each case of an answer
abbrev pub told : {V : Type 0} → Result V Refusal → Told V
told (Ok v) = done v
told (Err why) = refused (number_of why) 0

-- what the test of a refusal answers
abbrev pub asked : Bool → Refusal → Result (Unit {0}) Refusal
asked true why = Ok tt
asked false why = Err why

-- a refusal that has no item of its own has item 0; the chain of these is the order of the refusals
abbrev pub unless : {X : Type 0} → Bool → ℕ → Told X → Told X
unless true number rest = rest
unless false number rest = refused number 0

-- "A refusal returns the state as handed in and writes nothing": old where the call is refused, else new
abbrev pub kept : {X A : Type 0} → Told X → A → A → A
kept (done v) old new = new
kept (refused number item) old new = old
