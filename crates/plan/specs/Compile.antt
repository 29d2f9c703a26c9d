-- Document 01, "Plans" and "Refusal numbers", and document 02, A7: what compiling tells, and what the output buffer holds then.
use Rattle.std.specs.Prelude.{◌≡◌, List, ◌++◌, ℕ, ◌≤◌, leb, length, drop, Result, Ok, Err}
use Rattle.refusal.specs.Sheet.{number_of, Told, done, refused, unless, kept}
use Rattle.refusal.specs.declared.Refusal.{Refusal}
use Rattle.item.specs.declared.Item.{Item}
use Rattle.item.specs.declared.ItemRead.{ItemRead}
use Rattle.plan.specs.Plan.{Parsed, good, bad, parse}
use Rattle.plan.specs.Xdl.{bytes_of, xdl_bytes}
use Rattle.plan.specs.declared.ItemRefusal.{ItemRefusal}

-- a refusal at an item
abbrev pub at_item : Refusal → ℕ → ItemRefusal
at_item why item = record { why = why; item = item }

-- an item that was read, or a refusal with its number
abbrev pub numbered : ℕ → Result ItemRead Refusal → Result ItemRead ItemRefusal
numbered n (Ok r) = Ok r
numbered n (Err why) = Err (at_item why n)

-- the paper's number and values for each case
abbrev pub compile_told : Result ℕ ItemRefusal → Told ℕ
compile_told (Ok bytes) = done bytes
compile_told (Err r) = refused (number_of r.why) r.item

-- what the first pass tells: the number of bytes, or the refusal of an item
abbrev pub checked_of : Parsed → Result ℕ ItemRefusal
checked_of (good l) = Ok (length (bytes_of l))
checked_of (bad why n) = Err (at_item why n)

-- after the last item 13: "XDL longer than the output buffer"
abbrev pub fitting : Told ℕ → ℕ → Told ℕ
fitting (done bytes) room = unless (leb bytes room) 13 (done bytes)
fitting (refused number item) room = refused number item

-- a plan, compiled into an output buffer of so many bytes
unfoldable pub compile_answer : List ℕ → ℕ → Told ℕ
compile_answer plan room = fitting (compile_told (checked_of (parse plan))) room

-- "bytes past the XDL stay"; a refusal "writes nothing"
unfoldable pub compile_output : List ℕ → List ℕ → List ℕ
compile_output plan out = kept (compile_answer plan (length out)) out (xdl_bytes plan ++ drop (length (xdl_bytes plan)) out)

-- "A plan has at most 240 lines and each item at least one, so its XDL is at most 5,280 bytes": every plan that the rules 5 to 11 let through,
-- since `parse` knows no other
abbrev pub AtMost : Type 0
AtMost = (plan : List ℕ) (items : List Item) → parse plan ≡ good items → length (bytes_of items) ≤ 5280
