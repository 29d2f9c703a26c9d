-- Document 02, A7, "All other outcomes are as before": what compiling answers, and what it answered while 12 stood on the sheet. Assumes nothing.
use mathlib.Core.Path.{◌≡◌, refl}
use mathlib.Core.List.{List}
use Prim.Native.Nat.{ℕ}
use native.Mathlib.Omega.{arith}
use lib.Dec.{leb}
use lib.ListN.{length}
use borrow.Author.Tests.{le-leb}
use Rattle.refusal.specs.Sheet.{Told, done, refused, unless}
use Rattle.plan.specs.Plan.{Parsed, good, bad, parse}
use Rattle.plan.specs.Xdl.{bytes_of}
use Rattle.plan.specs.Compile.{compile_told, checked_of, fitting, compile_answer}
use Rattle.plan.proofs.Valid.{at_most}

-- document 01, "after the last item 12, 13": "the XDL would exceed 8,192 bytes", "XDL longer than the output buffer"
abbrev pub fitting_before : Told ℕ → ℕ → Told ℕ
fitting_before (done bytes) room = unless (leb bytes 8192) 12 (unless (leb bytes room) 13 (done bytes))
fitting_before (refused number item) room = refused number item

pub as_before : (plan : List ℕ) (room : ℕ) → fitting_before (compile_told (checked_of (parse plan))) room ≡ compile_answer plan room
unfolding compile_answer
as_before plan room = go (parse plan) refl
  where
    go : (p : Parsed) → parse plan ≡ p → fitting_before (compile_told (checked_of p)) room ≡ fitting (compile_told (checked_of p)) room
    go (good l) q = let few = at_most plan l q in simp (le-leb (length (bytes_of l)) 8192 (omega arith))
    go (bad why n) q = refl
