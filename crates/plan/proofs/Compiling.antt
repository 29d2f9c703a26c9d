-- What compiling tells and writes, from what the two passes do; what is known where it is done. Assumes nothing.
use mathlib.Core.Path.{◌≡◌, refl, ap}
use mathlib.Core.List.{List, ◌++◌}
use Prim.Native.Nat.{ℕ, ◌≤◌}
use native.Mathlib.Omega.{arith}
use lib.Dec.{leb}
use lib.ListN.{length, drop}
use borrow.Author.Tests.{le-leb, leb-true}
use Rattle.std.specs.Prelude.{Ok}
use Rattle.refusal.specs.Sheet.{done}
use Rattle.refusal.proofs.Sheet.{passed, refused_done}
use Rattle.plan.specs.Plan.{Parsed, good, bad, parse, items_of}
use Rattle.plan.specs.Xdl.{bytes_of, xdl_bytes}
use Rattle.plan.specs.Compile.{compile_told, checked_of, fitting, compile_answer, compile_output}
use Rattle.plan.proofs.Valid.{xdl_at_most}

-- the first pass done, the second may begin
checked : (b : ℕ) (p : Parsed) → checked_of p ≡ Ok b → (p ≡ good (items_of p)) × (length (bytes_of (items_of p)) ≡ b)
checked b (good l) c = (refl, cc)
checked b (bad why n) c = refused_done (ap compile_told c)

pub write_may_begin : (plan out : List ℕ) (b : ℕ) → checked_of (parse plan) ≡ Ok b → b ≤ length out → (parse plan ≡ good (items_of (parse plan))) × (length (xdl_bytes plan) ≤ length out)
unfolding xdl_bytes
write_may_begin plan out b e h = let g = checked b (parse plan) e in (g.0, omega arith)

-- what is known of a plan that was compiled into k bytes of so much room
taken_in : (plan : List ℕ) (room k : ℕ) → compile_answer plan room ≡ done k → (parse plan ≡ good (items_of (parse plan))) × ((length (xdl_bytes plan) ≡ k) × (k ≤ room))
unfolding compile_answer xdl_bytes
taken_in plan room k = go (parse plan)
  where
    go :
        (p : Parsed) → fitting (compile_told (checked_of p)) room ≡ done k → (p ≡ good (items_of p)) × ((length (bytes_of (items_of p)) ≡ k) × (k ≤ room))
    go (bad why n) e = refused_done e
    go (good l) e =
        let b = passed (leb (length (bytes_of l)) room) 13 _ k e in
        let count : length (bytes_of l) ≡ k = cc b.1 in
        (refl, (count, omega (arith, leb-true (length (bytes_of l)) room b.0)))

pub compiled_at_most : (plan : List ℕ) (room k : ℕ) → compile_answer plan room ≡ done k → k ≤ 5280
compiled_at_most plan room k e = omega (arith, (taken_in plan room k e).1.0, xdl_at_most plan)

-- and of the output
pub record Accepted (plan out : List ℕ) (k : ℕ) : Type 0 where
  pub items : parse plan ≡ good (items_of (parse plan))
  pub count : length (xdl_bytes plan) ≡ k
  pub room : k ≤ length out
  pub output : compile_output plan out ≡ xdl_bytes plan ++ drop k out

output_done : (plan out : List ℕ) (k : ℕ) → compile_answer plan (length out) ≡ done k → length (xdl_bytes plan) ≡ k → compile_output plan out ≡ xdl_bytes plan ++ drop k out
unfolding compile_output
output_done plan out k e c = simp e (ap (λ (j : ℕ). xdl_bytes plan ++ drop j out) c)

pub accepted : (plan out : List ℕ) (k : ℕ) → compile_answer plan (length out) ≡ done k → Accepted plan out k
accepted plan out k e =
    let t = taken_in plan (length out) k e in
    record { items = t.0; count = t.1.0; room = t.1.1; output = output_done plan out k e t.1.0 }

-- and the other way: a plan that is taken is compiled where its list fits
pub compiles : (plan : List ℕ) (room : ℕ) → parse plan ≡ good (items_of (parse plan)) → length (xdl_bytes plan) ≤ room → compile_answer plan room ≡ done (length (xdl_bytes plan))
unfolding compile_answer xdl_bytes
compiles plan room g h = rw (ap checked_of g) (simp (le-leb (length (bytes_of (items_of (parse plan)))) room h))
