-- A run that is taken, by its public answers: what it leaves is n ticks, and two runs one after the other are one run with the sum of their budgets. Assumes nothing.
use mathlib.Core.Path.{◌≡◌, sym, ap, subst, ◌∙◌}
use mathlib.Core.Bool.{true}
use mathlib.Core.List.{List}
use Prim.Native.Nat.{ℕ, ◌+◌, ◌≤◌}
use native.Mathlib.Nat.{add-zero}
use native.Mathlib.Omega.{arith}
use lib.ListN.{length}
use borrow.Author.Tests.{le-leb}
use Rattle.refusal.specs.Sheet.{Told, done, refused}
use Rattle.vram.specs.Memory.{good_length}
use Rattle.blitter.specs.declared.Blitter.{Blitter}
use Rattle.engine.specs.declared.Counts.{Counts}
use Rattle.engine.specs.Run.{Progress, run_for, begun, counted, engine_answer, engine_blitter, engine_memory}
use Rattle.engine.specs.Machine.{Machine, machine, after}
use Rattle.blitter.proofs.Sound.{Sound, sound_test}
use Rattle.engine.proofs.Machine.{after_add, after_sound, after_length, run_after, run_add, further, run_further}

-- a run that none of its refusals meets
pub record Taken (b : Blitter) (mem : List ℕ) (budget : ℕ) : Type 0 where
  pub good : good_length (length mem) ≡ true
  pub sound : Sound b
  pub small : budget ≤ 1000000

-- the counts of two runs together
abbrev pub added : Told Counts → Told Counts → Told Counts
added (done c) (done d) = done (record { ticks = c.ticks + d.ticks; accesses = c.accesses + d.accesses })
added (done c) (refused number item) = refused number item
added (refused number item) told = refused number item

module _ {b : Blitter} {mem : List ℕ} {n : ℕ} (t : Taken b mem n) where
  pub taken_answer : engine_answer b mem n ≡ counted (run_for n (begun b mem))
  unfolding engine_answer
  taken_answer = simp (t.good, sound_test b t.sound, le-leb n 1000000 t.small)

  -- what it leaves is what n ticks leave
  pub taken_machine : machine (engine_blitter b mem n) (engine_memory b mem n) ≡ after n (machine b mem)
  unfolding engine_blitter engine_memory
  taken_machine = rw taken_answer (run_after n (begun b mem))

  pub taken_sound : Sound (engine_blitter b mem n)
  taken_sound = subst (λ (s : Machine). Sound s.blitter) (sym taken_machine) (after_sound n (machine b mem) t.sound)

  pub taken_length : length (engine_memory b mem n) ≡ length mem
  taken_length = ap (λ (s : Machine). length s.mem) taken_machine ∙ after_length n (machine b mem)

-- a run so far, as one that begins anew
as_further : (r : Progress) → r ≡ further r.ticks r.accesses (begun r.blitter r.mem)
as_further r = sym (λ i. record { blitter = r.blitter; mem = r.mem; ticks = add-zero r.ticks i; accesses = add-zero r.accesses i })

-- a budget in two pieces, taken or not: the counts of the first stand in front of those of the second
pub run_pieces :
    (m n : ℕ) (b : Blitter) (mem : List ℕ)
    → run_for (m + n) (begun b mem)
    ≡ further (run_for m (begun b mem)).ticks (run_for m (begun b mem)).accesses (run_for n (begun (run_for m (begun b mem)).blitter (run_for m (begun b mem)).mem))
run_pieces m n b mem = run_add m n (begun b mem) ∙ ap (run_for n) (as_further first) ∙ run_further n first.ticks first.accesses (begun first.blitter first.mem)
  where
    first : Progress
    first = run_for m (begun b mem)

module _ {b : Blitter} {mem : List ℕ} (m n : ℕ) (t : Taken b mem (m + n)) where
  pub first_taken : Taken b mem m
  first_taken = record { good = t.good; sound = t.sound; small = omega (arith, t.small) }

  pub second_taken : Taken (engine_blitter b mem m) (engine_memory b mem m) n
  second_taken = grind (arith, taken_length, taken_sound, first_taken)

  pub pieces_machine :
      machine (engine_blitter (engine_blitter b mem m) (engine_memory b mem m) n) (engine_memory (engine_blitter b mem m) (engine_memory b mem m) n)
      ≡ machine (engine_blitter b mem (m + n)) (engine_memory b mem (m + n))
  pieces_machine = grind (arith, taken_machine, first_taken, second_taken, after_add)

  pub pieces_blitter : engine_blitter (engine_blitter b mem m) (engine_memory b mem m) n ≡ engine_blitter b mem (m + n)
  pieces_blitter = ap (λ (s : Machine). s.blitter) pieces_machine

  pub pieces_memory : engine_memory (engine_blitter b mem m) (engine_memory b mem m) n ≡ engine_memory b mem (m + n)
  pieces_memory = ap (λ (s : Machine). s.mem) pieces_machine

  -- ticks and accesses add up
  pub pieces_answer : engine_answer b mem (m + n) ≡ added (engine_answer b mem m) (engine_answer (engine_blitter b mem m) (engine_memory b mem m) n)
  pieces_answer =
      taken_answer t
      ∙ ap counted (run_pieces m n b mem)
      ∙ ap (λ (s : Machine). added (counted (run_for m (begun b mem))) (counted (run_for n (begun s.blitter s.mem))))
      (run_after m (begun b mem) ∙ sym (taken_machine first_taken))
      ∙ sym (λ i. added (taken_answer first_taken i) (taken_answer second_taken i))
