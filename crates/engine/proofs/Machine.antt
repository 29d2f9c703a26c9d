-- Ticks one after the other: a run in pieces is one run, an idle blitter stays, and the run of the calls is this. Assumes nothing.
use mathlib.Core.Path.{◌≡◌, refl, sym, ap, ◌∙◌}
use Prim.Native.Nat.{ℕ, zero, suc, ◌+◌, ◌≤◌, ◌<◌}
use native.Mathlib.Nat.{add-suc, add-zero, zero-add, suc-add, add_assoc}
use native.Mathlib.Omega.{arith}
use lib.Dec.{eqb}
use lib.ListN.{length}
use borrow.Author.Tests.{eq-eqb, eqb-true}
use Rattle.laws.proofs.Choice.{by_cond}
use Rattle.engine.specs.Tick.{tick_blitter, tick_memory}
use Rattle.engine.specs.Run.{Progress, ticked, onward, run_for, progress}
use Rattle.engine.specs.Machine.{Machine, machine, tock, after}
use Rattle.blitter.proofs.Sound.{Sound}
use Rattle.engine.proofs.Tick.{tick_sound, tick_length}
use Rattle.engine.proofs.Runs.{run_tick}

pub after_none : (s : Machine) → after 0 s ≡ s
unfolding after
after_none s = refl

pub after_suc : (n : ℕ) (s : Machine) → after (suc n) s ≡ tock (after n s)
unfolding after
after_suc n s = refl

-- a run in two pieces is one run
pub after_add : (m n : ℕ) (s : Machine) → after (m + n) s ≡ after n (after m s)
unfolding after
after_add m zero s = rw (add-zero m)
after_add m (suc n) s = rw (add-suc m n) (ap tock (after_add m n s))

pub after_first : (n : ℕ) (s : Machine) → after (suc n) s ≡ after n (tock s)
unfolding after
after_first zero s = refl
after_first (suc n) s = ap tock (after_first n s)

-- an idle blitter stays as it is
pub tock_idle : (s : Machine) → s.blitter.flags ≡ 0 → tock s ≡ s
unfolding tock tick_blitter tick_memory
tock_idle s e = rw (eq-eqb s.blitter.flags 0 e)

pub after_idle : (n : ℕ) (s : Machine) → s.blitter.flags ≡ 0 → after n s ≡ s
unfolding after
after_idle zero s e = refl
after_idle (suc n) s e = ap tock (after_idle n s e) ∙ tock_idle s e

-- what a tick keeps, n ticks keep
pub after_keeps : (P : Machine → Type 0) → ((s : Machine) → P s → P (tock s)) → (n : ℕ) (s : Machine) → P s → P (after n s)
unfolding after
after_keeps P step zero s p = p
after_keeps P step (suc n) s p = step (after n s) (after_keeps P step n s p)

pub after_sound : (n : ℕ) (s : Machine) → Sound s.blitter → Sound (after n s).blitter
after_sound n s = after_keeps (λ (q : Machine). Sound q.blitter) (λ q h. unfold tock in tick_sound q.blitter q.mem h) n s

pub after_length : (n : ℕ) (s : Machine) → length (after n s).mem ≡ length s.mem
after_length n s =
    after_keeps (λ (q : Machine). length q.mem ≡ length s.mem) (λ q e. unfold tock in (tick_length q.blitter q.mem ∙ e)) n s refl

-- a run without its counts
abbrev pub bare : Progress → Machine
bare r = machine r.blitter r.mem

onward_tock : (r : Progress) → bare (onward r) ≡ tock (bare r)
unfolding onward
onward_tock r =
    by_cond (λ (q : Progress). bare q ≡ tock (bare r)) (eqb r.blitter.flags 0) r (ticked r)
    (λ e. sym (tock_idle (bare r) (eqb-true r.blitter.flags 0 e)))
    (λ _. unfold ticked tock in refl)

pub run_after : (n : ℕ) (r : Progress) → bare (run_for n r) ≡ after n (bare r)
unfolding run_for
run_after zero r = sym (after_none _)
run_after (suc n) r = run_after n (onward r) ∙ ap (after n) (onward_tock r) ∙ sym (after_first n _)

-- the run of a budget in two pieces
pub run_add : (m n : ℕ) (r : Progress) → run_for (m + n) r ≡ run_for n (run_for m r)
unfolding run_for
run_add zero n r = rw (zero-add n)
run_add (suc m) n r = rw (suc-add m n) (run_add m n (onward r))

-- a tick of the budget is counted where the blitter is not idle before it
pub run_count : (n : ℕ) (r : Progress) → ((t : ℕ) → t < n → (after t (bare r)).blitter.flags ≡ 0 → ⊥) → (run_for n r).ticks ≡ r.ticks + n
run_count zero r h = unfold run_for in sym (add-zero r.ticks)
run_count (suc n) r h =
    ap (λ (x : Progress). x.ticks) (run_tick n r (λ e. h 0 (omega arith) (rw (after_none (bare r)) e)))
    ∙ run_count n (ticked r) (λ t l e. h (suc t) (omega arith) (rw (after_first t (bare r)) (unfold tock ticked in e)))
    ∙ unfold ticked in one r.ticks n
  where
    one : (a b : ℕ) → a + 1 + b ≡ a + suc b
    one a b = omega arith

-- and never more than the budget
pub run_most : (n : ℕ) (r : Progress) → (run_for n r).ticks ≤ r.ticks + n
unfolding run_for onward ticked
run_most zero r = omega arith
run_most (suc n) r = grind (arith, run_most n (onward r))

-- counts that were there before stay in front
abbrev pub further : ℕ → ℕ → Progress → Progress
further t a r = progress r.blitter r.mem (t + r.ticks) (a + r.accesses)

onward_further : (t a : ℕ) (r : Progress) → onward (further t a r) ≡ further t a (onward r)
unfolding onward ticked
onward_further t a r = grind (arith, add_assoc)

pub run_further : (n t a : ℕ) (r : Progress) → run_for n (further t a r) ≡ further t a (run_for n r)
unfolding run_for
run_further zero t a r = refl
run_further (suc n) t a r = ap (run_for n) (onward_further t a r) ∙ run_further n t a (onward r)
