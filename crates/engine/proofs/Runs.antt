-- Laws of a run: one tick more, an idle blitter, soundness, memory's length and the counts. Assumes nothing.
use mathlib.Core.Path.{◌≡◌, refl, ◌∙◌}
use Prim.Native.Nat.{ℕ, zero, suc, ◌*◌, ◌≤◌}
use native.Mathlib.Omega.{arith}
use lib.Dec.{eqb}
use lib.ListN.{length}
use borrow.Author.Tests.{eq-eqb, ne_eqb}
use Rattle.laws.proofs.Choice.{by_cond}
use Rattle.engine.specs.Run.{Progress, ticked, onward, run_for}
use Rattle.blitter.proofs.Sound.{Sound}
use Rattle.engine.proofs.Tick.{tick_sound, tick_length, tick_small}

pub run_idle : (n : ℕ) (r : Progress) → r.blitter.flags ≡ 0 → run_for n r ≡ r
unfolding run_for onward
run_idle zero r e = refl
run_idle (suc n) r e = rw (eq-eqb r.blitter.flags 0 e) (run_idle n r e)

pub run_tick : (n : ℕ) (r : Progress) → (r.blitter.flags ≡ 0 → ⊥) → run_for (suc n) r ≡ run_for n (ticked r)
unfolding run_for onward
run_tick n r h = rw (ne_eqb r.blitter.flags 0 h)

-- what a tick keeps, a run keeps
pub run_keeps : (P : Progress → Type 0) → ((r : Progress) → P r → P (ticked r)) → (n : ℕ) (r : Progress) → P r → P (run_for n r)
unfolding run_for onward
run_keeps P step zero r p = p
run_keeps P step (suc n) r p = run_keeps P step n _ (by_cond P (eqb r.blitter.flags 0) r (ticked r) (λ _. p) (λ _. step r p))

pub run_sound : (n : ℕ) (r : Progress) → Sound r.blitter → Sound (run_for n r).blitter
run_sound n r = run_keeps (λ (q : Progress). Sound q.blitter) (λ q s. unfold ticked in tick_sound q.blitter q.mem s) n r

pub run_length : (n : ℕ) (r : Progress) → length (run_for n r).mem ≡ length r.mem
run_length n r =
    run_keeps (λ (q : Progress). length q.mem ≡ length r.mem) (λ q e. unfold ticked in (tick_length q.blitter q.mem ∙ e)) n r refl

-- at most 21 accesses a tick
pub run_few : (n : ℕ) (r : Progress) → r.accesses ≤ 21 * r.ticks → (run_for n r).accesses ≤ 21 * (run_for n r).ticks
run_few n r =
    run_keeps (λ (q : Progress). q.accesses ≤ 21 * q.ticks) (λ q e. unfold ticked in omega (arith, tick_small q.blitter q.mem)) n r
