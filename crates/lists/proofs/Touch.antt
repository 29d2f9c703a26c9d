-- What a run can touch: a byte that differs is the destination of a byte tick of a block as it stood when loaded. Assumes nothing.
use mathlib.Core.Path.{◌≡◌, refl, sym, ◌∙◌, ap, subst}
use mathlib.Core.Bool.{Bool, true, false}
use mathlib.Core.List.{List}
use Prim.Native.Nat.{ℕ, zero, suc, ◌+◌, ◌≤◌}
use native.Mathlib.Omega.{arith}
use lib.Dec.{eqb, ltb}
use lib.ListN.{length, get_or}
use borrow.Author.Tests.{eqb-true, eqb-false}
use Rattle.laws.proofs.Choice.{by_cond}
use Rattle.vram.specs.Memory.{place}
use Rattle.block.specs.Block.{block_at, columns_of, rows_of, next_of, dest_address}
use Rattle.block.specs.Byte.{written}
use Rattle.block.specs.declared.Block.{Block}
use Rattle.block.proofs.Byte.{place_length, written_other}
use Rattle.blitter.specs.declared.Blitter.{Blitter}
use Rattle.blitter.proofs.Sound.{Sound}
use Rattle.engine.specs.Tick.{load_tick, ended, moved_on, byte_tick, tick_blitter, tick_memory}
use Rattle.engine.specs.Machine.{Machine}
use Rattle.board.proofs.Sound.{run_board_length}
use Rattle.lists.specs.Bench.{Bench, ran}
use Rattle.lists.specs.Touch.{blitter_at, Loaded, held, read, still, Touched, Differs}
use Rattle.lists.proofs.Runs.{Ready, ran_ready, ran_none, ran_next}

-- One tick of a sound blitter.
module _ (b : Blitter) (mem : List ℕ) (s : Sound b) where
  -- flags that are neither 0 nor 1
  else_busy : eqb b.flags 0 ≡ false → eqb b.flags 1 ≡ false → b.flags ≡ 2
  else_busy p q = omega (arith, eqb-false b.flags 0 p, eqb-false b.flags 1 q, s.flags_in)

  -- what it holds while busy after the tick: what a load tick read, or what it held before a byte tick
  busy_after : (P : Block → Type 0) → (b.flags ≡ 1 → P (block_at mem b.list)) → (b.flags ≡ 2 → P b.block) → (tick_blitter b mem).flags ≡ 2 → P (tick_blitter b mem).block
  unfolding tick_blitter load_tick byte_tick moved_on ended
  busy_after P load byte =
      by_cond Q (eqb b.flags 0) _ _ (λ e f. absurd (omega (arith, eqb-true b.flags 0 e, f)))
      (λ p. by_cond Q (eqb b.flags 1) _ _ (λ e _. load (eqb-true b.flags 1 e))
      (λ q. by_cond Q (ltb (b.col + 1) (columns_of b.block)) _ _ (λ _ _. byte (else_busy p q))
      (λ _. by_cond Q (ltb (b.row + 1) (rows_of b.block)) _ _ (λ _ _. byte (else_busy p q))
      (λ _ f. absurd (by_cond (λ (n : ℕ). n ≡ 2 → ⊥) (next_of b.block) 1 0 (λ _ g. omega (arith, g)) (λ _ g. omega (arith, g)) f)))))
    where
      Q : Blitter → Type 0
      Q x = x.flags ≡ 2 → P x.block

  -- a byte that it changes is the destination of a byte tick
  abbrev at : ℕ
  at = place (length mem) (dest_address b.block b.row b.col)

  changes : (i : ℕ) → Differs mem (tick_memory b mem) i → (b.flags ≡ 2) × (i ≡ at)
  unfolding tick_memory
  changes i =
      by_cond P (eqb b.flags 0) _ _ (λ _ d. absurd (d refl))
      (λ p. by_cond P (eqb b.flags 1) _ _ (λ _ d. absurd (d refl)) (λ q d. (else_busy p q, by (eqb i at) refl d)))
    where
      P : List ℕ → Type 0
      P m = Differs mem m i → (b.flags ≡ 2) × (i ≡ at)

      by : (t : Bool) → eqb i at ≡ t → Differs mem (written b.block b.row b.col mem) i → i ≡ at
      by true e d = eqb-true i at e
      by false e d = absurd (d (written_other b.block _ _ mem i (eqb-false i at e)))

-- A run, tick by tick.
module _ {s : Bench} (r : Ready s) where
  sound_at : (t : ℕ) → Sound (blitter_at s t)
  sound_at t = (ran_ready r t).sound.blitter_in

  -- where a busy blitter's block comes from
  origin : (t : ℕ) → t ≤ 1000000 → (blitter_at s t).flags ≡ 2 → Loaded s t (blitter_at s t).block
  origin zero l f = subst (λ (m : Machine). Loaded s 0 m.blitter.block) (sym (ran_none r)) held
  origin (suc t) l f =
      subst (λ (m : Machine). m.blitter.flags ≡ 2 → Loaded s (suc t) m.blitter.block) (sym (ran_next r t (omega arith)))
      (busy_after (blitter_at s t) (ran t s).mem (sound_at t) (Loaded s (suc t)) read (λ g. still g (origin t (omega arith) g))) f

  -- a tick later
  later : {n i : ℕ} → Touched s n i → Touched s (suc n) i
  later t =
      record {
        tick = t.tick;
        early = omega (arith, t.early);
        busy = t.busy;
        loaded = t.loaded;
        row_in = t.row_in;
        col_in = t.col_in;
        there = t.there;
      }

  -- the last tick before which a byte is as it was has it as its destination
  pub touched : (n i : ℕ) → n ≤ 1000000 → Differs s.mem (ran n s).mem i → Touched s n i
  touched zero i l d = absurd (d (ap (λ (m : Machine). get_or m.mem i 0) (ran_none r)))
  touched (suc n) i l d = by (eqb (get_or (ran n s).mem i 0) (get_or s.mem i 0)) refl (touched n i (omega arith))
    where
      by : (t : Bool) → eqb (get_or (ran n s).mem i 0) (get_or s.mem i 0) ≡ t → (Differs s.mem (ran n s).mem i → Touched s n i) → Touched s (suc n) i
      by false e before = later (before (eqb-false _ _ e))
      by true e before =
          let w =
          changes (blitter_at s n) (ran n s).mem (sound_at n) i
          (λ g. d (ap (λ (m : Machine). get_or m.mem i 0) (ran_next r n (omega arith)) ∙ g ∙ eqb-true _ _ e)) in
          record {
            tick = n;
            early = omega arith;
            busy = w.0;
            loaded = origin n (omega arith) w.0;
            row_in = ((sound_at n).busy w.0).row_in;
            col_in = ((sound_at n).busy w.0).col_in;
            there = w.1 ∙ place_length (ran n s).mem s.mem _ (run_board_length s.board s.mem n);
          }
