-- Runs one after the other, by the board's own calls, are as many ticks as their budgets have together. Assumes nothing.
use mathlib.Core.Path.{◌≡◌, refl, sym, ◌∙◌, ap}
use mathlib.Core.Bool.{true}
use mathlib.Core.List.{List, [], ◌∷◌}
use Prim.Native.Nat.{ℕ, suc, ◌+◌, ◌-◌, ◌<◌, ◌≤◌}
use native.Mathlib.Nat.{zero-add}
use native.Mathlib.Omega.{arith}
use lib.Dec.{leb}
use lib.ListN.{length}
use borrow.Author.Tests.{leb-true}
use Rattle.laws.proofs.Choice.{both}
use Rattle.vram.specs.Memory.{good_length}
use Rattle.blitter.specs.declared.Blitter.{Blitter}
use Rattle.engine.specs.Tick.{tick_blitter, tick_memory}
use Rattle.engine.specs.Run.{Progress, run_for, begun}
use Rattle.engine.specs.Machine.{Machine, machine, tock, after}
use Rattle.engine.proofs.Machine.{after_none, after_suc, after_add, after_idle, run_after, run_add, run_count}
use Rattle.engine.proofs.Runs.{run_idle}
use Rattle.engine.proofs.Pieces.{Taken, taken_answer, taken_machine, run_pieces}
use Rattle.board.specs.Board.{run_answer}
use Rattle.board.proofs.Sound.{Sound, run_board_sound, run_board_length}
use Rattle.board.proofs.Pieces.{Same, run_is}
use Rattle.lists.specs.Bench.{Bench, ran, ticks_in, runs, reported, sum, allowed}
use Rattle.lists.specs.Ends.{Ends}

-- the blitter and the memory of a bench
abbrev pub machine_of : Bench → Machine
machine_of s = machine s.board.blitter s.mem

abbrev pub flags_of : Machine → ℕ
flags_of m = m.blitter.flags

-- a bench on which a run with an allowed budget is not refused
pub record Ready (s : Bench) : Type 0 where
  pub good : good_length (length s.mem) ≡ true
  pub sound : Sound s.board

module _ {s : Bench} (r : Ready s) where
  -- one run
  module _ {n : ℕ} (small : n ≤ 1000000) where
    taken : Taken s.board.blitter s.mem n
    taken = record { good = r.good; sound = r.sound.blitter_in; small = small }

    gives : Same s.board s.mem n s.board s.mem
    gives = run_is s.board s.mem n r.good r.sound

    pub ran_machine : machine_of (ran n s) ≡ after n (machine_of s)
    ran_machine = sym (λ i. machine (gives.1.0 i).blitter (gives.1.1 i)) ∙ taken_machine taken

    ran_ticks : ticks_in (run_answer s.board s.mem n) ≡ (run_for n (begun s.board.blitter s.mem)).ticks
    ran_ticks = ap ticks_in (sym gives.0 ∙ taken_answer taken)

  pub ran_ready : (n : ℕ) → Ready (ran n s)
  ran_ready n =
      record {
        good = ap good_length (run_board_length s.board s.mem n) ∙ r.good;
        sound = run_board_sound s.board s.mem n r.sound;
      }

  -- a run with a budget of one more does one tick more
  pub ran_none : machine_of (ran 0 s) ≡ machine_of s
  ran_none = ran_machine (omega arith) ∙ after_none (machine_of s)

  pub ran_next : (t : ℕ) → t < 1000000 → machine_of (ran (suc t) s) ≡ machine (tick_blitter (ran t s).board.blitter (ran t s).mem) (tick_memory (ran t s).board.blitter (ran t s).mem)
  unfolding tock
  ran_next t l = ran_machine (omega arith) ∙ after_suc t (machine_of s) ∙ ap tock (sym (ran_machine (omega arith)))

-- all of them leave what as many ticks leave, and report the ticks of one run with all their budgets
first_small : (n : ℕ) (ns : List ℕ) → allowed (n ∷ ns) ≡ true → n ≤ 1000000
unfolding allowed
first_small n ns e = leb-true _ _ (both _ _ e).0

rest_allowed : (n : ℕ) (ns : List ℕ) → allowed (n ∷ ns) ≡ true → allowed ns ≡ true
unfolding allowed
rest_allowed n ns e = (both (leb n _) (allowed ns) e).1

pub runs_machine : (ns : List ℕ) (s : Bench) → Ready s → allowed ns ≡ true → machine_of (runs ns s) ≡ after (sum ns) (machine_of s)
unfolding runs sum
runs_machine [] s r e = sym (after_none (machine_of s))
runs_machine (n ∷ ns) s r e =
    runs_machine ns (ran n s) (ran_ready r n) (rest_allowed n ns e)
    ∙ ap (after (sum ns)) (ran_machine r (first_small n ns e))
    ∙ sym (after_add n (sum ns) (machine_of s))

pub runs_ticks : (ns : List ℕ) (s : Bench) → Ready s → allowed ns ≡ true → reported ns s ≡ (run_for (sum ns) (begun s.board.blitter s.mem)).ticks
unfolding reported sum run_for
runs_ticks [] s r e = refl
runs_ticks (n ∷ ns) s r e =
    (λ i. ran_ticks r (first_small n ns e) i + runs_ticks ns (ran n s) (ran_ready r n) (rest_allowed n ns e) i)
    ∙ ap (λ (x : Machine). first.ticks + (run_for (sum ns) (begun x.blitter x.mem)).ticks)
    (ran_machine r (first_small n ns e) ∙ sym (run_after n (begun s.board.blitter s.mem)))
    ∙ sym (ap (λ (x : Progress). x.ticks) (run_pieces n (sum ns) s.board.blitter s.mem))
  where
    first : Progress
    first = run_for n (begun s.board.blitter s.mem)

-- idle stays idle
pub stays : (m n : ℕ) (s : Machine) → m ≤ n → flags_of (after m s) ≡ 0 → after n s ≡ after m s
stays m n s l e =
    let q : n ≡ m + (n - m) = omega arith in
    ap (λ (k : ℕ). after k s) q ∙ after_add m (n - m) s ∙ after_idle (n - m) (after m s) e

-- a blitter that is not idle before so many ticks and is idle after them, with this memory
pub record Exactly (s : Machine) (ticks : ℕ) (last : List ℕ) : Type 0 where
  pub busy : (t : ℕ) → t < ticks → flags_of (after t s) ≡ 0 → ⊥
  pub idle : flags_of (after ticks s) ≡ 0
  pub memory : (after ticks s).mem ≡ last

module _ {b : Blitter} {mem last : List ℕ} {ticks : ℕ} (x : Exactly (machine b mem) ticks last) where
  -- the ticks that a run counts: its budget, or those up to the end
  count_before : (n : ℕ) → n ≤ ticks → (run_for n (begun b mem)).ticks ≡ n
  count_before n l = run_count n (begun b mem) (λ t q. x.busy t (omega arith)) ∙ zero-add n

  count_behind : (n : ℕ) → ticks ≤ n → (run_for n (begun b mem)).ticks ≡ ticks
  count_behind n l =
      let q : n ≡ ticks + (n - ticks) = omega arith in
      ap (λ (k : ℕ). (run_for k (begun b mem)).ticks) q
      ∙ ap (λ (r : Progress). r.ticks) (run_add ticks (n - ticks) (begun b mem) ∙ run_idle (n - ticks) (run_for ticks (begun b mem)) there)
      ∙ count_before ticks (omega arith)
    where
      there : (run_for ticks (begun b mem)).blitter.flags ≡ 0
      there = ap flags_of (run_after ticks (begun b mem)) ∙ x.idle

-- by the board's runs
pub runs_end : {s : Bench} {ticks : ℕ} {last : List ℕ} → Ready s → Exactly (machine_of s) ticks last → Ends s ticks last
runs_end {s = s} {ticks = ticks} {last = last} r x =
    record {
      busy = λ ns e l f. x.busy (sum ns) l (sym (ap flags_of (runs_machine ns s r e)) ∙ f);
      used = λ ns e l. runs_ticks ns s r e ∙ count_before x (sum ns) (omega arith);
      idle = λ ns e l. ap flags_of (there ns e l) ∙ x.idle;
      counted = λ ns e l. runs_ticks ns s r e ∙ count_behind x (sum ns) l;
      memory = λ ns e l. ap (λ (m : Machine). m.mem) (there ns e l) ∙ x.memory;
    }
  where
    there : (ns : List ℕ) → allowed ns ≡ true → ticks ≤ sum ns → machine_of (runs ns s) ≡ after ticks (machine_of s)
    there ns e l = runs_machine ns s r e ∙ stays ticks (sum ns) (machine_of s) l x.idle
