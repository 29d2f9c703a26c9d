-- Which boards are sound, and that no call changes that; what a run and a tick leave as it is. Assumes nothing.
use mathlib.Core.Path.{◌≡◌, refl, sym, ap, subst, ◌∙◌}
use mathlib.Core.Bool.{Bool, true, false, cond}
use mathlib.Core.List.{List, [], ◌∷◌}
use Prim.Native.Nat.{ℕ, ◌-◌, ◌%◌, ◌<◌}
use native.Mathlib.Omega.{arith}
use lib.Dec.{eqb, ltb}
use lib.ListN.{length}
use borrow.Author.Tests.{ltb-true, lt-ltb}
use Rattle.laws.proofs.Choice.{both, and_both, by_cond, each_test}
use Rattle.refusal.specs.Sheet.{Told, done, refused, kept}
use Rattle.blitter.specs.State.{sound_blitter, stopped}
use Rattle.engine.specs.Run.{begun}
use Rattle.blitter.specs.declared.Blitter.{Blitter}
use Rattle.blitter.proofs.Sound as blit
use Rattle.engine.proofs.Runs.{run_sound, run_length}
use Rattle.engine.proofs.Bytes.{InBytes, run_bytes_lem}
use Rattle.board.specs.declared.Ports.{Ports}
use Rattle.board.specs.declared.Board.{Board}
use Rattle.board.specs.Ports.{sound_ports, byte_set, among, ports_written}
use Rattle.board.specs.Board.{new_board, sound_board, blitter_written, write_answer, write_board, reset_answer, reset_board, run_answer, run_board, run_memory, tick_board, tick_mem}
use Rattle.board.proofs.Answer.{tick_board_lem, tick_memory_lem}

-- "each field within its width"
pub record SoundPorts (p : Ports) : Type 0 where
  pub video_in : p.video < 16
  pub xdladr_in : p.xdladr < 524288
  pub bladr_in : p.bladr < 524288

pub record Sound (b : Board) : Type 0 where
  pub ports_in : SoundPorts b.ports
  pub blitter_in : blit.Sound b.blitter

-- what the test says
pub ports_facts : (p : Ports) → sound_ports p ≡ true → SoundPorts p
ports_facts p e =
    let f = each_test (ltb p.video 16) (ltb p.xdladr 524288 ∷ ltb p.bladr 524288 ∷ []) e in
    record {
      video_in = ltb-true p.video 16 f.0;
      xdladr_in = ltb-true p.xdladr 524288 f.1.0;
      bladr_in = ltb-true p.bladr 524288 f.1.1.0;
    }

pub sound_facts : (b : Board) → sound_board b ≡ true → Sound b
unfolding sound_board
sound_facts b e =
    let f = both (sound_ports b.ports) (sound_blitter b.blitter) e in
    record { ports_in = ports_facts b.ports f.0; blitter_in = blit.sound_facts b.blitter f.1 }

-- and the other way round
pub ports_test : (p : Ports) → SoundPorts p → sound_ports p ≡ true
ports_test p s =
    and_both _ _ (and_both _ _ (lt-ltb p.video 16 s.video_in) (lt-ltb p.xdladr 524288 s.xdladr_in))
    (lt-ltb p.bladr 524288 s.bladr_in)

pub sound_test : (b : Board) → Sound b → sound_board b ≡ true
unfolding sound_board
sound_test b s = and_both _ _ (ports_test b.ports s.ports_in) (blit.sound_test b.blitter s.blitter_in)

pub new_sound : Sound new_board
new_sound = record { ports_in = record { video_in = omega arith; xdladr_in = omega arith; bladr_in = omega arith }; blitter_in = blit.new_sound }

-- what holds of the old and of the new holds of what is kept, also where a call is refused
pub by_kept : {X A : Type 0} (P : A → Type 0) (t : Told X) (x y : A) → P x → P y → P (kept t x y)
by_kept P (done v) x y p q = q
by_kept P (refused k i) x y p q = p

-- Writes, of a byte.
module _ (v : ℕ) (byte : v < 256) where
  byte_small : (a k : ℕ) → byte_set a k v < 524288
  byte_small a k =
      by_cond (λ (x : ℕ). x < 524288) (eqb k 0) _ _ (λ _. omega arith)
      (λ _. by_cond (λ (x : ℕ). x < 524288) (eqb k 1) _ _ (λ _. omega arith) (λ _. omega arith))

  written_ports : (offset : ℕ) (p : Ports) → SoundPorts p → SoundPorts (ports_written offset v p)
  unfolding ports_written
  written_ports offset p s =
      record {
        video_in = by_cond (λ (x : ℕ). x < 16) (eqb offset 0x40) _ _ (λ _. omega arith) (λ _. s.video_in);
        xdladr_in = address (among 0x41 0x43 offset) (offset - 0x41) p.xdladr s.xdladr_in;
        bladr_in = address (among 0x50 0x52 offset) (offset - 0x50) p.bladr s.bladr_in;
      }
    where
      address : (t : Bool) (k a : ℕ) → a < 524288 → cond t (byte_set a k v) a < 524288
      address t k a h = by_cond (λ (x : ℕ). x < 524288) t _ _ (λ _. byte_small a k) (λ _. h)

  written_blitter : (bladr offset : ℕ) (b : Blitter) → bladr < 524288 → blit.Sound b → blit.Sound (blitter_written bladr offset v b)
  unfolding blitter_written
  written_blitter bladr offset b l s =
      by_cond blit.Sound (eqb offset 0x53) _ _
      (λ _. by_cond blit.Sound (eqb (v % 2) 1) _ _ (λ _. blit.started_sound bladr b l) (λ _. blit.stopped_sound b s))
      (λ _. by_cond blit.Sound (eqb offset 0x54) _ _ (λ _. blit.interrupts_sound _ b s) (λ _. s))

  pub write_sound : (b : Board) (offset : ℕ) → Sound b → Sound (write_board b offset v)
  unfolding write_board
  write_sound b offset s =
      by_kept Sound (write_answer b offset) b _ s
      (record {
        ports_in = written_ports offset b.ports s.ports_in;
        blitter_in = written_blitter b.ports.bladr offset b.blitter s.ports_in.bladr_in s.blitter_in;
      })

pub reset_sound : (b : Board) → Sound b → Sound (reset_board b)
unfolding reset_board
reset_sound b s =
    by_kept Sound (reset_answer b) b _ s
    (record {
      ports_in = record { video_in = omega arith; xdladr_in = s.ports_in.xdladr_in; bladr_in = s.ports_in.bladr_in };
      blitter_in = blit.interrupts_sound false (stopped b.blitter) (blit.stopped_sound b.blitter s.blitter_in);
    })

-- A run.
module _ (b : Board) (mem : List ℕ) (budget : ℕ) where
  pub run_board_sound : Sound b → Sound (run_board b mem budget)
  unfolding run_board
  run_board_sound s =
      by_kept Sound (run_answer b mem budget) b _ s
      (record { ports_in = s.ports_in; blitter_in = run_sound budget (begun b.blitter mem) s.blitter_in })

  pub run_board_length : length (run_memory b mem budget) ≡ length mem
  unfolding run_memory
  run_board_length =
      by_kept (λ (m : List ℕ). length m ≡ length mem) (run_answer b mem budget) mem _ refl (run_length budget (begun b.blitter mem))

  -- "BL_ADR never changes by running", nor does any other port
  pub run_ports : (run_board b mem budget).ports ≡ b.ports
  unfolding run_board
  run_ports = by_kept (λ (x : Board). x.ports ≡ b.ports) (run_answer b mem budget) b _ refl refl

  pub run_board_bytes : InBytes b.blitter mem → InBytes (run_board b mem budget).blitter (run_memory b mem budget)
  unfolding run_board run_memory
  run_board_bytes h = by (run_answer b mem budget) _ _ (run_bytes_lem budget (begun b.blitter mem) h)
    where
      by : {X : Type 0} (t : Told X) (x : Board) (m : List ℕ) → InBytes x.blitter m → InBytes (kept t b x).blitter (kept t mem m)
      by (done v) x m k = k
      by (refused number item) x m k = h

-- A tick, which is the run with a budget of 1.
module _ (b : Board) (mem : List ℕ) where
  pub tick_board_sound : Sound b → Sound (tick_board b mem)
  tick_board_sound s = subst Sound (tick_board_lem b mem) (run_board_sound b mem 1 s)

  pub tick_board_length : length (tick_mem b mem) ≡ length mem
  tick_board_length = sym (ap length (tick_memory_lem b mem)) ∙ run_board_length b mem 1

  pub tick_ports : (tick_board b mem).ports ≡ b.ports
  tick_ports = sym (ap (λ (x : Board). x.ports) (tick_board_lem b mem)) ∙ run_ports b mem 1

  pub tick_board_bytes : InBytes b.blitter mem → InBytes (tick_board b mem).blitter (tick_mem b mem)
  tick_board_bytes h = rw (← tick_board_lem b mem, ← tick_memory_lem b mem) (run_board_bytes b mem 1 h)
