-- What holds at each turn of a burst: the rest of the budget makes of it what the whole makes of what the burst was handed. Assumes nothing.
use mathlib.Core.Path.{◌≡◌, refl, sym, ap, subst, ◌∙◌}
use mathlib.Core.Bool.{true}
use mathlib.Core.List.{List}
use mathlib.Core.Logic.{inl, inr, ⊎_elim}
use Prim.Native.Nat.{ℕ, zero, suc, ◌+◌, ◌-◌, ◌*◌, ◌≤◌, ◌<◌, min}
use native.Mathlib.Nat.{add-zero}
use native.Mathlib.Omega.{arith}
use lib.ListN.{length}
use mir.Syntax.{w32}
use mir.Val.{Fits}
use lib.Dec.{eqb}
use borrow.Author.Tests.{eqb-true, lt-leb}
use Rattle.laws.proofs.Choice.{both}
use Rattle.vram.specs.Memory.{good_length}
use Rattle.block.specs.Block.{zoom_y, columns_of, rows_of, dest_address, source_address}
use Rattle.block.specs.Byte.{written, struck_at}
use Rattle.block.specs.declared.Block.{Block}
use Rattle.block.specs.declared.Note.{Note}
use Rattle.block.specs.declared.Struck.{Struck}
use Rattle.block.proofs.Byte.{written_length, struck_small}
use Rattle.stretch.specs.declared.Stretch.{Stretch}
use Rattle.stretch.specs.Stretch.{Trace, trace, struck, strokes, trace_of}
use Rattle.blitter.specs.declared.Blitter.{Blitter}
use Rattle.blitter.specs.State.{with_work, with_note}
use Rattle.engine.specs.declared.Place.{Place}
use Rattle.engine.specs.declared.Sofar.{Sofar}
use Rattle.engine.specs.Tick.{busy_at, ended, moved_on, byte_tick, tick_blitter, tick_memory, tick_count}
use Rattle.engine.specs.Run.{ticked, run_for, progress}
use Rattle.engine.specs.Engine.{place_at, so_far, Placed, BurstFrom, BurstTo, Column, Row, Reach, source_step, dest_step, ahead_row, ahead_col, stretch_at, left_at}
use Rattle.blitter.proofs.Sound.{Inside, sound_test, first_inside}
use Rattle.engine.proofs.Tick.{busy_sound, ended_sound}
use Rattle.engine.proofs.Runs.{run_tick}
use Rattle.engine.proofs.Strokes.{struck_at_lem, strokes_last, strokes_from, strokes_few}
use Rattle.engine.proofs.Steps.{source_on, dest_on}

-- a tick less is left
pub less : (budget done : ℕ) → done < budget → suc (budget - (done + 1)) ≡ budget - done
less budget done h = omega arith

-- the same flags at another position
abbrev placed : Blitter → ℕ → ℕ → ℕ → Note → Blitter
placed b flags row col note = with_work flags b.block row col (with_note note b)

-- which are those of a busy blitter
as_busy : (b : Blitter) (row col : ℕ) (note : Note) → b.flags ≡ 2 → busy_at b row col note ≡ placed b b.flags row col note
as_busy b row col note e = ap (λ (n : ℕ). placed b n row col note) (sym e)

-- a run so far, of its parts
abbrev pub sofar : Blitter → ℕ → ℕ → Sofar
sofar b ticks accesses = record { blitter = b; counts = record { ticks = ticks; accesses = accesses } }

-- the byte at a row and a column more
abbrev struck_on : Block → Trace → ℕ → ℕ → Trace
struck_on b now row col =
    let u = struck_at b now.mem row col now.note in
    trace (written b row col now.mem) u.note (now.accesses + u.accesses)

-- so many ticks are done and so much is drawn of a block, and the next byte is at a row and a column
pub record Bursting (run : Sofar) (first : List ℕ) (budget : ℕ) (now : Trace) (row col done : ℕ) : Type 0 where
  pub from : BurstFrom run first budget
  pub long : length now.mem ≡ length first
  pub place : Inside run.blitter.block row col
  pub begun : run.counts.ticks ≤ done
  pub within : done ≤ budget
  pub counted : now.accesses ≤ 21 * done
  pub same : run_for (budget - done) (progress (busy_at run.blitter row col now.note) now.mem done now.accesses) ≡ run_for (budget - run.counts.ticks) (so_far run first)

module _ {run : Sofar} {first : List ℕ} {budget : ℕ} where
  pub burst_start : BurstFrom run first budget → Bursting run first budget (trace first run.blitter.note run.counts.accesses) run.blitter.row run.blitter.col run.counts.ticks
  burst_start f = grind (arith, as_busy)

  module _ {now : Trace} {row col done : ℕ} (g : Bursting run first budget now row col done) where
    -- the budget is used
    pub burst_used : budget ≤ done → BurstTo run first budget (sofar (placed run.blitter run.blitter.flags row col now.note) done now.accesses) now.mem
    burst_used h = grind (arith, as_busy, sound_test, busy_sound)

    pub burst_left : budget ≤ done → BurstTo run first budget (sofar (left_at run.blitter row col now.note) done now.accesses) now.mem
    burst_left h = rw (lt-leb (rows_of run.blitter.block) row g.place.row_in) (burst_used h)

    module _ (h : done < budget) where
      -- one byte tick
      byte : Struck
      byte = struck_at run.blitter.block now.mem row col now.note

      -- what it makes
      abbrev next : Trace
      next = struck_on run.blitter.block now row col

      on : run_for (budget - (done + 1)) (progress (moved_on (busy_at run.blitter row col now.note) byte.note) next.mem (done + 1) next.accesses)
          ≡ run_for (budget - run.counts.ticks) (so_far run first)
      unfolding byte ticked tick_blitter tick_memory tick_count byte_tick
      on =
          sym (run_tick (budget - (done + 1)) (progress (busy_at run.blitter row col now.note) now.mem done now.accesses) (λ e. absurd (let z : ◌≡◌ {A = ℕ} 2 0 = e in omega arith)))
          ∙ ap (λ (k : ℕ). run_for k (progress (busy_at run.blitter row col now.note) now.mem done now.accesses)) (less budget done h)
          ∙ g.same

      long_on : length next.mem ≡ length first
      long_on = grind (arith, written_length)

      few_on : next.accesses ≤ 21 * (done + 1)
      unfolding byte
      few_on = grind (arith, struck_small)

      -- the next column
      turn_col : col + 1 < columns_of run.blitter.block
          → Bursting run first budget next row (col + 1) (done + 1)
      unfolding byte moved_on
      turn_col k = grind (arith, on, long_on, few_on)

      -- the next row
      turn_row : columns_of run.blitter.block ≤ col + 1 → row + 1 < rows_of run.blitter.block
          → Bursting run first budget next (row + 1) 0 (done + 1)
      unfolding byte moved_on
      turn_row k l = grind (arith, on, long_on, few_on, first_inside)

      -- the block's end
      turn_end : columns_of run.blitter.block ≤ col + 1 → rows_of run.blitter.block ≤ row + 1
          → BurstTo run first budget (sofar (ended run.blitter next.note) (done + 1) next.accesses) next.mem
      unfolding byte moved_on ended
      turn_end k l = grind (arith, on, long_on, few_on, sound_test, ended_sound)

-- fewer bytes are in reach too
pub reach_less : (b : Block) (row col n k : ℕ) → k ≤ n → Reach b row col n → Reach b row col k
reach_less b row col n k h = grind arith

module _ (run : Sofar) (first : List ℕ) (budget : ℕ) where
  abbrev At : Trace → ℕ → ℕ → ℕ → Type 0
  At = Bursting run first budget

  -- the same, of equal parts
  moved : (d e : Trace) (row row' col col' done done' : ℕ) → d ≡ e → row ≡ row' → col ≡ col' → done ≡ done' → At d row col done → At e row' col' done'
  moved d e row row' col col' done done' p q r s x =
      subst (λ (z : ℕ). At e row' col' z) s
      (subst (λ (z : ℕ). At e row' z done) r (subst (λ (z : ℕ). At e z col done) q (subst (λ (z : Trace). At z row col done) p x)))

  module _ {now : Trace} {row col done : ℕ} (g : At now row col done) where
    -- so many bytes of the stretch, counted on from what was made
    abbrev many : ℕ → Trace
    many k = strokes run.blitter.block (source_step run.blitter.block) (dest_step run.blitter.block) k (source_address run.blitter.block row col) (dest_address run.blitter.block row col) now

    -- where the byte k on stands
    abbrev row_on : ℕ → ℕ
    row_on k = ahead_row run.blitter.block row k

    abbrev col_on : ℕ → ℕ
    col_on k = ahead_col run.blitter.block col k

    -- one byte more than those
    abbrev one_on : ℕ → Trace
    one_on k = struck_on run.blitter.block (many k) (row_on k) (col_on k)

    one_more : (k : ℕ) → Reach run.blitter.block row col (suc k) → one_on k ≡ many (suc k)
    unfolding struck
    one_more k r =
        sym (strokes_last run.blitter.block (source_step run.blitter.block) (dest_step run.blitter.block) k (source_address run.blitter.block row col) (dest_address run.blitter.block row col) now
        ∙ struck_at_lem run.blitter.block (row_on k) (col_on k) _ _ (many k) (source_on run.blitter.block row col k r) (dest_on run.blitter.block row col k))

    -- one turn more, down a tall block
    down : (k : ℕ) → Column run.blitter.block row (suc (suc k)) → done + suc k < budget → At (many k) (row_on k) (col_on k) (done + k) → At (many (suc k)) (row_on (suc k)) (col_on (suc k)) (done + suc k)
    down k c h before =
        let one : columns_of run.blitter.block ≡ 1 = eqb-true (columns_of run.blitter.block) 1 (both (eqb (columns_of run.blitter.block) 1) (eqb (zoom_y run.blitter.block) 1) c.tall).0 in
        let here : row_on k ≡ row + k = rw c.tall refl in
        let there : row_on (suc k) ≡ row + suc k = rw c.tall refl in
        let side : col_on (suc k) ≡ col = rw c.tall refl in
        moved _ (many (suc k)) _ (row_on (suc k)) _ (col_on (suc k)) _ (done + suc k) (one_more k (reach_less run.blitter.block row col (suc (suc k)) (suc k) (omega arith) (inl c))) (omega arith) (omega (arith, g.place.col_in)) (omega arith)
        (turn_row before (omega arith) (omega arith) (omega (arith, c.left)))

    -- and along a row
    along : (k : ℕ) → Row run.blitter.block col (suc (suc k)) → done + suc k < budget → At (many k) (row_on k) (col_on k) (done + k) → At (many (suc k)) (row_on (suc k)) (col_on (suc k)) (done + suc k)
    along k c h before =
        let here : col_on k ≡ col + k = rw c.wide refl in
        let there : col_on (suc k) ≡ col + suc k = rw c.wide refl in
        let same : row_on k ≡ row = rw c.wide refl in
        let side : row_on (suc k) ≡ row = rw c.wide refl in
        moved _ (many (suc k)) _ (row_on (suc k)) _ (col_on (suc k)) _ (done + suc k) (one_more k (reach_less run.blitter.block row col (suc (suc k)) (suc k) (omega arith) (inr c))) (omega arith) (omega arith) (omega arith)
        (turn_col before (omega arith) (omega (arith, c.left)))

    -- the byte k on is reached after k turns
    turns : (k : ℕ) → Reach run.blitter.block row col (suc k) → done + k < budget → At (many k) (row_on k) (col_on k) (done + k)
    unfolding strokes
    turns zero r h = grind arith
    turns (suc k) r h =
        let before : At (many k) (row_on k) (col_on k) (done + k) = turns k (reach_less run.blitter.block row col (suc (suc k)) (suc k) (omega arith) r) (omega arith) in
        ⊎_elim (λ c. down k c h before) (λ c. along k c h before) r

-- one turn: so many bytes, in reach and within the budget, and d is what is drawn of them
pub record Stretched (run : Sofar) (first : List ℕ) (budget : ℕ) (now : Trace) (row col done count : ℕ) (d : Trace) : Type 0 where
  pub going : Bursting run first budget now row col done
  pub some : 0 < count
  pub reach : Reach run.blitter.block row col count
  pub room : done + count ≤ budget
  pub drew : d ≡ trace_of run.blitter.block (stretch_at run.blitter.block row col count) now.mem now.note

-- a place where a burst goes on
pub placed_in : {run : Sofar} {first : List ℕ} {budget : ℕ} {now : Trace} {p : Place} {done : ℕ}
    → Bursting run first budget now p.row p.col done → p ≡ place_at run.blitter.block p.row p.col → Placed run.blitter.block p
placed_in g e = record { at = e; row_in = g.place.row_in; col_in = g.place.col_in }

-- as the program comes to it: the least of what is in reach and what is left of the budget
pub stretched :
    {run : Sofar} {first : List ℕ} {budget : ℕ} {now : Trace} {row col done : ℕ} → Bursting run first budget now row col done → done < budget
    → {reached count : ℕ} → (0 < reached) × Reach run.blitter.block row col reached → count ≡ min reached (budget - done)
    → {bytes : Stretch} → bytes ≡ stretch_at run.blitter.block row col count → {d : Trace} → d ≡ trace_of run.blitter.block bytes now.mem now.note
    → Stretched run first budget now row col done count d
stretched g h r m s e = grind (arith, reach_less)

module _ {run : Sofar} {first : List ℕ} {budget : ℕ} {now : Trace} {row col done count : ℕ} {d : Trace} (s : Stretched run first budget now row col done count d) where
  -- the burst where so many ticks are done
  abbrev Now : Trace → ℕ → ℕ → ℕ → Type 0
  Now = Bursting run first budget

  abbrev after : ℕ → Trace
  after k = many run first budget s.going k

  abbrev pub last_row : ℕ
  last_row = ahead_row run.blitter.block row (count - 1)

  abbrev pub last_col : ℕ
  last_col = ahead_col run.blitter.block col (count - 1)

  board_in : good_length (length now.mem) ≡ true
  board_in = ap good_length s.going.long ∙ s.going.from.board

  suc_is : suc (count - 1) ≡ count
  suc_is = omega (arith, s.some)

  last_reach : Reach run.blitter.block row col (suc (count - 1))
  last_reach = reach_less run.blitter.block row col count (suc (count - 1)) (omega (arith, s.some)) s.reach

  -- what is made with it
  abbrev pub sum : Trace
  sum = trace d.mem d.note (now.accesses + d.accesses)

  whole : after (suc (count - 1)) ≡ sum
  unfolding trace_of
  whole =
      let from = source_address run.blitter.block row col in
      let to = dest_address run.blitter.block row col in
      ap (λ (n : ℕ). after n) suc_is
      ∙ ap (λ (a : ℕ). strokes run.blitter.block (source_step run.blitter.block) (dest_step run.blitter.block) count from to (trace now.mem now.note a)) (sym (add-zero now.accesses))
      ∙ strokes_from run.blitter.block (source_step run.blitter.block) (dest_step run.blitter.block) count from to now.mem now.note now.accesses 0
      ∙ ap (λ (z : Trace). trace z.mem z.note (now.accesses + z.accesses)) (sym (s.drew ∙ rw board_in refl))

  -- its accesses are few
  stretch_few : d.accesses ≤ 3 * count
  unfolding trace_of
  stretch_few = grind (arith, strokes_few, board_in)

  -- so the counts fit
  pub stretch_made : Fits w32 (now.accesses + d.accesses)
  stretch_made = grind (arith, stretch_few)

  pub stretch_done : Fits w32 (done + count)
  stretch_done = record { fits = omega (arith, s.going.from.small, s.room) }

  last : Now (after (count - 1)) last_row last_col (done + (count - 1))
  last = turns run first budget s.going (count - 1) last_reach (omega (arith, s.some, s.room))

  -- its last byte is inside the block
  pub last_in : Inside run.blitter.block last_row last_col
  last_in = last.place

  all_done : done + (count - 1) + 1 ≡ done + count
  all_done = omega (arith, s.some)

  all_drawn : one_on run first budget s.going (count - 1) ≡ sum
  all_drawn = one_more run first budget s.going (count - 1) last_reach ∙ whole

  in_budget : done + (count - 1) < budget
  in_budget = omega (arith, s.some, s.room)

  -- then the next column
  pub stretch_col : last_col + 1 < columns_of run.blitter.block → Now sum last_row (last_col + 1) (done + count)
  stretch_col h = rw (all_drawn, all_done) at (turn_col last in_budget h)

  -- or the next row
  pub stretch_row : columns_of run.blitter.block ≤ last_col + 1 → last_row + 1 < rows_of run.blitter.block → Now sum (last_row + 1) 0 (done + count)
  stretch_row h k = rw (all_drawn, all_done) at (turn_row last in_budget h k)

  -- or the block's end
  pub stretch_end : columns_of run.blitter.block ≤ last_col + 1 → rows_of run.blitter.block ≤ last_row + 1 → BurstTo run first budget (sofar (ended run.blitter d.note) (done + count) (now.accesses + d.accesses)) d.mem
  stretch_end h k =
      subst (λ (z : ℕ). BurstTo run first budget (sofar (ended run.blitter d.note) z (now.accesses + d.accesses)) d.mem) all_done
      (subst (λ (z : Trace). BurstTo run first budget (sofar (ended run.blitter z.note) (done + (count - 1) + 1) z.accesses) z.mem) all_drawn
      (turn_end last in_budget h k))

  -- the place of its last byte
  pub last_placed : {l : Place} → l ≡ place_at run.blitter.block last_row last_col → Placed run.blitter.block l
  last_placed e = grind (arith, last_in)
