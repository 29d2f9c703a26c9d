-- A call whose lent words are enough and fit, on memory of a good length, goes by the board's, the frame's or the plan's own answer, and then by its report's room. Assumes nothing.
use mathlib.Core.Path.{◌≡◌, refl, sym, ap, ◌∙◌}
use mathlib.Core.Bool.{Bool, true, false}
use mathlib.Core.List.{List}
use Prim.Native.Nat.{ℕ, ◌≤◌, ◌<◌}
use lib.Dec.{leb}
use lib.ListN.{length}
use borrow.Author.Tests.{le-leb, leb-true}
use native.Mathlib.Omega.{arith}
use Rattle.std.specs.Prelude.{Result, Ok, Err, IfErr}
use Rattle.engine.specs.declared.Counts.{Counts}
use Rattle.refusal.specs.Sheet.{number_of, Told, done, refused, told, unless, kept}
use Rattle.refusal.specs.declared.Refusal.{Refusal}
use Rattle.refusal.proofs.Sheet.{done_refused, refused_done}
use Rattle.vram.specs.Memory.{good_length}
use Rattle.board.specs.declared.Board.{Board}
use Rattle.board.specs.Board.{sound_board, run_answer, run_memory}
use Rattle.board.proofs.Answer.{tick_answer_lem, tick_board_lem, tick_memory_lem}
use Rattle.settings.specs.declared.Settings.{Settings}
use Rattle.frame.specs.declared.Frame.{Frame}
use Rattle.frame.specs.Frame.{line_answer, line_frame}
use Rattle.plan.specs.Compile.{compile_told, compile_answer, compile_output}
use Rattle.plan.specs.declared.ItemRefusal.{ItemRefusal}
use Rattle.plan.proofs.Refused.{refused_item, roomless, no_room}
use Rattle.words.specs.Words.{laid}
use Rattle.boardwords.specs.Board.{board_size, board_of, board_words, board_fits}
use Rattle.framewords.specs.Frame.{settings_size, frame_size, settings_words, frame_of, frame_words, frame_fits}
use Rattle.capi.specs.Calls.{number_told, report_laid, whole, reportable, count_words, tick_call, tick_words, tick_bytes, tick_report}
use Rattle.capi.specs.Calls.{run_call, run_unreported, run_words, run_bytes, run_report, line_call, line_words, line_settings, compile_call, compile_bytes}
use Rattle.capi.proofs.Told.{past, roomy, short, as_change, done_change, done_report, kept_twice}

-- a state s that is read from words that are enough and fit
pub record Read {S : Type 0} (size : ℕ) (test : List ℕ → Bool) (of : List ℕ → S) (words : List ℕ) (s : S) : Type 0 where
  pub enough : size ≤ length words
  pub fits : test words ≡ true
  pub is : s ≡ of words

module _ {S : Type 0} (size : ℕ) (test : List ℕ → Bool) (of : List ℕ → S) {words : List ℕ} {s : S} where
  -- as a call tests them
  pub as_tested : {x : Result S Refusal} → told x ≡ whole size words (unless (test words) 15 (done (of words))) → x ≡ Ok s → Read size test of words s
  as_tested e w = by (leb size (length words)) (test words) refl refl (sym (ap told w) ∙ e)
    where
      by : (t u : Bool) → leb size (length words) ≡ t → test words ≡ u → done s ≡ unless t 15 (unless u 15 (done (of words))) → Read size test of words s
      by true true p q d = record { enough = leb-true size (length words) p; fits = q; is = cc d }
      by true false p q d = done_refused d
      by false u p q d = done_refused d

  pub by_state : Read size test of words s → {X : Type 0} (answer : S → Told X) (told : Told X) → told ≡ answer s → whole size words (unless (test words) 15 (answer (of words))) ≡ told
  by_state r answer told t = simp (le-leb size (length words) r.enough, r.fits) (ap answer (sym r.is) ∙ sym t)

abbrev pub OnBoard : List ℕ → Board → Type 0
OnBoard board b = Read board_size board_fits board_of board b

module _ {board : List ℕ} {b : Board} (o : OnBoard board b) where
  by_board : {X : Type 0} (answer : Board → Told X) (told : Told X) → told ≡ answer b → whole board_size board (unless (board_fits board) 15 (answer (board_of board))) ≡ told
  by_board answer told t = by_state board_size board_fits board_of o answer told t

  module _ (mem report : List ℕ) (budget : ℕ) (good : good_length (length mem) ≡ true) where
    run_passed : (told : Told Counts) → told ≡ run_answer b mem budget → run_call board mem budget report ≡ reportable 2 report told
    unfolding run_call
    run_passed told t =
        ap (reportable 2 report) (past (good_length (length mem)) 1 _ good ∙ by_board (λ x. run_answer x mem budget) told t)

    -- memory, also where the run is refused
    pub run_kept : 2 ≤ length report → (bytes : List ℕ) → bytes ≡ run_memory b mem budget → bytes ≡ run_bytes board mem budget report
    unfolding run_memory
    run_kept h bytes p =
        let told = run_answer b mem budget in
        as_change _ told (run_passed told refl ∙ roomy 2 report told h) mem _ _ bytes (ap (λ (x : Board). run_memory x mem budget) o.is) (p ∙ kept_twice told mem _)

    -- the counts have no room
    module _ (h : length report < 2) where
      refusals : (s l : Bool) (v : Counts) → reportable 2 report (unless s 15 (unless l 2 (done v))) ≡ unless s 15 (unless l 2 (refused 13 0))
      refusals true true v = short 2 report h v
      refusals true false v = refl
      refusals false l v = refl

      same_refusal : reportable 2 report (run_answer b mem budget) ≡ run_unreported b budget
      unfolding run_answer
      same_refusal = simp good (refusals (sound_board b) (leb budget 1000000) _)

      pub run_short : run_unreported b budget ≡ run_call board mem budget report
      run_short = sym (run_passed (run_answer b mem budget) refl ∙ same_refusal)

-- one tick is the run with a budget of 1
module _ (board mem report : List ℕ) where
  tick_call_lem : run_call board mem 1 report ≡ tick_call board mem report
  unfolding run_call tick_call
  tick_call_lem =
      let told : (Told Counts → Told Counts) = λ t. reportable 2 report (unless (good_length (length mem)) 1 (whole board_size board (unless (board_fits board) 15 t))) in
      ap told (tick_answer_lem (board_of board) mem)

  pub tick_done :
      (k : ℕ) (now bytes counts : List ℕ)
      → (k ≡ number_told (run_call board mem 1 report)) × ((now ≡ run_words board mem 1 report) × ((bytes ≡ run_bytes board mem 1 report) × (counts ≡ run_report board mem 1 report)))
      → (k ≡ number_told (tick_call board mem report)) × ((now ≡ tick_words board mem report) × ((bytes ≡ tick_bytes board mem report) × (counts ≡ tick_report board mem report)))
  tick_done k now bytes counts e =
      let b = board_of board in (
        e.0 ∙ ap number_told tick_call_lem,
        (
          e.1.0 ∙ (λ i. kept (tick_call_lem i) board (laid (board_words (tick_board_lem b mem i)) board)),
          (e.1.1.0 ∙ (λ i. kept (tick_call_lem i) mem (tick_memory_lem b mem i)), e.1.1.1 ∙ (λ i. report_laid count_words (tick_call_lem i) report)),
        ),
      )

-- the same of a frame
abbrev pub OnFrame : List ℕ → Frame → Type 0
OnFrame frame f = Read frame_size frame_fits frame_of frame f

module _ {frame : List ℕ} {f : Frame} (o : OnFrame frame f) (mem settings : List ℕ) (good : good_length (length mem) ≡ true) where
  pub line_passed : (told : Told Settings) → told ≡ line_answer f mem → line_call frame mem settings ≡ reportable settings_size settings told
  unfolding line_call
  line_passed told t =
      ap (reportable settings_size settings) (past (good_length (length mem)) 1 _ good ∙ by_state frame_size frame_fits frame_of o (λ x. line_answer x mem) told t)

  pub line_done :
      settings_size ≤ length settings → (s : Settings) (g : Frame) (now line : List ℕ) → done s ≡ line_answer f mem → g ≡ line_frame f mem
      → now ≡ laid (frame_words g) frame → line ≡ laid (settings_words s) settings
      → (done s ≡ line_call frame mem settings) × ((now ≡ line_words frame mem settings) × (line ≡ line_settings frame mem settings))
  line_done h s g now line t w p q =
      let e = line_passed (done s) t ∙ roomy settings_size settings (done s) h in (
        sym e,
        (
          done_change _ _ e frame _ now (p ∙ ap (λ (x : Frame). laid (frame_words x) frame) (w ∙ ap (λ (x : Frame). line_frame x mem) o.is)),
          done_report _ _ e settings_words settings line q,
        ),
      )

-- a plan
pub compile_passed : (plan : List ℕ) (room : ℕ) (report : List ℕ) → 1 ≤ length report → compile_call plan room report ≡ compile_answer plan room
unfolding compile_call
compile_passed plan room report h = roomy 1 report (compile_answer plan room) h

module _ (plan out report : List ℕ) where
  -- the output, also where a plan is refused
  pub compile_out : (now : List ℕ) → compile_call plan (length out) report ≡ compile_answer plan (length out) → now ≡ compile_output plan out → now ≡ compile_bytes plan out report
  unfolding compile_output
  compile_out now e p = as_change _ _ e out _ _ now refl (p ∙ kept_twice (compile_answer plan (length out)) out _)

  -- the count has no room: as if the output had none
  module _ (h : length report < 1) where
    as_roomless : (told : Told ℕ) → reportable 1 report told ≡ roomless told
    as_roomless (done n) = short 1 report h n
    as_roomless (refused k item) = refl

    pub compile_short : compile_answer plan 0 ≡ compile_call plan (length out) report
    unfolding compile_call
    compile_short = sym (as_roomless (compile_answer plan (length out)) ∙ sym (no_room plan (length out)))

-- the item of a refusal is at most 240
pub few_items : (x : Result ℕ ItemRefusal) (plan : List ℕ) (room : ℕ) (report : List ℕ) → compile_told x ≡ compile_call plan room report → IfErr x (λ r. r.item ≤ 240)
unfolding compile_call
few_items (Ok v) plan room report e = tt
few_items (Err r) plan room report e = go (compile_answer plan room) refl e
  where
    go : (t : Told ℕ) → compile_answer plan room ≡ t → refused (number_of r.why) r.item ≡ reportable 1 report t → r.item ≤ 240
    go (done v) q d = by (leb 1 (length report)) d
      where
        by : (u : Bool) → refused (number_of r.why) r.item ≡ unless u 13 (done v) → r.item ≤ 240
        by true p = refused_done p
        by false p = let z : r.item ≡ 0 = cc in omega arith
    go (refused k n) q d = let z : n ≡ r.item = cc in let few = refused_item plan room k n q in omega arith
