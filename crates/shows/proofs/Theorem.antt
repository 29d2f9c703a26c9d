-- Demand 3: memory that holds a plan's list shows the plan, on each of the 240 lines; a plan that breaks no rule is compiled, and installing its list makes memory hold it. Assumes nothing.
use mathlib.Core.Path.{◌≡◌, refl, sym, ap, ◌∙◌, subst}
use mathlib.Core.List.{List, [], ◌∷◌, ◌++◌}
use Prim.Native.Nat.{ℕ, zero, suc, ◌+◌, ◌<◌}
use native.Mathlib.Omega.{arith}
use lib.ListN.{length, take, drop, set}
use lib.Seq.{take_at}
use Rattle.refusal.specs.Sheet.{Told, done}
use Rattle.vram.specs.Memory.{Bytes, good_length, place}
use Rattle.vram.specs.Install.{poured, install_answer, install_memory}
use Rattle.vram.proofs.ReadBack as install
use Rattle.board.specs.declared.Board.{Board}
use Rattle.frame.specs.Frame.{start_of}
use Rattle.frame.specs.declared.Frame.{Frame}
use Rattle.frame.proofs.Sound.{sound_start}
use Rattle.item.specs.declared.Item.{Item}
use Rattle.plan.specs.Plan.{Parsed, good, parse, items_of}
use Rattle.plan.specs.Xdl.{bytes_of, xdl_bytes}
use Rattle.plan.specs.Compile.{compile_answer}
use Rattle.plan.proofs.Compiling.{accepted, compiles}
use Rattle.plan.proofs.Valid.{all_sound, all_bytes, starts_full, at_most}
use Rattle.shows.specs.Shows.{line_of, EachLine, Desk, Valid, list_of, Demand3, Holds, Held}
use Rattle.shows.proofs.Pointed.{started_is}
use Rattle.shows.proofs.Seen.{told_seen}
use Rattle.shows.proofs.Walk.{walked}

-- Bytes stay bytes.
set_bytes : (m : List ℕ) (i v : ℕ) → Bytes m → v < 256 → Bytes (set m i v)
set_bytes [] i v b h j = omega arith
set_bytes (x ∷ m) zero v b h zero = h
set_bytes (x ∷ m) zero v b h (suc j) = b (suc j)
set_bytes (x ∷ m) (suc i) v b h zero = b 0
set_bytes (x ∷ m) (suc i) v b h (suc j) = set_bytes m i v (λ n. b (suc n)) h j

poured_bytes : (L : ℕ) (m : List ℕ) (a : ℕ) (vs : List ℕ) → Bytes m → Bytes vs → Bytes (poured L m a vs)
poured_bytes L m a [] b c = b
poured_bytes L m a (v ∷ vs) b c = poured_bytes L (set m (place L a) v) (a + 1) vs (set_bytes m (place L a) v b (c 0)) (λ n. c (suc n))

module _ (items : List Item) (address video : ℕ) (b : Board) where
  -- any memory that holds the list
  shown_by : (plan mem : List ℕ) → parse plan ≡ good items → Desk mem address video b → Holds mem address (bytes_of items) → EachLine mem items address video b
  shown_by plan mem e d h k lt =
      ap (λ (t : Told Frame). line_of t mem k) (started_is b address video d.sound d.at_most d.on)
      ∙ (told_seen mem d.board d.bytes k (start_of address 1) (sound_start address 1 (omega (arith, d.at_most))) refl (omega arith)
      ∙ ap done (walked mem items address (all_sound plan items e) (starts_full plan items e) h k))

pub held : Held
held plan mem items address video b e d h = shown_by items address video b plan mem e d h

module _ (plan out : List ℕ) (items : List Item) (v : Valid plan out items) where
  abbrev list : List ℕ
  list = list_of plan out items

  bytes_are : xdl_bytes plan ≡ bytes_of items
  unfolding xdl_bytes
  bytes_are = ap (λ (p : Parsed). bytes_of (items_of p)) v.rules

  taken : parse plan ≡ good (items_of (parse plan))
  taken = v.rules ∙ ap (λ (p : Parsed). good (items_of p)) (sym v.rules)

  compile_done : compile_answer plan (length out) ≡ done (length (bytes_of items))
  compile_done =
      compiles plan (length out) taken (rw bytes_are v.room) ∙ ap (λ (l : List ℕ). done (length l)) bytes_are

  -- what compiling left is the plan's list
  list_is : list ≡ bytes_of items
  list_is =
      let n = length (bytes_of items) in
      let a = accepted plan out n compile_done in
      ap (take n) (a.output ∙ ap (λ (l : List ℕ). l ++ drop n out) bytes_are) ∙ take_at (bytes_of items) (drop n out) n refl

  module _ (mem : List ℕ) (address video : ℕ) (b : Board) (d : Desk mem address video b) where
    abbrev after : List ℕ
    after = install_memory mem list address

    install_done : install_answer mem list address ≡ done tt
    install_done =
        install.takes mem list address (record { board = d.board; address = d.at_most; room = rw list_is (at_most plan items v.rules) })

    installed_bytes : Bytes after
    installed_bytes =
        rw (install.installed mem list address install_done)
        (poured_bytes (length mem) mem address list d.bytes (rw list_is (all_bytes plan items v.rules v.bytes)))

    installed_desk : Desk after address video b
    installed_desk =
        record {
          bytes = installed_bytes;
          board = ap good_length (install.install_length mem list address) ∙ d.board;
          at_most = d.at_most;
          sound = d.sound;
          on = d.on;
        }

    installed_lines : EachLine after items address video b
    installed_lines =
        shown_by items address video b plan after v.rules installed_desk
        (subst (Holds after address) list_is (install.installed_byte mem list address install_done))

pub demand_3 : Demand3
demand_3 plan out mem items address video b v d =
    record {
      compiled = compile_done plan out items v;
      installed = install_done plan out items v mem address video b d;
      lines = installed_lines plan out items v mem address video b d;
    }
