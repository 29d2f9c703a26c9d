-- What was installed is read back, and every other place is as it was: no later byte of the list falls on an earlier one, since a list is shorter than a memory. Assumes nothing.
use mathlib.Core.Path.{◌≡◌, refl, sym, ap, ◌∙◌}
use mathlib.Core.Bool.{true}
use mathlib.Core.List.{List, [], ◌∷◌}
use Prim.Native.Nat.{ℕ, zero, suc, ◌+◌, ◌-◌, ◌%◌, ◌≤◌, ◌<◌}
use native.Mathlib.Nat.{mod-lt, mod-eq_of_lt, mod-eq-sub-mod, mod-add-mod, add-zero, lt_of_not-le, not-suc-le-zero}
use native.Mathlib.Omega.{arith}
use lib.Dec.{leb}
use lib.ListN.{length, get_or, set, length-set}
use lib.Seq.{get_or-set_same, get_or-set_other}
use borrow.Author.Tests.{leb-true, le-leb}
use Rattle.refusal.proofs.Sheet.{passed}
use Rattle.refusal.specs.Sheet.{Told, done, refused, unless, kept}
use Rattle.vram.specs.Memory.{good_length, place, byte_at}
use Rattle.vram.specs.Install.{poured, install_answer, install_memory}
use Rattle.vram.proofs.Length.{good, wrap}

-- two addresses less than L apart do not meet modulo L
pub apart : (L a d : ℕ) → 0 < d → d < L → (a + d) % L ≡ a % L → ⊥
apart L a d h k e =
    let r = a % L in
    let low = mod-lt a {m = L} (omega arith) in
    let same : (r + d) % L ≡ r = mod-add-mod a L d ∙ e in
    let under = lt_of_not-le (λ (g : L ≤ r + d). (let one = mod-eq-sub-mod g in let two = mod-eq_of_lt {n = r + d - L} {m = L} (omega arith) in omega arith)) in
    let here = mod-eq_of_lt under in
    omega arith

next : (a j : ℕ) → a + suc j ≡ a + 1 + j
next a j = omega arith

module _ (L : ℕ) where
  pub poured_length : (m : List ℕ) (a : ℕ) (vs : List ℕ) → length (poured L m a vs) ≡ length m
  poured_length m a [] = refl
  poured_length m a (v ∷ vs) = poured_length (set m (place L a) v) (a + 1) vs ∙ length-set m (place L a) v

  -- a place that none of the list's addresses falls on keeps its byte
  pub spared : (m : List ℕ) (a : ℕ) (vs : List ℕ) (x : ℕ) → ((j : ℕ) → j < length vs → place L (a + j) ≡ x → ⊥) → get_or (poured L m a vs) x 0 ≡ get_or m x 0
  spared m a [] x h = refl
  spared m a (v ∷ vs) x h =
      spared (set m (place L a) v) (a + 1) vs x (λ j k e. h (suc j) (omega arith) (ap (place L) (next a j) ∙ e))
      ∙ get_or-set_other m (place L a) x v 0 (λ e. h 0 (omega arith) (ap (place L) (add-zero a) ∙ sym e))

  -- each address of the list has the list's byte, where the list is no longer than the memory
  pub read_back : good_length L ≡ true → (m : List ℕ) (a : ℕ) (vs : List ℕ) → length m ≡ L → length vs ≤ L → (i : ℕ) → i < length vs → get_or (poured L m a vs) (place L (a + i)) 0 ≡ get_or vs i 0
  read_back g m a [] e f i h = absurd (not-suc-le-zero h)
  read_back g m a (v ∷ vs) e f zero h =
      let far : ((j : ℕ) → j < length vs → place L (a + 1 + j) ≡ place L a → ⊥) =
      λ j k q. apart L a (suc j) (omega arith) (omega arith) (ap (λ (n : ℕ). n % L) (next a j) ∙ sym (wrap L g (a + 1 + j)) ∙ q ∙ wrap L g a) in
      let within : place L a < length m = rw e (mod-lt (a % 524288) (omega arith)) in
      ap (λ (n : ℕ). get_or (poured L m a (v ∷ vs)) (place L n) 0) (add-zero a)
      ∙ spared (set m (place L a) v) (a + 1) vs (place L a) far
      ∙ get_or-set_same m (place L a) v 0 within
  read_back g m a (v ∷ vs) e f (suc i) h =
      ap (λ (n : ℕ). get_or (poured L m a (v ∷ vs)) (place L n) 0) (next a i)
      ∙ read_back g (set m (place L a) v) (a + 1) vs (length-set m (place L a) v ∙ e) (omega arith) i (omega arith)

module _ (m vs : List ℕ) (a : ℕ) where
  -- what an installation that was done says of the call
  pub record Taken : Type 0 where
    pub board : good_length (length m) ≡ true
    pub address : a ≤ 524287
    pub room : length vs ≤ 5280

  pub taken : install_answer m vs a ≡ done tt → Taken
  taken e =
      let room = unless (leb (length vs) 5280) 13 (done tt) in
      let one = passed (good_length (length m)) 1 (unless (leb a 524287) 14 room) tt e in
      let two = passed (leb a 524287) 14 room tt one.1 in
      let three = passed (leb (length vs) 5280) 13 (done tt) tt two.1 in
      record { board = one.0; address = leb-true a 524287 two.0; room = leb-true (length vs) 5280 three.0 }

  -- and the other way round
  pub takes : Taken → install_answer m vs a ≡ done tt
  takes t = simp (t.board, le-leb a 524287 t.address, le-leb (length vs) 5280 t.room)

  module _ (e : install_answer m vs a ≡ done tt) where
    -- memory is then the poured one
    pub installed : install_memory m vs a ≡ poured (length m) m a vs
    installed = ap (λ (r : Told (Unit {0})). kept r m (poured (length m) m a vs)) e

    -- reading at (address + i) mod 524,288 mod L gives byte i of the list
    pub installed_byte : (i : ℕ) → i < length vs → byte_at (install_memory m vs a) a i ≡ get_or vs i 0
    installed_byte i h =
        let t = taken e in
        let low = (good (length m) t.board).least in
        let short = t.room in
        ap (λ (x : List ℕ). byte_at x a i) installed
        ∙ ap (λ (L : ℕ). get_or (poured (length m) m a vs) (place L (a + i)) 0) (poured_length (length m) m a vs)
        ∙ read_back (length m) t.board m a vs refl (omega arith) i h

    -- and every other place is as it was
    pub installed_other : (x : ℕ) → ((i : ℕ) → i < length vs → place (length m) (a + i) ≡ x → ⊥) → get_or (install_memory m vs a) x 0 ≡ get_or m x 0
    installed_other x h = ap (λ (l : List ℕ). get_or l x 0) installed ∙ spared (length m) m a vs x h

-- an installation keeps the memory's length
pub install_length : (m vs : List ℕ) (a : ℕ) → length (install_memory m vs a) ≡ length m
install_length m vs a = by (install_answer m vs a)
  where
    by : (r : Told (Unit {0})) → length (kept r m (poured (length m) m a vs)) ≡ length m
    by (done v) = poured_length (length m) m a vs
    by (refused k i) = refl
