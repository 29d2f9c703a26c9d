-- A line of hex: what is put so far, with the bytes to come, is the whole line. Assumes nothing.
use mathlib.Core.Path.{◌≡◌, refl, sym, ap, ap₂, subst, ◌∙◌}
use mathlib.Core.Bool.{Bool, true, false}
use mathlib.Core.List.{List, [], ◌∷◌, ◌++◌, append_assoc, append-nil}
use Prim.Native.Nat.{ℕ, ◌+◌, ◌*◌, ◌-◌, ◌≤◌, ◌<◌, zero-le}
use native.Mathlib.Decide.{dec_lt}
use native.Mathlib.Numerals.{add-one}
use native.Mathlib.Omega.{arith}
use lib.Dec.{eqb}
use lib.ListN.{length, get_or, take, drop, length-drop, take-append-drop, drop_of_length-le}
use lib.Seq.{drop-cons}
use borrow.Author.Tests.{eq-eqb, ne_eqb}
use borrow.Rule.Slice.PartMut.{put_mid}
use Rattle.laws.proofs.Lent.{tail_lent, filled}
use Rattle.plantext.specs.Hex.{hex_of, is_empty, hex_line}

none_is : (xs : List ℕ) → length xs ≡ 0 → is_empty xs ≡ true
none_is [] e = refl
none_is (x ∷ xs) e = absurd (omega arith)

some_is : (xs : List ℕ) → 0 < length xs → is_empty xs ≡ false
some_is [] h = absurd (omega arith)
some_is (x ∷ xs) h = refl

-- the last byte is the one behind which none is left
last_is : (s : List ℕ) (k : ℕ) → k ≤ length s → eqb k (length s) ≡ is_empty (drop k s)
last_is s k h = go (dec_lt k (length s))
  where
    go : Dec (k < length s) → eqb k (length s) ≡ is_empty (drop k s)
    go (yes lt) = ne_eqb k (length s) (omega arith) ∙ sym (some_is (drop k s) (simp length-drop (omega arith)))
    go (no nlt) = eq-eqb k (length s) (omega arith) ∙ sym (none_is (drop k s) (simp length-drop (omega arith)))

line_next : (s : List ℕ) (i : ℕ) → i < length s → hex_line (drop i s) ≡ hex_of (get_or s i 0) (eqb (i + 1) (length s)) ++ hex_line (drop (i + 1) s)
unfolding hex_line
line_next s i h =
    ap hex_line (drop-cons s i 0 h ∙ ap (λ (k : ℕ). get_or s i 0 ∷ drop k s) (sym (add-one i)))
    ∙ ap (λ (b : Bool). hex_of (get_or s i 0) b ++ hex_line (drop (i + 1) s)) (sym (last_is s (i + 1) (omega arith)))

pub record Lining (s first text : List ℕ) (i : ℕ) : Type 0 where
  pub within : i ≤ length s
  pub long : length text ≡ length first
  pub sofar : take (3 * i) text ++ hex_line (drop i s) ≡ hex_line s
  pub kept : drop (3 * i) text ≡ drop (3 * i) first

pub line_start : (s text : List ℕ) → Lining s text text 0
line_start s text = record { within = zero-le; long = refl; sofar = refl; kept = refl }

module _ (s first text : List ℕ) (i : ℕ) (w : Lining s first text i) (fits : 3 * length s ≤ length first) where
  -- what is lent has room for a byte
  pub line_room : i < length s → 3 ≤ length (take (length text - 3 * i) (drop (3 * i) text))
  line_room lt = rw tail_lent (simp length-drop (omega arith))

  pub line_turn :
      (ys : List ℕ) → i < length s
      → ys ≡ hex_of (get_or s i 0) (eqb (i + 1) (length s)) ++ drop 3 (take (length text - 3 * i) (drop (3 * i) text))
      → Lining s first (put_mid (3 * i) (length text - 3 * i) text ys) (i + 1)
  line_turn ys lt e =
      let new = hex_of (get_or s i 0) (eqb (i + 1) (length s)) in
      let f = filled first text new ys (3 * i) 3 refl (omega arith) w.kept e in
      let after : 3 * i + 3 ≡ 3 * (i + 1) = omega arith in
      record {
        within = omega arith;
        long = f.long ∙ w.long;
        sofar =
            ap (λ (k : ℕ). take k (put_mid (3 * i) (length text - 3 * i) text ys) ++ hex_line (drop (i + 1) s)) (sym after)
            ∙ (ap (λ (z : List ℕ). z ++ hex_line (drop (i + 1) s)) f.front
            ∙ (append_assoc (take (3 * i) text) new (hex_line (drop (i + 1) s))
            ∙ (ap (λ (z : List ℕ). take (3 * i) text ++ z) (sym (line_next s i lt)) ∙ w.sofar)));
        kept = subst (λ (k : ℕ). drop k (put_mid (3 * i) (length text - 3 * i) text ys) ≡ drop k first) after f.kept;
      }

  pub line_end : length s ≤ i → text ≡ hex_line s ++ drop (3 * length s) first
  unfolding hex_line
  line_end h =
      let all : take (3 * i) text ≡ hex_line s =
      sym (append-nil (take (3 * i) text)) ∙ (ap (λ (z : List ℕ). take (3 * i) text ++ hex_line z) (sym (drop_of_length-le s h)) ∙ w.sofar) in
      let place : 3 * i ≡ 3 * length s = omega arith in
      sym (take-append-drop (3 * i) text) ∙ ap₂ (λ (a b : List ℕ). a ++ b) all (w.kept ∙ ap (λ (k : ℕ). drop k first) place)
