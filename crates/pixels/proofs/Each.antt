-- What a function gives for some numbers in a row: how many, in two parts, and by another function. Assumes nothing.
use mathlib.Core.Path.{◌≡◌, refl, sym, ap, ap₂, ◌∙◌}
use mathlib.Core.List.{List, ◌∷◌, ◌++◌}
use Prim.Native.Nat.{ℕ, zero, suc, ◌+◌, ◌-◌, ◌≤◌, ◌<◌}
use native.Mathlib.Nat.{zero-add, suc-add, add-zero, not-suc-le-zero}
use native.Mathlib.Omega.{arith}
use native.Mathlib.Decide.{dec_lt}
use lib.ListN.{length, get_or}
use borrow.Author.Rules.{rules}
use borrow.Rule.Slice.PartMut.{put_mid}
use Rattle.std.proofs.lemmas.List.{places}
use lib.Seq.{ext_get_or}
use Rattle.pixels.specs.Pixels.{each}

pub each_length : (f : ℕ → ℕ) (i n : ℕ) → length (each f i n) ≡ n
unfolding each
each_length f i zero = refl
each_length f i (suc n) = ap suc (each_length f (i + 1) n)

next : (i n : ℕ) → i + 1 + n ≡ i + suc n
next i n = omega arith

pub each_append : (f : ℕ → ℕ) (i n m : ℕ) → each f i (n + m) ≡ each f i n ++ each f (i + n) m
unfolding each
each_append f i zero m = ap₂ (each f) (sym (add-zero i)) (zero-add m)
each_append f i (suc n) m =
    ap (each f i) (suc-add n m)
    ∙ ap (λ (l : List ℕ). f i ∷ l) (each_append f (i + 1) n m ∙ ap (λ (k : ℕ). each f (i + 1) n ++ each f k m) (next i n))

-- f from i on is g from k on
pub each_same : (f g : ℕ → ℕ) (i k n : ℕ) → ((j : ℕ) → j < n → f (i + j) ≡ g (k + j)) → each f i n ≡ each g k n
unfolding each
each_same f g i k zero h = refl
each_same f g i k (suc n) h =
    ap₂ (λ (x : ℕ) (l : List ℕ). x ∷ l)
    (sym (ap f (add-zero i)) ∙ (h 0 (omega arith) ∙ ap g (add-zero k)))
    (each_same f g (i + 1) (k + 1) n (λ j q. ap f (next i j) ∙ (h (suc j) (omega arith) ∙ sym (ap g (next k j)))))

pub each_at : (f : ℕ → ℕ) (i n k : ℕ) → k < n → get_or (each f i n) k 0 ≡ f (i + k)
unfolding each
each_at f i zero k h = absurd (not-suc-le-zero h)
each_at f i (suc n) zero h = sym (ap f (add-zero i))
each_at f i (suc n) (suc k) h = each_at f (i + 1) n k (omega arith) ∙ ap f (next i k)

pub each_get : (f : ℕ → ℕ) (n k : ℕ) → k < n → get_or (each f 0 n) k 0 ≡ f k
each_get f n k h = each_at f 0 n k h ∙ ap f (zero-add k)

-- a list whose n entries are f's
pub each_all : (f : ℕ → ℕ) (line : List ℕ) (n : ℕ) → length line ≡ n → ((k : ℕ) → k < n → get_or line k 0 ≡ f k) → line ≡ each f 0 n
each_all f line n long h =
    ext_get_or 0 line (each f 0 n) (long ∙ sym (each_length f 0 n))
    (λ k q. let small : k < n = omega arith in h k small ∙ sym (each_get f n k small))

-- two parts, the second of which goes on where the first ends
pub each_parts :
    (f g : ℕ → ℕ) (n m : ℕ) (xs ys : List ℕ) → xs ≡ each f 0 n → ys ≡ each g 0 m → ((j : ℕ) → j < m → f (n + j) ≡ g j)
    → xs ++ ys ≡ each f 0 (n + m)
each_parts f g n m xs ys first second same =
    ap₂ (λ (a b : List ℕ). a ++ b) first (second ∙ sym (each_same f g (0 + n) 0 m (λ j q. ap (λ (k : ℕ). f (k + j)) (zero-add n) ∙ (same j q ∙ sym (ap g (zero-add j))))))
    ∙ sym (each_append f 0 n m)

-- a line whose first i entries are f's, after a part of k more from there on
part_below : (i k : ℕ) (line ys : List ℕ) (j : ℕ) → j < i → i ≤ length line → get_or (put_mid i k line ys) j 0 ≡ get_or line j 0
part_below i k line ys j h room = search (rules, places)

part_within : (i k : ℕ) (line ys : List ℕ) (j : ℕ) → i ≤ j → j < i + length ys → i ≤ length line → get_or (put_mid i k line ys) j 0 ≡ get_or ys (j - i) 0
part_within i k line ys j h q room = search (rules, places)

pub each_more :
    (f g : ℕ → ℕ) (i n k : ℕ) (line ys : List ℕ) → i + n ≤ length line → ys ≡ each g 0 n → ((j : ℕ) → j < n → g j ≡ f (i + j))
    → ((j : ℕ) → j < i → get_or line j 0 ≡ f j) → (j : ℕ) → j < i + n → get_or (put_mid i k line ys) j 0 ≡ f j
each_more f g i n k line ys room e same before j h = go (dec_lt j i)
  where
    long : length ys ≡ n
    long = ap length e ∙ each_length g 0 n

    go : Dec (j < i) → get_or (put_mid i k line ys) j 0 ≡ f j
    go (yes q) = part_below i k line ys j q (omega arith) ∙ before j q
    go (no q) =
        let small : j - i < n = omega arith in
        let back : i + (j - i) ≡ j = omega arith in
        part_within i k line ys j (omega arith) (omega (arith, long)) (omega arith)
        ∙ (ap (λ (l : List ℕ). get_or l (j - i) 0) e ∙ (each_get g n (j - i) small ∙ (same (j - i) small ∙ ap f back)))
