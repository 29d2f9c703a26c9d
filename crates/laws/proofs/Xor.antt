-- Exclusive or: done twice it is undone, and two change places; of numbers, and of one number in a list. Assumes nothing.
use mathlib.Core.Path.{◌≡◌, refl, sym, ◌∙◌, ap}
use mathlib.Core.List.{List, [], ◌∷◌}
use Prim.Native.Nat.{ℕ, zero, suc}
use lib.Bits.{bit_xor, xor_assoc, xor_comm, xor_self, xor_zero_r}
use lib.ListN.{get_or, set}

pub xor_swap : (a b c : ℕ) → bit_xor (bit_xor a b) c ≡ bit_xor (bit_xor a c) b
xor_swap a b c = xor_assoc a b c ∙ ap (bit_xor a) (xor_comm b c) ∙ sym (xor_assoc a c b)

pub xor_twice : (a b : ℕ) → bit_xor (bit_xor a b) b ≡ a
xor_twice a b = xor_assoc a b b ∙ ap (bit_xor a) (xor_self b) ∙ xor_zero_r a

-- into the number at a place of a list; past its end nothing is done
unfoldable pub xor_at : ℕ → ℕ → List ℕ → List ℕ
xor_at p v [] = []
xor_at zero v (x ∷ m) = bit_xor x v ∷ m
xor_at (suc p) v (x ∷ m) = x ∷ xor_at p v m

pub set_xor : (p v : ℕ) (m : List ℕ) → set m p (bit_xor (get_or m p 0) v) ≡ xor_at p v m
unfolding xor_at
set_xor p v [] = refl
set_xor zero v (x ∷ m) = refl
set_xor (suc p) v (x ∷ m) = ap (λ (l : List ℕ). x ∷ l) (set_xor p v m)

pub xor_at_twice : (p v : ℕ) (m : List ℕ) → xor_at p v (xor_at p v m) ≡ m
unfolding xor_at
xor_at_twice p v [] = refl
xor_at_twice zero v (x ∷ m) = ap (λ (y : ℕ). y ∷ m) (xor_twice x v)
xor_at_twice (suc p) v (x ∷ m) = ap (λ (l : List ℕ). x ∷ l) (xor_at_twice p v m)

pub xor_at_swap : (p v q w : ℕ) (m : List ℕ) → xor_at p v (xor_at q w m) ≡ xor_at q w (xor_at p v m)
unfolding xor_at
xor_at_swap p v q w [] = refl
xor_at_swap zero v zero w (x ∷ m) = ap (λ (y : ℕ). y ∷ m) (xor_swap x w v)
xor_at_swap zero v (suc q) w (x ∷ m) = refl
xor_at_swap (suc p) v zero w (x ∷ m) = refl
xor_at_swap (suc p) v (suc q) w (x ∷ m) = ap (λ (l : List ℕ). x ∷ l) (xor_at_swap p v q w m)
