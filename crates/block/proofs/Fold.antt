-- Laws of a thing done k times. Assumes nothing.
use mathlib.Core.Path.{◌≡◌, refl, sym, ◌∙◌, ap}
use Prim.Native.Nat.{ℕ, zero, suc, ◌+◌, ◌*◌, ◌<◌, ◌≤◌}
use native.Mathlib.Nat.{add-zero, add-suc, zero-mul, suc-mul}
use native.Mathlib.Omega.{arith}
use Rattle.block.specs.Fold.{each}

-- what each time keeps, all keep
pub each_keeps {ℓ} : {A : Type ℓ} (P : A → Type 0) (f : ℕ → A → A) (k : ℕ) (a : A) → ((n : ℕ) (x : A) → n < k → P x → P (f n x)) → P a → P (each f k a)
unfolding each
each_keeps P f zero a h p = p
each_keeps P f (suc k) a h p = h k _ (omega arith) (each_keeps P f k a (λ n x l. h n x (omega arith)) p)

module _ {A : Type 0} (f : ℕ → A → A) where
  -- what can change places with each can do so with all
  pub each_past : (g : A → A) (k : ℕ) (a : A) → ((n : ℕ) (x : A) → g (f n x) ≡ f n (g x)) → g (each f k a) ≡ each f k (g a)
  unfolding each
  each_past g zero a h = refl
  each_past g (suc k) a h = h k (each f k a) ∙ ap (f k) (each_past g k a h)

  -- things that undo themselves and change places with each other, done all twice, are undone
  pub each_twice : (k : ℕ) (a : A) → ((n : ℕ) (x : A) → f n (f n x) ≡ x) → ((n m : ℕ) (x : A) → f n (f m x) ≡ f m (f n x)) → each f k (each f k a) ≡ a
  unfolding each
  each_twice zero a u c = refl
  each_twice (suc k) a u c = ap (f k) (sym (each_past (f k) k (each f k a) (c k))) ∙ u k (each f k (each f k a)) ∙ each_twice k a u c

  -- two families that change places
  pub each_swap : (g : ℕ → A → A) (k m : ℕ) (a : A) → ((n j : ℕ) (x : A) → f n (g j x) ≡ g j (f n x)) → each f k (each g m a) ≡ each g m (each f k a)
  unfolding each
  each_swap g k zero a c = refl
  each_swap g k (suc m) a c = sym (each_past (g m) k (each g m a) (λ n x. sym (c n m x))) ∙ ap (g m) (each_swap g k m a c)

  -- the same things done, each after the ones before it
  pub each_same : (g : ℕ → A → A) (k : ℕ) (a : A) → ((n : ℕ) → n < k → f n (each f n a) ≡ g n (each f n a)) → each f k a ≡ each g k a
  unfolding each
  each_same g zero a h = refl
  each_same g (suc k) a h = h k (omega arith) ∙ ap (g k) (each_same g k a (λ n l. h n (omega arith)))

  -- the same things done wherever
  pub each_eq : (g : ℕ → A → A) (k : ℕ) (a : A) → ((n : ℕ) (x : A) → n < k → f n x ≡ g n x) → each f k a ≡ each g k a
  each_eq g k a h = each_same g k a (λ n l. h n (each f n a) l)

  -- the same things done, where something is kept
  pub each_eq_keeps :
      (P : A → Type 0) (g : ℕ → A → A) (k : ℕ) (a : A) → ((n : ℕ) (x : A) → n < k → P x → P (f n x)) → ((n : ℕ) (x : A) → n < k → P x → f n x ≡ g n x) → P a
      → each f k a ≡ each g k a
  each_eq_keeps P g k a h e p = each_same g k a (λ n l. e n (each f n a) l (each_keeps P f n a (λ m x u. h m x (omega arith)) p))

  -- nothing done
  pub each_none : (k : ℕ) (a : A) → ((n : ℕ) (x : A) → n < k → f n x ≡ x) → each f k a ≡ a
  unfolding each
  each_none zero a h = refl
  each_none (suc k) a h = h k (each f k a) (omega arith) ∙ each_none k a (λ n x l. h n x (omega arith))

  -- in two pieces
  pub each_add : (m n : ℕ) (a : A) → each f (m + n) a ≡ each (λ j. f (m + j)) n (each f m a)
  unfolding each
  each_add m zero a = rw (add-zero m)
  each_add m (suc n) a = rw (add-suc m n) (ap (f (m + n)) (each_add m n a))

  -- in r rows of c
  pub each_table : (r c : ℕ) (a : A) → each f (r * c) a ≡ each (λ i x. each (λ j. f (i * c + j)) c x) r a
  unfolding each
  each_table zero c a = rw (zero-mul c)
  each_table (suc r) c a = rw (suc-mul r c) (each_add (r * c) c a ∙ ap (λ x. each (λ j. f (r * c + j)) c x) (each_table r c a))

-- something is done in a window only: clipping
pub each_window :
    {A : Type 0} (f : ℕ → A → A) (low size rest : ℕ) (a : A) → ((n : ℕ) (x : A) → n < low → f n x ≡ x) → ((n : ℕ) (x : A) → low + size ≤ n → f n x ≡ x)
    → each f (low + size + rest) a ≡ each (λ j. f (low + j)) size a
each_window f low size rest a before behind =
    each_add f (low + size) rest a
    ∙ each_none (λ j. f (low + size + j)) rest (each f (low + size) a) (λ n x l. behind (low + size + n) x (omega arith))
    ∙ each_add f low size a
    ∙ ap (λ x. each (λ j. f (low + j)) size x) (each_none f low a before)
