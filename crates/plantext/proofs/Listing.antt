-- A plan that is taken has a list of some bytes, and what the contract of `compiled` says of its count is one outcome. Assumes nothing.
use Rattle.std.proofs.Common.{◌≡◌, ◌<◌, ℕ, List, [], ◌∷◌, Option, Some, None, length, length-append, arith, sym, ap, refl, ◌∙◌}
use Rattle.std.specs.Prelude.{MatchOption}
use Rattle.plan.specs.Plan.{Parsed, parse, good, bad, items_of}
use Rattle.plan.specs.Rules.{StartsFull}
use Rattle.plan.specs.Xdl.{record_bytes, is_last, bytes_of, xdl_bytes}
use Rattle.plan.proofs.Records.{length_record, size_some}
use Rattle.plan.proofs.Valid.{starts_full}

bytes_some : (p : Parsed) → StartsFull (items_of p) → 0 < length (bytes_of (items_of p))
bytes_some (good (it ∷ l)) s = omega (arith, length-append (record_bytes it (is_last l)) (bytes_of l), length_record it (is_last l), size_some it)
bytes_some (good []) s = absurd s
bytes_some (bad why n) s = absurd s

pub list_some : (plan : List ℕ) → parse plan ≡ good (items_of (parse plan)) → 0 < length (xdl_bytes plan)
unfolding xdl_bytes
list_some plan e = bytes_some (parse plan) (starts_full plan (items_of (parse plan)) e)

-- a count of some bytes, or none for 0
abbrev pub Counted : ℕ → Option ℕ → Type 0
Counted size r = MatchOption r (size ≡ 0) (λ n. (n ≡ size) × (0 < n))

pub counted_once : (size : ℕ) (x y : Option ℕ) → Counted size x → Counted size y → x ≡ y
counted_once size (Some m) (Some n) p q = ap Some (p.0 ∙ sym q.0)
counted_once size (Some m) None p q = absurd (omega (arith, p.0, p.1, q))
counted_once size None (Some n) p q = absurd (omega (arith, q.0, q.1, p))
counted_once size None None p q = refl
