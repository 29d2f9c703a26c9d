-- Words laid over others, one at a time, and one part behind another. Assumes nothing.
use mathlib.Core.Path.{◌≡◌, sym, ap, ◌∙◌}
use mathlib.Core.Bool.{Bool, cond}
use mathlib.Core.List.{List, ◌++◌, append_assoc}
use Prim.Native.Nat.{ℕ, ◌+◌, ◌-◌, ◌≤◌}
use native.Mathlib.Omega.{arith}
use lib.ListN.{length, take, drop, length-append, length-drop}
use lib.Seq.{take-append_seam, drop-append_seam, drop-drop}
use borrow.Author.Tests.{le-leb}
use borrow.Rule.Slice.PartMut.{put_mid}
use Rattle.laws.proofs.Lent.{tail_lent, tail_back}
use Rattle.words.specs.Words.{laid}

-- where there is room
pub laid_room : (new old : List ℕ) → length new ≤ length old → laid new old ≡ new ++ drop (length new) old
laid_room new old h = ap (λ (t : Bool). cond t (new ++ drop (length new) old) old) (le-leb (length new) (length old) h)

-- words laid over what is lent from the end of others on are laid behind these
pub laid_on :
    (front new old mid ys : List ℕ) → length front + length new ≤ length old → mid ≡ laid front old
    → ys ≡ laid new (take (length mid - length front) (drop (length front) mid))
    → put_mid (length front) (length mid - length front) mid ys ≡ laid (front ++ new) old
laid_on front new old mid ys h e f =
    let n = length front in
    let rest : List ℕ = drop n old in
    let is : mid ≡ front ++ rest = e ∙ laid_room front old (omega arith) in
    tail_back mid ys n (simp (is, length-append) (omega arith))
    ∙ ap (λ (l : List ℕ). take n mid ++ l) (f ∙ ap (laid new) (tail_lent mid n))
    ∙ ap (λ (l : List ℕ). take n l ++ laid new (drop n l)) is
    ∙ (λ k. take-append_seam front rest k ++ laid new (drop-append_seam front rest k))
    ∙ ap (λ (l : List ℕ). front ++ l) (laid_room new rest (simp length-drop (omega arith)) ∙ ap (λ (l : List ℕ). new ++ l) (drop-drop (length new) n old))
    ∙ sym (append_assoc front new (drop (n + length new) old))
    ∙ ap (λ (j : ℕ). (front ++ new) ++ drop j old) (sym (length-append front new))
    ∙ sym (laid_room (front ++ new) old (simp length-append (omega arith)))

-- and so of three parts
pub laid_three :
    (a b c old one ys two zs : List ℕ) → length a + length b + length c ≤ length old → one ≡ laid a old
    → ys ≡ laid b (take (length one - length a) (drop (length a) one)) → two ≡ put_mid (length a) (length one - length a) one ys
    → zs ≡ laid c (take (length two - length (a ++ b)) (drop (length (a ++ b)) two))
    → put_mid (length (a ++ b)) (length two - length (a ++ b)) two zs ≡ laid ((a ++ b) ++ c) old
laid_three a b c old one ys two zs h e f is g =
    laid_on (a ++ b) c old two zs (simp length-append (omega arith)) (is ∙ laid_on a b old one ys (omega arith) e f) g
