-- What a call gives where it was refused, where it was done, where its report has no room, and where it goes by another answer. Assumes nothing.
use mathlib.Core.Path.{◌≡◌, refl, sym, ap, ◌∙◌}
use mathlib.Core.Bool.{Bool, true}
use mathlib.Core.List.{List}
use Prim.Native.Nat.{ℕ, ◌≤◌, ◌<◌}
use lib.ListN.{length}
use borrow.Author.Tests.{le-leb, lt-leb}
use Rattle.std.specs.Prelude.{Result, Ok, Err, IsErrAnd}
use Rattle.refusal.specs.Sheet.{number_of, Told, done, refused, told, asked, unless, kept}
use Rattle.refusal.specs.declared.Refusal.{Refusal}
use Rattle.refusal.proofs.Sheet.{asked_ok}
use Rattle.words.specs.Words.{laid}
use Rattle.capi.specs.Calls.{report_laid, reportable}

-- what `?` hands on of a refusal is told as it was
pub told_on : {V : Type 0} (x : Result V Refusal) (w : Refusal) → IsErrAnd x (λ r. r ≡ w) → told x ≡ refused (number_of w) 0
told_on (Ok v) w e = absurd e
told_on (Err v) w e = ap (λ (u : Refusal). refused (number_of u) 0) e

-- a test that `?` goes past holds, and with it what it tests
pub asked_true : {t u : Bool} (why : Refusal) {x : Result (Unit {0}) Refusal} {v : Unit {0}} → u ≡ t → x ≡ asked u why → x ≡ Ok v → t ≡ true
asked_true why e a w = sym e ∙ asked_ok _ _ (sym a ∙ w)

module _ {X : Type 0} (call : Told X) (k item : ℕ) (e : call ≡ refused k item) where
  pub no_change : {A : Type 0} (old new : A) → old ≡ kept call old new
  no_change old new = sym (ap (λ (t : Told X). kept t old new) e)

  pub no_report : (f : X → List ℕ) (old : List ℕ) → old ≡ report_laid f call old
  no_report f old = sym (ap (λ (t : Told X). report_laid f t old) e)

module _ {X : Type 0} (call : Told X) (v : X) (e : call ≡ done v) where
  pub done_change : {A : Type 0} (old new now : A) → now ≡ new → now ≡ kept call old new
  done_change old new now p = p ∙ sym (ap (λ (t : Told X). kept t old new) e)

  pub done_report : (f : X → List ℕ) (old now : List ℕ) → now ≡ laid (f v) old → now ≡ report_laid f call old
  done_report f old now p = p ∙ sym (ap (λ (t : Told X). report_laid f t old) e)

module _ {X : Type 0} (call told : Told X) (e : call ≡ told) where
  pub as_change : {A : Type 0} (old new new' now : A) → new ≡ new' → now ≡ kept told old new → now ≡ kept call old new'
  as_change old new new' now p q = q ∙ ap (kept told old) p ∙ sym (ap (λ (t : Told X). kept t old new') e)

-- a test that is passed
pub past : {X : Type 0} (t : Bool) (k : ℕ) (rest : Told X) → t ≡ true → unless t k rest ≡ rest
past t k rest e = ap (λ (x : Bool). unless x k rest) e

-- a report that has room
pub roomy : {X : Type 0} (n : ℕ) (report : List ℕ) (told : Told X) → n ≤ length report → reportable n report told ≡ told
roomy n report (done v) h = past _ 13 (done v) (le-leb n (length report) h)
roomy n report (refused k item) h = refl

-- a report that has none: a call that would be done is refused 13, and nothing is changed
module _ {X : Type 0} (n : ℕ) (report : List ℕ) (h : length report < n) where
  pub short : (v : X) → reportable n report (done v) ≡ refused 13 0
  short v = ap (λ (x : Bool). unless x 13 (done v)) (lt-leb n (length report) h)

-- what is kept where a call is refused is kept
pub kept_twice : {X A : Type 0} (told : Told X) (old new : A) → kept told old new ≡ kept told old (kept told old new)
kept_twice (done v) old new = refl
kept_twice (refused k item) old new = refl
