-- The contracts of both `draw`s and of `level` admit one outcome only. Assumes nothing.
use mathlib.Core.Path.{◌≡◌, sym, ap, ◌∙◌}
use Prim.Native.Nat.{ℕ}
use borrow.Fn.Kinds.{Dens, res_t, ended_of}
use contract.Lifetimes.{Lfts}
use denote.Triple.Clauses.{AtExit}
use Rattle.laws.proofs.Once.{OneAnswer, OneExit}
use Rattle.stretch.specs.Stretch.{Trace, trace, trace_of}
use Rattle.stretch.specs.Flat.{first_of}
use Rattle.stretch.proofs.draw.Kinds as draw_kinds
use Rattle.stretch.proofs.draw.Reads as draw
use Rattle.stretch.proofs.flat.draw.Kinds as flat_draw_kinds
use Rattle.stretch.proofs.flat.draw.Reads as flat_draw
use Rattle.stretch.proofs.flat.level.Kinds as level_kinds
use Rattle.stretch.proofs.flat.level.Reads as level

draw_once : OneAnswer 1 draw_kinds.ps draw_kinds.r draw.Post
draw_once κs a x y s t p q = let e = p ∙ sym q in λ i. record { note = (e i).note; accesses = (e i).accesses }

draw_memory_once : OneExit 1 draw_kinds.ps draw_kinds.r draw.Post (λ κs s. s.1.0.now)
draw_memory_once κs a x y s t p q = ap (λ (d : Trace). d.mem) (p ∙ sym q)

-- the bytes drawn are as many
module _ (κs : Lfts 1) (a : Dens κs flat_draw_kinds.ps) (x y : (res_t flat_draw_kinds.r κs).Denot) (s t : AtExit (ended_of 1 flat_draw_kinds.ps flat_draw_kinds.r) κs)
    (p : flat_draw.Post κs a x s) (q : flat_draw.Post κs a y t) where
  as_many : x.count ≡ y.count
  as_many = p.0 ∙ sym q.0

  alike : trace s.1.0.now x.note x.accesses ≡ trace t.1.0.now y.note y.accesses
  alike = p.1 ∙ ap (λ (n : ℕ). trace_of a.0 (first_of a.1.1.0 n) a.1.0.now a.1.1.1.0) as_many ∙ sym q.1

flat_draw_once : OneAnswer 1 flat_draw_kinds.ps flat_draw_kinds.r flat_draw.Post
flat_draw_once κs a x y s t p q =
    let n = as_many κs a x y s t p q in
    let e = alike κs a x y s t p q in
    λ i. record { count = n i; note = (e i).note; accesses = (e i).accesses }

flat_draw_memory_once : OneExit 1 flat_draw_kinds.ps flat_draw_kinds.r flat_draw.Post (λ κs s. s.1.0.now)
flat_draw_memory_once κs a x y s t p q = ap (λ (d : Trace). d.mem) (alike κs a x y s t p q)

level_once : OneAnswer 0 level_kinds.ps level_kinds.r level.Post
level_once κs a x y s t p q = p ∙ sym q
