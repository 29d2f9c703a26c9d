-- `vram::byte_at` meets its contract: reducing the address first changes nothing, nor does reducing one that is inside. Assumes nothing.
use mathlib.Core.Path.{sym, ap}
use Prim.Native.Nat.{ℕ}
use native.Mathlib.Nat.{mod-lt, mod-eq_of_lt, mod-add-mod}
use native.Mathlib.Omega.{arith}
use lib.ListN.{get_or, get_or-eq_default}
use Rattle.vram.proofs.byte_at.Goals as goal

pub returns-then-mem-eq0 : goal.returns-then-mem-eq0
returns-then-mem-eq0 c = sym (get_or-eq_default c.args.mem.now 0 (omega arith))

pub returns-then-i-mem : goal.returns-then-i-mem
returns-then-i-mem c = let a = c.args in rw (mod-add-mod a.address 524288 a.offset) (ap (λ (i : ℕ). get_or a.mem.now i 0) (sym (mod-eq_of_lt (rw (sym (mod-add-mod a.address 524288 a.offset)) c.if-i-mem.true))))

pub bounds-mem-i-2 : goal.bounds-mem-i-2
bounds-mem-i-2 c = mod-lt _ (omega arith)

pub returns : goal.returns
returns c = simp mod-add-mod
