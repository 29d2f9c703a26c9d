-- `vram::pour` meets its contract. The loop's invariant: pouring what is left of the list from its place on gives what the whole was to give. Assumes nothing.
use mathlib.Core.Path.{◌≡◌}
use Prim.Native.Nat.{◌+◌}
use lib.ListN.{length, drop}
use Rattle.vram.specs.Install.{poured}
use Rattle.vram.proofs.pour.Given as goal

abbrev pub invariant-loop-i : goal.invariant-loop-i
invariant-loop-i l =
    (poured l.n l.mem (l.address + l.i) (drop l.i l.list) ≡ poured l.n l.initial.mem l.address l.list) × (length l.mem ≡ length l.initial.mem)
