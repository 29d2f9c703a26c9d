-- `step::steps` meets its contract. Assumes nothing.
use Prim.Native.Nat.{◌*◌, ◌≤◌}
use native.Mathlib.Nat.{mul-le-mul}
use native.Mathlib.Omega.{arith}
use Rattle.std.specs.Int.RustNames.{unsigned_abs}
use Rattle.std.proofs.lemmas.Int.{to_z_pos, to_z-of_z, unsigned_abs-mul}
use Rattle.step.proofs.steps.Goals as goal

pub returns-clause-size : goal.returns-clause-size
returns-clause-size c =
    let size : c.args.n * unsigned_abs c.args.step ≤ 65535 * 4096 = mul-le-mul {n₂ = 65535} {m₂ = 4096} (omega arith) c.requires in
    grind (arith, to_z_pos, to_z-of_z, unsigned_abs-mul, size)
