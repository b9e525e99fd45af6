-- `crc::bring_down` meets its contract. Assumes nothing.
use mathlib.Core.Path.{refl}
use mathlib.Core.List.{◌++◌, append_assoc, append-nil}
use Prim.Native.Nat.{◌-◌, ◌*◌}
use native.Mathlib.Omega.{arith}
use Rattle.bits.specs.Rows.{bits}
use Rattle.crc.specs.Crc.{crc}
use Rattle.bits.specs.Fours.{four_at}
use Rattle.crc.proofs.CrcFours.{crc-next-four}
use Rattle.bits.proofs.Fours.{fours-next, fours-none}
use Rattle.crc.proofs.bring_down.Goals as goal

pub loop-left-init : goal.loop-left-init
loop-left-init c row e = (row, e, refl)

pub loop-left-preserved : goal.loop-left-preserved
loop-left-preserved c row e =
    let left = c.loop-left.left in
    let number = c.args.number in
    let four = four_at number (left - 1) in
    let rest = bits (4 * (left - 1)) number in
    let front = c.loop-left.invariant row e in
    let m = front.0 in (
      m ++ bits 4 four,
      grind (arith, c.divide-register.ensures (crc m) front.1, crc-next-four m four),
      grind (arith, front.2, append_assoc m (bits 4 four) rest, fours-next left number),
    )

pub returns : goal.returns
returns c row e =
    let front = c.loop-left.invariant row e in
    grind (arith, front.1, front.2, append-nil front.0, fours-none c.loop-left.left c.args.number)
