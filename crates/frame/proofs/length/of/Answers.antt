-- `frame::length::of` meets its contract: the bits beside the stuff bits, and the stuff bits that the calls counted. Assumes nothing.
use mathlib.Core.Path.{◌≡◌, sym, ap, ap₂, ◌∙◌}
use mathlib.Core.List.{◌++◌}
use Prim.Native.Nat.{ℕ, ◌+◌, ◌*◌, ◌^◌, ◌<◌}
use native.Mathlib.Omega.{arith}
use Rattle.bits.specs.declared.Run.{Run}
use Rattle.bits.specs.Rows.{bits}
use Rattle.bits.specs.Stuffing.{stuff_count, run_after_row}
use Rattle.bits.proofs.Rows.{bits-length}
use Rattle.crc.specs.Crc.{crc}
use Rattle.wire.proofs.LineParts.{data_run}
use Rattle.frame.specs.Fours.{run_of, quiet_check}
use Rattle.frame.specs.Parts.{header_bits, data_bits}
use Rattle.frame.proofs.FrameParts.{crc-of-parts, quiet-length}
use Rattle.frame.proofs.Quiet.{check-drawn}
use Rattle.frame.proofs.length.of.Goals as goal
use Rattle.frame.proofs.length.of.Goals.{After-of_frame-crc}

-- the CRC
checked : (c : After-of_frame-crc) →
    let p = c.args.parts in
    (c.of_frame-crc.result ≡ crc (header_bits p ++ data_bits p)) × (c.of_frame-crc.result < 2 ^ 15)
checked c = crc-of-parts c.args.parts _ c.of_frame-crc.ensures

pub check-requires : goal.check-requires
check-requires c = (checked (goal.at.check-requires c).After-of_frame-crc).1

pub total-requires : goal.total-requires
total-requires c =
    let first = c.of_header-header.ensures.few in
    let h = c.args.parts.header in (
      h.few,
      c.args.parts.few,
      omega (arith, first, bits-length (3 + 4 * h.fours) h.number, h.few),
      omega (arith, c.count-check.ensures.few, bits-length 16 c.check.result),
    )

pub returns : goal.returns
returns c =
    let p = c.args.parts in
    let x = crc (header_bits p ++ data_bits p) in
    let behind : run_of c.behind-last.result.bits ≡ data_run (header_bits p) (data_bits p) =
    c.behind-last.ensures ∙ ap (λ (r : Run). run_after_row r (data_bits p)) c.of_header-header.ensures.run_is in
    let sent : c.check.result ≡ quiet_check x =
    c.check.ensures ∙ ap quiet_check (checked (goal.at.returns c).After-of_frame-crc).0 in
    let check : c.count-check.result.drawn ≡ stuff_count (data_run (header_bits p) (data_bits p)) (bits 15 x) =
    c.count-check.ensures.drawn-is
    ∙ ap₂ (λ (r : Run) (n : ℕ). stuff_count r (bits 16 n)) behind sent ∙ check-drawn (data_run (header_bits p) (data_bits p)) x in
    c.total.ensures ∙ rw (c.of_header-header.ensures.drawn-is, check) (sym (quiet-length p))
