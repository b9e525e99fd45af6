-- In a row. Assumes nothing.
--     form-known, length-known, width-known    what is known there of form, DLC and header bits
--     reach, begun, leads    with bits to come: the frame goes on, and so does the line
--     row-missing     or the line ends there
--     within-crc, none-late    where a stuff bit may be due
--     number_small    the number of a part leaves room for one more bit
use mathlib.Core.Path.{◌≡◌, sym, ap, ◌∙◌}
use mathlib.Core.Bool.{Bool, false}
use mathlib.Core.List.{List}
use Prim.Native.Nat.{ℕ, ◌+◌, ◌-◌, ◌^◌, ◌≤◌, ◌<◌}
use native.Mathlib.Nat.{lt_of_lt_of_le}
use native.Mathlib.Omega.{arith}
use lib.Pow.{pow_mono}
use lib.ListN.{length}
use Rattle.bits.specs.declared.Run.{Run}
use Rattle.refusals.specs.declared.Refusal.TheVariants.{LineLength}
use Rattle.reading.specs.Scan.{long_in, header_width, dlc_in, complete, crc_start, stuff_due, Verdict, onward, scanned}
use Rattle.reading.specs.declared.Reading.{Reading}
use Rattle.reading.proofs.Partial.{width-most}
use Rattle.reading.proofs.StuffDue.{due-past}
use Rattle.scanning.specs.Steps.{Stopped}
use Rattle.scanning.specs.declared.seen.Seen.{Seen}
use Rattle.scanning.proofs.Positions.{end_of, header-end, data-end, end-within, slot-from}
use Rattle.scanning.proofs.Known.{in-header, to-the-crc, behind-the-crc, not-complete}
use Rattle.scanning.proofs.Keeping.{bytes, pending-none, Within}
use Rattle.scanning.proofs.Passing.{rest, missing}
use Rattle.scanning.proofs.HeaderNumber.{width}
use Rattle.scanning.proofs.Registers.{Registers, in-header, in-data, in-crc, behind, data-length, crc-length, form-told, dlc-known}

module _ {reading : Reading} {line : List ℕ} {f : ℕ} {long : Bool} {seen : Seen} {run : Run} {left : ℕ} {frame : List ℕ}
    (w : Within reading line f long seen run left frame) where
  -- form and DLC, once they are read
  pub form-known : 1 < f → long_in frame ≡ long
  form-known g = (w.formed g).form-is

  pub length-known : 4 < f → dlc_in frame ≡ bytes seen
  length-known = dlc-known w.registers

  -- the header's number tells the form
  pub width-known : 4 < f → width seen.header ≡ header_width long
  width-known g = ap header_width (sym (form-told w.registers g) ∙ form-known (omega arith))

  -- with bits to come
  module _ (h : f < 10) (some : 0 < left) where
    pub reach : length frame < end_of f long (bytes seen)
    reach = omega (arith, w.at-is)

    pub begun : complete frame ≡ false
    begun = not-complete f long (bytes seen) frame form-known length-known reach h

    pub leads : scanned reading line ≡ rest reading line seen run frame
    leads =
        w.leads
        ∙ ap (λ (v : Verdict). onward (seen.place - 1) v (rest reading line seen run frame)) (pending-none reading run left frame seen.place some)

    pub row-missing : length line ≤ seen.place → Stopped (scanned reading line) (LineLength seen.place)
    row-missing = missing reading line seen run frame leads begun

    pub within-crc : f ≤ 7 → length frame ≤ crc_start frame + 15
    within-crc = to-the-crc f long (bytes seen) frame form-known length-known reach

    -- behind the CRC delimiter no stuff bit is due
    pub none-late : 7 < f → stuff_due run frame ≡ false
    none-late g =
        due-past run frame
        (behind-the-crc f long (bytes seen) frame form-known length-known (omega (arith, w.from, slot-from long (bytes seen) f g)) (omega arith))

    pub number_small : seen.number < 2 ^ 63
    number_small = small w.registers
      where
        below : (k : ℕ) → seen.number < 2 ^ k → k ≤ 63 → seen.number < 2 ^ 63
        below k l g = lt_of_lt_of_le l (pow_mono g)

        small : Registers f seen.header seen.field seen.number frame → seen.number < 2 ^ 63
        small (in-header g e l) = below _ l (omega (arith, reach, header-end long (bytes seen) f g, width-most long))
        small (in-data k g fine e l) =
            below k l
            (omega (arith, reach, fine.few, data-end long (bytes seen) f (omega arith), width-known (omega arith), data-length seen.header seen.number k frame e))
        small (in-crc k g put e l) =
            below k l
            (omega (arith, reach, end-within long (bytes seen) f h, width-known (omega arith), crc-length seen.header seen.field seen.number k frame e))
        small (behind m g put e l) = below 15 l (omega arith)
