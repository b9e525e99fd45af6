-- Behind the last row. Assumes nothing.
--     line-longer     the line goes on,
--     line_read       or it is read
use mathlib.Core.Path.{◌≡◌, refl, sym, ap, ◌∙◌}
use mathlib.Core.Bool.{Bool, true}
use mathlib.Core.List.{List}
use Prim.Native.Nat.{ℕ, ◌+◌, ◌≤◌, ◌<◌}
use native.Mathlib.Omega.{arith}
use lib.Dec.{lit<}
use lib.ListN.{length, get_or, drop_of_length-le}
use lib.Seq.{drop-cons}
use borrow.Author.Tests.{eq-eqb}
use Rattle.std.proofs.Common.{Ok}
use Rattle.bits.specs.declared.Run.{Run}
use Rattle.refusals.specs.declared.Refusal.TheVariants.{LineLength}
use Rattle.reading.specs.Scan.{identifier_in, dlc_in, complete, crc_start, scan, scanned}
use Rattle.reading.specs.declared.Reading.{Reading}
use Rattle.reading.proofs.Verdicts.{bit-too-many}
use Rattle.scanning.specs.Held.{data_in}
use Rattle.scanning.specs.Steps.{Stopped, Holds, Reads}
use Rattle.scanning.specs.declared.seen.Seen.{Seen}
use Rattle.scanning.proofs.Positions.{frame-end}
use Rattle.scanning.proofs.Known.{crc-known, in-header}
use Rattle.scanning.proofs.HeaderNumber.{identifier-in}
use Rattle.scanning.proofs.Registers.{Registers, in-header, in-data, in-crc, behind, dlc-known, data-there}
use Rattle.scanning.proofs.Keeping.{bytes, Between}

module _ (reading : Reading) (line : List ℕ) (long : Bool) (seen : Seen) (run : Run) (frame : List ℕ)
    (b : Between reading line 10 long seen run frame) where
  known : dlc_in frame ≡ bytes seen
  known = dlc-known b.registers (lit< tt)

  ended : complete frame ≡ true
  unfolding complete
  ended =
      let start = crc-known 10 long (bytes seen) frame (λ g. (b.formed g).form-is) (λ g. known) (lit< tt) in
      eq-eqb (length frame) (crc_start frame + 25) (omega (arith, b.at-is, frame-end long (bytes seen), start))

  pub line-longer : seen.place < length line → Stopped (scanned reading line) (LineLength seen.place)
  unfolding scan
  line-longer h = (
    seen.place,
    b.leads ∙ ap (scan reading run frame seen.place) (drop-cons line seen.place 0 h)
        ∙ rw (bit-too-many reading run frame seen.place (get_or line seen.place 0) ended) refl,
  )

  pub line_read : length line ≤ seen.place → Reads (Ok seen) (scanned reading line)
  unfolding scan
  line_read h =
      (frame, b.leads ∙ ap (scan reading run frame seen.place) (drop_of_length-le line h) ∙ rw ended refl, holds b.registers)
    where
      holds : Registers 10 seen.header seen.field seen.number frame → Holds seen frame
      holds (in-header g e l) = absurd (omega arith)
      holds (in-data k g fine e l) = absurd (omega arith)
      holds (in-crc k g put e l) = absurd (omega arith)
      holds (behind m g put e l) =
          record {
            identifier-is = sym (ap identifier_in e ∙ identifier-in put.fine.shaped _);
            dlc-is = sym known;
            data_is = sym (ap data_in e ∙ data-there _ put);
          }
