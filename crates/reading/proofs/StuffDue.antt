-- Where a stuff bit is due. Assumes nothing.
--     due-within    to the last CRC bit, after five equal bits
--     due-past      behind it, never
use mathlib.Core.Path.{◌≡◌, ap, ◌∙◌}
use mathlib.Core.Bool.{Bool, false, ◌&&◌, and-true, and-false}
use mathlib.Core.List.{List}
use Prim.Native.Nat.{ℕ, ◌+◌, ◌≤◌, ◌<◌}
use lib.Dec.{eqb}
use lib.ListN.{length}
use borrow.Author.Tests.{le-leb, lt-leb}
use Rattle.bits.specs.declared.Run.{Run}
use Rattle.reading.specs.Scan.{crc_start, stuff_due}

module _ (run : Run) (frame : List ℕ) where
  pub due-within : length frame ≤ crc_start frame + 15 → stuff_due run frame ≡ eqb run.count 5
  unfolding stuff_due
  due-within h = ap (λ (t : Bool). eqb run.count 5 && t) (le-leb (length frame) (crc_start frame + 15) h) ∙ and-true (eqb run.count 5)

  pub due-past : crc_start frame + 15 < length frame → stuff_due run frame ≡ false
  unfolding stuff_due
  due-past h = ap (λ (t : Bool). eqb run.count 5 && t) (lt-leb (length frame) (crc_start frame + 15) h) ∙ and-false (eqb run.count 5)
