-- Lines worked by hand, of the definitions: the bit before IDE, and the bits of a long identifier. Assumes nothing.
--     ide-right           behind identifier bits with which five 1s end at a 1 before IDE: where each line is stopped, and with what
--     identifier-right    the identifier among the bits of a long header
use mathlib.Core.Path.{◌≡◌, refl}
use mathlib.Core.List.{List, [], ◌∷◌, ◌++◌, map}
use Prim.Native.Nat.{ℕ}
use Rattle.bits.specs.Rows.{bits, number}
use Rattle.refusals.specs.declared.Refusal.TheVariants.{LineByte, StuffBit, LineLength, FixedBit}
use Rattle.wire.specs.declared.Identifier.TheVariants.{Long}
use Rattle.reading.specs.Form.{header_form, form}
use Rattle.reading.specs.Scan.{long_in, header_width, identifier_in, dlc_in, crc_start, complete, stuff_due, must_be, shown, verdict, run_with, frame_with, Scanned, stopped, scan, scanned}
use Rattle.reading.specs.declared.AckSlot.TheVariants.{Acknowledged}

-- start of frame and the eleven bits of the identifier
abbrev front : List ℕ
front = 0 ∷ 1 ∷ 0 ∷ 1 ∷ 0 ∷ 1 ∷ 0 ∷ 0 ∷ 1 ∷ 1 ∷ 1 ∷ 1 ∷ []

abbrev read : List ℕ → Scanned
read line = scanned (record { slot = Acknowledged }) (front ++ line)

pub ide-right :
    map read ((1 ∷ 1 ∷ []) ∷ (1 ∷ 0 ∷ 0 ∷ []) ∷ (1 ∷ 2 ∷ []) ∷ (1 ∷ []) ∷ (0 ∷ 1 ∷ []) ∷ [])
    ≡ stopped 13 (StuffBit 13) ∷ stopped 14 (FixedBit 12) ∷ stopped 13 (LineByte 13) ∷ stopped 13 (LineLength 13) ∷ stopped 13 (FixedBit 12) ∷ []
unfolding header_form form long_in header_width dlc_in crc_start complete stuff_due must_be shown verdict run_with frame_with scan scanned
ide-right = refl

-- start of frame, high bits, SRR, IDE, low bits
pub identifier-right : identifier_in (0 ∷ (bits 11 0x4D2 ++ (1 ∷ 1 ∷ bits 18 0x2162E))) ≡ Long 0x134A162E
unfolding bits number long_in identifier_in
identifier-right = refl
