-- Reading the bits of a line from the left: the first problem met is the answer. Two things are known at a place of the line: the
-- run of equal bits that ends before it, stuff bits counted, and the frame's bits read so far, without stuff bits. Assumes nothing.
use Rattle.std.specs.Prelude.{ℕ, ◌+◌, ◌-◌, ◌*◌, Bool, cond, not, ◌&&◌, ◌||◌, List, [], ◌∷◌, ◌++◌, eqb, leb, ltb, length, get_or, take, drop}
use Rattle.bits.specs.declared.Run.{Run}
use Rattle.bits.specs.Rows.{number}
use Rattle.bits.specs.Stuffing.{nothing_sent, counted}
use Rattle.refusals.specs.declared.Refusal.{Refusal}
use Rattle.refusals.specs.declared.Refusal.TheVariants.{FieldLength, LineByte, StuffBit, LineLength, Crc, FixedBit, NotAcknowledged}
use Rattle.crc.specs.Crc.{crc}
use Rattle.wire.specs.declared.Identifier.{Identifier}
use Rattle.wire.specs.declared.Identifier.TheVariants.{Base, Long}
use Rattle.reading.specs.Form.{either, form, fits}
use Rattle.reading.specs.declared.AckSlot.{AckSlot}
use Rattle.reading.specs.declared.AckSlot.TheVariants.{Acknowledged, Either}
use Rattle.reading.specs.declared.Reading.{Reading}

-- IDE among the frame's bits chooses the form; until it is read this says the base form, whose first bits are the long one's too [12.5]
unfoldable pub long_in : List ℕ → Bool
long_in frame = eqb (get_or frame 13 0) 1

-- how many bits the header of a form has [4.1, 4.9]
unfoldable pub header_width : Bool → ℕ
header_width long = cond long 39 19

-- the header's bits, behind which the data start [12.5]
abbrev pub data_start : List ℕ → ℕ
data_start frame = header_width (long_in frame)

-- the identifier among the frame's bits: eleven bits, and in the long form 18 more [4.9, 12.17]
unfoldable pub identifier_in : List ℕ → Identifier
identifier_in frame =
    let high = take 11 (drop 1 frame) in
    cond (long_in frame) (Long (number 0 (high ++ take 18 (drop 14 frame)))) (Base (number 0 high))

-- the DLC, once its last bit is read; until then the most there is, so that nothing behind the header is reached [12.5]
unfoldable pub dlc_in : List ℕ → ℕ
dlc_in frame = cond (ltb (length frame) (data_start frame)) 8 (number 0 (take 4 (drop (data_start frame - 4) frame)))

-- the position of the first CRC bit: behind the header's bits and the data bits [12.5]
unfoldable pub crc_start : List ℕ → ℕ
crc_start frame = data_start frame + 8 * dlc_in frame

-- the last end bit is read: 15 CRC bits and ten more [12.8, 12.9, 12.15]
unfoldable pub complete : List ℕ → Bool
complete frame = eqb (length frame) (crc_start frame + 25)

-- after five equal bits a stuff bit is due, as long as the last of them is no later than the last CRC bit [12.4]
unfoldable pub stuff_due : Run → List ℕ → Bool
stuff_due run frame = eqb run.count 5 && leb (length frame) (crc_start frame + 15)

-- the bit that must stand next; 2 where either may [12.6, 12.12]
unfoldable pub must_be : List ℕ → ℕ
must_be frame = get_or (form (long_in frame) (dlc_in frame)) (length frame) either

-- a bit is right, or this is wrong with it [12.7]
pub data Verdict : Type 0 where
  right : Verdict
  wrong : Refusal → Verdict

-- no field has that many bytes: the DLC is 1, or above 8 [12.13]
abbrev pub dlc_refused : List ℕ → Bool
dlc_refused frame = eqb (dlc_in frame) 1 || ltb 8 (dlc_in frame)

-- the CRC that stands in the frame is that of the bits before it [12.14]
abbrev pub crc_right : List ℕ → Bool
crc_right frame = eqb (number 0 (drop (crc_start frame) frame)) (crc (take (crc_start frame) frame))

-- the greatest bit that may stand in the ACK slot: 0 where somebody must have heard the frame [12.18]
abbrev pub slot_most : AckSlot → ℕ
slot_most Acknowledged = 0
slot_most Either = 1

-- the bit in the ACK slot, the second behind the CRC, may stand there [12.18]
abbrev pub slot_right : Reading → List ℕ → Bool
slot_right reading frame = leb (get_or frame (crc_start frame + 16) 0) (slot_most reading.slot)

-- RTR is 0 with IDE 0, SRR 1 with IDE 1: the bit before IDE is the same [12.19]
abbrev pub form_right : List ℕ → Bool
form_right frame = eqb (get_or frame 12 0) (get_or frame 13 0)

-- the place of the bit before IDE, where the two differ: IDE starts a run, or a stuff bit between them does [12.19]
abbrev pub before_ide : Run → ℕ → ℕ
before_ide run place = cond (eqb run.count 1) (place - 1) (place - 2)

-- what the frame's bits show once the bit at this place is among them and ends this run: 13 at the bit before IDE, 3 at the fourth DLC
-- bit, 12 at the last CRC bit, 20 at the ACK slot [12.13, 12.14, 12.18, 12.19]
unfoldable pub shown : Reading → Run → List ℕ → ℕ → Verdict
shown reading run frame place =
    cond (eqb (length frame) 14 && not (form_right frame)) (wrong (FixedBit (before_ide run place)))
    (cond (eqb (length frame) (data_start frame) && dlc_refused frame) (wrong (FieldLength place))
    (cond (eqb (length frame) (crc_start frame + 15) && not (crc_right frame)) (wrong (Crc place))
    (cond (eqb (length frame) (crc_start frame + 17) && not (slot_right reading frame)) (wrong (NotAcknowledged place))
    right)))

-- the run and the frame's bits behind a bit that is right; a stuff bit is none of the frame's [12.2]
unfoldable pub run_with : Run → ℕ → Run
run_with run bit = record { bit = bit; count = counted run bit }

unfoldable pub frame_with : Run → List ℕ → ℕ → List ℕ
frame_with run frame bit = cond (stuff_due run frame) frame (frame ++ (bit ∷ []))

-- what is wrong with the bit at a place, in the order 11, 9, 10, 13, then what the frame's bits show [12.7, 12.8, 12.10, 12.11, 12.12]
unfoldable pub verdict : Reading → Run → List ℕ → ℕ → ℕ → Verdict
verdict reading run frame place bit =
    cond (complete frame) (wrong (LineLength place))
    (cond (ltb 1 bit) (wrong (LineByte place))
    (cond (stuff_due run frame) (cond (eqb bit run.bit) (wrong (StuffBit place)) right)
    (cond (not (fits (must_be frame) bit)) (wrong (FixedBit place))
    (shown reading (run_with run bit) (frame ++ (bit ∷ [])) place))))

-- the bits of a whole frame, or the first problem met: the place where it is met, and what it is [12.1, 12.15]
pub data Scanned : Type 0 where
  whole : List ℕ → Scanned
  stopped : ℕ → Refusal → Scanned

-- the first problem met is the answer [12.1]
abbrev pub onward : ℕ → Verdict → Scanned → Scanned
onward place right next = next
onward place (wrong refusal) next = stopped place refusal

-- the bits of a line from a place on; 11 where they end before the frame does [12.1, 12.9]
unfoldable pub scan : Reading → Run → List ℕ → ℕ → List ℕ → Scanned
scan reading run frame place [] = cond (complete frame) (whole frame) (stopped place (LineLength place))
scan reading run frame place (bit ∷ line) =
    onward place (verdict reading run frame place bit) (scan reading (run_with run bit) (frame_with run frame bit) (place + 1) line)

-- a line from its first bit on: no run reaches in from before it [12.3, 12.15]
unfoldable pub scanned : Reading → List ℕ → Scanned
scanned reading line = scan reading nothing_sent [] 0 line

-- what is known behind the first bits of a line: the run that ends them, and the frame's bits among them [12.2]
unfoldable pub run_behind : Run → List ℕ → Run
run_behind run [] = run
run_behind run (bit ∷ line) = run_behind (run_with run bit) line

unfoldable pub frame_behind : Run → List ℕ → List ℕ → List ℕ
frame_behind run frame [] = frame
frame_behind run frame (bit ∷ line) = frame_behind (run_with run bit) (frame_with run frame bit) line
