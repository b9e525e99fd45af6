-- While a line is read, what is left of it leads where the whole leads, and the registers hold the frame's bits. Assumes nothing.
--     bytes, pending     the bytes of the data field, as the code has them; what the frame shows, where that is still to be looked at
--     Told               as long as a stuff bit may come, the raw bits tell the run
--     Formed, formed-more    the frame has this form, and the bit before IDE is right; so it stays
--     Between, Within    before a row, and in it, with so many bits to come; behind its last bit what the frame shows is still to be looked at
--     end-near           the row's end is not far
use mathlib.Core.Path.{◌≡◌, refl, ap₂, ◌∙◌}
use mathlib.Core.Bool.{Bool, true}
use mathlib.Core.List.{List, ◌++◌}
use Prim.Native.Nat.{ℕ, zero, suc, ◌+◌, ◌-◌, ◌%◌, min, ◌≤◌, ◌<◌}
use native.Mathlib.Omega.{arith}
use lib.Dec.{eqb}
use lib.ListN.{length, get_or-append}
use Rattle.bits.specs.declared.Run.{Run}
use Rattle.reading.specs.Scan.{long_in, crc_start, form_right, slot_right, Verdict, right, shown, onward, scanned}
use Rattle.reading.specs.declared.Reading.{Reading}
use Rattle.reading.proofs.Partial.{width-most, long-stays}
use Rattle.scanning.specs.declared.seen.Seen.{Seen}
use Rattle.scanning.proofs.Positions.{start_of, end_of, end-within}
use Rattle.scanning.proofs.Passing.{rest}
use Rattle.scanning.proofs.RawBits.{Tells}
use Rattle.scanning.proofs.Registers.{Registers}

-- the bytes of the data field, as the code has them
abbrev pub bytes : Seen → ℕ
bytes seen = seen.header % 16

-- behind a row's last bit the frame is still to be looked at
abbrev pub pending : Reading → Run → ℕ → List ℕ → ℕ → Verdict
pending reading run zero frame place = shown reading run frame (place - 1)
pending reading run (suc left) frame place = right

pub pending-none : (reading : Reading) (run : Run) (left : ℕ) (frame : List ℕ) (place : ℕ) → 0 < left
    → pending reading run left frame place ≡ right
pending-none reading run zero frame place h = absurd (omega arith)
pending-none reading run (suc left) frame place h = refl

-- as long as a stuff bit may come, the raw bits tell the run
abbrev pub Told : Seen → Run → List ℕ → Type 0
Told seen run frame = length frame ≤ crc_start frame + 15 → Tells seen.raw run

-- the frame has this form, and the bit before IDE is right
pub record Formed (long : Bool) (frame : List ℕ) : Type 0 where
  pub form-is : long_in frame ≡ long
  pub same : form_right frame ≡ true

pub formed-more : (long : Bool) (frame l : List ℕ) → 14 ≤ length frame → Formed long frame → Formed long (frame ++ l)
formed-more long frame l h formed =
    record {
      form-is = long-stays frame l h ∙ formed.form-is;
      same = ap₂ eqb (get_or-append frame l 0 12 (omega arith)) (get_or-append frame l 0 13 (omega arith)) ∙ formed.same;
    }

-- before row f
pub record Between (reading : Reading) (line : List ℕ) (f : ℕ) (long : Bool) (seen : Seen) (run : Run) (frame : List ℕ) : Type 0 where
  pub leads : scanned reading line ≡ rest reading line seen run frame
  pub at-is : length frame ≡ start_of f long (bytes seen)
  pub formed : 1 < f → Formed long frame
  pub registers : Registers f seen.header seen.field seen.number frame
  pub told : Told seen run frame
  pub fresh : run.count ≡ 0 → length frame ≡ 0
  pub reached : seen.place ≤ length line
  pub behind : length frame ≤ seen.place

-- in row f, with so many bits to come
pub record Within (reading : Reading) (line : List ℕ) (f : ℕ) (long : Bool) (seen : Seen) (run : Run) (left : ℕ) (frame : List ℕ) : Type 0 where
  pub leads : scanned reading line ≡ onward (seen.place - 1) (pending reading run left frame seen.place) (rest reading line seen run frame)
  pub end_is : seen.place + left ≡ seen.end
  pub stop_is : seen.stop ≡ min seen.end (length line)
  pub at-is : length frame + left ≡ end_of f long (bytes seen)
  pub from : start_of f long (bytes seen) ≤ length frame
  pub formed : 1 < f → Formed long frame
  pub registers : Registers f seen.header seen.field seen.number frame
  pub slot : f ≡ 8 → left ≡ 0 → slot_right reading frame ≡ true
  pub fresh : run.count ≡ 0 → length frame ≡ 0
  pub reached : seen.place ≤ length line
  pub behind : length frame ≤ seen.place

-- the row's end is not far
pub end-near : (reading : Reading) (line : List ℕ) (f : ℕ) (long : Bool) (seen : Seen) (run : Run) (left : ℕ) (frame : List ℕ) → f < 10
    → Within reading line f long seen run left frame → seen.end ≤ seen.place + 184
end-near reading line f long seen run left frame h w =
    omega (arith, w.end_is, w.at-is, end-within long (bytes seen) f h, width-most long)
