-- Behind a row's last bit. Assumes nothing.
--     Ends           what that leads to
--     passed_on      the registers do not change where no part ends
--     at-end, refused, kept    the frame reaches to the row's end, where the line is refused, or this is kept
use mathlib.Core.Path.{◌≡◌, ap, ◌∙◌}
use mathlib.Core.Bool.{Bool}
use mathlib.Core.List.{List}
use Prim.Native.Nat.{ℕ, ◌+◌, ◌-◌, ◌%◌, ◌<◌}
use native.Mathlib.Omega.{arith}
use lib.ListN.{length}
use Rattle.std.proofs.Common.{Result, Ok, Err}
use Rattle.bits.specs.Rows.{number}
use Rattle.bits.specs.declared.Run.{Run}
use Rattle.refusals.specs.declared.Refusal.{Refusal}
use Rattle.reading.specs.Scan.{Verdict, right, wrong, shown, onward, scanned}
use Rattle.reading.specs.declared.Reading.{Reading}
use Rattle.scanning.specs.Steps.{holding, Stopped}
use Rattle.scanning.specs.declared.seen.Seen.{Seen}
use Rattle.scanning.proofs.Positions.{start_of, end_of}
use Rattle.scanning.proofs.Passing.{rest}
use Rattle.scanning.proofs.Keeping.{bytes, pending, Told, Formed, Between, Within}
use Rattle.scanning.proofs.Registers.{Registers, in-header, in-data, in-crc, behind}

-- what the end of row f leads to, with this form behind it
abbrev pub Ends : Reading → List ℕ → ℕ → Bool → Run → List ℕ → Result Seen Refusal → Type 0
Ends reading line f long run frame (Ok next) = Between reading line (f + 1) long next run frame
Ends reading line f long run frame (Err refusal) = Stopped (scanned reading line) refusal

-- the registers do not change where no part ends
pub passed_on : {f header field n : ℕ} {frame : List ℕ} → (f ≡ 4 → ⊥) → (f ≡ 5 → ⊥) → (f ≡ 6 → ⊥) → Registers f header field n frame
    → Registers (f + 1) header field n frame
passed_on not-dlc not-data not-crc (in-header g e l) = in-header (omega (arith, not-dlc)) e l
passed_on not-dlc not-data not-crc (in-data k g fine e l) = absurd (not-data g)
passed_on not-dlc not-data not-crc (in-crc k g put e l) = absurd (not-crc g)
passed_on not-dlc not-data not-crc (behind m g put e l) = behind m (omega arith) put e l

module _ {reading : Reading} {line : List ℕ} {f : ℕ} {long : Bool} {seen : Seen} {run : Run} {left : ℕ} {frame : List ℕ}
    (w : Within reading line f long seen run left frame) (told : Told seen run frame) (z : left ≡ 0) where
  pub at-end : length frame ≡ end_of f long (bytes seen)
  at-end = omega (arith, w.at-is)

  ended : (v : Verdict) → shown reading run frame (seen.place - 1) ≡ v
      → scanned reading line ≡ onward (seen.place - 1) v (rest reading line seen run frame)
  ended v e =
      w.leads ∙ ap (λ (k : ℕ). onward (seen.place - 1) (pending reading run k frame seen.place) (rest reading line seen run frame)) z
      ∙ ap (λ (u : Verdict). onward (seen.place - 1) u (rest reading line seen run frame)) e

  pub refused : (refusal : Refusal) → shown reading run frame (seen.place - 1) ≡ wrong refusal → Stopped (scanned reading line) refusal
  refused refusal e = (seen.place - 1, ended (wrong refusal) e)

  -- or this is kept
  pub kept : (to : Bool) (number header field : ℕ) → shown reading run frame (seen.place - 1) ≡ right
      → length frame ≡ start_of (f + 1) to (header % 16) → (1 < f + 1 → Formed to frame) → Registers (f + 1) header field number frame
      → Ends reading line f to run frame (Ok (holding number header field seen))
  kept to number header field e at formed registers =
      record {
        leads = ended right e;
        at-is = at;
        formed = formed;
        registers = registers;
        told = told;
        fresh = w.fresh;
        reached = w.reached;
        behind = w.behind;
      }
