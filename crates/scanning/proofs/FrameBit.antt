-- A bit of the frame, before which no stuff bit is due. Assumes nothing.
--     Goes           what a step in a row leads to
--     goes           where the definition leads
--     byte-goes, fixed_goes    a byte that is no bit, and a bit that may not stand there
--     right-goes     a bit that may, whatever is kept of it
--     added, added-late, formed-on, bit-shown, told-on, untold    what is known behind it
use mathlib.Core.Path.{◌≡◌, refl, sym, ap, ◌∙◌}
use mathlib.Core.Bool.{Bool, true, false, cond}
use mathlib.Core.List.{List, [], ◌∷◌, ◌++◌}
use Prim.Native.Nat.{ℕ, zero, suc, ◌+◌, ◌-◌, ◌*◌, ◌%◌, ◌^◌, ◌≤◌, ◌<◌}
use native.Mathlib.Omega.{arith}
use lib.Dec.{eqb, lit<}
use lib.ListN.{length, get_or, drop}
use borrow.Author.Tests.{eqb-true, eqb-false}
use Rattle.std.proofs.Common.{Result, Ok, Err}
use Rattle.bits.specs.declared.Run.{Run}
use Rattle.bits.specs.Stuffing.{counted}
use Rattle.refusals.specs.declared.Refusal.TheVariants.{LineByte, FixedBit}
use Rattle.reading.specs.Form.{either, form, fits}
use Rattle.reading.specs.Scan.{long_in, dlc_in, crc_start, stuff_due, must_be, slot_right, Verdict, shown, verdict, run_with, frame_with, onward, scan, scanned}
use Rattle.reading.specs.declared.Reading.{Reading}
use Rattle.reading.proofs.Partial.{must-early}
use Rattle.reading.proofs.StuffDue.{due-within}
use Rattle.reading.proofs.Verdicts.{byte-above-1, fixed-bit, frame-bit}
use Rattle.refusals.specs.declared.Refusal.{Refusal}
use Rattle.scanning.specs.Steps.{bit_at, one_on, Stopped}
use Rattle.scanning.specs.declared.seen.Seen.{Seen}
use Rattle.scanning.proofs.Positions.{form-from, ending-from}
use Rattle.scanning.proofs.Known.{behind-the-crc}
use Rattle.scanning.proofs.Keeping.{bytes, pending, Told, Formed, formed-more, Within}
use Rattle.scanning.proofs.Passing.{went}
use Rattle.scanning.proofs.Registers.{Registers, bit_added, ending-added, longer, dlc-known}
use Rattle.scanning.proofs.RawBits.{Tells, told_more}
use Rattle.scanning.proofs.Shown.{shown-inside}
use Rattle.scanning.proofs.InRow.{begun, leads, within-crc}

-- what a step in row f leads to
abbrev pub Goes : Reading → List ℕ → ℕ → Bool → Seen → Result Seen Refusal → Type 0
Goes reading line f long seen (Ok next) =
    (run : Run) × (left : ℕ) × (frame : List ℕ) × Within reading line f long next run left frame × Told next run frame
    × (seen.place < length line) × (seen.place < next.place) × (next.header ≡ seen.header)
Goes reading line f long seen (Err refusal) = Stopped (scanned reading line) refusal

counted-some : (run : Run) (b : ℕ) → counted run b ≡ 0 → ⊥
counted-some run b = go (eqb b run.bit)
  where
    go : (t : Bool) → cond t (run.count + 1) 1 ≡ 0 → ⊥
    go true e = omega arith
    go false e = omega arith

-- start of frame must be 0
must-first : (frame : List ℕ) → length frame ≡ 0 → must_be frame ≡ 0
unfolding must_be
must-first frame e =
    ap (λ (k : ℕ). get_or (form (long_in frame) (dlc_in frame)) k either) e ∙ must-early (long_in frame) (dlc_in frame) 0 (lit< tt)

module _ {reading : Reading} {line : List ℕ} {f : ℕ} {long : Bool} {seen : Seen} {run : Run} {left : ℕ} {frame : List ℕ} (h : f < 10)
    (w : Within reading line f long seen run left frame) (some : 0 < left) (inside : seen.place < length line)
    (due : stuff_due run frame ≡ false) where
  abbrev b : ℕ
  b = bit_at line seen

  -- the bits with this one
  abbrev more : List ℕ
  more = frame ++ (b ∷ [])

  pub goes : (v : Verdict) → verdict reading run frame seen.place b ≡ v
      → scanned reading line ≡ onward seen.place v (scan reading (run_with run b) (frame_with run frame b) (seen.place + 1) (drop (seen.place + 1) line))
  goes = went reading line seen run frame (leads w h some) (begun w h some) inside

  -- a byte that is no bit
  pub byte-goes : 1 < b → Goes reading line f long seen (Err (LineByte seen.place))
  byte-goes d = (seen.place, goes _ (byte-above-1 reading run frame seen.place b (begun w h some) d))

  module _ (bit : b ≤ 1) where
    pub added : f ≤ 6 → Registers f seen.header seen.field (seen.number * 2 + b) more
    added g = bit_added b (omega arith) g w.registers

    -- behind the CRC
    pub added-late : 6 < f → Registers f seen.header seen.field seen.number more
    added-late g = ending-added b g w.registers

    -- the form stays
    pub formed-on : 1 < f → Formed long more
    formed-on g = formed-more long frame (b ∷ []) (omega (arith, w.from, form-from long (bytes seen) f g)) (w.formed g)

    -- a bit that may not stand there
    pub fixed_goes : fits (must_be frame) b ≡ false → Goes reading line f long seen (Err (FixedBit seen.place))
    fixed_goes d = (seen.place, goes _ (fixed-bit reading run frame seen.place b (begun w h some) bit due d))

    -- and one that may
    module _ (may : fits (must_be frame) b ≡ true) where
      pub bit-shown : verdict reading run frame seen.place b ≡ shown reading (run_with run b) more seen.place
      bit-shown = frame-bit reading run frame seen.place b (begun w h some) bit due may

      pub told-on : f ≤ 7 → Tells seen.raw run → Tells (seen.raw * 2 % 2 ^ 64 + b) (run_with run b)
      told-on g tells = told_more seen.raw b run (omega arith) (λ e. zero_bit (must-first frame (w.fresh e))) not_five tells
        where
          zero_bit : must_be frame ≡ 0 → b ≡ 0
          zero_bit e = sym (eqb-true 0 b (rw e at may))

          not_five : run.count ≡ 5 → ⊥
          not_five = eqb-false _ _ (sym (due-within run frame (within-crc w h some g)) ∙ due)

      -- behind the CRC nothing is told any more
      pub untold : (raw : ℕ) → 6 < f → length more ≤ crc_start more + 15 → Tells raw (run_with run b)
      untold raw g few =
          let over =
          behind-the-crc f long (bytes seen) more (λ i. (formed-on i).form-is) (dlc-known (added-late g))
          (omega (arith, ending-from long (bytes seen) f g, w.from, longer frame b)) g in
          absurd (omega arith)

      -- behind the row's last bit what the frame shows is left for later; before that it shows nothing
      pending-is : (number : ℕ) → Registers f seen.header seen.field number more
          → pending reading (run_with run b) (left - 1) more (seen.place + 1) ≡ shown reading (run_with run b) more seen.place
      pending-is number registers = go (left - 1) refl
        where
          go : (k : ℕ) → left - 1 ≡ k → pending reading (run_with run b) k more (seen.place + 1) ≡ shown reading (run_with run b) more seen.place
          go zero d = ap (shown reading (run_with run b) more) (omega arith)
          go (suc k) d =
              sym (shown-inside reading (run_with run b) f long (bytes seen) more seen.place (omega (arith, w.from, longer frame b))
              (omega (arith, w.at-is, longer frame b)) (λ g. (formed-on g).form-is) (dlc-known registers))

      -- whatever raw bits and number are kept of it
      pub right-goes : (raw number : ℕ) → Registers f seen.header seen.field number more
          → Told (one_on raw number seen) (run_with run b) more → (f ≡ 8 → slot_right reading more ≡ true)
          → Goes reading line f long seen (Ok (one_on raw number seen))
      unfolding run_with frame_with
      right-goes raw number registers told slot =
          let back : seen.place + 1 - 1 ≡ seen.place = omega arith in
          let within : Within reading line f long (one_on raw number seen) (run_with run b) (left - 1) more =
          record {
            leads = rw (pending-is number registers, back) (goes _ bit-shown ∙ rw due refl);
            end_is = omega (arith, w.end_is);
            stop_is = w.stop_is;
            at-is = omega (arith, w.at-is, longer frame b);
            from = omega (arith, w.from, longer frame b);
            formed = formed-on;
            registers = registers;
            slot = λ i z. slot i;
            fresh = λ e. absurd (counted-some run b e);
            reached = omega (arith, inside);
            behind = omega (arith, w.behind, longer frame b);
          } in
          (run_with run b, left - 1, more, within, told, inside, omega arith, refl)
