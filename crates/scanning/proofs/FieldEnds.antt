-- Where reading stops in a row. Assumes nothing.
--     field-ends     to the next one, or the line is refused as the definition says
use mathlib.Core.Path.{◌≡◌, refl, sym, ap, ◌∙◌, subst}
use mathlib.Core.Bool.{Bool, true, false, cond, ◌||◌}
use mathlib.Core.List.{List, ◌++◌}
use Prim.Native.Nat.{ℕ, ◌+◌, ◌-◌, ◌*◌, ◌%◌, ◌≤◌, ◌<◌}
use native.Mathlib.Omega.{arith}
use lib.Dec.{eqb, ltb}
use lib.ListN.{length}
use borrow.Author.Tests.{ltb-true, ltb-false}
use Rattle.std.proofs.Common.{Ok, Err}
use Rattle.bits.specs.Rows.{bits}
use Rattle.bits.specs.declared.Run.{Run}
use Rattle.refusals.specs.declared.Refusal.TheVariants.{FieldLength, LineLength}
use Rattle.crc.specs.Crc.{crc}
use Rattle.crc.specs.Dlc.{data_bytes}
use Rattle.reading.specs.Scan.{long_in, header_width, data_start, dlc_in, crc_start, crc_right, right, shown}
use Rattle.reading.specs.declared.Reading.{Reading}
use Rattle.reading.proofs.Partial.{width-least, start-least}
use Rattle.reading.proofs.Verdicts.{taken-dlc, length-refused, crc-refused, nothing-shown}
use Rattle.scanning.specs.Steps.{holding, header_read, field_read, crc_read, last_told, field_end}
use Rattle.scanning.specs.declared.fields.Last.{Last}
use Rattle.scanning.specs.declared.seen.Seen.{Seen}
use Rattle.scanning.proofs.Positions.{start_of, end_of, next_start, form-start, data-start, crc-start, ending-start}
use Rattle.scanning.proofs.Listed.{Telling, nothing, form, header, data-bits, check}
use Rattle.scanning.proofs.Known.{crc-known}
use Rattle.scanning.proofs.Keeping.{bytes, Told, Within}
use Rattle.scanning.proofs.Widths.{long_behind}
use Rattle.scanning.proofs.Shown.{nothing-behind}
use Rattle.scanning.proofs.HeaderNumber.{dlc-read}
use Rattle.scanning.proofs.Registers.{Registers, in-header, in-data, in-crc, behind, crc-length, header-put, field_put, crc-there}
use Rattle.scanning.proofs.InRow.{form-known, length-known, width-known, row-missing}
use Rattle.scanning.proofs.RowEnd.{Ends, passed_on, at-end, refused, kept}
use Rattle.scanning.proofs.FormEnds.{form-ends}

module _ {reading : Reading} {line : List ℕ} {f : ℕ} {long : Bool} {seen : Seen} {run : Run} {left : ℕ} {frame : List ℕ} (h : f < 10)
    (w : Within reading line f long seen run left frame) (told : Told seen run frame) (z : left ≡ 0) where
  ending : (k : ℕ) → f + 1 ≡ k → end_of f long (bytes seen) ≡ start_of k long (bytes seen)
  ending k e = next_start long (bytes seen) f ∙ ap (λ (j : ℕ). start_of j long (bytes seen)) e

  nothing-here : (f ≡ 1 → ⊥) → (f ≡ 4 → ⊥) → (f ≡ 6 → ⊥) → shown reading run frame (seen.place - 1) ≡ right
  nothing-here not-ide not-dlc not-crc =
      nothing-behind reading run f long seen.header seen.field seen.number frame (seen.place - 1) h not-ide not-dlc not-crc
      (λ i. w.slot i z) (at-end w told z) w.formed w.registers

  -- a row behind which nothing is looked at
  other-ends : (f ≡ 1 → ⊥) → (f ≡ 4 → ⊥) → (f ≡ 5 → ⊥) → (f ≡ 6 → ⊥) → Ends reading line f long run frame (Ok seen)
  other-ends not-ide not-dlc not-data not-crc =
      kept w told z long seen.number seen.header seen.field (nothing-here not-ide not-dlc not-crc)
      (at-end w told z ∙ next_start long (bytes seen) f) (λ g. w.formed (omega (arith, not-ide)))
      (passed_on not-dlc not-data not-crc w.registers)

  header-ends : f ≡ 4 → end_of f long (bytes seen) ≡ header_width long → Ends reading line f long run frame (header_read seen)
  unfolding header_read
  header-ends i end = read w.registers
    where
      n : ℕ
      n = seen.number

      start : length frame ≡ data_start frame
      start = at-end w told z ∙ end ∙ sym (ap header_width (form-known w (omega arith)))

      late : 14 < length frame
      late = omega (arith, start, width-least (long_in frame))

      read : Registers f seen.header seen.field n frame → Ends reading line f long run frame (header_read seen)
      read (in-header g e l) = go (eqb (n % 16) 1 || ltb 8 (n % 16)) refl
        where
          there : dlc_in frame ≡ n % 16
          there = dlc-read start e l

          go : (t : Bool) → (eqb (n % 16) 1 || ltb 8 (n % 16)) ≡ t
              → Ends reading line f long run frame (cond t (Err (FieldLength (seen.place - 1))) (Ok (holding 0 n seen.field seen)))
          go true d = refused w told z _ (length-refused reading run frame (seen.place - 1) late start (rw there d))
          go false d =
              let taken = taken-dlc frame (rw there d) in
              let most = (start-least frame).1 in
              let next : f + 1 ≡ 5 = omega arith in
              kept w told z long 0 n seen.field
              (nothing-shown reading run frame (seen.place - 1) (λ x. absurd (omega (arith, late))) (λ x. rw there d)
              (λ x. absurd (omega (arith, start, most))) (λ x. absurd (omega (arith, start, most))))
              (at-end w told z ∙ end ∙ sym (ap (λ (k : ℕ). start_of k long (n % 16)) next ∙ data-start long (n % 16)))
              (λ x. w.formed (omega arith))
              (subst (λ (k : ℕ). Registers k n seen.field 0 frame) (sym next)
              (header-put start e l seen.field (λ one. taken.0 (there ∙ one)) (omega (arith, taken.1, there))))
      read (in-data k g fine e l) = absurd (omega arith)
      read (in-crc k g put e l) = absurd (omega arith)
      read (behind m g put e l) = absurd (omega arith)

  data-ends : f ≡ 5 → end_of f long (bytes seen) ≡ header_width long + 8 * bytes seen → Ends reading line f long run frame (field_read seen)
  unfolding field_read
  data-ends i end = read w.registers
    where
      next : f + 1 ≡ 6
      next = omega arith

      read : Registers f seen.header seen.field seen.number frame → Ends reading line f long run frame (field_read seen)
      read (in-header g e l) = absurd (omega arith)
      read (in-data k g fine e l) =
          kept w told z long 0 seen.header seen.number (nothing-here (λ d. omega arith) (λ d. omega arith) (λ d. omega arith))
          (at-end w told z ∙ next_start long (bytes seen) f) (λ x. w.formed (omega arith))
          (subst (λ (k : ℕ). Registers k seen.header seen.number 0 frame) (sym next)
          (field_put seen.header seen.number k frame (omega (arith, at-end w told z, end, width-known w (omega arith))) fine e l))
      read (in-crc k g put e l) = absurd (omega arith)
      read (behind m g put e l) = absurd (omega arith)

  crc-ends : f ≡ 6 → end_of f long (bytes seen) ≡ header_width long + 8 * bytes seen + 15 → Ends reading line f long run frame (crc_read seen)
  unfolding crc_read
  crc-ends i end = read w.registers
    where
      start : crc_start frame ≡ header_width long + 8 * bytes seen
      start = crc-known f long (bytes seen) frame (form-known w) (length-known w) (omega arith)

      last : length frame ≡ crc_start frame + 15
      last = omega (arith, at-end w told z, end, start)

      late : 14 < length frame
      late = omega (arith, last, (start-least frame).0)

      read : Registers f seen.header seen.field seen.number frame → Ends reading line f long run frame (crc_read seen)
      read (in-header g e l) = absurd (omega arith)
      read (in-data k g fine e l) = absurd (omega arith)
      read (behind m g put e l) = absurd (omega arith)
      read (in-crc k g put e l) = go (crc_right frame) refl
        where
          there : crc_right frame ≡ eqb seen.number (crc (bits 39 seen.header ++ bits (8 * data_bytes (bytes seen)) seen.field))
          there = crc-there seen.header seen.field seen.number k frame put.fine e l

          fifteen : k ≡ 15
          fifteen =
              omega (arith, at-end w told z, end, width-known w (omega arith), crc-length seen.header seen.field seen.number k frame e)

          go : (t : Bool) → crc_right frame ≡ t → Ends reading line f long run frame (crc_read seen)
          go true d =
              rw (sym there ∙ d)
              (kept w told z long seen.number seen.header seen.field
              (nothing-shown reading run frame (seen.place - 1) (λ x. absurd (omega (arith, late)))
              (λ x. absurd (omega (arith, last, (start-least frame).1))) (λ x. d) (λ x. absurd (omega (arith, last))))
              (at-end w told z ∙ next_start long (bytes seen) f) (λ x. w.formed (omega arith))
              (behind (bits k seen.number) (omega arith) put e (rw fifteen at l)))
          go false d = rw (sym there ∙ d) (refused w told z _ (crc-refused reading run frame (seen.place - 1) late last d))

  part-ends : {last : Last} → Telling f last → Ends reading line f (long_behind last long seen) run frame (last_told last seen)
  part-ends (nothing not-ide not-dlc not-data not-crc) = other-ends not-ide not-dlc not-data not-crc
  part-ends (form i) = form-ends w told z i (ending 2 (omega arith) ∙ form-start long (bytes seen))
  part-ends (header i) = header-ends i (ending 5 (omega arith) ∙ data-start long (bytes seen))
  part-ends (data-bits i) = data-ends i (ending 6 (omega arith) ∙ crc-start long (bytes seen))
  part-ends (check i) = crc-ends i (ending 7 (omega arith) ∙ ending-start long (bytes seen))

-- where reading stops in the row
pub field-ends : {reading : Reading} {line : List ℕ} {f : ℕ} {long : Bool} {seen : Seen} {run : Run} {left : ℕ} {frame : List ℕ} {last : Last} → f < 10
    → Within reading line f long seen run left frame → Told seen run frame → seen.stop ≤ seen.place → Telling f last
    → Ends reading line f (long_behind last long seen) run frame (field_end last seen)
unfolding field_end
field-ends {reading} {line} {f} {long} {seen} {run} {left} {frame} {last} h w told over tells = go (ltb seen.place seen.end) refl
  where
    go : (t : Bool) → ltb seen.place seen.end ≡ t
        → Ends reading line f (long_behind last long seen) run frame (cond t (Err (LineLength seen.place)) (last_told last seen))
    go true d =
        let before = ltb-true seen.place seen.end d in
        row-missing w h (omega (arith, w.end_is)) (omega (arith, w.stop_is))
    go false d = part-ends h w told (omega (arith, w.end_is, ltb-false seen.place seen.end d)) tells
