-- The fields as the code has them while a line is read. Assumes nothing.
--     long_behind    the form behind a field: IDE tells it
--     fields-end    where reading stops in a field, they are those of the frame: IDE tells the widths of the header, the DLC those of the data
use mathlib.Core.Path.{◌≡◌, refl, sym, ap, ◌∙◌}
use mathlib.Core.Bool.{Bool, true, false, cond, ◌||◌}
use mathlib.Core.List.{List, ◌++◌}
use Prim.Native.Nat.{ℕ, zero, suc, ◌+◌, ◌-◌, ◌*◌, ◌%◌, ◌<◌}
use native.Mathlib.Omega.{arith}
use lib.Dec.{eqb, ltb}
use Rattle.std.proofs.Common.{Result, Ok, Err}
use Rattle.bits.specs.Rows.{bits}
use Rattle.reading.specs.declared.Reading.{Reading}
use Rattle.refusals.specs.declared.Refusal.{Refusal}
use Rattle.refusals.specs.declared.Refusal.TheVariants.{FieldLength, LineLength, Crc, FixedBit}
use Rattle.crc.specs.Crc.{crc}
use Rattle.crc.specs.Dlc.{data_bytes}
use Rattle.scanning.specs.Steps.{twice, form_read, form_fields, header_read, field_read, crc_read, last_told, fields_told, field_end, fields_end}
use Rattle.scanning.specs.Rows.{fields_of, with_width}
use Rattle.scanning.specs.declared.fields.Field.{Field}
use Rattle.scanning.specs.declared.fields.Last.{Last}
use Rattle.scanning.specs.declared.fields.Last.TheVariants.{Nothing, Form, Header, Data, Check}
use Rattle.scanning.specs.declared.seen.Seen.{Seen}
use Rattle.scanning.proofs.Keeping.{bytes}

-- the form behind a field that tells this, once its last bit is read
abbrev pub long_behind : Last → Bool → Seen → Bool
long_behind Nothing long seen = long
long_behind Form long seen = eqb (seen.number % 2) 1
long_behind Header long seen = long
long_behind Data long seen = long
long_behind Check long seen = long

module _ (reading : Reading) (long : Bool) (seen next : Seen) (fields : List Field) (w : fields ≡ fields_of reading long (bytes seen)) where
  no-next : {A : Type 0} (refusal : Refusal) → ◌≡◌ {A = Result Seen Refusal} (Err refusal) (Ok next) → A
  no-next refusal e = let z : ◌≡◌ {A = ℕ} 0 1 = cc in absurd (omega arith)

  -- a header that stays as it was
  stay : (s : Seen) → s.header ≡ seen.header → ◌≡◌ {A = Result Seen Refusal} (Ok s) (Ok next) → fields ≡ fields_of reading long (bytes next)
  stay s h e =
      let is : s ≡ next = cc in
      w ∙ ap (λ (k : ℕ). fields_of reading long (k % 16)) (sym h ∙ ap (λ (x : Seen). x.header) is)

  header-widths : header_read seen ≡ Ok next → with_width 5 (8 * (seen.number % 16)) fields ≡ fields_of reading long (bytes next)
  unfolding header_read fields_of
  header-widths e = go (eqb (seen.number % 16) 1 || ltb 8 (seen.number % 16)) e
    where
      whole : Seen
      whole =
          record {
            stop = seen.stop;
            end = seen.end;
            place = seen.place;
            raw = seen.raw;
            number = 0;
            header = seen.number;
            field = seen.field;
          }

      go : (t : Bool) → cond t (Err (FieldLength (seen.place - 1))) (Ok whole) ≡ Ok next
          → with_width 5 (8 * (seen.number % 16)) fields ≡ fields_of reading long (bytes next)
      go true d = no-next _ d
      go false d =
          let is : whole ≡ next = cc in
          ap (with_width 5 (8 * (seen.number % 16))) w ∙ ap (λ (x : Seen). fields_of reading long (bytes x)) is

  check-widths : crc_read seen ≡ Ok next → fields ≡ fields_of reading long (bytes next)
  unfolding crc_read
  check-widths e = go (eqb seen.number (crc (bits 39 seen.header ++ bits (8 * data_bytes (bytes seen)) seen.field))) e
    where
      go : (t : Bool) → cond t (Ok seen) (Err (Crc (seen.place - 1))) ≡ Ok next → fields ≡ fields_of reading long (bytes next)
      go true d = stay seen refl d
      go false d = no-next _ d

  -- a bit before IDE that is right
  form-next : form_read seen ≡ Ok next → next ≡ seen
  unfolding form_read
  form-next e = go (twice seen.number) (twice seen.raw) e
    where
      go : (t u : Bool) → cond t (Ok seen) (cond u (Err (FixedBit (seen.place - 3))) (Err (FixedBit (seen.place - 2)))) ≡ Ok next
          → next ≡ seen
      go true u d = cc
      go false true d = no-next _ d
      go false false d = no-next _ d

  form-widths : form_read seen ≡ Ok next → form_fields seen fields ≡ fields_of reading (eqb (seen.number % 2) 1) (bytes next)
  unfolding fields_of
  form-widths e = go (seen.number % 2) (omega arith)
    where
      same : fields ≡ fields_of reading long (bytes next)
      same = w ∙ ap (λ (x : Seen). fields_of reading long (bytes x)) (sym (form-next e))

      go : (ide : ℕ) → ide < 2 → with_width 3 (1 + 2 * ide) (with_width 2 (18 * ide) fields) ≡ fields_of reading (eqb ide 1) (bytes next)
      go zero h = ap (λ (l : List Field). with_width 3 1 (with_width 2 0 l)) same
      go (suc zero) h = ap (λ (l : List Field). with_width 3 3 (with_width 2 18 l)) same
      go (suc (suc ide)) h = absurd (omega arith)

  fields-told : (last : Last) → last_told last seen ≡ Ok next → fields_told last seen fields ≡ fields_of reading (long_behind last long seen) (bytes next)
  unfolding field_read
  fields-told Nothing d = stay seen refl d
  fields-told Form d = form-widths d
  fields-told Header d = header-widths d
  fields-told Data d = stay _ refl d
  fields-told Check d = check-widths d

  pub fields-end : (last : Last) → field_end last seen ≡ Ok next → fields_end last seen fields ≡ fields_of reading (long_behind last long seen) (bytes next)
  unfolding field_end fields_end
  fields-end last e = go (ltb seen.place seen.end) e
    where
      go : (t : Bool) → cond t (Err (LineLength seen.place)) (last_told last seen) ≡ Ok next
          → cond t fields (fields_told last seen fields) ≡ fields_of reading (long_behind last long seen) (bytes next)
      go true d = no-next _ d
      go false d = fields-told last d
