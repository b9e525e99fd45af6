-- What scanning a line answered, in the terms of reading it. Assumes nothing.
--     from-held       of a whole frame: decoding the data field of this number decides
--     from-refused    the first problem met is the answer
use mathlib.Core.Path.{◌≡◌, refl, sym, ap, ap₂, ◌∙◌}
use mathlib.Core.List.{List}
use Prim.Native.Nat.{ℕ, ◌*◌, ◌^◌, ◌<◌}
use native.Mathlib.Omega.{arith}
use Rattle.std.proofs.Common.{Ok, Err}
use Rattle.refusals.specs.declared.Refusal.{Refusal}
use Rattle.field.specs.Coded.{field_from}
use Rattle.decoding.specs.Decode.{decode_answer, payload_of}
use Rattle.decoding.specs.Number.{number_answer}
use Rattle.decoding.proofs.NumberAnswers.{number_fits}
use Rattle.wire.specs.declared.Identifier.{Identifier}
use Rattle.reading.specs.Scan.{identifier_in, dlc_in, Scanned, whole, stopped, scanned}
use Rattle.reading.specs.declared.Reading.{Reading}
use Rattle.scanning.specs.Held.{data_in, held_in}
use Rattle.scanning.specs.declared.Held.{Held}
use Rattle.line.specs.Read.{field_in, with_identifier, read_answer, payload_in}
use Rattle.line.proofs.ReadAnswers.{read-stopped, read_whole, payload-whole}
use Rattle.line.proofs.FrameOf.{field-there, data-fits}
use Rattle.line.proofs.RoundTrip.{line-scanned}

module _ (reading : Reading) (line : List ℕ) where
  pub from-held : (h : Held) (room : ℕ) → held_in (scanned reading line) ≡ Ok h
      → (with_identifier h.identifier (number_answer h.field.n h.field.number room) ≡ read_answer reading line room)
      × (payload_of (field_from h.field.n h.field.number) ≡ payload_in reading line)
  from-held h room e = go (scanned reading line) refl e
    where
      go : (s : Scanned) → scanned reading line ≡ s → held_in s ≡ Ok h
          → (with_identifier h.identifier (number_answer h.field.n h.field.number room) ≡ read_answer reading line room)
          × (payload_of (field_from h.field.n h.field.number) ≡ payload_in reading line)
      go (stopped met refusal) p q = let z : ◌≡◌ {A = ℕ} 0 1 = cc in absurd (omega arith)
      go (whole frame) p q =
          let found : Held = record { identifier = identifier_in frame; field = record { n = dlc_in frame; number = data_in frame } } in
          let is : h ≡ found = cc in
          let right = (line-scanned reading line frame p).0 in
          let field : field_from h.field.n h.field.number ≡ field_in frame = rw is (field-there right) in
          let fits : h.field.number < 2 ^ (8 * h.field.n) = rw is (data-fits right) in (
            ap (with_identifier h.identifier) (number_fits h.field.n h.field.number room fits)
                ∙ ap₂ (λ (i : Identifier) (l : List ℕ). with_identifier i (decode_answer l room)) (ap (λ (x : Held). x.identifier) is) field
                ∙ sym (read_whole reading line frame room p),
            ap payload_of field ∙ sym (payload-whole reading line frame p),
          )

  pub from-refused : (room : ℕ) (refusal : Refusal) → held_in (scanned reading line) ≡ Err refusal → read_answer reading line room ≡ Err refusal
  from-refused room refusal e = go (scanned reading line) refl e
    where
      go : (s : Scanned) → scanned reading line ≡ s → held_in s ≡ Err refusal → read_answer reading line room ≡ Err refusal
      go (stopped met r) p q = read-stopped reading line room met r p ∙ ap Err cc
      go (whole frame) p q = let z : ◌≡◌ {A = ℕ} 0 1 = cc in absurd (omega arith)
