-- `decoding::reading::read` meets its contract: at each return the tests that led there decide the answer. Assumes nothing.
use mathlib.Core.Path.{◌≡◌, sym, ap, ap₂, ◌∙◌}
use mathlib.Core.List.{List}
use Prim.Native.Nat.{ℕ, ◌+◌, ◌*◌, ◌/◌, ◌%◌, ◌^◌, ◌≤◌, ◌<◌}
use native.Mathlib.Numerals.{add-one}
use native.Mathlib.Omega.{arith}
use lib.ListN.{length}
use Rattle.std.proofs.Common.{Err}
use Rattle.bits.specs.Rows.{bits, number}
use Rattle.refusals.specs.declared.Refusal.TheVariants.{BreakBit}
use Rattle.field.specs.Sizes.{field_bytes, break_bit, padding_bits}
use Rattle.field.specs.Coded.{field_from}
use Rattle.field.specs.Table.{row_of}
use Rattle.field.specs.declared.table.Row.{Row}
use Rattle.field.proofs.Sizes.{field_bytes-back, padding_bits-few, body-few}
use Rattle.field.proofs.TableRows.{row_at}
use Rattle.field.proofs.Coded.{from-length, from_bits}
use Rattle.decoding.specs.Parts.{size_of, words_start}
use Rattle.decoding.specs.Decode.{decode_answer}
use Rattle.decoding.proofs.FieldParts.{LengthAllowed, HeldIn, body_bits, highest, break-right, break-wrong}
use Rattle.decoding.proofs.DecodeAnswers.{Begun, decode-short, decode-broken}
use Rattle.decoding.proofs.BodyRead.{body-says}
use Rattle.decoding.proofs.reading.read.Goals as goal
use Rattle.decoding.proofs.reading.read.Goals.{After-row_of-row}

module _ (size v : ℕ) (allowed-size : (0 < size) × (size < 8)) where
  -- the field
  abbrev pub field : List ℕ
  field = field_from (size + 1) v

  long : length field ≡ size + 1
  long = from-length (size + 1) v

  pub size-is : size ≡ size_of field
  size-is = omega (arith, long)

  pub allowed : LengthAllowed field
  allowed = record { not-one = λ e. omega (arith, long, allowed-size.0); at_most = omega (arith, long, allowed-size.1) }

  pub held : HeldIn v field
  held = from_bits (size + 1) v ∙ ap (λ (n : ℕ). bits (8 * n) v) (sym long)

  -- the row's numbers
  module _ (row : Row) (row-is : row ≡ row_of size) where
    pub bit : row.break_bit ≡ number 0 (break_bit (length field))
    bit =
        ap (λ (r : Row). r.break_bit) row-is
        ∙ ap (λ (n : ℕ). number 0 (break_bit n)) (ap field_bytes size-is ∙ field_bytes-back (length field) allowed.not-one)

    pub pad : row.padding ≡ padding_bits (size_of field)
    pad = ap (λ (r : Row). r.padding) row-is ∙ ap padding_bits size-is

    pub pad-few : row.padding ≤ 8
    pad-few = rw pad (padding_bits-few (size_of field))

    -- where they cut the field's bits
    body-bits : 9 * size + row.padding ≡ body_bits field
    body-bits = ap₂ (λ (s p : ℕ). 9 * s + p) size-is pad

    pub body_below : 9 * size + row.padding < 64
    body_below = rw body-bits (body-few _ (omega (arith, long, allowed-size.1)))

    -- what stands in the break bit's place
    module _ (x : ℕ) (read : x ≡ v / 2 ^ (9 * size + row.padding) % 2 ^ 1) where
      high : x ≡ highest field v
      high =
          let one : words_start field ≡ 1 = ap (λ (n : ℕ). length (break_bit n)) (long ∙ add-one size) in
          read ∙ ap₂ (λ (j k : ℕ). v / 2 ^ j % 2 ^ k) body-bits (sym one)

      pub broken : (room : ℕ) → size ≤ room → (x ≡ row.break_bit → ⊥) → decode_answer field room ≡ Err BreakBit
      broken room fits other =
          decode-broken field room allowed (rw (← size-is) fits) (break-wrong field v x row.break_bit allowed held high bit other)

      pub begun : (room : ℕ) → size ≤ room → x ≡ row.break_bit → Begun field room
      begun room fits same = record {
        allowed = allowed;
        fits = rw (← size-is) fits;
        break-is = break-right field v x row.break_bit allowed held high bit same;
      }

row : (c : After-row_of-row) → c.row_of-row.result ≡ row_of c.args.size
row c = c.row_of-row.ensures ∙ row_at (row_of 0) c.args.size c.requires.1

pub returns-then-room-size : goal.returns-then-room-size
returns-then-room-size c =
    decode-short _ _ (allowed c.args.size c.args.number c.requires) (rw (← size-is c.args.size c.args.number c.requires) c.if-room-size.true)

pub overflow_add-size : goal.overflow_add-size
overflow_add-size c =
    omega (arith, body_below c.args.size c.args.number c.requires _ (row (goal.at.overflow_add-size c).After-row_of-row))

pub overflow_shr-number : goal.overflow_shr-number
overflow_shr-number c = body_below c.args.size c.args.number c.requires _ (row (goal.at.overflow_shr-number c).After-row_of-row)

pub returns-then-lowest-row : goal.returns-then-lowest-row
returns-then-lowest-row c =
    let row-is = row (goal.at.returns-then-lowest-row c).After-row_of-row in
    broken c.args.size c.args.number c.requires _ row-is _ c.lowest.ensures _ c.if-room-size.false c.if-lowest-row.true

pub body-requires : goal.body-requires
body-requires c =
    let row-is = row (goal.at.body-requires c).After-row_of-row in
    let v = c.args.number in
    (c.requires.1, pad-few c.args.size v c.requires _ row-is, body_below c.args.size v c.requires _ row-is)

pub returns : goal.returns
returns c =
    let row-is = row (goal.at.returns c).After-row_of-row in
    let size = c.args.size in
    let v = c.args.number in
    body-says _ _ _ _ _ c.body.result
    (begun size v c.requires _ row-is _ c.lowest.ensures _ c.if-room-size.false c.if-lowest-row.false)
    (held size v c.requires) (size-is size v c.requires) (pad size v c.requires _ row-is) c.body.ensures
