-- `frame::frame_bounds` meets its contract: the tests decide the refusals, the table and the header's stuff bits the bounds.
-- Assumes nothing.
use mathlib.Core.Path.{◌≡◌, sym, ap, ◌∙◌, subst}
use Prim.Native.Nat.{ℕ, ◌+◌, ◌*◌, ◌≤◌}
use native.Mathlib.Omega.{arith}
use lib.ListN.{length}
use Rattle.bits.specs.Stuffing.{nothing_sent, stuff_count}
use Rattle.bits.proofs.Rows.{bits-length}
use Rattle.field.specs.Sizes.{field_bytes}
use Rattle.field.specs.declared.table.Row.{Row}
use Rattle.field.proofs.Sizes.{field_bytes-few}
use Rattle.field.proofs.TableRows.{row-bytes}
use Rattle.wire.specs.StuffBits.{header_stuff_bits}
use Rattle.wire.specs.Identifier.{Allowed}
use Rattle.wire.proofs.Identifiers.{told-refused, told-allowed}
use Rattle.wire.proofs.BoundsAnswers.{bounds-identifier, bounds-size-high, bounds-found}
use Rattle.frame.proofs.frame_bounds.Goals as goal
use Rattle.frame.proofs.frame_bounds.Goals.{After-of_header-head, After-row_of-row, Else-is_refused}

pub returns-then-is_refused : goal.returns-then-is_refused
returns-then-is_refused c = sym (bounds-identifier _ _ (told-refused c.args.identifier _ c.is_refused.ensures c.if-is_refused.true))

allowed : (c : Else-is_refused) → Allowed c.args.identifier
allowed c = told-allowed c.args.identifier _ c.is_refused.ensures c.if-is_refused.false

pub returns-then-size-gt7 : goal.returns-then-size-gt7
returns-then-size-gt7 c = sym (bounds-size-high _ _ (allowed (goal.at.returns-then-size-gt7 c).Else-is_refused) c.if-size-gt7.true)

-- the bytes of the row
bytes : (c : After-row_of-row) → c.row_of-row.result.bytes ≡ field_bytes c.args.size
bytes c = ap (λ (r : Row). r.bytes) c.row_of-row.ensures ∙ row-bytes _ (omega arith)

few : (c : After-row_of-row) → c.row_of-row.result.bytes ≤ 8
few c = subst (λ (n : ℕ). n ≤ 8) (sym (bytes c)) (field_bytes-few c.args.size (omega arith))

pub of-header-requires : goal.of-header-requires
of-header-requires c = (allowed (goal.at.of-header-requires c).Else-is_refused, omega (arith, few (goal.at.of-header-requires c).After-row_of-row))

-- the header's stuff bits are no more than its bits
drawn : (c : After-of_header-head) → c.of_header-head.result.drawn ≤ 39
drawn c =
    let h = c.of-header in
    omega (arith, c.of_header-head.ensures.few, bits-length (3 + 4 * h.result.fours) h.result.number, h.result.few)

pub total-least-requires : goal.total-least-requires
total-least-requires c =
    (omega (arith, c.of-header.result.few), few (goal.at.total-least-requires c).After-row_of-row, omega (arith, drawn (goal.at.total-least-requires c).After-of_header-head), omega arith)

pub overflow_add-result : goal.overflow_add-result
overflow_add-result c =
    omega (
      arith,
      few (goal.at.overflow_add-result c).After-row_of-row,
      drawn (goal.at.overflow_add-result c).After-of_header-head,
      c.of-header.result.few,
      c.total-least.ensures,
    )

pub returns : goal.returns
unfolding header_stuff_bits
returns c =
    let h = c.of-header.result in
    let header = c.of-header.ensures.bits_are in
    let least : c.total-least.result ≡ 28 + 4 * h.fours + 8 * c.row_of-row.result.bytes + c.of_header-head.result.drawn = omega (arith, c.total-least.ensures) in
    rw least
    (bounds-found _ _ _ _ _ (allowed (goal.at.returns c).Else-is_refused) (omega arith) (bytes (goal.at.returns c).After-row_of-row)
    (sym (bits-length (3 + 4 * h.fours) h.number) ∙ ap length header)
    (c.of_header-head.ensures.drawn-is ∙ ap (stuff_count nothing_sent) header))
