-- `scanning::walk::along` meets its contract: what is left of the line leads to the answer of the whole. Assumes nothing.
use mathlib.Core.Path.{◌≡◌, sym, ap, ◌∙◌}
use mathlib.Core.Bool.{Bool, false}
use mathlib.Core.List.{List, []}
use Prim.Native.Nat.{ℕ, ◌%◌}
use native.Mathlib.Omega.{arith}
use Rattle.std.proofs.Common.{Result}
use Rattle.bits.specs.Stuffing.{nothing_sent}
use Rattle.refusals.specs.declared.Refusal.{Refusal}
use Rattle.reading.specs.declared.Reading.{Reading}
use Rattle.reading.proofs.Partial.{width-most}
use Rattle.scanning.specs.Rows.{fields_of, field_at}
use Rattle.scanning.specs.Steps.{line_bit, field_end}
use Rattle.scanning.specs.declared.fields.Field.{Field}
use Rattle.scanning.specs.declared.seen.Seen.{Seen}
use Rattle.scanning.proofs.Positions.{width_at, end_of, end_is, next_start, form-start, end-some, end-within}
use Rattle.scanning.proofs.Rows.{most_at, most-bit}
use Rattle.scanning.proofs.Listed.{Telling, width-listed, most-listed, ruled, telling, form-row}
use Rattle.scanning.proofs.Keeping.{bytes, end-near}
use Rattle.scanning.proofs.InRow.{number_small}
use Rattle.scanning.proofs.FrameBit.{Goes}
use Rattle.scanning.proofs.NextBit.{bit-goes}
use Rattle.scanning.proofs.FieldBegins.{line-begins, field-begins}
use Rattle.scanning.proofs.RowEnd.{Ends}
use Rattle.scanning.proofs.FieldEnds.{field-ends}
use Rattle.scanning.proofs.LineEnds.{line-longer, line_read}
use Rattle.scanning.proofs.Widths.{long_behind, fields-end}
use Rattle.scanning.proofs.walk.along.Goals as goal
use Rattle.scanning.proofs.walk.along.Goals.{After-judge, After-next}

width_is : (reading : Reading) (long : Bool) (n i : ℕ) {fields : List Field} → fields ≡ fields_of reading long n → (field_at fields i).width ≡ width_at i long n
width_is reading long n i e = rw e (width-listed reading long n i)

most_is : (reading : Reading) (long : Bool) (n i : ℕ) {fields : List Field} → fields ≡ fields_of reading long n → (field_at fields i).most ≡ most_at reading i
most_is reading long n i e = rw e (most-listed reading long n i)

pub loop-i-init : goal.loop-i-init
loop-i-init c = (false, [], nothing_sent, line-begins _ _, c.of-fields.ensures)

pub overflow_add-seen : goal.overflow_add-seen
overflow_add-seen c =
    let l = c.loop-i in
    let n = bytes l.seen in
    let long = l.invariant.0 in
    omega (
      arith,
      width_is _ long n l.i l.invariant.4,
      end_is long n l.i,
      end-within long n l.i c.loop-i-test.true,
      width-most long,
      l.invariant.3.reached,
      c.well_formed,
    )

pub loop-seen-init : goal.loop-seen-init
loop-seen-init c =
    let l = c.loop-i in
    let h = c.loop-i-test.true in
    let known = l.invariant in
    let within = field-begins _ _ l.i known.0 l.seen known.2 known.1 _ h (width_is _ known.0 (bytes l.seen) l.i known.4) known.3 in
    (h, (known.0, known.1, known.2, (field_at l.fields l.i).width, rw c.least.ensures within, known.3.told, known.4))

-- in the inner loop: a bit is there, with room for it
pub invariant_of-reader : goal.invariant_of-reader
invariant_of-reader c =
    let l = c.loop-seen in
    let known = l.invariant.1 in
    let w = known.4 in
    let near = end-near _ _ c.loop-i.i known.0 l.seen known.2 known.3 known.1 l.invariant.0 w in record {
      inside = omega (arith, w.stop_is);
      near = omega (arith, near);
      room = number_small w l.invariant.0 (omega (arith, w.end_is, w.stop_is));
    }

pub next-requires : goal.next-requires
next-requires c =
    let l = c.loop-seen in
    let i = c.loop-i.i in
    let known = l.invariant.1 in
    omega (arith, most_is _ known.0 (bytes l.seen) i known.6, most-bit c.args.reading i l.invariant.0)

-- what the bit leads to
goes : (c : After-next) (r : Result Seen Refusal) →
    let field = field_at c.loop-i.fields c.loop-i.i in
    r ≡ line_bit field.rule field.most c.args.line.now c.loop-seen.seen
    → Goes c.args.reading c.args.line.now c.loop-i.i c.loop-seen.invariant.1.0 c.loop-seen.seen r
goes c r is =
    let l = c.loop-seen in
    let i = c.loop-i.i in
    let h = l.invariant.0 in
    let known = l.invariant.1 in
    let n = bytes l.seen in
    rw is (bit-goes h known.4 known.5 c.loop-seen-test.true _ (most_is _ known.0 n i known.6) (rw known.6 (ruled c.args.reading known.0 n i h)))

pub loop-seen-smaller : goal.loop-seen-smaller
loop-seen-smaller c =
    let next = goes (goal.at.loop-seen-smaller c).After-next _ c.in-Ok.ensures in
    omega (arith, next.5, next.6)

pub loop-seen-preserved : goal.loop-seen-preserved
loop-seen-preserved c =
    let next = goes (goal.at.loop-seen-preserved c).After-next _ c.in-Ok.ensures in
    let inv = c.loop-seen.invariant in
    let long = inv.1.0 in
    let same = ap (λ (k : ℕ). fields_of c.args.reading long (k % 16)) (sym next.7) in
    (inv.0, (long, next.2, next.0, next.1, next.3, next.4, inv.1.6 ∙ same))

pub judge-requires : goal.judge-requires
judge-requires c =
    let l = c.loop-seen in
    let i = c.loop-i.i in
    let known = l.invariant.1 in
    let long = known.0 in
    let w = known.4 in
    let n = bytes l.seen in
    let tells : Telling i (field_at c.loop-i.fields i).last = rw known.6 (telling c.args.reading long n i l.invariant.0) in (
      omega (arith, w.behind, w.at-is, w.end_is, end-some long n i),
      λ form. omega (arith, w.behind, w.at-is, w.end_is, ap (λ (k : ℕ). end_of k long n) (form-row tells form), next_start long n 1, form-start long n),
    )

-- what the end of the row leads to
ends : (c : After-judge) (r : Result Seen Refusal) →
    let inv = c.loop-seen.invariant.1 in
    let last = (field_at c.loop-i.fields c.loop-i.i).last in
    r ≡ field_end last c.loop-seen.seen
    → Ends c.args.reading c.args.line.now c.loop-i.i (long_behind last inv.0 c.loop-seen.seen) inv.2 inv.1 r
ends c r is =
    let l = c.loop-seen in
    let i = c.loop-i.i in
    let h = l.invariant.0 in
    let known = l.invariant.1 in
    rw is (field-ends h known.4 known.5 c.loop-seen-test.false (rw known.6 (telling c.args.reading known.0 (bytes l.seen) i h)))

pub loop-i-preserved : goal.loop-i-preserved
loop-i-preserved c =
    let l = c.loop-seen in
    let known = l.invariant.1 in
    let next = c.in-Ok-judge.ensures in (
      _,
      known.1,
      known.2,
      ends (goal.at.loop-i-preserved c).After-judge _ next.answer,
      next.memory ∙ fields-end _ known.0 l.seen _ _ known.6 _ (sym next.answer),
    )

pub returns-then-seen-line : goal.returns-then-seen-line
returns-then-seen-line c =
    let l = c.loop-i in
    let known = l.invariant in
    let all : l.i ≡ 10 = omega arith in
    line-longer _ _ known.0 l.seen known.2 known.1 (rw all at known.3) c.if-seen-line.true

pub returns-else-seen-line : goal.returns-else-seen-line
returns-else-seen-line c =
    let l = c.loop-i in
    let known = l.invariant in
    let all : l.i ≡ 10 = omega arith in
    line_read _ _ known.0 l.seen known.2 known.1 (rw all at known.3) c.if-seen-line.false

pub returns-in-Err : goal.returns-in-Err
returns-in-Err c = goes (goal.at.returns-in-Err c).After-next _ c.in-Err.ensures

pub returns-in-Err-judge : goal.returns-in-Err-judge
returns-in-Err-judge c = ends (goal.at.returns-in-Err-judge c).After-judge _ c.in-Err-judge.ensures.answer
