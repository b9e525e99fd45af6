-- `decoding::reading::body` meets its contract. Assumes nothing.
use mathlib.Core.Path.{◌≡◌, refl, sym, ap, ap₂, ◌∙◌}
use mathlib.Core.Bool.{Bool}
use mathlib.Core.List.{[], ◌∷◌, map}
use Prim.Native.Nat.{ℕ, ◌+◌, ◌*◌, ◌-◌, ◌/◌, ◌%◌, ◌^◌, ◌≤◌, ◌<◌}
use native.Mathlib.Nat.{sub-zero, pow-le-pow_right}
use native.Mathlib.Omega.{arith}
use borrow.Author.Tests.{eq-eqb, ne_eqb}
use lib.Dec.{lit<, eqb}
use lib.ListN.{length, length-map}
use lib.Pow.{pow-add}
use Rattle.std.proofs.Common.{Ok, Err}
use Rattle.bits.specs.Rows.{bits, number}
use Rattle.bits.specs.Packing.{unpacked, packed}
use Rattle.bits.proofs.Packing.{packed-length, packed-next, number-unpacked}
use Rattle.words.specs.Symbols.{symbol_of, byte}
use Rattle.words.proofs.Symbols.{word-only, carried-byte}
use Rattle.field.proofs.PaddingBits.{padding_number-is}
use Rattle.decoding.specs.Decode.{byte_of, padding_answer}
use Rattle.decoding.specs.Reading.{padded}
use Rattle.decoding.proofs.Leads.{Leads, stops}
use Rattle.decoding.proofs.reading.body.Goals as goal
use Rattle.decoding.proofs.reading.body.Goals.{After-carried, In-Some, After-number_of}

-- a number of i bytes leaves room for one more
room : (i : ℕ) → i < 7 → 256 ^ i ≤ 256 ^ 6
room i h = pow-le-pow_right {n = 256} (lit< tt) {j = 6} (omega arith)

-- the words that are left, the first of them that which a turn reads
left : (c : After-carried) →
    let turn = c.loop-i in
    let behind = c.args.size - (turn.i + 1) in
    Leads c.args.number c.args.size c.args.count turn.i turn.payload
    (symbol_of c.nine_at-nine.result ∷ map symbol_of (packed 9 behind (bits (9 * behind + c.args.count) c.args.number)))
left c =
    let turn = c.loop-i in
    let v = c.args.number in
    let at = 9 * (c.args.size - turn.i) + c.args.count in
    let lower = 9 * (c.args.size - (turn.i + 1)) + c.args.count in
    let down : at - 9 ≡ lower = omega arith in
    let shift : 9 * (c.args.size - 1 - turn.i) + c.args.count ≡ lower = omega arith in
    let nine : c.nine_at-nine.result ≡ v / 2 ^ lower % 2 ^ 9 = c.nine_at-nine.ensures ∙ ap (λ (k : ℕ). v / 2 ^ k % 2 ^ 9) shift in
    rw nine (rw (packed-next 9 c.args.size turn.i at v (omega arith) (omega arith), down) at turn.invariant.leads)

-- it stands for a byte
carries : (c : In-Some) → symbol_of c.nine_at-nine.result ≡ byte c.in-Some.byte
carries c = carried-byte _ _ (sym c.carried.ensures ∙ c.in-Some.is)

below : (c : In-Some) → c.in-Some.byte < 256
below c = (word-only _ _ (carries c)).1

-- none are left
end : (c : After-number_of) →
    let turn = c.loop-i in
    Leads c.args.number c.args.size c.args.count turn.i turn.payload []
unfolding packed
end c =
    let none : c.args.size - c.loop-i.i ≡ 0 = omega arith in
    rw none at c.loop-i.invariant.leads

-- the padding's test, as the code makes it
right : (c : After-number_of) → eqb c.lowest.result c.number_of.result ≡ padded c.args.count c.args.number
right c = ap₂ eqb c.lowest.ensures (c.number_of.ensures ∙ padding_number-is 0 _ (lit< tt) (omega arith))

pub loop-i-init : goal.loop-i-init
loop-i-init c = record { few = lit< tt; leads = rw sub-zero (record { to-answer = refl; to-payload = refl }) }

pub returns-in_default : goal.returns-in_default
returns-in_default c =
    stops _ (sym c.carried.ensures ∙ c.in_default.is) (left (goal.at.returns-in_default c).After-carried) ∙ ap Err (sym c.no_byte.ensures)

pub overflow_mul-payload : goal.overflow_mul-payload
overflow_mul-payload c = omega (arith, room c.loop-i.i (omega arith))

pub overflow_add-payload : goal.overflow_add-payload
overflow_add-payload c = omega (arith, below (goal.at.overflow_add-payload c).In-Some, room c.loop-i.i (omega arith))

pub loop-i-preserved : goal.loop-i-preserved
loop-i-preserved c =
    let turn = c.loop-i in
    let read = (goal.at.loop-i-preserved c).In-Some in
    let less = below read in
    let before = rw (carries read) at (left (goal.at.loop-i-preserved c).After-carried) in record {
      few = omega (arith, pow-add 256 turn.i 1, less);
      leads = record { to-answer = before.to-answer; to-payload = sym (number-unpacked 8 turn.payload _ _ less) ∙ before.to-payload };
    }

pub returns-then-lowest-number_of : goal.returns-then-lowest-number_of
returns-then-lowest-number_of c =
    let after-number_of = (goal.at.returns-then-lowest-number_of c).After-number_of in
    let size = c.args.size in
    sym (end after-number_of).to-answer
    ∙ ap (λ (t : Bool). padding_answer t size) (sym (right after-number_of) ∙ ne_eqb _ _ c.if-lowest-number_of.true)

pub returns : goal.returns
unfolding number unpacked
returns c =
    let after-number_of = (goal.at.returns c).After-number_of in
    let all = packed 9 c.args.size (bits (9 * c.args.size + c.args.count) c.args.number) in
    let long : length (map byte_of (map symbol_of all)) ≡ c.args.size
    = length-map (map symbol_of all) byte_of ∙ length-map all symbol_of ∙ packed-length 9 c.args.size _ in (
      sym (end after-number_of).to-answer
          ∙ ap (λ (t : Bool). padding_answer t c.args.size) (sym (right after-number_of) ∙ eq-eqb _ _ c.if-lowest-number_of.false)
          ∙ ap Ok (sym long),
      (end after-number_of).to-payload,
    )
