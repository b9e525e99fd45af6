-- `field::encoding::with_words` meets its contract. Assumes nothing.
use mathlib.Core.Path.{◌≡◌, refl, sym, ◌∙◌}
use Prim.Native.Nat.{ℕ, ◌^◌, ◌≤◌, ◌<◌}
use native.Mathlib.Nat.{pow-le-pow_right}
use native.Mathlib.Numerals.{add-one}
use native.Mathlib.Omega.{arith}
use lib.Dec.{lit<}
use lib.ListN.{length, get_or}
use lib.Pow.{pow-add}
use lib.Seq.{drop-cons, drop-length}
use Rattle.bits.specs.Rows.{number}
use Rattle.bits.specs.Packing.{unpacked}
use Rattle.bits.proofs.Packing.{number-unpacked}
use Rattle.words.specs.Words.{word_of}
use Rattle.words.proofs.Words.{word_below}
use Rattle.field.proofs.encoding.with_words.Goals as goal
use Rattle.field.proofs.encoding.with_words.Goals.{After-word}
use Rattle.field.proofs.encoding.with_words.Given.{Over}

-- a number of 1 + 9 i bits leaves room for a word more
room : (i : ℕ) → i < 7 → 512 ^ i ≤ 512 ^ 6
room i h = pow-le-pow_right {n = 512} (lit< tt) {j = 6} (omega arith)

byte : (g : Over) (c : After-word g) → get_or c.args.payload.now c.loop-i.i 0 < 256
byte g c = omega (arith, c.type_inv.payload c.loop-i.i)

word : (g : Over) (c : After-word g) → c.word.result ≡ word_of (get_or c.args.payload.now c.loop-i.i 0)
word g c = c.word.ensures

below : (g : Over) (c : After-word g) → c.word.result < 512
below g c = rw (word g c) (word_below _ (byte g c))

pub loop-i-init : goal.loop-i-init
loop-i-init g c = record { left = refl; few = omega arith }

pub overflow_mul-number : goal.overflow_mul-number
overflow_mul-number g c = omega (arith, room c.loop-i.i (omega arith))

pub overflow_add-number : goal.overflow_add-number
overflow_add-number g c = omega (arith, below g (goal.at.overflow_add-number g c).After-word, room c.loop-i.i (omega arith))

pub loop-i-preserved : goal.loop-i-preserved
loop-i-preserved g c =
    let after-word = (goal.at.loop-i-preserved g c).After-word in
    let i = c.loop-i.i in record {
      left = rw (word g after-word, add-one)
          (sym (number-unpacked 9 c.loop-i.number _ _ (word_below _ (byte g after-word)))
          ∙ rw (drop-cons {A = ℕ} c.args.payload.now i 0 (omega (arith, c.requires.1))) at c.loop-i.invariant.left);
      few = omega (arith, below g after-word, pow-add 512 i 1);
    }

pub returns : goal.returns
unfolding number unpacked
returns g c =
    let e : c.loop-i.i ≡ length c.args.payload.now = omega arith in
    rw (e, drop-length) at c.loop-i.invariant.left
