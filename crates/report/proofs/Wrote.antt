-- The laws of writing text. Assumes nothing.
--     wrote-behind    two rows are written one behind the other
use Rattle.std.proofs.Common.{ℕ, List, ◌++◌, sym, ◌∙◌, arith, length-append}
use Rattle.bits.proofs.Filling.{sets-append}
use Rattle.report.specs.declared.text.Text.{Text}
use Rattle.report.specs.Writing.{Wrote}

pub wrote-behind : {row more : List ℕ} {first second third : Text} → Wrote row first second → Wrote more second third → Wrote (row ++ more) first third
wrote-behind {row} {more} {first} w v =
    record {
      bytes-are = v.bytes-are ∙ rw (w.bytes-are, w.end-is) (sym (sets-append first.bytes.now first.end row more));
      end-is = v.end-is ∙ rw (w.end-is, length-append) (omega arith);
      long-is = v.long-is ∙ w.long-is;
      same = v.same ∙ w.same;
    }
