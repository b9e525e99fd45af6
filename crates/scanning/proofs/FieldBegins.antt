-- Into a row. Assumes nothing.
--     begun, field-begins    its bits are all to come
--     line-begins     before the first row
use mathlib.Core.Path.{◌≡◌, refl, sym, ap, ◌∙◌}
use mathlib.Core.Bool.{Bool, false}
use mathlib.Core.List.{List, []}
use Prim.Native.Nat.{ℕ, zero, suc, ◌+◌, ◌-◌, min, ◌<◌}
use native.Mathlib.Omega.{arith}
use lib.Dec.{lit<}
use lib.ListN.{length}
use Rattle.bits.specs.Rows.{bits}
use Rattle.bits.specs.declared.Run.{Run}
use Rattle.bits.specs.Stuffing.{nothing_sent}
use Rattle.reading.specs.Scan.{Verdict, right, onward, scanned}
use Rattle.reading.specs.declared.Reading.{Reading}
use Rattle.scanning.specs.declared.seen.Seen.{Seen}
use Rattle.scanning.proofs.Positions.{widths_of, width_at, end_of, end_is, first-start}
use Rattle.scanning.proofs.Known.{in-header}
use Rattle.scanning.proofs.Registers.{in-header}
use Rattle.scanning.proofs.RawBits.{none}
use Rattle.scanning.proofs.Passing.{rest}
use Rattle.scanning.proofs.Keeping.{bytes, pending, Between, Within}
use Rattle.scanning.proofs.Shown.{nothing-behind}

-- into a row: its bits are all to come
abbrev pub begun : List ℕ → Seen → ℕ → Seen
begun line seen end =
    record {
      stop = min end (length line);
      end = end;
      place = seen.place;
      raw = seen.raw;
      number = seen.number;
      header = seen.header;
      field = seen.field;
    }

pub field-begins : (reading : Reading) (line : List ℕ) (f : ℕ) (long : Bool) (seen : Seen) (run : Run) (frame : List ℕ) (width : ℕ)
    → f < 10 → width ≡ width_at f long (bytes seen) → Between reading line f long seen run frame
    → Within reading line f long (begun line seen (seen.place + width)) run width frame
unfolding widths_of
field-begins reading line f long seen run frame width h e b =
    record {
      leads = b.leads ∙ ap (λ (v : Verdict). onward (seen.place - 1) v (rest reading line seen run frame)) (sym (nothing width refl));
      end_is = refl;
      stop_is = refl;
      at-is = end;
      from = omega (arith, b.at-is);
      formed = b.formed;
      registers = b.registers;
      slot = λ i z. absurd (some 8 (lit< tt) z i);
      fresh = b.fresh;
      reached = b.reached;
      behind = b.behind;
    }
  where
    end : length frame + width ≡ end_of f long (bytes seen)
    end = omega (arith, b.at-is, e, end_is long (bytes seen) f)

    some : (k : ℕ) → 0 < width_at k long (bytes seen) → width ≡ 0 → f ≡ k → ⊥
    some k p z i =
        let same : width_at f long (bytes seen) ≡ width_at k long (bytes seen) = ap (λ (j : ℕ). width_at j long (bytes seen)) i in
        omega (arith, e, same)

    nothing : (k : ℕ) → width ≡ k → pending reading run k frame seen.place ≡ right
    nothing zero d =
        nothing-behind reading run f long seen.header seen.field seen.number frame (seen.place - 1) h (some 1 (lit< tt) d)
        (some 4 (lit< tt) d) (some 6 (lit< tt) d) (λ i. absurd (some 8 (lit< tt) d i)) (omega (arith, end)) b.formed b.registers
    nothing (suc k) d = refl

-- before the first row
pub line-begins : (reading : Reading) (line : List ℕ)
    → Between reading line 0 false (record { stop = 0; end = 0; place = 0; raw = 1; number = 0; header = 0; field = 0 }) nothing_sent []
unfolding scanned bits
line-begins reading line =
    record {
      leads = refl;
      at-is = sym (first-start false 0);
      formed = λ g. absurd (omega arith);
      registers = in-header (omega arith) refl (lit< tt);
      told = λ few. none refl refl refl;
      fresh = λ e. refl;
      reached = omega arith;
      behind = omega arith;
    }
