-- The laws of calm rows. Assumes nothing.
--     calm-row       a row is calm where a test says so, computed after each run of at most two
--     calm-append    a calm row behind a calm row is calm
--     other-calm     a bit of the other value than the bit before it draws no stuff bit and leaves a run of at most two, also where
--                    that bit has drawn one
use mathlib.Core.Bool.{Bool, ◌&&◌}
use mathlib.Core.List.{List, [], ◌∷◌, ◌++◌}
use Prim.Native.Nat.{ℕ, ◌-◌, ◌<◌}
use native.Mathlib.Omega.{arith}
use lib.Dec.{T, eqb, ltb, leb, eqb→eq, ltb→lt, leb→le}
use mir.Facts.{and_yes}
use Rattle.std.proofs.lemmas.Bool.Decides.{nat_tests}
use Rattle.bits.specs.declared.Run.{Run}
use Rattle.bits.specs.Stuffing.{stuff_after, run_after, stuff_count, run_after_row}
use Rattle.bits.specs.Calm.{CalmAfter, Calm}
use Rattle.bits.proofs.Everywhere.{everywhere, everywhere-at}
use Rattle.bits.proofs.Stuffing.{run_after_row-append, stuff_count-append}

-- the row is calm after a run of `count` bits that are `bit`
abbrev pub calm_after : List ℕ → ℕ → ℕ → Bool
calm_after l bit count =
    let r : Run = record { bit = bit; count = count } in
    eqb (stuff_count r l) 0 && (ltb (run_after_row r l).bit 2 && leb (run_after_row r l).count 2)

abbrev pub is_calm : List ℕ → Bool
is_calm l = everywhere (λ (bit : ℕ). everywhere (calm_after l bit) 3) 2

pub calm-row : (l : List ℕ) → T (is_calm l) → Calm l
calm-row l t r short =
    let counts = everywhere-at (λ (bit : ℕ). everywhere (calm_after l bit) 3) 2 t r.bit short.bit_is in
    let here = everywhere-at (calm_after l r.bit) 3 counts r.count (omega (arith, short.few)) in
    let behind = run_after_row r l in
    let none = and_yes (eqb (stuff_count r l) 0) (ltb behind.bit 2 && leb behind.count 2) here in
    let rest = and_yes (ltb behind.bit 2) (leb behind.count 2) none.1 in
    record {
      no-stuff = eqb→eq (stuff_count r l) 0 none.0;
      short = record { bit_is = ltb→lt behind.bit 2 rest.0; few = leb→le behind.count 2 rest.1 };
    }

pub calm-append : (l m : List ℕ) → Calm l → Calm m → Calm (l ++ m)
calm-append l m first second r h =
    let a = first r h in
    let b = second (run_after_row r l) a.short in
    record {
      no-stuff = omega (arith, stuff_count-append r l m);
      short = rw (run_after_row-append r l m) b.short;
    }

pub other-calm : (r : Run) (d : ℕ) → d < 2 → CalmAfter (run_after r d) ((1 - d) ∷ [])
unfolding stuff_after run_after stuff_count run_after_row
other-calm r d h =
    record {
      no-stuff = grind (arith, nat_tests);
      short = record { bit_is = grind (arith, nat_tests); few = grind (arith, nat_tests) };
    }
