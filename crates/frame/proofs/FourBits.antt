-- The laws of sending four bits at a time. Assumes nothing.
--     run-fours, drawn-fours, sent-fours    the run that the next four leave, the stuff bits they draw, and what is sent
--     sent-row         four bits as they are sent; sent-run the run they leave; sent-drawn whether a stuff bit is among them
--     sent-below       six bits hold it
--     run-left, four-sent, five-sent    the same of the number that the list holds, without a stuff bit and with one
--     sent-list-at, byte-list-at    what the lists hold
--     start-row, start-quiet, start-run    the first three bits of a header go out as they are, and the run that they leave
--     quiet-run        four bits that draw no stuff bit leave the run that ends them
use mathlib.Core.Path.{◌≡◌, sym, ap, ap₂, ◌∙◌, subst}
use mathlib.Core.Bool.{Bool, not, ◌&&◌, ◌||◌}
use mathlib.Core.List.{List, [], ◌∷◌, ◌++◌}
use Prim.Native.Nat.{ℕ, ◌+◌, ◌-◌, ◌*◌, ◌/◌, ◌%◌, ◌≤◌, ◌<◌}
use native.Mathlib.Omega.{arith}
use lib.Dec.{T, eqb, ltb, eqb→eq, ltb→lt, lit<}
use lib.ListN.{get_or}
use mir.Facts.{and_yes}
use Rattle.bits.specs.declared.Run.{Run}
use Rattle.bits.specs.Rows.{bits, number}
use Rattle.bits.specs.Fours.{four_at}
use Rattle.bits.specs.Same.{same}
use Rattle.bits.specs.Stuffing.{nothing_sent, stuff_after, run_after, stuffed, stuff_count, run_after_row}
use Rattle.bits.proofs.Everywhere.{everywhere, everywhere-at}
use Rattle.bits.proofs.Numbers.{numbers-at}
use Rattle.bits.proofs.Rows.{bits-next, bits-low}
use Rattle.bits.proofs.Fours.{fours-next}
use Rattle.bits.proofs.Same.{same-eq}
use Rattle.bits.proofs.Stuffing.{run, stuffed-append, stuff_count-append, run_after_row-append}
use Rattle.frame.specs.Fours.{run_of, sent_of, sent_list, byte_list}

pub run-fours : (r : Run) (left n : ℕ) → 0 < left
    → run_after_row r (bits (4 * left) n) ≡ run_after_row (run_after_row r (bits 4 (four_at n (left - 1)))) (bits (4 * (left - 1)) n)
run-fours r left n h = ap (run_after_row r) (fours-next left n h) ∙ run_after_row-append r _ _

pub drawn-fours : (r : Run) (left n : ℕ) → 0 < left
    → stuff_count r (bits (4 * left) n)
    ≡ stuff_count r (bits 4 (four_at n (left - 1))) + stuff_count (run_after_row r (bits 4 (four_at n (left - 1)))) (bits (4 * (left - 1)) n)
drawn-fours r left n h = ap (stuff_count r) (fours-next left n h) ∙ stuff_count-append r _ _

pub sent-fours : (r : Run) (left n : ℕ) → 0 < left
    → stuffed r (bits (4 * left) n)
    ≡ stuffed r (bits 4 (four_at n (left - 1))) ++ stuffed (run_after_row r (bits 4 (four_at n (left - 1)))) (bits (4 * (left - 1)) n)
sent-fours r left n h = ap (stuffed r) (fours-next left n h) ∙ stuffed-append r _ _

-- two runs are one
same_run : Run → Run → Bool
same_run r s = eqb r.bit s.bit && eqb r.count s.count

same-run : (r s : Run) → T (same_run r s) → r ≡ s
unfolding same_run
same-run r s t =
    let both = and_yes (eqb r.bit s.bit) (eqb r.count s.count) t in
    ap₂ run (eqb→eq r.bit s.bit both.0) (eqb→eq r.count s.count both.1)

-- what is to be shown of four bits behind four others, as a test
sent_right : ℕ → ℕ → Bool
sent_right last four =
    let s = sent_of last four in
    same (bits (4 + s / 32) s) (stuffed (run_of last) (bits 4 four))
    && (same_run (run_of (s % 16)) (run_after_row (run_of last) (bits 4 four))
    && (eqb (s / 32) (stuff_count (run_of last) (bits 4 four)) && ltb s 64))

tested : T (everywhere (λ (last : ℕ). everywhere (sent_right last) 16) 16)
unfolding sent_right same_run bits number stuff_after run_after stuffed stuff_count run_after_row
tested = tt

-- the tests pass, each by itself
here : (last four : ℕ) → last < 16 → four < 16 →
    let s = sent_of last four in
    T (same (bits (4 + s / 32) s) (stuffed (run_of last) (bits 4 four)))
    × T (same_run (run_of (s % 16)) (run_after_row (run_of last) (bits 4 four)))
    × T (eqb (s / 32) (stuff_count (run_of last) (bits 4 four)))
    × T (ltb s 64)
unfolding sent_right
here last four h g =
    let s = sent_of last four in
    let row = same (bits (4 + s / 32) s) (stuffed (run_of last) (bits 4 four)) in
    let left = same_run (run_of (s % 16)) (run_after_row (run_of last) (bits 4 four)) in
    let drawn = eqb (s / 32) (stuff_count (run_of last) (bits 4 four)) in
    let all = everywhere-at (sent_right last) 16 (everywhere-at (λ (last : ℕ). everywhere (sent_right last) 16) 16 tested last h) four g in
    let first = and_yes row (left && (drawn && ltb s 64)) all in
    let second = and_yes left (drawn && ltb s 64) first.1 in
    let third = and_yes drawn (ltb s 64) second.1 in
    (first.0, second.0, third.0, third.1)

module _ (last four : ℕ) (h : last < 16) (g : four < 16) where
  pub sent-row : bits (4 + sent_of last four / 32) (sent_of last four) ≡ stuffed (run_of last) (bits 4 four)
  sent-row = same-eq _ _ (here last four h g).0

  pub sent-run : run_of (sent_of last four % 16) ≡ run_after_row (run_of last) (bits 4 four)
  sent-run = same-run _ _ (here last four h g).1

  pub sent-drawn : sent_of last four / 32 ≡ stuff_count (run_of last) (bits 4 four)
  sent-drawn = eqb→eq _ _ (here last four h g).2

  pub sent-below : sent_of last four < 64
  sent-below = ltb→lt _ _ (here last four h g).3

-- four bits as they are sent, from the number that the list holds
module _ (last four s : ℕ) (h : last < 16) (g : four < 16) (e : s ≡ sent_of last four) where
  row-is : bits (4 + s / 32) s ≡ stuffed (run_of last) (bits 4 four)
  row-is = ap (λ (n : ℕ). bits (4 + n / 32) n) e ∙ sent-row last four h g

  drawn-is : s / 32 ≡ stuff_count (run_of last) (bits 4 four)
  drawn-is = ap (λ (n : ℕ). n / 32) e ∙ sent-drawn last four h g

  pub run-left : run_of (s % 16) ≡ run_after_row (run_of last) (bits 4 four)
  run-left = ap (λ (n : ℕ). run_of (n % 16)) e ∙ sent-run last four h g

  pub four-sent : s < 32 → (bits 4 (s % 16) ≡ stuffed (run_of last) (bits 4 four)) × (0 ≡ stuff_count (run_of last) (bits 4 four))
  four-sent none =
      let zero : s / 32 ≡ 0 = omega arith in
      (bits-low 4 s ∙ ap (λ (k : ℕ). bits (4 + k) s) (sym zero) ∙ row-is, sym zero ∙ drawn-is)

  pub five-sent : 32 ≤ s
      → ((s / 16 % 2) ∷ bits 4 (s % 16) ≡ stuffed (run_of last) (bits 4 four)) × (1 ≡ stuff_count (run_of last) (bits 4 four))
  five-sent some =
      let one : s / 32 ≡ 1 = omega (arith, e, sent-below last four h g) in (
        ap (λ (l : List ℕ). (s / 16 % 2) ∷ l) (bits-low 4 s) ∙ sym (bits-next 5 s (lit< tt)) ∙ ap (λ (k : ℕ). bits (4 + k) s) (sym one) ∙ row-is,
        sym one ∙ drawn-is,
      )

pub sent-list-at : (last four : ℕ) → last < 16 → four < 16 → get_or sent_list (last * 16 + four) 0 ≡ sent_of last four
unfolding sent_list
sent-list-at last four h g =
    let i : ℕ = last * 16 + four in
    let high : i / 16 ≡ last = omega arith in
    let low : i % 16 ≡ four = omega arith in
    numbers-at (λ (i : ℕ). sent_of (i / 16) (i % 16)) 0 256 i (omega arith) ∙ ap₂ sent_of high low

pub byte-list-at : (four : ℕ) → four < 16 → get_or byte_list four [] ≡ bits 4 four
unfolding byte_list
byte-list-at four h = numbers-at (bits 4) [] 16 four h

-- three bits from the start of frame on, of which the first is 0
start_right : ℕ → Bool
start_right three =
    same (stuffed nothing_sent (bits 3 three)) (bits 3 three)
    && (eqb (stuff_count nothing_sent (bits 3 three)) 0 && same_run (run_after_row nothing_sent (bits 3 three)) (run_of (8 + three)))

start-tested : T (everywhere start_right 4)
unfolding start_right same_run bits stuff_after run_after stuffed stuff_count run_after_row
start-tested = tt

module _ (three : ℕ) (h : three < 4) where
  start-here : T (same (stuffed nothing_sent (bits 3 three)) (bits 3 three))
      × T (eqb (stuff_count nothing_sent (bits 3 three)) 0) × T (same_run (run_after_row nothing_sent (bits 3 three)) (run_of (8 + three)))
  unfolding start_right
  start-here =
      let row = same (stuffed nothing_sent (bits 3 three)) (bits 3 three) in
      let none = eqb (stuff_count nothing_sent (bits 3 three)) 0 in
      let left = same_run (run_after_row nothing_sent (bits 3 three)) (run_of (8 + three)) in
      let first = and_yes row (none && left) (everywhere-at start_right 4 start-tested three h) in
      let second = and_yes none left first.1 in
      (first.0, second.0, second.1)

  pub start-row : stuffed nothing_sent (bits 3 three) ≡ bits 3 three
  start-row = same-eq _ _ start-here.0

  pub start-quiet : stuff_count nothing_sent (bits 3 three) ≡ 0
  start-quiet = eqb→eq _ _ start-here.1

  pub start-run : run_after_row nothing_sent (bits 3 three) ≡ run_of (8 + three)
  start-run = same-run _ _ start-here.2

-- behind a run of at most four bits that are `bit`
quiet_right : ℕ → ℕ → ℕ → Bool
quiet_right four bit count =
    not (eqb (stuff_count (run bit count) (bits 4 four)) 0) || same_run (run_after_row (run bit count) (bits 4 four)) (run_of four)

quiet-tested : T (everywhere (λ (four : ℕ). everywhere (λ (bit : ℕ). everywhere (quiet_right four bit) 5) 2) 16)
unfolding quiet_right same_run bits stuff_after run_after stuff_count run_after_row
quiet-tested = tt

pub quiet-run : (r : Run) (four : ℕ) → r.bit < 2 → r.count ≤ 4 → four < 16 → stuff_count r (bits 4 four) ≡ 0
    → run_after_row r (bits 4 four) ≡ run_of four
unfolding quiet_right
quiet-run r four b c h none =
    let bits' = everywhere-at (λ (four : ℕ). everywhere (λ (bit : ℕ). everywhere (quiet_right four bit) 5) 2) 16 quiet-tested four h in
    let counts = everywhere-at (λ (bit : ℕ). everywhere (quiet_right four bit) 5) 2 bits' r.bit b in
    let at = everywhere-at (quiet_right four r.bit) 5 counts r.count (omega arith) in
    let left = same_run (run_after_row r (bits 4 four)) (run_of four) in
    same-run _ _ (subst (λ (n : ℕ). T (not (eqb n 0) || left)) none at)
