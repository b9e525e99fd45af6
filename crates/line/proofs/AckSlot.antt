-- The bit in the ACK slot of a made line, over any header and any data field. Assumes nothing.
--     line-ack    the line with a bit set there
--     line-own    it has a 1 there of its own
--     ack-again   and has it again, whatever bit was set there before
--     ack-holds   the bit that was set there stands there
--     ack-found   a line of bits that is this one but for the ACK slot is this one with some bit set there
use mathlib.Core.Path.{◌≡◌, sym, ap, ap₂, ◌∙◌}
use mathlib.Core.List.{List, [], ◌∷◌, ◌++◌, append_assoc}
use Prim.Native.Nat.{ℕ, zero, suc, ◌+◌, ◌-◌, ◌<◌}
use native.Mathlib.Omega.{arith}
use lib.Dec.{lit<}
use lib.ListN.{length, get_or, set, replicate, length-append, length-set}
use lib.Seq.{set_at, set-get_or, set-set, get_or-append-add}
use Rattle.bits.specs.Below.{Below}
use Rattle.bits.specs.Stuffing.{nothing_sent, stuffed}
use Rattle.wire.specs.Line.{stuffed_row, ending, line_of}
use Rattle.line.specs.Ack.{with_ack}

with-ack : (ack other : ℕ) (l : List ℕ) → with_ack ack (l ++ ending other) ≡ l ++ ending ack
unfolding with_ack
with-ack ack other l =
    let upto = l ++ (1 ∷ []) in
    let at = length (l ++ ending other) - 9 in
    let size : length upto ≡ at = omega (arith, length-append l (1 ∷ []), length-append l (ending other)) in
    ap (λ (m : List ℕ). set m at ack) (sym (append_assoc l (1 ∷ []) (other ∷ replicate 8 1)))
    ∙ set_at upto other (replicate 8 1) ack at size ∙ append_assoc l (1 ∷ []) (ack ∷ replicate 8 1)

module _ (header_bits data_bits : List ℕ) where
  -- the line up to the frame's ending
  abbrev stuffed_bits : List ℕ
  stuffed_bits = stuffed nothing_sent (stuffed_row header_bits data_bits)

  pub line-ack : (ack : ℕ) → with_ack ack (line_of header_bits data_bits) ≡ stuffed_bits ++ ending ack
  unfolding line_of
  line-ack ack = with-ack ack 1 stuffed_bits

  pub line-own : with_ack 1 (line_of header_bits data_bits) ≡ line_of header_bits data_bits
  unfolding line_of
  line-own = line-ack 1

  pub ack-again : (ack : ℕ) → with_ack 1 (with_ack ack (line_of header_bits data_bits)) ≡ line_of header_bits data_bits
  unfolding line_of
  ack-again ack = ap (with_ack 1) (line-ack ack) ∙ with-ack 1 ack stuffed_bits

  pub ack-holds : (ack : ℕ) →
      let line = with_ack ack (line_of header_bits data_bits) in
      get_or line (length line - 9) 0 ≡ ack
  ack-holds ack =
      let line = stuffed_bits ++ ending ack in
      let at : length line - 9 ≡ length stuffed_bits + 1 = omega (arith, length-append stuffed_bits (ending ack)) in
      ap (λ (l : List ℕ). get_or l (length l - 9) 0) (line-ack ack)
      ∙ ap (λ (k : ℕ). get_or line k 0) at ∙ get_or-append-add stuffed_bits (ending ack) 1 0

bit_at : (l : List ℕ) (i : ℕ) → Below 2 l → get_or l i 0 < 2
bit_at [] i below = lit< tt
bit_at (x ∷ l) zero below = below.0
bit_at (x ∷ l) (suc i) below = bit_at l i below.1

pub ack-found : (line made : List ℕ) → with_ack 1 line ≡ made → Below 2 line → (ack : ℕ) × (ack < 2) × (line ≡ with_ack ack made)
unfolding with_ack
ack-found line made is below =
    let i = length line - 9 in
    let ack = get_or line i 0 in
    let size : length made - 9 ≡ i = ap (λ (l : List ℕ). length l - 9) (sym is) ∙ ap (λ (n : ℕ). n - 9) (length-set line i 1) in
    (ack, bit_at line i below, sym (ap₂ (λ (l : List ℕ) (k : ℕ). set l k ack) (sym is) size ∙ set-set line i 1 ack ∙ set-get_or line i 0))
