-- The CRC four bits at a time. Assumes nothing.
--     crc-next-four         four bits behind a row
--     crc-list-at      at four bits the list holds their CRC
--     crc-behind       what the code's exclusive ors give, on a register that is moved up by one bit
--     crc-nothing, crc-leading    the CRC of no bits is 0, and a bit 0 before a row changes nothing
--     crc-short        nor do the bits 0 that stand before a number's own
use mathlib.Core.Path.{◌≡◌, refl, sym, ap, ◌∙◌}
use mathlib.Core.List.{List, [], ◌∷◌, ◌++◌}
use Prim.Native.Nat.{ℕ, zero, suc, ◌+◌, ◌*◌, ◌/◌, ◌%◌, ◌^◌, ◌≤◌, ◌<◌}
use native.Mathlib.Nat.{suc-add, div-eq_of_lt}
use native.Mathlib.Omega.{arith}
use lib.Bits.{bit_xor, xor_zero_r, xor_shifted}
use lib.Dec.{lit<}
use lib.ListN.{get_or, replicate}
use lib.Pow.{pow_mono}
use Rattle.bits.specs.Rows.{bits}
use Rattle.bits.proofs.Numbers.{numbers-at}
use Rattle.crc.specs.Crc.{xor, divide, remainder, crc}
use Rattle.crc.specs.CrcFours.{crc_list, crc_behind}
use Rattle.crc.proofs.Division.{xor_is, xor_below, remainder-append, crc-below, remainder-below}
use Rattle.crc.proofs.Linear.{xor-bring, medial, linear-row, remainder-short}

-- 15 bits 0 brought down
fifteen : ℕ → ℕ
fifteen register = remainder register (bits 15 0)

crc-is : (l : List ℕ) → crc l ≡ fifteen (remainder 0 l)
unfolding crc fifteen bits
crc-is l = remainder-append 0 l (replicate 15 0)

fifteen-below : (register : ℕ) → register < 2 ^ 15 → fifteen register < 2 ^ 15
unfolding fifteen
fifteen-below register h = remainder-below register (bits 15 0) h

xor_nothing : (a : ℕ) → a < 2 ^ 15 → xor 15 a 0 ≡ a
xor_nothing a h = grind (arith, xor_is 15 a 0, xor_zero_r a)

fifteen-sum : (a b : ℕ) → a < 2 ^ 15 → b < 2 ^ 15 → fifteen (xor 15 a b) ≡ xor 15 (fifteen a) (fifteen b)
unfolding fifteen
fifteen-sum a b h g = linear-row 15 0 a b h g

-- four bits by themselves
four-alone : (v : ℕ) → v < 16 → remainder 0 (bits 4 v) ≡ v
four-alone v h = grind (arith, remainder-short 4 0 0 v)

crc-alone : (v : ℕ) → v < 16 → crc (bits 4 v) ≡ fifteen v
crc-alone v h = crc-is (bits 4 v) ∙ ap fifteen (four-alone v h)

-- four bits brought down are added at the end
four-added : (m v : ℕ) → m < 2 ^ 15 → v < 16 → remainder m (bits 4 v) ≡ xor 15 (remainder m (bits 4 0)) v
four-added m v h g = grind (arith, xor_nothing m h, linear-row 4 v m 0 h, four-alone v g)

-- bits 0 in either order
zeros-swapped : (m : ℕ) → fifteen (remainder m (bits 4 0)) ≡ remainder (fifteen m) (bits 4 0)
unfolding fifteen bits
zeros-swapped m = sym (remainder-append m (bits 4 0) (bits 15 0)) ∙ remainder-append m (bits 15 0) (bits 4 0)

-- the register's four highest bits, moved out
high-out : (hi : ℕ) → hi < 16 → remainder (hi * 2048) (bits 4 0) ≡ fifteen hi
unfolding fifteen bits
high-out hi h =
    ap (λ (r : ℕ). remainder r (bits 4 0)) (sym (remainder-short 11 4 hi 0 h (omega arith) ∙ omega arith))
    ∙ sym (remainder-append hi (bits 11 0) (bits 4 0))

-- a register moved up by four
moved_up : (r : ℕ) → r < 2 ^ 15 → remainder r (bits 4 0) ≡ xor 15 (fifteen (r / 2048)) (r % 2048 * 16)
moved_up r h =
    let hi : ℕ = r / 2048 in
    let lo : ℕ = r % 2048 in
    grind (arith, xor_is 15 (hi * 2048) lo, xor_shifted hi 11 lo, linear-row 4 0 (hi * 2048) lo, high-out hi, remainder-short 4 11 lo 0)

pub crc-next-four : (l : List ℕ) (v : ℕ) → v < 16 → crc (l ++ bits 4 v) ≡ crc_behind (crc l) v
unfolding crc_behind
crc-next-four l v g =
    let m : ℕ = remainder 0 l in
    let r : ℕ = crc l in
    let hi : ℕ = r / 2048 in
    let up : ℕ = r % 2048 * 16 in
    let below = crc-below l in
    let small = remainder-below 0 l (lit< tt) in
    let zeros = remainder m (bits 4 0) in
    let both : xor 15 hi v ≡ xor 4 hi v = grind (arith, xor_is 15 hi v, xor_is 4 hi v) in
    grind (
      arith,
      crc-is (l ++ bits 4 v),
      crc-is l,
      remainder-append 0 l (bits 4 v),
      four-added m v small g,
      fifteen-sum zeros v (remainder-below m (bits 4 0) small),
      zeros-swapped m,
      moved_up r below,
      xor_nothing (fifteen v) (fifteen-below v (omega arith)),
      medial 15 (fifteen hi) up (fifteen v) 0,
      fifteen-sum hi v,
      crc-alone (xor 4 hi v) (xor_below 4 hi v),
      xor_nothing up (omega arith),
    )

crc-list-at : (v : ℕ) → v < 16 → get_or crc_list v 0 ≡ crc (bits 4 v) * 2
unfolding crc_list
crc-list-at v h = numbers-at (λ (four : ℕ). crc (bits 4 four) * 2) 0 16 v h

-- two numbers that are moved up by one bit
xor-up : (a b : ℕ) → a < 2 ^ 15 → b < 2 ^ 15 → bit_xor (a * 2) (b * 2) ≡ xor 15 a b * 2
xor-up a b h g = grind (arith, xor_is 16 (a * 2) (b * 2), xor-bring 15 a b 0 0)

pub crc-behind : (x v : ℕ) → x < 2 ^ 15 → v < 16 → bit_xor (get_or crc_list (bit_xor (x * 2 / 4096) v) 0) (x * 2 * 16 % 65536) ≡ crc_behind x v * 2
unfolding crc_behind
crc-behind x v h g =
    let out = xor 4 (x / 2048) v in
    let below = xor_below 4 (x / 2048) v in
    grind (arith, xor_is 4 (x / 2048) v, crc-list-at out, xor-up (crc (bits 4 out)) (x % 2048 * 16), crc-below (bits 4 out))

pub crc-nothing : crc [] ≡ 0
unfolding crc remainder divide xor
crc-nothing = refl

pub crc-leading : (l : List ℕ) → crc (0 ∷ l) ≡ crc l
unfolding crc remainder divide xor
crc-leading l = refl

pub crc-short : (j k h : ℕ) (l : List ℕ) → h < 2 ^ k → crc (bits (j + k) h ++ l) ≡ crc (bits k h ++ l)
unfolding bits
crc-short zero k h l few = grind arith
crc-short (suc j) k h l few =
    let wide : 2 ^ k ≤ 2 ^ (j + k) = pow_mono {i = k} {j = j + k} (omega arith) in
    let top : h / 2 ^ (j + k) ≡ 0 = div-eq_of_lt (omega arith) in
    rw suc-add (grind (arith, crc-leading (bits (j + k) h ++ l), crc-short j k h l))
