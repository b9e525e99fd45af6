-- What a header's number tells. Assumes nothing.
--     width, start-length    how many bits it has
--     Shaped         it tells the form that its bits have
--     form_in, start-in, dlc-in, crc-in, identifier-in    form, where data and CRC start, DLC and identifier, whatever stands behind it
--     crc-wide       bits 0 before it change no CRC
--     form-read      IDE and the bit before it, as IDE is read
--     shaped-read, frame-read, dlc-read    the header, as its last bit is read
use mathlib.Core.Path.{◌≡◌, refl, sym, ap, ap₂, ◌∙◌, subst}
use mathlib.Core.Bool.{Bool, true, false, cond}
use mathlib.Core.List.{List, [], ◌++◌, append-nil, append_assoc}
use Prim.Native.Nat.{ℕ, ◌+◌, ◌-◌, ◌*◌, ◌/◌, ◌%◌, ◌^◌, ◌≤◌, ◌<◌}
use native.Mathlib.Omega.{arith}
use lib.Dec.{leb}
use lib.ListN.{length, get_or, take, drop, length-append}
use lib.Seq.{take_at, drop_at}
use borrow.Author.Tests.{le-leb, lt-leb, eqb-true}
use Rattle.bits.specs.Rows.{bits, number}
use Rattle.bits.proofs.Rows.{bits-length, bits-split, number_append, number-bits, number-low}
use Rattle.crc.specs.Crc.{crc}
use Rattle.crc.proofs.CrcFours.{crc-short}
use Rattle.wire.specs.declared.Identifier.TheVariants.{Base, Long}
use Rattle.reading.specs.Scan.{long_in, header_width, data_start, identifier_in, dlc_in, crc_start}
use Rattle.reading.proofs.Partial.{width-least, width-most, long-stays, dlc-there}
use Rattle.scanning.specs.Steps.{long_told, identifier_told}

-- how many bits a header of this number has
abbrev pub width : ℕ → ℕ
width header = header_width (long_told header)

-- its number tells the form that its bits have, and it has no more bits
pub record Shaped (header : ℕ) : Type 0 where
  pub form-is : long_in (bits (width header) header) ≡ long_told header
  pub small : header < 2 ^ width header

-- it and what stands behind it
pub start-length : (header : ℕ) (l : List ℕ) → length (bits (width header) header ++ l) ≡ width header + length l
start-length header l =
    length-append (bits (width header) header) l ∙ ap (λ (k : ℕ). k + length l) (bits-length (width header) header)

-- some bits of a number, between those before them and those behind them
part-there : (i k j x : ℕ) (l : List ℕ) → take k (drop i (bits (i + (k + j)) x ++ l)) ≡ bits k (x / 2 ^ j)
part-there i k j x l =
    let front = bits i (x / 2 ^ (k + j)) in
    let part = bits k (x / 2 ^ j) in
    let parts : bits (i + (k + j)) x ++ l ≡ front ++ (part ++ (bits j x ++ l)) =
    ap (λ (m : List ℕ). m ++ l) (bits-split i (k + j) x ∙ ap (λ (m : List ℕ). front ++ m) (bits-split k j x)) ∙ simp append_assoc in
    ap (λ (m : List ℕ). take k (drop i m)) parts
    ∙ ap (take k) (drop_at front (part ++ (bits j x ++ l)) i (bits-length i _))
    ∙ take_at part (bits j x ++ l) k (bits-length k _)

-- the identifier, in either form
base_there : (header : ℕ) (l : List ℕ) → number 0 (take 11 (drop 1 (bits 19 header ++ l))) ≡ header / 2 ^ 7 % 2 ^ 11
base_there header l = ap (number 0) (part-there 1 11 7 header l) ∙ number-low 11 (header / 2 ^ 7)

long-there : (header : ℕ) (l : List ℕ) →
    let all = bits 39 header ++ l in
    number 0 (take 11 (drop 1 all) ++ take 18 (drop 14 all)) ≡ header / 2 ^ 27 % 2 ^ 11 * 2 ^ 18 + header / 2 ^ 7 % 2 ^ 18
long-there header l =
    let high = bits 11 (header / 2 ^ 27) in
    let low = bits 18 (header / 2 ^ 7) in
    ap₂ (λ (a b : List ℕ). number 0 (a ++ b)) (part-there 1 11 27 header l) (part-there 14 18 7 header l)
    ∙ number_append 0 high low ∙ number-bits (number 0 high) 18 (header / 2 ^ 7)
    ∙ ap (λ (a : ℕ). a * 2 ^ 18 + header / 2 ^ 7 % 2 ^ 18) (number-low 11 (header / 2 ^ 27))

-- whatever stands behind it
module _ {header : ℕ} (shaped : Shaped header) (l : List ℕ) where
  pub form_in : long_in (bits (width header) header ++ l) ≡ long_told header
  form_in =
      long-stays (bits (width header) header) l (omega (arith, bits-length (width header) header, width-least (long_told header))) ∙ shaped.form-is

  pub start-in : data_start (bits (width header) header ++ l) ≡ width header
  start-in = ap header_width form_in

  pub dlc-in : dlc_in (bits (width header) header ++ l) ≡ header % 16
  dlc-in =
      let w = width header in
      let all = bits w header ++ l in
      let sum : w ≡ (w - 4) + (4 + 0) = omega (arith, width-least (long_told header)) in
      dlc-there all (omega (arith, start-in, start-length header l))
      ∙ ap (λ (k : ℕ). number 0 (take 4 (drop (k - 4) all))) start-in
      ∙ ap (λ (k : ℕ). number 0 (take 4 (drop (w - 4) (bits k header ++ l)))) sum
      ∙ ap (number 0) (part-there (w - 4) 4 0 header l)
      ∙ number-low 4 (header / 2 ^ 0) ∙ omega arith

  pub crc-in : crc_start (bits (width header) header ++ l) ≡ width header + 8 * (header % 16)
  unfolding crc_start
  crc-in = ap₂ (λ (w n : ℕ). w + 8 * n) start-in dlc-in

  pub identifier-in : identifier_in (bits (width header) header ++ l) ≡ identifier_told header
  unfolding identifier_in identifier_told header_width
  identifier-in = rw form_in (go (long_told header))
    where
      go : (t : Bool) →
          let all = bits (cond t 39 19) header ++ l in
          cond t (Long (number 0 (take 11 (drop 1 all) ++ take 18 (drop 14 all)))) (Base (number 0 (take 11 (drop 1 all))))
          ≡ cond t (Long (header / 2 ^ 27 % 2 ^ 11 * 2 ^ 18 + header / 2 ^ 7 % 2 ^ 18)) (Base (header / 2 ^ 7 % 2 ^ 11))
      go true = ap Long (long-there header l)
      go false = ap Base (base_there header l)

  -- bits 0 before it change nothing
  pub crc-wide : crc (bits 39 header ++ l) ≡ crc (bits (width header) header ++ l)
  crc-wide =
      let w = width header in
      let sum : 39 ≡ (39 - w) + w = omega (arith, width-most (long_told header)) in
      ap (λ (k : ℕ). crc (bits k header ++ l)) sum ∙ crc-short (39 - w) w header l shaped.small

-- ---- as its last bit is read

pub form-read : (n : ℕ) {frame : List ℕ} → length frame ≡ 14 → frame ≡ bits (length frame) n
    → (get_or frame 12 0 ≡ n / 2 % 2) × (get_or frame 13 0 ≡ n % 2)
unfolding bits
form-read n {frame} h e =
    let is : frame ≡ bits 14 n = e ∙ ap (λ (k : ℕ). bits k n) h in
    let last : n / 2 ^ 0 % 2 ≡ n % 2 = omega arith in
    (ap (λ (l : List ℕ). get_or l 12 0) is, ap (λ (l : List ℕ). get_or l 13 0) is ∙ last)

ide-bit : (n : ℕ) → get_or (bits 39 n) 13 0 ≡ n / 2 ^ 25 % 2
unfolding bits
ide-bit n = refl

-- the header is read: its number tells the form that IDE chose
module _ {n : ℕ} {frame : List ℕ} (h : length frame ≡ data_start frame) (e : frame ≡ bits (length frame) n) (l : n < 2 ^ length frame) where
  told-long : long_in frame ≡ true → 2 ^ 19 ≤ n
  unfolding long_in header_width
  told-long is =
      let all : frame ≡ bits 39 n = e ∙ ap (λ (k : ℕ). bits k n) (h ∙ ap header_width is) in
      let one : n / 2 ^ 25 % 2 ≡ 1 = sym (ap (λ (m : List ℕ). get_or m 13 0) all ∙ ide-bit n) ∙ eqb-true _ _ is in
      omega arith

  told-base : long_in frame ≡ false → n < 2 ^ 19
  unfolding header_width
  told-base is = subst (λ (k : ℕ). n < 2 ^ k) (h ∙ ap header_width is) l

  told-form : long_told n ≡ long_in frame
  unfolding long_told
  told-form = go (long_in frame) refl
    where
      go : (t : Bool) → long_in frame ≡ t → leb (2 ^ 19) n ≡ t
      go true is = le-leb (2 ^ 19) n (told-long is)
      go false is = lt-leb (2 ^ 19) n (told-base is)

  width_read : length frame ≡ width n
  width_read = h ∙ ap header_width (sym told-form)

  pub frame-read : frame ≡ bits (width n) n
  frame-read = e ∙ ap (λ (k : ℕ). bits k n) width_read

  pub shaped-read : Shaped n
  shaped-read =
      record {
        form-is = ap long_in (sym frame-read) ∙ sym told-form;
        small = subst (λ (k : ℕ). n < 2 ^ k) width_read l;
      }

  pub dlc-read : dlc_in frame ≡ n % 16
  dlc-read = ap dlc_in (frame-read ∙ sym (append-nil (bits (width n) n))) ∙ dlc-in shaped-read []
