-- The registers hold the frame's bits. Assumes nothing.
--     Fine, Put      a header whose DLC is not refused, and a data field with no more bits than it says
--     Registers      the bits of the present part are in `number`, those of the parts before it in `header` and `field`;
--                    those behind the CRC are not kept
--     longer, bit_added, ending-added    a bit more
--     form-told, dlc-known    form and DLC, once the header is read
--     data-length, crc-length    how many bits that makes
--     header-put, field_put    behind their last bit header and data field are put by
--     crc-there      the CRC that stands in the frame is right exactly when the registers say so
--     data-there     the data bits of a whole frame
use mathlib.Core.Path.{◌≡◌, refl, sym, ap, ap₂, ◌∙◌}
use mathlib.Core.List.{List, [], ◌∷◌, ◌++◌, append-nil, append_assoc}
use Prim.Native.Nat.{ℕ, suc, ◌+◌, ◌*◌, ◌/◌, ◌%◌, ◌^◌, ◌≤◌, ◌<◌}
use native.Mathlib.Nat.{pow-suc, mod-eq_of_lt}
use native.Mathlib.Numerals.{add-one}
use native.Mathlib.Omega.{arith}
use lib.Dec.{eqb, lit<}
use lib.ListN.{length, take, drop, length-append}
use lib.Seq.{take_at, drop_at}
use Rattle.bits.specs.Rows.{bits, number}
use Rattle.bits.proofs.Rows.{bits-length, bits-join, number-low}
use Rattle.crc.specs.Crc.{crc}
use Rattle.crc.specs.Dlc.{data_bytes}
use Rattle.crc.proofs.Dlc.{data-bytes}
use Rattle.reading.specs.Scan.{long_in, data_start, dlc_in, crc_start, crc_right}
use Rattle.scanning.specs.Held.{data_in}
use Rattle.scanning.specs.Steps.{long_told}
use Rattle.scanning.proofs.HeaderNumber.{width, Shaped, start-length, form_in, start-in, dlc-in, crc-in, crc-wide, frame-read, shaped-read}

-- a header whose DLC is not refused
pub record Fine (header : ℕ) : Type 0 where
  pub shaped : Shaped header
  pub not-one : header % 16 ≡ 1 → ⊥
  pub few : header % 16 ≤ 8

-- such a header, and the number of as many data bits as its DLC says
pub record Put (header field : ℕ) : Type 0 where
  pub fine : Fine header
  pub within : field < 2 ^ (8 * (header % 16))

-- which field is read, the registers `header`, `field` and `number`, and the frame's bits
pub data Registers (f header field n : ℕ) (frame : List ℕ) : Type 0 where
  in-header : f ≤ 4 → frame ≡ bits (length frame) n → n < 2 ^ length frame → Registers f header field n frame
  in-data : (k : ℕ) → f ≡ 5 → Fine header → frame ≡ bits (width header) header ++ bits k n → n < 2 ^ k → Registers f header field n frame
  in-crc : (k : ℕ) → f ≡ 6 → Put header field → frame ≡ bits (width header) header ++ (bits (8 * (header % 16)) field ++ bits k n) → n < 2 ^ k
      → Registers f header field n frame
  behind : (l : List ℕ) → 6 < f → Put header field → frame ≡ bits (width header) header ++ (bits (8 * (header % 16)) field ++ l) → n < 2 ^ 15
      → Registers f header field n frame

-- ---- a bit more

one_more : (k n b : ℕ) → b < 2 → bits k n ++ (b ∷ []) ≡ bits (suc k) (n * 2 + b)
unfolding bits
one_more k n b h =
    let last : b / 2 ^ 0 % 2 ≡ b = omega arith in
    ap (λ (x : ℕ). bits k n ++ (x ∷ [])) (sym last) ∙ sym (bits-join k 1 n b (omega arith)) ∙ ap (λ (j : ℕ). bits j (n * 2 + b)) (add-one k)

one-more-below : (k n b : ℕ) → b < 2 → n < 2 ^ k → n * 2 + b < 2 ^ suc k
one-more-below k n b h g = rw pow-suc (omega arith)

pub longer : (l : List ℕ) (b : ℕ) → length (l ++ (b ∷ [])) ≡ suc (length l)
longer l b = length-append l (b ∷ []) ∙ add-one (length l)

module _ {f header field n : ℕ} {frame : List ℕ} where
  pub bit_added : (b : ℕ) → b < 2 → f ≤ 6 → Registers f header field n frame → Registers f header field (n * 2 + b) (frame ++ (b ∷ []))
  bit_added b h up (in-header g e l) =
      in-header g
      (ap (λ (l : List ℕ). l ++ (b ∷ [])) e ∙ one_more (length frame) n b h ∙ ap (λ (k : ℕ). bits k (n * 2 + b)) (sym (longer frame b)))
      (rw (longer frame b) (one-more-below (length frame) n b h l))
  bit_added b h up (in-data k g fine e l) =
      in-data (suc k) g fine (rw (e, append_assoc) (ap (λ (l : List ℕ). bits (width header) header ++ l) (one_more k n b h))) (one-more-below k n b h l)
  bit_added b h up (in-crc k g put e l) =
      in-crc (suc k) g put
      (rw (e, append_assoc, append_assoc) (ap (λ (l : List ℕ). bits (width header) header ++ (bits (8 * (header % 16)) field ++ l)) (one_more k n b h)))
      (one-more-below k n b h l)
  bit_added b h up (behind m g put e l) = absurd (omega arith)

  -- behind the CRC it is not kept
  pub ending-added : (b : ℕ) → 6 < f → Registers f header field n frame → Registers f header field n (frame ++ (b ∷ []))
  ending-added b late (in-header g e l) = absurd (omega arith)
  ending-added b late (in-data k g fine e l) = absurd (omega arith)
  ending-added b late (in-crc k g put e l) = absurd (omega arith)
  ending-added b late (behind m g put e l) = behind (m ++ (b ∷ [])) g put (rw (e, append_assoc, append_assoc) refl) l

  -- ---- what they say, once the header is read

  pub form-told : Registers f header field n frame → 4 < f → long_in frame ≡ long_told header
  form-told (in-header g e l) h = absurd (omega arith)
  form-told (in-data k g fine e l) h = ap long_in e ∙ form_in fine.shaped _
  form-told (in-crc k g put e l) h = ap long_in e ∙ form_in put.fine.shaped _
  form-told (behind m g put e l) h = ap long_in e ∙ form_in put.fine.shaped _

  pub dlc-known : Registers f header field n frame → 4 < f → dlc_in frame ≡ header % 16
  dlc-known (in-header g e l) h = absurd (omega arith)
  dlc-known (in-data k g fine e l) h = ap dlc_in e ∙ dlc-in fine.shaped _
  dlc-known (in-crc k g put e l) h = ap dlc_in e ∙ dlc-in put.fine.shaped _
  dlc-known (behind m g put e l) h = ap dlc_in e ∙ dlc-in put.fine.shaped _

-- ---- how many bits that makes

pub data-length : (header n k : ℕ) (frame : List ℕ) → frame ≡ bits (width header) header ++ bits k n → length frame ≡ width header + k
data-length header n k frame e =
    ap length e ∙ start-length header (bits k n) ∙ ap (λ (j : ℕ). width header + j) (bits-length k n)

pub crc-length : (header field n k : ℕ) (frame : List ℕ) → frame ≡ bits (width header) header ++ (bits (8 * (header % 16)) field ++ bits k n)
    → length frame ≡ width header + 8 * (header % 16) + k
crc-length header field n k frame e =
    ap length e ∙ start-length header _
    ∙ omega (arith, length-append (bits (8 * (header % 16)) field) (bits k n), bits-length (8 * (header % 16)) field, bits-length k n)

-- ---- behind the last bit of a part

pub header-put : {n : ℕ} {frame : List ℕ} (h : length frame ≡ data_start frame) (e : frame ≡ bits (length frame) n) (l : n < 2 ^ length frame)
    (field : ℕ) → (n % 16 ≡ 1 → ⊥) → n % 16 ≤ 8 → Registers 5 n field 0 frame
unfolding bits
header-put {n} h e l field not-one few =
    in-data 0 refl (record { shaped = shaped-read h e l; not-one = not-one; few = few })
    (frame-read h e l ∙ sym (append-nil (bits (width n) n))) (lit< tt)

pub field_put : (header n k : ℕ) (frame : List ℕ) → length frame ≡ width header + 8 * (header % 16) → Fine header
    → frame ≡ bits (width header) header ++ bits k n → n < 2 ^ k → Registers 6 header n 0 frame
unfolding bits
field_put header n k frame h fine e l =
    let count : k ≡ 8 * (header % 16) = omega (arith, h, data-length header n k frame e) in
    in-crc 0 refl (record { fine = fine; within = rw count at l })
    (e
    ∙ ap (λ (m : List ℕ). bits (width header) header ++ m) (ap (λ (j : ℕ). bits j n) count ∙ sym (append-nil (bits (8 * (header % 16)) n))))
    (lit< tt)

-- the frame's bits before the CRC, and their number
crc-at : (header field : ℕ) → length (bits (width header) header ++ bits (8 * (header % 16)) field) ≡ width header + 8 * (header % 16)
crc-at header field = start-length header _ ∙ ap (λ (k : ℕ). width header + k) (bits-length (8 * (header % 16)) field)

pub crc-there : (header field n k : ℕ) (frame : List ℕ) → Fine header
    → frame ≡ bits (width header) header ++ (bits (8 * (header % 16)) field ++ bits k n) → n < 2 ^ k
    → crc_right frame ≡ eqb n (crc (bits 39 header ++ bits (8 * data_bytes (header % 16)) field))
crc-there header field n k frame fine e l =
    let row = bits (8 * (header % 16)) field in
    let parts = bits (width header) header ++ row in
    let start = ap crc_start e ∙ crc-in fine.shaped (row ++ bits k n) in
    let split : frame ≡ parts ++ bits k n = e ∙ sym (append_assoc (bits (width header) header) row (bits k n)) in
    let check : number 0 (drop (crc_start frame) frame) ≡ n =
    ap (number 0) (ap₂ drop start split ∙ drop_at parts (bits k n) _ (crc-at header field)) ∙ number-low k n ∙ mod-eq_of_lt l in
    let before : take (crc_start frame) frame ≡ parts = ap₂ take start split ∙ take_at parts (bits k n) _ (crc-at header field) in
    rw (check, before, data-bytes (header % 16) fine.few, crc-wide fine.shaped row) refl

-- the data bits of a whole frame; what stands behind them is not looked at
pub data-there : {header field : ℕ} (l : List ℕ) → Put header field
    → data_in (bits (width header) header ++ (bits (8 * (header % 16)) field ++ l)) ≡ field
unfolding data_in
data-there {header} {field} l put =
    let shaped = put.fine.shaped in
    let n = header % 16 in
    let row = bits (8 * n) field in
    let front = bits (width header) header in
    ap₂ (λ (j w : ℕ). number 0 (take (8 * j) (drop w (front ++ (row ++ l))))) (dlc-in shaped (row ++ l)) (start-in shaped (row ++ l))
    ∙ ap (λ (m : List ℕ). number 0 (take (8 * n) m)) (drop_at front (row ++ l) _ (bits-length (width header) header))
    ∙ ap (number 0) (take_at row l (8 * n) (bits-length (8 * n) field))
    ∙ number-low (8 * n) field ∙ mod-eq_of_lt put.within
