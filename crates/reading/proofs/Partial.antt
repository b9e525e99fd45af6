-- A frame of which only the first bits are read. Assumes nothing.
--     width-least, width-most    a header has 19 bits, or 39
--     start-least    it stands before the CRC
--     long-stays     from IDE on, the form is that of the whole frame
--     dlc-there      the DLC, once its last bit is read
--     data-stays, dlc-stays, start-stays    from that bit on, the header's bits, the DLC and the position of the CRC are those of the
--                    whole frame
--     must-early     up to IDE the form is that of every frame
--     must-header    and in the header that of every frame with such a header
--     must-stays     the bit that must stand next is that of the whole frame's form, at any position
--     form-is        a frame's form, part by part
use mathlib.Core.Path.{◌≡◌, refl, sym, ap, ap₂, ◌∙◌}
use mathlib.Core.Bool.{Bool, true, false, cond}
use mathlib.Core.List.{List, [], ◌∷◌, ◌++◌}
use Prim.Native.Nat.{ℕ, ◌+◌, ◌-◌, ◌*◌, ◌≤◌, ◌<◌}
use native.Mathlib.Omega.{arith}
use lib.Dec.{eqb, ltb}
use lib.ListN.{length, get_or, take, drop, length-append, length-drop, get_or-append}
use lib.Seq.{take-append-le, drop-append-le}
use borrow.Author.Tests.{le-ltb, ltb-true, ltb-false}
use Rattle.bits.specs.Rows.{number}
use Rattle.wire.specs.Header.{long_part}
use Rattle.wire.specs.Line.{ending}
use Rattle.reading.specs.Form.{either, free, header_form, form}
use Rattle.reading.specs.Scan.{long_in, header_width, data_start, dlc_in, crc_start, must_be}

pub width-least : (long : Bool) → 19 ≤ header_width long
unfolding header_width
width-least true = omega arith
width-least false = omega arith

pub width-most : (long : Bool) → header_width long ≤ 39
unfolding header_width
width-most true = omega arith
width-most false = omega arith

pub start-least : (frame : List ℕ) → (19 ≤ crc_start frame) × (data_start frame ≤ crc_start frame)
unfolding crc_start
start-least frame = (omega (arith, width-least (long_in frame)), omega arith)

pub long-stays : (frame l : List ℕ) → 14 ≤ length frame → long_in (frame ++ l) ≡ long_in frame
unfolding long_in
long-stays frame l h = ap (λ (b : ℕ). eqb b 1) (get_or-append frame l 0 13 (omega arith))

pub dlc-there : (frame : List ℕ) → data_start frame ≤ length frame → dlc_in frame ≡ number 0 (take 4 (drop (data_start frame - 4) frame))
unfolding dlc_in
dlc-there frame h = simp (le-ltb _ _ h)

-- the last DLC bit is read
module _ (frame l : List ℕ) (h : data_start frame ≤ length frame) where
  pub data-stays : data_start (frame ++ l) ≡ data_start frame
  data-stays = ap header_width (long-stays frame l (omega (arith, h, width-least (long_in frame))))

  pub dlc-stays : dlc_in (frame ++ l) ≡ dlc_in frame
  dlc-stays =
      let w = data_start frame in
      let least = width-least (long_in frame) in
      let four : 4 ≤ length (drop (w - 4) frame) = omega (arith, h, least, length-drop (w - 4) frame) in
      dlc-there (frame ++ l) (omega (arith, h, data-stays, length-append frame l))
      ∙ ap (λ (k : ℕ). number 0 (take 4 (drop (k - 4) (frame ++ l)))) data-stays
      ∙ ap (λ (m : List ℕ). number 0 (take 4 m)) (drop-append-le (w - 4) frame l (omega (arith, h)))
      ∙ ap (number 0) (take-append-le 4 (drop (w - 4) frame) l four)
      ∙ sym (dlc-there frame h)

  pub start-stays : crc_start (frame ++ l) ≡ crc_start frame
  unfolding crc_start
  start-stays = ap₂ (λ (w n : ℕ). w + 8 * n) data-stays dlc-stays

-- the form of data and CRC bits
abbrev pub data_form : ℕ → List ℕ
data_form n = free (8 * n)

abbrev pub crc_form : List ℕ
crc_form = free 15

pub form-is : (long : Bool) (n : ℕ) → form long n ≡ header_form long ++ (data_form n ++ (crc_form ++ ending either))
unfolding form
form-is long n = refl

-- the form of what stands up to IDE, and behind it
abbrev pub front_form : List ℕ
front_form = 0 ∷ free 13

abbrev pub rest_form : Bool → List ℕ
rest_form long = cond long (long_part (free 18)) [] ++ (0 ∷ free 4)

pub header-form : (long : Bool) → header_form long ≡ front_form ++ rest_form long
unfolding header_form
header-form long = refl

pub header-form-length : (long : Bool) → length (header_form long) ≡ header_width long
unfolding header_form header_width
header-form-length true = refl
header-form-length false = refl

pub must-header : (long : Bool) (n i : ℕ) → i < header_width long → get_or (form long n) i either ≡ get_or (header_form long) i either
must-header long n i h =
    let behind = data_form n ++ (crc_form ++ ending either) in
    ap (λ (l : List ℕ). get_or l i either) (form-is long n)
    ∙ get_or-append (header_form long) behind either i (omega (arith, h, header-form-length long))

pub must-early : (long : Bool) (n i : ℕ) → i < 14 → get_or (form long n) i either ≡ get_or front_form i either
must-early long n i h =
    must-header long n i (omega (arith, h, width-least long)) ∙ ap (λ (l : List ℕ). get_or l i either) (header-form long)
    ∙ get_or-append front_form (rest_form long) either i h

pub must-stays : (frame l : List ℕ) → must_be frame ≡ get_or (form (long_in (frame ++ l)) (dlc_in (frame ++ l))) (length frame) either
unfolding must_be
must-stays frame l = early (ltb i 14) refl
  where
    all : List ℕ
    all = frame ++ l

    i : ℕ
    i = length frame

    must : Bool → ℕ → ℕ
    must long n = get_or (form long n) i either

    header : 14 ≤ i → (t : Bool) → ltb i (data_start frame) ≡ t → must (long_in frame) (dlc_in frame) ≡ must (long_in all) (dlc_in all)
    header late true e =
        let before = ltb-true i (data_start frame) e in
        must-header (long_in frame) (dlc_in frame) i before ∙ sym (must-header (long_in frame) (dlc_in all) i before)
        ∙ ap (λ (t : Bool). must t (dlc_in all)) (sym (long-stays frame l late))
    header late false e = ap₂ must (sym (long-stays frame l late)) (sym (dlc-stays frame l (ltb-false i (data_start frame) e)))

    early : (t : Bool) → ltb i 14 ≡ t → must (long_in frame) (dlc_in frame) ≡ must (long_in all) (dlc_in all)
    early true e =
        let before = ltb-true i 14 e in
        must-early (long_in frame) (dlc_in frame) i before ∙ sym (must-early (long_in all) (dlc_in all) i before)
    early false e = header (ltb-false i 14 e) (ltb i (data_start frame)) refl
