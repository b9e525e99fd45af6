-- Bytes in hexadecimal. Assumes nothing.
--     hex-more       the next byte, behind those before it
--     hex-length     two digits for each
--     bytes-none, bytes-some    a dash for none
--     bytes_most     a text of at most 16 for at most 8 of them
use Rattle.std.proofs.Common.{◌≡◌, ℕ, ◌+◌, ◌*◌, ◌≤◌, ◌<◌, List, [], ◌∷◌, ◌++◌, length, get_or, take, refl, sym, ap, ◌∙◌, arith}
use Rattle.std.proofs.lemmas.List.{take_more, flat_map_more}
use Rattle.report.specs.Text.{dash, hex_byte, hex, bytes_text}

pub hex-more : (l : List ℕ) (i : ℕ) → i < length l → hex (take (i + 1) l) ≡ hex (take i l) ++ hex_byte (get_or l i 0)
hex-more l i h = ap hex (take_more l i 0 h) ∙ sym (flat_map_more hex_byte [] (take i l) (get_or l i 0))

pub hex-length : (l : List ℕ) → length (hex l) ≡ 2 * length l
hex-length [] = refl
hex-length (x ∷ l) = omega (arith, hex-length l)

pub bytes-none : (l : List ℕ) → length l ≡ 0 → bytes_text l ≡ dash ∷ []
unfolding bytes_text
bytes-none [] e = refl
bytes-none (x ∷ l) e = absurd (omega arith)

pub bytes-some : (l : List ℕ) → (length l ≡ 0 → ⊥) → bytes_text l ≡ hex l
unfolding bytes_text
bytes-some [] h = absurd (h refl)
bytes-some (x ∷ l) h = refl

pub bytes_most : (l : List ℕ) → length l ≤ 8 → length (bytes_text l) ≤ 16
unfolding bytes_text
bytes_most [] h = omega arith
bytes_most (x ∷ l) h = omega (arith, hex-length (x ∷ l))
