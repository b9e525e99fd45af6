-- Bits that fit a form: each is the one that must stand there, or either may. Assumes nothing.
--     Fits           this, as far as both lists go
--     fits-at, at-fits    bit by bit
--     fits-append    two parts behind each other
--     fits-drop      the last parts of both
--     fits-free      where either may stand, any bit fits
--     fits-same      a row fits itself
--     fits-fixed     where one must stand, it stands
use mathlib.Core.Path.{◌≡◌, refl, sym, ap, ap₂}
use mathlib.Core.Bool.{true, or-true}
use mathlib.Core.List.{List, [], ◌∷◌, ◌++◌}
use Prim.Native.Nat.{ℕ, zero, suc, ◌≤◌, ◌<◌}
use native.Mathlib.Nat.{not-suc-le-zero, le_of_suc-le-suc}
use native.Mathlib.Omega.{arith}
use lib.Dec.{eqb}
use lib.ListN.{length, get_or, take, drop, replicate}
use borrow.Author.Tests.{eqb-true, eq-eqb, ne_eqb}
use Rattle.bits.specs.Below.{Below}
use Rattle.reading.specs.Form.{either, fits}

abbrev pub Fits : List ℕ → List ℕ → Type 0
Fits [] l = Unit {0}
Fits (m ∷ f) [] = Unit {0}
Fits (m ∷ f) (b ∷ l) = (fits m b ≡ true) × Fits f l

pub fits-at : (f l m : List ℕ) (b : ℕ) → Fits f (l ++ (b ∷ m)) → fits (get_or f (length l) either) b ≡ true
fits-at [] l m b h = refl
fits-at (x ∷ f) [] m b h = h.0
fits-at (x ∷ f) (y ∷ l) m b h = fits-at f l m b h.1

pub at-fits : (f l : List ℕ)
    → ((g m : List ℕ) (b : ℕ) → g ++ (b ∷ m) ≡ l → fits (get_or f (length g) either) b ≡ true) → Fits f l
at-fits [] l h = tt
at-fits (x ∷ f) [] h = tt
at-fits (x ∷ f) (b ∷ l) h = (h [] l b refl, at-fits f l (λ g m c e. h (b ∷ g) m c (ap (b ∷◌) e)))

pub fits-append : (f g l m : List ℕ) → length f ≡ length l → Fits f l → Fits g m → Fits (f ++ g) (l ++ m)
fits-append [] g [] m e h k = k
fits-append [] g (b ∷ l) m e h k = absurd (omega arith)
fits-append (x ∷ f) g [] m e h k = absurd (omega arith)
fits-append (x ∷ f) g (b ∷ l) m e h k = (h.0, fits-append f g l m (omega arith) h.1 k)

fits-none : (f : List ℕ) → Fits f []
fits-none [] = tt
fits-none (x ∷ f) = tt

pub fits-drop : (n : ℕ) (f l : List ℕ) → Fits f l → Fits (drop n f) (drop n l)
fits-drop zero f l h = h
fits-drop (suc n) [] l h = tt
fits-drop (suc n) (x ∷ f) [] h = fits-none (drop n f)
fits-drop (suc n) (x ∷ f) (b ∷ l) h = fits-drop n f l h.1

pub fits-free : (n : ℕ) (l : List ℕ) → Fits (replicate n either) l
fits-free zero l = tt
fits-free (suc n) [] = tt
fits-free (suc n) (b ∷ l) = (refl, fits-free n l)

pub fits-same : (l : List ℕ) → Fits l l
fits-same [] = tt
fits-same (b ∷ l) = (rw (eq-eqb b b refl) (or-true (eqb b either)), fits-same l)

pub fits-fixed : (n v : ℕ) (f l : List ℕ) → v < 2 → Below 2 l → n ≤ length l
    → Fits (replicate n v ++ f) l → take n l ≡ replicate n v
fits-fixed zero v f l h below long fitting = refl
fits-fixed (suc n) v f [] h below long fitting = absurd (not-suc-le-zero long)
fits-fixed (suc n) v f (b ∷ l) h below long fitting =
    let is : b ≡ v = sym (eqb-true v b (rw (ne_eqb v either (λ e. omega arith)) at fitting.0)) in
    ap₂ ◌∷◌ is (fits-fixed n v f l h below.1 (le_of_suc-le-suc long) fitting.1)
