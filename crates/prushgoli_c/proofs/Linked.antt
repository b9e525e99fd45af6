-- An environment in which each call that the archive exports runs and ends (Runs, Ends): that of a program of these crates. Assumes nothing.
--     library                           it
--     c-encode-linked and six more      it has the code of each call, and of all that the call calls
use mathlib.Core.Bool.{true}
use mathlib.Core.List.{◌∷◌}
use mathlib.Core.Path.{refl}
use lib.Chars.{codes}
use prog.Linked.{World, Holds, in_world}
use prog.LinkedThreads.{HasT, tie_t}
use prog.Routine.{Env}
use prog.Wired.{Code, Wired}
use Rattle.demands.proofs.Linked as below
use Rattle.demands.proofs.Linked.{Program, wired}
use Rattle.prushgoli_c.proofs.TheLink as link
use Rattle.prushgoli_c.proofs.prushgoli_encode.Symbol as c-encode
use Rattle.prushgoli_c.proofs.prushgoli_decode.Symbol as c-decode
use Rattle.prushgoli_c.proofs.prushgoli_make_frame.Symbol as c-make-frame
use Rattle.prushgoli_c.proofs.prushgoli_frame_length.Symbol as c-frame-length
use Rattle.prushgoli_c.proofs.prushgoli_frame_bounds.Symbol as c-frame-bounds
use Rattle.prushgoli_c.proofs.prushgoli_read_line.Symbol as c-read-line
use Rattle.prushgoli_c.proofs.prushgoli_read_own_line.Symbol as c-read-own-line

program : World
program = (codes "prushgoli_c", link.table) ∷ below.program

here : Holds program "prushgoli_c" link.table
unfolding program
here = refl

has : Program program
unfolding program
has = record { bits = refl; refusals = refl; words = refl; field = refl; decoding = refl; crc = refl; frame = refl; scanning = refl; line = refl; prushgoli = refl; records = refl; report = refl }

called : link.Below program
called = (
  below.c-decode-code program has,
  (
    below.c-encode-code program has,
    (
      below.c-frame-bounds-code program has,
      (
        below.c-frame-length-code program has,
        (
          below.c-make-frame-code program has,
          (
            below.c-read-line-code program has,
            (
              below.c-read-own-line-code program has,
              tt,
            ),
          ),
        ),
      ),
    ),
  ),
)

pub library : Env
library = tie_t (in_world program)

linked : (code : Code) → HasT (in_world program) true code → Wired library code
unfolding library
linked = wired program

pub c-encode-linked : Wired library c-encode.code
c-encode-linked = linked c-encode.code (link.linked-prushgoli_c::prushgoli_encode program here called)

pub c-decode-linked : Wired library c-decode.code
c-decode-linked = linked c-decode.code (link.linked-prushgoli_c::prushgoli_decode program here called)

pub c-make-frame-linked : Wired library c-make-frame.code
c-make-frame-linked = linked c-make-frame.code (link.linked-prushgoli_c::prushgoli_make_frame program here called)

pub c-frame-length-linked : Wired library c-frame-length.code
c-frame-length-linked = linked c-frame-length.code (link.linked-prushgoli_c::prushgoli_frame_length program here called)

pub c-frame-bounds-linked : Wired library c-frame-bounds.code
c-frame-bounds-linked = linked c-frame-bounds.code (link.linked-prushgoli_c::prushgoli_frame_bounds program here called)

pub c-read-line-linked : Wired library c-read-line.code
c-read-line-linked = linked c-read-line.code (link.linked-prushgoli_c::prushgoli_read_line program here called)

pub c-read-own-line-linked : Wired library c-read-own-line.code
c-read-own-line-linked = linked c-read-own-line.code (link.linked-prushgoli_c::prushgoli_read_own_line program here called)
