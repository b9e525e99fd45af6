-- What is said of a call for C on the toolchain's machine. Its memory is a list of blocks, each known by its place in that list; a block in
-- use has an alignment, a list of cells, and whether it may be written. Assumes nothing.
use Rattle.std.specs.Prelude.{◌≡◌, List, [], ◌∷◌, ◌++◌, map, ℕ, ◌<◌, ◌^◌, length}
use mathlib.Core.Bool.{true}
use mathlib.Core.Option.{some}
use mir.Mem.{byte}
use mir.Val.{Val}
use denote.Slice.{slice_val}
use prog.Machine.{done}
use prog.Memory.{Memory}
use prog.Routine.{Routine, step}
use Rattle.bits.specs.Below.{Below}

-- what a slice can hold: bytes, less than 2^63 of them [7.8]
abbrev pub Lendable : List ℕ → Type 0
Lendable bytes = Below 256 bytes × (length bytes < 2 ^ 63)

-- a memory and behind it one more block, which has these bytes and may be written [7.8]
abbrev pub beside : Memory → List ℕ → Memory
beside σ bytes = σ ++ (some (1, map byte bytes, true) ∷ [])

-- the machine's value for a slice of all these bytes: where that block begins, and how many they are [7.8]
abbrev pub slice : Memory → List ℕ → Val
slice σ bytes = slice_val (length σ, 0) (length bytes)

-- with fuel enough, the run of a routine with these values in the memory σ is done, with this answer, and leaves a memory of which
-- `Leaves` holds [7.8]
abbrev pub Ends : Routine → List Val → Memory → Val → (Memory → Type 0) → Type 0
Ends routine values σ answer Leaves =
    ∥ ((fuel : ℕ) × (σ' : Memory) × (step routine fuel values σ ≡ done (answer, σ')) × Leaves σ') ∥₁
