-- The machine's run of each call that the archive exports, from its contract, in the words of the toolchain's logic (Rattle.demands.specs.Runs),
-- in every environment that has its code and that of all that it calls. Assumes nothing.
--     c-encode-runs and six more
use contract.BorrowModel.{logic₀}
use contract.Closed.{model⁺}
use ghost.Model.{𝓤}
use Rattle.demands.proofs.Running.{runs, running}
use Rattle.demands.specs.Runs.{RunsEverywhere}
use Rattle.prushgoli_c.proofs.prushgoli_encode as c-encode
use Rattle.prushgoli_c.proofs.prushgoli_decode as c-decode
use Rattle.prushgoli_c.proofs.prushgoli_make_frame as c-make-frame
use Rattle.prushgoli_c.proofs.prushgoli_frame_length as c-frame-length
use Rattle.prushgoli_c.proofs.prushgoli_frame_bounds as c-frame-bounds
use Rattle.prushgoli_c.proofs.prushgoli_read_line as c-read-line
use Rattle.prushgoli_c.proofs.prushgoli_read_own_line as c-read-own-line

pub c-encode-runs : RunsEverywhere c-encode.Kinds.ps c-encode.Kinds.r c-encode.Reads.Asked c-encode.Reads.Learnt c-encode.Symbol.code c-encode.Symbol.name
c-encode-runs = runs c-encode.Symbol.code c-encode.Symbol.name c-encode.Reads.known (λ γ. c-encode.Met.met 𝓤 logic₀ model⁺ (running γ))

pub c-decode-runs : RunsEverywhere c-decode.Kinds.ps c-decode.Kinds.r c-decode.Reads.Asked c-decode.Reads.Learnt c-decode.Symbol.code c-decode.Symbol.name
c-decode-runs = runs c-decode.Symbol.code c-decode.Symbol.name c-decode.Reads.known (λ γ. c-decode.Met.met 𝓤 logic₀ model⁺ (running γ))

pub c-make-frame-runs : RunsEverywhere c-make-frame.Kinds.ps c-make-frame.Kinds.r c-make-frame.Reads.Asked c-make-frame.Reads.Learnt c-make-frame.Symbol.code c-make-frame.Symbol.name
c-make-frame-runs = runs c-make-frame.Symbol.code c-make-frame.Symbol.name c-make-frame.Reads.known (λ γ. c-make-frame.Met.met 𝓤 logic₀ model⁺ (running γ))

pub c-frame-length-runs : RunsEverywhere c-frame-length.Kinds.ps c-frame-length.Kinds.r c-frame-length.Reads.Asked c-frame-length.Reads.Learnt c-frame-length.Symbol.code c-frame-length.Symbol.name
c-frame-length-runs = runs c-frame-length.Symbol.code c-frame-length.Symbol.name c-frame-length.Reads.known (λ γ. c-frame-length.Met.met 𝓤 logic₀ model⁺ (running γ))

pub c-frame-bounds-runs : RunsEverywhere c-frame-bounds.Kinds.ps c-frame-bounds.Kinds.r c-frame-bounds.Reads.Asked c-frame-bounds.Reads.Learnt c-frame-bounds.Symbol.code c-frame-bounds.Symbol.name
c-frame-bounds-runs = runs c-frame-bounds.Symbol.code c-frame-bounds.Symbol.name c-frame-bounds.Reads.known (λ γ. c-frame-bounds.Met.met 𝓤 logic₀ model⁺ (running γ))

pub c-read-line-runs : RunsEverywhere c-read-line.Kinds.ps c-read-line.Kinds.r c-read-line.Reads.Asked c-read-line.Reads.Learnt c-read-line.Symbol.code c-read-line.Symbol.name
c-read-line-runs = runs c-read-line.Symbol.code c-read-line.Symbol.name c-read-line.Reads.known (λ γ. c-read-line.Met.met 𝓤 logic₀ model⁺ (running γ))

pub c-read-own-line-runs : RunsEverywhere c-read-own-line.Kinds.ps c-read-own-line.Kinds.r c-read-own-line.Reads.Asked c-read-own-line.Reads.Learnt c-read-own-line.Symbol.code c-read-own-line.Symbol.name
c-read-own-line-runs = runs c-read-own-line.Symbol.code c-read-own-line.Symbol.name c-read-own-line.Reads.known (λ γ. c-read-own-line.Met.met 𝓤 logic₀ model⁺ (running γ))
