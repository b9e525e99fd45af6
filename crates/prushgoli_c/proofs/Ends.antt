-- The machine's run of each call that the archive exports, in every environment γ, as a program is one, that has the code of the call and of
-- all that it calls (Linked has one). From every memory σ, with the lent bytes in blocks of their own beside it, the run is `done` with fuel
-- enough, so neither stuck nor endless, with the answer of the contract; what was lent to read then holds what it held, and what was lent to
-- write what the contract says. It is asked that numbers fit their types and that slices are as Rattle has them (`Lendable`). Assumes nothing.
--     c-encode-ends, c-decode-ends, c-make-frame-ends, c-frame-length-ends, c-frame-bounds-ends, c-read-line-ends,
--     c-read-own-line-ends
use mathlib.Core.List.{List, [], ◌∷◌}
use Prim.Native.Nat.{ℕ, ◌<◌, ◌^◌}
use lib.ListN.{length}
use mir.Syntax.{w32, w64}
use mir.Val.{vint}
use prog.Memory.{Memory}
use prog.AdequacyRun.{Holds}
use prog.Routine.{Env}
use prog.Wired.{Wired}
use Rattle.refusals.specs.Table.{answer_numbers}
use Rattle.refusals.specs.After.{after}
use Rattle.field.specs.Field.{field_of}
use Rattle.field.specs.Encode.{encode_answer}
use Rattle.decoding.specs.Decode.{decode_answer, payload_of}
use Rattle.wire.specs.Identifier.{identifier_of}
use Rattle.wire.specs.Answers.{payload_line, make_answer, length_answer, bounds_answer, bounds_numbers}
use Rattle.line.specs.Read.{acknowledged, own, read_answer, payload_in, line_numbers}
use Rattle.prushgoli.specs.Packing.{pack}
use Rattle.prushgoli_c.proofs.prushgoli_encode.Symbol as c-encode
use Rattle.prushgoli_c.proofs.prushgoli_decode.Symbol as c-decode
use Rattle.prushgoli_c.proofs.prushgoli_make_frame.Symbol as c-make-frame
use Rattle.prushgoli_c.proofs.prushgoli_frame_length.Symbol as c-frame-length
use Rattle.prushgoli_c.proofs.prushgoli_frame_bounds.Symbol as c-frame-bounds
use Rattle.prushgoli_c.proofs.prushgoli_read_line.Symbol as c-read-line
use Rattle.prushgoli_c.proofs.prushgoli_read_own_line.Symbol as c-read-own-line
use Rattle.demands.specs.Ends.{Lendable, beside, slice, Ends}
use Rattle.demands.proofs.Running.{given}
use Rattle.demands.proofs.Blocks.{ends-alone, ends-reading, ends-writing}
use Rattle.prushgoli_c.proofs.Runs.{c-encode-runs, c-decode-runs, c-make-frame-runs, c-frame-length-runs, c-frame-bounds-runs, c-read-line-runs, c-read-own-line-runs}

pub c-encode-ends : (γ : Env) → Wired γ c-encode.code → (σ : Memory) (payload field : List ℕ) → Lendable payload → Lendable field →
    let answer = encode_answer payload (length field) in
    let σ₁ = beside σ payload in
    Ends (γ c-encode.name) (slice σ payload ∷ slice σ₁ field ∷ []) (beside σ₁ field) (vint w64 (pack (answer_numbers answer)))
    (λ σ'. Holds σ' (length σ) 0 payload × Holds σ' (length σ₁) 0 (after (answer_numbers answer) (field_of payload) field))
c-encode-ends γ has σ payload field ok ok' = ends-writing (c-encode-runs γ has) (λ κs i. tt) σ payload field ok ok' (λ κs δ a s says. says)

pub c-decode-ends : (γ : Env) → Wired γ c-decode.code → (σ : Memory) (field payload : List ℕ) → Lendable field → Lendable payload →
    let answer = decode_answer field (length payload) in
    let σ₁ = beside σ field in
    Ends (γ c-decode.name) (slice σ field ∷ slice σ₁ payload ∷ []) (beside σ₁ payload) (vint w64 (pack (answer_numbers answer)))
    (λ σ'. Holds σ' (length σ) 0 field × Holds σ' (length σ₁) 0 (after (answer_numbers answer) (payload_of field) payload))
c-decode-ends γ has σ field payload ok ok' = ends-writing (c-decode-runs γ has) (λ κs i. tt) σ field payload ok ok' (λ κs δ a s says. says)

pub c-make-frame-ends : (γ : Env) → Wired γ c-make-frame.code → (σ : Memory) (identifier : ℕ) (payload line : List ℕ) → identifier < 2 ^ 32 → Lendable payload → Lendable line →
    let answer = make_answer (identifier_of identifier) payload (length line) in
    let σ₁ = beside σ payload in
    Ends (γ c-make-frame.name) (vint w32 identifier ∷ slice σ payload ∷ slice σ₁ line ∷ []) (beside σ₁ line) (vint w64 (pack (answer_numbers answer)))
    (λ σ'. Holds σ' (length σ) 0 payload × Holds σ' (length σ₁) 0 (after (answer_numbers answer) (payload_line (identifier_of identifier) payload) line))
c-make-frame-ends γ has σ identifier payload line fits ok ok' =
    ends-writing (given (c-make-frame-runs γ has) identifier fits) (λ κs i. tt) σ payload line ok ok' (λ κs δ a s says. says)

pub c-frame-length-ends : (γ : Env) → Wired γ c-frame-length.code → (σ : Memory) (identifier : ℕ) (payload : List ℕ) → identifier < 2 ^ 32 → Lendable payload →
    let answer = length_answer (identifier_of identifier) payload in
    Ends (γ c-frame-length.name) (vint w32 identifier ∷ slice σ payload ∷ []) (beside σ payload) (vint w64 (pack (answer_numbers answer)))
    (λ σ'. Holds σ' (length σ) 0 payload)
c-frame-length-ends γ has σ identifier payload fits ok =
    ends-reading (given (c-frame-length-runs γ has) identifier fits) (λ κs i. tt) σ payload ok (λ κs a s says. says)

pub c-frame-bounds-ends : (γ : Env) → Wired γ c-frame-bounds.code → (σ : Memory) (identifier size : ℕ) → identifier < 2 ^ 32 → size < 2 ^ 64 →
    let answer = bounds_answer (identifier_of identifier) size in
    Ends (γ c-frame-bounds.name) (vint w32 identifier ∷ vint w64 size ∷ []) σ (vint w64 (pack (bounds_numbers answer))) (λ σ'. Unit {0})
c-frame-bounds-ends γ has σ identifier size fits fits' =
    ends-alone (given (given (c-frame-bounds-runs γ has) identifier fits) size fits') tt σ (λ a says. says)

pub c-read-line-ends : (γ : Env) → Wired γ c-read-line.code → (σ : Memory) (line payload : List ℕ) → Lendable line → Lendable payload →
    let answer = read_answer acknowledged line (length payload) in
    let σ₁ = beside σ line in
    Ends (γ c-read-line.name) (slice σ line ∷ slice σ₁ payload ∷ []) (beside σ₁ payload) (vint w64 (pack (line_numbers answer)))
    (λ σ'. Holds σ' (length σ) 0 line × Holds σ' (length σ₁) 0 (after (line_numbers answer) (payload_in acknowledged line) payload))
c-read-line-ends γ has σ line payload ok ok' = ends-writing (c-read-line-runs γ has) (λ κs i. tt) σ line payload ok ok' (λ κs δ a s says. says)

pub c-read-own-line-ends : (γ : Env) → Wired γ c-read-own-line.code → (σ : Memory) (line payload : List ℕ) → Lendable line → Lendable payload →
    let answer = read_answer own line (length payload) in
    let σ₁ = beside σ line in
    Ends (γ c-read-own-line.name) (slice σ line ∷ slice σ₁ payload ∷ []) (beside σ₁ payload) (vint w64 (pack (line_numbers answer)))
    (λ σ'. Holds σ' (length σ) 0 line × Holds σ' (length σ₁) 0 (after (line_numbers answer) (payload_in own line) payload))
c-read-own-line-ends γ has σ line payload ok ok' = ends-writing (c-read-own-line-runs γ has) (λ κs i. tt) σ line payload ok ok' (λ κs δ a s says. says)
