-- The check byte of a command packet.
use Rattle.std.proofs.Common.{◌≡◌, ℕ, ◌+◌, List, [], ◌∷◌, ◌++◌, length, drop, sym, ap, ◌∙◌, append_assoc, arith}
use Rattle.std.specs.Prelude.{bit_xor}
use Rattle.std.specs.List.{fold}
use Rattle.std.proofs.lemmas.List.Sums.{fold-append}
use Rattle.std.proofs.Math.Seq.{drop-append_seam}
use Rattle.tbl_kinds.specs.Packets.{primary_header, command_packet, checksum}

-- a packet that is appended piece by piece, its check byte from the pieces before it and the payload
pub packet_from_pieces :
    (old : List ℕ) (id count code : ℕ) (payload out : List ℕ) (front check : ℕ)
    → out ≡ (old ++ primary_header id count (8 + length payload)) ++ code ∷ []
    → front ≡ fold bit_xor 0xFF (drop (length old) out)
    → check ≡ fold bit_xor front payload
    → (out ++ check ∷ []) ++ payload ≡ old ++ command_packet id count code payload
unfolding command_packet
packet_from_pieces old id count code payload out front check out-is front-is check-is =
    let f : List ℕ = primary_header id count (8 + length payload) ++ code ∷ [] in
    let out-parts : out ≡ old ++ f = out-is ∙ append_assoc old (primary_header id count (8 + length payload)) (code ∷ []) in
    let here : drop (length old) out ≡ f = ap (λ (s : List ℕ). drop (length old) s) out-parts ∙ drop-append_seam old f in
    let front-of-f : front ≡ fold bit_xor 0xFF f = front-is ∙ ap (λ (s : List ℕ). fold bit_xor 0xFF s) here in
    let whole : check ≡ checksum (f ++ payload) = check-is ∙ ap (λ (n : ℕ). fold bit_xor n payload) front-of-f ∙ sym (fold-append bit_xor 0xFF f payload) in
    ap (λ (s : List ℕ). (s ++ check ∷ []) ++ payload) out-parts
    ∙ ap (λ (n : ℕ). ((old ++ f) ++ n ∷ []) ++ payload) whole
    ∙ append_assoc (old ++ f) (checksum (f ++ payload) ∷ []) payload
    ∙ append_assoc old f (checksum (f ++ payload) ∷ payload)

pub length-command_packet : (id count code : ℕ) (payload : List ℕ) → length (command_packet id count code payload) ≡ 8 + length payload
unfolding command_packet primary_header
length-command_packet id count code payload = omega arith
