use Rattle.std.proofs.Common.{◌≡◌, ◌≢◌, ℕ, ◌≤◌, List, [], ◌++◌, length, get_or, drop, ap, ◌∙◌, arith}
use Rattle.std.specs.List.{flat_map}
use Rattle.std.proofs.lemmas.List.{append-nil}
use Rattle.tbl_maker.specs.Values.{hex_pair}
use Rattle.tbl_maker.specs.Parts.{IsNoHex}
use Rattle.tbl_maker.proofs.Numbers.{if_none}
use Rattle.tbl_maker.proofs.Hex.{no_high, no_low, too_many, no_pair, no_bytes, two_first, none_left, some_left, some_length}
use Rattle.tbl_maker.proofs.value.hex_bytes.Goals as goal

pub returns-in_err-digit_in-clause-none : goal.returns-in_err-digit_in-clause-none
returns-in_err-digit_in-clause-none c =
    let text = c.args.text.now in
    let bytes = c.loop-rest.bytes.items in
    let rest = c.loop-rest.rest.now in
    let is = c.loop-rest.invariant.text ∙ ap (λ (l : List ℕ). flat_map hex_pair bytes ++ l) (two_first rest c.in-len2-up.len_at_least) in
    if_none c.from_residual.result (IsNoHex text) (no_high text bytes (drop 2 rest) (get_or rest 0 0) (get_or rest 1 0) is c.loop-rest.invariant.are_bytes c.in_err-digit_in.ensures.none)

pub returns-in_err-byte-clause-none : goal.returns-in_err-byte-clause-none
returns-in_err-byte-clause-none c =
    let text = c.args.text.now in
    let bytes = c.loop-rest.bytes.items in
    let rest = c.loop-rest.rest.now in
    let is = c.loop-rest.invariant.text ∙ ap (λ (l : List ℕ). flat_map hex_pair bytes ++ l) (two_first rest c.in-len2-up.len_at_least) in
    if_none c.from_residual-in_err-byte.result (IsNoHex text) (no_low text bytes (drop 2 rest) (get_or rest 0 0) (get_or rest 1 0) is c.loop-rest.invariant.are_bytes c.in_err-byte.ensures.none)

pub returns-then-is_err-clause-none : goal.returns-then-is_err-clause-none
returns-then-is_err-clause-none c =
    let text = c.args.text.now in
    let bytes = c.loop-rest.bytes.items in
    let rest = c.loop-rest.rest.now in
    let is = c.loop-rest.invariant.text ∙ ap (λ (l : List ℕ). flat_map hex_pair bytes ++ l) (two_first rest c.in-len2-up.len_at_least) in
    let full : 64 ≤ length bytes = grind (arith, c.try_push.ensures, c.is_err.ensures, c.if-is_err.true) in
    too_many text bytes (drop 2 rest) (get_or rest 0 0) (get_or rest 1 0) is c.loop-rest.invariant.are_bytes full

pub returns-then-not-is_empty-clause-none : goal.returns-then-not-is_empty-clause-none
returns-then-not-is_empty-clause-none c =
    no_pair c.args.text.now c.loop-rest.bytes.items c.loop-rest.rest.now c.loop-rest.invariant.text c.loop-rest.invariant.are_bytes
    (some_left c.is_empty.result c.loop-rest.rest.now c.is_empty.ensures c.if-not-is_empty.true) c.in_default.len_below

pub returns-then-is_empty-clause-none : goal.returns-then-is_empty-clause-none
returns-then-is_empty-clause-none c =
    let rest : c.loop-rest.rest.now ≡ [] = none_left c.is_empty.result c.loop-rest.rest.now c.is_empty.ensures c.if-not-is_empty.false in
    let bytes : c.loop-rest.bytes.items ≡ [] = none_left c.is_empty-2.result c.loop-rest.bytes.items c.is_empty-2.ensures c.if-is_empty.true in
    no_bytes c.args.text.now (c.loop-rest.invariant.text ∙ ap (λ (l : List ℕ). flat_map hex_pair l ++ c.loop-rest.rest.now) bytes ∙ rest)

pub returns-clause-some : goal.returns-clause-some
returns-clause-some c =
    let bytes = c.loop-rest.bytes.items in
    let rest : c.loop-rest.rest.now ≡ [] = none_left c.is_empty.result c.loop-rest.rest.now c.is_empty.ensures c.if-not-is_empty.false in
    let some : bytes ≢ [] = some_left c.is_empty-2.result bytes c.is_empty-2.ensures c.if-is_empty.false in
    record {
      is_value = record { some = some_length bytes some; few = c.loop-rest.invariant.few; are_bytes = c.loop-rest.invariant.are_bytes };
      text_is = c.loop-rest.invariant.text ∙ ap (λ (l : List ℕ). flat_map hex_pair bytes ++ l) rest ∙ append-nil (flat_map hex_pair bytes);
    }
