use Rattle.std.proofs.Common.{rules, ◌≡◌, ℕ, ◌+◌, List, [], ◌∷◌, Bool, true, false, is_ok, sym, ◌∙◌, subst, inl, inr, IfErr}
use Rattle.std.proofs.lemmas.Result.{on_ok_weaker, IfErr-weaker}
use Rattle.tbl_kinds.specs.Numbers.{patched}
use Rattle.tbl_outside.specs.Bank.{Torn}
use Rattle.tbl_outside.specs.BankCalls.{Asks, write}
use Rattle.tbl_outside.proofs.BankCalls.{asks_then, asks_no_more}
use Rattle.tbl_outside.proofs.Moments.{goes_on, leaves_among}
use Rattle.tbl_kinds.specs.declared.block.Block.{Block}
use Rattle.cds_layout.specs.Entries.{turn_place}
use Rattle.cds_layout.specs.Images.{place_at, head_len, hidden_in, opened_in}
use Rattle.cds_layout.specs.Order.{turn_calls, copy_calls}
use Rattle.cds_layout.specs.Turns.{shown_by, other, opened_by, byte_of}
use Rattle.cds_layout.specs.declared.turns.Place.{Place}
use Rattle.cds_layout.specs.declared.turns.Turn.{Turn}
use Rattle.cds_store.specs.Calls.{HasFlags}
use Rattle.cds_store.specs.Moments.{with_place, TearsBy, TearsTurn}
use Rattle.cds_store.proofs.writes.write_spelled.Goals as goal

-- what was torn in a place, of bytes that are these
moved : {p q : Place} {n : ℕ} {mid old image : List ℕ} (b : Block) → p ≡ q → n ≡ head_len + b.size → mid ≡ old → Torn (place_at b p) n mid image → Torn (place_at b q) (head_len + b.size) old image
moved b place size bytes torn = rw (← place, ← size, ← bytes) torn

pub returns-in_err-turns : goal.returns-in_err-turns
returns-in_err-turns g c =
    let b = g.B.Bank in
    let flags : IfErr c.from_residual.result (HasFlags false false) = search rules in
    let old = b.now c.args.bank.now in
    let broke : Asks b.tells_calls b.calls c.args.bank.now c.read_turns.new.bank false (copy_calls old c.args.slot c.args.block.now c.args.place_bytes.now) =
    asks_no_more b.tells_calls b.calls c.args.bank.now c.read_turns.new.bank (turn_calls c.args.slot)
    (write (place_at c.args.block.now (hidden_in old c.args.slot)) c.args.place_bytes.now ∷ write (turn_place c.args.slot (hidden_in old c.args.slot)) (byte_of (opened_in old c.args.slot) ∷ []) ∷ [])
    c.in_err-turns.ensures.bank_calls in
    record {
      copies = record {
        done = search rules;
        err =
            IfErr-weaker c.from_residual.result (HasFlags false false) _
            (λ fault has told.
            subst (λ (gate : Bool). TearsBy gate c.args.slot c.args.block.now c.args.place_bytes.now (b.now c.args.bank.now) (b.now c.read_turns.new.bank)) (sym has.gate_is) (inl (c.read_turns.ensures.reads.kept told)))
            flags;
        moments = λ told. leaves_among (c.read_turns.ensures.reads.moments told) (λ image same. inl (inl same));
        steady = search rules;
        counted = search rules;
        bank_calls = λ told. search rules;
        flags = search rules;
      };
    }

pub returns-in-Err : goal.returns-in-Err
returns-in-Err g c =
    let b = g.B.Bank in
    let slot = c.args.slot in
    let block = c.args.block.now in
    let old = b.now c.args.bank.now in
    let new = b.now c.write_place.new.bank in
    let hidden = λ (told : b.tells). c.hidden-place.ensures ∙ (λ i. other (shown_by ((c.in_ok-turns.ensures.turns told).first i) ((c.in_ok-turns.ensures.turns told).second i))) in
    record {
      copies = record {
        done = search rules;
        err = λ told.
            subst (λ (gate : Bool). TearsBy gate slot block c.args.place_bytes.now old new) (sym c.in-Err.ensures.writes.flags.gate_is) (inr (moved block (hidden told) c.requires.size (c.read_turns.ensures.reads.kept told) (c.write_place.ensures.writes.torn told)));
        moments = λ told.
            let tells = g.met.B.Bank.tells_both told in
            goes_on (leaves_among (c.read_turns.ensures.reads.moments told) (λ image same. inl (inl same)))
            (c.write_place.ensures.writes.moments told)
            (λ image torn. inl (inr (moved block (hidden tells) c.requires.size (c.read_turns.ensures.reads.kept tells) torn)));
        steady = search rules;
        counted = search rules;
        bank_calls = λ told.
            asks_then b.tells_calls b.calls c.args.bank.now c.read_turns.new.bank c.write_place.new.bank false (turn_calls slot)
            (write (place_at block (hidden_in old slot)) c.args.place_bytes.now ∷ write (turn_place slot (hidden_in old slot)) (byte_of (opened_in old slot) ∷ []) ∷ [])
            c.in_ok-turns.ensures.bank_calls
            (asks_no_more b.tells_calls b.calls c.read_turns.new.bank c.write_place.new.bank (write (place_at block (hidden_in old slot)) c.args.place_bytes.now ∷ [])
            (write (turn_place slot (hidden_in old slot)) (byte_of (opened_in old slot) ∷ []) ∷ [])
            (subst (λ (p : Place). Asks b.tells_calls b.calls c.read_turns.new.bank c.write_place.new.bank false (write (place_at block p) c.args.place_bytes.now ∷ [])) (hidden told) c.in-Err.ensures.writes.bank_calls));
        flags = search rules;
      };
    }

pub returns-in-Ok : goal.returns-in-Ok
returns-in-Ok g c =
    let b = g.B.Bank in
    let slot = c.args.slot in
    let block = c.args.block.now in
    let old = b.now c.args.bank.now in
    let new = b.now c.write_turn.new.bank in
    let hidden = λ (told : b.tells). c.hidden-place.ensures ∙ (λ i. other (shown_by ((c.in_ok-turns.ensures.turns told).first i) ((c.in_ok-turns.ensures.turns told).second i))) in
    let opened = λ (told : b.tells). c.opened.ensures ∙ (λ i. opened_by ((c.in_ok-turns.ensures.turns told).first i) ((c.in_ok-turns.ensures.turns told).second i)) in
    let mid = λ (told : b.tells). c.in-Ok.ensures.writes.done told ∙ (λ i. patched (c.read_turns.ensures.reads.kept told i) (place_at block (hidden told i)) c.args.place_bytes.now) in
    record {
      copies = record {
        done =
            on_ok_weaker c.write_turn.result
            (λ done told.
            done told ∙ (λ i. patched (mid told i) (turn_place slot (hidden told i)) (byte_of (opened told i) ∷ [])))
            c.write_turn.ensures.writes.done;
        err =
            IfErr-weaker c.write_turn.result (HasFlags true false) _
            (λ fault flags told.
            let torn : TearsTurn slot block c.args.place_bytes.now old new =
            subst (λ (p : Place). Torn (turn_place slot p) 1 (with_place slot block c.args.place_bytes.now old) new) (hidden told)
            (subst (λ (bytes : List ℕ). Torn (turn_place slot c.hidden-place.result) 1 bytes new) (mid told) (c.write_turn.ensures.writes.torn told)) in
            subst (λ (gate : Bool). TearsBy gate slot block c.args.place_bytes.now old new) (sym flags.gate_is) torn)
            c.write_turn.ensures.writes.flags;
        moments = λ told.
            let tells = g.met.B.Bank.tells_both told in
            goes_on
            (goes_on (leaves_among (c.read_turns.ensures.reads.moments told) (λ image same. inl (inl same)))
            (c.write_place.ensures.writes.moments told)
            (λ image torn. inl (inr (moved block (hidden tells) c.requires.size (c.read_turns.ensures.reads.kept tells) torn))))
            (c.write_turn.ensures.writes.moments told)
            (λ image torn. inr (subst (λ (p : Place). Torn (turn_place slot p) 1 (with_place slot block c.args.place_bytes.now old) image) (hidden tells)
            (subst (λ (bytes : List ℕ). Torn (turn_place slot c.hidden-place.result) 1 bytes image) (mid tells) torn)));
        steady = search rules;
        counted = search rules;
        bank_calls = λ told.
            asks_then b.tells_calls b.calls c.args.bank.now c.read_turns.new.bank c.write_turn.new.bank (is_ok c.write_turn.result) (turn_calls slot)
            (write (place_at block (hidden_in old slot)) c.args.place_bytes.now ∷ write (turn_place slot (hidden_in old slot)) (byte_of (opened_in old slot) ∷ []) ∷ [])
            c.in_ok-turns.ensures.bank_calls
            (asks_then b.tells_calls b.calls c.read_turns.new.bank c.write_place.new.bank c.write_turn.new.bank (is_ok c.write_turn.result) (write (place_at block (hidden_in old slot)) c.args.place_bytes.now ∷ [])
            (write (turn_place slot (hidden_in old slot)) (byte_of (opened_in old slot) ∷ []) ∷ [])
            (subst (λ (p : Place). Asks b.tells_calls b.calls c.read_turns.new.bank c.write_place.new.bank true (write (place_at block p) c.args.place_bytes.now ∷ [])) (hidden told) c.in-Ok.ensures.writes.bank_calls)
            (subst (λ (p : Place). Asks b.tells_calls b.calls c.write_place.new.bank c.write_turn.new.bank (is_ok c.write_turn.result) (write (turn_place slot p) (byte_of (opened_in old slot) ∷ []) ∷ [])) (hidden told)
            (subst (λ (t : Turn). Asks b.tells_calls b.calls c.write_place.new.bank c.write_turn.new.bank (is_ok c.write_turn.result) (write (turn_place slot c.hidden-place.result) (byte_of t ∷ []) ∷ [])) (opened told) c.write_turn.ensures.writes.bank_calls)));
        flags = search rules;
      };
    }
