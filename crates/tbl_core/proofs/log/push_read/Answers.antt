use Rattle.std.proofs.Common.{rules, ◌≡◌, ◌∙◌, length, subst}
use Rattle.tbl_kinds.specs.declared.entry.Entry.{Entry}
use Rattle.tbl_core.specs.Engine.{Steps}
use Rattle.tbl_core.proofs.Places.{last_of, last_set}
use Rattle.tbl_core.proofs.Steps.{on_played, played}
use Rattle.tbl_core.proofs.Stepping.{advances_lent, entered}
use Rattle.tbl_core.proofs.log.push_read.Goals as goal

pub returns : goal.returns
returns g c =
    let b = g.B.Bank in
    let v = g.C.Validator in
    let entry = c.play_read-played.new.entry in
    let engine = c.play_read-played.new.self in
    let result = c.play_read-played.result in
    let before = c.args.entries.now.items in
    let items = c.push_reserved.ensures.items in
    let place : c.len-place.result ≡ length before = search rules in
    let here : c.index_mut-entry.result.now ≡ c.args.begun = c.index_mut-entry.ensures.value ∙ last_of before _ c.args.begun _ _ items place in
    let added = last_set before _ c.args.begun entry _ items place in
    let it = entered b v before _ c.args.engine.now engine c.args.begun.actor c.args.begun.request result
    (on_played result (λ s. (entry, added, subst (λ (e : Entry). Steps b v c.args.engine.now engine (e.actor, e.request) entry result) here s)) c.play_read-played.ensures.steps)
    (search rules) c.play_read-played.ensures.err c.requires.kept c.play_read-played.ensures.live in
    record {
      steps = advances_lent b v _ _ _ _ result it.0 (λ still. played result (entry, added, (c.play_read-played.ensures.lent still).1));
      kept = it.1;
    }

pub returns-2 : goal.returns-2
returns-2 g c =
    let b = g.B.Bank in
    let v = g.C.Validator in
    let entry = c.play_read-played.new.entry in
    let engine = c.play_read-played.new.self in
    let result = c.play_read-played.result in
    let before = c.args.entries.now.items in
    let items = c.push_reserved.ensures.items in
    let place : c.len-place.result ≡ length before = search rules in
    let here : c.index_mut-entry.result.now ≡ c.args.begun = c.index_mut-entry.ensures.value ∙ last_of before _ c.args.begun _ _ items place in
    let added = last_set before _ c.args.begun entry _ items place in
    let it = entered b v before _ c.args.engine.now engine c.args.begun.actor c.args.begun.request result
    (on_played result (λ s. (entry, added, subst (λ (e : Entry). Steps b v c.args.engine.now engine (e.actor, e.request) entry result) here s)) c.play_read-played.ensures.steps)
    (search rules) c.play_read-played.ensures.err c.requires.kept c.play_read-played.ensures.live in
    record {
      steps = advances_lent b v _ _ _ _ result it.0 (λ still. played result (entry, added, (c.play_read-played.ensures.lent still).1));
      kept = it.1;
    }
