use Rattle.std.proofs.Common.{refl, [], ◌∷◌}
use Rattle.std.specs.Prelude.{drop}
use Rattle.tbl_stream.specs.Playing.{moment}
use Rattle.tbl_stream.proofs.PlayingLemmas.{plays_of_nothing}
use Rattle.tbl_stream.proofs.RecordLemmas.{never_full, refusal_leaves, stop_full, stop_leaves, item_left, item_some}
use Rattle.tbl_stream.proofs.playback.Playback.play_next.Goals as goal

-- no record is whole
pub returns-in-Err-clause-plays : goal.returns-in-Err-clause-plays
returns-in-Err-clause-plays g c =
    let none = c.in-Err.ensures.none in
    plays_of_nothing g.B.Bank g.C.Validator.verdict c.in-Err.standing (moment g.K.Sink c.args.self.now c.args.sink.now) (drop c.args.at.now c.args.bytes.now) none.input.0 (never_full c.in-Err.standing c.args.self.now.engine.played none.input) c.requires.live

-- one wasn't played
pub returns-in-Err-play_record-clause-plays : goal.returns-in-Err-play_record-clause-plays
returns-in-Err-play_record-clause-plays g c = let refused = c.in-Err-play_record.ensures in record { entries = []; plays = refused.2; parts = refl; full = refused.1 }

pub returns-in-Err-play_record-clause-leaves : goal.returns-in-Err-play_record-clause-leaves
returns-in-Err-play_record-clause-leaves g c = refusal_leaves c.in-Err-play_record.standing _ (drop c.args.at.now c.args.bytes.now) c.in-Err-play_record.ensures.0

-- one was
pub returns-in-Ok-play_record-clause-plays : goal.returns-in-Ok-play_record-clause-plays
returns-in-Ok-play_record-clause-plays g c =
    let i = c.in-Ok in
    let played = c.in-Ok-play_record.ensures in
    record {
      entries = played.1.0 ∷ [];
      plays = played.1.2;
      parts = item_left played.1.0 (record { actor = i.actor; request = c.next_item.new.request }) c.args.bytes.now c.args.at.now i.used played.1.1 i.ensures.item;
      full = stop_full c.in-Ok-play_record.stop _ played.0;
    }

pub returns-in-Ok-play_record-clause-further : goal.returns-in-Ok-play_record-clause-further
returns-in-Ok-play_record-clause-further g c =
    let i = c.in-Ok in
    item_some c.in-Ok-play_record.stop (record { actor = i.actor; request = c.next_item.new.request }) _ c.args.at.now i.used i.ensures.item

pub returns-in-Ok-play_record-clause-leaves : goal.returns-in-Ok-play_record-clause-leaves
returns-in-Ok-play_record-clause-leaves g c = stop_leaves c.in-Ok-play_record.stop _ _ c.in-Ok-play_record.ensures.0
