-- Files are written one after another.
use Rattle.std.proofs.Common.{◌≡◌, ◌∙◌, ℕ, ◌+◌, ◌≤◌, List, [], ◌∷◌, ◌++◌, length, Bool, true, false, cond, Option, Some, None, Result, Ok, Err, refl, sym, ap, subst, arith}
use Rattle.std.specs.List.{fold}
use Rattle.std.proofs.lemmas.List.{length-append}
use Rattle.std.proofs.lemmas.List.Sums.{sum_by-cons}
use Rattle.tbl_model.specs.State.{State, Tables}
use Rattle.tbl_model.specs.Tables.{table_at}
use Rattle.tbl_model.specs.Dumps.{is_filled}
use Rattle.tbl_model.specs.declared.telemetry.TelemetryEvent.{TelemetryEvent}
use Rattle.request_effects.specs.Reports.{Reported}
use Rattle.desk.specs.Rows.{rows_in}
use Rattle.desk.specs.declared.desk.Desk.{Desk}
use Rattle.dump_requests.specs.Housekeeping.{Filing, Files, Filed, Written, written, then_write, filled_count}
use Rattle.dump_requests.proofs.Dumping.{not_written}

-- a filled dump has one event
pub one_event : (events : List TelemetryEvent) (event : TelemetryEvent) (filled : Bool) → filled ≡ true → length (events ++ event ∷ []) ≤ length events + cond filled 1 0
one_event events event filled is = let more = length-append events (event ∷ []) in rw is (omega (arith, more))

module _ {C : Type 0} where
  -- without a row there is no file
  pub is_skipped : {X E : Type 0} (further : List (Option ℕ)) (old new : Filing C) (r : Result X E) → Filed further old new r → Filed (None ∷ further) old new r
  is_skipped further old new (Ok x) is = record { effect = is.effect; events = is.events; bytes = (let bytes = is.bytes in omega (arith, bytes)); alone = is.alone; drawer = is.drawer }
  is_skipped further old new (Err e) is = is

  -- what comes of one row: its file is written, or not
  pub record FileOf (row : ℕ) (old mid : Filing C) : Type 0 where
    pub effect : (s : State) → s.tables ≡ old.desk.tables → s.seconds ≡ old.desk.clock.seconds → s.sub ≡ old.desk.clock.sub
        → then_write s (written old.desk.drawer old.bytes old.report.events) row ≡ written mid.desk.drawer mid.bytes mid.report.events
    pub events : length mid.report.events ≤ length old.report.events + cond (is_filled (table_at old.desk.tables row)) 1 0
    pub bytes : length mid.bytes ≤ length old.bytes + 16500
    pub alone : mid.report ≡ record old.report { events = mid.report.events }
    pub drawer : mid.desk ≡ record old.desk { drawer = mid.desk.drawer }

  -- and then those of the others
  pub files_after : (row : ℕ) (further : List (Option ℕ)) (old mid new : Filing C) → FileOf row old mid → Files further mid new → Files (Some row ∷ further) old new
  files_after row further old mid new one is = record {
    effect = λ s tables seconds sub. ap (λ (w : Written). fold (then_write s) w (rows_in further)) (one.effect s tables seconds sub)
        ∙ is.effect s (tables ∙ sym (ap (λ (d : Desk C). d.tables) one.drawer)) (seconds ∙ sym (ap (λ (d : Desk C). d.clock.seconds) one.drawer)) (sub ∙ sym (ap (λ (d : Desk C). d.clock.sub) one.drawer));
    events =
        (let events = subst (λ (ts : Tables). length new.report.events ≤ length mid.report.events + filled_count ts (rows_in further)) (ap (λ (d : Desk C). d.tables) one.drawer) is.events in
        let first = one.events in
        let counts : filled_count old.desk.tables (rows_in (Some row ∷ further)) ≡ cond (is_filled (table_at old.desk.tables row)) 1 0 + filled_count old.desk.tables (rows_in further) = sum_by-cons (λ (row : ℕ). cond (is_filled (table_at old.desk.tables row)) 1 0) row (rows_in further) in
        omega (arith, events, first, counts));
    bytes = (let bytes = is.bytes in let first = one.bytes in omega (arith, bytes, first));
    alone = is.alone ∙ ap (λ (r : Reported). record r { events = new.report.events }) one.alone;
    drawer = is.drawer ∙ ap (λ (d : Desk C). record d { drawer = new.desk.drawer }) one.drawer;
  }

  -- if the desk has not changed, nothing has if memory runs out
  pub filed_after : {X E : Type 0} (row : ℕ) (further : List (Option ℕ)) (old mid new : Filing C) (r : Result X E) → mid.desk ≡ old.desk → FileOf row old mid → Filed further mid new r → Filed (Some row ∷ further) old new r
  filed_after row further old mid new (Ok x) same one is = files_after row further old mid new one is
  filed_after row further old mid new (Err e) same one is = is ∙ same

  -- no dump is filled there
  pub none_filled : (row : ℕ) (old : Filing C) → false ≡ is_filled (table_at old.desk.tables row) → FileOf row old old
  none_filled row old none = record {
    effect = λ s tables seconds sub. not_written s (written old.desk.drawer old.bytes old.report.events) row (table_at s.tables row) refl (ap (λ (ts : Tables). is_filled (table_at ts row)) tables ∙ sym none);
    events = omega arith;
    bytes = omega arith;
    alone = refl;
    drawer = refl;
  }
