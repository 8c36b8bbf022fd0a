-- All that is pending for a table, as an owner has it done.
use Rattle.std.proofs.Common.{◌≡◌, ◌∙◌, ◌+◌, ◌*◌, ◌≤◌, ℕ, List, [], ◌∷◌, ◌++◌, length, Bool, true, false, not, cond, Option, Some, None, IsSome, IfSome, is_some, is_none, ℤ, refl, sym, ap, subst, arith}
use Rattle.std.proofs.lemmas.List.{append-nil, length-append}
use Rattle.std.specs.Option.{ForSome, option_map, option_map_or}
use Rattle.tbl_kinds.specs.declared.entry.Answer.{Answer}
use Rattle.tbl_kinds.specs.declared.status.TheConstants.Status.{SUCCESS, INFO_UPDATED, INFO_TABLE_LOCKED, INFO_NO_UPDATE_PENDING}
use Rattle.tbl_model.specs.State.{Table, Load, Tables}
use Rattle.tbl_model.specs.Tables.{table_at}
use Rattle.tbl_model.specs.TableSteps.{fill_dump, locker}
use Rattle.tbl_model.specs.Pending.{is_pending}
use Rattle.tbl_model.specs.Given.{Given, verdict_at}
use Rattle.tbl_model.specs.Telemetry.{Question, activated, is_good}
use Rattle.tbl_model.specs.Refusals.{refusal, lock_refusal, update_refusal}
use Rattle.tbl_model.specs.Validations.{judged_image}
use Rattle.tbl_model.specs.Management.{Done, nothing_done, then_validate, then_update, all_done, is_requested, manage_answer, manage_of}
use Rattle.tbl_model.specs.declared.telemetry.TelemetryEvent.{TelemetryEvent}
use Rattle.tbl_outside.specs.declared.validator.Validator.{Ghosts as ValidatorGhosts}
use Rattle.tbl_outside.specs.declared.validator.KitEntry.{KitEntry}
use Rattle.tbl_laws.proofs.Pairs.{pending_less_other}
use Rattle.validation.specs.Asked.{GivesEach, WasAsked, asks}
use Rattle.validation.specs.Kits.{owners}
use Rattle.validation.proofs.Asking.{asked_both}
use Rattle.request_effects.specs.Reports.{Reported, nothing_reported}
use Rattle.std.specs.Prelude.{IfNone}
use Rattle.validation.proofs.Ready.{some_is, changed_here}
use Rattle.request_effects.specs.Effects.{Effect, told_effect, given_of}
use Rattle.desk.specs.Desk.{Rest, state_at, Output}
use Rattle.desk.specs.Requests.{Does, Made}
use Rattle.desk.specs.Rooms.{copy_room, event_room, manage_room}
use Rattle.desk.specs.declared.desk.Desk.{Desk}
use Rattle.desk.proofs.Serving.{made_so, has_there}
use Rattle.update_requests.specs.Activations.{with_update}
use Rattle.update_requests.specs.Judging.{judged_by, judged_events, judged_questions}
use Rattle.update_requests.specs.Management.{management, verdicts_of, bits_of, answer_by}
use Rattle.update_requests.proofs.Refusing.{may_update}
use Rattle.desk.proofs.Kits.{same_owners}
use Rattle.update_requests.proofs.Steps.{IsDone, validated, updated, filled_up}

-- ---- the marks

-- the table as the load's validation leaves it
abbrev pub marked_table : Option ℤ → Table → Table
marked_table None t = t
marked_table (Some verdict) t = record t { load = option_map (λ (load : Load). record load { checked = is_good verdict }) t.load }

same_event : (row : ℕ) (t : Table) (second : Option ℤ) → activated row (marked_table second t) ≡ activated row t
same_event row t None = refl
same_event row t (Some v) = refl

module _ {C : Type 0} (row : ℕ) (t : Table) where
  -- the last image has no mark
  pub first_there : (old d : Desk C) (first : Option ℤ) → d ≡ judged_by row true first d.kit old → table_at old.tables row ≡ Some t → table_at d.tables row ≡ Some t
  first_there old d None is there = ap (λ (x : Desk C). table_at x.tables row) is ∙ there
  first_there old d (Some v) is there = ap (λ (x : Desk C). table_at x.tables row) is ∙ there

  second_there : (old d : Desk C) (second : Option ℤ) → d ≡ judged_by row false second d.kit old → table_at old.tables row ≡ Some t → table_at d.tables row ≡ Some (marked_table second t)
  second_there old d None is there = ap (λ (x : Desk C). table_at x.tables row) is ∙ there
  second_there old d (Some v) is there = ap (λ (x : Desk C). table_at x.tables row) is ∙ changed_here old.tables row _ t there

  -- and a mark is in the way of nothing
  same_refusal : (old d : Desk C) (second : Option ℤ) → d ≡ judged_by row false second d.kit old → table_at old.tables row ≡ Some t → update_refusal d.tables row (marked_table second t) ≡ update_refusal old.tables row t
  same_refusal old d None is there = ap (λ (x : Desk C). update_refusal x.tables row t) is
  same_refusal old d (Some v) is there = ap (λ (x : Desk C). update_refusal x.tables row (marked_table (Some v) t)) is ∙ (rw there refl)

  first_refusal : (old d : Desk C) (first : Option ℤ) → d ≡ judged_by row true first d.kit old → update_refusal d.tables row t ≡ update_refusal old.tables row t
  first_refusal old d None is = ap (λ (x : Desk C). update_refusal x.tables row t) is
  first_refusal old d (Some v) is = ap (λ (x : Desk C). update_refusal x.tables row t) is

-- ---- the kit

pub when_some : {X : Type 0} {P : Type 0} (o : Option X) → P → IfSome o (λ x. P)
when_some None p = tt
when_some (Some x) p = p

same_kit : {C : Type 0} (row : ℕ) (active : Bool) (old d : Desk C) (w : Option ℤ) → d ≡ judged_by row active w d.kit old → IfNone w (d.kit ≡ old.kit)
same_kit {C} row active old d None is = ap (λ (x : Desk C). x.kit) is
same_kit row active old d (Some v) is = tt

updated_kit : {C : Type 0} (row : ℕ) (d : Desk C) (refused : Bool) → (cond refused d (with_update row d)).kit ≡ d.kit
updated_kit row d true = refl
updated_kit row d false = refl

-- ---- what is answered

-- a bit for each thing
bits_so : (a b full : Bool) (refused : Option Answer) → (((0 + cond a 1 0) + cond b 2 0) + cond (is_some refused) 0 4) + cond full 8 0 ≡ bits_of a b (is_none refused) full
bits_so a b full None = omega arith
bits_so a b full (Some answer) = omega arith

pub none_told : {X : Type 0} (o : Option X) (none : Bool) → is_some o ≡ not none → none ≡ is_none o
none_told None true is = refl
none_told None false is = absurd (cc is)
none_told (Some x) false is = refl
none_told (Some x) true is = absurd (cc is)

answers : (requested : Bool) (lock : Option ℕ) → answer_by (cond (not requested) (refusal INFO_NO_UPDATE_PENDING) (lock_refusal lock))
    ≡ cond (not requested) (record { status = SUCCESS; detail = 0 }) (option_map_or (λ handle. record { status = INFO_TABLE_LOCKED; detail = handle }) lock (record { status = INFO_UPDATED; detail = 0 }))
answers false lock = refl
answers true None = refl
answers true (Some handle) = refl

answer_is : (tables : Tables) (row : ℕ) (t : Table) → answer_by (update_refusal tables row t) ≡ manage_answer tables row t
answer_is tables row t = answers t.activation (locker tables row t)

-- the report is one of events
reported_so : (r : Reported) (refused : Bool) (events : List TelemetryEvent) → cond refused r (record r { events = events }) ≡ record r { events = cond refused r.events events }
reported_so r true events = refl
reported_so r false events = refl

-- ---- verdicts

two_verdicts : (first second : Option ℤ) → length (verdicts_of first second) ≡ 2
two_verdicts None second = refl
two_verdicts (Some x) second = refl

module _ {C : Type 0} (v : ValidatorGhosts C) (old mid new : List (Option (KitEntry C))) (t : Table) where
  -- a verdict came of one question
  one_asked : (active : Bool) (verdict : ℤ) → WasAsked v.verdict v.asked old mid (judged_questions active t (Some verdict)) (Some verdict ∷ None ∷ []) → IsSome t.validator
  one_asked active verdict was = by t.validator was.gives
    where
      by : (number : Option ℕ) → GivesEach v.verdict old (asks number (judged_image t active)) (Some verdict ∷ None ∷ []) → IsSome number
      by None gives = absurd gives
      by (Some n) gives = cc

  -- the two validations, one after another
  asked_in_turn : (first second : Option ℤ) → IfNone first (mid ≡ old) → IfNone second (new ≡ mid)
      → WasAsked v.verdict v.asked old mid (judged_questions true t first) (first ∷ None ∷ []) → WasAsked v.verdict v.asked mid new (judged_questions false t second) (second ∷ None ∷ [])
      → WasAsked v.verdict v.asked old new (judged_questions true t first ++ judged_questions false t second) (verdicts_of first second)
  asked_in_turn None second same more one two = rw (← same) two
  asked_in_turn (Some x) None same more one two = rw (more, append-nil (judged_questions true t (Some x))) one
  asked_in_turn (Some x) (Some y) same more one two = by t.validator (one_asked true x one) one two
    where
      by : (number : Option ℕ) → IsSome number → WasAsked v.verdict v.asked old mid (asks number (judged_image t true)) (Some x ∷ None ∷ []) → WasAsked v.verdict v.asked mid new (asks number (judged_image t false)) (Some y ∷ None ∷ [])
          → WasAsked v.verdict v.asked old new (asks number (judged_image t true) ++ asks number (judged_image t false)) (Some x ∷ Some y ∷ [])
      by None is one two = absurd (cc is)
      by (Some n) is one two = asked_both v.verdict v.asked old mid new _ _ x y one two

  pub first_came : (given : Given) (first second : Option ℤ) → given.verdicts ≡ verdicts_of first second → IfSome first (λ w. verdict_at 0 given ≡ w)
  first_came given None second is = tt
  first_came given (Some x) second is = rw is refl

  second_came : (given : Given) (first second : Option ℤ) → given.verdicts ≡ verdicts_of first second → WasAsked v.verdict v.asked old mid (judged_questions true t first) (first ∷ None ∷ [])
      → IfSome second (λ w. verdict_at (length (judged_questions true t first)) given ≡ w)
  second_came given first None is was = tt
  second_came given None (Some y) is was = rw is refl
  second_came given (Some x) (Some y) is was = by t.validator (one_asked true x was)
    where
      by : (number : Option ℕ) → IsSome number → verdict_at (length (asks number (judged_image t true))) given ≡ y
      by None some = absurd (cc some)
      by (Some n) some = rw is refl

-- ---- how much is told

one_event : (row : ℕ) (active : Bool) (t : Table) (verdict : Option ℤ) → 24 * length (judged_events row active t verdict) ≡ event_room (is_some verdict)
one_event row active t None = refl
one_event row active t (Some v) = refl

pub event_at_most : (row : ℕ) (active : Bool) (t : Table) (verdict : Option ℤ) → length (judged_events row active t verdict) ≤ 1
event_at_most row active t None = omega arith
event_at_most row active t (Some v) = omega arith

pub both_at_most : (row : ℕ) (t : Table) (first second : Option ℤ) → length (judged_events row true t first ++ judged_events row false t second) ≤ 2
both_at_most row t first second =
    let both = length-append (judged_events row true t first) (judged_events row false t second) in
    let one = event_at_most row true t first in
    let two = event_at_most row false t second in
    omega (arith, both, one, two)

update_event : (tables : Tables) (row : ℕ) (t : Table) (told : List TelemetryEvent) (refused : Option Answer) → refused ≡ update_refusal tables row t
    → 24 * length (cond (is_some refused) told (told ++ activated row t ∷ [])) ≤ 24 * length told + event_room t.activation
update_event tables row t told (Some answer) is = omega arith
update_event tables row t told None is =
    let one = ap event_room (may_update tables row t (sym is)).0 in
    let more = length-append told (activated row t ∷ []) in
    omega (arith, one, more)

update_at_most : (row : ℕ) (t : Table) (told : List TelemetryEvent) (refused : Bool) → length (cond refused told (told ++ activated row t ∷ [])) ≤ length told + 1
update_at_most row t told true = omega arith
update_at_most row t told false = let more = length-append told (activated row t ∷ []) in omega (arith, more)

-- what is pending for the load's image was so before the last image was judged
pub still_pending : {C : Type 0} (row : ℕ) (old d : Desk C) (first : Option ℤ) → d ≡ judged_by row true first d.kit old → is_pending row false d.pending ≡ is_pending row false old.pending
still_pending {C} row old d None is = ap (λ (x : Desk C). is_pending row false x.pending) is
still_pending {C} row old d (Some v) is = ap (λ (x : Desk C). is_pending row false x.pending) is ∙ pending_less_other old.pending row row true false (λ _ same. absurd (cc same))

-- ---- all of it

module _ {C : Type 0} (row : ℕ) (t : Table) (old d1 d2 : Desk C) (first second : Option ℤ) (there : table_at old.tables row ≡ Some t)
    (is1 : d1 ≡ judged_by row true first d1.kit old) (is2 : d2 ≡ judged_by row false second d2.kit d1) (told1 : is_some first ≡ is_pending row true old.pending) (told2 : is_some second ≡ is_pending row false d1.pending) where
  there1 : table_at d1.tables row ≡ Some t
  there1 = first_there row t old d1 first is1 there

  there2 : table_at d2.tables row ≡ Some (marked_table second t)
  there2 = second_there row t d1 d2 second is2 there1

  abbrev pub both_events : List TelemetryEvent
  both_events = judged_events row true t first ++ judged_events row false t second

  abbrev pub both_questions : List Question
  both_questions = judged_questions true t first ++ judged_questions false t second

  -- a bit for each
  abbrev both_bits : ℕ
  both_bits = (0 + cond (is_some first) 1 0) + cond (is_some second) 2 0

  abbrev pub both_done : Rest → Given → Done
  both_done rest given = then_validate row false given (then_validate row true given (nothing_done (state_at rest old)))

  -- the validations
  pub both_shown : (rest : Rest) (given : Given) → IfSome first (λ v. verdict_at 0 given ≡ v) → IfSome second (λ v. verdict_at (length (judged_questions true t first)) given ≡ v)
      → IfSome first (λ v. owners d1.kit ≡ owners old.kit) → IfSome second (λ v. owners d2.kit ≡ owners d1.kit)
      → IsDone rest d2 both_events both_questions both_bits (both_done rest given)
  both_shown rest given came1 came2 same1 same2 =
      let q1 = judged_questions true t first in
      let x0 = nothing_done (state_at rest old) in
      let x1 = then_validate row true given x0 in
      let s1 = subst (λ (d : Desk C). IsDone rest d (judged_events row true t first) q1 (0 + cond (is_some first) 1 0) x1) (sym is1)
      (validated rest row old [] [] 0 t there true given d1.kit first told1 came1 same1 x0 (record { state = refl; events = refl; questions = refl; bits = refl })) in
      subst (λ (d : Desk C). IsDone rest d both_events both_questions both_bits (both_done rest given)) (sym is2)
      (validated rest row d1 _ q1 _ t there1 false given d2.kit second told2 came2 same2 x1 s1)

  module _ (d3 : Desk C) (refused : Option Answer) (full : Bool) (is3 : d3 ≡ cond (is_some refused) d2 (with_update row d2)) (why : ForSome (table_at d2.tables row) (λ u. refused ≡ update_refusal d2.tables row u))
      (some : IsSome (table_at d3.tables row)) (full_is : ForSome (table_at d3.tables row) (λ u. full ≡ is_requested u.dump)) where
    abbrev pub all_events : List TelemetryEvent
    all_events = cond (is_some refused) both_events (both_events ++ activated row t ∷ [])

    abbrev pub left : Desk C
    left = record d3 { tables = cond full (fill_dump row d3.tables) d3.tables }

    -- the update and the dump
    all_shown : (rest : Rest) (given : Given) → IsDone rest d2 both_events both_questions both_bits (both_done rest given)
        → IsDone rest left all_events both_questions ((both_bits + cond (is_some refused) 0 4) + cond full 8 0) (all_done (state_at rest old) given row)
    all_shown rest given shown =
        let e3 = cond (is_some refused) both_events (both_events ++ activated row (marked_table second t) ∷ []) in
        let s3 = subst (λ (d : Desk C). IsDone rest d e3 both_questions (both_bits + cond (is_some refused) 0 4) (then_update row (both_done rest given))) (sym is3) (updated rest row d2 _ both_questions both_bits (marked_table second t) there2 refused (why _ there2) (both_done rest given) shown) in
        let u = some_is (table_at d3.tables row) some in
        let s4 = filled_up rest row d3 e3 both_questions _ u.0 u.1 full (full_is u.0 u.1) (then_update row (both_done rest given)) s3 in
        record { state = s4.state; events = s4.events ∙ ap (λ e. cond (is_some refused) both_events (both_events ++ e ∷ [])) (same_event row t second); questions = s4.questions; bits = s4.bits }

    module _ (v : ValidatorGhosts C) (out : Output) (answer : Answer) (asked1 : WasAsked v.verdict v.asked old.kit d1.kit (judged_questions true t first) (first ∷ None ∷ []))
        (asked2 : ForSome (table_at d1.tables row) (λ u. WasAsked v.verdict v.asked d1.kit d2.kit (judged_questions false u second) (second ∷ None ∷ [])))
        (answered : answer ≡ answer_by refused) (byte : out.reply.bytes.list ≡ bits_of (is_some first) (is_some second) (is_none refused) full ∷ [])
        (judged : Reported) (judged_is : judged ≡ record nothing_reported { events = both_events; verdicts = verdicts_of first second })
        (reported : ForSome (table_at d2.tables row) (λ u. out.report ≡ cond (is_some refused) judged (record judged { events = judged.events ++ activated row u ∷ [] })))
        (packets : out.reply.packets.list ≡ []) (room : manage_room old.pending row t ≤ out.reply.packets.spare) where
      refused_so : refused ≡ update_refusal old.tables row t
      refused_so = why _ there2 ∙ same_refusal row t d1 d2 second is2 there1 ∙ first_refusal row t old d1 first is1

      abbrev report : Reported
      report = record nothing_reported { events = all_events; verdicts = verdicts_of first second }

      report_is : out.report ≡ report
      report_is =
          reported _ there2 ∙ ap (λ e. cond (is_some refused) judged (record judged { events = judged.events ++ e ∷ [] })) (same_event row t second)
          ∙ ap (λ (r : Reported). cond (is_some refused) r (record r { events = r.events ++ activated row t ∷ [] })) judged_is ∙ reported_so _ (is_some refused) _

      abbrev done : Effect
      done = told_effect answer (bits_of (is_some first) (is_some second) (is_none refused) full ∷ []) report

      does : (rest : Rest) → Does v rest old left done (manage_of (state_at rest old) (given_of done) row t)
      does rest =
          let asked = asked2 t there1 in
          let shown = all_shown rest (given_of done) (both_shown rest (given_of done) (first_came v old.kit d1.kit d2.kit t (given_of done) first second refl) (second_came v old.kit d1.kit d2.kit t (given_of done) first second refl asked1)
          (when_some first (same_owners v.verdict v.asked _ _ _ _ asked1)) (when_some second (same_owners v.verdict v.asked _ _ _ _ asked))) in
          let is = answered ∙ ap answer_by refused_so ∙ answer_is old.tables row t in
          let kit : d3.kit ≡ d2.kit = ap (λ (d : Desk C). d.kit) is3 ∙ updated_kit row d2 (is_some refused) in
          record {
            effect = record {
              status = ap (λ (a : Answer). a.status) (sym is);
              detail = ap (λ (a : Answer). a.detail) (sym is);
              bytes = ap (λ n. n ∷ []) (shown.bits ∙ bits_so (is_some first) (is_some second) full refused);
              table = refl;
              events = shown.events;
              shown = refl;
              questions = refl;
              calls = refl;
              notice = refl;
              next = shown.state;
            };
            asked = rw (shown.questions, kit) (asked_in_turn v old.kit d1.kit d2.kit t first second (same_kit row true old d1 first is1) (same_kit row false d1 d2 second is2) asked1 asked);
          }

      pub managed_made : Made v (management row) old left out answer
      managed_made =
          let both = length-append (judged_events row true t first) (judged_events row false t second) in
          let most = both_at_most row t first second in
          let more = update_at_most row t both_events (is_some refused) in
          let critical = ap copy_room there in
          let one = one_event row true t first ∙ ap event_room told1 in
          let two = one_event row false t second ∙ ap event_room (told2 ∙ still_pending row old d1 first is1) in
          let three = update_event old.tables row t both_events refused refused_so in
          made_so v (management row) old left out answer _ report byte report_is
          (λ rest. has_there v rest old left done (λ t. manage_of (state_at rest old) (given_of done) row t) row t there (does rest))
          (two_verdicts first second) (record { events = omega (arith, most, more); notice = tt; bytes = omega arith }) (record { none = packets; room = omega (arith, both, critical, one, two, three, room) })
