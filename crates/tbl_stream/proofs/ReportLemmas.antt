-- From the end of the reading to what is reported of a service.
use Rattle.std.proofs.Common.{◌≡◌, ◌≢◌, ◌≤◌, ℕ, eqb, Bool, false, List, [], length, Option, refl, sym, subst, ◌∙◌, arith, inl, inr}
use mathlib.Core.Logic.{dite}
use native.Mathlib.Decide.{ℕ_discrete}
use Rattle.std.specs.Io.KnownBytes.{IsAtEnd}
use Rattle.tbl_outside.specs.declared.bank.Bank.{Ghosts}
use Rattle.tbl_outside.specs.Counts.{Rose, RoseBy}
use Rattle.tbl_outside.proofs.Streams.{append_known-nil}
use Rattle.tbl_core.specs.Service.{CoreView, StartCounted}
use Rattle.tbl_core.specs.declared.service.StartFault.{StartFault}
use Rattle.tbl_core.specs.declared.service.StartFault.TheVariants.{Memory as NoMemory, BootFault as FirstFault, BootStopped as FirstStopped}
use Rattle.tbl_session.specs.Session.{Ran, IsBooted, IsBrokenOff, Boots}
use Rattle.tbl_session.specs.Trouble.{Rises}
use Rattle.tbl_history.specs.Trouble.{IsCaused}
use Rattle.tbl_history.proofs.TroubleLemmas.{no_last, rose_never, rose_once, rose_by_fault, rose_by_stop}
use Rattle.tbl_stream.specs.Places.{end_of}
use Rattle.tbl_stream.specs.Standing.{CauseBy, FrontBy, Leaves, TellsCause, TellsBoot, Way, all_written, not_taken, not_spelled, way_of}
use Rattle.tbl_stream.specs.Feeding.{IsKept}
use Rattle.tbl_stream.specs.Finishing.{status_of, unbegun_status, WritesEnd, FinishesAs, FinishesBy, FinishesUnbegun}
use Rattle.tbl_stream.specs.Reading.{HasFailed}
use Rattle.tbl_stream.specs.Reports.{EndsAs, HasEnded, HasNoRoom, Input, IsKnown, Reports, Tells, WouldEnd}
use Rattle.tbl_stream.specs.Writing.{Taken}
use Rattle.tbl_stream.specs.declared.standing.Standing.{Standing}
use Rattle.tbl_stream.specs.declared.standing.Standing.TheVariants.{Open, Full}
use Rattle.tbl_kinds.specs.declared.entry.Entry.{Entry}
use Rattle.tbl_stream.proofs.FailureLemmas.{failed_rose}
use Rattle.tbl_stream.proofs.StatusLemmas.{not_ended, booted_not_ended, tells_none, no_boot, ends_as, boots_as, status_is, not_four, would_end}
use Rattle.tbl_stream.proofs.TellingLemmas.{tells}

-- ---- the causes of 7 and 8

module _ {B : Type 0} (g : Ghosts B) (bank : B) (r : Ran B) (entries : List Entry) (read : List ℕ) (rises : Rises g bank r.bank_then entries) (boots : Boots g bank r entries read r.status) where
  pub rose_at_fault : r.status ≡ 7 → RoseBy 1 (g.faults bank) (g.faults r.bank_then)
  rose_at_fault seven = elim (boots.fault seven) [ inl boot ↦ rose_by_fault g bank r.bank_then entries rises boot | inr first ↦ rose_once (g.faults bank) (g.faults r.bank_then) first.2 ]

  pub rose_at_stop : r.status ≡ 8 → RoseBy 1 (g.stops bank) (g.stops r.bank_then)
  rose_at_stop eight = elim (boots.stop eight) [ inl boot ↦ rose_by_stop g bank r.bank_then entries rises boot | inr first ↦ rose_once (g.stops bank) (g.stops r.bank_then) first.2 ]

-- a count that rose, and didn't fall since
rose_further : (a b c : ℕ) → a ≤ b → Rose a b → b ≤ c → Rose a c
rose_further a b c le (inl rose) up = inl (omega (arith, rose, up))
rose_further a b c le (inr top) up = dite (ℕ_discrete c b)
    (λ same. inr (same ∙ top))
    (λ other. inl (omega (arith, le, up, other)))

-- ---- a service

module _ {B C : Type 0} (g : Ghosts B) (bank : B) (core : CoreView B C) (standing : Standing) (input : Input) (kept : List ℕ) (failed : Bool) (r : Ran B) (mid : Taken)
    (bank_is : r.bank_then ≡ core.state.store.bank) (caused : IsCaused g bank core) (leaves : Leaves standing input.left input.rest) (kept_is : IsKept standing input.rest kept)
    (at_end : standing ≡ Open → failed ≡ false → IsAtEnd r.left_then) (cause : HasFailed failed r.unread r.unread_then) (boot : TellsBoot standing core.state.ended core.entries)
    (full : standing ≡ Full → HasNoRoom input) (sink_up : r.unwritten ≤ mid.1) (up : mid.1 ≤ r.unwritten_then) where
  abbrev whole : Bool
  whole = eqb (length kept) 0

  abbrev status : ℕ
  status = status_of standing failed whole

  abbrev after : Taken
  after = (r.taken_then, r.unwritten_then)

  abbrev Booting : ℕ → Type 0
  Booting n = Boots g bank r core.entries input.read n

  abbrev Is : Type 0
  Is = Reports g bank r input core.entries

  -- a failure of the sink after the middle is one since the beginning
  rose_since : Rose mid.1 r.unwritten_then → Rose r.unwritten r.unwritten_then
  rose_since (inl rose) = inl (omega (arith, rose, sink_up))
  rose_since (inr top) = inr top

  ends : EndsAs r input status
  ends = ends_as r input standing failed kept leaves kept_is at_end (failed_rose failed r.unread r.unread_then cause) full

  boots : Booting status
  boots = boots_as standing failed whole g bank core input.read _ _ caused boot

  would : way_of standing ≡ all_written → (status ≢ 4) × WouldEnd (EndsAs r input) Booting status
  would is = let other = not_four standing failed whole is in (other, would_end status (EndsAs r input) Booting (status_is standing failed whole) other ends boots)

  made : IsKnown r.status → EndsAs r input r.status → Booting r.status → (r.status ≡ 4 → Rose r.unwritten r.unwritten_then) → Tells r.status core.entries (WouldEnd (EndsAs r input) Booting) r.taken r.taken_then → Is
  made known ends_is boots_is sink told =
      let rises = subst (λ (b : B). Rises g bank b core.entries) (sym bank_is) caused.trouble in
      record {
        known = known;
        ends = ends_is;
        boots = boots_is;
        causes = record {
          sink = sink;
          fault = rose_at_fault g bank r core.entries input.read rises boots_is;
          stop = rose_at_stop g bank r core.entries input.read rises boots_is;
        };
        told = told;
      }

  broken_off : IsBrokenOff r.status → (r.status ≡ 4 → Rose r.unwritten r.unwritten_then) → Tells r.status core.entries (WouldEnd (EndsAs r input) Booting) r.taken r.taken_then → Is
  broken_off broken sink told = made (inr (inr broken)) (tells_none r input r.status (not_ended r.status broken)) (no_boot r.status core.entries input.read _ _ broken) sink told

  by : (way : Way) → CauseBy way r.unwritten mid.1 → FinishesBy way status r.status (end_of status core.entries) mid after → (way ≡ all_written → status ≢ 4) → Tells r.status core.entries (WouldEnd (EndsAs r input) Booting) r.taken r.taken_then → Is
  by all_written why (inl wrote) other told =
      made (subst IsKnown (sym wrote.0) (status_is standing failed whole)) (subst (EndsAs r input) (sym wrote.0) ends) (subst Booting (sym wrote.0) boots)
      (λ four. absurd (other refl (sym wrote.0 ∙ four))) told
  by all_written why (inr broke) other told = broken_off (inr broke.0) (λ four. rose_since broke.2) told
  by not_taken why w other told = broken_off (inr w.0) (λ four. rose_further r.unwritten mid.1 r.unwritten_then sink_up why up) told
  by not_spelled why w other told = broken_off (inl w.0) (λ four. absurd (omega (arith, w.0, four))) told

  pub reports_of : FrontBy (way_of standing) core.entries r.taken mid.0 → TellsCause standing r.unwritten mid.1 → FinishesAs standing failed whole r.status (λ status. end_of status core.entries) mid after
      → Reports g bank r input core.entries
  reports_of front why w =
      by (way_of standing) why w (not_four standing failed whole)
      (tells status r.status core.entries (WouldEnd (EndsAs r input) Booting) r.taken mid after (way_of standing) would front w)

-- ---- if the service didn't begin

pub unbegun_rises : {B : Type 0} (g : Ghosts B) (bank bank_then : B) (fault : StartFault) → StartCounted g bank bank_then fault → Rises g bank bank_then []
unbegun_rises g bank bank_then NoMemory counted = record { fault = inl (omega (arith, counted.0)); stop = inl (omega (arith, counted.1)) }
unbegun_rises g bank bank_then FirstFault counted = record { fault = rose_never (g.faults bank) (g.faults bank_then) counted.0; stop = inl (omega (arith, counted.1)) }
unbegun_rises g bank bank_then FirstStopped counted = record { fault = inl (omega (arith, counted.1)); stop = rose_never (g.stops bank) (g.stops bank_then) counted.0 }

-- which boot it was
pub unbegun_boots : {B : Type 0} (g : Ghosts B) (bank : B) (r : Ran B) (fault : StartFault) → StartCounted g bank r.bank_then fault → Boots g bank r [] [] (unbegun_status fault)
unbegun_boots g bank r NoMemory counted = no_boot 1 [] [] _ _ (inl refl)
unbegun_boots g bank r FirstFault counted =
    record { fault = λ _. inr (refl, refl, counted.0); stop = λ e. absurd (omega (arith, e)); told_fault = λ _. inl refl; told_stop = λ boot. absurd (no_last boot.0 boot.1 boot.2) }
unbegun_boots g bank r FirstStopped counted =
    record { fault = λ e. absurd (omega (arith, e)); stop = λ _. inr (refl, refl, counted.0); told_fault = λ boot. absurd (no_last boot.0 boot.1 boot.2); told_stop = λ _. inl refl }

module _ {B : Type 0} (g : Ghosts B) (bank : B) (limit : Option ℕ) (r : Ran B) where
  abbrev Nothing : Input
  Nothing = record { read = []; count = 0; left = limit; rest = [] }

  abbrev First : ℕ → Type 0
  First n = Boots g bank r [] [] n

  abbrev before : Taken
  before = (r.taken, r.unwritten)

  abbrev then : Taken
  then = (r.taken_then, r.unwritten_then)

  empty : Rises g bank r.bank_then [] → IsKnown r.status → (HasEnded r.status → ⊥) → First r.status → (r.status ≡ 4 → Rose r.unwritten r.unwritten_then) → Tells r.status [] (WouldEnd (EndsAs r Nothing) First) r.taken r.taken_then → Reports g bank r Nothing []
  empty rises known never boots sink told = record {
    known = known;
    ends = tells_none r Nothing r.status never;
    boots = boots;
    causes = record { sink = sink; fault = rose_at_fault g bank r [] [] rises boots; stop = rose_at_stop g bank r [] [] rises boots };
    told = told;
  }

  -- the first boot didn't come to its end
  unbooted : (status : ℕ) → Rises g bank r.bank_then [] → IsBooted status → (status ≢ 4) → First status → WritesEnd status r.status (end_of status []) before then → Reports g bank r Nothing []
  unbooted status rises booted other boots w = by w where
    told : Tells r.status [] (WouldEnd (EndsAs r Nothing) First) r.taken r.taken_then
    told = tells status r.status [] (WouldEnd (EndsAs r Nothing) First) r.taken before then all_written (λ _. (other, inr (inr (booted, boots)))) (sym (append_known-nil r.taken)) w

    by : WritesEnd status r.status (end_of status []) before then → Reports g bank r Nothing []
    by (inl wrote) =
        let is : IsBooted r.status = subst IsBooted (sym wrote.0) booted in
        empty rises (inr (inl is)) (booted_not_ended r.status is) (subst First (sym wrote.0) boots) (λ four. absurd (other (sym wrote.0 ∙ four))) told
    by (inr broke) = empty rises (inr (inr (inr broke.0))) (not_ended r.status (inr broke.0)) (no_boot r.status [] [] _ _ (inr broke.0)) (λ four. broke.2) told

  pub unbegun : (fault : StartFault) → StartCounted g bank r.bank_then fault → FinishesUnbegun fault r.status before then → Reports g bank r Nothing []
  unbegun NoMemory counted w =
      empty (unbegun_rises g bank r.bank_then NoMemory counted) (inr (inr (inl w.0))) (not_ended r.status (inl w.0)) (no_boot r.status [] [] _ _ (inl w.0)) (λ four. absurd (omega (arith, w.0, four)))
      (tells 1 r.status [] (WouldEnd (EndsAs r Nothing) First) r.taken before then not_spelled (λ e. absurd cc) (record { count = 0; grown = sym (append_known-nil r.taken) }) w)
  unbegun FirstFault counted w = unbooted 7 (unbegun_rises g bank r.bank_then FirstFault counted) (inl refl) (λ e. omega (arith, e)) (unbegun_boots g bank r FirstFault counted) w
  unbegun FirstStopped counted w = unbooted 8 (unbegun_rises g bank r.bank_then FirstStopped counted) (inr refl) (λ e. omega (arith, e)) (unbegun_boots g bank r FirstStopped counted) w
