-- The history that a word served: how it was answered, and how it ended.
use Rattle.std.proofs.Common.{ℕ, ℤ, List, [], Bool, true, false, inl, inr}
use Rattle.std.specs.Prelude.{◌⊎◌}
use Rattle.tbl_model.specs.History.{begins_at, AreAnswered}
use Rattle.tbl_outside.specs.declared.bank.Bank.{Ghosts}
use Rattle.tbl_session.specs.Openings.{Opening}
use Rattle.tbl_session.specs.Served.{IsServed}
use Rattle.tbl_session.specs.Session.{Ran, IsEnded, BootsAs}
use Rattle.tbl_session.specs.Trouble.{EndsInBoot}
use Rattle.tbl_top.specs.Histories.{PlaysSession, history_of}
use Rattle.tbl_top.specs.Recovered.{StaysUp}
use Rattle.tbl_top.specs.Words.{Outcome}
use Rattle.tbl_stream.proofs.StatusLemmas.{not_ended, booted_not_ended}
use Rattle.tbl_top.specs.declared.words.Word.{Word}
use Rattle.tbl_top.specs.declared.words.Word.TheVariants.{Play, Crew, Watch, Store, Drill, Make, Describe}
use Rattle.tbl_kinds.specs.declared.entry.Entry.{Entry}

-- a session that ended was ended by no boot
stays_up : (status : ℕ) (entries : List Entry) (read : List ℕ) (failed stopped : Type 0) → BootsAs status entries read failed stopped → IsEnded status → (by_stop : Bool) → EndsInBoot by_stop entries → ⊥
stays_up status entries read failed stopped boots ended true in_boot = elim (boots.told_stop in_boot) [ inl eight ↦ booted_not_ended status (inr eight) (inl ended) | inr broken ↦ not_ended status broken (inl ended) ]
stays_up status entries read failed stopped boots ended false in_boot = elim (boots.told_fault in_boot) [ inl seven ↦ booted_not_ended status (inl seven) (inl ended) | inr broken ↦ not_ended status broken (inl ended) ]

module _ {B C : Type 0} (g : Ghosts B) (verdict : C → List ℕ → ℤ) (o : Opening B C) (r : Ran B) where
  pub served_of : (word : Word) → PlaysSession word → (outcome : Outcome word g verdict o r) → IsServed g verdict o r.bank_then (history_of word g verdict o r outcome)
  served_of Play serves outcome = outcome.0.served
  served_of Crew serves outcome = outcome.0.served
  served_of Watch serves outcome = outcome.0.session.served
  served_of (Drill seed rounds) serves outcome = outcome.served
  served_of Store serves outcome = absurd serves
  served_of Make serves outcome = absurd serves
  served_of (Describe shape) serves outcome = absurd serves

  pub answered_of : (word : Word) (outcome : Outcome word g verdict o r) → g.tells → AreAnswered (begins_at o.state) (history_of word g verdict o r outcome)
  answered_of Play outcome told = (outcome.0.served.legal told).answered
  answered_of Crew outcome told = (outcome.0.served.legal told).answered
  answered_of Watch outcome told = (outcome.0.session.served.legal told).answered
  answered_of (Drill seed rounds) outcome told = (outcome.served.legal told).answered
  answered_of Store outcome told = tt
  answered_of Make outcome told = tt
  answered_of (Describe shape) outcome told = tt

  up_of : (word : Word) → PlaysSession word → (outcome : Outcome word g verdict o r) → IsEnded r.status → StaysUp (history_of word g verdict o r outcome)
  up_of Play serves outcome = stays_up r.status outcome.0.entries outcome.0.read _ _ outcome.0.boots
  up_of Crew serves outcome = stays_up r.status outcome.0.entries outcome.0.read _ _ outcome.0.boots
  up_of Watch serves outcome = stays_up r.status outcome.0.session.entries outcome.0.session.read _ _ outcome.0.session.boots
  up_of (Drill seed rounds) serves outcome = stays_up r.status outcome.entries [] _ _ outcome.boots
  up_of Store serves outcome = absurd serves
  up_of Make serves outcome = absurd serves
  up_of (Describe shape) serves outcome = absurd serves

  pub up : (word : Word) → PlaysSession word → (outcome : Outcome word g verdict o r) → IsEnded r.status ⊎ StaysUp (history_of word g verdict o r outcome) → StaysUp (history_of word g verdict o r outcome)
  up word serves outcome (inl ended) = up_of word serves outcome ended
  up word serves outcome (inr stays) = stays
