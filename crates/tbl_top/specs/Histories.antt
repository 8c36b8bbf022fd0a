-- What a run does, and the history that it served.
use Rattle.std.specs.Prelude.{◌≡◌, ℕ, List, []}
use Rattle.std.proofs.Common.{ℤ}
use Rattle.tbl_outside.specs.declared.bank.Bank.{Ghosts}
use Rattle.tbl_session.specs.Openings.{Opening}
use Rattle.tbl_session.specs.Session.{Ran}
use Rattle.tbl_top.specs.Words.{Outcome, Completes}
use Rattle.tbl_top.specs.declared.words.Word.{Word}
use Rattle.tbl_top.specs.declared.words.Word.TheVariants.{Play, Crew, Watch, Drill}
use Rattle.tbl_kinds.specs.declared.entry.Entry.{Entry}

-- the word plays a session
abbrev pub PlaysSession : Word → Type 0
PlaysSession Play = Unit {0}
PlaysSession Crew = Unit {0}
PlaysSession Watch = Unit {0}
PlaysSession (Drill seed rounds) = Unit {0}
PlaysSession _ = ⊥

-- the history that its outcome is about; without a session there is none
abbrev pub history_of : {B C : Type 0} (word : Word) (g : Ghosts B) (verdict : C → List ℕ → ℤ) (o : Opening B C) (r : Ran B) → Outcome word g verdict o r → List Entry
history_of Play g verdict o r outcome = outcome.0.entries
history_of Crew g verdict o r outcome = outcome.0.entries
history_of Watch g verdict o r outcome = outcome.0.session.entries
history_of (Drill seed rounds) g verdict o r outcome = outcome.entries
history_of _ g verdict o r outcome = []

-- A run does what its word says, gives nothing up early, and has served these entries.
pub record Runs {B C : Type 0} (word : Word) (g : Ghosts B) (verdict : C → List ℕ → ℤ) (o : Opening B C) (r : Ran B) : Type 0 where
  pub outcome : Outcome word g verdict o r
  pub completes : Completes word g o.bank r
  pub entries : List Entry
  pub served : entries ≡ history_of word g verdict o r outcome
