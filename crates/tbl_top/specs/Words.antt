-- What the program is asked for, how it is spelled on the command line, and what it then does.
use Rattle.std.specs.Prelude.{◌≡◌, ◌↔◌, ◌⊎◌, ℕ, ◌<◌, ◌≤◌, ◌^◌, List, [], ◌∷◌, map, codes, true, Option, Some}
use Rattle.std.specs.Fmt.{decimal}
use Rattle.std.proofs.Common.{ℤ}
use Rattle.tbl_kinds.specs.Admitted.{Admitted, all_admitted}
use Rattle.tbl_kinds.specs.Buffers.{Buffer}
use Rattle.admit_lists.specs.Lists.{SpellsAdmit}
use Rattle.tbl_outside.specs.declared.bank.Bank.{Ghosts}
use Rattle.tbl_session.specs.Openings.{Opening}
use Rattle.tbl_session.specs.Orders.{ByActor}
use Rattle.tbl_session.specs.Session.{Ran, Session, IsComplete}
use Rattle.tbl_top.specs.Drilling.{Drills, DrillsThrough}
use Rattle.tbl_maker.specs.Shapes.{is_shape, shape_word}
use Rattle.tbl_stream.specs.Reports.{TellsFailures}
use Rattle.tbl_top.specs.InTurn.{Plays}
use Rattle.tbl_top.specs.Listing.{ListsStore, ListsThrough}
use Rattle.tbl_top.specs.Maker.{MakesFile, DescribesFile, MakesAlways, DescribesAlways}
use Rattle.tbl_top.specs.Watching.{Watches}
use Rattle.tbl_top.specs.declared.words.Word.{Word}
use Rattle.tbl_top.specs.declared.words.Word.TheVariants.{Play, Crew, Watch, Store, Drill, Make, Describe}

-- so that the session has at most as many records as one may have
abbrev pub most_rounds : ℕ
most_rounds = 32759

-- a session is played by one word, and then files of all spacecraft and processors are admitted; or by that word with `admit` and the
-- lists of those that are
abbrev pub SpellsSession : List ℕ → List (List ℕ) → Admitted → Type 0
SpellsSession name (word ∷ []) admit = (word ≡ name) × (admit ≡ all_admitted)
SpellsSession name (word ∷ more ∷ spacecraft ∷ processors ∷ []) admit = (word ≡ name) × (more ≡ codes "admit") × SpellsAdmit spacecraft processors admit
SpellsSession name words admit = ⊥

-- these words spell it, under these lists
abbrev pub Spells : List (List ℕ) → Word → Admitted → Type 0
Spells words Play admit = SpellsSession (codes "play") words admit
Spells words Crew admit = SpellsSession (codes "crew") words admit
Spells words Watch admit = (words ≡ codes "watch" ∷ []) × (admit ≡ all_admitted)
Spells words Store admit = (words ≡ codes "store" ∷ []) × (admit ≡ all_admitted)
Spells words (Drill seed rounds) admit = (words ≡ codes "drill" ∷ decimal seed ∷ decimal rounds ∷ []) × (seed < 2 ^ 64) × (rounds ≤ most_rounds) × (admit ≡ all_admitted)
Spells words Make admit = (words ≡ codes "make" ∷ []) × (admit ≡ all_admitted)
Spells words (Describe shape) admit = (words ≡ codes "describe" ∷ shape_word shape ∷ []) × (is_shape shape ≡ true) × (admit ≡ all_admitted)

abbrev pub given_bytes : Buffer → List ℕ
given_bytes text = text.list

abbrev pub Asks : List Buffer → Word → Admitted → Type 0
Asks words word admit = Spells (map given_bytes words) word admit

-- what was found is the one thing that these words spell
abbrev pub IsFound : Option (Word × Admitted) → List (List ℕ) → Type 0
IsFound found words = (given : Word) (admit : Admitted) → (found ≡ Some (given, admit)) ↔ Spells words given admit

-- the words ask for nothing
abbrev pub AskNothing : List Buffer → Type 0
AskNothing words = (word : Word) (admit : Admitted) → ¬ Asks words word admit

-- `describe` and one word more, for whose shape memory is taken
abbrev pub AsksWithShape : List Buffer → Type 0
AsksWithShape words = (shape : List ℕ) × (map given_bytes words ≡ codes "describe" ∷ shape ∷ [])

-- the status of words that spell nothing
abbrev pub IsUnknown : List Buffer → ℕ → Type 0
IsUnknown words status = (status ≡ 2) ⊎ ((status ≡ 1) × AsksWithShape words)

-- What it does. `play` plays the records in order, as they come in; `crew` with a thread for each actor, once all of them were read;
-- `watch` does so too, and writes a report of the images that application 16 got; `store` writes the store as text; `drill` plays the session of a seed, and writes a line that sums it up; `make` makes the table file
-- of a description, and `describe` describes one by a shape
abbrev pub Outcome : {B C : Type 0} → Word → Ghosts B → (C → List ℕ → ℤ) → Opening B C → Ran B → Type 0
Outcome Play g verdict o r = Plays g verdict o r × TellsFailures r
Outcome Crew g verdict o r = Session ByActor g verdict o r × TellsFailures r
Outcome Watch g verdict o r = Watches g verdict o r × TellsFailures r
Outcome Store g verdict o r = ListsStore g o.bank r.bank_then r.status (r.taken, r.unwritten) (r.taken_then, r.unwritten_then)
Outcome (Drill seed rounds) g verdict o r = Drills seed rounds g verdict o r
Outcome Make g verdict o r = MakesFile o.bank r
Outcome (Describe shape) g verdict o r = DescribesFile shape o.bank r

-- and what is never given up early
abbrev pub Completes : {B : Type 0} → Word → Ghosts B → B → Ran B → Type 0
Completes Play g bank r = IsComplete g bank r
Completes Crew g bank r = IsComplete g bank r
Completes Watch g bank r = IsComplete g bank r
Completes Store g bank r = ListsThrough g bank r.bank_then r.status r.unwritten r.unwritten_then
Completes (Drill seed rounds) g bank r = DrillsThrough g bank r
Completes Make g bank r = MakesAlways r
Completes (Describe shape) g bank r = DescribesAlways shape r

-- the source isn't read
abbrev pub ReadsNothing : Word → Type 0
ReadsNothing Store = Unit {0}
ReadsNothing (Drill seed rounds) = Unit {0}
ReadsNothing _ = ⊥

-- it is played with a thread for each actor, and threads wait for their turns
abbrev pub HasThreads : Word → Type 0
HasThreads Crew = Unit {0}
HasThreads Watch = Unit {0}
HasThreads _ = ⊥

-- the words ask for nothing else
abbrev pub AskForThreads : List Buffer → Type 0
AskForThreads words = (word : Word) (admit : Admitted) → Asks words word admit → HasThreads word
