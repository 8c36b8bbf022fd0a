-- What was taken of a lent image is what a call answers.
use Rattle.std.proofs.Common.{◌≡◌, ℕ, List, [], ◌∷◌, ◌++◌, Option, Some, None, Result, Ok, Err, sym, subst}
use Rattle.std.specs.Prelude.{IfSome}
use Rattle.tbl_kinds.specs.Buffers.{Buffer}
use Rattle.tbl_kinds.specs.declared.entry.Entry.{Entry}
use Rattle.tbl_core.specs.Ended.{OnPlayed}
use Rattle.tbl_core.specs.Lent.{LastGives}
use Rattle.tbl_core.specs.Service.{CoreView, EngineView, core_of}
use Rattle.tbl_core.specs.declared.service.StepFault.{StepFault}
use Rattle.tbl_core.specs.declared.service.StepFault.TheVariants.{Memory as NoMemory, BootFault, BootStopped}
use Rattle.tbl_live.specs.Answers.{IsRefusal, IsOutcome}
use Rattle.tbl_live.specs.Bounds.{Bound}
use Rattle.tbl_live.specs.Cores.{StepGives}
use Rattle.tbl_live.specs.Lasting.{EngineGives}
use Rattle.tbl_live.specs.Lent.{Gives, CallGives}
use Rattle.tbl_live.specs.declared.cores.Taken.{Taken}
use Rattle.tbl_live.specs.declared.receipts.CallFault.{CallFault}
use Rattle.tbl_live.specs.declared.receipts.CallFault.TheVariants.{Ended, Full, Step, Memory}
use Rattle.tbl_live.specs.declared.receipts.Receipt.{Receipt}

-- what holds of what is there
pub on_some : {A : Type 0} {P Q : A → Type 0} → ((a : A) → P a → Q a) → (found : Option A) → IfSome found P → IfSome found Q
on_some each (Some a) is = each a is
on_some each None is = tt

-- and what holds of whatever is there
pub on_each : {A : Type 0} {P : A → Type 0} → ((a : A) → P a) → (found : Option A) → IfSome found P
on_each each (Some a) = each a
on_each each None = tt

-- an engine's entry is the last one of all that was played
engine_gives : {B C : Type 0} (past more : List Entry) (old new : EngineView B C) (e : Entry) (done : Result Unit StepFault) (taken : Taken) → more ≡ past ++ e ∷ [] → EngineGives old e done taken → StepGives (core_of past old) (core_of more new) done taken
engine_gives past more old new e done taken is gives still =
    let both = gives still in
    subst (λ (d : Result Unit StepFault). OnPlayed d (LastGives old.state past more taken.slice)) (sym both.0) (e, is, both.1)

-- a call that was refused gives nothing
refused_gives : {B C : Type 0} (bound : Bound) (fault : Option StepFault) (core old new : CoreView B C) (slice : Buffer) (cause : CallFault) → IsRefusal bound fault core cause → Gives old new slice (Err cause)
refused_gives bound fault core old new slice (Ended cause) is = tt
refused_gives bound fault core old new slice (Full count) is = tt
refused_gives bound fault core old new slice (Step cause) is = absurd is
refused_gives bound fault core old new slice Memory is = absurd is

-- one that was played gives what its step gave
played_gives : {B C : Type 0} (old new : CoreView B C) (slice : Buffer) (entries : List Entry) (bytes after : List ℕ) (done : Result Unit StepFault) (result : Result Receipt CallFault)
    → IsOutcome entries done bytes after result → OnPlayed done (LastGives old.state old.entries new.entries slice) → Gives old new slice result
played_gives old new slice entries bytes after (Ok x) result is gives = subst (Gives old new slice) (sym is.1) gives
played_gives old new slice entries bytes after (Err NoMemory) result is gives = subst (Gives old new slice) (sym is.0) tt
played_gives old new slice entries bytes after (Err BootFault) result is gives = subst (Gives old new slice) (sym is.1) gives
played_gives old new slice entries bytes after (Err BootStopped) result is gives = subst (Gives old new slice) (sym is.1) gives

-- ---- if something was taken

module _ {B C : Type 0} (ahead : Option Taken) where
  pub engine_given : (past more : List Entry) (old new : EngineView B C) (e : Entry) (done : Result Unit StepFault) → more ≡ past ++ e ∷ [] → IfSome ahead (EngineGives old e done) → IfSome ahead (StepGives (core_of past old) (core_of more new) done)
  engine_given past more old new e done is gives = on_some {P = EngineGives old e done} {Q = StepGives (core_of past old) (core_of more new) done} (λ taken each. engine_gives past more old new e done taken is each) ahead gives

  pub refused_given : (bound : Bound) (fault : Option StepFault) (core old new : CoreView B C) (cause : CallFault) → IsRefusal bound fault core cause → IfSome ahead (CallGives (Err cause) old new)
  refused_given bound fault core old new cause is = on_each {P = CallGives (Err cause) old new} (λ taken still. refused_gives bound fault core old new taken.slice cause is) ahead

  pub played_given : (old new : CoreView B C) (bytes after : List ℕ) (done : Result Unit StepFault) (result : Result Receipt CallFault) → IsOutcome new.entries done bytes after result → IfSome ahead (StepGives old new done) → IfSome ahead (CallGives result old new)
  played_given old new bytes after done result is gives = on_some {P = StepGives old new done} {Q = CallGives result old new} (λ taken each still. played_gives old new taken.slice new.entries bytes after done result is (each still)) ahead gives
