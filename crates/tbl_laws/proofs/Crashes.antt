-- What a reset leaves of the calls of an entry: from what single calls leave, and from what a boot after a stopped one may leave.
use Rattle.std.proofs.Common.{◌≡◌, suc, List, [], ◌∷◌, ◌++◌, length, Some, refl, sym, ap, subst, ◌∙◌, inl, inr, arith, ℕ, zero, take, true, false, not, Option, None, ◌⊎◌}
use Rattle.std.specs.Prelude.{slice_get, IsSome}
use Rattle.std.proofs.lemmas.List.{take_all}
use Rattle.std.proofs.lemmas.Option.{slice_get_within, same_Some}
use Rattle.std.proofs.Math.Seq.{take-append_seam}
use Rattle.tbl_model.specs.State.{State, Tables}
use Rattle.tbl_model.specs.History.{begins_at, run_from, Run, onward, AreAnswered}
use Rattle.tbl_kinds.specs.declared.entry.Entry.{Entry}
use Rattle.tbl_kinds.specs.Blocks.{Store, Stored}
use Rattle.tbl_kinds.specs.StoreSteps.{Shows, is_of, is_open_of, open_of, stored_at, shown, MayShow, MayGive}
use Rattle.tbl_kinds.specs.StoreCalls.{StoreCall, after, Leaves, after_first}
use Rattle.tbl_model.specs.StoreUse.{left_by}
use Rattle.tbl_model.specs.StoreNotes.{BrokeOff, Ends}
use Rattle.tbl_session.specs.Crashes.{DuringCalls, UnderWay, AfterCrash, BreaksTo, calls_in}
use Rattle.tbl_kinds.specs.declared.note.BankNote.{BankNote}
use Rattle.tbl_kinds.specs.declared.note.Outcome.{Outcome}
use Rattle.tbl_kinds.specs.declared.note.Outcome.TheVariants.{Untouched, Done, Failed, Stopped}
use Rattle.tbl_laws.proofs.Calls.{all_done, Suits, SuitAll, does_single, breaks_single}
use Rattle.std.proofs.lemmas.Bool.{and_parts}
use Rattle.tbl_kinds.specs.declared.block.BlockKind.{BlockKind}
use Rattle.tbl_session.specs.Backed.{AreSingle, AreBacked}
use Rattle.tbl_session.specs.Recovery.{IsHistory, blocks_by, blocks_during, blocks_under, blocks_at}
use Rattle.tbl_laws.proofs.Pins.{nothing_there, none_passes}
use Rattle.tbl_laws.proofs.Blocks.{Stood, Remain, remain_single, open_stands, both_of}
use Rattle.tbl_laws.proofs.SuitedRequests.{calls_suit}
use Rattle.tbl_laws.proofs.BackedLaws.{backed}

-- before the first call
pub before_calls : (calls : List StoreCall) (store left : Store) → Shows store left → DuringCalls calls store left
before_calls calls store left shows = record { done = 0; within = omega arith; leaves = inl shows }

-- what the first call leaves
pub in_first_call : (call : StoreCall) (rest : List StoreCall) (store left : Store) → Leaves call store left → DuringCalls (call ∷ rest) store left
in_first_call call rest store left leaves = elim leaves [
  | inl before ↦ before_calls (call ∷ rest) store left before
  | inr more ↦ elim more [
    | inl after ↦ record { done = 1; within = omega arith; leaves = inl after }
    | inr broke ↦ record { done = 0; within = omega arith; leaves = inr (call, refl, record { gate = broke.0; old = broke.1; can = broke.2; shows = broke.3 }) }
  ]
]

-- what those after it leave
pub in_later_calls : (call : StoreCall) (rest : List StoreCall) (store left : Store) → DuringCalls rest (after call store) left → DuringCalls (call ∷ rest) store left
in_later_calls call rest store left during = record { done = suc during.done; within = let within = during.within in omega (arith, within); leaves = during.leaves }

-- what a boot leaves after a call that broke off
pub behind_broken_call : (calls : List StoreCall) (note : BankNote) (store left : Store) → BrokeOff calls store note → Shows (left_by calls note store) left → DuringCalls calls store left
behind_broken_call calls note store left broke shows = record {
  done = note.done;
  within = let within = slice_get_within calls note.done broke.call broke.next in omega (arith, within);
  leaves = inr (broke.call, broke.next, record { gate = note.gate; old = note.old; can = broke.breaks; shows = rw broke.next at shows });
}

-- after the last of them, if all are done
pub behind_done_calls : (calls : List StoreCall) (note : BankNote) (store left : Store) → note.done ≡ length calls → Shows (left_by calls note store) left → DuringCalls calls store left
behind_done_calls calls note store left done shows = record {
  done = length calls;
  within = omega arith;
  leaves = inl (rw (take_all (length calls) calls (omega arith)) (rw (all_done calls note store done) at shows));
}

-- and after them, however they ended
pub behind_calls : (calls : List StoreCall) (note : BankNote) (store left : Store) → Ends note.outcome calls store note → Shows (left_by calls note store) left → DuringCalls calls store left
behind_calls calls note store left ends shows = by note.outcome ends where
  by : (outcome : Outcome) → Ends outcome calls store note → DuringCalls calls store left
  by Untouched ended = behind_done_calls calls note store left (ended.1 ∙ ap length (sym ended.0)) shows
  by Done ended = behind_done_calls calls note store left ended.1 shows
  by Failed ended = behind_broken_call calls note store left ended shows
  by Stopped ended = behind_broken_call calls note store left ended.0 shows

-- ---- one entry more

entry_behind : (before : List Entry) (e : Entry) → slice_get (before ++ e ∷ []) (length before) ≡ Some e
entry_behind [] e = refl
entry_behind (x ∷ before) e = entry_behind before e

-- what a reset leaves while it is under way
pub in_next_entry : (opening : State) (before : List Entry) (e : Entry) (left : Store) → UnderWay (run_from (begins_at opening) before) e left → AfterCrash opening (before ++ e ∷ []) (length before) left
in_next_entry opening before e left under =
    inr (e, entry_behind before e, subst (λ (es : List Entry). UnderWay (run_from (begins_at opening) es) e left) (sym (take-append_seam before (e ∷ []))) under)

-- ---- The blocks that a reset came over, and those that it left: no two are of one kind and one name.

-- ---- the blocks that a reset came over

after_single : (tables : Tables) (done : ℕ) (calls : List StoreCall) (store : Store) → SuitAll tables calls store → AreSingle store → AreSingle (after_first done calls store)
after_single tables zero calls store suit single = single
after_single tables (suc done) [] store suit single = single
after_single tables (suc done) (call ∷ calls) store suit single = after_single tables done calls (after call store) suit.1 (does_single tables call store suit.0 single)

suits_at : (tables : Tables) (done : ℕ) (calls : List StoreCall) (store : Store) (call : StoreCall) → SuitAll tables calls store → slice_get calls done ≡ Some call → Suits tables call (after_first done calls store)
suits_at tables done [] store call suit at = absurd (cc at)
suits_at tables zero (first ∷ calls) store call suit at = subst (λ (next : StoreCall). Suits tables next store) (same_Some first call at) suit.0
suits_at tables (suc done) (first ∷ calls) store call suit at = suits_at tables done calls (after first store) call suit.1 at

module _ (tables : Tables) (calls : List StoreCall) (store left : Store) (suit : SuitAll tables calls store) (single : AreSingle store) where
  during_single : (during : DuringCalls calls store left) → AreSingle (blocks_during during)
  during_single during = by during.leaves where
    by : (leaves : Shows (after_first during.done calls store) left ⊎ (call : StoreCall) × (slice_get calls during.done ≡ Some call) × BreaksTo call (after_first during.done calls store) left) → AreSingle (blocks_by leaves)
    by (inl shows) = after_single tables during.done calls store suit single
    by (inr broke) = breaks_single tables broke.2.gate broke.2.old broke.0 _ (suits_at tables during.done calls store broke.0 suit broke.1) (after_single tables during.done calls store suit single)

during_shows : (calls : List StoreCall) (store left : Store) (during : DuringCalls calls store left) → Shows (blocks_during during) left
during_shows calls store left during = by during.leaves where
  by : (leaves : Shows (after_first during.done calls store) left ⊎ (call : StoreCall) × (slice_get calls during.done ≡ Some call) × BreaksTo call (after_first during.done calls store) left) → Shows (blocks_by leaves) left
  by (inl shows) = shows
  by (inr broke) = broke.2.shows

under_single : (r : Run) (e : Entry) (left : Store) (under : UnderWay r e left) → AreSingle r.state.store → AreSingle (blocks_under r e left under)
under_single r e left (inl during) single = during_single r.state.tables (calls_in r e) r.state.store left (calls_suit r e single) single during
under_single r e left (inr power_on) single = λ m n a b at_m at_n same. absurd (nothing_there 128 m a at_m)

under_shows : (r : Run) (e : Entry) (left : Store) (under : UnderWay r e left) → Shows (blocks_under r e left under) left
under_shows r e left (inl during) = during_shows (calls_in r e) r.state.store left during
under_shows r e left (inr power_on) = power_on.1

-- ---- in a history

-- so are its first entries
first_answered : (r : Run) (entries : List Entry) (place : ℕ) → AreAnswered r entries → AreAnswered r (take place entries)
first_answered r entries zero are = tt
first_answered r [] (suc place) are = tt
first_answered r (e ∷ entries) (suc place) are = (are.0, first_answered (onward r e) entries place are.1)

module _ (opening : State) (entries : List Entry) (place : ℕ) (left : Store) where
  -- what a reset left shows the blocks that it came over
  pub crash_shows : (crash : AfterCrash opening entries place left) → Shows (blocks_at opening entries place left crash) left
  crash_shows (inl shows) = shows
  crash_shows (inr next) = under_shows (run_from (begins_at opening) (take place entries)) next.0 left next.2

  -- of which no two are of one kind and one name
  pub crash_single : (crash : AfterCrash opening entries place left) → IsHistory opening entries → AreSingle (blocks_at opening entries place left crash)
  crash_single crash history = by crash where
    stands : AreBacked (run_from (begins_at opening) (take place entries)).state
    stands = backed opening (take place entries) _ history.tables history.single (record { answered = first_answered (begins_at opening) entries place history.answered; leads = refl })

    by : (crash : AfterCrash opening entries place left) → AreSingle (blocks_at opening entries place left crash)
    by (inl shows) = stands.single
    by (inr next) = under_single (run_from (begins_at opening) (take place entries)) next.0 left next.2 stands.single

-- ---- the blocks that a reset left

-- each was there before
shows_remain : (store left : Store) → Shows store left → Remain store left
shows_remain store left shows = record { each = λ slot b there. of slot b (stored_at store slot) refl (rw there at (shows.each slot)) } where
  of : (slot : ℕ) (b : Stored) (found : Option Stored) → stored_at store slot ≡ found → MayShow found (Some b) → Stood store slot b
  of slot b None at may = absurd (cc may)
  of slot b (Some was) at may = record { was = was; there = at; same = ap (λ (x : Stored). x.block) may.0 }

-- so no two of them are of one kind and one name
pub left_single : (store left : Store) → Shows store left → AreSingle store → AreSingle left
left_single store left shows single = remain_single store left (shows_remain store left shows) single

-- the one that is left of an open block
pub record IsLeft (left : Store) (slot : ℕ) (b : Stored) : Type 0 where
  pub found : Stored
  pub there : stored_at left slot ≡ Some found
  pub is : found ≡ shown b found.held
  pub may : MayGive b found.held

-- so is one whose gate is sure, and any that the reset left
pub is_left : (store left : Store) (slot : ℕ) (b : Stored) → Shows store left → stored_at store slot ≡ Some b → IsSome (stored_at left slot) → IsLeft left slot b
is_left store left slot b shows there some = by (stored_at left slot) refl (rw there at (shows.each slot)) where
  by : (found : Option Stored) → stored_at left slot ≡ found → MayShow (Some b) found → IsLeft left slot b
  by None at may = absurd (let none = at in cc (some, none))
  by (Some found) at may = record { found = found; there = at; is = may.0; may = may.1 }

pub open_shown : (store left : Store) (slot : ℕ) (b : Stored) → Shows store left → stored_at store slot ≡ Some b → b.doubtful ≡ false → IsSome (stored_at left slot)
open_shown store left slot b shows there sure = by (stored_at left slot) refl (rw there at (shows.each slot)) where
  by : (found : Option Stored) → stored_at left slot ≡ found → MayShow (Some b) found → IsSome (stored_at left slot)
  by None at may = absurd (cc (sure, may))
  by (Some found) at may = rw at refl

-- it is the one that is found by its kind and name
pub open_found : (kind : BlockKind) (name : List ℕ) (store : Store) (slot : ℕ) (b : Stored) → AreSingle store → stored_at store slot ≡ Some b → is_open_of kind name (Some b) ≡ true → open_of kind name store ≡ Some slot
open_found kind name store slot b single there is = by (open_of kind name store) refl where
  by : (found : Option ℕ) → open_of kind name store ≡ found → found ≡ Some slot
  by None none = absurd (cc (none_passes (is_open_of kind name) store slot b none there, is))
  by (Some n) at =
      let stands = open_stands kind name store n at in
      ap Some (single n slot stands.b b stands.there there (both_of kind name stands.b.block b.block stands.is (is_of_open b is)))
    where
      is_of_open : (b : Stored) → is_open_of kind name (Some b) ≡ true → is_of kind name b.block ≡ true
      is_of_open b is = (and_parts (is_of kind name b.block) (not b.doubtful) is).0
