-- A completed copy stays: a request that neither copies into its block nor deletes it never takes it away, not even for a moment.
use Rattle.std.proofs.Common.{◌≡◌, ℕ, zero, suc, List, [], ◌∷◌, Bool, true, false, Option, Some, None, refl, sym, ap, ◌∙◌, inl, inr}
use Rattle.std.specs.Prelude.{slice_get, slice_set}
use Rattle.std.specs.Option.{option_map_or}
use Rattle.std.proofs.lemmas.Bool.{and_parts}
use Rattle.std.proofs.lemmas.List.{get_or-set_other}
use Rattle.std.proofs.lemmas.List.Quantifiers.{position-Some}
use Rattle.std.proofs.lemmas.Option.{same_Some, slice_get_within, get_or_from_slice_get}
use Rattle.tbl_kinds.specs.Blocks.{Stored, Store}
use Rattle.tbl_kinds.specs.Free.{least_free}
use Rattle.tbl_kinds.specs.Places.{place}
use Rattle.tbl_kinds.specs.StoreSteps.{is_of, is_doubtful_of, doubtful_of, stored_at, taken, freed, closed, made_at, made, shown, MayShow, Shows}
use Rattle.tbl_kinds.specs.StoreCalls.{StoreCall, reserve, copy, restore, delete, after, after_first, broken}
use Rattle.tbl_kinds.proofs.FreeLaws.{least_free-None}
use Rattle.tbl_model.specs.Effects.{Effect}
use Rattle.tbl_model.specs.StoreNotes.{is_restore}
use Rattle.tbl_model.specs.History.{Run, effect_in}
use Rattle.tbl_session.specs.Crashes.{DuringCalls, writes, calls_in, UnderWay}
use Rattle.tbl_kinds.specs.declared.block.Block.{Block}
use Rattle.tbl_kinds.specs.declared.block.BlockKind.{BlockKind}
use Rattle.tbl_kinds.specs.declared.entry.Entry.{Entry}
use Rattle.tbl_kinds.specs.declared.request.Request.TheVariants as ask
use Rattle.tbl_kinds.specs.declared.request.ResetKind.TheVariants.{PowerOn}
use Rattle.tbl_session.specs.Completed.{completed, HasCompleted, Touches, LeaveAlone}

-- ---- what the calls leave

-- at each place is one that writes, and not to the block of this slot
abbrev Spare : ℕ → List StoreCall → Type 0
Spare slot calls = (k : ℕ) (call : StoreCall) → slice_get calls k ≡ Some call → (is_restore call ≡ false) × ¬ Touches slot call

-- a block whose gate isn't in doubt
module _ (slot : ℕ) (b : Stored) (sure : b.doubtful ≡ false) where
  abbrev There : Store → Type 0
  There store = stored_at store slot ≡ Some b

  -- it stays if another slot changes
  put : (store : Store) (n : ℕ) (y : Option Stored) → ¬ (n ≡ slot) → There store → There (slice_set store n y)
  put store n y other there = get_or-set_other store n slot y None (λ same. other (sym same)) ∙ there

  not_doubtful : (kind : BlockKind) (name : List ℕ) (found : Option Stored) → found ≡ Some b → is_doubtful_of kind name found ≡ true → ⊥
  not_doubtful kind name found is doubt = cc (sure, (and_parts (is_of kind name b.block) b.doubtful (rw is at doubt)).1)

  closed_there : (kind : BlockKind) (name : List ℕ) (store : Store) → There store → There (closed kind name store)
  closed_there kind name store there = by (doubtful_of kind name store) refl where
    by : (found : Option ℕ) → doubtful_of kind name store ≡ found → There (freed found store)
    by None is = there
    by (Some n) is = put store n None (λ same. not_doubtful kind name (stored_at store n) (ap (stored_at store) same ∙ there) (position-Some (is_doubtful_of kind name) store n None is).1) there

  made_there : (doubtful : Bool) (kind : BlockKind) (name : List ℕ) (size : ℕ) (store : Store) → There store → There (made doubtful kind name size store)
  made_there doubtful kind name size store there = by (least_free store) (place (taken store) size) refl where
    by : (free at : Option ℕ) → least_free store ≡ free → There (made_at doubtful kind name size free at store)
    by None at is = there
    by (Some n) None is = there
    by (Some n) (Some at) is = put store n _ (λ same. cc (least_free-None store n is, ap (stored_at store) same, there)) there

  does : (call : StoreCall) (store : Store) → (is_restore call ≡ false) × ¬ Touches slot call → There store → There (after call store)
  does (reserve kind name size) store spares there = made_there false kind name size (closed kind name store) (closed_there kind name store there)
  does (copy n image) store spares there = put store n _ spares.1 there
  does (restore n given) store spares there = absurd (cc spares.0)
  does (delete n) store spares there = put store n None spares.1 there

  breaks : (gate old : Bool) (call : StoreCall) (store : Store) → ¬ Touches slot call → There store → There (broken gate old call store)
  breaks false old (reserve kind name size) store spares there = closed_there kind name store there
  breaks true false (reserve kind name size) store spares there = made_there true kind name size (closed kind name store) (closed_there kind name store there)
  breaks true true (reserve kind name size) store spares there = there
  breaks gate old (copy n image) store spares there = put store n _ spares there
  breaks gate old (restore n given) store spares there = there
  breaks gate old (delete n) store spares there = put store n _ spares there

  goes : (done : ℕ) (calls : List StoreCall) (store : Store) → Spare slot calls → There store → There (after_first done calls store)
  goes zero calls store spare there = there
  goes (suc done) [] store spare there = there
  goes (suc done) (call ∷ calls) store spare there = goes done calls (after call store) (λ k next at. spare (suc k) next at) (does call store (spare 0 call refl) there)

-- ---- what a reset shows

shown_completed : (block : Block) (image : List ℕ) (left : Option Stored) → MayShow (Some (completed block image)) left → left ≡ Some (completed block image)
shown_completed block image None may = absurd (cc may)
shown_completed block image (Some left) may = ap Some (may.0 ∙ ap (shown (completed block image)) may.1)

-- a completed copy shows as it is
pub completed_shows : (store left : Store) (slot : ℕ) (block : Block) (image : List ℕ) → HasCompleted store slot block image → Shows store left → HasCompleted left slot block image
completed_shows store left slot block image holds shows = shown_completed block image (stored_at left slot) (rw holds at (shows.each slot))

-- and through calls that leave it alone
completed_in_calls : (calls : List StoreCall) (store left : Store) (slot : ℕ) (block : Block) (image : List ℕ) → Spare slot calls → HasCompleted store slot block image → DuringCalls calls store left → HasCompleted left slot block image
completed_in_calls calls store left slot block image spare holds during =
    let middle = goes slot (completed block image) refl during.done calls store spare holds in
    elim during.leaves [
      | inl shows ↦ completed_shows _ left slot block image middle shows
      | inr broke ↦ completed_shows _ left slot block image (breaks slot (completed block image) refl broke.2.gate broke.2.old broke.0 _ (spare during.done broke.0 broke.1).1 middle) broke.2.shows
    ]

-- ---- the calls of an entry

-- they write
write_at : (calls : List StoreCall) (k : ℕ) (call : StoreCall) → slice_get (writes calls) k ≡ Some call → is_restore call ≡ false
write_at [] k call at = absurd (cc at)
write_at (restore slot given ∷ calls) k call at = write_at calls k call at
write_at (reserve kind name size ∷ calls) zero call at = ap is_restore (sym (same_Some _ call at))
write_at (reserve kind name size ∷ calls) (suc k) call at = write_at calls k call at
write_at (copy slot image ∷ calls) zero call at = ap is_restore (sym (same_Some _ call at))
write_at (copy slot image ∷ calls) (suc k) call at = write_at calls k call at
write_at (delete slot ∷ calls) zero call at = ap is_restore (sym (same_Some _ call at))
write_at (delete slot ∷ calls) (suc k) call at = write_at calls k call at

written_at : (found : Option Effect) (k : ℕ) (call : StoreCall) → slice_get (option_map_or (λ (effect : Effect). writes effect.calls) found []) k ≡ Some call → is_restore call ≡ false
written_at None k call at = absurd (cc at)
written_at (Some effect) k call at = write_at effect.calls k call at

spare_in : (r : Run) (e : Entry) (slot : ℕ) → LeaveAlone slot (calls_in r e) → Spare slot (calls_in r e)
spare_in r e slot alone k call at =
    (written_at (effect_in r e) k call at, rw (get_or_from_slice_get (calls_in r e) k call call at) at (alone k call (slice_get_within (calls_in r e) k call at)))

-- If no call of a request copies into the block of this slot or deletes it, and the request is no power-on, the completed copy is there at
-- each moment: whatever else is reserved, copied or deleted
pub completed_stays : (r : Run) (e : Entry) (left : Store) (slot : ℕ) (block : Block) (image : List ℕ)
    → HasCompleted r.state.store slot block image → LeaveAlone slot (calls_in r e) → ¬ (e.request ≡ ask.Reset PowerOn) → UnderWay r e left → HasCompleted left slot block image
completed_stays r e left slot block image holds alone no_power_on under = elim under [
  | inl during ↦ completed_in_calls (calls_in r e) r.state.store left slot block image (spare_in r e slot alone) holds during
  | inr power_on ↦ absurd (no_power_on power_on.0)
]
