-- Critical tables stay backed by their blocks: when tables change, when the store is called, when a table is registered, and in a boot.
use Rattle.std.proofs.Common.{◌≡◌, ℕ, zero, suc, ◌+◌, ◌<◌, ◌≤◌, List, [], ◌∷◌, count_by, replicate, Bool, true, false, cond, slice_index_or, Option, Some, None, refl, ap, ◌∙◌, subst, inl, inr, arith}
use Rattle.std.specs.Prelude.{IsSome}
use Rattle.std.proofs.lemmas.Bool.{cases_Bool}
use Rattle.std.proofs.lemmas.List.Sums.{sum_by-cons, sum_by-set}
use Rattle.tbl_kinds.specs.StoreCalls.{StoreCall}
use Rattle.tbl_kinds.specs.Free.{least_free}
use Rattle.tbl_kinds.proofs.FreeLaws.{least_free-None, least_free-within}
use Rattle.tbl_model.specs.State.{State, Table, Tables, no_tables}
use Rattle.tbl_model.specs.Tables.{table_at, is_critical, is_critical_in, critical_count}
use Rattle.tbl_model.specs.TableSteps.{added}
use Rattle.tbl_model.specs.CriticalTables.{critical_limit}
use Rattle.tbl_model.specs.Copies.{block_of}
use Rattle.tbl_model.specs.StoreUse.{left_by}
use Rattle.tbl_model.specs.Boots.{boot}
use Rattle.tbl_kinds.specs.declared.note.BankNote.{BankNote}
use Rattle.tbl_kinds.specs.declared.request.ResetKind.{ResetKind}
use Rattle.tbl_session.specs.Backed.{AreSingle, AreBacked}
use Rattle.tbl_laws.proofs.Pins.{at_set, nothing_there}
use Rattle.tbl_laws.proofs.Descents.{StoodBefore, Descends}
use Rattle.tbl_laws.proofs.Blocks.{boot_single}
use Rattle.tbl_laws.proofs.TableBlocks.{HasBlock, has_block, is_block}
use Rattle.tbl_laws.proofs.Calls.{SuitAll, calls_keep, calls_single}

-- ---- how many are critical

-- one or none
abbrev pub tally : Option Table → ℕ
tally t = cond (is_critical_in t) 1 0

less : (a b : Bool) → (a ≡ true → b ≡ true) → cond a 1 0 ≤ cond b 1 0
less false b implies = omega arith
less true true implies = omega arith
less true false implies = absurd (cc (implies refl))

-- no more than before, if each was there before
fewer : (old new : List (Option Table)) → ((k : ℕ) → is_critical_in (slice_index_or new k None) ≡ true → is_critical_in (slice_index_or old k None) ≡ true) → count_by is_critical_in new ≤ count_by is_critical_in old
fewer old [] each = omega arith
fewer [] (u ∷ new) each =
    let rest = fewer [] new (λ k. each (suc k)) in
    let here : tally u ≤ 0 = less (is_critical_in u) false (each 0) in
    omega (arith, sum_by-cons tally u new, rest, here)
fewer (t ∷ old) (u ∷ new) each =
    let rest = fewer old new (λ k. each (suc k)) in
    let here : tally u ≤ tally t = less (is_critical_in u) (is_critical_in t) (each 0) in
    omega (arith, sum_by-cons tally u new, sum_by-cons tally t old, rest, here)

pub critical_fewer : (old new : Tables) → Descends old new → critical_count new ≤ critical_count old
critical_fewer old new descends = fewer old.rows new.rows (λ k. by k (table_at new k) refl) where
  by : (k : ℕ) (found : Option Table) → table_at new k ≡ found → is_critical_in found ≡ true → is_critical_in (table_at old k) ≡ true
  by k None at is = absurd (cc is)
  by k (Some u) at is = let stood = descends.each k u at in rw (stood.there, ← ap (λ (p : List ℕ × ℕ × ℕ). p.2) stood.same) is

-- one more, or none
critical_added : (tables : Tables) (row : ℕ) (u : Table) → least_free tables.rows ≡ Some row → critical_count (added row u tables) ≡ critical_count tables + tally (Some u)
critical_added tables row u free =
    let set = sum_by-set tally tables.rows row (Some u) None (least_free-within tables.rows row free) in
    let none : tally (slice_index_or tables.rows row None) ≡ 0 = rw (least_free-None tables.rows row free) refl in
    omega (arith, set, none)

-- ---- what leaves them backed

-- without tables
pub unbacked : (s : State) → s.tables ≡ no_tables → AreSingle s.store → AreBacked s
unbacked s none single = record {
  each = λ row t there. absurd (nothing_there 128 row t (rw none at there));
  few = rw none (zeros 128);
  single = single;
} where
  zeros : (n : ℕ) → count_by is_critical_in (replicate {A = Option Table} n None) ≤ 32
  zeros zero = omega arith
  zeros (suc n) = let rest = zeros n in omega (arith, sum_by-cons tally None (replicate n None), rest)

-- after a boot
pub boot_backed : (kind : ResetKind) (note : BankNote) (s : State) → AreSingle s.store → AreBacked (boot kind note s)
boot_backed kind note s single = unbacked (boot kind note s) refl (boot_single kind note s.store single)

-- if each table was there before
pub descends_backed : (s next : State) → AreBacked s → Descends s.tables next.tables → next.store ≡ s.store → AreBacked next
descends_backed s next backed descends store = record {
  each = λ row u there critical. rw store (of row u (descends.each row u there) critical);
  few = let fewer = critical_fewer s.tables next.tables descends in let few = backed.few in omega (arith, fewer, few);
  single = rw store backed.single;
} where
  of : (row : ℕ) (u : Table) → StoodBefore s.tables.rows row u → is_critical u ≡ true → IsSome (block_of u s.store)
  of row u stood critical =
      let was : IsSome (block_of stood.table s.store) = backed.each row stood.table stood.there (rw (← ap (λ (p : List ℕ × ℕ × ℕ). p.2) stood.same) critical) in
      rw (ap (λ (p : List ℕ × ℕ × ℕ). p.0) stood.same, ap (λ (p : List ℕ × ℕ × ℕ). p.1) stood.same) was

-- if calls of the store suit the tables
pub calls_backed : (s : State) (calls : List StoreCall) (note : BankNote) → AreBacked s → SuitAll s.tables calls s.store → AreBacked (record s { store = left_by calls note s.store })
calls_backed s calls note backed suit = record {
  each = λ row t there critical. is_block t (left_by calls note s.store) single (calls_keep s.tables row t there calls note s.store suit (has_block t s.store (backed.each row t there critical)));
  few = backed.few;
  single = single;
} where
  single : AreSingle (left_by calls note s.store)
  single = calls_single s.tables calls note s.store suit backed.single

-- if a table is registered that isn't critical, or that has its block among few enough others
pub registered_backed : (s : State) (row : ℕ) (u : Table) → AreBacked s → least_free s.tables.rows ≡ Some row → (is_critical u ≡ true → (critical_count s.tables < critical_limit) × HasBlock s.store u.name u.size) → AreBacked (record s { tables = added row u s.tables })
registered_backed s row u backed free has = record {
  each = λ k t there critical. elim (at_set s.tables.rows row k u t there) [
    | inl here ↦ subst (λ (v : Table). IsSome (block_of v s.store)) here.1 (is_block u s.store backed.single (has (ap is_critical here.1 ∙ critical)).1)
    | inr other ↦ backed.each k t other.1 critical
  ];
  few = let more = critical_added s.tables row u free in let few = backed.few in elim (cases_Bool (is_critical u)) [
    | inl critical ↦ let room = (has critical).0 in let one : tally (Some u) ≡ 1 = rw critical refl in omega (arith, more, room, one)
    | inr not_critical ↦ let none : tally (Some u) ≡ 0 = rw not_critical refl in omega (arith, more, few, none)
  ];
  single = backed.single;
}
