-- One record of a stream.
use Rattle.std.proofs.Common.{◌≡◌, ◌≢◌, ℕ, ◌+◌, List, [], ◌∷◌, ◌++◌, length, take, drop, Option, Some, None, Bool, ℤ, refl, sym, ap, subst, ◌∙◌, arith}
use Rattle.std.specs.Prelude.{◌%◌, ◌^◌, ◌<◌, ◌≤◌, ◌-◌, IfSome, MatchOption}
use Rattle.std.specs.Io.KnownBytes.{append_known}
use Rattle.std.proofs.Math.Nat.{mod-mod}
use Rattle.std.proofs.Math.Seq.{take-length}
use Rattle.std.proofs.lemmas.List.{append-nil, length-drop, length-take, drop-drop, take-append-drop}
use Rattle.tbl_kinds.specs.Records.{Pair, IsRecord, spelling, joined}
use Rattle.tbl_kinds.specs.Transcript.{pair_of, pairs_of, entry_bytes}
use Rattle.tbl_kinds.proofs.RecordLaws.{length-spelling}
use Rattle.tbl_kinds.specs.declared.entry.Entry.{Entry}
use Rattle.tbl_kinds.specs.declared.request.Actor.{Actor}
use Rattle.tbl_kinds.specs.declared.request.Request.{Request}
use Rattle.tbl_outside.proofs.Streams.{append_known-nil}
use Rattle.tbl_outside.specs.declared.bank.Bank.{Ghosts}
use Rattle.tbl_stream.specs.Places.{place_of, place_count}
use Rattle.tbl_stream.specs.Playing.{Moment, Goes, Plays, IsEntryOf}
use Rattle.tbl_stream.specs.Standing.{TellsFull, TellsWritten, TellsCause, TellsBoot, Leaves, IsEnding, IsOfInput, IsStop, IsItem, IsRefusal, standing_after, first_of}
use Rattle.tbl_stream.specs.Writing.{Taken, Wrote}
use Rattle.tbl_stream.specs.declared.standing.Standing.{Standing}
use Rattle.tbl_stream.specs.declared.standing.Standing.TheVariants.{Open, Bad, TooMany, Full, BootFault, BootStopped, SinkFailed, Memory, Unwritten}
use Rattle.tbl_stream.specs.Limits.{and_more}
use Rattle.tbl_stream.proofs.StandingLemmas.{by_quiet, by_stop, by_write}
use Rattle.tbl_stream.proofs.Rounds.{joined_one}

-- what a write of an entry left, after its step
told_stop : (stop ending : Option Standing) (place : ℕ) (e : Entry) (before after : Taken) → IsEnding ending → Wrote stop (entry_bytes place e) before after → place ≡ place_of place
    → TellsWritten (standing_after (first_of stop ending)) place (e ∷ []) before.0 after.0
told_stop stop ending place e before after is w round =
    by_write (λ (s : Option Standing). TellsWritten (standing_after s) place (e ∷ []) before.0 after.0) stop ending (entry_bytes place e) before after is w
    (λ w. let all = w.0 ∙ ap (append_known before.0) (sym (append-nil (entry_bytes place e)) ∙ ap (λ n. entry_bytes n e ++ []) round) in (all, all, all))
    (λ w. record {
      front = [];
      last = e;
      parts = refl;
      count = w.0.count;
      grown = w.0.grown ∙ ap (λ n. append_known before.0 (take w.0.count (entry_bytes n e))) (round ∙ ap place_of (omega arith));
    })
    (λ w. record {
      front = [];
      last = e;
      parts = refl;
      count = 0;
      grown = w.0 ∙ sym (append_known-nil before.0);
    })

failed_stop : (stop ending : Option Standing) (piece : List ℕ) (before after : Taken) → IsEnding ending → Wrote stop piece before after → TellsCause (standing_after (first_of stop ending)) before.1 after.1
failed_stop stop ending piece before after is w =
    by_write (λ (s : Option Standing). TellsCause (standing_after s) before.1 after.1) stop ending piece before after is w (λ w. (w.1, w.1, w.1)) (λ w. w.1) (λ w. w.1)

boot_stop : (stop ending : Option Standing) (piece : List ℕ) (before after : Taken) (ended : Bool) (es : List Entry) → Wrote stop piece before after → TellsBoot (standing_after ending) ended es → TellsBoot (standing_after (first_of stop ending)) ended es
boot_stop None ending piece before after ended es w boot = boot
boot_stop (Some SinkFailed) ending piece before after ended es w boot = tt
boot_stop (Some Unwritten) ending piece before after ended es w boot = tt
boot_stop (Some Open) ending piece before after ended es w boot = absurd w
boot_stop (Some Bad) ending piece before after ended es w boot = absurd w
boot_stop (Some TooMany) ending piece before after ended es w boot = absurd w
boot_stop (Some Full) ending piece before after ended es w boot = absurd w
boot_stop (Some BootFault) ending piece before after ended es w boot = absurd w
boot_stop (Some BootStopped) ending piece before after ended es w boot = absurd w
boot_stop (Some Memory) ending piece before after ended es w boot = absurd w

pub is_stop : (stop ending : Option Standing) (piece : List ℕ) (before after : Taken) → Wrote stop piece before after → IsEnding ending → IsStop (first_of stop ending)
is_stop stop ending piece before after w is = by_write IsStop stop ending piece before after is w (λ w. (tt, tt, tt)) (λ w. tt) (λ w. tt)

module _ {B C : Type 0} (g : Ghosts B) (verdict : C → List ℕ → ℤ) where
  pub plays_one : (stop ending : Option Standing) (old new : Moment B C) (e : Entry) (p : Pair) → pair_of e ≡ p → IsRecord p → Goes g verdict old.played.engine new.played.engine (e ∷ [])
      → old.played.place ≡ place_of old.played.place → new.played.place ≡ place_of (old.played.place + 1) → new.played.offset ≡ (old.played.offset + length (spelling p)) % 2 ^ 32 → old.played.left ≡ and_more 1 new.played.left
      → Wrote stop (entry_bytes old.played.place e) (old.taken, old.unwritten) (new.taken, new.unwritten) → old.unwritten ≤ new.unwritten → IsEnding ending → TellsBoot (standing_after ending) new.played.engine.state.ended (e ∷ [])
      → Plays g verdict (standing_after (first_of stop ending)) old new (e ∷ [])
  plays_one stop ending old new e p pair is_record goes round place offset left wrote count is boot = record {
    goes = goes;
    each = (subst IsRecord (sym pair) is_record, tt);
    place = ap place_of place ∙ mod-mod (old.played.place + 1) place_count;
    offset = ap (λ n. n % 2 ^ 32) offset ∙ mod-mod (old.played.offset + length (spelling p)) (2 ^ 32) ∙ ap (λ (s : List ℕ). (old.played.offset + length s) % 2 ^ 32) (sym (joined_one e p pair));
    left = left;
    written = told_stop stop ending old.played.place e (old.taken, old.unwritten) (new.taken, new.unwritten) is wrote round;
    cause = failed_stop stop ending (entry_bytes old.played.place e) (old.taken, old.unwritten) (new.taken, new.unwritten) is wrote;
    boot = boot_stop stop ending (entry_bytes old.played.place e) (old.taken, old.unwritten) (new.taken, new.unwritten) new.played.engine.state.ended (e ∷ []) wrote boot;
    count = count;
  }

-- ---- what ends a stream with a record says nothing of what comes after it

pub stop_leaves : (stop : Option Standing) (left : Option ℕ) (behind : List ℕ) → IsStop stop → IfSome stop (λ standing. Leaves standing left behind)
stop_leaves stop left behind is = by_stop (λ (s : Option Standing). IfSome s (λ standing. Leaves standing left behind)) stop is tt tt tt tt tt

pub stop_full : (stop : Option Standing) (played : ℕ) → IsStop stop → TellsFull (standing_after stop) played
stop_full stop played is = by_stop (λ (s : Option Standing). TellsFull (standing_after s) played) stop is tt tt tt tt tt

pub refusal_leaves : (standing : Standing) (left : Option ℕ) (behind : List ℕ) → IsRefusal standing → Leaves standing left behind
refusal_leaves Full left behind is = tt
refusal_leaves Memory left behind is = tt
refusal_leaves Open left behind is = absurd is
refusal_leaves Bad left behind is = absurd is
refusal_leaves TooMany left behind is = absurd is
refusal_leaves BootFault left behind is = absurd is
refusal_leaves BootStopped left behind is = absurd is
refusal_leaves SinkFailed left behind is = absurd is
refusal_leaves Unwritten left behind is = absurd is

pub never_full : (standing : Standing) (played : ℕ) → IsOfInput standing → TellsFull standing played
never_full standing played is = by_quiet (λ (s : Standing). s ≢ Full → TellsFull s played) standing is.0 (λ _. tt) (λ _. tt) (λ _. tt) (λ other. absurd (other refl)) (λ _. tt) is.1

-- ---- a record in front of the bytes from a place on

-- the slice from a place on
slice_is : (bytes : List ℕ) (at : ℕ) → take (length bytes - at) (drop at bytes) ≡ drop at bytes
slice_is bytes at = ap (λ n. take n (drop at bytes)) (sym (length-drop at bytes)) ∙ take-length (drop at bytes)

-- it was played, and what comes after it is left
pub item_left : (e : Entry) (p : Pair) (bytes : List ℕ) (at used : ℕ) → pair_of e ≡ p → IsItem p used (take (length bytes - at) (drop at bytes)) → drop at bytes ≡ joined (pairs_of (e ∷ [])) ++ drop (at + used) bytes
item_left e p bytes at used pair item =
    let front : take used (drop at bytes) ≡ joined (pairs_of (e ∷ [])) = ap (take used) (sym (slice_is bytes at)) ∙ item.spelled ∙ sym (joined_one e p pair) in
    sym (take-append-drop used (drop at bytes)) ∙ ap (λ (xs : List ℕ). xs ++ drop used (drop at bytes)) front ∙ ap (λ (xs : List ℕ). joined (pairs_of (e ∷ [])) ++ xs) (drop-drop used at bytes)

-- it lies within them
pub item_within : (p : Pair) (bytes : List ℕ) (at used : ℕ) → at ≤ length bytes → IsItem p used (take (length bytes - at) (drop at bytes)) → at + used ≤ length bytes
item_within p bytes at used within item =
    omega (arith, length-drop at bytes, length-take used (take (length bytes - at) (drop at bytes)), length-take (length bytes - at) (drop at bytes), ap (λ (xs : List ℕ). length xs) item.spelled, item.len)

pub item_some : {T : Type 0} (o : Option T) (p : Pair) (bytes : List ℕ) (at used : ℕ) → IsItem p used bytes → MatchOption o (at < at + used) (λ _. at ≤ at + used)
item_some None p bytes at used item = omega (arith, item.len, length-spelling p)
item_some (Some x) p bytes at used item = omega arith

pub used_bound : (p : Pair) (used : ℕ) → IsRecord p → used ≡ length (spelling p) → used ≤ 32836
used_bound p used is e = omega (arith, length-spelling p, is.within)

pub as_pair : (e : Entry) (actor : Actor) (request : Request) → IsEntryOf actor request e → pair_of e ≡ record { actor = actor; request = request }
as_pair e actor request is = let a = is.actor_is in let r = is.request_is in cc
