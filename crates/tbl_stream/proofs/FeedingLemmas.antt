-- A piece more was fed.
use Rattle.std.proofs.Common.{◌≡◌, ◌≢◌, ℕ, ◌+◌, List, [], ◌++◌, length, take, drop, true, Option, Some, ℤ, refl, sym, ap, subst, ◌∙◌, append_assoc, arith, inl, inr}
use Rattle.std.specs.Prelude.{◌<◌}
use Rattle.std.proofs.lemmas.List.{append-nil, length-append, length-map, length-drop, drop-drop, take-append-drop, nil_from_length}
use Rattle.std.specs.List.{AllByRecursion}
use Rattle.tbl_kinds.specs.Heads.{EndsBefore}
use Rattle.tbl_kinds.specs.Records.{Pair, IsRecord, BeginsWith, AreRecords, joined, record_limit}
use Rattle.tbl_kinds.specs.Transcript.{pair_of, pairs_of}
use Rattle.tbl_kinds.proofs.InputLaws.{short-length, bad-append, are_records}
use Rattle.tbl_model.specs.State.{State}
use Rattle.tbl_laws.proofs.BackedLaws.{backed}
use Rattle.tbl_laws.proofs.VouchedLaws.{vouched}
use Rattle.tbl_laws.proofs.WholeLaws.{whole}
use Rattle.tbl_core.specs.Service.{EngineView, FollowsFrom, core_of}
use Rattle.tbl_stream.specs.Limits.{and_more, is_spent}
use Rattle.tbl_stream.specs.Soundness.{IsSound}
use Rattle.tbl_kinds.specs.declared.entry.Entry.{Entry}
use Rattle.tbl_outside.specs.declared.bank.Bank.{Ghosts}
use Rattle.tbl_stream.specs.Playing.{Moment, Goes, Plays, PlaysOf}
use Rattle.tbl_stream.specs.Standing.{HasPlayedAll, Leaves, IsFront, IsQuiet, TellsWritten, TellsCause, TellsBoot}
use Rattle.tbl_stream.specs.Feeding.{answer_of, Feeds, FeedsPiece, IsKept}
use Rattle.tbl_stream.specs.declared.standing.Standing.{Standing}
use Rattle.tbl_stream.specs.declared.standing.Standing.TheVariants.{Open, Bad, TooMany, Full, BootFault, BootStopped, SinkFailed, Memory, Unwritten}
use Rattle.tbl_stream.specs.declared.stream.Fed.TheVariants as fed
use Rattle.tbl_stream.proofs.StandingLemmas.{by_quiet, and_on, left_of, spent}
use Rattle.tbl_stream.proofs.PlayingLemmas.{plays_of_on}
use Rattle.tbl_stream.proofs.Rounds.{each_joined, joined_pairs}

pub front_length : (left : Option ℕ) (rest : List ℕ) → IsFront left rest → length rest < 32836
front_length left rest (inl none) = rw none (omega arith)
front_length left rest (inr short) = short-length rest short.0

-- what ends a stream stays so, whatever comes after
pub leaves_more : (standing : Standing) (left : Option ℕ) (behind more : List ℕ) → standing ≢ Open → Leaves standing left behind → Leaves standing left (behind ++ more)
leaves_more Open left behind more is leaves = absurd (is refl)
leaves_more Bad left behind more is leaves = (bad-append behind more leaves.0, leaves.1)
leaves_more TooMany left behind more is leaves = (leaves.0, omega (arith, length-append behind more, leaves.1))
leaves_more Full left behind more is leaves = tt
leaves_more BootFault left behind more is leaves = tt
leaves_more BootStopped left behind more is leaves = tt
leaves_more SinkFailed left behind more is leaves = tt
leaves_more Memory left behind more is leaves = tt
leaves_more Unwritten left behind more is leaves = tt

-- an open stream keeps the beginning of a record at most
pub open_front : (standing : Standing) (left : Option ℕ) (behind kept : List ℕ) → standing ≡ Open → Leaves standing left behind → IsKept standing behind kept → IsFront left kept
open_front standing left behind kept is leaves keeps = subst (IsFront left) (sym (keeps is)) (subst (λ (s : Standing). Leaves s left behind) is leaves)

-- what an answer says
pub open_answer : (standing : Standing) → fed.More ≡ answer_of standing → standing ≡ Open
open_answer Open e = refl
open_answer Bad e = cc
open_answer TooMany e = cc
open_answer Full e = cc
open_answer BootFault e = cc
open_answer BootStopped e = cc
open_answer SinkFailed e = cc
open_answer Memory e = cc
open_answer Unwritten e = cc

pub over_is : (standing : Standing) → fed.Over ≡ answer_of standing → standing ≢ Open
over_is standing e = λ is. cc

pub memory_is : (standing : Standing) → fed.Memory ≡ answer_of standing → standing ≢ Open
memory_is standing e = λ is. cc

module _ {B C : Type 0} (g : Ghosts B) (verdict : C → List ℕ → ℤ) where
  -- a stream that was open ends for the room or for memory
  pub plays_quiet : (standing : Standing) (a b : Moment B C) (es : List Entry) → IsQuiet standing → Plays g verdict Open a b es → Plays g verdict standing a b es
  plays_quiet standing a b es quiet p = record {
    goes = p.goes;
    each = p.each;
    place = p.place;
    offset = p.offset;
    left = p.left;
    written = by_quiet (λ (s : Standing). TellsWritten s a.played.place es a.taken b.taken) standing quiet p.written p.written p.written p.written p.written;
    cause = by_quiet (λ (s : Standing). TellsCause s a.unwritten b.unwritten) standing quiet p.cause p.cause p.cause p.cause p.cause;
    boot = by_quiet (λ (s : Standing). TellsBoot s b.played.engine.state.ended es) standing quiet p.boot p.boot p.boot p.boot p.boot;
    count = p.count;
  }

  -- the record whose beginning was kept: the bytes that were moved after the kept ones come from the piece
  pub completed : (standing : Standing) (a b : Moment B C) (kept left piece : List ℕ) (at count : ℕ) → PlaysOf g verdict standing a b (kept ++ take count (drop at piece)) left
      → PlaysOf g verdict standing a b (kept ++ drop at piece) (left ++ drop (at + count) piece)
  completed standing a b kept left piece at count p =
      let front = take count (drop at piece) in
      let behind = drop (at + count) piece in
      let whole : front ++ behind ≡ drop at piece = ap (λ (xs : List ℕ). front ++ xs) (sym (drop-drop count at piece)) ∙ take-append-drop count (drop at piece) in
      record {
        entries = p.entries;
        plays = p.plays;
        parts = ap (λ (xs : List ℕ). kept ++ xs) (sym whole) ∙ sym (append_assoc kept front behind) ∙ ap (λ (xs : List ℕ). xs ++ behind) p.parts ∙ append_assoc (joined (pairs_of p.entries)) left behind;
        full = p.full;
      }

  -- the piece is used up, and a beginning is kept
  pub feeds_kept : (a b : Moment B C) (fed kept piece : List ℕ) (at : ℕ) → at ≡ length piece → PlaysOf g verdict Open a b fed (kept ++ drop at piece) → IsFront b.played.left kept → Feeds g verdict Open a b fed kept
  feeds_kept a b fed kept piece at all p begun =
      let none : drop at piece ≡ [] = nil_from_length (drop at piece) (omega (arith, length-drop at piece)) in
      record {
        behind = kept;
        played = record {
          entries = p.entries;
          plays = p.plays;
          parts = p.parts ∙ ap (λ (xs : List ℕ). joined (pairs_of p.entries) ++ (kept ++ xs)) none ∙ ap (λ (xs : List ℕ). joined (pairs_of p.entries) ++ xs) (append-nil kept);
          full = p.full;
        };
        leaves = begun;
        keeps = λ _. refl;
      }

  -- the stream is over
  pub feeds_over : (standing : Standing) (a b : Moment B C) (fed left kept more : List ℕ) → standing ≢ Open → PlaysOf g verdict standing a b fed (left ++ more) → Leaves standing b.played.left left → Feeds g verdict standing a b fed kept
  feeds_over standing a b fed left kept more is p leaves = record {
    behind = left ++ more;
    played = p;
    leaves = leaves_more standing b.played.left left more is leaves;
    keeps = λ same. absurd (is same);
  }

  -- or what is left was played up to what is there
  pub feeds_left : (standing : Standing) (a b : Moment B C) (fed left kept : List ℕ) → PlaysOf g verdict standing a b fed left → Leaves standing b.played.left left → IsKept standing left kept → Feeds g verdict standing a b fed kept
  feeds_left standing a b fed left kept p leaves keeps = record {
    behind = left;
    played = p;
    leaves = leaves;
    keeps = keeps;
  }

  -- memory ran out to keep it
  pub feeds_starved : (a b : Moment B C) (fed left kept : List ℕ) → PlaysOf g verdict Open a b fed left → Feeds g verdict Memory a b fed kept
  feeds_starved a b fed left kept p = record {
    behind = left;
    played = record { entries = p.entries; plays = plays_quiet Memory a b p.entries tt p.plays; parts = p.parts; full = tt };
    leaves = tt;
    keeps = λ e. absurd cc;
  }

  -- after a stretch that was played before
  pub feeds_on : (standing : Standing) (a b c : Moment B C) (fed mid kept : List ℕ) → PlaysOf g verdict Open a b fed mid → Feeds g verdict standing b c mid kept → Feeds g verdict standing a c fed kept
  feeds_on standing a b c fed mid kept p f = record {
    behind = f.behind;
    played = plays_of_on g verdict standing a b c fed mid f.behind p f.played;
    leaves = f.leaves;
    keeps = f.keeps;
  }

-- ---- what a piece is worth

module _ {B C : Type 0} (g : Ghosts B) (verdict : C → List ℕ → ℤ) (standing : Standing) (old new : Moment B C) (fed kept : List ℕ) (f : Feeds g verdict standing old new fed kept) (before : List Pair) (each : AllByRecursion IsRecord before) (few : Some record_limit ≡ and_more (length before) old.played.left) where
  abbrev Records : List Pair
  Records = before ++ pairs_of f.played.entries

  all_each : AllByRecursion IsRecord Records
  all_each = each_joined before (pairs_of f.played.entries) each f.played.plays.each

  parts : joined before ++ fed ≡ joined Records ++ f.behind
  parts =
      ap (λ (xs : List ℕ). joined before ++ xs) f.played.parts ∙ sym (append_assoc (joined before) (joined (pairs_of f.played.entries)) f.behind)
      ∙ ap (λ (xs : List ℕ). xs ++ f.behind) (sym (joined_pairs before (pairs_of f.played.entries)))

  count_is : (length f.played.entries + length before) ≡ length Records
  count_is = omega (arith, length-append before (pairs_of f.played.entries), length-map f.played.entries pair_of)

  -- so many may still follow
  room : (m : ℕ) × (new.played.left ≡ Some m) × (record_limit ≡ m + length Records)
  room =
      left_of record_limit (length Records) new.played.left
      (and_on (length before) (length f.played.entries) (Some record_limit) old.played.left new.played.left few f.played.plays.left
      ∙ ap (λ n. and_more n new.played.left) (omega (arith, count_is)))

  pub begins_with : BeginsWith (joined before ++ fed) Records
  begins_with = record { few = omega (arith, room.2); each = all_each; rest = f.behind; parts = parts }

  ends_before : (s : Standing) → HasPlayedAll s → (s ≢ Full) → Leaves s new.played.left f.behind → EndsBefore Records f.behind
  ends_before Open all other (inl none) = inl none
  ends_before Open all other (inr short) = inr (inl short.0)
  ends_before Bad all other leaves = inr (inr (inl leaves.0))
  ends_before TooMany all other leaves = inr (inr (inr (omega (arith, spent room.0 (subst (λ (l : Option ℕ). is_spent l ≡ true) room.1 leaves.0), room.2))))
  ends_before Full all other leaves = absurd (other refl)
  ends_before BootFault all other leaves = absurd all
  ends_before BootStopped all other leaves = absurd all
  ends_before SinkFailed all other leaves = absurd all
  ends_before Memory all other leaves = absurd all
  ends_before Unwritten all other leaves = absurd all

  pub records_of : HasPlayedAll standing → standing ≢ Full → AreRecords (joined before ++ fed) Records
  records_of all other = are_records (joined before ++ fed) Records f.behind all_each (omega (arith, room.2)) parts (ends_before standing all other f.leaves)

module _ {B C : Type 0} (g : Ghosts B) (verdict : C → List ℕ → ℤ) where
  sound_of : (old new : EngineView B C) (entries : List Entry) → Goes g verdict old new entries → g.tells → (opening : State) (past : List Entry) → FollowsFrom g opening (core_of past old) → IsSound opening (past ++ entries)
  sound_of old new entries goes told opening past stood =
      let legal = ((goes.continues past).stands opening stood).legal told in
      record {
        vouched = λ at_first none_pending. vouched opening (past ++ entries) _ at_first none_pending legal;
        whole = λ at_first none_pending. whole opening (past ++ entries) _ at_first none_pending legal;
        backed = λ at_first single. backed opening (past ++ entries) _ at_first single legal;
      }

  pub feeds_piece : (standing : Standing) (old new : Moment B C) (fed kept : List ℕ) → Feeds g verdict standing old new fed kept → FeedsPiece g verdict standing old new fed kept
  feeds_piece standing old new fed kept f = record {
    feeds = f;
    begins = begins_with g verdict standing old new fed kept f;
    records = records_of g verdict standing old new fed kept f;
    sound = sound_of old.played.engine new.played.engine f.played.entries f.played.plays.goes;
  }
