-- Records are collected from pieces of an input.
use Rattle.std.proofs.Common.{◌≡◌, ◌≢◌, ℕ, ◌+◌, ◌-◌, ◌<◌, ◌≤◌, List, [], ◌∷◌, ◌++◌, length, replicate, Some, take, drop, Bool, false, refl, sym, ap, subst, ◌∙◌, append_assoc, arith}
use Rattle.std.proofs.Math.Seq.{take-length}
use Rattle.std.proofs.lemmas.List.{append-nil, length-append, length-drop, drop-drop, take-append-drop}
use Rattle.std.specs.List.{AllByRecursion}
use Rattle.tbl_kinds.specs.Records.{Pair, IsRecord, spelling, joined, record_limit}
use Rattle.tbl_kinds.specs.declared.request.Request.{Request}
use Rattle.tbl_kinds.proofs.InputLaws.{joined-snoc, each-snoc}
use Rattle.tbl_session.specs.Actors.{actor_count}
use Rattle.tbl_crew.specs.Scripts.{pushed}
use Rattle.tbl_top.specs.Collecting.{Collecting, HasTaken, TakesOne, put_last, scripts_of}
use Rattle.tbl_stream.specs.Feeding.{IsKept}
use Rattle.tbl_session.specs.Inputs.{StopsReading}
use Rattle.tbl_top.specs.Reading.{HasRead}
use Rattle.tbl_stream.specs.Standing.{Leaves}
use Rattle.tbl_stream.proofs.FeedingLemmas.{front_length}
use Rattle.tbl_top.proofs.OffsetLemmas.{joined_bound}
use Rattle.tbl_top.proofs.SessionLemmas.{beginning}
use Rattle.tbl_stream.specs.declared.standing.Standing.{Standing}
use Rattle.tbl_stream.specs.declared.standing.Standing.TheVariants.{Open}

-- ---- one record more

-- the slice from a place on
slice_is : (bytes : List ℕ) (at : ℕ) → take (length bytes - at) (drop at bytes) ≡ drop at bytes
slice_is bytes at = ap (λ n. take n (drop at bytes)) (sym (length-drop at bytes)) ∙ take-length (drop at bytes)

-- the record that was read is the front of the bytes from a place on
pub spelled_first : (p : Pair) (bytes rest : List ℕ) (at used : ℕ) → bytes ≡ rest → take used (take (length bytes - at) (drop at bytes)) ≡ spelling p → drop at rest ≡ spelling p ++ drop (at + used) rest
spelled_first p bytes rest at used same spelled =
    let front : take used (drop at rest) ≡ spelling p = subst (λ (xs : List ℕ). take used (drop at xs) ≡ spelling p) same (ap (take used) (sym (slice_is bytes at)) ∙ spelled) in
    sym (take-append-drop used (drop at rest))
    ∙ ap (λ (xs : List ℕ). xs ++ drop used (drop at rest)) front
    ∙ ap (λ (xs : List ℕ). spelling p ++ xs) (drop-drop used at rest)

put_last-snoc : (scripts : List (List Request)) (pairs : List Pair) (p : Pair) → put_last scripts (pairs ++ p ∷ []) ≡ pushed (put_last scripts pairs) p
put_last-snoc scripts [] p = refl
put_last-snoc scripts (q ∷ pairs) p = put_last-snoc (pushed scripts q) pairs p

-- within a piece: these records were taken, and after them comes what wasn't looked at yet
pub record IsTaking (fed : List ℕ) (at : ℕ) (pairs : List Pair) (c : Collecting) : Type 0 where
  pub parts : fed ≡ joined pairs ++ drop at c.rest
  pub each : AllByRecursion IsRecord pairs
  pub few : record_limit ≡ c.left + length pairs
  pub scripts : c.scripts ≡ scripts_of pairs

-- a record more was taken
pub takes_next : (fed : List ℕ) (at further : ℕ) (pairs : List Pair) (old new : Collecting) (one : TakesOne at further old new) → new.rest ≡ old.rest → IsTaking fed at pairs old
    → IsTaking fed further (pairs ++ one.pair ∷ []) new
takes_next fed at further pairs old new one rest t =
    let p = one.pair in
    record {
      parts = t.parts
          ∙ ap (λ (xs : List ℕ). joined pairs ++ xs) one.spelled
          ∙ sym (append_assoc (joined pairs) (spelling p) (drop further old.rest))
          ∙ ap (λ (xs : List ℕ). xs ++ drop further old.rest) (sym (joined-snoc pairs p))
          ∙ ap (λ (xs : List ℕ). joined (pairs ++ p ∷ []) ++ drop further xs) (sym rest);
      each = each-snoc pairs p t.each one.is_record;
      few = omega (arith, length-append pairs (p ∷ []), one.left, t.few);
      scripts = one.scripts ∙ ap (λ (s : List (List Request)). pushed s p) t.scripts ∙ sym (put_last-snoc (replicate actor_count []) pairs p);
    }

-- no record more was taken, and what was is dropped
pub takes_last : (standing : Standing) (fed : List ℕ) (at most : ℕ) (pairs : List Pair) (c new : Collecting) → Leaves standing (Some c.left) (drop at c.rest) → length c.rest ≤ most
    → new.scripts ≡ c.scripts → new.left ≡ c.left → new.rest ≡ drop at c.rest → IsTaking fed at pairs c
    → HasTaken standing fed most pairs new
takes_last standing fed at most pairs c new leaves near scripts left rest t = record {
  behind = drop at c.rest;
  parts = t.parts;
  near = omega (arith, length-drop at c.rest);
  each = t.each;
  few = omega (arith, t.few, left);
  scripts = scripts ∙ t.scripts;
  leaves = subst (λ (n : ℕ). Leaves standing (Some n) (drop at c.rest)) (sym left) leaves;
  keeps = λ _. rest;
}

-- ---- the whole reading

-- before the last piece there were these records, and at most the beginning of a further one
stops_behind : (fed last : List ℕ) (most : ℕ) (pairs : List Pair) (c : Collecting) → length last ≤ 4096 → HasTaken Open fed most pairs c → StopsReading (fed ++ last)
stops_behind fed last most pairs c short t = record {
  records = pairs;
  beginning = t.behind;
  last = last;
  parts = ap (λ (xs : List ℕ). xs ++ last) t.parts;
  each = t.each;
  few = omega (arith, t.few);
  begun = beginning c.left (length pairs) t.behind t.few t.leaves;
  short = short;
}

-- nothing more was read
pub reads_nothing : (fed : List ℕ) (most : ℕ) (pairs : List Pair) (c : Collecting) (failed : Bool) (at_end : Type 0) → (failed ≡ false → at_end) → HasTaken Open fed most pairs c
    → HasRead Open pairs c.rest (fed ++ []) failed at_end
reads_nothing fed most pairs c failed at_end end t = record {
  behind = t.behind;
  parts = append-nil fed ∙ t.parts;
  near = omega (arith, front_length (Some c.left) t.behind t.leaves);
  each = t.each;
  left = c.left;
  few = t.few;
  leaves = t.leaves;
  keeps = t.keeps;
  ended = λ _. end;
  cut = λ _ _. refl;
  stops = stops_behind fed [] most pairs c (omega arith) t;
}

-- a piece more was read and fed, and no more can follow
pub reads_last : (standing : Standing) (fed piece : List ℕ) (most : ℕ) (pairs more : List Pair) (old new : Collecting) (at_end : Type 0) → standing ≢ Open → length piece ≤ 4096
    → HasTaken Open fed most pairs old → HasTaken standing (fed ++ piece) (length old.rest + length piece) more new
    → HasRead standing more new.rest (fed ++ piece) false at_end
reads_last standing fed piece most pairs more old new at_end over short before t = record {
  behind = t.behind;
  parts = t.parts;
  near = omega (arith, front_length (Some old.left) before.behind before.leaves, ap length (before.keeps refl), t.near);
  each = t.each;
  left = new.left;
  few = t.few;
  leaves = t.leaves;
  keeps = t.keeps;
  ended = λ is. absurd (over is);
  cut = λ e. absurd cc;
  stops = stops_behind fed piece most pairs old short before;
}

-- how long a session can be
pub taken_bound : (fed : List ℕ) (most : ℕ) (pairs : List Pair) (c : Collecting) → HasTaken Open fed most pairs c → length fed < 1076100000
taken_bound fed most pairs c t =
    omega (arith, ap length t.parts, length-append (joined pairs) t.behind, joined_bound pairs t.each, t.few, front_length (Some c.left) t.behind t.leaves)
