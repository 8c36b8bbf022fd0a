-- One read more, and the whole reading.
use Rattle.std.proofs.Common.{◌≡◌, ℕ, List, [], ◌++◌, length, Option, Some, None, ℤ, refl, sym, ap, subst, ◌∙◌, append_assoc, arith}
use Rattle.std.specs.Prelude.{◌≤◌, false}
use Rattle.std.proofs.lemmas.List.{append-nil, length-append, length-map}
use Rattle.std.specs.Io.KnownBytes.{prepend_known}
use Rattle.tbl_kinds.specs.Records.{joined}
use Rattle.tbl_kinds.specs.Transcript.{pair_of, pairs_of}
use Rattle.tbl_outside.specs.declared.bank.Bank.{Ghosts}
use Rattle.tbl_stream.specs.Playing.{Moment, Plays, PlaysOf}
use Rattle.tbl_stream.specs.Standing.{IsFront, Leaves}
use Rattle.tbl_stream.specs.Feeding.{Feeds, IsKept}
use Rattle.tbl_stream.specs.Reading.{Consumes, Stops}
use Rattle.tbl_stream.specs.Limits.{and_more}
use Rattle.tbl_stream.specs.declared.standing.Standing.{Standing}
use Rattle.tbl_stream.specs.declared.standing.Standing.TheVariants.{Open, Full}
use Rattle.tbl_stream.proofs.FeedingLemmas.{front_length, plays_quiet}
use Rattle.tbl_stream.proofs.PlayingLemmas.{plays_none, plays_on}
use Rattle.tbl_stream.proofs.Rounds.{each_joined, joined_pairs, stream_on}
use Rattle.tbl_stream.proofs.StandingLemmas.{and_none, and_on}

pub prepend_nothing : (left : Option (List ℕ)) → left ≡ prepend_known [] left
prepend_nothing None = refl
prepend_nothing (Some xs) = refl

-- of what was kept and one piece at most after it
pub stops_piece : (left : Option ℕ) (rest piece : List ℕ) → IsFront left rest → length piece ≤ 4096 → Stops left (rest ++ piece)
stops_piece left rest piece begun short = record {
  records = [];
  beginning = rest;
  last = piece;
  parts = refl;
  each = tt;
  left = left;
  few = and_none left;
  begun = begun;
  short = short;
}

module _ {B C : Type 0} (g : Ghosts B) (verdict : C → List ℕ → ℤ) where
  -- nothing more was read
  pub reads_nothing : (m : Moment B C) (rest : List ℕ) → IsFront m.played.left rest → m.played.engine.state.ended ≡ false → Consumes g verdict Open m m (rest ++ []) rest
  reads_nothing m rest begun live = record {
    entries = [];
    plays = plays_none g verdict Open m tt live;
    behind = rest;
    parts = append-nil rest;
    leaves = begun;
    keeps = λ _. refl;
    near = omega (arith, front_length m.played.left rest begun);
    stops = stops_piece m.played.left rest [] begun (omega arith);
  }

  -- a piece was read and fed
  pub reads_piece : (standing : Standing) (a b : Moment B C) (rest piece kept : List ℕ) → IsFront a.played.left rest → length piece ≤ 4096 → Feeds g verdict standing a b (rest ++ piece) kept → Consumes g verdict standing a b (rest ++ piece) kept
  reads_piece standing a b rest piece kept begun short f = record {
    entries = f.played.entries;
    plays = f.played.plays;
    behind = f.behind;
    parts = f.played.parts;
    leaves = f.leaves;
    keeps = f.keeps;
    near = omega (arith, front_length a.played.left rest begun, length-append rest piece, length-append (joined (pairs_of f.played.entries)) f.behind, ap (λ (xs : List ℕ). length xs) f.played.parts);
    stops = stops_piece a.played.left rest piece begun short;
  }

  -- what was read before it was played, but for what the stream kept
  pub reads_on : (standing : Standing) (a b c : Moment B C) (first read rest more kept : List ℕ) → PlaysOf g verdict Open a b (first ++ read) rest → Consumes g verdict standing b c (rest ++ more) kept → Consumes g verdict standing a c (first ++ (read ++ more)) kept
  reads_on standing a b c first read rest more kept p r =
      let longer : first ++ (read ++ more) ≡ joined (pairs_of p.entries) ++ (rest ++ more) =
      sym (append_assoc first read more) ∙ ap (λ (xs : List ℕ). xs ++ more) p.parts ∙ append_assoc (joined (pairs_of p.entries)) rest more in
      record {
        entries = p.entries ++ r.entries;
        plays = plays_on g verdict standing a b c p.entries r.entries p.plays r.plays;
        behind = r.behind;
        parts = stream_on (first ++ (read ++ more)) (rest ++ more) r.behind p.entries r.entries longer r.parts;
        leaves = r.leaves;
        keeps = r.keeps;
        near = r.near;
        stops = record {
          records = pairs_of p.entries ++ r.stops.records;
          beginning = r.stops.beginning;
          last = r.stops.last;
          parts = longer ∙ ap (λ (xs : List ℕ). joined (pairs_of p.entries) ++ xs) r.stops.parts ∙ sym (append_assoc (joined (pairs_of p.entries)) (joined r.stops.records ++ r.stops.beginning) r.stops.last)
              ∙ ap (λ (xs : List ℕ). xs ++ r.stops.last) (sym (append_assoc (joined (pairs_of p.entries)) (joined r.stops.records) r.stops.beginning)
              ∙ ap (λ (xs : List ℕ). xs ++ r.stops.beginning) (sym (joined_pairs (pairs_of p.entries) r.stops.records)));
          each = each_joined (pairs_of p.entries) r.stops.records p.plays.each r.stops.each;
          left = r.stops.left;
          few = and_on (length p.entries) (length r.stops.records) a.played.left b.played.left r.stops.left p.plays.left r.stops.few
              ∙ ap (λ n. and_more n r.stops.left) (omega (arith, length-append (pairs_of p.entries) r.stops.records, length-map p.entries pair_of));
          begun = r.stops.begun;
          short = r.stops.short;
        };
      }

  -- it ends as if there were no room
  pub reads_stopped : (a b : Moment B C) (first read rest kept : List ℕ) → IsFront b.played.left rest → b.played.engine.state.ended ≡ false → PlaysOf g verdict Open a b (first ++ read) rest → Consumes g verdict Full a b (first ++ read) kept
  reads_stopped a b first read rest kept begun live p =
      let r = reads_on Open a b b first read rest [] rest p (reads_nothing b rest begun live) in
      record {
        entries = p.entries;
        plays = plays_quiet g verdict Full a b p.entries tt p.plays;
        behind = rest;
        parts = p.parts;
        leaves = tt;
        keeps = λ e. absurd cc;
        near = omega (arith, front_length b.played.left rest begun);
        stops = subst (λ (xs : List ℕ). Stops a.played.left (first ++ xs)) (append-nil read) r.stops;
      }

  -- so it was if the stream was open
  pub reads_at : (standing : Standing) (m : Moment B C) (rest : List ℕ) → standing ≡ Open → IsFront m.played.left rest → m.played.engine.state.ended ≡ false → Consumes g verdict standing m m (rest ++ []) rest
  reads_at standing m rest is begun live = subst (λ (s : Standing). Consumes g verdict s m m (rest ++ []) rest) (sym is) (reads_nothing m rest begun live)

  -- an open stream keeps all that wasn't played
  pub reads_open : (standing : Standing) (a b : Moment B C) (fed kept : List ℕ) → standing ≡ Open → Consumes g verdict standing a b fed kept → PlaysOf g verdict Open a b fed kept
  reads_open standing a b fed kept is r =
      record {
        entries = r.entries;
        plays = subst (λ (s : Standing). Plays g verdict s a b r.entries) is r.plays;
        parts = r.parts ∙ ap (λ (xs : List ℕ). joined (pairs_of r.entries) ++ xs) (sym (r.keeps is));
        full = tt;
      }

  -- ---- a reading from the start

  pub went_nothing : (m : Moment B C) (rest : List ℕ) → m.played.engine.state.ended ≡ false → PlaysOf g verdict Open m m (rest ++ []) rest
  went_nothing m rest live = record {
    entries = [];
    plays = plays_none g verdict Open m tt live;
    parts = append-nil rest;
    full = tt;
  }
