-- Stretches of a stream, one after the other.
use Rattle.std.proofs.Common.{◌≡◌, ℕ, ◌+◌, List, [], ◌∷◌, ◌++◌, length, take, Option, Bool, true, false, ℤ, refl, sym, ap, subst, ◌∙◌, append_assoc, arith}
use Rattle.std.specs.Prelude.{◌%◌, ◌^◌}
use Rattle.std.specs.Io.KnownBytes.{append_known}
use Rattle.std.proofs.lemmas.List.{length-append}
use Rattle.tbl_kinds.specs.Records.{joined}
use Rattle.tbl_kinds.specs.Transcript.{pairs_of, entry_bytes}
use Rattle.tbl_kinds.specs.declared.entry.Entry.{Entry}
use Rattle.tbl_outside.proofs.Streams.{append_known-nil, written_more}
use Rattle.tbl_outside.specs.declared.bank.Bank.{Ghosts}
use Rattle.tbl_session.specs.Trouble.{EndsInBoot}
use Rattle.tbl_stream.specs.Places.{place_of, told_from}
use Rattle.tbl_stream.specs.Playing.{Moment, Goes, Plays, PlaysOf}
use Rattle.tbl_stream.specs.Standing.{TellsFull, IsWritten, IsCutShort, Way, all_written, not_taken, not_spelled, way_of, WrittenBy, TellsWritten, TellsCause, TellsBoot, IsQuiet}
use Rattle.tbl_stream.specs.declared.standing.Standing.{Standing}
use Rattle.tbl_stream.specs.declared.standing.Standing.TheVariants.{Open, Bad, TooMany, Full, BootFault, BootStopped, SinkFailed, Memory, Unwritten}
use Rattle.tbl_stream.specs.Limits.{and_more}
use Rattle.tbl_stream.proofs.StandingLemmas.{by_quiet, and_none, and_on}
use Rattle.tbl_stream.proofs.GoingLemmas.{goes_none, goes_on}
use Rattle.tbl_stream.proofs.Rounds.{same_on, place_on, told_same, told_append, each_append, joined_append, stream_on}

-- ---- what the sink took

pub written_on : (p q : ℕ) (xs ys : List Entry) (a b c : Option (List ℕ)) → place_of q ≡ place_of (p + length xs) → IsWritten p xs a b → IsWritten q ys b c → IsWritten p (xs ++ ys) a c
written_on p q xs ys a b c same w v =
    written_more a b c (told_from p xs) (told_from (p + length xs) ys) w (v ∙ ap (append_known b) (told_same q (p + length xs) ys same))
    ∙ ap (append_known a) (sym (told_append p xs ys))

cut_on : (p q : ℕ) (xs ys : List Entry) (a b c : Option (List ℕ)) → place_of q ≡ place_of (p + length xs) → IsWritten p xs a b → IsCutShort q ys b c → IsCutShort p (xs ++ ys) a c
cut_on p q xs ys a b c same w cut =
    let tail = take cut.count (entry_bytes (place_of (q + length cut.front)) cut.last) in
    let at : place_of (q + length cut.front) ≡ place_of (p + length (xs ++ cut.front)) =
    place_on q (p + length xs) (length cut.front) same ∙ ap place_of (omega (arith, length-append xs cut.front)) in
    record {
      front = xs ++ cut.front;
      last = cut.last;
      parts = ap (λ (es : List Entry). xs ++ es) cut.parts ∙ sym (append_assoc xs cut.front (cut.last ∷ []));
      count = cut.count;
      grown =
          written_more a b c (told_from p xs) (told_from q cut.front ++ tail) w cut.grown
          ∙ ap (append_known a)
          (sym (append_assoc (told_from p xs) (told_from q cut.front) tail)
          ∙ ap (λ (s : List ℕ). (told_from p xs ++ s) ++ tail) (told_same q (p + length xs) cut.front same)
          ∙ ap (λ (s : List ℕ). s ++ tail) (sym (told_append p xs cut.front))
          ∙ ap (λ n. told_from p (xs ++ cut.front) ++ take cut.count (entry_bytes n cut.last)) at);
    }

tells_on : (way : Way) (p q : ℕ) (xs ys : List Entry) (a b c : Option (List ℕ)) → place_of q ≡ place_of (p + length xs) → IsWritten p xs a b → WrittenBy way q ys b c → WrittenBy way p (xs ++ ys) a c
tells_on all_written p q xs ys a b c same w v = written_on p q xs ys a b c same w v
tells_on not_taken p q xs ys a b c same w v = cut_on p q xs ys a b c same w v
tells_on not_spelled p q xs ys a b c same w v = cut_on p q xs ys a b c same w v

-- ---- boots

boot_later : (stopped : Bool) (xs ys : List Entry) → EndsInBoot stopped ys → EndsInBoot stopped (xs ++ ys)
boot_later stopped xs ys boot = (xs ++ boot.0, boot.1, ap (λ (es : List Entry). xs ++ es) boot.2 ∙ sym (append_assoc xs boot.0 (boot.1 ∷ [])), boot.3, boot.4)

boot_on : (standing : Standing) (ended : Bool) (xs ys : List Entry) → TellsBoot standing ended ys → TellsBoot standing ended (xs ++ ys)
boot_on Open ended xs ys boot = boot
boot_on Bad ended xs ys boot = boot
boot_on TooMany ended xs ys boot = boot
boot_on Full ended xs ys boot = boot
boot_on Memory ended xs ys boot = boot
boot_on BootFault ended xs ys boot = boot_later false xs ys boot
boot_on BootStopped ended xs ys boot = boot_later true xs ys boot
boot_on SinkFailed ended xs ys boot = tt
boot_on Unwritten ended xs ys boot = tt

-- ---- one stretch after another

nothing_told : (standing : Standing) (place : ℕ) (taken : Option (List ℕ)) → IsQuiet standing → TellsWritten standing place [] taken taken
nothing_told standing place taken is = let none = sym (append_known-nil taken) in by_quiet (λ (s : Standing). TellsWritten s place [] taken taken) standing is none none none none none

nothing_failed : (standing : Standing) (count : ℕ) → IsQuiet standing → TellsCause standing count count
nothing_failed standing count is = by_quiet (λ (s : Standing). TellsCause s count count) standing is refl refl refl refl refl

no_boot : (standing : Standing) (ended : Bool) → IsQuiet standing → ended ≡ false → TellsBoot standing ended []
no_boot standing ended is live = by_quiet (λ (s : Standing). TellsBoot s ended []) standing is live live live live live

module _ {B C : Type 0} (g : Ghosts B) (verdict : C → List ℕ → ℤ) where
  -- the engine at most counted its images again
  pub plays_nothing : (standing : Standing) (old new : Moment B C) → IsQuiet standing → Goes g verdict old.played.engine new.played.engine [] → new.played.place ≡ old.played.place → new.played.offset ≡ old.played.offset → new.played.left ≡ old.played.left
      → new.taken ≡ old.taken → new.unwritten ≡ old.unwritten → new.played.engine.state.ended ≡ false → Plays g verdict standing old new []
  plays_nothing standing old new quiet goes place offset left taken unwritten live = record {
    goes = goes;
    each = tt;
    place = ap place_of (place ∙ omega arith);
    offset = ap (λ n. n % 2 ^ 32) (offset ∙ omega arith);
    left = sym left ∙ and_none new.played.left;
    written = subst (λ (t : Option (List ℕ)). TellsWritten standing old.played.place [] old.taken t) (sym taken) (nothing_told standing old.played.place old.taken quiet);
    cause = subst (λ n. TellsCause standing old.unwritten n) (sym unwritten) (nothing_failed standing old.unwritten quiet);
    boot = no_boot standing new.played.engine.state.ended quiet live;
    count = omega (arith, unwritten);
  }

  pub plays_none : (standing : Standing) (m : Moment B C) → IsQuiet standing → m.played.engine.state.ended ≡ false → Plays g verdict standing m m []
  plays_none standing m quiet live = plays_nothing standing m m quiet (goes_none g verdict m.played.engine) refl refl refl refl refl live

  pub plays_on : (standing : Standing) (a b c : Moment B C) (xs ys : List Entry) → Plays g verdict Open a b xs → Plays g verdict standing b c ys → Plays g verdict standing a c (xs ++ ys)
  plays_on standing a b c xs ys p q = record {
    goes = goes_on g verdict a.played.engine b.played.engine c.played.engine xs ys p.goes q.goes;
    each = each_append xs ys p.each q.each;
    place = q.place ∙ place_on b.played.place (a.played.place + length xs) (length ys) p.place ∙ ap place_of (omega (arith, length-append xs ys));
    offset =
        q.offset ∙ same_on (2 ^ 32) b.played.offset (a.played.offset + length (joined (pairs_of xs))) (length (joined (pairs_of ys))) p.offset
        ∙ ap (λ n. n % 2 ^ 32) (omega (arith, length-append (joined (pairs_of xs)) (joined (pairs_of ys)), ap (λ (s : List ℕ). length s) (joined_append xs ys)));
    left = subst (λ n. a.played.left ≡ and_more n c.played.left) (sym (length-append xs ys)) (and_on (length xs) (length ys) a.played.left b.played.left c.played.left p.left q.left);
    written = tells_on (way_of standing) a.played.place b.played.place xs ys a.taken b.taken c.taken p.place p.written q.written;
    cause = subst (λ n. TellsCause standing n c.unwritten) p.cause q.cause;
    boot = boot_on standing c.played.engine.state.ended xs ys q.boot;
    count = omega (arith, p.count, q.count);
  }

  pub plays_of_nothing : (standing : Standing) (m : Moment B C) (bytes : List ℕ) → IsQuiet standing → TellsFull standing m.played.engine.played → m.played.engine.state.ended ≡ false → PlaysOf g verdict standing m m bytes bytes
  plays_of_nothing standing m bytes quiet full live = record {
    entries = [];
    plays = plays_none standing m quiet live;
    parts = refl;
    full = full;
  }

  pub plays_of_on : (standing : Standing) (a b c : Moment B C) (bytes mid left : List ℕ) → PlaysOf g verdict Open a b bytes mid → PlaysOf g verdict standing b c mid left → PlaysOf g verdict standing a c bytes left
  plays_of_on standing a b c bytes mid left p q = record {
    entries = p.entries ++ q.entries;
    plays = plays_on standing a b c p.entries q.entries p.plays q.plays;
    parts = stream_on bytes mid left p.entries q.entries p.parts q.parts;
    full = q.full;
  }
