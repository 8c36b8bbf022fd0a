-- What a status says of the end of the input and of a boot.
use Rattle.std.proofs.Common.{◌≡◌, ◌≢◌, ℕ, eqb, Bool, true, false, List, [], length, refl, sym, ap, subst, arith, ◌⊎◌, inl, inr}
use Rattle.std.specs.Prelude.{if◌then◌else◌}
use Rattle.std.specs.Io.KnownBytes.{IsAtEnd}
use Rattle.std.proofs.lemmas.Bool.{eqb-true}
use Rattle.std.proofs.lemmas.List.{nil_from_length}
use Rattle.tbl_kinds.specs.Heads.{IsShort, IsBad}
use Rattle.tbl_core.specs.Service.{CoreView}
use Rattle.tbl_outside.specs.Counts.{Rose}
use Rattle.tbl_outside.specs.declared.bank.Bank.{Ghosts}
use Rattle.tbl_history.specs.Trouble.{IsCaused}
use Rattle.tbl_history.proofs.TroubleLemmas.{still_lives, one_boot}
use Rattle.tbl_session.specs.Session.{Ran, IsBooted, IsBrokenOff, BootsAs}
use Rattle.tbl_stream.specs.Limits.{is_spent}
use Rattle.tbl_stream.specs.Standing.{HasPlayedAll, IsFront, Leaves, TellsBoot, Way, all_written, not_taken, not_spelled, way_of}
use Rattle.tbl_stream.specs.Feeding.{IsKept}
use Rattle.tbl_stream.specs.Finishing.{status_of}
use Rattle.tbl_stream.specs.Reports.{EndsAs, HasEnded, HasNoRoom, Input, IsKnown, WouldEnd}
use Rattle.tbl_stream.specs.declared.standing.Standing.{Standing}
use Rattle.tbl_stream.specs.declared.standing.Standing.TheVariants.{Open, Bad, TooMany, Full, BootFault, BootStopped, SinkFailed, Memory, Unwritten}
use Rattle.tbl_kinds.specs.declared.entry.Entry.{Entry}

pub not_ended : (status : ℕ) → IsBrokenOff status → HasEnded status → ⊥
not_ended status broken ended = grind arith

pub booted_not_ended : (status : ℕ) → IsBooted status → HasEnded status → ⊥
booted_not_ended status booted ended = grind arith

not_booted : (status : ℕ) → IsBrokenOff status → IsBooted status → ⊥
not_booted status broken booted = grind arith

pub not_told : (status : ℕ) → IsBrokenOff status → HasEnded status ⊎ IsBooted status → ⊥
not_told status broken (inl ended) = not_ended status broken ended
not_told status broken (inr booted) = not_booted status broken booted

pub known_not_usage : (status : ℕ) → IsKnown status → status ≢ 2
known_not_usage status known = λ two. grind arith

-- ---- which end a status says

-- a status that says no end of the input
pub tells_none : {B : Type 0} (r : Ran B) (input : Input) (status : ℕ) → (HasEnded status → ⊥) → EndsAs r input status
tells_none r input status never = record {
  done = λ e. absurd (never (inl (inl e)));
  cut = λ e. absurd (never (inl (inr (inl e))));
  bad = λ e. absurd (never (inl (inr (inr (inl e)))));
  many = λ e. absurd (never (inl (inr (inr (inr e)))));
  full = λ e. absurd (never (inr e));
}

-- or no boot
pub no_boot : (status : ℕ) (entries : List Entry) (read : List ℕ) (bank_failed bank_stopped : Type 0) → IsBrokenOff status → BootsAs status entries read bank_failed bank_stopped
no_boot status entries read bank_failed bank_stopped broken = record {
  fault = λ e. absurd (not_booted status broken (inl e));
  stop = λ e. absurd (not_booted status broken (inr e));
  told_fault = λ _. inr broken;
  told_stop = λ _. inr broken;
}

module _ {B : Type 0} (r : Ran B) (input : Input) where
  -- a bad record, or the beginning of one at the end
  is_bad : (is_spent input.left ≡ false) × (IsBad input.rest ⊎ (IsShort input.rest × IsAtEnd r.left_then)) → EndsAs r input 5
  is_bad bad = record {
    done = λ e. absurd (omega (arith, e));
    cut = λ e. absurd (omega (arith, e));
    bad = λ _. bad;
    many = λ e. absurd (omega (arith, e));
    full = λ e. absurd (omega (arith, e));
  }

  -- at the end of the input nothing is left, or the beginning of a record
  end_as : (whole : Bool) → eqb (length input.rest) 0 ≡ whole → IsFront input.left input.rest → IsAtEnd r.left_then → EndsAs r input (if whole then 0 else 5)
  end_as true e begun end = record {
    done = λ _. (nil_from_length input.rest (eqb-true (length input.rest) 0 e), end);
    cut = λ e. absurd (omega (arith, e));
    bad = λ e. absurd (omega (arith, e));
    many = λ e. absurd (omega (arith, e));
    full = λ e. absurd (omega (arith, e));
  }
  end_as false e (inl none) end = absurd (let e' : eqb (length {A = ℕ} []) 0 ≡ false = subst (λ (xs : List ℕ). eqb (length xs) 0 ≡ false) none e in cc)
  end_as false e (inr short) end = is_bad (short.1, inr (short.0, end))

  -- what is left is what the status says
  pub ends_as : (standing : Standing) (failed : Bool) (kept : List ℕ) → Leaves standing input.left input.rest → IsKept standing input.rest kept
      → (standing ≡ Open → failed ≡ false → IsAtEnd r.left_then) → (failed ≡ true → Rose r.unread r.unread_then) → (standing ≡ Full → HasNoRoom input)
      → EndsAs r input (status_of standing failed (eqb (length kept) 0))
  ends_as Open true kept leaves is end cause full = record {
    done = λ e. absurd (omega (arith, e));
    cut = λ _. (leaves, cause refl);
    bad = λ e. absurd (omega (arith, e));
    many = λ e. absurd (omega (arith, e));
    full = λ e. absurd (omega (arith, e));
  }
  ends_as Open false kept leaves is end cause full = end_as (eqb (length kept) 0) (ap (λ (xs : List ℕ). eqb (length xs) 0) (sym (is refl))) leaves (end refl refl)
  ends_as Bad failed kept leaves is end cause full = is_bad (leaves.1, inl leaves.0)
  ends_as TooMany failed kept leaves is end cause full = record {
    done = λ e. absurd (omega (arith, e));
    cut = λ e. absurd (omega (arith, e));
    bad = λ e. absurd (omega (arith, e));
    many = λ _. leaves;
    full = λ e. absurd (omega (arith, e));
  }
  ends_as Full failed kept leaves is end cause full = record {
    done = λ e. absurd (omega (arith, e));
    cut = λ e. absurd (omega (arith, e));
    bad = λ e. absurd (omega (arith, e));
    many = λ e. absurd (omega (arith, e));
    full = λ _. full refl;
  }
  ends_as BootFault failed kept leaves is end cause full = tells_none r input 7 (booted_not_ended 7 (inl refl))
  ends_as BootStopped failed kept leaves is end cause full = tells_none r input 8 (booted_not_ended 8 (inr refl))
  ends_as SinkFailed failed kept leaves is end cause full = tells_none r input 4 (not_ended 4 (inr refl))
  ends_as Memory failed kept leaves is end cause full = tells_none r input 1 (not_ended 1 (inl refl))
  ends_as Unwritten failed kept leaves is end cause full = tells_none r input 1 (not_ended 1 (inl refl))

-- which boot it was
calm : {B C : Type 0} (status : ℕ) (g : Ghosts B) (bank : B) (core : CoreView B C) (read : List ℕ) (bank_failed bank_stopped : Type 0) → (status ≢ 7) → (status ≢ 8) → IsCaused g bank core → core.state.ended ≡ false
    → BootsAs status core.entries read bank_failed bank_stopped
calm status g bank core read bank_failed bank_stopped not_fault not_stop caused live = record {
  fault = λ e. absurd (not_fault e);
  stop = λ e. absurd (not_stop e);
  told_fault = λ boot. absurd (still_lives g bank core false caused live boot);
  told_stop = λ boot. absurd (still_lives g bank core true caused live boot);
}

pub boots_as : {B C : Type 0} (standing : Standing) (failed whole : Bool) (g : Ghosts B) (bank : B) (core : CoreView B C) (read : List ℕ) (bank_failed bank_stopped : Type 0) → IsCaused g bank core → TellsBoot standing core.state.ended core.entries
    → BootsAs (status_of standing failed whole) core.entries read bank_failed bank_stopped
boots_as Open true whole g bank core read bank_failed bank_stopped caused boot = calm 3 g bank core read bank_failed bank_stopped (λ e. omega (arith, e)) (λ e. omega (arith, e)) caused boot
boots_as Open false true g bank core read bank_failed bank_stopped caused boot = calm 0 g bank core read bank_failed bank_stopped (λ e. omega (arith, e)) (λ e. omega (arith, e)) caused boot
boots_as Open false false g bank core read bank_failed bank_stopped caused boot = calm 5 g bank core read bank_failed bank_stopped (λ e. omega (arith, e)) (λ e. omega (arith, e)) caused boot
boots_as Bad failed whole g bank core read bank_failed bank_stopped caused boot = calm 5 g bank core read bank_failed bank_stopped (λ e. omega (arith, e)) (λ e. omega (arith, e)) caused boot
boots_as TooMany failed whole g bank core read bank_failed bank_stopped caused boot = calm 6 g bank core read bank_failed bank_stopped (λ e. omega (arith, e)) (λ e. omega (arith, e)) caused boot
boots_as Full failed whole g bank core read bank_failed bank_stopped caused boot = calm 13 g bank core read bank_failed bank_stopped (λ e. omega (arith, e)) (λ e. omega (arith, e)) caused boot
boots_as BootFault failed whole g bank core read bank_failed bank_stopped caused boot = record { fault = λ _. inl boot; stop = λ e. absurd (omega (arith, e)); told_fault = λ _. inl refl; told_stop = λ other. absurd (one_boot core.entries boot other) }
boots_as BootStopped failed whole g bank core read bank_failed bank_stopped caused boot = record { fault = λ e. absurd (omega (arith, e)); stop = λ _. inl boot; told_fault = λ other. absurd (one_boot core.entries other boot); told_stop = λ _. inl refl }
boots_as SinkFailed failed whole g bank core read bank_failed bank_stopped caused boot = no_boot 4 core.entries read bank_failed bank_stopped (inr refl)
boots_as Memory failed whole g bank core read bank_failed bank_stopped caused boot = no_boot 1 core.entries read bank_failed bank_stopped (inl refl)
boots_as Unwritten failed whole g bank core read bank_failed bank_stopped caused boot = no_boot 1 core.entries read bank_failed bank_stopped (inl refl)

-- ---- the status

pub status_is : (standing : Standing) (failed whole : Bool) → IsKnown (status_of standing failed whole)
status_is Open true whole = inl (inl (inr (inl refl)))
status_is Open false true = inl (inl (inl refl))
status_is Open false false = inl (inl (inr (inr (inl refl))))
status_is Bad failed whole = inl (inl (inr (inr (inl refl))))
status_is TooMany failed whole = inl (inl (inr (inr (inr refl))))
status_is Full failed whole = inl (inr refl)
status_is BootFault failed whole = inr (inl (inl refl))
status_is BootStopped failed whole = inr (inl (inr refl))
status_is SinkFailed failed whole = inr (inr (inr refl))
status_is Memory failed whole = inr (inr (inl refl))
status_is Unwritten failed whole = inr (inr (inl refl))

-- what it would be if the sink didn't fail
pub would_end : (status : ℕ) (ends boots : ℕ → Type 0) → IsKnown status → (status ≢ 4) → ends status → boots status → WouldEnd ends boots status
would_end status ends boots (inl ended) not_four end boot = inr (inl (ended, end))
would_end status ends boots (inr (inl booted)) not_four end boot = inr (inr (booted, boot))
would_end status ends boots (inr (inr (inl one))) not_four end boot = inl one
would_end status ends boots (inr (inr (inr four))) not_four end boot = absurd (not_four four)

-- 4 isn't the status of a stream whose entries were written
pub not_four : (standing : Standing) (failed whole : Bool) → way_of standing ≡ all_written → status_of standing failed whole ≢ 4
not_four Open true whole is = λ e. omega (arith, e)
not_four Open false true is = λ e. omega (arith, e)
not_four Open false false is = λ e. omega (arith, e)
not_four Bad failed whole is = λ e. omega (arith, e)
not_four TooMany failed whole is = λ e. omega (arith, e)
not_four Full failed whole is = λ e. omega (arith, e)
not_four BootFault failed whole is = λ e. omega (arith, e)
not_four BootStopped failed whole is = λ e. omega (arith, e)
not_four SinkFailed failed whole is = λ e. cc
not_four Memory failed whole is = λ e. omega (arith, e)
not_four Unwritten failed whole is = λ e. omega (arith, e)

-- an end of the input is the status only if all was played
pub ended_standing : (standing : Standing) (failed whole : Bool) → HasEnded (status_of standing failed whole) → HasPlayedAll standing
ended_standing Open failed whole ended = tt
ended_standing Bad failed whole ended = tt
ended_standing TooMany failed whole ended = tt
ended_standing Full failed whole ended = tt
ended_standing BootFault failed whole ended = absurd (booted_not_ended 7 (inl refl) ended)
ended_standing BootStopped failed whole ended = absurd (booted_not_ended 8 (inr refl) ended)
ended_standing SinkFailed failed whole ended = absurd (not_ended 4 (inr refl) ended)
ended_standing Memory failed whole ended = absurd (not_ended 1 (inl refl) ended)
ended_standing Unwritten failed whole ended = absurd (not_ended 1 (inl refl) ended)
