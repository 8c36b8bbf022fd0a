-- Each record of a drill has a spelling.
use Rattle.std.proofs.Common.{◌≡◌, ℕ, ◌+◌, ◌-◌, ◌*◌, ◌<◌, ◌≤◌, Bool, true, false, List, [], ◌∷◌, length, map, refl, sym, subst, arith, lit<, lit≤}
use Rattle.std.specs.Prelude.{replicate, codes, if◌then◌else◌, ◌==◌, nat_lt}
use Rattle.std.specs.List.{range_with_len, AllByRecursion}
use Rattle.std.proofs.lemmas.List.{length-append, length-replicate}
use Rattle.tbl_kinds.specs.Names.{name_field}
use Rattle.tbl_kinds.specs.Headers.{file_header}
use Rattle.tbl_kinds.specs.Packets.{primary_header, command_packet}
use Rattle.tbl_kinds.specs.TableFiles.{file_with}
use Rattle.tbl_kinds.specs.Requests.{Fits}
use Rattle.tbl_kinds.specs.Records.{Pair, IsRecord, FitsField, without_room}
use Rattle.tbl_kinds.specs.GroundCommands.{GroundCommand, load, validate, activate, id_of, code_of, payload_of}
use Rattle.tbl_kinds.specs.declared.request.Actor.{Actor}
use Rattle.tbl_kinds.specs.declared.request.Actor.TheVariants.{Ground, App}
use Rattle.tbl_kinds.specs.declared.request.Request.{Request}
use Rattle.tbl_kinds.specs.declared.request.Request.TheVariants as ask
use Rattle.tbl_drill.specs.Generator.{after, drawn, number}
use Rattle.tbl_drill.specs.Drill.{just, ground, app, size, file_name, roomless, round_from, session, requested, table_name, header, file_for, command}

-- the room makes no difference
fits_with_room : (actor : Actor) (request : Request) → Fits actor (without_room request) → Fits actor request
fits_with_room Ground (ask.Command bytes) fits = fits
fits_with_room Ground (ask.LoadImage handle image) fits = fits
fits_with_room Ground (ask.Edit handle offset bytes) fits = fits
fits_with_room Ground (ask.CdsCopy slot image) fits = fits
fits_with_room Ground _ fits = fits
fits_with_room (App number) (ask.Command bytes) fits = fits
fits_with_room (App number) (ask.LoadImage handle image) fits = fits
fits_with_room (App number) (ask.Edit handle offset bytes) fits = fits
fits_with_room (App number) (ask.CdsCopy slot image) fits = fits
fits_with_room (App number) _ fits = fits

with_room : (actor : Actor) (request : Request) → IsRecord (record { actor = actor; request = without_room request }) → IsRecord (record { actor = actor; request = request })
with_room actor (ask.Command bytes) r = record { fits = fits_with_room actor (ask.Command bytes) r.fits; sized = r.sized; within = r.within }
with_room actor (ask.LoadImage handle image) r = record { fits = fits_with_room actor (ask.LoadImage handle image) r.fits; sized = r.sized; within = r.within }
with_room actor (ask.Edit handle offset bytes) r = record { fits = fits_with_room actor (ask.Edit handle offset bytes) r.fits; sized = r.sized; within = r.within }
with_room actor (ask.CdsCopy slot image) r = record { fits = fits_with_room actor (ask.CdsCopy slot image) r.fits; sized = r.sized; within = r.within }
with_room actor _ r = r

each_with_room : (pairs : List Pair) → AllByRecursion IsRecord (map roomless pairs) → AllByRecursion IsRecord pairs
each_with_room [] all = tt
each_with_room (p ∷ pairs) all = (with_room p.actor p.request all.0, each_with_room pairs all.1)

-- ---- a round

either : (b : Bool) (x y : Pair) → IsRecord x → IsRecord y → IsRecord (if b then x else y)
either true x y left right = left
either false x y left right = right

each_name_fits : (first second : Bool) → FitsField 40 (if first then codes "D1.S" else (if second then codes "D1.D" else codes "D1.C"))
each_name_fits true second = record { within = lit≤ tt; no_zero = refl }
each_name_fits false true = record { within = lit≤ tt; no_zero = refl }
each_name_fits false false = record { within = lit≤ tt; no_zero = refl }

name_fits : (h : ℕ) → FitsField 40 (table_name h)
name_fits h = each_name_fits (h == 0) (h == 1)

length-header : length (file_header header) ≡ 64
unfolding file_header
length-header = refl

length-file_for : (h b : ℕ) → length (file_for h b) ≡ 148
unfolding file_for file_with
length-file_for h b = simp length-append (omega (arith, length-header, length-replicate {A = ℕ} (40 - length (table_name h)) 0, length-replicate {A = ℕ} 32 b, name_fits h))

length-packet : (id count code : ℕ) (payload : List ℕ) → length (command_packet id count code payload) ≡ 8 + length payload
unfolding command_packet primary_header
length-packet id count code payload = omega arith

command_record : (c : GroundCommand) → length (payload_of c) ≤ 64 → IsRecord (ground (command c))
unfolding command
command_record c few = record { fits = tt; sized = tt; within = omega (arith, few, length-packet (id_of c) 0 (code_of c) (payload_of c)) }

image_record : (h b : ℕ) → h < 3 → IsRecord (app 1 (ask.LoadImage h (just (replicate size b))))
image_record h b lt = record { fits = (lit≤ tt, lit≤ tt, λ none. none, tt); sized = omega arith; within = omega arith }

file_record : (h b : ℕ) → IsRecord (ground (ask.File (record { name = file_name; bytes = file_for h b })))
file_record h b = record {
  fits = tt;
  sized = record { within = lit≤ tt; no_zero = refl };
  within = omega (arith, length-append (name_field 64 file_name) (file_for h b), length-file_for h b);
}

-- the others have a body of a few bytes
small_record : (h : ℕ) → h < 3 → IsRecord (app 1 (ask.Manage h)) × IsRecord (app 2 (ask.Get (h + 3))) × IsRecord (app 2 (ask.Release (h + 3))) × IsRecord (app 2 (ask.Read (h + 3) 0 size))
small_record h lt = (
  record { fits = (lit≤ tt, lit≤ tt, λ none. none, tt); sized = omega arith; within = omega arith },
  record { fits = (lit≤ tt, lit≤ tt, λ none. none, tt); sized = omega arith; within = omega arith },
  record { fits = (lit≤ tt, lit≤ tt, λ none. none, tt); sized = omega arith; within = omega arith },
  record { fits = (lit≤ tt, lit≤ tt, λ none. none, tt); sized = (omega arith, lit< tt, lit< tt); within = omega arith },
)

get_or_release : (b : Bool) (h : ℕ) → h < 3 → IsRecord (app 2 (if b then ask.Get (h + 3) else ask.Release (h + 3)))
get_or_release true h lt = (small_record h lt).1
get_or_release false h lt = (small_record h lt).2

length-load : length (payload_of (load file_name)) ≤ 64
length-load = lit≤ tt

length-validate : (h : ℕ) → length (payload_of (validate 0 (table_name h))) ≤ 64
length-validate h = simp length-append (omega (arith, length-replicate {A = ℕ} (40 - length (table_name h)) 0, name_fits h))

length-activate : (h : ℕ) → length (payload_of (activate (table_name h))) ≤ 64
length-activate h = simp length-append (omega (arith, length-replicate {A = ℕ} (40 - length (table_name h)) 0, name_fits h))

requested_record : (k h b : ℕ) → h < 3 → IsRecord (requested k h b)
requested_record k h b lt =
    either (k == 0) _ _ (image_record h b lt)
    (either (k == 1) _ _ (file_record h b)
    (either (k == 2) _ _ (command_record (load file_name) length-load)
    (either (k == 3) _ _ (command_record (validate 0 (table_name h)) (length-validate h))
    (either (k == 4) _ _ (command_record (activate (table_name h)) (length-activate h))
    (either (k == 5) _ _ (small_record h lt).0
    (either (k == 6) _ _ (get_or_release (nat_lt b 128) h lt)
    (small_record h lt).3))))))

round_record : (x : ℕ) → IsRecord (round_from x)
unfolding round_from drawn
round_record x = requested_record (drawn (after x) 8) (drawn (after (after x)) 3) (drawn (after (after (after x))) 256) (omega arith)

-- ---- the whole

each_round : (seed : ℕ) (places : List ℕ) → AllByRecursion IsRecord (map (λ r. round_from (number seed (3 * r))) places)
each_round seed [] = tt
each_round seed (r ∷ places) = (round_record (number seed (3 * r)), each_round seed places)

each : (seed rounds : ℕ) → AllByRecursion IsRecord (session seed rounds)
each seed rounds = (
  record { fits = tt; sized = tt; within = lit≤ tt },
  (
    record { fits = (lit≤ tt, lit≤ tt, λ none. none, tt); sized = record { within = lit≤ tt; no_zero = refl }; within = lit≤ tt },
    (
      record { fits = (lit≤ tt, lit≤ tt, λ none. none, tt); sized = record { within = lit≤ tt; no_zero = refl }; within = lit≤ tt },
      (
        record { fits = (lit≤ tt, lit≤ tt, λ none. none, λ e. cc); sized = (record { within = lit≤ tt; no_zero = refl }, lit< tt, lit< tt, lit< tt); within = lit≤ tt },
        (
          record { fits = (lit≤ tt, lit≤ tt, λ none. none, λ e. cc); sized = (record { within = lit≤ tt; no_zero = refl }, lit< tt, lit< tt, lit< tt); within = lit≤ tt },
          (
            record { fits = (lit≤ tt, lit≤ tt, λ none. none, λ e. cc); sized = (record { within = lit≤ tt; no_zero = refl }, lit< tt, lit< tt, lit< tt); within = lit≤ tt },
            (
              record { fits = (lit≤ tt, lit≤ tt, λ none. none, tt); sized = record { within = lit≤ tt; no_zero = refl }; within = lit≤ tt },
              (
                record { fits = (lit≤ tt, lit≤ tt, λ none. none, tt); sized = record { within = lit≤ tt; no_zero = refl }; within = lit≤ tt },
                (
                  record { fits = (lit≤ tt, lit≤ tt, λ none. none, tt); sized = record { within = lit≤ tt; no_zero = refl }; within = lit≤ tt },
                  each_round seed (range_with_len 0 rounds),
                ),
              ),
            ),
          ),
        ),
      ),
    ),
  ),
)

pub each_record : (seed rounds : ℕ) (script : List Pair) → map roomless script ≡ session seed rounds → AllByRecursion IsRecord script
each_record seed rounds script same = each_with_room script (subst (AllByRecursion IsRecord) (sym same) (each seed rounds))
