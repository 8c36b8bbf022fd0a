-- The laws of one session record: its head and its body stand at the front of its spelling, so no spelling begins another.
use Rattle.std.proofs.Common.{◌≡◌, ℕ, ◌+◌, ◌≤◌, true, false, ◌&&◌, ◌||◌, List, [], ◌∷◌, ◌++◌, length, take, refl, sym, ap, ◌∙◌, append_assoc, arith}
use Rattle.std.specs.Prelude.{nat_le}
use Rattle.std.proofs.lemmas.List.{length-append, take_at}
use Rattle.std.proofs.lemmas.Bool.{le-leb, le-ltb}
use Rattle.std.proofs.lemmas.Bool.Decides.{nat_tests}
use Rattle.std.proofs.lemmas.Nat.{from_be_bytes-to_be_bytes_2}
use Rattle.std.proofs.Math.Seq.{take-append_seam, drop-append_seam}
use Rattle.tbl_kinds.specs.Names.{name_field}
use Rattle.tbl_kinds.specs.Numbers.{two, four, byte_at, piece}
use Rattle.tbl_kinds.specs.Records.{Pair, FitsField, IsSized, IsRecord, kind_of, actor_number, validator_number, body_of, body_limit, head_of, spelling}
use Rattle.tbl_kinds.specs.Requests.{Fits}
use Rattle.tbl_kinds.specs.Heads.{is_name_field, has_name, head_len, is_good_head, is_right_body, has_good_head, has_right_body, is_whole, stated_len, is_short, is_bad, IsShort, IsBad, BeginsNone}
use Rattle.tbl_kinds.proofs.NameFields.{length-name_field, is_name_field-name_field}
use Rattle.tbl_kinds.specs.declared.request.Actor.{Actor}
use Rattle.tbl_kinds.specs.declared.request.Actor.TheVariants.{Ground, App}
use Rattle.tbl_kinds.specs.declared.request.ResetKind.TheVariants.{Processor, PowerOn}
use Rattle.tbl_kinds.specs.declared.request.Request.{Request}
use Rattle.tbl_kinds.specs.declared.request.Request.TheVariants as ask

-- ---- one record

-- four bytes of head, and the body
pub length-spelling : (p : Pair) → length (spelling p) ≡ 4 + length (body_of p.request)
unfolding spelling
length-spelling p = omega (arith, length-append (head_of p) (body_of p.request))

-- what the head of an application's kind allows
app_allowed : (number len least most : ℕ) → 1 ≤ number → number ≤ 16 → least ≤ len → len ≤ most → (nat_le 1 number && nat_le number 16 && nat_le least len && nat_le len most) ≡ true
app_allowed number len least most low high few many = rw (le-leb 1 number low, le-leb number 16 high, le-leb least len few, le-leb len most many) refl

-- so with a handle alone
handle_allowed : (number : ℕ) → 1 ≤ number → number ≤ 16 → (nat_le 1 number && nat_le number 16 && nat_le 2 2 && nat_le 2 2 || false) ≡ true
handle_allowed number low high = rw (app_allowed number 2 2 2 low high (omega arith) (omega arith)) refl

length-file : (name contents : List ℕ) → FitsField 64 name → length (name_field 64 name ++ contents) ≡ 64 + length contents
length-file name contents fits = omega (arith, length-name_field 64 name fits, length-append (name_field 64 name) contents)

length-register : (name : List ℕ) (size flags validator : ℕ) → FitsField 16 name → length (name_field 16 name ++ four size ++ two flags ++ validator ∷ []) ≡ 23
length-register name size flags validator fits =
    let field = name_field 16 name in
    omega (arith, length-name_field 16 name fits, length-append field (four size), length-append (field ++ four size) (two flags), length-append (field ++ four size ++ two flags) (validator ∷ []))

length-name_size : (name : List ℕ) (size : ℕ) → FitsField 16 name → length (name_field 16 name ++ four size) ≡ 20
length-name_size name size fits = omega (arith, length-name_field 16 name fits, length-append (name_field 16 name) (four size))

-- the head of a record is a good one
good_head : (actor : Actor) (request : Request) → Fits actor request → IsSized request → length (body_of request) ≤ body_limit
    → is_good_head (kind_of request) (actor_number actor) (length (body_of request)) ≡ true
unfolding is_good_head
good_head Ground (ask.Command bytes) fits sized within = rw (le-leb (length bytes.list) 32832 within, le-leb 0 (length bytes.list) (omega arith)) refl
good_head Ground (ask.File file) fits sized within =
    let len = length-file file.name file.bytes sized in
    rw (le-leb (length (body_of (ask.File file))) 32832 within, le-leb 64 (length (body_of (ask.File file))) (omega (arith, len))) refl
good_head Ground (ask.Time seconds sub) fits sized within = refl
good_head Ground (ask.Reset kind) fits sized within = refl
good_head Ground request fits sized within = absurd fits
good_head (App number) (ask.Command bytes) fits sized within = absurd (fits.2 tt)
good_head (App number) (ask.File file) fits sized within = absurd (fits.2 tt)
good_head (App number) (ask.Time seconds sub) fits sized within = absurd (fits.2 tt)
good_head (App number) (ask.Reset kind) fits sized within = absurd (fits.2 tt)
good_head (App number) (ask.Start name) fits sized within =
    let len = length-name_field 20 name sized in
    rw (app_allowed number (length (name_field 20 name)) 20 20 fits.0 fits.1 (omega (arith, len)) (omega (arith, len))) refl
good_head (App number) (ask.Register name size flags validator) fits sized within =
    let len = length-register name size flags (validator_number validator) sized.0 in
    rw (app_allowed number (length (body_of (ask.Register name size flags validator))) 23 23 fits.0 fits.1 (omega (arith, len)) (omega (arith, len))) refl
good_head (App number) (ask.Share name) fits sized within =
    let len = length-name_field 40 name sized in
    rw (app_allowed number (length (name_field 40 name)) 40 40 fits.0 fits.1 (omega (arith, len)) (omega (arith, len))) refl
good_head (App number) (ask.Unregister handle) fits sized within = handle_allowed number fits.0 fits.1
good_head (App number) (ask.LoadImage handle image) fits sized within = rw (app_allowed number (length (body_of (ask.LoadImage handle image))) 2 32832 fits.0 fits.1 (omega arith) within) refl
good_head (App number) (ask.LoadFile handle name) fits sized within =
    let len = length-name_field 64 name sized.1 in
    rw (app_allowed number (length (body_of (ask.LoadFile handle name))) 66 66 fits.0 fits.1 (omega (arith, len)) (omega (arith, len))) refl
good_head (App number) (ask.Update handle) fits sized within = handle_allowed number fits.0 fits.1
good_head (App number) (ask.Validate handle) fits sized within = handle_allowed number fits.0 fits.1
good_head (App number) (ask.Manage handle) fits sized within = handle_allowed number fits.0 fits.1
good_head (App number) (ask.DumpToBuffer handle) fits sized within = handle_allowed number fits.0 fits.1
good_head (App number) (ask.Edit handle offset bytes) fits sized within = rw (app_allowed number (length (body_of (ask.Edit handle offset bytes))) 6 32832 fits.0 fits.1 (omega arith) within) refl
good_head (App number) (ask.Get handle) fits sized within = handle_allowed number fits.0 fits.1
good_head (App number) (ask.Read handle offset len) fits sized within = rw (app_allowed number 10 10 10 fits.0 fits.1 (omega arith) (omega arith)) refl
good_head (App number) (ask.Release handle) fits sized within = handle_allowed number fits.0 fits.1
good_head (App number) (ask.GetStatus handle) fits sized within = handle_allowed number fits.0 fits.1
good_head (App number) (ask.GetInfo name) fits sized within =
    let len = length-name_field 40 name sized in
    rw (app_allowed number (length (name_field 40 name)) 40 40 fits.0 fits.1 (omega (arith, len)) (omega (arith, len))) refl
good_head (App number) (ask.Notify handle msg code parameter) fits sized within = rw (app_allowed number 10 10 10 fits.0 fits.1 (omega arith) (omega arith)) refl
good_head (App number) ask.Exit fits sized within = rw (app_allowed number 0 0 0 fits.0 fits.1 (omega arith) (omega arith)) refl
good_head (App number) (ask.CdsRegister name size) fits sized within =
    let len = length-name_size name size sized.0 in
    rw (app_allowed number (length (body_of (ask.CdsRegister name size))) 20 20 fits.0 fits.1 (omega (arith, len)) (omega (arith, len))) refl
good_head (App number) (ask.CdsCopy slot image) fits sized within = rw (app_allowed number (length (body_of (ask.CdsCopy slot image))) 2 32832 fits.0 fits.1 (omega arith) within) refl
good_head (App number) (ask.CdsRestore slot) fits sized within = handle_allowed number fits.0 fits.1
good_head (App number) (ask.CdsDelete slot) fits sized within = handle_allowed number fits.0 fits.1

-- a body that begins with the field of a name has such a field there
has_name_first : (width : ℕ) (name more body : List ℕ) → FitsField width name → body ≡ name_field width name ++ more → has_name 0 width body ≡ true
has_name_first width name more body fits e =
    let field : piece 0 width body ≡ name_field width name = ap (take width) e ∙ take_at (name_field width name) more width (length-name_field width name fits) in
    ap is_name_field field ∙ is_name_field-name_field width name fits

-- the body of a record is a right one
right_body : (request : Request) → IsSized request → is_right_body (kind_of request) (body_of request) ≡ true
unfolding is_right_body
right_body (ask.Command bytes) sized = refl
right_body (ask.File file) sized = rw (has_name_first 64 file.name file.bytes (name_field 64 file.name ++ file.bytes) sized refl) refl
right_body (ask.Time seconds sub) sized = refl
right_body (ask.Reset Processor) sized = refl
right_body (ask.Reset PowerOn) sized = refl
right_body (ask.Start name) sized = rw (is_name_field-name_field 20 name sized) refl
right_body (ask.Register name size flags validator) sized =
    let parts : body_of (ask.Register name size flags validator) ≡ name_field 16 name ++ (four size ++ two flags ++ validator_number validator ∷ []) = simp append_assoc in
    rw (has_name_first 16 name (four size ++ two flags ++ validator_number validator ∷ []) (body_of (ask.Register name size flags validator)) sized.0 parts) refl
right_body (ask.Share name) sized = rw (is_name_field-name_field 40 name sized) refl
right_body (ask.Unregister handle) sized = refl
right_body (ask.LoadImage handle image) sized = refl
right_body (ask.LoadFile handle name) sized = rw (is_name_field-name_field 64 name sized.1) refl
right_body (ask.Update handle) sized = refl
right_body (ask.Validate handle) sized = refl
right_body (ask.Manage handle) sized = refl
right_body (ask.DumpToBuffer handle) sized = refl
right_body (ask.Edit handle offset bytes) sized = refl
right_body (ask.Get handle) sized = refl
right_body (ask.Read handle offset len) sized = refl
right_body (ask.Release handle) sized = refl
right_body (ask.GetStatus handle) sized = refl
right_body (ask.GetInfo name) sized = rw (is_name_field-name_field 40 name sized) refl
right_body (ask.Notify handle msg code parameter) sized = refl
right_body ask.Exit sized = refl
right_body (ask.CdsRegister name size) sized = rw (has_name_first 16 name (four size) (name_field 16 name ++ four size) sized.0 refl) refl
right_body (ask.CdsCopy slot image) sized = refl
right_body (ask.CdsRestore slot) sized = refl
right_body (ask.CdsDelete slot) sized = refl

-- what stands at the front of a spelling, whatever follows it
pub record Front (p : Pair) (more : List ℕ) : Type 0 where
  pub kind : byte_at 0 (spelling p ++ more) ≡ kind_of p.request
  pub actor : byte_at 1 (spelling p ++ more) ≡ actor_number p.actor
  pub stated : stated_len (spelling p ++ more) ≡ length (body_of p.request)
  pub body : piece head_len (length (body_of p.request)) (spelling p ++ more) ≡ body_of p.request
  pub len : length (spelling p ++ more) ≡ 4 + length (body_of p.request) + length more

pub front : (p : Pair) (more : List ℕ) → IsRecord p → Front p more
unfolding spelling
front p more is = record {
  kind = refl;
  actor = refl;
  stated = from_be_bytes-to_be_bytes_2 (length (body_of p.request)) (omega (arith, is.within));
  body = take-append_seam (body_of p.request) more;
  len = omega (arith, length-append (head_of p ++ body_of p.request) more, length-append (head_of p) (body_of p.request));
}

-- such bytes hold a whole record
record Whole (bytes : List ℕ) : Type 0 where
  long : 4 ≤ length bytes
  good : has_good_head bytes ≡ true
  whole : is_whole bytes ≡ true
  right : has_right_body bytes ≡ true

whole : (p : Pair) (more : List ℕ) → IsRecord p → Whole (spelling p ++ more)
whole p more is =
    let f = front p more is in
    record {
      long = omega (arith, f.len);
      good = rw (f.kind, f.actor, f.stated) (good_head p.actor p.request is.fits is.sized is.within);
      whole = le-leb _ _ (omega (arith, f.len, f.stated));
      right = rw (f.kind, f.stated, f.body) (right_body p.request is.sized);
    }

whole_not_short : (bytes : List ℕ) → Whole bytes → is_short bytes ≡ false
unfolding is_short
whole_not_short bytes w = rw (w.good, w.whole, le-ltb (length bytes) 4 w.long) (grind (arith, nat_tests))

whole_not_bad : (bytes : List ℕ) → Whole bytes → is_bad bytes ≡ false
unfolding is_bad
whole_not_bad bytes w = rw (w.good, w.whole, w.right) (grind (arith, nat_tests))

false_not_true : false ≡ true → ⊥
false_not_true e = cc

-- where the bytes are none, short or bad, no record's spelling begins them
pub nil_begins_none : BeginsNone []
nil_begins_none p more is e = omega (arith, (front p more is).len, ap length e)

pub short_begins_none : (bytes : List ℕ) → IsShort bytes → BeginsNone bytes
short_begins_none bytes short p more is e = false_not_true (sym (whole_not_short (spelling p ++ more) (whole p more is)) ∙ sym (ap is_short e) ∙ short)

pub bad_begins_none : (bytes : List ℕ) → IsBad bytes → BeginsNone bytes
bad_begins_none bytes bad p more is e = false_not_true (sym (whole_not_bad (spelling p ++ more) (whole p more is)) ∙ sym (ap is_bad e) ∙ bad)

-- no record's spelling is a proper prefix of another's
pub apart : (p q : Pair) (x y : List ℕ) → IsRecord p → IsRecord q → spelling p ++ x ≡ spelling q ++ y → (spelling p ≡ spelling q) × (x ≡ y)
apart p q x y p-is q-is e =
    let f = front p x p-is in
    let g = front q y q-is in
    let len : length (body_of p.request) ≡ length (body_of q.request) = sym f.stated ∙ ap stated_len e ∙ g.stated in
    let same : length (spelling p) ≡ length (spelling q) = omega (arith, length-spelling p, length-spelling q) in
    let a = take-append_seam (spelling p) x in
    let b = take-append_seam (spelling q) y in
    let c = drop-append_seam (spelling p) x in
    let d = drop-append_seam (spelling q) y in
    (cc, cc)
