-- What is read from a head and a body is spelled by them.
use Rattle.std.proofs.Common.{◌≡◌, ℕ, zero, suc, ◌+◌, ◌<◌, ◌≤◌, true, false, ◌&&◌, ◌||◌, List, [], ◌∷◌, ◌++◌, length, get_or, take, drop, refl, sym, ap, ◌∙◌, arith, inl, inr}
use Rattle.std.specs.Prelude.{◌==◌, nat_le}
use Rattle.std.specs.List.{AllByRecursion, list_any}
use Rattle.std.proofs.lemmas.Bool.Decides.{nat_tests}
use Rattle.std.proofs.lemmas.List.{length-take}
use Rattle.std.proofs.lemmas.Nat.{be_bytes_2}
use Rattle.std.proofs.Math.Seq.{take-append-add}
use Rattle.tbl_kinds.specs.Numbers.{two, byte_at}
use Rattle.tbl_kinds.specs.Requests.{IsFromGround, HasNoValidator255, Fits}
use Rattle.tbl_kinds.specs.Records.{Pair, IsRecord, kind_of, actor_number, body_of, spelling}
use Rattle.tbl_kinds.specs.Heads.{is_good_head, stated_len}
use Rattle.tbl_kinds.proofs.InputLaws.{or_true, good_within}
use Rattle.tbl_kinds.specs.declared.request.Actor.{Actor}
use Rattle.tbl_kinds.specs.declared.request.Actor.TheVariants.{App}
use Rattle.tbl_kinds.specs.declared.request.Request.{Request}
use Rattle.tbl_kinds.specs.declared.request.Request.TheVariants as ask
use Rattle.session_records.specs.Reading.{actor_at, handle_kinds, HasBody, IsHeadOf, IsSpelledBy}
use Rattle.session_records.specs.declared.head.Head.{Head}

pub number_of_actor : (number : ℕ) → actor_number (actor_at number) ≡ number
number_of_actor number = grind arith

-- an application that may make the request, by its number
app_fits : (number : ℕ) (request : Request) → 1 ≤ number → number ≤ 16 → ¬ IsFromGround request → HasNoValidator255 request → Fits (actor_at number) request
app_fits number request low high other none =
    let app : actor_at number ≡ App number = grind (arith, nat_tests) in
    rw app (low, high, other, none)

-- whom the head of an application's kind allows may make such a request
app_may : (number len least most : ℕ) (request : Request) → ¬ IsFromGround request → HasNoValidator255 request
    → ((nat_le 1 number && nat_le number 16 && nat_le least len && nat_le len most) || false) ≡ true → Fits (actor_at number) request
app_may number len least most request other none e = app_fits number request (grind (arith, nat_tests)) (grind (arith, nat_tests)) other none

-- ---- kinds with a handle or a slot alone

-- what holds of each number of a list holds of one that is there
of_each : (P : ℕ → Type 0) (number : ℕ) (list : List ℕ) → AllByRecursion P list → list_any (λ other. number == other) list ≡ true → P number
of_each P number [] each e = absurd cc
of_each P number (other ∷ list) each e =
    elim (or_true (number == other) (list_any (λ other. number == other) list) e) [
      | inl here ↦ let same : number ≡ other = grind (arith, nat_tests) in rw same each.0
      | inr there ↦ of_each P number list each.1 there
    ]

HasTwoBytes : ℕ → Type 0
HasTwoBytes kind = (number len : ℕ) → is_good_head kind number len ≡ true → len ≡ 2

two_alone : (number len : ℕ) → ((nat_le 1 number && nat_le number 16 && nat_le 2 len && nat_le len 2) || false) ≡ true → len ≡ 2
two_alone number len good = grind (arith, nat_tests)

each_two : AllByRecursion HasTwoBytes handle_kinds
unfolding is_good_head HasTwoBytes
each_two = (two_alone, (two_alone, (two_alone, (two_alone, (two_alone, (two_alone, (two_alone, (two_alone, (two_alone, (two_alone, tt))))))))))

pub handle_len : (head : Head) (body : List ℕ) → HasBody handle_kinds head body → length body ≡ 2
unfolding HasTwoBytes
handle_len head body has = of_each HasTwoBytes head.kind handle_kinds each_two has.kind head.actor (length body) has.good

-- ---- records

-- a good head's sender may make the request of its kind
sender_fits : (number len : ℕ) (request : Request) → HasNoValidator255 request → is_good_head (kind_of request) number len ≡ true → Fits (actor_at number) request
unfolding is_good_head
sender_fits number len (ask.Command bytes) none good = let ground : number ≡ 0 = grind (arith, nat_tests) in rw ground tt
sender_fits number len (ask.File file) none good = let ground : number ≡ 0 = grind (arith, nat_tests) in rw ground tt
sender_fits number len (ask.Time seconds sub) none good = let ground : number ≡ 0 = grind (arith, nat_tests) in rw ground tt
sender_fits number len (ask.Reset kind) none good = let ground : number ≡ 0 = grind (arith, nat_tests) in rw ground tt
sender_fits number len (ask.Start name) none good = app_may number len 20 20 (ask.Start name) (λ no. no) none good
sender_fits number len (ask.Register name size flags validator) none good = app_may number len 23 23 (ask.Register name size flags validator) (λ no. no) none good
sender_fits number len (ask.Share name) none good = app_may number len 40 40 (ask.Share name) (λ no. no) none good
sender_fits number len (ask.Unregister handle) none good = app_may number len 2 2 (ask.Unregister handle) (λ no. no) none good
sender_fits number len (ask.LoadImage handle image) none good = app_may number len 2 32832 (ask.LoadImage handle image) (λ no. no) none good
sender_fits number len (ask.LoadFile handle name) none good = app_may number len 66 66 (ask.LoadFile handle name) (λ no. no) none good
sender_fits number len (ask.Update handle) none good = app_may number len 2 2 (ask.Update handle) (λ no. no) none good
sender_fits number len (ask.Validate handle) none good = app_may number len 2 2 (ask.Validate handle) (λ no. no) none good
sender_fits number len (ask.Manage handle) none good = app_may number len 2 2 (ask.Manage handle) (λ no. no) none good
sender_fits number len (ask.DumpToBuffer handle) none good = app_may number len 2 2 (ask.DumpToBuffer handle) (λ no. no) none good
sender_fits number len (ask.Edit handle offset bytes) none good = app_may number len 6 32832 (ask.Edit handle offset bytes) (λ no. no) none good
sender_fits number len (ask.Get handle) none good = app_may number len 2 2 (ask.Get handle) (λ no. no) none good
sender_fits number len (ask.Read handle offset count) none good = app_may number len 10 10 (ask.Read handle offset count) (λ no. no) none good
sender_fits number len (ask.Release handle) none good = app_may number len 2 2 (ask.Release handle) (λ no. no) none good
sender_fits number len (ask.GetStatus handle) none good = app_may number len 2 2 (ask.GetStatus handle) (λ no. no) none good
sender_fits number len (ask.GetInfo name) none good = app_may number len 40 40 (ask.GetInfo name) (λ no. no) none good
sender_fits number len (ask.Notify handle msg code parameter) none good = app_may number len 10 10 (ask.Notify handle msg code parameter) (λ no. no) none good
sender_fits number len ask.Exit none good = app_may number len 0 0 ask.Exit (λ no. no) none good
sender_fits number len (ask.CdsRegister name size) none good = app_may number len 20 20 (ask.CdsRegister name size) (λ no. no) none good
sender_fits number len (ask.CdsCopy slot image) none good = app_may number len 2 32832 (ask.CdsCopy slot image) (λ no. no) none good
sender_fits number len (ask.CdsRestore slot) none good = app_may number len 2 2 (ask.CdsRestore slot) (λ no. no) none good
sender_fits number len (ask.CdsDelete slot) none good = app_may number len 2 2 (ask.CdsDelete slot) (λ no. no) none good

-- a request that a good head and its body spell makes a record with the head's sender
pub is_record : (kind number : ℕ) (body : List ℕ) (actor : Actor) (request : Request) → is_good_head kind number (length body) ≡ true → actor ≡ actor_at number → IsSpelledBy kind body request
    → IsRecord (record { actor = actor; request = request })
is_record kind number body actor request good actor-is s =
    let head : is_good_head (kind_of request) number (length body) ≡ true = rw s.kind_is good in
    record {
      fits = rw actor-is (sender_fits number (length body) request s.no_validator_255 head);
      sized = s.sized;
      within = omega (arith, good_within kind number (length body) good, ap length s.body_is);
    }

-- the bytes at the front of an input tell this pair
pub record Tells (bytes : List ℕ) (p : Pair) : Type 0 where
  pub fits : (i : ℕ) → get_or bytes i 0 < 256
  pub kind : kind_of p.request ≡ byte_at 0 bytes
  pub actor : actor_number p.actor ≡ byte_at 1 bytes
  pub body : body_of p.request ≡ take (stated_len bytes) (drop 4 bytes)
  pub whole : 4 + stated_len bytes ≤ length bytes

same_parts : (k k' a a' : ℕ) (l l' b b' : List ℕ) → k ≡ k' → a ≡ a' → l ≡ l' → b ≡ b' → (k ∷ a ∷ l) ++ b ≡ (k' ∷ a' ∷ l') ++ b'
same_parts k k' a a' l l' b b' p q r s = cc

pair_fits : (c d i : ℕ) → c < 256 → d < 256 → get_or (c ∷ d ∷ []) i 0 < 256
pair_fits c d zero p q = p
pair_fits c d (suc zero) p q = q
pair_fits c d (suc (suc i)) p q = omega arith

pub spelled : (bytes : List ℕ) (p : Pair) → Tells bytes p → take (4 + stated_len bytes) bytes ≡ spelling p
unfolding spelling
spelled (a ∷ b ∷ c ∷ d ∷ rest) p t =
    let n = stated_len (a ∷ b ∷ c ∷ d ∷ rest) in
    let len : length (body_of p.request) ≡ n = ap length t.body ∙ omega (arith, length-take n rest, t.whole) in
    let number : two (length (body_of p.request)) ≡ c ∷ d ∷ [] = be_bytes_2 (c ∷ d ∷ []) (length (body_of p.request)) refl (λ i. pair_fits c d i (t.fits 2) (t.fits 3)) len in
    take-append-add (a ∷ b ∷ c ∷ d ∷ []) rest n
    ∙ same_parts a (kind_of p.request) b (actor_number p.actor) (c ∷ d ∷ []) (two (length (body_of p.request))) (take n rest) (body_of p.request) (sym t.kind) (sym t.actor) (sym number) (sym t.body)
spelled bytes p t = absurd (omega (arith, t.whole))

-- the head of the bytes and a body after it tell this pair
pub tells : (bytes body : List ℕ) (actor : Actor) (request : Request) (kind number len : ℕ) → ((i : ℕ) → get_or bytes i 0 < 256) → 4 + len ≤ length bytes
    → kind ≡ byte_at 0 bytes → number ≡ byte_at 1 bytes → len ≡ stated_len bytes → body ≡ take len (drop 4 bytes)
    → actor ≡ actor_at number → IsSpelledBy kind body request → Tells bytes (record { actor = actor; request = request })
tells bytes body actor request kind number len fits whole k n l b actor-is s = record {
  fits = fits;
  kind = s.kind_is ∙ k;
  actor = ap actor_number actor-is ∙ number_of_actor number ∙ n;
  body = s.body_is ∙ b ∙ ap (λ m. take m (drop 4 bytes)) l;
  whole = omega (arith, l, whole);
}

-- ---- what a head and a body are read as

pub record IsItem (bytes : List ℕ) (pair : Pair) (used : ℕ) : Type 0 where
  pub is_record : IsRecord pair
  pub spelled : take used bytes ≡ spelling pair
  pub count : used ≡ length (spelling pair)

-- a record that is read is one, is spelled at the front of the input, and has as many bytes as are told
pub item : (head : Head) (bytes body : List ℕ) (actor : Actor) (request : Request) → ((i : ℕ) → get_or bytes i 0 < 256) → 4 + head.len ≤ length bytes → IsHeadOf bytes head
    → body ≡ take head.len (drop 4 bytes) → length body ≡ head.len → is_good_head head.kind head.actor head.len ≡ true → actor ≡ actor_at head.actor → IsSpelledBy head.kind body request
    → IsItem bytes (record { actor = actor; request = request }) (4 + head.len)
item head bytes body actor request fits whole h stands sized good actor-is s =
    let t = tells bytes body actor request head.kind head.actor head.len fits whole h.kind h.actor h.len stands actor-is s in
    let at : take (4 + head.len) bytes ≡ spelling (record { actor = actor; request = request }) = rw h.len (spelled bytes _ t) in
    record {
      is_record = is_record head.kind head.actor body actor request (rw sized good) actor-is s;
      spelled = at;
      count = omega (arith, whole, length-take (4 + head.len) bytes, ap length at);
    }
