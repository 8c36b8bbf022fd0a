-- Parts of a history, and the scripts as their first requests are taken.
use Rattle.std.proofs.Common.{◌≡◌, ◌≢◌, ℕ, zero, suc, ◌+◌, ◌<◌, List, [], ◌∷◌, ◌++◌, length, Bool, true, false, refl, sym, ap, subst, ◌∙◌, arith, append_assoc}
use Rattle.std.specs.Prelude.{if◌then◌else◌, ◌==◌, ◌≤◌, min, All}
use Rattle.std.proofs.lemmas.Bool.{eqb-true}
use Rattle.std.proofs.lemmas.Bool.Decides.{nat_tests}
use Rattle.std.proofs.Math.Decide.{dec_lt}
use Rattle.std.proofs.Math.Logic.{dite}
use Rattle.std.proofs.lemmas.List.{length-set, get_or-set_other, get_or_past, append-nil}
use Rattle.std.proofs.lemmas.List.Elements.{All-head, All-tail}
use Rattle.std.proofs.lemmas.List.Sums.{sum_by-set, get_or-le-sum_by}
use Rattle.tbl_kinds.specs.Records.{Pair, actor_number, record_limit}
use Rattle.tbl_kinds.specs.Requests.{Fits}
use Rattle.tbl_kinds.specs.Transcript.{pair_of, pairs_of}
use Rattle.tbl_kinds.specs.declared.entry.Entry.{Entry}
use Rattle.tbl_kinds.specs.declared.request.Request.{Request}
use Rattle.tbl_session.specs.Actors.{actor_of, part, HaveActors}
use Rattle.tbl_crew.specs.Scripts.{script_of, with_script, request_count, AllFit}

-- ---- parts

chosen-append : (b : Bool) (x : Request) (xs ys zs : List Request) → zs ≡ xs ++ ys → (if b then x ∷ zs else zs) ≡ (if b then x ∷ xs else xs) ++ ys
chosen-append true x xs ys zs e = ap (λ (l : List Request). x ∷ l) e
chosen-append false x xs ys zs e = e

pub part-append : (actor : ℕ) (xs ys : List Pair) → part actor (xs ++ ys) ≡ part actor xs ++ part actor ys
part-append actor [] ys = refl
part-append actor (p ∷ xs) ys = chosen-append (actor_number p.actor == actor) p.request (part actor xs) (part actor ys) (part actor (xs ++ ys)) (part-append actor xs ys)

pairs-push : (entries : List Entry) (e : Entry) → pairs_of (entries ++ e ∷ []) ≡ pairs_of entries ++ pair_of e ∷ []
pairs-push [] e = refl
pairs-push (x ∷ entries) e = ap (λ (l : List Pair). pair_of x ∷ l) (pairs-push entries e)

pub part-push : (actor : ℕ) (entries : List Entry) (e : Entry) → part actor (pairs_of (entries ++ e ∷ [])) ≡ part actor (pairs_of entries) ++ part actor (pair_of e ∷ [])
part-push actor entries e = ap (part actor) (pairs-push entries e) ∙ part-append actor (pairs_of entries) (pair_of e ∷ [])

number_of : (n : ℕ) → actor_number (actor_of n) ≡ n
number_of zero = refl
number_of (suc n) = refl

-- one entry more, of an actor that there is
pub actors-push : (entries : List Entry) (e : Entry) (actor : ℕ) → e.actor ≡ actor_of actor → HaveActors (pairs_of entries) → HaveActors (pairs_of (entries ++ e ∷ []))
actors-push [] e actor own each = (own ∙ ap actor_of (sym (ap actor_number own ∙ number_of actor)), tt)
actors-push (x ∷ entries) e actor own each = (each.0, actors-push entries e actor own each.1)

-- an entry of this actor, and one of another
part-own : (actor : ℕ) (e : Entry) → e.actor ≡ actor_of actor → part actor (pair_of e ∷ []) ≡ e.request ∷ []
part-own actor e own =
    let same : actor_number e.actor ≡ actor = ap actor_number own ∙ number_of actor in
    let yes : (actor_number e.actor == actor) ≡ true = grind (arith, nat_tests) in
    ap (λ (b : Bool). if b then e.request ∷ [] else []) yes

part-other : (actor other : ℕ) (e : Entry) → e.actor ≡ actor_of actor → other ≢ actor → part other (pair_of e ∷ []) ≡ []
part-other actor other e own apart =
    let same : actor_number e.actor ≡ actor = ap actor_number own ∙ number_of actor in
    let no_ : (actor_number e.actor == other) ≡ false = grind (arith, nat_tests) in
    ap (λ (b : Bool). if b then e.request ∷ [] else []) no_

-- a script is counted whole, if all of them are within a session
pub all_counted : (scripts : List (List Request)) (actor : ℕ) → request_count scripts ≤ record_limit → min (length (script_of scripts actor)) record_limit ≡ length (script_of scripts actor)
all_counted scripts actor few = dite (dec_lt actor (length scripts))
    (λ within. omega (arith, few, get_or-le-sum_by length scripts actor [] within))
    (λ past. let none : length (script_of scripts actor) ≡ 0 = ap length (get_or_past scripts actor [] (omega (arith, past))) in omega (arith, none))

-- ---- scripts whose first request is taken

module _ (old new : List (List Request)) (actor : ℕ) (request : Request) (within : actor < length old)
    (next : script_of old actor ≡ request ∷ script_of new actor) (others : new ≡ with_script old actor (script_of new actor)) where
  pub taken_length : length new ≡ length old
  taken_length = ap length others ∙ length-set old actor (script_of new actor)

  pub taken_other : (other : ℕ) → other ≢ actor → script_of new other ≡ script_of old other
  taken_other other apart = ap (λ (s : List (List Request)). script_of s other) others ∙ get_or-set_other old actor other (script_of new actor) [] apart

  pub taken_count : request_count new + 1 ≡ request_count old
  taken_count =
      let counted = sum_by-set length old actor (script_of new actor) [] within in
      let before : length (script_of old actor) ≡ suc (length (script_of new actor)) = ap length next in
      omega (arith, ap request_count others, counted, before)

  pub taken_fits : AllFit old → Fits (actor_of actor) request
  taken_fits fit = All-head (Fits (actor_of actor)) request (script_of new actor) (subst (λ (xs : List Request). All (Fits (actor_of actor)) xs) next (fit actor))

  by_actor : (other : ℕ) (b : Bool) → (other == actor) ≡ b → AllFit old → All (Fits (actor_of other)) (script_of new other)
  by_actor other true is fit =
      let same : other ≡ actor = eqb-true other actor is in
      subst (λ (n : ℕ). All (Fits (actor_of n)) (script_of new n)) (sym same)
      (All-tail (Fits (actor_of actor)) request (script_of new actor) (subst (λ (xs : List Request). All (Fits (actor_of actor)) xs) next (fit actor)))
  by_actor other false is fit =
      let apart : other ≢ actor = λ same. absurd (grind (arith, nat_tests)) in
      subst (λ (xs : List Request). All (Fits (actor_of other)) xs) (sym (taken_other other apart)) (fit other)

  pub taken_fit : AllFit old → AllFit new
  taken_fit fit other = by_actor other (other == actor) refl fit

  -- ---- what each actor played, and what is left to it

  module _ (script : List Request) (entries : List Entry) (e : Entry) (own : e.actor ≡ actor_of actor) (asks : e.request ≡ request) where
    -- one entry more
    pub plays_on : (other : ℕ) → script ≡ part other (pairs_of entries) ++ script_of old other → (b : Bool) → (other == actor) ≡ b
        → script ≡ part other (pairs_of (entries ++ e ∷ [])) ++ script_of new other
    plays_on other was true is =
        let same : other ≡ actor = eqb-true other actor is in
        let left : script_of old other ≡ request ∷ script_of new other = subst (λ (n : ℕ). script_of old n ≡ request ∷ script_of new n) (sym same) next in
        let plays : part other (pairs_of (entries ++ e ∷ [])) ≡ part other (pairs_of entries) ++ request ∷ [] =
        part-push other entries e ∙ ap (λ (l : List Request). part other (pairs_of entries) ++ l) (part-own other e (own ∙ ap actor_of (sym same)) ∙ ap (λ (r : Request). r ∷ []) asks) in
        was ∙ ap (λ (l : List Request). part other (pairs_of entries) ++ l) left
        ∙ sym (ap (λ (l : List Request). l ++ script_of new other) plays ∙ append_assoc (part other (pairs_of entries)) (request ∷ []) (script_of new other))
    plays_on other was false is =
        let apart : other ≢ actor = λ same. absurd (grind (arith, nat_tests)) in
        let plays : part other (pairs_of (entries ++ e ∷ [])) ≡ part other (pairs_of entries) =
        part-push other entries e ∙ ap (λ (l : List Request). part other (pairs_of entries) ++ l) (part-other actor other e own apart) ∙ append-nil (part other (pairs_of entries)) in
        was ∙ ap (λ (l : List Request). part other (pairs_of entries) ++ l) (sym (taken_other other apart)) ∙ sym (ap (λ (l : List Request). l ++ script_of new other) plays)

-- ---- by how many requests there are

pub counts_none : (script : List Request) (count : ℕ) → count ≡ min (length script) record_limit → count ≡ 0 → script ≡ []
counts_none [] count is none = refl
counts_none (request ∷ rest) count is none = absurd (omega (arith, is, none))

pub counts_some : (script : List Request) (count : ℕ) → count ≡ min (length script) record_limit → count ≢ 0 → (request : Request) × (rest : List Request) × (script ≡ request ∷ rest)
counts_some [] count is some = absurd (some (omega (arith, is)))
counts_some (request ∷ rest) count is some = (request, rest, refl)
