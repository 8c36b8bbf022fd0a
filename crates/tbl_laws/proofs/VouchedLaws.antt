-- Every legal history is vouched for: what goes active was marked, and a mark comes from a verdict.
use Rattle.std.proofs.Common.{◌≡◌, ℕ, List, [], ◌∷◌, ◌++◌, length, length-append, arith, Bool, true, Option, Some, None, is_some, refl, ap, sym, ◌∙◌, subst, inl, inr, ◌⊎◌, append_assoc}
use Rattle.std.specs.List.{list_all}
use Rattle.std.proofs.lemmas.Bool.{and_parts}
use Rattle.std.proofs.lemmas.List.{append-nil}
use Rattle.std.proofs.lemmas.Option.{same_Some}
use Rattle.tbl_model.specs.State.{State, Load, Table, no_tables}
use Rattle.tbl_model.specs.Tables.{table_at}
use Rattle.tbl_model.specs.Effects.{Effect}
use Rattle.tbl_model.specs.Counts.{Told}
use Rattle.tbl_model.specs.History.{Run, begins_at, onward_by, run_from, effect_in, told, IsAnswered, AreAnswered, IsLegal}
use Rattle.tbl_model.specs.Vouched.{Passes, PassedBefore, table_before, IsVouchedEntry, IsVouched}
use Rattle.tbl_model.proofs.HistoryLaws.{run_push}
use Rattle.tbl_kinds.specs.declared.entry.Entry.{Entry}
use Rattle.tbl_model.specs.Fit.{AreFit}
use Rattle.tbl_laws.proofs.Cases.{OfEffect}
use Rattle.tbl_laws.proofs.Pins.{nothing_there}
use Rattle.tbl_laws.proofs.Ordinary.{IsOrdinary, fit_at_first, ordinary}
use Rattle.tbl_laws.proofs.Honest.{PassesIn, IsHonest}
use Rattle.tbl_laws.proofs.HonestRequests.{honest}

-- one of the entries so far reports verdict 0 on this image, and the table has been registered since
record Passed (past : List Told) (row : ℕ) (image : List ℕ) : Type 0 where
  sooner : List Told
  one : Told
  between : List Told
  split : past ≡ sooner ++ one ∷ between
  passes : Passes one row image (length one.effect.events)
  registered : list_all (λ w. is_some (table_before w row)) between ≡ true

-- each mark of a load of a table with a function has one
record Invariant (past : List Told) (entries : List Entry) (s : State) : Type 0 where
  marks : (row : ℕ) (u : Table) (l : Load) → table_at s.tables row ≡ Some u → u.load ≡ Some l → l.checked ≡ true → is_some u.validator ≡ true → Passed past row l.image
  fit : AreFit (length entries) s

holds_start : (opening : State) → opening.tables ≡ no_tables → opening.pending ≡ [] → Invariant [] [] opening
holds_start opening tables pending = record { marks = λ row u l there load checked function. absurd (nothing_there 128 row u (rw tables at there)); fit = fit_at_first 0 opening tables pending }

-- what is reported in lists is reported of the entry
passes_of : (t : Told) (row : ℕ) (image : List ℕ) (most : ℕ) → PassesIn t.effect.events t.effect.images row image most → Passes t row image most
passes_of t row image most p = record { place = p.place; first = p.first; event = p.event; tells = record { event_is = p.tells.event_is; image_is = p.tells.image_is }; verdict = p.verdict; is = p.is; good = p.good }

all_more : {X : Type 0} (p : X → Bool) (xs : List X) (x : X) → list_all p xs ≡ true → p x ≡ true → list_all p (xs ++ x ∷ []) ≡ true
all_more p [] x all last = rw last refl
all_more p (y ∷ ys) x all last =
    let parts = and_parts (p y) (list_all p ys) all in
    rw (parts.0, all_more p ys x parts.1 last) refl

-- one entry more, with this effect
module _ (past : List Told) (entries : List Entry) (e : Entry) (s : State) (effect : Effect) (holds : Invariant past entries s) (honest_of : IsHonest s effect) (left : IsOrdinary (length entries) e.given.note effect) where
  it : Told
  it = told s e.actor e.request effect

  vouched_entry : IsVouchedEntry past it
  unfolding it
  vouched_entry place row count name image tells function = by (table_at s.tables row) refl function where
    by : (found : Option Table) → table_at s.tables row ≡ found → is_some (Rattle.std.specs.Option.option_and_then (λ (t : Table). t.validator) found) ≡ true → Passes it row image place ⊎ PassedBefore past it row image
    by None there has = absurd (cc has)
    by (Some t) there has = elim (honest_of.active place row count name image t (record { event_is = tells.event_is; image_is = tells.image_is }) there has) [
      | inl passes ↦ inl (passes_of it row image place passes)
      | inr load ↦
          let passed = holds.marks row t load.0 there load.1 load.2 has in inr record {
            sooner = passed.sooner;
            one = passed.one;
            between = passed.between;
            split = passed.split;
            passes = subst (λ (x : List ℕ). Passes passed.one row x (length passed.one.effect.events)) load.3 passed.passes;
            registered = all_more (λ w. is_some (table_before w row)) passed.between it passed.registered (rw there refl);
          }
    ]

  holds_on : Invariant (past ++ it ∷ []) (entries ++ e ∷ []) effect.next
  unfolding it
  holds_on = record {
    marks = λ row u l there load checked function. elim (honest_of.marks row u l there load checked function) [
      | inl passes ↦ record { sooner = past; one = it; between = []; split = refl; passes = passes_of it row l.image (length effect.events) passes; registered = refl }
      | inr before ↦
          let passed = holds.marks row before.0 l before.1 before.2 checked (rw before.3 function) in record {
            sooner = passed.sooner;
            one = passed.one;
            between = passed.between ++ it ∷ [];
            split = ap (λ (ts : List Told). ts ++ it ∷ []) passed.split ∙ append_assoc passed.sooner (passed.one ∷ passed.between) (it ∷ []);
            passes = passed.passes;
            registered = all_more (λ w. is_some (table_before w row)) passed.between it passed.registered (rw before.1 refl);
          }
    ];
    fit = subst (λ (k : ℕ). AreFit k effect.next) (omega (arith, length-append entries (e ∷ []))) left.fit;
  }

module _ (opening : State) where
  abbrev run_at : List Entry → Run
  run_at entries = run_from (begins_at opening) entries

  abbrev HoldsAt : List Entry → Type 0
  HoldsAt entries = Invariant (run_at entries).past entries (run_at entries).state

  abbrev VouchedAt : List Entry → Entry → Type 0
  VouchedAt entries e = (effect : Effect) → effect_in (run_at entries) e ≡ Some effect → IsVouchedEntry (run_at entries).past (told (run_at entries).state e.actor e.request effect)

  module _ (entries : List Entry) (e : Entry) (holds : HoldsAt entries) (is : IsAnswered (run_at entries) e) where
    honest_effect : IsHonest (run_at entries).state is.effect
    honest_effect = subst (OfEffect (IsHonest (run_at entries).state)) is.effect_is (honest (run_at entries).state (length entries) holds.fit e.actor e.request e.given)

    left : IsOrdinary (length entries) e.given.note is.effect
    left = subst (OfEffect (IsOrdinary (length entries) e.given.note)) is.effect_is (ordinary (run_at entries).state (length entries) is.live holds.fit e.actor e.request e.given)

    entry_is : VouchedAt entries e
    unfolding it
    entry_is effect found =
        let one : is.effect ≡ effect = same_Some is.effect effect (sym is.effect_is ∙ found) in
        subst (λ (f : Effect). IsVouchedEntry (run_at entries).past (told (run_at entries).state e.actor e.request f)) one (vouched_entry (run_at entries).past entries e (run_at entries).state is.effect holds honest_effect left)

    holds_after : HoldsAt (entries ++ e ∷ [])
    unfolding it
    holds_after =
        let on = holds_on (run_at entries).past entries e (run_at entries).state is.effect holds honest_effect left in
        subst (λ (r : Run). Invariant r.past (entries ++ e ∷ []) r.state) (sym (run_push (begins_at opening) entries e))
        (subst (λ (found : Option Effect). Invariant (onward_by (run_at entries) e found).past (entries ++ e ∷ []) (onward_by (run_at entries) e found).state) (sym is.effect_is) on)

  -- all entries, from some that were played on
  vouched_from : (done before after : List Entry) (e : Entry) → HoldsAt done → AreAnswered (run_at done) (before ++ e ∷ after) → VouchedAt (done ++ before) e
  vouched_from done [] after e holds are = subst (λ (es : List Entry). VouchedAt es e) (sym (append-nil done)) (entry_is done e holds are.0)
  vouched_from done (x ∷ before) after e holds are =
      let rest : AreAnswered (run_at (done ++ x ∷ [])) (before ++ e ∷ after) = subst (λ (r : Run). AreAnswered r (before ++ e ∷ after)) (sym (run_push (begins_at opening) done x)) are.1 in
      subst (λ (es : List Entry). VouchedAt es e) (append_assoc done (x ∷ []) before) (vouched_from (done ++ x ∷ []) before after e (holds_after done x holds are.0) rest)

-- from a state without tables and pending validations on, every legal history is vouched for
pub vouched : (opening : State) (entries : List Entry) (after : State) → opening.tables ≡ no_tables → opening.pending ≡ [] → IsLegal opening entries after → IsVouched opening entries
vouched opening entries after none nothing_pending legal before rest e effect split found =
    vouched_from opening [] before rest e (holds_start opening none nothing_pending) (subst (AreAnswered (begins_at opening)) split legal.answered) effect found
