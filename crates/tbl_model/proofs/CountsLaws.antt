-- What is counted over a history with one entry more is one step on from what was counted before.
use Rattle.std.proofs.Common.{◌≡◌, ℕ, ◌+◌, ◌-◌, ◌%◌, ◌≤◌, Bool, true, false, not, cond, List, [], ◌∷◌, ◌++◌, length, drop, refl, sym, ap, ◌∙◌, arith, Option, Some, None, unwrap_or, is_some}
use Rattle.std.specs.Prelude.{sum_by}
use Rattle.std.specs.List.{after_last, suffix_len, prefix_len}
use Rattle.std.specs.Option.{option_or}
use Rattle.std.proofs.lemmas.List.{reverse-append, length-append, drop_all, drop-append-le}
use Rattle.std.proofs.lemmas.List.Sums.{sum_by_push, suffix_len-le-length, fold_push}
use Rattle.std.proofs.Math.Nat.{mod-add-mod, zero-mod}
use Rattle.tbl_model.specs.Commands.{read_command_in}
use Rattle.tbl_model.specs.Counts.{Told, counts_of, restarts, clears_counters, adds_accepted, adds_refused, adds_request, events_by, latest, is_finished, is_finished_well, is_finished_badly, events_in, is_housekeeping, is_registry, no_validation, validation_in, no_update, update_in, loaded_in, loaded_file_in, dump_in}
use Rattle.tbl_model.specs.CountsAfter.{bit, tally_of, counts_after}

after_last_by : {X : Type 0} (xs : List X) (x : X) (b : Bool) (k : ℕ) → k ≤ length xs
    → drop (length (xs ++ x ∷ []) - cond (not b) (1 + k) 0) (xs ++ x ∷ []) ≡ cond b [] (drop (length xs - k) xs ++ x ∷ [])
after_last_by xs x true k h = drop_all (length (xs ++ x ∷ []) - 0) (xs ++ x ∷ []) (omega arith)
after_last_by xs x false k h =
    let e : length (xs ++ x ∷ []) - (1 + k) ≡ length xs - k = omega (arith, length-append xs (x ∷ [])) in
    ap (λ n. drop n (xs ++ x ∷ [])) e ∙ drop-append-le (length xs - k) xs (x ∷ []) (omega arith)

-- what comes after the last that passes, with one more at the end
pub after_last_push : {X : Type 0} (p : X → Bool) (xs : List X) (x : X) → after_last p (xs ++ x ∷ []) ≡ cond (p x) [] (after_last p xs ++ x ∷ [])
after_last_push p xs x =
    ap (λ r. drop (length (xs ++ x ∷ []) - prefix_len (λ y. not (p y)) r) (xs ++ x ∷ [])) (reverse-append xs (x ∷ []))
    ∙ after_last_by xs x (p x) (suffix_len (λ y. not (p y)) xs) (suffix_len-le-length (λ y. not (p y)) xs)

sum_by_pushed : {X : Type 0} (f : X → ℕ) (ys : List X) (x : X) (m : ℕ) (b : Bool) → sum_by f (cond b [] (ys ++ x ∷ [])) % m ≡ cond b 0 ((sum_by f ys % m + f x) % m)
sum_by_pushed f ys x m true = zero-mod m
sum_by_pushed f ys x m false = ap (λ n. n % m) (sum_by_push f ys x) ∙ sym (mod-add-mod (sum_by f ys) m (f x))

-- a count since the last that clears, below m
pub counted_push : {X : Type 0} (f : X → ℕ) (clears : X → Bool) (m : ℕ) (xs : List X) (x : X)
    → sum_by f (after_last clears (xs ++ x ∷ [])) % m ≡ cond (clears x) 0 ((sum_by f (after_last clears xs) % m + f x) % m)
counted_push f clears m xs x = ap (λ ys. sum_by f ys % m) (after_last_push clears xs x) ∙ sum_by_pushed f (after_last clears xs) x m (clears x)

unwrapped : {Y : Type 0} (o known : Option Y) (none : Y) → unwrap_or (option_or o known) none ≡ unwrap_or o (unwrap_or known none)
unwrapped None known none = refl
unwrapped (Some y) known none = refl

latest_pushed : {X Y : Type 0} (pick : X → Option Y) (none : Y) (ys : List X) (x : X) (b : Bool)
    → unwrap_or (latest pick (cond b [] (ys ++ x ∷ []))) none ≡ cond b none (unwrap_or (pick x) (unwrap_or (latest pick ys) none))
latest_pushed pick none ys x true = refl
latest_pushed pick none ys x false =
    ap (λ o. unwrap_or o none) (fold_push (λ known x. option_or (pick x) known) None ys x) ∙ unwrapped (pick x) (latest pick ys) none

-- the latest since the last that clears, or what stands for none
pub latest_push : {X Y : Type 0} (pick : X → Option Y) (none : Y) (clears : X → Bool) (xs : List X) (x : X)
    → unwrap_or (latest pick (after_last clears (xs ++ x ∷ []))) none ≡ cond (clears x) none (unwrap_or (pick x) (unwrap_or (latest pick (after_last clears xs)) none))
latest_push pick none clears xs x = ap (λ ys. unwrap_or (latest pick ys) none) (after_last_push clears xs x) ∙ latest_pushed pick none (after_last clears xs) x (clears x)

-- the counts of a history with one entry more
pub counts_push : (past : List Told) (t : Told) → counts_of (past ++ t ∷ []) ≡ counts_after (counts_of past) (tally_of t)
unfolding counts_of
counts_push past t =
    let accepted = counted_push (λ t. bit (adds_accepted (read_command_in t.request) t.effect)) clears_counters 256 past t in
    let refused = counted_push (λ t. bit (adds_refused (read_command_in t.request) t.effect)) clears_counters 256 past t in
    let finished = counted_push (events_by is_finished) clears_counters 65536 past t in
    let good = counted_push (events_by is_finished_well) clears_counters 256 past t in
    let bad = counted_push (events_by is_finished_badly) clears_counters 256 past t in
    let requests = counted_push (λ t. bit (adds_request (read_command_in t.request) t.effect)) clears_counters 256 past t in
    let events = counted_push events_in restarts 16384 past t in
    let housekeepings = counted_push (λ t. bit (is_housekeeping t.effect.shown)) restarts 16384 past t in
    let registries = counted_push (λ t. bit (is_registry t.effect.shown)) restarts 16384 past t in
    let notices = counted_push (λ t. bit (is_some t.effect.notice)) restarts 16384 past t in
    let validation = latest_push validation_in no_validation restarts past t in
    let update = latest_push update_in no_update restarts past t in
    let loaded = latest_push loaded_in [] restarts past t in
    let loaded_file = latest_push loaded_file_in [] restarts past t in
    let dumped_file = latest_push dump_in [] restarts past t in
    cc
