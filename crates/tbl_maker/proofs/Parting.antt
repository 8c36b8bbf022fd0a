-- Lists that are parted at a byte: where it stands first, they are parted in one way.
use Rattle.std.proofs.Common.{◌≡◌, ℕ, ◌≤◌, Bool, List, [], ◌∷◌, ◌++◌, length, map, take, drop, true, false, refl, sym, ap, ◌∙◌, subst, append_assoc, arith}
use Rattle.std.specs.List.{AllByRecursion, flat_map, list_all}
use Rattle.std.specs.Cmp.Lexicographic.{same_text}
use Rattle.std.proofs.lemmas.Bool.{and_parts}
use Rattle.std.proofs.lemmas.List.{take-append-drop}
use Rattle.std.specs.Prelude.{nat_eq}
use lib.Pointwise.{pointwise}
use Rattle.tbl_maker.specs.Lines.{Lacks}

-- ---- lists without a byte

pub All-both : (P : ℕ → Type 0) (xs ys : List ℕ) → AllByRecursion P xs → AllByRecursion P ys → AllByRecursion P (xs ++ ys)
All-both P [] ys a b = b
All-both P (x ∷ xs) ys a b = (a.0, All-both P xs ys a.1 b)

-- what holds of each byte keeps the byte out
pub Lacks-all : (P : ℕ → Type 0) (c : ℕ) → (P c → ⊥) → (xs : List ℕ) → AllByRecursion P xs → Lacks c xs
Lacks-all P c not [] all = tt
Lacks-all P c not (x ∷ xs) all = (λ same. not (subst P same all.0), Lacks-all P c not xs all.1)

pub All-test : {X : Type 0} (p : X → Bool) (xs : List X) → list_all p xs ≡ true → AllByRecursion (λ x. p x ≡ true) xs
All-test p [] e = tt
All-test p (x ∷ xs) e = let both = and_parts (p x) (list_all p xs) e in (both.0, All-test p xs both.1)

pub Lacks-test : (p : ℕ → Bool) (c : ℕ) → p c ≡ false → (xs : List ℕ) → list_all p xs ≡ true → Lacks c xs
Lacks-test p c not xs e = Lacks-all (λ b. p b ≡ true) c (λ yes. cc) xs (All-test p xs e)

-- ---- one way to part

-- what stands after a front that was tested
pub strip_is : (s p rest : List ℕ) → pointwise nat_eq (take (length p) s) p ≡ true → rest ≡ drop (length p) s → s ≡ p ++ rest
strip_is s p rest tested is =
    let front : take (length p) s ≡ p = same_text (take (length p) s) p (sym tested) in
    sym (take-append-drop (length p) s) ∙ ap (λ (l : List ℕ). l ++ drop (length p) s) front ∙ ap (λ (l : List ℕ). p ++ l) (sym is)

pub one_split : (c : ℕ) (a b x y : List ℕ) → Lacks c a → Lacks c b → a ++ c ∷ x ≡ b ++ c ∷ y → (a ≡ b) × (x ≡ y)
one_split c [] [] x y la lb e = (refl, cc)
one_split c [] (b ∷ bs) x y la lb e = absurd (lb.0 (cc))
one_split c (a ∷ more) [] x y la lb e = absurd (la.0 (cc))
one_split c (a ∷ more) (b ∷ bs) x y la lb e =
    let rest : more ++ c ∷ x ≡ bs ++ c ∷ y = cc in
    let found = one_split c more bs x y la.1 lb.1 rest in
    let same : more ≡ bs = found.0 in
    (cc, found.1)

-- what lacks the byte isn't parted at it
pub no_split : (c : ℕ) (a b x : List ℕ) → Lacks c a → a ≡ b ++ c ∷ x → ⊥
no_split c [] [] x la e = cc
no_split c [] (b ∷ bs) x la e = cc
no_split c (a ∷ more) [] x la e = la.0 (cc)
no_split c (a ∷ more) (b ∷ bs) x la e = let rest : more ≡ bs ++ c ∷ x = cc in no_split c more bs x la.1 rest

-- ---- lists of lines

pub regroup : (a : List ℕ) (c : ℕ) (f u : List ℕ) → ((a ++ c ∷ []) ++ f) ++ u ≡ a ++ c ∷ (f ++ u)
regroup a c f u = append_assoc (a ++ c ∷ []) f u ∙ append_assoc a (c ∷ []) (f ++ u)

abbrev pub joined : {X : Type 0} → ℕ → (X → List ℕ) → List X → List ℕ
joined c line xs = flat_map (λ l. l ++ c ∷ []) (map line xs)

-- the first of two lists whose lines begin alike begins the second
pub agree : {X : Type 0} (line : X → List ℕ) (Good : X → Type 0) (c : ℕ)
    → ((x : X) → Good x → Lacks c (line x))
    → ((x y : X) → Good x → Good y → line x ≡ line y → x ≡ y)
    → (xs ys : List X) (u v : List ℕ) → AllByRecursion Good xs → AllByRecursion Good ys
    → joined c line xs ++ u ≡ joined c line ys ++ v
    → length xs ≤ length ys
    → (more : List X) × (ys ≡ xs ++ more) × (u ≡ joined c line more ++ v)
agree line Good c lacks one [] ys u v gx gy e le = (ys, refl, e)
agree line Good c lacks one (x ∷ xs) [] u v gx gy e le = absurd (omega (arith, le))
agree line Good c lacks one (x ∷ xs) (y ∷ ys) u v gx gy e le =
    let parted : line x ++ c ∷ (joined c line xs ++ u) ≡ line y ++ c ∷ (joined c line ys ++ v)
    = sym (regroup (line x) c (joined c line xs) u) ∙ e ∙ regroup (line y) c (joined c line ys) v in
    let found = one_split c (line x) (line y) (joined c line xs ++ u) (joined c line ys ++ v) (lacks x gx.0) (lacks y gy.0) parted in
    let same : x ≡ y = one x y gx.0 gy.0 found.0 in
    let shorter : length xs ≤ length ys = omega (arith, le) in
    let rest = agree line Good c lacks one xs ys u v gx.1 gy.1 found.1 shorter in
    let others : ys ≡ xs ++ rest.0 = rest.1 in
    (rest.0, cc, rest.2)

-- one line more
pub joined_push : {X : Type 0} (c : ℕ) (line : X → List ℕ) (xs : List X) (x : X) (rest : List ℕ)
    → joined c line xs ++ (line x ++ c ∷ rest) ≡ joined c line (xs ++ x ∷ []) ++ rest
joined_push c line [] x rest = sym (regroup (line x) c [] rest)
joined_push c line (y ∷ xs) x rest =
    regroup (line y) c (joined c line xs) (line x ++ c ∷ rest)
    ∙ ap (λ (l : List ℕ). line y ++ c ∷ l) (joined_push c line xs x rest)
    ∙ sym (regroup (line y) c (joined c line (xs ++ x ∷ [])) rest)

pub All-push : {X : Type 0} (P : X → Type 0) (xs : List X) (x : X) → AllByRecursion P xs → P x → AllByRecursion P (xs ++ x ∷ [])
All-push P [] x all one = (one, tt)
All-push P (y ∷ xs) x all one = (all.0, All-push P xs x all.1 one)

-- the parts of a list of which something holds
pub All-front : {X : Type 0} (P : X → Type 0) (xs ys : List X) → AllByRecursion P (xs ++ ys) → AllByRecursion P xs
All-front P [] ys all = tt
All-front P (x ∷ xs) ys all = (all.0, All-front P xs ys all.1)

pub All-after : {X : Type 0} (P : X → Type 0) (xs ys : List X) → AllByRecursion P (xs ++ ys) → AllByRecursion P ys
All-after P [] ys all = all
All-after P (x ∷ xs) ys all = All-after P xs ys all.1
