-- The least offset that fits is the first one of all or the end of a block: from any offset that fits, a block can be
-- moved down until it meets one of these.
use Rattle.std.proofs.Common.{◌≡◌, ℕ, ◌+◌, ◌^◌, ◌<◌, ◌≤◌, ◌⊎◌, Bool, true, false, cond, ◌&&◌, nat_le, List, [], ◌∷◌, Option, Some, None, IsTrue, IfSome, IfNone, max, length, drop, ap, sym, ◌∙◌, subst, inl, inr, arith, refl}
use Rattle.std.specs.List.{list_all}
use Rattle.std.proofs.lemmas.List.{drop_all}
use Rattle.std.proofs.lemmas.Bool.{true≢false, false_from_ne_true, and_parts, and_from, or_cases, or_left, or_right, leb-true, leb-false, le-leb}
use Rattle.tbl_kinds.specs.declared.block.Block.{Block}
use Rattle.tbl_kinds.specs.Places as places
use Rattle.tbl_kinds.specs.Places.{fits}
use Rattle.cds_pool.specs.Places.{is_apart, lesser, NoneBelow, Never}

abbrev end_of : Block → ℕ
end_of block = places.end_of block.offset block.size

-- ---- the search keeps the least of those tried

-- the least so far is no greater
abbrev NoWorse : Option ℕ → ℕ → Type 0
NoWorse None c = ⊥
NoWorse (Some least) c = least ≤ c

abbrev Passes : (ℕ → Bool) → Option ℕ → Type 0
Passes test None = Unit {0}
Passes test (Some least) = test least ≡ true

kept_passes : (test : ℕ → Bool) (least : Option ℕ) (at : ℕ) → Passes test least → Passes test (lesser test least at)
kept_passes test None at h = by (test at) refl
  where
    by : (b : Bool) → test at ≡ b → Passes test (cond b (Some at) None)
    by true e = e
    by false e = tt
kept_passes test (Some least) at h = by (nat_le least at) (test at) refl
  where
    by : (a b : Bool) → test at ≡ b → Passes test (cond a (Some least) (cond b (Some at) (Some least)))
    by true b e = h
    by false true e = e
    by false false e = h

kept_no_worse : (test : ℕ → Bool) (least : Option ℕ) (at c : ℕ) → NoWorse least c → NoWorse (lesser test least at) c
kept_no_worse test None at c h = absurd h
kept_no_worse test (Some least) at c h = by (nat_le least at) (test at) refl
  where
    by : (a b : Bool) → nat_le least at ≡ a → NoWorse (cond a (Some least) (cond b (Some at) (Some least))) c
    by true b e = h
    by false true e = omega (arith, leb-false least at e, h)
    by false false e = h

tried_no_worse : (test : ℕ → Bool) (least : Option ℕ) (at : ℕ) → test at ≡ true → NoWorse (lesser test least at) at
tried_no_worse test None at h = by (test at) h
  where
    by : (b : Bool) → b ≡ true → NoWorse (cond b (Some at) None) at
    by true e = omega arith
    by false e = absurd (true≢false (sym e))
tried_no_worse test (Some least) at h = by (nat_le least at) (test at) refl h
  where
    by : (a b : Bool) → nat_le least at ≡ a → b ≡ true → NoWorse (cond a (Some least) (cond b (Some at) (Some least))) at
    by true b e t = leb-true least at e
    by false true e t = omega arith
    by false false e t = absurd (true≢false (sym t))

-- ---- over the ends of all blocks

abbrev pub tried : (ℕ → Bool) → Option ℕ → List Block → Option ℕ
tried test least [] = least
tried test least (block ∷ blocks) = tried test (lesser test least (end_of block)) blocks

all_pass : (test : ℕ → Bool) (least : Option ℕ) (blocks : List Block) → Passes test least → Passes test (tried test least blocks)
all_pass test least [] h = h
all_pass test least (block ∷ blocks) h = all_pass test (lesser test least (end_of block)) blocks (kept_passes test least (end_of block) h)

all_no_worse : (test : ℕ → Bool) (least : Option ℕ) (blocks : List Block) (c : ℕ) → NoWorse least c → NoWorse (tried test least blocks) c
all_no_worse test least [] c h = h
all_no_worse test least (block ∷ blocks) c h =
    all_no_worse test (lesser test least (end_of block)) blocks c (kept_no_worse test least (end_of block) c h)

abbrev IsEnd : List Block → ℕ → Type 0
IsEnd [] c = ⊥
IsEnd (block ∷ blocks) c = (end_of block ≡ c) ⊎ IsEnd blocks c

ends_no_worse : (test : ℕ → Bool) (least : Option ℕ) (blocks : List Block) (c : ℕ) → test c ≡ true → IsEnd blocks c → NoWorse (tried test least blocks) c
ends_no_worse test least [] c t e = absurd e
ends_no_worse test least (block ∷ blocks) c t (inl e) =
    let P : ℕ → Type 0 = λ x. NoWorse (lesser test least x) c in
    all_no_worse test (lesser test least (end_of block)) blocks c (subst P (sym e) (tried_no_worse test least c t))
ends_no_worse test least (block ∷ blocks) c t (inr e) = ends_no_worse test (lesser test least (end_of block)) blocks c t e

-- ---- moving down

-- the last of the first offset and the ends that are no further than this offset
abbrev slid : List Block → ℕ → ℕ
slid [] at = 8208
slid (block ∷ blocks) at = cond (nat_le (end_of block) at) (max (end_of block) (slid blocks at)) (slid blocks at)

slid_up_to : (blocks : List Block) (at : ℕ) → 8208 ≤ at → slid blocks at ≤ at
slid_up_to [] at h = h
slid_up_to (block ∷ blocks) at h = by (nat_le (end_of block) at) refl (slid_up_to blocks at h)
  where
    by : (b : Bool) → nat_le (end_of block) at ≡ b → slid blocks at ≤ at → cond b (max (end_of block) (slid blocks at)) (slid blocks at) ≤ at
    by true e below = omega (arith, leb-true (end_of block) at e, below)
    by false e below = below

slid_from : (blocks : List Block) (at : ℕ) → 8208 ≤ slid blocks at
slid_from [] at = omega arith
slid_from (block ∷ blocks) at = by (nat_le (end_of block) at) (slid_from blocks at)
  where
    by : (b : Bool) → 8208 ≤ slid blocks at → 8208 ≤ cond b (max (end_of block) (slid blocks at)) (slid blocks at)
    by true from = omega (arith, from)
    by false from = from

greater : (a b : ℕ) → (max a b ≡ a) ⊎ (max a b ≡ b)
greater a b = grind arith

abbrev IsPlace : List Block → ℕ → Type 0
IsPlace blocks x = (x ≡ 8208) ⊎ IsEnd blocks x

place_behind : (block : Block) (blocks : List Block) (x : ℕ) → IsPlace blocks x → IsPlace (block ∷ blocks) x
place_behind block blocks x (inl first) = inl first
place_behind block blocks x (inr end) = inr (inr end)

greater_is : (block : Block) (blocks : List Block) (y : ℕ) → IsPlace blocks y → IsPlace (block ∷ blocks) (max (end_of block) y)
greater_is block blocks y h = by (greater (end_of block) y)
  where
    by : (max (end_of block) y ≡ end_of block) ⊎ (max (end_of block) y ≡ y) → IsPlace (block ∷ blocks) (max (end_of block) y)
    by (inl e) = inr (inl (sym e))
    by (inr e) = let P : ℕ → Type 0 = λ x. IsPlace (block ∷ blocks) x in subst P (sym e) (place_behind block blocks y h)

slid_is : (blocks : List Block) (at : ℕ) → IsPlace blocks (slid blocks at)
slid_is [] at = inl refl
slid_is (block ∷ blocks) at = by (nat_le (end_of block) at) (slid_is blocks at)
  where
    by : (b : Bool) → IsPlace blocks (slid blocks at) → IsPlace (block ∷ blocks) (cond b (max (end_of block) (slid blocks at)) (slid blocks at))
    by true h = greater_is block blocks (slid blocks at) h
    by false h = place_behind block blocks (slid blocks at) h

-- what stands below the first offset that is looked at ends no further than this one
abbrev EndsBefore : List Block → ℕ → ℕ → Type 0
EndsBefore [] at c = Unit {0}
EndsBefore (block ∷ blocks) at c = (end_of block ≤ at → end_of block ≤ c) × EndsBefore blocks at c

ends_before_more : (blocks : List Block) (at c d : ℕ) → c ≤ d → EndsBefore blocks at c → EndsBefore blocks at d
ends_before_more [] at c d h e = tt
ends_before_more (block ∷ blocks) at c d h e = ((λ k. omega (arith, e.0 k, h)), ends_before_more blocks at c d h e.1)

ends_before_slid : (blocks : List Block) (at : ℕ) → EndsBefore blocks at (slid blocks at)
ends_before_slid [] at = tt
ends_before_slid (block ∷ blocks) at = by (nat_le (end_of block) at) refl (ends_before_slid blocks at)
  where
    by : (b : Bool) → nat_le (end_of block) at ≡ b → EndsBefore blocks at (slid blocks at) → EndsBefore (block ∷ blocks) at (cond b (max (end_of block) (slid blocks at)) (slid blocks at))
    by true e rest = ((λ k. omega arith), ends_before_more blocks at (slid blocks at) (max (end_of block) (slid blocks at)) (omega arith) rest)
    by false e rest = ((λ k. absurd (omega (arith, k, leb-false (end_of block) at e))), rest)

still_apart : (blocks : List Block) (size at c : ℕ) → c ≤ at → EndsBefore blocks at c → list_all (is_apart size at) blocks ≡ true → list_all (is_apart size c) blocks ≡ true
still_apart [] size at c h e all = refl
still_apart (block ∷ blocks) size at c h e all =
    let parts = and_parts (is_apart size at block) (list_all (is_apart size at) blocks) all in
    and_from (is_apart size c block) (list_all (is_apart size c) blocks)
    (elim (or_cases (nat_le (at + (8 + size)) block.offset) (nat_le (end_of block) at) parts.0) [
      | inl before ↦ or_left (nat_le (c + (8 + size)) block.offset) (nat_le (end_of block) c)
          (le-leb (c + (8 + size)) block.offset (omega (arith, h, leb-true (at + (8 + size)) block.offset before)))
      | inr behind ↦ or_right (nat_le (c + (8 + size)) block.offset) (nat_le (end_of block) c)
          (le-leb (end_of block) c (e.0 (leb-true (end_of block) at behind)))
    ])
    (still_apart blocks size at c h e.1 parts.1)

pub fits_parts : (taken : List Block) (size at : ℕ) → fits taken size at ≡ true → (8208 ≤ at) × (at + (8 + size) ≤ 131072) × (list_all (is_apart size at) taken ≡ true)
fits_parts taken size at h =
    let outer = and_parts (nat_le 8208 at && nat_le (at + (8 + size)) 131072) (list_all (is_apart size at) taken) h in
    let inner = and_parts (nat_le 8208 at) (nat_le (at + (8 + size)) 131072) outer.0 in
    (leb-true 8208 at inner.0, leb-true (at + (8 + size)) 131072 inner.1, outer.1)

slid_fits : (taken : List Block) (size at : ℕ) → fits taken size at ≡ true → fits taken size (slid taken at) ≡ true
slid_fits taken size at h =
    let parts = fits_parts taken size at h in
    let c = slid taken at in
    let up_to : c ≤ at = slid_up_to taken at parts.0 in
    and_from (nat_le 8208 c && nat_le (c + (8 + size)) 131072) (list_all (is_apart size c) taken)
    (and_from (nat_le 8208 c) (nat_le (c + (8 + size)) 131072) (le-leb 8208 c (slid_from taken at)) (le-leb (c + (8 + size)) 131072 (omega (arith, up_to, parts.1))))
    (still_apart taken size at c up_to (ends_before_slid taken at) parts.2)

-- ---- what the search ends with

abbrev pub searched : List Block → ℕ → Option ℕ
searched taken size = tried (fits taken size) (lesser (fits taken size) None 8208) taken

less_than_any : (taken : List Block) (size at : ℕ) → fits taken size at ≡ true → NoWorse (searched taken size) at
less_than_any taken size at h =
    let test : ℕ → Bool = fits taken size in
    let c = slid taken at in
    let passes : test c ≡ true = slid_fits taken size at h in
    let first = lesser test None 8208 in
    let P : ℕ → Type 0 = λ x. test x ≡ true in
    let at_c : NoWorse (searched taken size) c =
    elim (slid_is taken at) [
      | inl e ↦ all_no_worse test first taken c (let Q : ℕ → Type 0 = λ x. NoWorse first x in subst Q (sym e) (tried_no_worse test None 8208 (subst P e passes)))
      | inr e ↦ ends_no_worse test first taken c passes e
    ] in
    by (searched taken size) at_c
  where
    by : (r : Option ℕ) → NoWorse r (slid taken at) → NoWorse r at
    by None n = n
    by (Some least) n = omega (arith, n, slid_up_to taken at (fits_parts taken size at h).0)

-- all that is to be known of it
pub record IsLeast (test : ℕ → Bool) (r : Option ℕ) : Type 0 where
  pub found : IfSome r (λ at. IsTrue (test at))
  pub within : IfSome r (λ at. at < 2 ^ 32)
  pub least : IfSome r (λ at. NoneBelow test at)
  pub none : IfNone r (Never test)

searched_least : (taken : List Block) (size : ℕ) (r : Option ℕ) → r ≡ searched taken size → IsLeast (fits taken size) r
searched_least taken size r e =
    let passes : Passes test (searched taken size) = all_pass test (lesser test None 8208) taken (kept_passes test None 8208 tt) in
    let P : Option ℕ → Type 0 = λ x. Passes test x in
    let Q : Option ℕ → Type 0 = λ x. (at : ℕ) → test at ≡ true → NoWorse x at in
    by r (subst P (sym e) passes) (subst Q (sym e) (λ at h. less_than_any taken size at h))
  where
    test : ℕ → Bool
    test = fits taken size

    by : (x : Option ℕ) → Passes test x → ((at : ℕ) → test at ≡ true → NoWorse x at) → IsLeast test x
    by None p q = record { found = tt; within = tt; least = tt; none = λ at. false_from_ne_true (test at) (λ t. q at t) }
    by (Some least) p q = record {
      found = p;
      within = omega (arith, (fits_parts taken size least p).1);
      least = λ lower below. false_from_ne_true (test lower) (λ t. absurd (omega (arith, below, q lower t)));
      none = tt;
    }

-- once all blocks were tried
pub end_least : (taken : List Block) (size index : ℕ) (r : Option ℕ) → length taken ≤ index → tried (fits taken size) r (drop index taken) ≡ searched taken size → IsLeast (fits taken size) r
end_least taken size index r past e =
    let all : drop index taken ≡ [] = drop_all index taken past in
    searched_least taken size r (sym (ap (tried (fits taken size) r) all) ∙ e)
