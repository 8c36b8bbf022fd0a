-- The gates that have no block are closed, and the directory stays.
use Rattle.std.proofs.Common.{◌≡◌, ◌≢◌, inl, inr, ⊎_elim, ℕ, zero, suc, ◌+◌, ◌*◌, ◌<◌, ◌≤◌, ◌==◌, ◌&&◌, List, [], ◌∷◌, ◌++◌, take, replicate, slice_index_or, true, false, cond, Option, Some, None, is_none, refl, sym, ◌∙◌, ap, subst, arith}
use Rattle.std.specs.Option.{option_map}
use Rattle.std.specs.Str.{bytes_eq}
use Rattle.std.proofs.lemmas.Bool.{cases_Bool, cases_eq, cases_lt, and_parts, and_cases}
use Rattle.std.proofs.lemmas.List.{take-take, get_or-take}
use Rattle.tbl_kinds.specs.Blocks.{Stored, Store as Blocks, empty_store}
use Rattle.tbl_kinds.specs.StoreSteps.{stored_at, MayShow}
use Rattle.tbl_kinds.specs.declared.block.Block.{Block}
use Rattle.tbl_outside.specs.Bank.{Torn}
use Rattle.cds_layout.specs.Entries.{slot_count, gate_open, gate_at, gate_place, told_at}
use Rattle.cds_layout.specs.Directory.{directory_len, is_live, is_first_version, live_mark, stated, counted, directory_to, directory_of}
use Rattle.cds_layout.specs.Images.{held_in, stored_in, store_of}
use Rattle.cds_layout.proofs.Directories.{directory-is}
use Rattle.cds_layout.proofs.DirectoryLaws.{directory-right, version-front}
use Rattle.cds_layout.proofs.Stored.{stored_there, length-store}
use Rattle.tbl_outside.specs.Bank.{LeavesOnly}
use Rattle.tbl_outside.specs.declared.bank.Bank.{Ghosts}
use Rattle.tbl_outside.proofs.Moments.{started}
use Rattle.cds_store.specs.Boots.{SameStore, Tidied, IsTidy, IsEmptied, opened_slot}
use Rattle.cds_layout.specs.Fronts.{IsFront}
use Rattle.cds_store.specs.Moments.{ShowsIn}
use Rattle.cds_store.specs.Sound.{EntryIs}
use Rattle.cds_store.proofs.Frames.{IsApart, gate_stays, told_stays, live_stays, version_stays, held_stays, gate_clear}
use Rattle.cds_store.proofs.Reading.{is_open}
use Rattle.cds_layout.proofs.EntryLaws.{right-parts}
use Rattle.cds_store.proofs.DirectoryEntries.{counts_at, no_block, no_blocks_at, directory_within, entry_counts, directory_states, stated_alike}

-- ---- a gate that has no block is written

module _ (n : ℕ) (old image : List ℕ) (torn : Torn (gate_place n) 1 old image) where
  apart : (k from size : ℕ) → k ≢ n → gate_place k ≤ from → from + size ≤ gate_place k + 64 → IsApart (gate_place n) 1 from size
  apart k from size other begins ends = elim (cases_lt k n) [
    | inl before ↦ inl (omega (arith, before, ends))
    | inr behind ↦ inr (omega (arith, behind, other, begins))
  ]

  pub other_gate : (k : ℕ) → k ≢ n → gate_at image k ≡ gate_at old k
  other_gate k other = gate_stays (gate_place n) 1 old image torn k (apart k (gate_place k) 1 other (omega arith) (omega arith))

  other_told : (k : ℕ) → k ≢ n → told_at image k ≡ told_at old k
  other_told k other = told_stays (gate_place n) 1 old image torn k (apart k (17 + 64 * k) 51 other (omega arith) (omega arith))

  own_told : told_at image n ≡ told_at old n
  own_told = told_stays (gate_place n) 1 old image torn n (inr (omega arith))

  module _ (open_is : is_open old n ≡ true) (none : counts_at old n ≡ None) where
    own_counts : counted (directory_to old n) (stated image n) ≡ counted (directory_to old n) (stated old n)
    own_counts = elim (cases_Bool (is_open image n)) [
      | inl still ↦ ap (counted (directory_to old n)) (rw (still, open_is, own_told) refl)
      | inr shut ↦ ap (counted (directory_to old n)) (shut_states shut) ∙ sym none
    ]
      where
        shut_states : is_open image n ≡ false → stated image n ≡ None
        shut_states shut = rw shut refl

    same_to : (k : ℕ) → directory_to image k ≡ directory_to old k
    same_to zero = refl
    same_to (suc k) =
        ap (λ (l : List (Option Block)). l ++ counted l (stated image k) ∷ []) (same_to k)
        ∙ ap (λ (o : Option Block). directory_to old k ++ o ∷ [])
        (elim (cases_eq k n) [
          | inl here ↦ subst (λ i. counted (directory_to old i) (stated image i) ≡ counted (directory_to old i) (stated old i)) (sym here) own_counts
          | inr other ↦ ap (counted (directory_to old k)) (stated_alike old image k (other_gate k other) (other_told k other))
        ])

    live_kept : is_live image ≡ is_live old
    live_kept = live_stays (gate_place n) 1 old image torn (omega arith)

    directory_by_count : (k : ℕ) → k ≡ slot_count → directory_of image ≡ directory_of old
    directory_by_count k is =
        directory-is image k is
        ∙ ap (λ live. cond live (directory_to image k) (replicate k None)) live_kept
        ∙ ap (λ (l : List (Option Block)). cond (is_live old) l (replicate k None)) (same_to k)
        ∙ sym (directory-is old k is)

    pub gate_kept : n < slot_count → SameStore old image
    gate_kept lt = record {
      directory = directory_by_count slot_count refl;
      held = λ k b there.
          let right = right-parts b (directory-right old k b there) in
          held_stays (gate_place n) 1 old image torn k b (gate_clear n k b lt (directory_within old k b there) right.behind old image torn);
    }

pub same_store : (bytes : List ℕ) → SameStore bytes bytes
same_store bytes = record { directory = refl; held = λ n b there. refl }

pub same_store_on : (old mid image : List ℕ) → SameStore old mid → SameStore mid image → SameStore old image
same_store_on old mid image first second = record {
  directory = second.directory ∙ first.directory;
  held = λ n b there. second.held n b (ap (λ (l : List (Option Block)). slice_index_or l n None) first.directory ∙ there) ∙ first.held n b there;
}

-- ---- one slot after the other

-- a step that does nothing leaves what the bank is
pub unmoved : {B : Type 0} (g : Ghosts B) (bank : B) (IsLeft : List ℕ → Type 0) → ((image : List ℕ) → g.left_since bank (g.clock bank) image → image ≡ g.now bank) → IsLeft (g.now bank)
    → LeavesOnly g.clock g.left_since bank bank IsLeft
unmoved g bank IsLeft only here = started g.clock g.left_since bank IsLeft (λ image left. subst IsLeft (sym (only image left)) here)

-- the gate is closed, or has a block of the directory
pub tidied_skip : (old now : List ℕ) (k : ℕ) → k < slot_count → (is_open old k && is_none (slice_index_or (directory_of old) k None)) ≡ false → Tidied old now k → Tidied old now (k + 1)
tidied_skip old now k within fine so_far = record {
  same = so_far.same;
  live = so_far.live;
  version = so_far.version;
  shut = λ n lt n_within none.
      elim (cases_lt n k) [
        | inl before ↦ so_far.shut n before n_within none
        | inr last ↦
            let here : n ≡ k = omega (arith, lt, last) in
            subst (λ i. is_open now i ≡ false) (sym here) (ap (λ g. g == gate_open) (so_far.rest k (omega arith) within) ∙ shut_there (subst (λ i. slice_index_or (directory_of old) i None ≡ None) here none))
      ];
  rest = λ n le n_within. so_far.rest n (omega (arith, le)) n_within;
}
  where
    shut_there : slice_index_or (directory_of old) k None ≡ None → is_open old k ≡ false
    shut_there none = ⊎_elim (λ shut. shut) (λ some. absurd (cc (ap is_none (sym none) ∙ some))) (and_cases (is_open old k) (is_none (slice_index_or (directory_of old) k None)) fine)

none_there : (o : Option Block) → is_none o ≡ true → o ≡ None
none_there None is = refl
none_there (Some b) is = absurd (cc is)

module _ (old now image : List ℕ) (k : ℕ) (within : k < slot_count) (stray : (is_open old k && is_none (slice_index_or (directory_of old) k None)) ≡ true) (so_far : Tidied old now k) (torn : Torn (gate_place k) 1 now image) where
  stray_parts : (is_open old k ≡ true) × (slice_index_or (directory_of old) k None ≡ None)
  stray_parts = let both = and_parts (is_open old k) (is_none (slice_index_or (directory_of old) k None)) stray in (both.0, none_there _ both.1)

  from_now : SameStore now image
  from_now =
      gate_kept k now image torn
      (ap (λ g. g == gate_open) (so_far.rest k (omega arith) within) ∙ stray_parts.0)
      (sym (entry_counts now k within so_far.live) ∙ ap (λ (l : List (Option Block)). slice_index_or l k None) so_far.same.directory ∙ stray_parts.1)
      within

  pub tidied_torn : SameStore old image
  tidied_torn = same_store_on old now image so_far.same from_now

  pub tidied_step : gate_at image k ≡ 0 → Tidied old image (k + 1)
  tidied_step closed = record {
    same = tidied_torn;
    live = live_stays (gate_place k) 1 now image torn (omega arith) ∙ so_far.live;
    version = version_stays (gate_place k) 1 now image torn (inl (omega arith)) ∙ so_far.version;
    shut = λ n lt n_within none.
        elim (cases_eq n k) [
          | inl here ↦ subst (λ i. is_open image i ≡ false) (sym here) (ap (λ g. g == gate_open) closed)
          | inr other ↦ ap (λ g. g == gate_open) (other_gate k now image torn n other) ∙ so_far.shut n (omega (arith, lt, other)) n_within none
        ];
    rest = λ n le n_within. other_gate k now image torn n (λ here. omega (arith, le, here)) ∙ so_far.rest n (omega (arith, le)) n_within;
  }

-- then the bytes match the directory
pub tidy_entry : (old now : List ℕ) (n : ℕ) (o : Option Block) → n < slot_count → slice_index_or (directory_of old) n None ≡ o → Tidied old now slot_count → EntryIs now n (option_map opened_slot o)
tidy_entry old now n None lt there tidied = tidied.shut n lt lt there
tidy_entry old now n (Some b) lt there tidied =
    let told = directory_states now n b lt tidied.live (ap (λ (l : List (Option Block)). slice_index_or l n None) tidied.same.directory ∙ there) in
    (told.1, λ sure. told.0)

pub tidied_is_tidy : (old now : List ℕ) → is_first_version old ≡ false → Tidied old now slot_count → IsTidy old now
tidied_is_tidy old now second tidied = record {
  same = tidied.same;
  live = tidied.live;
  version = tidied.version ∙ second;
  entries = λ n lt. tidy_entry old now n (slice_index_or (directory_of old) n None) lt refl tidied;
}

-- ---- what a store shows, again

shown_alike : (old image : List ℕ) (n : ℕ) (o : Option Block) → ((b : Block) → o ≡ Some b → held_in image n b ≡ held_in old n b) → option_map (stored_in image n) o ≡ option_map (stored_in old n) o
shown_alike old image n None same = refl
shown_alike old image n (Some b) same = ap (λ (h : Option (List ℕ)). Some (record { block = b; held = h; trying = []; doubtful = false })) (same b refl)

pub stored_alike : (old image : List ℕ) → SameStore old image → (n : ℕ) → stored_at (store_of image) n ≡ stored_at (store_of old) n
stored_alike old image same n =
    stored_there image n
    ∙ ap (λ (l : List (Option Block)). option_map (stored_in image n) (slice_index_or l n None)) same.directory
    ∙ shown_alike old image n (slice_index_or (directory_of old) n None) (same.held n)
    ∙ sym (stored_there old n)

pub shows_alike : (old image : List ℕ) (blocks : Blocks) → SameStore old image → ShowsIn blocks old → ShowsIn blocks image
shows_alike old image blocks same shows = record {
  as_long = length-store image ∙ sym (length-store old) ∙ shows.as_long;
  each = λ n. subst (MayShow (stored_at blocks n)) (sym (stored_alike old image same n)) (shows.each n);
}

-- two banks that show no block
pub emptied_alike : (old image : List ℕ) → IsEmptied old → IsEmptied image → SameStore old image
emptied_alike old image first second = record {
  directory = second ∙ sym first;
  held = λ n b there. absurd (none_is_some n b (sym (ap (λ (l : List (Option Block)). slice_index_or l n None) first) ∙ there));
}
  where
    none_is_some : (n : ℕ) (b : Block) → slice_index_or (replicate slot_count no_block) n None ≡ Some b → ⊥
    none_is_some n b there = cc (sym (no_blocks_at slot_count n) ∙ there)

pub emptied_shows : (image : List ℕ) → IsEmptied image → ShowsIn empty_store image
emptied_shows image emptied = record {
  as_long = length-store image;
  each = λ n. subst (MayShow (stored_at empty_store n)) (sym (stored_there image n ∙ ap (option_map (stored_in image n)) (ap (λ (l : List (Option Block)). slice_index_or l n None) emptied ∙ no_blocks_at slot_count n))) (none_at n);
}
  where
    nothing : Option Stored
    nothing = None

    empty_at : (k n : ℕ) → slice_index_or (replicate k nothing) n None ≡ None
    empty_at zero n = refl
    empty_at (suc k) zero = refl
    empty_at (suc k) (suc n) = empty_at k n

    none_at : (n : ℕ) → MayShow (stored_at empty_store n) None
    none_at n = subst (λ (o : Option Stored). MayShow o None) (sym (empty_at slot_count n)) refl

-- ---- what was read first

front_gate : (front : List ℕ) (directory : List (Option Block)) (old : List ℕ) (k : ℕ) → IsFront front directory old → k < slot_count → gate_at front k ≡ gate_at old k
front_gate front directory old k is within = ap (λ (l : List ℕ). slice_index_or l (gate_place k) 0) is.read ∙ get_or-take directory_len old (gate_place k) 0 (omega (arith, within))

pub stray_is : (front : List ℕ) (directory : List (Option Block)) (old : List ℕ) (k : ℕ) → IsFront front directory old → k < slot_count
    → ((gate_at front k == gate_open) && is_none (slice_index_or directory k None)) ≡ (is_open old k && is_none (slice_index_or (directory_of old) k None))
stray_is front directory old k is within = rw (front_gate front directory old k is within, is.told) refl

pub live_front : (front : List ℕ) (directory : List (Option Block)) (old : List ℕ) → IsFront front directory old → is_live front ≡ is_live old
live_front front directory old is = ap (λ (l : List ℕ). bytes_eq l live_mark) (ap (take 3) is.read ∙ take-take 3 directory_len old (omega arith))

pub version_read : (front : List ℕ) (directory : List (Option Block)) (old : List ℕ) → IsFront front directory old → is_first_version front ≡ is_first_version old
version_read front directory old is = ap is_first_version is.read ∙ version-front old
