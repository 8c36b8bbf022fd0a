-- A store of the first version is carried over: each write of it leaves the blocks with what they hold.
use Rattle.std.proofs.Common.{◌≡◌, inl, inr, ℕ, ◌+◌, ◌<◌, ◌≤◌, ◌==◌, List, [], ◌∷◌, ◌++◌, length, drop, slice_index_or, Bool, true, false, cond, Option, Some, None, refl, sym, ◌∙◌, ap, subst, arith}
use Rattle.std.specs.Option.{option_map}
use Rattle.std.proofs.lemmas.Bool.{cases_Bool, cases_lt}
use Rattle.std.proofs.lemmas.Option.{same_Some}
use Rattle.std.proofs.lemmas.List.{get_or-take, get_or-drop}
use Rattle.tbl_kinds.specs.Numbers.{piece, patched, byte_at}
use Rattle.tbl_kinds.specs.Places.{bank_size}
use Rattle.tbl_kinds.specs.declared.block.Block.{Block}
use Rattle.tbl_outside.specs.Bank.{Torn}
use Rattle.tbl_outside.specs.BankCalls.{write}
use Rattle.cds_layout.specs.Directory.{directory_of, is_live, is_first_version, version_place}
use Rattle.cds_layout.specs.Entries.{slot_count, gate_at, told_at, turns_place, turns_len, turn_place}
use Rattle.cds_layout.specs.Images.{is_whole, data_in, turn_in, turned_in, held_by, held_in}
use Rattle.cds_layout.specs.Order.{carried_turns, first_calls, carry_at}
use Rattle.cds_layout.specs.Turns.{turn_of, shown_by}
use Rattle.cds_layout.specs.declared.turns.Place.{Place}
use Rattle.cds_layout.specs.declared.turns.Place.TheVariants.{First, Second}
use Rattle.cds_layout.proofs.DirectoryLaws.{directory-right}
use Rattle.cds_layout.proofs.EntryLaws.{IsRight, right-parts}
use Rattle.cds_layout.proofs.Restored.{shown-turned, held-shown}
use Rattle.cds_store.specs.Boots.{SameStore, Tidied, Carried, IsTidy, opened_slot}
use Rattle.cds_store.proofs.Bytes.{read_again, byte_written}
use Rattle.cds_store.proofs.Changes.{entry_stays}
use Rattle.cds_store.proofs.Frames.{gate_stays, told_stays, live_stays, version_stays, turned_stays, held_by_stays}
use Rattle.cds_store.proofs.Strays.{same_store_on, tidy_entry}
use Rattle.cds_store.proofs.DirectoryEntries.{directory_within, directory_alike}

-- in the first version, a block holds what its first place does
pub held_first : (bytes : List ℕ) (n : ℕ) (b : Block) → is_first_version bytes ≡ true → held_in bytes n b ≡ held_by bytes b (Some First)
held_first bytes n b first = sym (held-shown bytes n b (Some First) (sym (ap (λ (is_first : Bool). cond is_first (Some First) (turned_in bytes n)) first)))

-- then, what the turns say
held_turned : (bytes : List ℕ) (n : ℕ) (b : Block) → is_first_version bytes ≡ false → held_in bytes n b ≡ held_by bytes b (turned_in bytes n)
held_turned bytes n b second = sym (held-shown bytes n b (turned_in bytes n) (sym (shown-turned bytes n second)))

-- ---- it begins

pub carried_start : (old now : List ℕ) → is_first_version old ≡ true → Tidied old now slot_count → Carried old now 0
carried_start old now first tidied = record {
  same = tidied.same;
  live = tidied.live;
  first = first;
  version = tidied.version ∙ first;
  entries = λ n lt. tidy_entry old now n (slice_index_or (directory_of old) n None) lt refl tidied;
  turned = λ n b lt there. absurd (omega (arith, lt));
}

-- a slot without a block
pub carried_skip : (old now : List ℕ) (n : ℕ) → slice_index_or (directory_of old) n None ≡ None → Carried old now n → Carried old now (n + 1)
carried_skip old now n none carried = record {
  same = carried.same;
  live = carried.live;
  first = carried.first;
  version = carried.version;
  entries = carried.entries;
  turned = λ k b lt there. elim (cases_lt k n) [
    | inl before ↦ carried.turned k b before there
    | inr last ↦
        let here : k ≡ n = omega (arith, lt, last) in
        absurd (cc (sym none ∙ subst (λ i. slice_index_or (directory_of old) i None ≡ Some b) here there))
  ];
}

-- ---- the turn bytes of a slot are written

module _ (old now image : List ℕ) (n : ℕ) (within : n < slot_count) (carried : Carried old now n) (torn : Torn (turns_place n) turns_len now image) where
  gates : (k : ℕ) → k < slot_count → gate_at image k ≡ gate_at now k
  gates k lt = gate_stays (turns_place n) turns_len now image torn k (elim (cases_lt k (n + 1)) [ inl low ↦ inl (omega (arith, low)) | inr high ↦ inr (omega (arith, high)) ])

  told : (k : ℕ) → k < slot_count → told_at image k ≡ told_at now k
  told k lt = told_stays (turns_place n) turns_len now image torn k (elim (cases_lt k (n + 1)) [ inl low ↦ inl (omega (arith, low)) | inr high ↦ inr (omega (arith, high)) ])

  live : is_live image ≡ is_live now
  live = live_stays (turns_place n) turns_len now image torn (omega arith)

  version : is_first_version image ≡ true
  version = version_stays (turns_place n) turns_len now image torn (inl (omega arith)) ∙ carried.version

  right_of : (k : ℕ) (b : Block) → slice_index_or (directory_of old) k None ≡ Some b → IsRight b
  right_of k b there = right-parts b (directory-right old k b there)

  places : (b : Block) → IsRight b → (shown : Option Place) → held_by image b shown ≡ held_by now b shown
  places b right shown =
      let behind = right.behind in
      held_by_stays (turns_place n) turns_len now image torn b (inr (omega (arith, within, behind))) (inr (omega (arith, within, behind))) shown

  same_now : SameStore now image
  same_now = record {
    directory = directory_alike now image live gates told;
    held = λ k b there.
        let there_old = ap (λ (l : List (Option Block)). slice_index_or l k None) (sym carried.same.directory) ∙ there in
        held_first image k b version ∙ places b (right_of k b there_old) (Some First) ∙ sym (held_first now k b carried.version);
  }

  pub carry_torn : SameStore old image
  carry_torn = same_store_on old now image carried.same same_now

  module _ (b : Block) (there : slice_index_or (directory_of old) n None ≡ Some b) (whole : Bool) (is : whole ≡ is_whole now b First) (done : image ≡ patched now (turns_place n) (carried_turns whole)) (long : bank_size ≤ length now) where
    there_now : piece (turns_place n) turns_len image ≡ carried_turns whole
    there_now = by whole done
      where
        by : (w : Bool) → image ≡ patched now (turns_place n) (carried_turns w) → piece (turns_place n) turns_len image ≡ carried_turns w
        by true is = read_again now image (turns_place n) turns_len (carried_turns true) refl (omega (arith, within, long)) is
        by false is = read_again now image (turns_place n) turns_len (carried_turns false) refl (omega (arith, within, long)) is

    byte_there : (k : ℕ) → k < 2 → byte_at (turns_place n + k) image ≡ slice_index_or (carried_turns whole) k 0
    byte_there k lt = sym (get_or-drop (turns_place n) image k 0) ∙ sym (get_or-take 2 (drop (turns_place n) image) k 0 lt) ∙ ap (λ (l : List ℕ). slice_index_or l k 0) there_now

    first_turn : turn_in image n First ≡ turn_of (slice_index_or (carried_turns whole) 0 0)
    first_turn = let same : turns_place n ≡ turns_place n + 0 = omega arith in ap (λ at. turn_of (byte_at at image)) same ∙ ap turn_of (byte_there 0 (omega arith))

    second_turn : turn_in image n Second ≡ turn_of (slice_index_or (carried_turns whole) 1 0)
    second_turn = let same : turn_place n Second ≡ turns_place n + 1 = omega arith in ap (λ at. turn_of (byte_at at image)) same ∙ ap turn_of (byte_there 1 (omega arith))

    -- they say what the first place holds
    turned_here : held_by image b (turned_in image n) ≡ held_by image b (Some First)
    turned_here = by whole is (λ i. shown_by (first_turn i) (second_turn i))
      where
        by : (w : Bool) → w ≡ is_whole now b First → turned_in image n ≡ shown_by (turn_of (slice_index_or (carried_turns w) 0 0)) (turn_of (slice_index_or (carried_turns w) 1 0)) → held_by image b (turned_in image n) ≡ held_by image b (Some First)
        by true is tells = ap (held_by image b) tells
        by false is tells =
            ap (held_by image b) tells
            ∙ sym (places b (right_of n b there) (Some First) ∙ ap (λ (w : Bool). cond w (Some (data_in now b First)) None) (sym is))

    pub carry_step : Carried old image (n + 1)
    carry_step = record {
      same = carry_torn;
      live = live ∙ carried.live;
      first = carried.first;
      version = version;
      entries = λ k lt. entry_stays now image k (option_map opened_slot (slice_index_or (directory_of old) k None)) (gates k lt) (told k lt) (carried.entries k lt);
      turned = λ k c lt there_k. elim (cases_lt k n) [
        | inl before ↦
            ap (held_by image c) (turned_stays (turns_place n) turns_len now image torn k (inl (omega (arith, before))))
            ∙ places c (right_of k c there_k) (turned_in now k)
            ∙ carried.turned k c before there_k
            ∙ sym (places c (right_of k c there_k) (Some First))
        | inr last ↦
            let here : n ≡ k = omega (arith, lt, last) in
            subst (λ i. held_by image c (turned_in image i) ≡ held_by image c (Some First)) here
            (subst (λ (d : Block). held_by image d (turned_in image n) ≡ held_by image d (Some First))
            (same_Some b c (sym there ∙ subst (λ (i : ℕ). slice_index_or (directory_of old) i None ≡ Some c) (sym here) there_k))
            turned_here)
      ];
    }

-- ---- the version is written

module _ (old now image : List ℕ) (carried : Carried old now slot_count) (torn : Torn version_place 1 now image) where
  gates_stay : (k : ℕ) → k < slot_count → gate_at image k ≡ gate_at now k
  gates_stay k lt = gate_stays version_place 1 now image torn k (inr (omega arith))

  told_stay : (k : ℕ) → k < slot_count → told_at image k ≡ told_at now k
  told_stay k lt = told_stays version_place 1 now image torn k (inr (omega arith))

  live_stay : is_live image ≡ is_live now
  live_stay = live_stays version_place 1 now image torn (omega arith)

  all_places : (b : Block) → IsRight b → (shown : Option Place) → held_by image b shown ≡ held_by now b shown
  all_places b right shown =
      let behind = right.behind in
      held_by_stays version_place 1 now image torn b (inr (omega (arith, behind))) (inr (omega (arith, behind))) shown

  same_held : (k : ℕ) (b : Block) → slice_index_or (directory_of old) k None ≡ Some b → held_in image k b ≡ held_in now k b
  same_held k b there =
      let right = right-parts b (directory-right old k b there) in
      elim (cases_Bool (is_first_version image)) [
        | inl first ↦ held_first image k b first ∙ all_places b right (Some First) ∙ sym (held_first now k b carried.version)
        | inr second ↦
            held_turned image k b second
            ∙ ap (held_by image b) (turned_stays version_place 1 now image torn k (inr (omega arith)))
            ∙ all_places b right (turned_in now k)
            ∙ carried.turned k b (directory_within old k b there) there
            ∙ sym (held_first now k b carried.version)
      ]

  pub version_torn : SameStore old image
  version_torn = same_store_on old now image carried.same record {
    directory = directory_alike now image live_stay gates_stay told_stay;
    held = λ k b there. same_held k b (ap (λ (l : List (Option Block)). slice_index_or l k None) (sym carried.same.directory) ∙ there);
  }

  pub version_tidy : bank_size ≤ length now → image ≡ patched now version_place (0x32 ∷ []) → IsTidy old image
  version_tidy long done = record {
    same = version_torn;
    live = live_stay ∙ carried.live;
    version = ap (λ (byte : ℕ). byte == 0x31) (byte_written now image version_place 0x32 (omega (arith, long)) done);
    entries = λ k lt. entry_stays now image k (option_map opened_slot (slice_index_or (directory_of old) k None)) (gates_stay k lt) (told_stay k lt) (carried.entries k lt);
  }

-- ---- what is asked

same_whole : (x y : List ℕ) (v w : Bool) → cond v (Some x) None ≡ cond w (Some y) None → v ≡ w
same_whole x y true true is = refl
same_whole x y false false is = refl
same_whole x y true false is = absurd (cc is)
same_whole x y false true is = absurd (cc is)

-- of a slot, the same as over the bytes with which the boot began
pub carry_alike : (old now : List ℕ) (n : ℕ) → is_first_version old ≡ true → Carried old now n → carry_at now n (slice_index_or (directory_of old) n None) ≡ carry_at old n (slice_index_or (directory_of old) n None)
carry_alike old now n first carried = by (slice_index_or (directory_of old) n None) refl
  where
    by : (o : Option Block) → slice_index_or (directory_of old) n None ≡ o → carry_at now n o ≡ carry_at old n o
    by None there = refl
    by (Some b) there =
        ap (λ (w : Bool). first_calls b ++ write (turns_place n) (carried_turns w) ∷ [])
        (same_whole (data_in now b First) (data_in old b First) (is_whole now b First) (is_whole old b First)
        (sym (held_first now n b carried.version) ∙ carried.same.held n b there ∙ held_first old n b first))
