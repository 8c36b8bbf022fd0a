-- What a copy leaves of the blocks: broken off before its turn byte what the block held, in it that or the image, done the image.
use Rattle.std.proofs.Common.{◌≡◌, ◌⊎◌, inl, inr, ℕ, ◌+◌, ◌^◌, ◌<◌, ◌≤◌, List, [], ◌∷◌, length, slice_set, true, false, Option, Some, None, refl, sym, ◌∙◌, ap, subst, arith}
use Rattle.std.specs.Option.{option_map}
use Rattle.tbl_kinds.specs.Check.{check16}
use Rattle.tbl_kinds.specs.Numbers.{piece}
use Rattle.tbl_kinds.specs.Places.{bank_size, blocks_begin}
use Rattle.tbl_kinds.specs.Blocks.{Stored, Store as Blocks}
use Rattle.tbl_kinds.specs.StoreSteps.{stored_at, MayGive, with_held, with_try, copied, copy_broken}
use Rattle.tbl_kinds.proofs.Tries.{still_gives, try_gives}
use Rattle.tbl_outside.specs.Bank.{Torn}
use Rattle.tbl_outside.proofs.Pieces.{piece-patched, torn_done}
use Rattle.cds_layout.specs.Directory.{is_first_version}
use Rattle.cds_layout.specs.Entries.{slot_count, gate_at, gate_place, told_at, told_len, tail_place, turn_place}
use Rattle.cds_layout.specs.Images.{place_at, head_len, spelled, turn_in, turned_in, hidden_in, opened_in, held_by, held_in}
use Rattle.cds_layout.specs.Turns.{turn_of, byte_of, shown_by, other}
use Rattle.cds_layout.specs.declared.turns.Place.{Place}
use Rattle.cds_layout.specs.declared.turns.Place.TheVariants.{First, Second}
use Rattle.cds_layout.proofs.EntryLaws.{IsRight}
use Rattle.cds_layout.proofs.Restored.{shown-turned, held-shown}
use Rattle.cds_store.specs.Moments.{with_place, copied_bytes}
use Rattle.cds_store.specs.declared.slot.Slot.{Slot}
use Rattle.cds_store.proofs.Bytes.{length-spelled, spelled_is_whole, byte_written}
use Rattle.cds_store.proofs.Changes.{Elsewhere, elsewhere_on, MatchesBlocks}
use Rattle.cds_store.proofs.Frames.{IsApart, place_low, gate_stays, told_stays, turn_stays, place_stays, in_entry, in_place}
use Rattle.cds_store.proofs.Steps.{put_back, own_within, own_right, own_changed, own_agrees}
use Rattle.cds_store.proofs.TurnLaws.{with_turn, kept_or_turned, opened_shows, turn_of-byte_of}

-- the place of the turn bytes in an entry
abbrev TurnStands : ℕ → Place → Type 0
TurnStands n p = (gate_place n ≤ turn_place n p) × (turn_place n p + 1 ≤ gate_place n + 64) × (tail_place n + told_len ≤ turn_place n p)

turn_stands : (n : ℕ) (p : Place) → TurnStands n p
turn_stands n First = (omega arith, omega arith, omega arith)
turn_stands n Second = (omega arith, omega arith, omega arith)

module _ (n : ℕ) (slots : List (Option Slot)) (blocks : Blocks) (old : List ℕ) (b : Stored) (stands : MatchesBlocks old slots blocks) (there : stored_at blocks n ≡ Some b) where
  abbrev hidden : Place
  hidden = hidden_in old n

  within : n < slot_count
  within = own_within n slots blocks old old b stands there

  right : IsRight b.block
  right = own_right n slots blocks old old b stands there

  place_behind : (place : Place) → blocks_begin ≤ place_at b.block place
  place_behind place = let behind = right.behind in omega (arith, behind, place_low b.block place)

  shown_apart : (shown place : Place) → other (Some shown) ≡ place → IsApart (place_at b.block place) (head_len + b.block.size) (place_at b.block shown) (head_len + b.block.size)
  shown_apart First First is = absurd (cc is)
  shown_apart First Second is = inl (let near = right.inside in let far = right.behind in omega (arith, near, far))
  shown_apart Second First is = inr (let near = right.inside in let far = right.behind in omega (arith, near, far))
  shown_apart Second Second is = absurd (cc is)

  turn_apart : (place turned : Place) → IsApart (place_at b.block place) (head_len + b.block.size) (turn_place n turned) 1
  turn_apart place turned = inl (let high = (turn_stands n turned).1 in omega (arith, within, high, place_behind place))

  -- ---- any bytes are in the hidden place

  module _ (mid : List ℕ) (torn : Torn (place_at b.block hidden) (head_len + b.block.size) old mid) where
    mid_elsewhere : Elsewhere n slots old mid
    mid_elsewhere = in_place old mid n slots b.block hidden torn stands.together right (own_agrees n slots blocks old old b stands there)

    mid_gate : gate_at mid n ≡ gate_at old n
    mid_gate = gate_stays (place_at b.block hidden) (head_len + b.block.size) old mid torn n (inl (omega (arith, within, place_behind hidden)))

    mid_told : told_at mid n ≡ told_at old n
    mid_told = told_stays (place_at b.block hidden) (head_len + b.block.size) old mid torn n (inl (omega (arith, within, place_behind hidden)))

    mid_turn : (turned : Place) → turn_in mid n turned ≡ turn_in old n turned
    mid_turn turned = turn_stays (place_at b.block hidden) (head_len + b.block.size) old mid torn n turned (turn_apart hidden turned)

    mid_version : is_first_version mid ≡ false
    mid_version = mid_elsewhere.version ∙ stands.matches.version

    -- what shows stays
    mid_shows : (shown : Option Place) → other shown ≡ hidden → held_by mid b.block shown ≡ held_by old b.block shown
    mid_shows None is = refl
    mid_shows (Some shown) is = place_stays (place_at b.block hidden) (head_len + b.block.size) old mid torn b.block shown (shown_apart shown hidden is)

    mid_held : held_in mid n b.block ≡ held_in old n b.block
    mid_held =
        sym (held-shown mid n b.block (turned_in mid n) (sym (shown-turned mid n mid_version)))
        ∙ (λ i. held_by mid b.block (shown_by (mid_turn First i) (mid_turn Second i)))
        ∙ mid_shows (turned_in old n) refl
        ∙ held-shown old n b.block (turned_in old n) (sym (shown-turned old n stands.matches.version))

    pub place_torn : MatchesBlocks mid slots blocks
    place_torn =
        subst (MatchesBlocks mid slots) (put_back blocks n (Some b) there)
        (own_changed n slots blocks old mid b stands there b refl mid_elsewhere mid_gate mid_told (subst (MayGive b) (sym mid_held) (stands.held n b there)))

  -- ---- the image is there, and the turn byte is written

  module _ (copy : List ℕ) (sized : length copy ≡ b.block.size) (check : check16 copy < 2 ^ 16) (long : bank_size ≤ length old) where
    abbrev mid : List ℕ
    mid = with_place n b.block (spelled b.block.size copy) old

    inside_bank : (place : Place) → place_at b.block place + (head_len + b.block.size) ≤ length old
    inside_bank First = let near = right.inside in omega (arith, near, long)
    inside_bank Second = let near = right.inside in omega (arith, near, long)

    written_there : Torn (place_at b.block hidden) (head_len + b.block.size) old mid
    written_there =
        subst (λ k. Torn (place_at b.block hidden) k old mid) (length-spelled copy b.block.size sized)
        (torn_done old (place_at b.block hidden) (spelled b.block.size copy) (omega (arith, inside_bank hidden, length-spelled copy b.block.size sized)))

    image_whole : held_by mid b.block (Some hidden) ≡ Some copy
    image_whole =
        let small = right.within in
        spelled_is_whole mid copy b.block hidden sized (omega (arith, small)) check
        (subst (λ k. piece (place_at b.block hidden) k mid ≡ spelled b.block.size copy) (length-spelled copy b.block.size sized)
        (piece-patched old (place_at b.block hidden) (spelled b.block.size copy) (omega (arith, inside_bank hidden, length-spelled copy b.block.size sized))))

    module _ (image : List ℕ) (torn : Torn (turn_place n hidden) 1 mid image) where
      at : TurnStands n hidden
      at = turn_stands n hidden

      turn_elsewhere : Elsewhere n slots old image
      turn_elsewhere =
          elsewhere_on n slots old mid image (mid_elsewhere mid written_there)
          (in_entry (turn_place n hidden) 1 mid image n slots torn stands.together within at.0 at.1)

      turn_gate : gate_at image n ≡ gate_at old n
      turn_gate = gate_stays (turn_place n hidden) 1 mid image torn n (inl (let told = at.2 in omega (arith, told))) ∙ mid_gate mid written_there

      turn_told : told_at image n ≡ told_at old n
      turn_told = told_stays (turn_place n hidden) 1 mid image torn n (inl at.2) ∙ mid_told mid written_there

      turn_version : is_first_version image ≡ false
      turn_version = turn_elsewhere.version ∙ stands.matches.version

      -- the turn byte of one place alone was written
      turned_by : (p : Place) → Torn (turn_place n p) 1 mid image → turned_in image n ≡ with_turn p (turn_in image n p) (turn_in old n First) (turn_in old n Second)
      turned_by First by = ap (shown_by (turn_in image n First)) (turn_stays (turn_place n First) 1 mid image by n Second (inr (omega arith)) ∙ mid_turn mid written_there Second)
      turned_by Second by = ap (λ t. shown_by t (turn_in image n Second)) (turn_stays (turn_place n Second) 1 mid image by n First (inl (omega arith)) ∙ mid_turn mid written_there First)

      places_stay : (shown : Option Place) → held_by image b.block shown ≡ held_by mid b.block shown
      places_stay None = refl
      places_stay (Some place) = place_stays (turn_place n hidden) 1 mid image torn b.block place (inr (let high = at.1 in omega (arith, within, high, place_behind place)))

      keeps : turned_in image n ≡ turned_in old n → held_in image n b.block ≡ held_in old n b.block
      keeps same =
          sym (held-shown image n b.block (turned_in image n) (sym (shown-turned image n turn_version)))
          ∙ ap (held_by image b.block) same
          ∙ places_stay (turned_in old n)
          ∙ mid_shows mid written_there (turned_in old n) refl
          ∙ held-shown old n b.block (turned_in old n) (sym (shown-turned old n stands.matches.version))

      has : turned_in image n ≡ Some hidden → held_in image n b.block ≡ Some copy
      has turned =
          sym (held-shown image n b.block (turned_in image n) (sym (shown-turned image n turn_version)))
          ∙ ap (held_by image b.block) turned
          ∙ places_stay (Some hidden)
          ∙ image_whole

      may_give : (held_in image n b.block ≡ held_in old n b.block) ⊎ (held_in image n b.block ≡ Some copy) → MayGive (with_try copy b) (held_in image n b.block)
      may_give (inl same) = subst (MayGive (with_try copy b)) (sym same) (still_gives b copy (held_in old n b.block) (stands.held n b there))
      may_give (inr new) = try_gives b copy (held_in image n b.block) new

      kept_or_has : (held_in image n b.block ≡ held_in old n b.block) ⊎ (held_in image n b.block ≡ Some copy)
      kept_or_has = elim (kept_or_turned (turn_in old n First) (turn_in old n Second) (turn_in image n hidden)) [
        | inl kept ↦ inl (keeps (turned_by hidden torn ∙ kept))
        | inr turned ↦ inr (has (turned_by hidden torn ∙ turned))
      ]

      pub turn_torn : MatchesBlocks image slots (copy_broken true n copy blocks)
      turn_torn =
          subst (λ o. MatchesBlocks image slots (slice_set blocks n (option_map (with_try copy) o))) (sym there)
          (own_changed n slots blocks old image b stands there (with_try copy b) refl turn_elsewhere turn_gate turn_told (may_give kept_or_has))

    turn_inside : turn_place n hidden + 1 ≤ length mid
    turn_inside = let high = (turn_stands n hidden).1 in let same = written_there.same_length in omega (arith, within, high, long, same)

    pub copied_stands : (image : List ℕ) → image ≡ copied_bytes n b.block (spelled b.block.size copy) old → MatchesBlocks image slots (copied n copy blocks)
    copied_stands image is =
        let turn = byte_of (opened_in old n) in
        let torn : Torn (turn_place n hidden) 1 mid image = subst (Torn (turn_place n hidden) 1 mid) (sym is) (torn_done mid (turn_place n hidden) (turn ∷ []) turn_inside) in
        let opened : turn_in image n hidden ≡ Some (opened_in old n) = ap turn_of (byte_written mid image (turn_place n hidden) turn turn_inside is) ∙ turn_of-byte_of (opened_in old n) in
        let turned : turned_in image n ≡ Some hidden =
        turned_by image torn hidden torn ∙ ap (λ t. with_turn hidden t (turn_in old n First) (turn_in old n Second)) opened ∙ opened_shows (turn_in old n First) (turn_in old n Second) in
        subst (λ o. MatchesBlocks image slots (slice_set blocks n (option_map (with_held (Some copy)) o))) (sym there)
        (own_changed n slots blocks old image b stands there (with_held (Some copy) b) refl (turn_elsewhere image torn) (turn_gate image torn) (turn_told image torn) (has image torn turned))
