-- A function more of the same application in a kit that is made again.
use Rattle.std.proofs.Common.{◌≡◌, ◌∙◌, ◌+◌, ◌<◌, ℕ, List, [], ◌∷◌, ◌++◌, length, take, map, slice_index_or, Option, option_map, sym, ap}
use Rattle.std.proofs.lemmas.List.{map-append, length-map, get_or-map, take_more}
use Rattle.tbl_outside.specs.declared.validator.KitEntry.{KitEntry}
use Rattle.validation.specs.Kits.{owners}

module _ {C : Type 0} where
  abbrev pub owner : Option (KitEntry C) → Option ℕ
  owner entry = option_map (λ (e : KitEntry C). e.app) entry

  pub one_more : (done items : List (Option (KitEntry C))) (i : ℕ) (entry d : Option (KitEntry C)) → i < length items
      → owners done ≡ take i (owners items) → owner entry ≡ owner (slice_index_or items i d) → owners (done ++ entry ∷ []) ≡ take (i + 1) (owners items)
  one_more done items i entry d within same app =
      let there : i < length (owners items) = rw (length-map items owner) within in
      let next : slice_index_or (owners items) i (owner d) ≡ owner entry = get_or-map owner items i d (owner d) within ∙ sym app in
      map-append owner done (entry ∷ [])
      ∙ ap (λ (front : List (Option ℕ)). front ++ owner entry ∷ []) same
      ∙ sym (take_more (owners items) i (owner d) there ∙ ap (λ (one : Option ℕ). take i (owners items) ++ one ∷ []) next)
