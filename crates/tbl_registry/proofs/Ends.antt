-- A table goes, and its handles lead to none.
use Rattle.std.proofs.Common.{◌≡◌, ◌≢◌, ◌+◌, ◌≤◌, ℕ, List, [], ◌∷◌, map, slice_index_or, slice_set, Bool, true, false, cond, Option, Some, None, refl, ap, sym, ◌∙◌, arith}
use Rattle.std.specs.Option.{option_map}
use Rattle.std.proofs.lemmas.List.{length-set, get_or-set_other}
use Rattle.tbl_model.specs.State.{Table, Handle}
use Rattle.tbl_model.specs.Tables.{uses_buffer}
use Rattle.tbl_model.specs.TableSteps.{orphaned, remove}
use Rattle.access_desc.specs.declared.handle_view.HandleView.{HandleView}
use Rattle.access_desc.specs.Steps.{is_of, after_end}
use Rattle.tbl_registry.specs.Pins.{Leads}
use Rattle.tbl_registry.specs.Seen.{tables_of, handle_of}
use Rattle.tbl_registry.specs.Sound.{IsSound}
use Rattle.tbl_registry.proofs.Places.{count_set, within_places, AtEachPlace-map}
use Rattle.tbl_registry.proofs.Named.{named_removed}
use Rattle.tbl_registry.proofs.Pins.{tables_with, handle_other, that_is, here_of}
use Rattle.tbl_registry.proofs.Changes.{FoundRow}

module _ {rows : List (Option Table)} {handles : List (Option HandleView)} {row : ℕ} {t : Table} (stood : FoundRow rows handles row t) where
  there : slice_index_or rows row None ≡ Some t
  there = stood.there

  sound : IsSound rows handles
  sound = stood.sound

  abbrev rows' : List (Option Table)
  rows' = slice_set rows row None

  not_here : (h : HandleView) → is_of row h ≡ false → (k : ℕ) → h.row ≡ Some k → k ≢ row
  not_here h isnt k of same = cc (here_of row h (of ∙ ap (λ (j : ℕ). Some j) same), isnt)

  ended_leads : (n : ℕ) (h : HandleView) → slice_index_or handles n None ≡ Some h → Leads rows' (after_end row h)
  ended_leads n h at = by (is_of row h) refl where
    by : (b : Bool) → is_of row h ≡ b → Leads rows' (cond b (record h { row = None; pinned = false; old = false }) h)
    by true is = record { table = λ k of. absurd (cc of); pins = λ pinned. absurd (cc pinned) }
    by false isnt = record {
      table = λ k of. rw (get_or-set_other rows row k None None (not_here h isnt k of)) ((sound.leads n h at).table k of);
      pins = λ pinned k of u is. (sound.leads n h at).pins pinned k of u (sym (get_or-set_other rows row k None None (not_here h isnt k of)) ∙ is);
    }

  pub removed_sound : IsSound rows' (map (option_map (after_end row)) handles)
  removed_sound = record {
    all_rows = simp length-set sound.all_rows;
    named = named_removed rows row t there sound.named;
    leads = AtEachPlace-map (Leads rows') (after_end row) handles ended_leads;
    few = let a = count_set uses_buffer rows row None None (within_places rows row t there) in let few = sound.few in omega (arith, a, few);
  }

  orphan_seen : (h : HandleView) → Some (handle_of rows' (after_end row h)) ≡ orphaned row (Some (handle_of rows h))
  orphan_seen h = rw (that_is row h.row) (by (is_of row h) refl) where
    by : (b : Bool) → is_of row h ≡ b → Some (handle_of rows' (cond b (record h { row = None; pinned = false; old = false }) h)) ≡ Some (cond b (record (handle_of rows h) { row = None; pin = None }) (handle_of rows h))
    by true is = refl
    by false isnt = ap (λ (g : Handle). Some g) (handle_other rows row None h (λ _. not_here h isnt))

  pub removed_seen : tables_of rows' (map (option_map (after_end row)) handles) ≡ remove row (tables_of rows handles)
  removed_seen = ap (λ (hs : List (Option Handle)). tables_with rows' hs) (all handles) where
    all : (hs : List (Option HandleView)) → map (option_map (handle_of rows')) (map (option_map (after_end row)) hs) ≡ map (orphaned row) (map (option_map (handle_of rows)) hs)
    all [] = refl
    all (None ∷ hs) = ap (λ (gs : List (Option Handle)). None ∷ gs) (all hs)
    all (Some h ∷ hs) = cc (orphan_seen h, all hs)
