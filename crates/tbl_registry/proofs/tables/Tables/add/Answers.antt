use Rattle.std.proofs.Common.{◌≡◌, ◌∙◌, sym, Some, rules}
use Rattle.std.proofs.lemmas.Option.{same_Some}
use Rattle.tbl_kinds.specs.Free.{least_free}
use Rattle.tbl_kinds.proofs.FreeLaws.{least_free-map, least_free-None, least_free-within}
use Rattle.tbl_registry.proofs.Add.{no_buffer, add_sound, add_seen}
use Rattle.tbl_registry.proofs.Counted.{can_count, newly_counted}
use Rattle.tbl_registry.proofs.tables.Tables.add.Goals as goal

pub returns-in_default-add : goal.returns-in_default-add
returns-in_default-add c = record {
  row_free = search rules;
  handle_free = search rules;
  added = search rules;
  no_row = search rules;
  row_first = search rules;
  no_handle = λ _. rw (← c.self.view_is, least_free-map _ c.self.inside.handles) (sym c.in_default-add.ensures.least_free);
  memory = search rules;
  err = search rules;
}

pub invariant_of-self-2 : goal.invariant_of-self-2
invariant_of-self-2 c =
    let free : least_free c.self.inside.rows.items ≡ Some c.in-Some.row = rw (← c.deref.ensures.value) (sym c.in-Some.ensures.row) in
    rw (c.enter.ensures, c.in-Some-add.ensures.added, c.make-table.ensures) record {
      sound = add_sound c.self.inside.rows.items c.self.inside.handles c.in-Some.row c.in-Some-add.handle c.args.app _ c.self.invariant.sound free (no_buffer _) (rw (← c.self.view_is) at c.requires.new);
      counted = newly_counted c.self.inside.rows.items c.in-Some.row _ c.self.inside.counts (least_free-None c.self.inside.rows.items c.in-Some.row free) (least_free-within c.self.inside.rows.items c.in-Some.row free) c.self.invariant.counted;
    }

pub returns : goal.returns
returns c = record {
  row_free = search rules;
  handle_free = rw (← c.self.view_is, least_free-map _ c.self.inside.handles) (sym c.in-Some-add.ensures.least_free);
  added = λ row is.
      let free : least_free c.self.inside.rows.items ≡ Some c.in-Some.row = rw (← c.deref.ensures.value) (sym c.in-Some.ensures.row) in
      let same : c.in-Some.row ≡ row = same_Some _ _ (sym free ∙ rw (← c.self.view_is) at is) in
      rw (← same, ← c.self.view_is, c.in-Some-add.ensures.added, c.make-table.ensures)
      (add_seen c.self.inside.rows.items c.self.inside.handles c.in-Some.row c.in-Some-add.handle c.args.app _ c.self.invariant.sound free);
  no_row = search rules;
  row_first = search rules;
  no_handle = search rules;
  memory = search rules;
  err = search rules;
}

pub enter-requires : goal.enter-requires
enter-requires c = can_count c.self.inside.rows.items c.self.inside.counts c.self.invariant.counted c.self.invariant.sound.all_rows
