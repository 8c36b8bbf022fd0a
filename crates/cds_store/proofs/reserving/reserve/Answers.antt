use Rattle.std.proofs.Common.{rules, ◌≡◌, ℕ, List, Option, Some, None, false, not, true, IsSome, ap, sym, ◌∙◌, subst}
use Rattle.tbl_kinds.specs.Blocks.{Store as Blocks}
use Rattle.tbl_kinds.specs.StoreSteps.{freed, has_room}
use Rattle.tbl_kinds.specs.Free.{least_free}
use Rattle.tbl_outside.proofs.Moments.{leaves_among}
use Rattle.cds_store.specs.Calls.{is_gate, is_old}
use Rattle.cds_store.specs.Slots.{doubtful_slot, room_in, without_slot}
use Rattle.cds_store.specs.Sound.{IsNew}
use Rattle.cds_store.specs.StoreBlocks.{StandsFor, kept, with_new, broken_at}
use Rattle.cds_store.specs.declared.slot.Slot.{Slot}
use Rattle.cds_store.proofs.Reservations.{doubtful_same, no_room, old_is, room_for, not_full, reserve_leaves, reserved_is, broken_is}
use Rattle.cds_store.proofs.NewIsNew.{new_is, old_taken}
use Rattle.cds_store.proofs.reserving.reserve.Goals as goal

pub returns-in_default-clause-reserves : goal.returns-in_default-clause-reserves
returns-in_default-clause-reserves g c =
    let b = g.B.Bank in
    let slots = c.args.slots.now.items in
    let found = c.find_doubtful-old.result in
    let is : found ≡ doubtful_slot c.args.kind c.args.name.now slots = c.find_doubtful-old.ensures.slot ∙ ap (doubtful_slot c.args.kind c.args.name.now) c.deref.ensures.value in
    let old = old_is b c.args.kind c.args.name.now c.args.size slots c.args.bank.now found is in
    let room : room_in c.args.size (without_slot found slots) ≡ None =
    ap (λ (l : List (Option Slot)). room_in c.args.size (without_slot found l)) (sym c.deref-2.ensures.value) ∙ sym c.room_for.ensures ∙ c.in_default.is in
    record {
      booted = search rules;
      ok = search rules;
      slot = search rules;
      full = λ blocks stands. ap not (sym (ap (λ o. has_room c.args.size o blocks) (sym (old blocks stands)) ∙ no_room found c.args.size slots blocks stands.slots room));
      untouched = search rules;
      err = search rules;
      breaks = search rules;
      flags = search rules;
      moments = search rules;
      steady = search rules;
      counted = search rules;
      bank_calls = search rules;
    }

pub make_instead-requires-clause-taken : goal.make_instead-requires-clause-taken
make_instead-requires-clause-taken g c =
    old_taken c.args.kind c.args.name.now c.args.slots.now.items c.find_doubtful-old.result (c.find_doubtful-old.ensures.slot ∙ ap (doubtful_slot c.args.kind c.args.name.now) c.deref.ensures.value)

pub make_instead-requires-clause-new : goal.make_instead-requires-clause-new
make_instead-requires-clause-new g c =
    let slots = c.args.slots.now.items in
    let room : room_in c.args.size (without_slot c.find_doubtful-old.result slots) ≡ Some (c.in-Some.slot, c.in-Some.offset) =
    ap (λ (l : List (Option Slot)). room_in c.args.size (without_slot c.find_doubtful-old.result l)) (sym c.deref-2.ensures.value) ∙ sym c.room_for.ensures ∙ c.in-Some.is in
    subst (λ (name : List ℕ). IsNew c.in-Some.slot (without_slot c.find_doubtful-old.result slots) (record { kind = c.args.kind; offset = c.in-Some.offset; size = c.args.size; name = name })) (sym c.copy.ensures)
    (new_is c.args.kind c.args.name.now c.args.size c.in-Some.slot c.in-Some.offset c.find_doubtful-old.result slots c.requires.sound.together c.requires.none_open
    (c.find_doubtful-old.ensures.slot ∙ ap (doubtful_slot c.args.kind c.args.name.now) c.deref.ensures.value)
    c.requires.named c.requires.some c.requires.within room)

pub returns-in-Ok-clause-reserves : goal.returns-in-Ok-clause-reserves
returns-in-Ok-clause-reserves g c =
    let b = g.B.Bank in
    let slots = c.args.slots.now.items in
    let found = c.find_doubtful-old.result in
    let is : found ≡ doubtful_slot c.args.kind c.args.name.now slots = c.find_doubtful-old.ensures.slot ∙ ap (doubtful_slot c.args.kind c.args.name.now) c.deref.ensures.value in
    let old = old_is b c.args.kind c.args.name.now c.args.size slots c.args.bank.now found is in
    let room : room_in c.args.size (without_slot found slots) ≡ Some (c.in-Some.slot, c.in-Some.offset) =
    ap (λ (l : List (Option Slot)). room_in c.args.size (without_slot found l)) (sym c.deref-2.ensures.value) ∙ sym c.room_for.ensures ∙ c.in-Some.is in
    let there = room_for b c.args.kind c.args.name.now c.args.size slots c.args.bank.now found is c.in-Some.slot c.in-Some.offset room in
    record {
      booted = search rules;
      ok = λ blocks stands.
          subst (λ (l : Blocks). StandsFor b.tells b.now (kept c.make_instead.new.slots.items c.make_instead.new.bank) l)
          (ap (λ (name : List ℕ). with_new false c.in-Some.slot (record { kind = c.args.kind; offset = c.in-Some.offset; size = c.args.size; name = name }) (freed found blocks)) c.copy.ensures
          ∙ reserved_is c.args.kind c.args.name.now c.args.size c.in-Some.slot c.in-Some.offset found blocks (old blocks stands) (there blocks stands))
          (c.in-Ok.ensures.alters.ok blocks stands);
      slot = λ blocks stands. ap (λ o. least_free (freed o blocks)) (sym (old blocks stands)) ∙ (there blocks stands).slot;
      full = not_full b c.args.kind c.args.name.now c.args.size slots c.args.bank.now found is c.in-Some.slot c.in-Some.offset room;
      untouched = search rules;
      err = search rules;
      breaks = search rules;
      flags = search rules;
      moments = λ m blocks stands.
          leaves_among (c.make_instead.ensures.alters.moments m blocks stands)
          (reserve_leaves b c.args.kind c.args.name.now c.args.size slots c.args.bank.now found is c.in-Some.slot c.in-Some.offset room c.copy.result c.copy.ensures blocks stands);
      steady = search rules;
      counted = search rules;
      bank_calls = search rules;
    }

pub returns-in-Err-clause-reserves : goal.returns-in-Err-clause-reserves
returns-in-Err-clause-reserves g c =
    let b = g.B.Bank in
    let slots = c.args.slots.now.items in
    let found = c.find_doubtful-old.result in
    let is : found ≡ doubtful_slot c.args.kind c.args.name.now slots = c.find_doubtful-old.ensures.slot ∙ ap (doubtful_slot c.args.kind c.args.name.now) c.deref.ensures.value in
    let old = old_is b c.args.kind c.args.name.now c.args.size slots c.args.bank.now found is in
    let room : room_in c.args.size (without_slot found slots) ≡ Some (c.in-Some.slot, c.in-Some.offset) =
    ap (λ (l : List (Option Slot)). room_in c.args.size (without_slot found l)) (sym c.deref-2.ensures.value) ∙ sym c.room_for.ensures ∙ c.in-Some.is in
    let there = room_for b c.args.kind c.args.name.now c.args.size slots c.args.bank.now found is c.in-Some.slot c.in-Some.offset room in
    let gate = is_gate c.in-Err.fault in
    let in_way = is_old c.in-Err.fault in
    let flags : in_way ≡ true → (gate ≡ true) × IsSome (doubtful_slot c.args.kind c.args.name.now slots) = subst (λ (o : Option ℕ). in_way ≡ true → (gate ≡ true) × IsSome o) is c.in-Err.ensures.flags in
    record {
      booted = search rules;
      ok = search rules;
      slot = search rules;
      full = not_full b c.args.kind c.args.name.now c.args.size slots c.args.bank.now found is c.in-Some.slot c.in-Some.offset room;
      untouched = search rules;
      err = λ blocks stands.
          subst (λ (l : Blocks). StandsFor b.tells b.now (kept c.make_instead.new.slots.items c.make_instead.new.bank) l)
          (ap (λ (name : List ℕ). broken_at gate in_way found c.in-Some.slot (record { kind = c.args.kind; offset = c.in-Some.offset; size = c.args.size; name = name }) blocks) c.copy.ensures
          ∙ broken_is c.args.kind c.args.name.now c.args.size c.in-Some.slot c.in-Some.offset found blocks (old blocks stands) (there blocks stands) gate in_way (λ set. (flags set).0))
          (c.in-Err.ensures.alters.err blocks stands);
      breaks = λ blocks stands set. ((flags set).0, subst IsSome (doubtful_same c.args.kind c.args.name.now slots blocks stands.slots) (flags set).1);
      flags = flags;
      moments = λ m blocks stands.
          leaves_among (c.make_instead.ensures.alters.moments m blocks stands)
          (reserve_leaves b c.args.kind c.args.name.now c.args.size slots c.args.bank.now found is c.in-Some.slot c.in-Some.offset room c.copy.result c.copy.ensures blocks stands);
      steady = search rules;
      counted = search rules;
      bank_calls = search rules;
    }
