-- An engine over another bank that holds the same bytes, with other functions of the same applications.
use Rattle.std.proofs.Common.{◌≡◌, ◌∙◌, ◌^◌, List, Option, sym, arith}
use Rattle.tbl_kinds.specs.declared.entry.Entry.{Entry}
use Rattle.tbl_model.specs.State.{State}
use Rattle.tbl_outside.specs.declared.bank.Bank.{Ghosts}
use Rattle.tbl_outside.specs.declared.validator.KitEntry.{KitEntry}
use Rattle.tbl_outside.specs.declared.validator.Validator.{Ghosts as ValidatorGhosts}
use Rattle.validation.specs.Kits.{owners}
use Rattle.tbl_core.specs.Copying.{moved}
use Rattle.tbl_core.specs.Service.{EngineView, Stands, IsAfter, IsReady, AskedBelow}

module _ {B C : Type 0} (g : Ghosts B) (engine : EngineView B C) (bank : B) (kit : List (Option (KitEntry C))) (held : g.tells → g.now bank ≡ g.now engine.state.store.bank) (owned : owners kit ≡ owners engine.state.kit) where
  pub moved_stands : (opening : State) (past : List Entry) → Stands g opening past engine → Stands g opening past (moved bank kit engine)
  moved_stands opening past was = record {
    legal = was.legal;
    shows = λ told. let shown = was.shows told in record {
      state = record {
        parts = let parts = shown.state.parts in record {
          tables = parts.tables;
          pending = parts.pending;
          store = parts.store;
          drawer = parts.drawer;
          apps = parts.apps;
          kit = parts.kit ∙ sym owned;
          admit = parts.admit;
          seconds = parts.seconds;
          sub = parts.sub;
          ended = parts.ended;
        };
        blocks = λ live. let stood = shown.state.blocks live in record {
          slots = stood.slots;
          shows = λ tells. rw (held tells) (stood.shows tells);
          holds = λ tells. rw (held tells) (stood.holds tells);
        };
      };
      counts = shown.counts;
    };
  }

  pub moved_after : (past : List Entry) → IsAfter past engine → IsAfter past (moved bank kit engine)
  moved_after past was = record { played = was.played; gets = was.gets }

  pub moved_ready : (v : ValidatorGhosts C) → AskedBelow v.asked (2 ^ 62) kit → IsReady v engine → IsReady v (moved bank kit engine)
  moved_ready v few ready = record {
    fit = rw owned ready.fit;
    few = ready.few;
    booted = ready.booted;
    kit = λ number entry there. let low = few number entry there in omega (arith, low);
    images = ready.images;
    numbers = ready.numbers;
    places = ready.places;
  }
