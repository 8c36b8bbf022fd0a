-- Over another bank of the same bytes an engine stands for whatever it stood for.
use Rattle.std.proofs.Common.{◌≡◌, List, ℕ, refl, sym, subst}
use Rattle.tbl_kinds.specs.Blocks.{Store as Blocks}
use Rattle.tbl_kinds.specs.StoreSteps.{Shows as ShowsBlocks}
use Rattle.cds_layout.specs.Images.{store_of}
use Rattle.cds_store.specs.StoreBlocks.{AreHeld, StandsFor as HasBlocks}
use Rattle.tbl_outside.specs.declared.bank.Bank.{Ghosts}
use Rattle.tbl_core.specs.Banks.{HasBank, with_bank}
use Rattle.tbl_core.specs.Service.{EngineView}

module _ {B C : Type 0} (g : Ghosts B) (bank : B) (engine : EngineView B C) (same : g.tells → g.now bank ≡ g.now engine.state.store.bank) where
  same_blocks : (blocks : Blocks) → HasBlocks g.tells g.now engine.state.store blocks → HasBlocks g.tells g.now (with_bank bank engine).state.store blocks
  same_blocks blocks was = record {
    slots = was.slots;
    shows = λ told. subst (λ (bytes : List ℕ). ShowsBlocks blocks (store_of bytes)) (sym (same told)) (was.shows told);
    holds = λ told. subst (λ (bytes : List ℕ). AreHeld bytes blocks) (sym (same told)) (was.holds told);
  }

  pub other_bank : HasBank g bank engine (with_bank bank engine)
  other_bank = record {
    is = refl;
    stands = λ opening past was. record {
      legal = was.legal;
      shows = λ told. let shown = was.shows told in record {
        state = record {
          parts = let parts = shown.state.parts in record {
            tables = parts.tables;
            pending = parts.pending;
            store = parts.store;
            drawer = parts.drawer;
            apps = parts.apps;
            kit = parts.kit;
            admit = parts.admit;
            seconds = parts.seconds;
            sub = parts.sub;
            ended = parts.ended;
          };
          blocks = λ live. same_blocks _ (shown.state.blocks live);
        };
        counts = shown.counts;
      };
    };
    after = λ past was. record { played = was.played; gets = was.gets };
  }
