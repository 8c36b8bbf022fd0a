-- A service that didn't begin.
use Rattle.std.proofs.Common.{◌≡◌, ℕ, List, [], Option, refl, sym, ap, ◌∙◌, arith, inl, ℤ}
use Rattle.std.specs.Io.KnownBytes.{prepend_known}
use Rattle.tbl_kinds.specs.StoreSteps.{Shows}
use Rattle.cds_layout.specs.Images.{store_of}
use Rattle.tbl_outside.specs.declared.bank.Bank.{Ghosts}
use Rattle.tbl_core.specs.Service.{StartCounted}
use Rattle.tbl_core.specs.declared.service.StartFault.{StartFault}
use Rattle.tbl_core.proofs.Keeping.{keeps}
use Rattle.tbl_laws.proofs.BackedLaws.{backed}
use Rattle.tbl_laws.proofs.VouchedLaws as vouching
use Rattle.tbl_laws.proofs.WholeLaws.{whole}
use Rattle.tbl_outside.specs.Bank.{LeavesOnly}
use Rattle.tbl_session.specs.Openings.{Opening, IsFirst}
use Rattle.tbl_session.specs.Served.{IsServed}
use Rattle.tbl_session.specs.Session.{Ran}
use Rattle.tbl_session.specs.Trouble.{Rises}
use Rattle.tbl_history.proofs.CrashLemmas.{no_moments, no_exit}
use Rattle.tbl_history.proofs.Laws.{Laws}
use Rattle.tbl_stream.specs.Finishing.{FinishesUnbegun}
use Rattle.tbl_stream.specs.Serving.{Lives}
use Rattle.tbl_stream.proofs.FailureLemmas.{unbegun_failures}
use Rattle.tbl_stream.proofs.ReadingLemmas.{prepend_nothing, stops_piece}
use Rattle.tbl_stream.proofs.ReportLemmas.{unbegun, unbegun_rises}
use Rattle.tbl_stream.proofs.StandingLemmas.{and_none}
use Rattle.tbl_stream.proofs.TellingLemmas.{lacks_unbegun}

-- nothing was served, and the bank is as it was but for a boot that wasn't done
module _ {B C : Type 0} (g : Ghosts B) (laws : Laws g) (verdict : C → List ℕ → ℤ) (o : Opening B C) (first : IsFirst o.state) (bank_then : B)
    (crash : g.tells_moments → LeavesOnly g.clock g.left_since o.bank bank_then (λ image. Shows o.state.store (store_of image))) where
  pub served_nothing : Rises g o.bank bank_then [] → IsServed g verdict o bank_then []
  served_nothing rises = record {
    state = o.state;
    legal = λ _. record { answered = tt; leads = refl };
    whole = λ _. whole o.state [] o.state first.tables first.pending (record { answered = tt; leads = refl });
    vouched = λ _. vouching.vouched o.state [] o.state first.tables first.pending (record { answered = tt; leads = refl });
    verdicts = λ _. tt;
    kept = λ _. keeps verdict o.given o.state [] tt;
    backed = λ _. backed o.state [] o.state first.tables first.single (record { answered = tt; leads = refl });
    moments = no_moments g laws o.state o.bank bank_then crash;
    exit = no_exit g laws o.state o.bank bank_then crash;
    restored = λ told place e at. absurd (cc at);
    causes = tt;
    trouble = rises;
  }

pub unlived : {B C : Type 0} (limit : Option ℕ) (g : Ghosts B) (laws : Laws g) (verdict : C → List ℕ → ℤ) (o : Opening B C) (first : IsFirst o.state) (r : Ran B) → r.unread_then ≡ r.unread → r.left_then ≡ r.left
    → (g.tells_moments → LeavesOnly g.clock g.left_since o.bank r.bank_then (λ image. Shows o.state.store (store_of image))) → (fault : StartFault) → StartCounted g o.bank r.bank_then fault
    → FinishesUnbegun fault r.status (r.taken, r.unwritten) (r.taken_then, r.unwritten_then) → Lives limit g verdict o r
unlived limit g laws verdict o first r still same crash fault counted w = record {
  read = [];
  came = prepend_nothing r.left ∙ ap (prepend_known []) (sym same);
  entries = [];
  rest = [];
  parts = refl;
  each = tt;
  left = limit;
  few = and_none limit;
  near = omega arith;
  stops = stops_piece limit [] [] (inl refl) (omega arith);
  served = served_nothing g laws verdict o first r.bank_then crash (unbegun_rises g o.bank r.bank_then fault counted);
  reports = unbegun g o.bank limit r fault counted w;
  lacks = lacks_unbegun fault r.status (r.taken, r.unwritten) (r.taken_then, r.unwritten_then) w;
  reads_last = inl still;
  failures = unbegun_failures fault r still w;
}
