-- The word `describe` if memory runs out for its shape.
use Rattle.std.proofs.Common.{◌≡◌, ℤ, List, ℕ, [], inl, inr, sym, subst, arith}
use Rattle.std.specs.Io.KnownBytes.{prepend_known}
use Rattle.tbl_kinds.specs.Admitted.{Admitted}
use Rattle.tbl_kinds.specs.Buffers.{Buffer}
use Rattle.tbl_outside.specs.declared.bank.Bank.{Ghosts}
use Rattle.tbl_session.specs.Openings.{Opening}
use Rattle.tbl_session.specs.Session.{Ran}
use Rattle.tbl_maker.specs.declared.form.Form.{Form}
use Rattle.maker_words.proofs.Answering.{prepend_nothing}
use Rattle.tbl_top.specs.Maker.{DescribesFile}
use Rattle.tbl_top.specs.Words.{Asks, AsksWithShape, Completes, Outcome, Spells}
use Rattle.tbl_top.specs.declared.words.Word.{Word}
use Rattle.tbl_top.specs.declared.words.Word.TheVariants.{Describe}
use Rattle.tbl_top.proofs.WordsLemmas.{two_spell}

-- `describe` and a word can ask to describe alone
asks_describe : (words : List Buffer) → AsksWithShape words → (word : Word) (admit : Admitted) → Asks words word admit → (shape : List Form) × (word ≡ Describe shape)
asks_describe words with_shape word admit asks =
    let found = two_spell _ with_shape.0 word admit (subst (λ (ws : List (List ℕ)). Spells ws word admit) with_shape.1 asks) in
    (found.1, found.2)

-- nothing was read, written or touched
describes_nothing : {B : Type 0} (shape : List Form) (bank : B) (r : Ran B) → r.status ≡ 1 → r.left_then ≡ r.left → r.taken_then ≡ r.taken → (r.unread_then ≡ r.unread) × (r.unwritten_then ≡ r.unwritten) → r.bank_then ≡ bank → DescribesFile shape bank r
describes_nothing shape bank r one left taken calm same = record {
  answers = record {
    read = [];
    came = subst (λ o. r.left ≡ prepend_known [] o) (sym left) (prepend_nothing r.left);
    ends = inl (record { cause = inr (inr (one, omega arith)); silent = taken });
  };
  described = λ zero. absurd (omega (arith, one, zero));
  failures = record { reads = λ other. calm.0; writes = λ other. calm.1 };
  untouched = same;
}

pub starved : {B C : Type 0} (words : List Buffer) → AsksWithShape words → (g : Ghosts B) (verdict : C → List ℕ → ℤ) (o : Opening B C) (r : Ran B)
    → r.status ≡ 1 → r.left_then ≡ r.left → r.taken_then ≡ r.taken → (r.unread_then ≡ r.unread) × (r.unwritten_then ≡ r.unwritten) → r.bank_then ≡ o.bank → (word : Word) (admit : Admitted) → Asks words word admit → Outcome word g verdict o r
starved words with_shape g verdict o r one left taken calm same word admit asks =
    let found = asks_describe words with_shape word admit asks in
    subst (λ (w : Word). Outcome w g verdict o r) (sym found.1) (describes_nothing found.0 o.bank r one left taken calm same)

pub starved_through : {B : Type 0} (words : List Buffer) → AsksWithShape words → (g : Ghosts B) (bank : B) (r : Ran B) → r.status ≡ 1 → (word : Word) (admit : Admitted) → Asks words word admit → Completes word g bank r
starved_through words with_shape g bank r one word admit asks =
    let found = asks_describe words with_shape word admit asks in
    subst (λ (w : Word). Completes w g bank r) (sym found.1) (λ file is short good calm_source calm_sink. inr one)
