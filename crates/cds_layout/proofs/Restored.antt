-- A head that was read beside bytes says what the block holds.
use Rattle.std.proofs.Common.{◌≡◌, ℕ, ◌+◌, ◌*◌, Bool, true, false, cond, ◌&&◌, ◌==◌, List, take, drop, Option, Some, None, Result, Ok, Err, OnOk, IfErr, refl, sym, ap, subst, ◌∙◌, arith}
use Rattle.std.proofs.lemmas.List.{take-take, drop-take, drop-drop}
use Rattle.std.specs.Int.{w16, w32, from_be_bytes}
use Rattle.std.proofs.lemmas.Option.{same_Some}
use Rattle.tbl_kinds.specs.Numbers.{piece, two_at, four_at}
use Rattle.tbl_kinds.specs.Check.{check16}
use Rattle.tbl_kinds.specs.declared.block.Block.{Block}
use Rattle.cds_layout.specs.Images.{place_at, data_in, kept_length, kept_word, turned_in, shown_in, held_by, held_in, words_by, words_in}
use Rattle.cds_layout.specs.Restores.{TellsAt, TellsTorn, TellsHeld, AreTurns, words, compared}
use Rattle.cds_layout.specs.Turns.{shown_by}
use Rattle.cds_layout.specs.declared.turns.Turns.{Turns}
use Rattle.tbl_outside.specs.declared.bank.Bank.{Ghosts}
use Rattle.std.proofs.lemmas.Result.{on_ok_weaker, IfErr-weaker}
use Rattle.cds_layout.specs.Directory.{is_first_version}
use Rattle.cds_layout.specs.declared.turns.Place.{Place}
use Rattle.cds_layout.specs.declared.turns.Place.TheVariants.{First}
use Rattle.cds_layout.specs.declared.blocks.RestoreFault.{RestoreFault}
use Rattle.cds_layout.specs.declared.blocks.RestoreFault.TheVariants.{NoImage, Torn, Fault}

length-read : (bytes head : List ℕ) (b : Block) (place : Place) → head ≡ piece (place_at b place) 8 bytes → four_at 0 head ≡ kept_length bytes b place
length-read bytes head b place e = ap (four_at 0) e ∙ ap (from_be_bytes w32) (take-take 4 8 (drop (place_at b place) bytes) (omega arith))

word-read : (bytes head : List ℕ) (b : Block) (place : Place) → head ≡ piece (place_at b place) 8 bytes → two_at 4 head ≡ kept_word bytes b place
word-read bytes head b place e =
    ap (two_at 4) e
    ∙ ap (from_be_bytes w16) (ap (take 2) (drop-take 4 4 (drop (place_at b place) bytes)) ∙ take-take 2 4 (drop 4 (drop (place_at b place) bytes)) (omega arith) ∙ ap (take 2) (drop-drop 4 (place_at b place) bytes))

-- the head and the bytes that were read, where the bank tells
pub record WasRead (bytes : List ℕ) (b : Block) (place : Place) (head into : List ℕ) : Type 0 where
  pub head_is : head ≡ piece (place_at b place) 8 bytes
  pub data_is : into ≡ data_in bytes b place

held-read : (bytes : List ℕ) (b : Block) (place : Place) (head into : List ℕ) → WasRead bytes b place head into → held_by bytes b (Some place) ≡ cond (four_at 0 head == b.size && two_at 4 head == check16 into) (Some into) None
held-read bytes b place head into read =
    let length-is : four_at 0 head ≡ kept_length bytes b place = length-read bytes head b place read.head_is in
    let check-is : two_at 4 head ≡ kept_word bytes b place = word-read bytes head b place read.head_is in
    sym (λ i. cond (length-is i == b.size && check-is i == check16 (read.data_is i)) (Some (read.data_is i)) None)

module _ {T : Type 0} (bytes : List ℕ) (b : Block) (place : Place) (head into : List ℕ) (told : T → WasRead bytes b place head into) where
  pub whole : (r : Result Unit RestoreFault) → r ≡ compared head b.size into → OnOk r (T → held_by bytes b (Some place) ≡ Some into)
  whole r e =
      subst (λ (x : Result Unit RestoreFault). OnOk x (T → held_by bytes b (Some place) ≡ Some into)) (sym e)
      (by (four_at 0 head == b.size && two_at 4 head == check16 into) (λ t. held-read bytes b place head into (told t)))
    where
      by : (t : Bool) → (T → held_by bytes b (Some place) ≡ cond t (Some into) None) → OnOk (cond t (Ok (tt {0})) (Err (Torn (four_at 0 head) (two_at 4 head) (check16 into)))) (T → held_by bytes b (Some place) ≡ Some into)
      by true h = h
      by false h = tt

  pub torn : (r : Result Unit RestoreFault) → r ≡ compared head b.size into → IfErr r (λ fault. T → TellsAt bytes b (Some place) fault)
  torn r e =
      subst (λ (x : Result Unit RestoreFault). IfErr x (λ fault. T → TellsAt bytes b (Some place) fault)) (sym e)
      (by (four_at 0 head == b.size && two_at 4 head == check16 into) (λ t. held-read bytes b place head into (told t)))
    where
      by : (t : Bool) → (T → held_by bytes b (Some place) ≡ cond t (Some into) None) → IfErr (cond t (Ok (tt {0})) (Err (Torn (four_at 0 head) (two_at 4 head) (check16 into)))) (λ fault. T → TellsAt bytes b (Some place) fault)
      by true h = tt
      by false h = λ t. (
        place,
        refl,
        record {
          no_image = h t;
          stated = length-read bytes head b place (told t).head_is;
          kept_is = word-read bytes head b place (told t).head_is;
          computed = ap check16 (told t).data_is;
        },
      )

-- a block that was read and gave no image
pub record IsUnheld (bytes : List ℕ) (slot : ℕ) (b : Block) (told : ℕ) : Type 0 where
  pub no_image : held_in bytes slot b ≡ None
  pub words_are : told ≡ words_in bytes slot b

pub unheld : (bytes : List ℕ) (slot : ℕ) (b : Block) (fault : RestoreFault) (told : ℕ) → words fault ≡ Some told → TellsTorn bytes slot b fault → IsUnheld bytes slot b told
unfolding held_in
unheld bytes slot b NoImage told is none = record {
  no_image = ap (held_by bytes b) none;
  words_are = sym (same_Some 0 told is) ∙ sym (ap (words_by bytes b) none);
}
unheld bytes slot b (Torn length kept found) told is torn = record {
  no_image = ap (held_by bytes b) torn.1 ∙ torn.2.no_image;
  words_are = sym (same_Some (kept * 65536 + found) told is) ∙ (λ i. torn.2.kept_is i * 65536 + torn.2.computed i) ∙ sym (ap (words_by bytes b) torn.1);
}
unheld bytes slot b Fault told is torn = absurd (cc is)

-- ---- the place that shows

-- the same bytes, and the same place
pub tells_alike : {B : Type 0} (g : Ghosts B) (mid old : B) (b : Block) (shown same : Option Place) (into : List ℕ) (r : Result Unit RestoreFault) → (g.tells → shown ≡ same) → (g.tells → g.now mid ≡ g.now old)
    → TellsHeld g mid b shown into r → TellsHeld g old b same into r
tells_alike g mid old b shown same into r is kept tells = record {
  whole = on_ok_weaker r (λ whole told. sym (λ i. held_by (kept told i) b (is told i)) ∙ whole told) tells.whole;
  torn =
      IfErr-weaker r _ _
      (λ fault torn told. subst (λ (bytes : List ℕ). TellsAt bytes b same fault) (kept told) (subst (λ (place : Option Place). TellsAt (g.now mid) b place fault) (is told) (torn told)))
      tells.torn;
  why = tells.why;
}

pub shown-turns : (bytes : List ℕ) (slot : ℕ) (turns : Turns) (shown : Option Place) → AreTurns bytes slot turns → shown ≡ shown_by turns.first turns.second → shown ≡ turned_in bytes slot
shown-turns bytes slot turns shown are is = is ∙ (λ i. shown_by (are.first i) (are.second i))

pub shown-turned : (bytes : List ℕ) (slot : ℕ) → is_first_version bytes ≡ false → shown_in bytes slot ≡ turned_in bytes slot
shown-turned bytes slot second = ap (λ (first : Bool). cond first (Some First) (turned_in bytes slot)) second

pub held-shown : (bytes : List ℕ) (slot : ℕ) (b : Block) (shown : Option Place) → shown ≡ shown_in bytes slot → held_by bytes b shown ≡ held_in bytes slot b
unfolding held_in
held-shown bytes slot b shown is = ap (held_by bytes b) is
