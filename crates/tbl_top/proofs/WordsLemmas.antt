-- What the words of the command line spell, and that they ask for one thing.
use Rattle.std.proofs.Common.{◌≡◌, ◌↔◌, ◌+◌, ◌<◌, ◌≤◌, List, ℕ, [], ◌∷◌, length, get_or, map, Option, Some, None, true, refl, sym, ap, subst, ◌∙◌, arith}
use Rattle.std.specs.Prelude.{codes, Result, Ok, Err, IfErr}
use Rattle.tbl_kinds.specs.Buffers.{Buffer}
use Rattle.tbl_kinds.specs.Admitted.{Admitted, all_admitted}
use Rattle.admit_lists.specs.Lists.{SpellsAdmit}
use Rattle.tbl_maker.specs.Shapes.{is_shape, shape_word}
use Rattle.tbl_maker.specs.Words.{IsNoShape}
use Rattle.tbl_maker.specs.declared.form.Form.{Form}
use Rattle.tbl_maker.proofs.Shapes.{shape_unique}
use Rattle.tbl_top.specs.Words.{SpellsSession, Spells, Asks, AsksWithShape, HasThreads, given_bytes}
use Rattle.tbl_top.specs.declared.words.Word.{Word}
use Rattle.tbl_top.specs.declared.words.Word.TheVariants.{Play, Crew, Watch, Store, Drill, Make, Describe}
use Rattle.tbl_top.specs.declared.words.Telling.{Telling}
use Rattle.tbl_top.specs.declared.words.Telling.TheVariants.{Transcript, Report}

-- one word names no list
one_admits_all : (word : List ℕ) (requested : Word) (admit : Admitted) → Spells (word ∷ []) requested admit → admit ≡ all_admitted
one_admits_all word Play admit spells = spells.1
one_admits_all word Crew admit spells = spells.1
one_admits_all word Watch admit spells = spells.1
one_admits_all word Store admit spells = spells.1
one_admits_all word (Drill seed rounds) admit spells = spells.3
one_admits_all word Make admit spells = spells.1
one_admits_all word (Describe shape) admit spells = spells.2

-- nor do three
three_admit_all : (first second third : List ℕ) (requested : Word) (admit : Admitted) → Spells (first ∷ second ∷ third ∷ []) requested admit → admit ≡ all_admitted
three_admit_all first second third Play admit spells = absurd spells
three_admit_all first second third Crew admit spells = absurd spells
three_admit_all first second third Watch admit spells = spells.1
three_admit_all first second third Store admit spells = spells.1
three_admit_all first second third (Drill seed rounds) admit spells = spells.3
three_admit_all first second third Make admit spells = spells.1
three_admit_all first second third (Describe shape) admit spells = spells.2

-- so what they spell is what they spell if all are admitted
admitting : (words : List (List ℕ)) (found : Option Word) → ((requested : Word) → (found ≡ Some requested) ↔ Spells words requested all_admitted)
    → ((requested : Word) (admit : Admitted) → Spells words requested admit → admit ≡ all_admitted)
    → (requested : Word) (admit : Admitted) → ((found ≡ Some requested) × (admit ≡ all_admitted)) ↔ Spells words requested admit
admitting words found all only requested admit = (
  λ both. subst (Spells words requested) (sym both.1) ((all requested).0 both.0),
  λ spells. let none = only requested admit spells in ((all requested).1 (subst (Spells words requested) none spells), none),
)

pub of_one : (word : List ℕ) (found : Option Word) → ((requested : Word) → (found ≡ Some requested) ↔ Spells (word ∷ []) requested all_admitted)
    → (requested : Word) (admit : Admitted) → ((found ≡ Some requested) × (admit ≡ all_admitted)) ↔ Spells (word ∷ []) requested admit
of_one word found all = admitting (word ∷ []) found all (one_admits_all word)

pub of_three : (first second third : List ℕ) (found : Option Word) → ((requested : Word) → (found ≡ Some requested) ↔ Spells (first ∷ second ∷ third ∷ []) requested all_admitted)
    → (requested : Word) (admit : Admitted) → ((found ≡ Some requested) × (admit ≡ all_admitted)) ↔ Spells (first ∷ second ∷ third ∷ []) requested admit
of_three first second third found all = admitting (first ∷ second ∷ third ∷ []) found all (three_admit_all first second third)

-- ---- sessions under lists

abbrev pub CommandWord : Type 0
CommandWord = Word × Admitted

-- what is there, or else this
there_or : {X : Type 0} → X → Option X → X
there_or other None = other
there_or other (Some x) = x

abbrev pub with_lists_of : Word → Admitted → Option CommandWord
with_lists_of named admit = Some (named, admit)

module _ (word more spacecraft processors : List ℕ) (lists : Admitted) (found : Option Admitted) (is : found ≡ Some lists)
    (spelled : (admit : Admitted) → (found ≡ Some admit) ↔ SpellsAdmit spacecraft processors admit) (with_lists : more ≡ codes "admit") where
  found_only : (admit : Admitted) → SpellsAdmit spacecraft processors admit → lists ≡ admit
  unfolding there_or
  found_only admit spells = ap (there_or lists) (sym is ∙ (spelled admit).1 spells)

  -- if the words spell this under the lists, they spell nothing else
  only : (named : Word) → Spells (word ∷ more ∷ spacecraft ∷ processors ∷ []) named lists → (requested : Word) (admit : Admitted) → ◌≡◌ {A = Option CommandWord} (Some (named, lists)) (Some (requested, admit))
      → Spells (word ∷ more ∷ spacecraft ∷ processors ∷ []) requested admit
  unfolding there_or
  only named spells requested admit same = subst (λ (x : CommandWord). Spells (word ∷ more ∷ spacecraft ∷ processors ∷ []) x.0 x.1) (ap (there_or (named, lists)) same) spells

  pub of_play : word ≡ codes "play" → (requested : Word) (admit : Admitted) → (◌≡◌ {A = Option CommandWord} (Some (Play, lists)) (Some (requested, admit))) ↔ Spells (word ∷ more ∷ spacecraft ∷ processors ∷ []) requested admit
  of_play play requested admit = (only Play (play, with_lists, (spelled lists).0 is) requested admit, back requested admit) where
    back : (requested : Word) (admit : Admitted) → Spells (word ∷ more ∷ spacecraft ∷ processors ∷ []) requested admit → ◌≡◌ {A = Option CommandWord} (Some (Play, lists)) (Some (requested, admit))
    back Play admit spells = ap (with_lists_of Play) (found_only admit spells.2)
    back Crew admit spells = let first : 0x70 ≡ 0x63 = ap (λ (bytes : List ℕ). get_or bytes 0 0) (sym play ∙ spells.0) in absurd (omega (arith, first))
    back Watch admit spells = let lengths = ap length spells.0 in absurd (omega (arith, lengths))
    back Store admit spells = let lengths = ap length spells.0 in absurd (omega (arith, lengths))
    back (Drill seed rounds) admit spells = let lengths = ap length spells.0 in absurd (omega (arith, lengths))
    back Make admit spells = let lengths = ap length spells.0 in absurd (omega (arith, lengths))
    back (Describe shape) admit spells = let lengths = ap length spells.0 in absurd (omega (arith, lengths))

  pub of_crew : word ≡ codes "crew" → (requested : Word) (admit : Admitted) → (◌≡◌ {A = Option CommandWord} (Some (Crew, lists)) (Some (requested, admit))) ↔ Spells (word ∷ more ∷ spacecraft ∷ processors ∷ []) requested admit
  of_crew crew requested admit = (only Crew (crew, with_lists, (spelled lists).0 is) requested admit, back requested admit) where
    back : (requested : Word) (admit : Admitted) → Spells (word ∷ more ∷ spacecraft ∷ processors ∷ []) requested admit → ◌≡◌ {A = Option CommandWord} (Some (Crew, lists)) (Some (requested, admit))
    back Play admit spells = let first : 0x63 ≡ 0x70 = ap (λ (bytes : List ℕ). get_or bytes 0 0) (sym crew ∙ spells.0) in absurd (omega (arith, first))
    back Crew admit spells = ap (with_lists_of Crew) (found_only admit spells.2)
    back Watch admit spells = let lengths = ap length spells.0 in absurd (omega (arith, lengths))
    back Store admit spells = let lengths = ap length spells.0 in absurd (omega (arith, lengths))
    back (Drill seed rounds) admit spells = let lengths = ap length spells.0 in absurd (omega (arith, lengths))
    back Make admit spells = let lengths = ap length spells.0 in absurd (omega (arith, lengths))
    back (Describe shape) admit spells = let lengths = ap length spells.0 in absurd (omega (arith, lengths))

-- if the last two are no lists, nothing is spelled
pub of_no_lists : (word more spacecraft processors : List ℕ) (found : Option Admitted) → found ≡ None → ((admit : Admitted) → (found ≡ Some admit) ↔ SpellsAdmit spacecraft processors admit)
    → (requested : Word) (admit : Admitted) → Spells (word ∷ more ∷ spacecraft ∷ processors ∷ []) requested admit → ◌≡◌ {A = Option CommandWord} None (Some (requested, admit))
of_no_lists word more spacecraft processors found is spelled Play admit spells = absurd (cc (is, (spelled admit).1 spells.2))
of_no_lists word more spacecraft processors found is spelled Crew admit spells = absurd (cc (is, (spelled admit).1 spells.2))
of_no_lists word more spacecraft processors found is spelled Watch admit spells = let lengths = ap length spells.0 in absurd (omega (arith, lengths))
of_no_lists word more spacecraft processors found is spelled Store admit spells = let lengths = ap length spells.0 in absurd (omega (arith, lengths))
of_no_lists word more spacecraft processors found is spelled (Drill seed rounds) admit spells = let lengths = ap length spells.0 in absurd (omega (arith, lengths))
of_no_lists word more spacecraft processors found is spelled Make admit spells = let lengths = ap length spells.0 in absurd (omega (arith, lengths))
of_no_lists word more spacecraft processors found is spelled (Describe shape) admit spells = let lengths = ap length spells.0 in absurd (omega (arith, lengths))

-- ---- two words

-- what two words spell: to describe by a shape
pub two_spell : (first second : List ℕ) (requested : Word) (admit : Admitted) → Spells (first ∷ second ∷ []) requested admit
    → (first ≡ codes "describe") × (shape : List Form) × (requested ≡ Describe shape) × (is_shape shape ≡ true) × (second ≡ shape_word shape) × (admit ≡ all_admitted)
two_spell first second Play admit spells = absurd spells
two_spell first second Crew admit spells = absurd spells
two_spell first second Watch admit spells = let lengths = ap length spells.0 in absurd (omega (arith, lengths))
two_spell first second Store admit spells = let lengths = ap length spells.0 in absurd (omega (arith, lengths))
two_spell first second (Drill seed rounds) admit spells = let lengths = ap length spells.0 in absurd (omega (arith, lengths))
two_spell first second Make admit spells = let lengths = ap length spells.0 in absurd (omega (arith, lengths))
two_spell first second (Describe shape) admit spells =
    let named : first ≡ codes "describe" = ap (λ (words : List (List ℕ)). get_or words 0 []) spells.0 in
    let shaped : second ≡ shape_word shape = ap (λ (words : List (List ℕ)). get_or words 1 []) spells.0 in
    (named, shape, refl, spells.1, shaped, spells.2)

-- a list of one
pub one_item : (words : List Buffer) (first : Buffer) → 1 ≤ length words → length words < 2 → first ≡ get_or words 0 first → words ≡ first ∷ []
one_item [] first least most is = absurd (omega (arith, least))
one_item (a ∷ []) first least most is = cc
one_item (a ∷ b ∷ words) first least most is = absurd (omega (arith, most))

-- a list of four
pub four_items : (words : List Buffer) (first second third fourth : Buffer) → 4 ≤ length words → length words < 5 → first ≡ get_or words 0 first → second ≡ get_or words 1 second → third ≡ get_or words 2 third
    → fourth ≡ get_or words 3 fourth → words ≡ first ∷ second ∷ third ∷ fourth ∷ []
four_items [] first second third fourth least most e f g h = absurd (omega (arith, least))
four_items (a ∷ []) first second third fourth least most e f g h = absurd (omega (arith, least))
four_items (a ∷ b ∷ []) first second third fourth least most e f g h = absurd (omega (arith, least))
four_items (a ∷ b ∷ c ∷ []) first second third fourth least most e f g h = absurd (omega (arith, least))
four_items (a ∷ b ∷ c ∷ d ∷ []) first second third fourth least most e f g h = cc
four_items (a ∷ b ∷ c ∷ d ∷ x ∷ words) first second third fourth least most e f g h = absurd (omega (arith, most))

-- a list of two
pub two_items : (words : List Buffer) (first second : Buffer) → 2 ≤ length words → length words < 3 → first ≡ get_or words 0 first → second ≡ get_or words 1 second → words ≡ first ∷ second ∷ []
two_items [] first second least most is also = absurd (omega (arith, least))
two_items (a ∷ []) first second least most is also = absurd (omega (arith, least))
two_items (a ∷ b ∷ []) first second least most is also = cc
two_items (a ∷ b ∷ c ∷ words) first second least most is also = absurd (omega (arith, most))

-- `describe` and a word
pub with_shape : (words : List Buffer) (first second : Buffer) → words ≡ first ∷ second ∷ [] → first.list ≡ codes "describe" → AsksWithShape words
with_shape words first second are named = (second.list, ap (map given_bytes) are ∙ ap (λ (name : List ℕ). name ∷ second.list ∷ []) named)

-- what follows of an error
pub on_err : {T E : Type 0} (r : Result T E) (P Q : Type 0) → (P → Q) → IfErr r (λ _. P) → IfErr r (λ _. Q)
on_err (Ok x) P Q then none = none
on_err (Err e) P Q then holds = then holds

-- another word than `describe` spells nothing
pub of_no_describe : (first second : List ℕ) → (first ≡ codes "describe" → ⊥) → (requested : Word) (admit : Admitted) → (◌≡◌ {A = Option CommandWord} None (Some (requested, admit))) ↔ Spells (first ∷ second ∷ []) requested admit
of_no_describe first second other requested admit = (λ e. absurd (cc), λ spells. absurd (other (two_spell first second requested admit spells).0))

-- nor does it with a word that is no shape
pub of_no_shape : (first second : List ℕ) → IsNoShape second → (requested : Word) (admit : Admitted) → (◌≡◌ {A = Option CommandWord} None (Some (requested, admit))) ↔ Spells (first ∷ second ∷ []) requested admit
of_no_shape first second none requested admit = (λ e. absurd (cc), λ spells. let found = two_spell first second requested admit spells in absurd (none found.1 found.3 found.4))

pub of_shape : (first second : List ℕ) (shape : List Form) → first ≡ codes "describe" → second ≡ shape_word shape → is_shape shape ≡ true
    → (requested : Word) (admit : Admitted) → (◌≡◌ {A = Option CommandWord} (Some (Describe shape, all_admitted)) (Some (requested, admit))) ↔ Spells (first ∷ second ∷ []) requested admit
unfolding there_or
of_shape first second shape named shaped right requested admit = (forth, back) where
  spelled : Spells (first ∷ second ∷ []) (Describe shape) all_admitted
  spelled = (λ i. named i ∷ shaped i ∷ [], right, refl)

  forth : ◌≡◌ {A = Option CommandWord} (Some (Describe shape, all_admitted)) (Some (requested, admit)) → Spells (first ∷ second ∷ []) requested admit
  forth same = subst (λ (x : CommandWord). Spells (first ∷ second ∷ []) x.0 x.1) (ap (there_or (Describe shape, all_admitted)) same) spelled

  back : Spells (first ∷ second ∷ []) requested admit → ◌≡◌ {A = Option CommandWord} (Some (Describe shape, all_admitted)) (Some (requested, admit))
  back spells =
      let found = two_spell first second requested admit spells in
      let same : shape ≡ found.1 = shape_unique shape found.1 right found.3 (sym shaped ∙ found.4) in
      let asked : Describe shape ≡ requested = ap Describe same ∙ sym found.2 in
      λ i. Some (asked i, sym found.5 i)

-- ---- what was found

-- this word was found with these lists, and nothing else is asked for
module _ (words : List Buffer) (found : Word) (lists : Admitted) (result : Option CommandWord) (is : ◌≡◌ {A = Option CommandWord} result (Some (found, lists)))
    (told : (requested : Word) (admit : Admitted) → (◌≡◌ {A = Option CommandWord} result (Some (requested, admit))) ↔ Asks words requested admit) where
  is_found : (word : Word) (admit : Admitted) → Asks words word admit → found ≡ word
  unfolding there_or
  is_found word admit asks = ap (λ (o : Option CommandWord). (there_or (found, lists) o).0) (sym is ∙ (told word admit).1 asks)

  are_found : (word : Word) (admit : Admitted) → Asks words word admit → lists ≡ admit
  unfolding there_or
  are_found word admit asks = ap (λ (o : Option CommandWord). (there_or (found, lists) o).1) (sym is ∙ (told word admit).1 asks)

  -- so what holds of both holds of what is asked for
  pub of_found : (P : Word → Admitted → Type 0) (word : Word) (admit : Admitted) → Asks words word admit → P found lists → P word admit
  of_found P word admit asks holds = subst (λ (w : Word). P w admit) (is_found word admit asks) (subst (λ (a : Admitted). P found a) (are_found word admit asks) holds)

  pub found_asked : Asks words found lists
  found_asked = (told found lists).0 is

-- a drill that is asked for has as many records as a session may have, at most
pub drill_rounds : (words : List Buffer) (word : Word) (admit : Admitted) → Asks words word admit → (seed rounds : ℕ) → word ≡ Drill seed rounds → 9 + rounds ≤ 32768
drill_rounds words word admit asks seed rounds is =
    let spelled : Asks words (Drill seed rounds) admit = subst (λ (w : Word). Asks words w admit) is asks in
    omega (arith, spelled.2)

-- ---- a session with a thread for each actor

-- the first letter of the first word
abbrev letter_of : List (List ℕ) → ℕ
letter_of words = get_or (get_or words 0 []) 0 0

session_letter : (name : List ℕ) (words : List (List ℕ)) (admit : Admitted) → SpellsSession name words admit → letter_of words ≡ get_or name 0 0
session_letter name (word ∷ []) admit spells = ap (λ (bytes : List ℕ). get_or bytes 0 0) spells.0
session_letter name (word ∷ more ∷ spacecraft ∷ processors ∷ []) admit spells = ap (λ (bytes : List ℕ). get_or bytes 0 0) spells.0
session_letter name words admit spells = absurd spells

abbrev first_letter : Word → ℕ
first_letter Play = 0x70
first_letter Crew = 0x63
first_letter Watch = 0x77
first_letter Store = 0x73
first_letter (Drill seed rounds) = 0x64
first_letter Make = 0x6d
first_letter (Describe shape) = 0x64

spelled_letter : (words : List (List ℕ)) (word : Word) (admit : Admitted) → Spells words word admit → letter_of words ≡ first_letter word
spelled_letter words Play admit spells = session_letter (codes "play") words admit spells
spelled_letter words Crew admit spells = session_letter (codes "crew") words admit spells
spelled_letter words Watch admit spells = ap letter_of spells.0
spelled_letter words Store admit spells = ap letter_of spells.0
spelled_letter words (Drill seed rounds) admit spells = ap letter_of spells.0
spelled_letter words Make admit spells = ap letter_of spells.0
spelled_letter words (Describe shape) admit spells = ap letter_of spells.0

-- no other word has these letters
crew_by_letter : (word : Word) → first_letter word ≡ 0x63 → word ≡ Crew
crew_by_letter Play is = absurd (omega (arith, is))
crew_by_letter Crew is = refl
crew_by_letter Watch is = absurd (omega (arith, is))
crew_by_letter Store is = absurd (omega (arith, is))
crew_by_letter (Drill seed rounds) is = absurd (omega (arith, is))
crew_by_letter Make is = absurd (omega (arith, is))
crew_by_letter (Describe shape) is = absurd (omega (arith, is))

watch_by_letter : (word : Word) → first_letter word ≡ 0x77 → word ≡ Watch
watch_by_letter Play is = absurd (omega (arith, is))
watch_by_letter Crew is = absurd (omega (arith, is))
watch_by_letter Watch is = refl
watch_by_letter Store is = absurd (omega (arith, is))
watch_by_letter (Drill seed rounds) is = absurd (omega (arith, is))
watch_by_letter Make is = absurd (omega (arith, is))
watch_by_letter (Describe shape) is = absurd (omega (arith, is))

-- if the words ask for one, they ask for nothing else
pub threads_alone : (words : List (List ℕ)) (named : Word) (lists : Admitted) → HasThreads named → Spells words named lists → (word : Word) (admit : Admitted) → Spells words word admit → word ≡ named
threads_alone words Crew lists threads crew word admit spells = crew_by_letter word (sym (spelled_letter words word admit spells) ∙ spelled_letter words Crew lists crew)
threads_alone words Watch lists threads watch word admit spells = watch_by_letter word (sym (spelled_letter words word admit spells) ∙ spelled_letter words Watch lists watch)
threads_alone words Play lists threads named word admit spells = absurd threads
threads_alone words Store lists threads named word admit spells = absurd threads
threads_alone words (Drill seed rounds) lists threads named word admit spells = absurd threads
threads_alone words Make lists threads named word admit spells = absurd threads
threads_alone words (Describe shape) lists threads named word admit spells = absurd threads

abbrev pub Told : Type 0
Told = Telling × Admitted

-- this is written of such a session under these lists, so all that is asked for is that one
module _ (words : List Buffer) (named : Word) (threads : HasThreads named) (telling : Telling) (found : Option Told) (lists : Admitted) (is : ◌≡◌ {A = Option Told} found (Some (telling, lists)))
    (told : (admit : Admitted) → (◌≡◌ {A = Option Told} found (Some (telling, admit))) ↔ Asks words named admit) where
  pub threads_asked : Asks words named lists
  threads_asked = (told lists).0 is

  are_told : (admit : Admitted) → Asks words named admit → lists ≡ admit
  unfolding there_or
  are_told admit asks = ap (λ (o : Option Told). (there_or (telling, lists) o).1) (sym is ∙ (told admit).1 asks)

  -- what holds of it holds of what is asked for
  pub of_threads : (P : Word → Admitted → Type 0) (word : Word) (admit : Admitted) → Asks words word admit → P named lists → P word admit
  of_threads P word admit asks holds =
      let same : word ≡ named = threads_alone (map given_bytes words) named lists threads threads_asked word admit asks in
      let also : Asks words named admit = subst (λ (w : Word). Asks words w admit) same asks in
      subst (λ (w : Word). P w admit) (sym same) (subst (P named) (are_told admit also) holds)

-- nothing is written of one, so none is asked for
pub no_threads : (words : List Buffer) (found : Option Told) → found ≡ None
    → ((admit : Admitted) → (◌≡◌ {A = Option Told} found (Some (Transcript, admit))) ↔ Asks words Crew admit) → ((admit : Admitted) → (◌≡◌ {A = Option Told} found (Some (Report, admit))) ↔ Asks words Watch admit)
    → (word : Word) (admit : Admitted) → Asks words word admit → ¬ HasThreads word
no_threads words found none crew watch Crew admit asks threads = let some = (crew admit).1 asks in absurd (cc (none, some))
no_threads words found none crew watch Watch admit asks threads = let some = (watch admit).1 asks in absurd (cc (none, some))
no_threads words found none crew watch Play admit asks threads = threads
no_threads words found none crew watch Store admit asks threads = threads
no_threads words found none crew watch (Drill seed rounds) admit asks threads = threads
no_threads words found none crew watch Make admit asks threads = threads
no_threads words found none crew watch (Describe shape) admit asks threads = threads
