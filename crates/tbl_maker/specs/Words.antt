-- What the parts of reading a shape find.
use Rattle.std.specs.Prelude.{◌≡◌, ℕ, ◌+◌, ◌≤◌, List, [], ◌∷◌, ◌++◌, true, Option, Result, IfOk, IfSome, IfNone}
use Rattle.tbl_maker.specs.Types.{sized_word}
use Rattle.tbl_maker.specs.Shapes.{is_type, is_form, form_size, form_word, is_shape, shape_word}
use Rattle.tbl_maker.specs.declared.field_type.FieldType.{FieldType}
use Rattle.tbl_maker.specs.declared.form.Form.{Form}

abbrev pub IsNoType : List ℕ → Type 0
IsNoType word = (kind : FieldType) → is_type kind ≡ true → word ≡ sized_word kind → ⊥

abbrev pub IsNoForm : List ℕ → Type 0
IsNoForm word = (form : Form) → is_form form ≡ true → word ≡ form_word form → ⊥

-- the form that has this word, of which the room is left
pub record AddsForm (word : List ℕ) (old new : List Form) (room left : ℕ) : Type 0 where
  pub form : Form
  pub is_form : is_form form ≡ true
  pub word_is : word ≡ form_word form
  pub forms_are : new ≡ old ++ form ∷ []
  pub left_is : left + form_size form ≡ room

-- no form has this word and fits the room
abbrev pub AddsNoForm : List ℕ → ℕ → Type 0
AddsNoForm word room = (form : Form) → is_form form ≡ true → word ≡ form_word form → form_size form ≤ room → ⊥

abbrev pub IsNoShape : List ℕ → Type 0
IsNoShape word = (shape : List Form) → is_shape shape ≡ true → word ≡ shape_word shape → ⊥

-- the form of this word is put last, and the room that is left told; or there is none
pub record AddsFormOr {E : Type 0} (word : List ℕ) (old new : List Form) (room : ℕ) (result : Result (Option ℕ) E) : Type 0 where
  pub some : IfOk result (λ found. IfSome found (λ left. AddsForm word old new room left))
  pub none : IfOk result (λ found. IfNone found (AddsNoForm word room))

-- the shape that has this word is read, or there is none
pub record ReadsShape {E : Type 0} (word : List ℕ) (result : Result (Option (List Form)) E) : Type 0 where
  pub some : IfOk result (λ found. IfSome found (λ shape. word ≡ shape_word shape))
  pub shape : IfOk result (λ found. IfSome found (λ shape. is_shape shape ≡ true))
  pub none : IfOk result (λ found. IfNone found (IsNoShape word))
