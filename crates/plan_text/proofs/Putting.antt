-- Words that were written.
use Rattle.std.proofs.Common.{◌≡◌, ℕ, ℤ, pos, inl, inr, List, ◌++◌, Result, Ok, Err, Some, slice_get, get_or, refl, sym, ◌∙◌, ap, subst, codes, w32, to_z, of_z, arith}
use Rattle.std.proofs.lemmas.Int.{ints}
use Rattle.std.specs.Prelude.{OnOk}
use Rattle.std.specs.Fmt.{signed_decimal}
use Rattle.eu_name.specs.declared.name.Part.TheVariants.{Start}
use Rattle.eu_name.specs.declared.name.TokenName.{TokenName}
use Rattle.eu_name.specs.declared.name.VarName.TheVariants as variables
use Rattle.eu_name.specs.declared.name_text.NameText.{NameText}
use Rattle.eu_name.specs.Spelling.{name_spelling}
use Rattle.model_core.specs.declared.class.Object.{Object}
use Rattle.model_core.specs.declared.model.Model.{Model}
use Rattle.model_core.specs.declared.variable.ValueKind.{ValueKind}
use Rattle.model_core.specs.declared.variable.ValueKind.TheVariants as kinds
use Rattle.model_core.specs.Kinds.{IsValueOf, IsObject, IsMemberOf}
use Rattle.model_core.specs.Lawful.{IsLawful, IsLawfulEnum, IsLawfulObject}
use Rattle.model_core.specs.Names.{NamesToken}
use Rattle.model_core.proofs.Items.{item_all, item_is, item_within}
use Rattle.model_core.proofs.WellFormed.{token_text_well_formed}
use Rattle.eu_name.specs.Word.{IsName}
use Rattle.plan_text.specs.Words.{IsPaused, IsUnbroken}
use Rattle.plan_text.specs.Subjects.{IsNameOf}
use Rattle.plan_text.specs.Values.{OneValue, decimal_text, IsValueText, IsMemberNamed}
use Rattle.plan_text.specs.Found.{Exactly}
use Rattle.plan_text.specs.Lines.{OnePart}
use Rattle.plan_text.specs.Writing.{Adds}
use Rattle.plan_text.proofs.Adding.{adds_word, adds_then}
use Rattle.plan_text.proofs.Unbroken.{name_unbroken, object_unbroken, number_unbroken, decimal_unbroken, unbroken_from}

kept_member : (model : Model) (number : ℕ) (value : ℤ) → IsLawful model → IsMemberOf model number value → to_z w32 (of_z w32 value) ≡ value
kept_member model number value lawful is =
    omega (arith, ints, is.is_place, item_within is.found.members is.place is.member is.is_member, (item_all IsLawfulEnum model.enums number is.found lawful.enums is.is_enum).few)

kept_object : (model : Model) (value : ℤ) → IsLawful model → (object : Object) × IsObject model value object → to_z w32 (of_z w32 value) ≡ value
kept_object model value lawful (object, (place, is_place, is_object)) = omega (arith, ints, is_place, item_within model.objects place object is_object, lawful.few_objects)

-- a name of the token
pub token_put : {A E : Type 0} (model : Model) (token : TokenName) (text : NameText) (gap old new : List ℕ) (r : Result A E) → IsLawful model → NamesToken model text token → OnOk r (new ≡ old ++ (gap ++ name_spelling text))
    → OnOk r ((word : List ℕ) × ((new ≡ old ++ (gap ++ word)) × IsNameOf model (variables.Token token Start) word))
token_put model token text gap old new (Ok x) lawful names put =
    (name_spelling text, (put, record { text = text; spells = (token_text_well_formed model text token lawful names, refl); names = names }))
token_put model token text gap old new (Err e) lawful names put = tt

-- how the value is written stands behind the gap
abbrev pub Shows : Model → ValueKind → ℤ → List ℕ → List ℕ → List ℕ → Type 0
Shows model kind value gap old new = (word : List ℕ) × ((new ≡ old ++ (gap ++ word)) × IsValueText model kind value word)

shown_put : {A E : Type 0} (model : Model) (kind is_kind : ValueKind) (value : ℤ) (word gap old new : List ℕ) (r : Result A E) → kind ≡ is_kind → IsValueText model is_kind value word
    → OnOk r (new ≡ old ++ (gap ++ word)) → OnOk r (Shows model kind value gap old new)
shown_put model kind is_kind value word gap old new (Ok x) is says put = (word, (put, subst (λ k. IsValueText model k value word) (sym is) says))
shown_put model kind is_kind value word gap old new (Err e) is says put = tt

pub number_put : {A E : Type 0} (model : Model) (kind : ValueKind) (value written : ℤ) (gap old new : List ℕ) (r : Result A E) → written ≡ value → kind ≡ kinds.Int → IsValueOf model kind value
    → OnOk r (new ≡ old ++ (gap ++ signed_decimal written)) → OnOk r (Shows model kind value gap old new)
number_put model kind value written gap old new r same is of put =
    let value_of = subst (λ k. IsValueOf model k value) is of in
    shown_put model kind kinds.Int value (signed_decimal value) gap old new r is (value_of, refl) (subst (λ v. OnOk r (new ≡ old ++ (gap ++ signed_decimal v))) same put)

pub decimal_put : {A E : Type 0} (model : Model) (kind : ValueKind) (value written : ℤ) (gap old new : List ℕ) (r : Result A E) → written ≡ value → kind ≡ kinds.Float → IsValueOf model kind value
    → OnOk r (new ≡ old ++ (gap ++ decimal_text written)) → OnOk r (Shows model kind value gap old new)
decimal_put model kind value written gap old new r same is of put =
    let value_of = subst (λ k. IsValueOf model k value) is of in
    shown_put model kind kinds.Float value (decimal_text value) gap old new r is (value_of, refl) (subst (λ v. OnOk r (new ≡ old ++ (gap ++ decimal_text v))) same put)

pub truth_put : {A E : Type 0} (model : Model) (kind : ValueKind) (value written : ℤ) (text gap old new : List ℕ) (r : Result A E) → written ≡ value → kind ≡ kinds.Bool → IsValueOf model kind value
    → (written ≡ pos 0 → text ≡ codes "false") → (written ≡ pos 1 → text ≡ codes "true") → OnOk r (new ≡ old ++ (gap ++ text)) → OnOk r (Shows model kind value gap old new)
truth_put model kind value written text gap old new r same is of zero one put =
    shown_put model kind kinds.Bool value text gap old new r is
    (elim (subst (λ k. IsValueOf model k value) is of) [ inl none ↦ inl (none, zero (same ∙ none)) | inr single ↦ inr (single, one (same ∙ single)) ]) put

pub member_unbroken : (model : Model) (number : ℕ) (value : ℤ) (word : List ℕ) → IsLawful model → IsMemberNamed model number value word → IsUnbroken word
member_unbroken model number value word lawful is =
    name_unbroken word (item_all IsName is.found.members is.place word (item_all IsLawfulEnum model.enums number is.found lawful.enums is.is_enum).members is.is_member)

pub object_name_unbroken : (model : Model) (value : ℤ) (word : List ℕ) → IsLawful model → (object : Object) × (IsObject model value object × (object.name ≡ word)) → IsUnbroken word
object_name_unbroken model value word lawful (object, ((place, is_place, is_object), named)) =
    subst IsUnbroken named (object_unbroken object.name (item_all (IsLawfulObject model) model.objects place object lawful.objects is_object).name)

value_unbroken : (model : Model) (kind : ValueKind) (value : ℤ) (word : List ℕ) → IsLawful model → IsValueText model kind value word → IsUnbroken word
value_unbroken model kinds.Int value word lawful (is, same) = subst IsUnbroken (sym same) (number_unbroken value is)
value_unbroken model kinds.Float value word lawful (is, same) = subst IsUnbroken (sym same) (decimal_unbroken value is)
value_unbroken model kinds.Bool value word lawful (inl (is, same)) = subst IsUnbroken (sym same) (unbroken_from (codes "false") (omega arith) (refl, (refl, (refl, (refl, (refl, tt))))))
value_unbroken model kinds.Bool value word lawful (inr (is, same)) = subst IsUnbroken (sym same) (unbroken_from (codes "true") (omega arith) (refl, (refl, (refl, (refl, tt)))))
value_unbroken model (kinds.Enum number) value word lawful is = member_unbroken model number value word lawful is
value_unbroken model kinds.Object value word lawful is = object_name_unbroken model value word lawful is

-- a word of which a reader gets the value
pub value_put : {A E : Type 0} (model : Model) (kind : ValueKind) (value written : ℤ) (old new : List ℕ) (r : Result A E) → written ≡ value → IsLawful model → OnOk r (Shows model kind written (codes " ") old new)
    → OnOk r (Adds IsPaused (OneValue model kind) value old new)
value_put model kind value written old new (Ok x) same lawful (word, (put, is)) =
    let says = subst (λ v. IsValueText model kind v word) same is in
    adds_word 32 word old new (IsValueText model kind) _ value refl (value_unbroken model kind value word lawful says) says put
value_put model kind value written old new (Err e) same lawful put = tt

-- the item that the code finds at a place
pub found_item : {X : Type 0} (xs items : List X) (k : ℕ) (x found : X) → items ≡ xs → x ≡ get_or items k x → slice_get xs k ≡ Some found → found ≡ x
found_item xs items k x found same is at = sym (is ∙ (ap (λ l. get_or l k x) same ∙ item_is xs k x found at))

-- a part, behind its label
pub part_put : {A E : Type 0} (model : Model) (label : List ℕ) (kind : ValueKind) (value written : ℤ) (old mid new : List ℕ) (r : Result A E) → written ≡ value → IsUnbroken label → mid ≡ old ++ (codes " " ++ label)
    → OnOk r (Adds IsPaused (OneValue model kind) written mid new) → OnOk r (Adds IsPaused (OnePart model label kind) value old new)
part_put model label kind value written old mid new (Ok x) same whole put adds =
    adds_then IsPaused (Exactly (codes " ") label) (λ said. OneValue model kind) tt value old mid new (adds_word 32 label old mid (λ (said : Unit {0}) word. word ≡ label) _ tt refl whole refl put)
    (subst (λ v. Adds IsPaused (OneValue model kind) v mid new) same adds)
part_put model label kind value written old mid new (Err e) same whole put adds = tt

pub member_text_put : {A E : Type 0} (model : Model) (kind : ValueKind) (number : ℕ) (value written : ℤ) (word gap old new : List ℕ) (r : Result A E) → written ≡ value → kind ≡ kinds.Enum number
    → IsMemberNamed model number written word → OnOk r (new ≡ old ++ (gap ++ word)) → OnOk r (Shows model kind value gap old new)
member_text_put model kind number value written word gap old new r same is named put =
    shown_put model kind (kinds.Enum number) value word gap old new r is (subst (λ v. IsMemberNamed model number v word) same named) put

pub object_text_put : {A E : Type 0} (model : Model) (kind : ValueKind) (value written : ℤ) (word gap old new : List ℕ) (r : Result A E) → written ≡ value → kind ≡ kinds.Object
    → (object : Object) × (IsObject model written object × (object.name ≡ word)) → OnOk r (new ≡ old ++ (gap ++ word)) → OnOk r (Shows model kind value gap old new)
object_text_put model kind value written word gap old new r same is named put =
    shown_put model kind kinds.Object value word gap old new r is (subst (λ v. (object : Object) × (IsObject model v object × (object.name ≡ word))) same named) put

pub member_of : (model : Model) (kind : ValueKind) (number : ℕ) (value : ℤ) → IsLawful model → kind ≡ kinds.Enum number → IsValueOf model kind value → IsMemberOf model number (to_z w32 (of_z w32 value))
member_of model kind number value lawful is of =
    let here = subst (λ k. IsValueOf model k value) is of in
    subst (IsMemberOf model number) (sym (kept_member model number value lawful here)) here

pub object_of : (model : Model) (kind : ValueKind) (value : ℤ) → IsLawful model → kind ≡ kinds.Object → IsValueOf model kind value → (object : Object) × IsObject model (to_z w32 (of_z w32 value)) object
object_of model kind value lawful is of =
    let here = subst (λ k. IsValueOf model k value) is of in
    subst (λ v. (object : Object) × IsObject model v object) (sym (kept_object model value lawful here)) here
