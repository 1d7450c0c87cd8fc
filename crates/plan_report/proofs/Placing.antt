-- Names that were written.
use Rattle.std.proofs.Common.{◌≡◌, ℕ, ℤ, false, List, [], ◌++◌, Result, Ok, Err, Some, slice_get, get_or, refl, sym, ◌∙◌, ap, subst, codes, append_assoc, w32, to_z, of_z, arith}
use Rattle.std.proofs.lemmas.Int.{ints}
use Rattle.std.specs.Prelude.{OnOk}
use Rattle.std.specs.Fmt.{decimal, signed_decimal}
use Rattle.eu_name.specs.declared.name.Step.{Step}
use Rattle.eu_name.specs.declared.name.TokenName.{TokenName}
use Rattle.eu_name.specs.declared.name.VarName.{VarName}
use Rattle.eu_name.specs.declared.name.VarName.TheVariants as variables
use Rattle.eu_name.specs.declared.name_text.NameText.{NameText}
use Rattle.eu_name.specs.Spelling.{name_spelling}
use Rattle.model_core.specs.declared.class.Object.{Object}
use Rattle.model_core.specs.declared.model.Model.{Model}
use Rattle.model_core.specs.declared.model.Root.{Root}
use Rattle.model_core.specs.declared.variable.Base.{Base}
use Rattle.model_core.specs.Lawful.{IsLawful, IsToken}
use Rattle.model_core.specs.Names.{NamesVariable}
use Rattle.model_core.specs.Tokens.{IsRoot, root_token, slot_token, slot_of}
use Rattle.model_core.specs.Variables.{HasBase}
use Rattle.model_core.proofs.Items.{item_all, item_is}
use Rattle.model_core.proofs.WellFormed.{variable_text_well_formed}
use Rattle.plan_text.specs.Subjects.{IsNameOf}
use Rattle.plan_defs.specs.declared.plan.Line.{Line}
use Rattle.plan_defs.specs.declared.plan.Line.TheVariants as lines
use Rattle.plan_defs.specs.declared.plan.Place.{Place}
use Rattle.plan_defs.specs.declared.plan.Place.TheVariants as places
use Rattle.plan_defs.specs.declared.plan.Plan.{Plan}
use Rattle.plan_defs.specs.Plans.{IsPlanOf, IsLineOf, IsLocalValue, order_name}
use Rattle.plan_defs.specs.Resources.{IsInstant}
use Rattle.plan_defs.specs.Valid.{IsLineAt, IsActivatedAt}
use Rattle.plan_report.specs.Naming.{IsTokenWord, IsLineWord, IsPlaceText, HasNames, AddsSpaced, IsNamedAlike}

-- ---- texts behind a space

pub spaced_as : {A E : Type 0} (P Q : List ℕ → Type 0) (old new : List ℕ) (r : Result A E) → ((text : List ℕ) → P text → Q text) → OnOk r (AddsSpaced P old new) → OnOk r (AddsSpaced Q old new)
spaced_as P Q old new (Ok x) means (text, (whole, is)) = (text, (whole, means text is))
spaced_as P Q old new (Err e) means put = tt

pub single_put : {A E : Type 0} (model : Model) (name : VarName) (old new : List ℕ) (r : Result A E) → IsLawful model → IsNamedAlike model name
    → OnOk r ((text : NameText) × ((new ≡ old ++ (codes " " ++ name_spelling text)) × NamesVariable model text name)) → OnOk r (AddsSpaced (IsNameOf model name) old new)
single_put model name old new (Ok x) lawful alike (text, (whole, names)) =
    (name_spelling text, (whole, record { text = text; spells = (variable_text_well_formed model text name lawful names, refl); names = alike text names }))
single_put model name old new (Err e) lawful alike put = tt

-- ---- roots

pub root_there : (model : Model) (number : ℕ) (steps : List Step) → steps ≡ [] → (root : Root) × IsRoot model number root → IsToken model (record { root = number; steps = steps })
root_there model number steps none (root, is_root) =
    subst (λ (s : List Step). IsToken model (record { root = number; steps = s })) (sym none) (slot_of root, record { root = root; is_root = is_root; reached = refl })

pub root_put : {A E : Type 0} (model : Model) (number : ℕ) (steps : List Step) (old new : List ℕ) (r : Result A E) → steps ≡ []
    → OnOk r (AddsSpaced (IsTokenWord model (record { root = number; steps = steps })) old new) → OnOk r (AddsSpaced (IsTokenWord model (root_token number)) old new)
root_put model number steps old new r none = subst (λ (s : List Step). OnOk r (AddsSpaced (IsTokenWord model (record { root = number; steps = s })) old new)) none

-- ---- lines

pub line_found : (plan : Plan) (items : List Line) (place : ℕ) (line found : Line) → items ≡ plan.lines → line ≡ get_or items place line → IsLineAt plan place found → line ≡ found
line_found plan items place line found same is at = is ∙ (ap (λ (l : List Line). get_or l place line) same ∙ item_is plan.lines place line found at)

pub line_at : (plan : Plan) (items : List Line) (place : ℕ) (line : Line) → items ≡ plan.lines → line ≡ get_or items place line → (said : Line) × IsLineAt plan place said → IsLineAt plan place line
line_at plan items place line same is (said, at) = subst (IsLineAt plan place) (sym (line_found plan items place line said same is at)) at

pub line_of_model : (model : Model) (plan : Plan) (items : List Line) (place : ℕ) (line : Line) → IsPlanOf model plan → items ≡ plan.lines → line ≡ get_or items place line
    → (said : Line) × IsLineAt plan place said → IsLineOf model line
line_of_model model plan items place line is_plan same is there = item_all (IsLineOf model) plan.lines place line is_plan.lines (line_at plan items place line same is there)

pub line_put : {A E : Type 0} (model : Model) (plan : Plan) (place : ℕ) (line : Line) (old new : List ℕ) (r : Result A E) → IsLineAt plan place line
    → OnOk r (AddsSpaced (IsNameOf model (order_name line)) old new) → OnOk r (AddsSpaced (IsLineWord model plan place) old new)
line_put model plan place line old new r at = spaced_as (IsNameOf model (order_name line)) (IsLineWord model plan place) old new r (λ text named. (line, (at, named)))

pub local_alike : (model : Model) (name : VarName) (value : ℤ) → IsLocalValue model name value → IsNamedAlike model name
local_alike model (variables.Local token rule number) value is = λ text names. names
local_alike model (variables.Token token part) value is = absurd is
local_alike model (variables.Global number) value is = absurd is

-- ---- tokens that take place by lines

pub same_activated : (plan : Plan) (place : ℕ) (one other : TokenName) → IsActivatedAt plan place one → IsActivatedAt plan place other → one ≡ other
same_activated plan place one other p q =
    let same : Some (lines.Token one false p.0) ≡ Some (lines.Token other false q.0) = sym p.1 ∙ q.1 in
    cc

pub activated_line : (plan : Plan) (items : List Line) (place : ℕ) (line : Line) → items ≡ plan.lines → line ≡ get_or items place line → (token : TokenName) × IsActivatedAt plan place token
    → (token : TokenName) × (values : List ℤ) × (line ≡ lines.Token token false values)
activated_line plan items place line same is (token, (values, at)) = (token, values, line_found plan items place line (lines.Token token false values) same is at)

pub activated_at : (plan : Plan) (items : List Line) (place : ℕ) (line : Line) (token : TokenName) → items ≡ plan.lines → line ≡ get_or items place line → (other : TokenName) × IsActivatedAt plan place other
    → (values : List ℤ) × (line ≡ lines.Token token false values) → IsActivatedAt plan place token
activated_at plan items place line token same is (other, (values, at)) (found, says) =
    (found, subst (IsLineAt plan place) says (line_at plan items place line same is (lines.Token other false values, at)))

module _ (model : Model) (plan : Plan) (line rule number : ℕ) (token : TokenName) (act : IsActivatedAt plan line token) where
  pub slot_there : (found : TokenName) → HasNames model plan (places.Slot line rule number) → found ≡ slot_token token rule number → IsToken model found
  slot_there found (other, (other_act, is_token)) is =
      subst (IsToken model) (sym is) (subst (λ (t : TokenName). IsToken model (slot_token t rule number)) (same_activated plan line other token other_act act) is_token)

  pub slot_put : {A E : Type 0} (found : TokenName) (old new : List ℕ) (r : Result A E) → found ≡ slot_token token rule number → OnOk r (AddsSpaced (IsTokenWord model found) old new)
      → OnOk r (AddsSpaced (IsPlaceText model plan (places.Slot line rule number)) old new)
  slot_put found old new r is = spaced_as (IsTokenWord model found) (IsPlaceText model plan (places.Slot line rule number)) old new r (λ text named. (token, (act, subst (λ (t : TokenName). IsTokenWord model t text) is named)))

  pub local_there : (found : TokenName) → HasNames model plan (places.Local line rule number) → found ≡ token → (base : Base) × HasBase model (variables.Local found rule number) base
  local_there found (other, (other_act, has)) is =
      subst (λ (t : TokenName). (base : Base) × HasBase model (variables.Local t rule number) base) (same_activated plan line other token other_act act ∙ sym is) has

  pub local_put : {A E : Type 0} (found : TokenName) (old new : List ℕ) (r : Result A E) → found ≡ token → OnOk r (AddsSpaced (IsNameOf model (variables.Local found rule number)) old new)
      → OnOk r (AddsSpaced (IsPlaceText model plan (places.Local line rule number)) old new)
  local_put found old new r is = spaced_as (IsNameOf model (variables.Local found rule number)) (IsPlaceText model plan (places.Local line rule number)) old new r (λ text named. (token, (act, subst (λ (t : TokenName). IsNameOf model (variables.Local t rule number) text) is named)))

-- ---- items, pairs and instants

join_item : (old word a b first second new : List ℕ) → first ≡ old ++ (codes " " ++ word) → second ≡ first ++ (codes "/" ++ a) → new ≡ second ++ (codes " " ++ b)
    → new ≡ old ++ (codes " " ++ (word ++ (codes "/" ++ (a ++ (codes " " ++ b)))))
join_item old word a b first second new one two three =
    three ∙ (ap (λ (l : List ℕ). l ++ (codes " " ++ b)) (two ∙ ap (λ (l : List ℕ). l ++ (codes "/" ++ a)) one) ∙ simp append_assoc)

pub item_put : {A E : Type 0} (model : Model) (plan : Plan) (line rule written item : ℕ) (old first second new : List ℕ) (r : Result A E) → written ≡ rule
    → AddsSpaced (IsLineWord model plan line) old first → second ≡ first ++ (codes "/" ++ decimal written) → OnOk r (new ≡ second ++ (codes " " ++ decimal item))
    → OnOk r (AddsSpaced (IsPlaceText model plan (places.Item line rule item)) old new)
item_put model plan line rule written item old first second new (Ok x) same (word, (whole, named)) slash last =
    let slashed = slash ∙ ap (λ (n : ℕ). first ++ (codes "/" ++ decimal n)) same in
    (word ++ (codes "/" ++ (decimal rule ++ (codes " " ++ decimal item))), (join_item old word (decimal rule) (decimal item) first second new whole slashed last, (word, (named, refl))))
item_put model plan line rule written item old first second new (Err e) same line_word slash last = tt

join_two : (old a b mid new : List ℕ) → mid ≡ old ++ (codes " " ++ a) → new ≡ mid ++ (codes " " ++ b) → new ≡ old ++ (codes " " ++ (a ++ (codes " " ++ b)))
join_two old a b mid new one two = two ∙ (ap (λ (l : List ℕ). l ++ (codes " " ++ b)) one ∙ simp append_assoc)

pub pair_put : {A E : Type 0} (model : Model) (plan : Plan) (one other : ℕ) (old mid new : List ℕ) (r : Result A E) → AddsSpaced (IsLineWord model plan one) old mid
    → OnOk r (AddsSpaced (IsLineWord model plan other) mid new) → OnOk r (AddsSpaced (IsPlaceText model plan (places.Pair one other)) old new)
pair_put model plan one other old mid new (Ok x) (word, (first, named)) (next, (second, next_named)) =
    (word ++ (codes " " ++ next), (join_two old word next mid new first second, (word, (named, (next, (next_named, refl))))))
pair_put model plan one other old mid new (Err e) first second = tt

pub instant_put : {A E : Type 0} (model : Model) (number : ℕ) (at written : ℤ) (items : List Object) (object : Object) (name old mid new : List ℕ) (r : Result A E)
    → (found : Object) × (slice_get model.objects number ≡ Some found) → items ≡ model.objects → object ≡ get_or items number object → name ≡ object.name → written ≡ at
    → mid ≡ old ++ (codes " " ++ name) → OnOk r (new ≡ mid ++ (codes " " ++ signed_decimal written))
    → OnOk r (AddsSpaced (λ text. (found : Object) × ((slice_get model.objects number ≡ Some found) × (text ≡ found.name ++ (codes " " ++ signed_decimal at)))) old new)
instant_put model number at written items object name old mid new (Ok x) (found, stands) same is names kept first second =
    let objects : object ≡ found = is ∙ (ap (λ (l : List Object). get_or l number object) same ∙ item_is model.objects number object found stands) in
    let label : name ≡ found.name = names ∙ ap (λ (o : Object). o.name) objects in
    let last = second ∙ ap (λ (v : ℤ). mid ++ (codes " " ++ signed_decimal v)) kept in
    (name ++ (codes " " ++ signed_decimal at), (join_two old name (signed_decimal at) mid new first last, (found, (stands, ap (λ (l : List ℕ). l ++ (codes " " ++ signed_decimal at)) label))))
instant_put model number at written items object name old mid new (Err e) found same is names kept first second = tt

-- ---- whole places

pub placed : {A E : Type 0} (model : Model) (plan : Plan) (place other : Place) (old new : List ℕ) (r : Result A E) → place ≡ other → OnOk r (AddsSpaced (IsPlaceText model plan other) old new)
    → OnOk r (AddsSpaced (IsPlaceText model plan place) old new)
placed model plan place other old new r same = subst (λ (p : Place). OnOk r (AddsSpaced (IsPlaceText model plan p) old new)) (sym same)

pub instant_kept : (model : Model) (at : ℤ) → IsLawful model → IsInstant model at → to_z w32 (of_z w32 at) ≡ at
instant_kept model at lawful is = omega (arith, ints, lawful.horizon.start, lawful.horizon.end.1, is.0, is.1)

pub instant_placed : {A E : Type 0} (model : Model) (number : ℕ) (at written : ℤ) (old new : List ℕ) (r : Result A E) → written ≡ at
    → OnOk r (AddsSpaced (λ text. (object : Object) × ((slice_get model.objects number ≡ Some object) × (text ≡ object.name ++ (codes " " ++ signed_decimal written)))) old new)
    → OnOk r (AddsSpaced (λ text. (object : Object) × ((slice_get model.objects number ≡ Some object) × (text ≡ object.name ++ (codes " " ++ signed_decimal at)))) old new)
instant_placed model number at written old new r same =
    subst (λ (v : ℤ). OnOk r (AddsSpaced (λ text. (object : Object) × ((slice_get model.objects number ≡ Some object) × (text ≡ object.name ++ (codes " " ++ signed_decimal v)))) old new)) same
