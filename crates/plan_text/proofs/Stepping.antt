-- One part, one line more; and what is written of a token's values.
use Rattle.std.proofs.Common.{◌≡◌, ℕ, zero, suc, ◌+◌, ◌<◌, ℤ, pos, List, [], ◌∷◌, ◌++◌, length, map, take, drop, get_or, Result, Ok, Err, Some, slice_get, refl, sym, ◌∙◌, ap, subst, inl, inr, All, codes, w32, to_z, of_z, arith}
use Rattle.std.specs.Prelude.{OnOk, AllPairs}
use Rattle.std.specs.List.{AllZip}
use Rattle.std.proofs.lemmas.Int.{ints}
use Rattle.std.proofs.lemmas.List.{get_or_default, get_or-map, length-map, take-append-drop, take_more, map_push}
use Rattle.std.proofs.lemmas.List.Elements.{All-weaker, All-get_or}
use Rattle.eu_name.specs.declared.name.VarName.{VarName}
use Rattle.eu_name.specs.declared.name.VarName.TheVariants as variables
use Rattle.eu_name.specs.NameOrder.{IsVarBefore, IsStrictTotalOrder}
use Rattle.eu_name.specs.Word.{IsName}
use Rattle.model_core.specs.declared.class.Pred.{Pred}
use Rattle.model_core.specs.declared.model.Model.{Model}
use Rattle.model_core.specs.declared.variable.Base.{Base}
use Rattle.model_core.specs.declared.variable.ValueKind.{ValueKind}
use Rattle.model_core.specs.declared.variable.ValueKind.TheVariants as kinds
use Rattle.model_core.specs.declared.variable.VarDecl.{VarDecl}
use Rattle.model_core.specs.Kinds.{IsValueOf}
use Rattle.model_core.specs.Lawful.{IsLawful, IsLawfulEnum}
use Rattle.model_core.specs.Naming.{names_of, IsParameterName}
use Rattle.model_core.specs.Variables.{HasBase}
use Rattle.model_core.proofs.Items.{item_all, item_within}
use Rattle.plan_defs.specs.declared.plan.Line.{Line}
use Rattle.plan_defs.specs.declared.plan.Plan.{Plan}
use Rattle.plan_defs.specs.Plans.{IsLineOf, IsLineBefore, IsLocalValue, AreTokenValues}
use Rattle.plan_text.specs.declared.statement.Statement.TheVariants.{Global, Of}
use Rattle.plan_text.specs.Found.{Then, Done}
use Rattle.plan_text.specs.Lines.{OnePart, FirstParts, LastParts, TokenValues}
use Rattle.plan_text.specs.PlanTexts.{global_statements}
use Rattle.plan_text.specs.Values.{OneValue}
use Rattle.plan_text.specs.Words.{IsPaused}
use Rattle.plan_text.specs.Writing.{EndsLine, Adds, AddsLine, AddsLines}
use Rattle.plan_text.proofs.Adding.{adds_then, adds_last}
use Rattle.plan_text.proofs.Listing.{PartsWritten, one_more_part, one_more_line, globals_more, global_new, line_new, as_statement}
use Rattle.plan_text.proofs.Unbroken.{name_unbroken}

-- ---- values

-- a value is kept as it is handed on
pub kept_value : (model : Model) (kind : ValueKind) (value : ℤ) → IsLawful model → IsValueOf model kind value → to_z w32 (of_z w32 value) ≡ value
kept_value model kinds.Int value lawful is = omega (arith, ints, is)
kept_value model kinds.Float value lawful is = omega (arith, ints, is)
kept_value model kinds.Bool value lawful is = elim is [ inl first ↦ omega (arith, ints, first) | inr second ↦ omega (arith, ints, second) ]
kept_value model (kinds.Enum number) value lawful is =
    let few = (item_all IsLawfulEnum model.enums number is.found lawful.enums is.is_enum).few in
    omega (arith, ints, is.is_place, item_within is.found.members is.place is.member is.is_member, few)
kept_value model kinds.Object value lawful (object, (place, is_place, is_object)) =
    omega (arith, ints, is_place, item_within model.objects place object is_object, lawful.few_objects)

pub kept_is : (model : Model) (kind : ValueKind) (value : ℤ) → IsLawful model → IsValueOf model kind value → IsValueOf model kind (to_z w32 (of_z w32 value))
kept_is model kind value lawful is = subst (IsValueOf model kind) (sym (kept_value model kind value lawful is)) is

-- ---- parameters

zip_at : (model : Model) (ks : List ValueKind) (vs : List ℤ) (i : ℕ) (d : ValueKind) (e : ℤ) → AllZip (IsValueOf model) ks vs → i < length ks → IsValueOf model (get_or ks i d) (get_or vs i e)
zip_at model [] vs i d e zip within = absurd (omega (arith, within))
zip_at model (k ∷ ks) [] i d e zip within = absurd zip
zip_at model (k ∷ ks) (v ∷ vs) zero d e zip within = zip.0
zip_at model (k ∷ ks) (v ∷ vs) (suc i) d e zip within = zip_at model ks vs i d e zip.1 (omega (arith, within))

zip_long : (model : Model) (ks : List ValueKind) (vs : List ℤ) → AllZip (IsValueOf model) ks vs → length ks ≡ length vs
zip_long model [] [] zip = refl
zip_long model [] (v ∷ vs) zip = absurd zip
zip_long model (k ∷ ks) [] zip = absurd zip
zip_long model (k ∷ ks) (v ∷ vs) zip = ap suc (zip_long model ks vs zip.1)

zip_value : (model : Model) (params : List VarDecl) (values : List ℤ) (count : ℕ) (variable : VarDecl) → AllZip (IsValueOf model) (map (λ v. v.kind) params) values → count < length params
    → variable ≡ get_or params count variable → IsValueOf model variable.kind (get_or values count (pos 0))
zip_value model params values count variable zip within is =
    let at = zip_at model (map (λ (v : VarDecl). v.kind) params) values count variable.kind (pos 0) zip (omega (arith, within, length-map params (λ (v : VarDecl). v.kind))) in
    subst (λ k. IsValueOf model k (get_or values count (pos 0))) (get_or-map (λ (v : VarDecl). v.kind) params count variable variable.kind within ∙ ap (λ (v : VarDecl). v.kind) (sym is)) at

pub zip_kept : (model : Model) (params : List VarDecl) (values : List ℤ) (count : ℕ) (variable : VarDecl) → IsLawful model → AllZip (IsValueOf model) (map (λ v. v.kind) params) values → count < length params
    → variable ≡ get_or params count variable → IsValueOf model variable.kind (to_z w32 (of_z w32 (get_or values count (pos 0))))
zip_kept model params values count variable lawful zip within is = kept_is model variable.kind (get_or values count (pos 0)) lawful (zip_value model params values count variable zip within is)

pub zip_length : (model : Model) (params : List VarDecl) (values : List ℤ) → AllZip (IsValueOf model) (map (λ v. v.kind) params) values → length values ≡ length params
zip_length model params values zip = sym (zip_long model (map (λ (v : VarDecl). v.kind) params) values zip) ∙ length-map params (λ (v : VarDecl). v.kind)

pub part_step : (model : Model) (params : List VarDecl) (values : List ℤ) (count : ℕ) (variable : VarDecl) (name old mid named new : List ℕ) → IsLawful model → All IsName (names_of params)
    → AllZip (IsValueOf model) (map (λ v. v.kind) params) values → count < length params → variable ≡ get_or params count variable → name ≡ variable.name → named ≡ mid ++ (codes " " ++ name)
    → Adds IsPaused (OneValue model variable.kind) (to_z w32 (of_z w32 (get_or values count (pos 0)))) named new → PartsWritten model params values count old mid → PartsWritten model params values (count + 1) old new
part_step model params values count variable name old mid named new lawful names zip within is name_is put adds parts =
    let value = get_or values count (pos 0) in
    let in_values : count < length values = omega (arith, within, zip_length model params values zip) in
    let word : IsName variable.name =
    subst IsName (get_or-map (λ (v : VarDecl). v.name) params count variable variable.name within ∙ ap (λ (v : VarDecl). v.name) (sym is))
    (All-get_or IsName (names_of params) count variable.name (omega (arith, within, length-map params (λ (v : VarDecl). v.name))) names) in
    one_more_part model params values count variable value old mid named new within in_values is (get_or_default values count (pos 0) value in_values) (name_unbroken variable.name word)
    (put ∙ ap (λ (l : List ℕ). mid ++ (codes " " ++ l)) name_is)
    (subst (λ v. Adds IsPaused (OneValue model variable.kind) v named new) (kept_value model variable.kind value lawful (zip_value model params values count variable zip within is)) adds) parts

-- ---- the values of a token

abbrev FirstKinds : List ValueKind
FirstKinds = kinds.Int ∷ kinds.Int ∷ kinds.Int ∷ kinds.Object ∷ []

pub fourth_value : (model : Model) (values : List ℤ) → IsLawful model → AllZip (IsValueOf model) (kinds.Int ∷ kinds.Int ∷ kinds.Int ∷ kinds.Object ∷ []) values
    → IsValueOf model kinds.Object (to_z w32 (of_z w32 (get_or values 3 (pos 0))))
fourth_value model [] lawful zip = absurd zip
fourth_value model (a ∷ []) lawful zip = absurd zip.1
fourth_value model (a ∷ b ∷ []) lawful zip = absurd zip.1.1
fourth_value model (a ∷ b ∷ c ∷ []) lawful zip = absurd zip.1.1.1
fourth_value model (a ∷ b ∷ c ∷ d ∷ more) lawful zip = kept_is model kinds.Object d lawful zip.1.1.1.0

pub first_put : {A E : Type 0} (model : Model) (values : List ℤ) (old one two three new : List ℕ) (r : Result A E) → IsLawful model
    → AllZip (IsValueOf model) (kinds.Int ∷ kinds.Int ∷ kinds.Int ∷ kinds.Object ∷ []) values
    → Adds IsPaused (OnePart model (codes "start") kinds.Int) (to_z w32 (of_z w32 (get_or values 0 (pos 0)))) old one
    → Adds IsPaused (OnePart model (codes "end") kinds.Int) (to_z w32 (of_z w32 (get_or values 1 (pos 0)))) one two
    → Adds IsPaused (OnePart model (codes "duration") kinds.Int) (to_z w32 (of_z w32 (get_or values 2 (pos 0)))) two three
    → OnOk r (Adds IsPaused (OnePart model (codes "object") kinds.Object) (to_z w32 (of_z w32 (get_or values 3 (pos 0)))) three new)
    → OnOk r (Adds IsPaused (FirstParts model) values old new)
first_put model [] old one two three new r lawful zip p1 p2 p3 p4 = absurd zip
first_put model (a ∷ []) old one two three new r lawful zip p1 p2 p3 p4 = absurd zip.1
first_put model (a ∷ b ∷ []) old one two three new r lawful zip p1 p2 p3 p4 = absurd zip.1.1
first_put model (a ∷ b ∷ c ∷ []) old one two three new r lawful zip p1 p2 p3 p4 = absurd zip.1.1.1
first_put model (a ∷ b ∷ c ∷ d ∷ e ∷ more) old one two three new r lawful zip p1 p2 p3 p4 = absurd zip.1.1.1.1
first_put model (a ∷ b ∷ c ∷ d ∷ []) old one two three new (Err error) lawful zip p1 p2 p3 p4 = tt
first_put model (a ∷ b ∷ c ∷ d ∷ []) old one two three new (Ok x) lawful zip p1 p2 p3 p4 =
    adds_then IsPaused (OnePart model (codes "start") kinds.Int) (λ start. Then (OnePart model (codes "end") kinds.Int) (λ end. Then (OnePart model (codes "duration") kinds.Int) (λ duration. Then (OnePart model (codes "object") kinds.Object) (λ object. Done (start ∷ end ∷ duration ∷ object ∷ []))))) a (a ∷ b ∷ c ∷ d ∷ []) old one new (subst (λ v. Adds IsPaused (OnePart model (codes "start") kinds.Int) v old one) (kept_value model kinds.Int a lawful zip.0) p1)
    (adds_then IsPaused (OnePart model (codes "end") kinds.Int) (λ end. Then (OnePart model (codes "duration") kinds.Int) (λ duration. Then (OnePart model (codes "object") kinds.Object) (λ object. Done (a ∷ end ∷ duration ∷ object ∷ [])))) b (a ∷ b ∷ c ∷ d ∷ []) one two new (subst (λ v. Adds IsPaused (OnePart model (codes "end") kinds.Int) v one two) (kept_value model kinds.Int b lawful zip.1.0) p2)
    (adds_then IsPaused (OnePart model (codes "duration") kinds.Int) (λ duration. Then (OnePart model (codes "object") kinds.Object) (λ object. Done (a ∷ b ∷ duration ∷ object ∷ []))) c (a ∷ b ∷ c ∷ d ∷ []) two three new (subst (λ v. Adds IsPaused (OnePart model (codes "duration") kinds.Int) v two three) (kept_value model kinds.Int c lawful zip.1.1.0) p3)
    (adds_last IsPaused (OnePart model (codes "object") kinds.Object) (λ object. a ∷ b ∷ c ∷ object ∷ []) d three new
    (subst (λ v. Adds IsPaused (OnePart model (codes "object") kinds.Object) v three new) (kept_value model kinds.Object d lawful zip.1.1.1.0) p4))))

pub param_names : (model : Model) (number : ℕ) (pred : Pred) (params : List VarDecl) → IsLawful model → slice_get model.preds number ≡ Some pred → params ≡ pred.params → All IsName (names_of params)
param_names model number pred params lawful is same =
    subst (λ ps. All IsName (names_of ps)) (sym same) (All-weaker IsParameterName IsName (λ name has. has.0) (names_of pred.params) (lawful.preds number pred is).names)

zip_last : (model : Model) (more : List ValueKind) (values : List ℤ) → AllZip (IsValueOf model) (kinds.Int ∷ kinds.Int ∷ kinds.Int ∷ kinds.Object ∷ more) values → AllZip (IsValueOf model) more (drop 4 values)
zip_last model more [] zip = absurd zip
zip_last model more (a ∷ []) zip = absurd zip.1
zip_last model more (a ∷ b ∷ []) zip = absurd zip.1.1
zip_last model more (a ∷ b ∷ c ∷ []) zip = absurd zip.1.1.1
zip_last model more (a ∷ b ∷ c ∷ d ∷ values) zip = zip.1.1.1.1

same_pred : (model : Model) (number : ℕ) (one other : Pred) → slice_get model.preds number ≡ Some one → slice_get model.preds number ≡ Some other → one ≡ other
same_pred model number one other first second = let both : Some one ≡ Some other = sym first ∙ second in cc

pub last_values : (model : Model) (number : ℕ) (pred : Pred) (params : List VarDecl) (values last : List ℤ) → AreTokenValues model number values → slice_get model.preds number ≡ Some pred → params ≡ pred.params
    → last ≡ drop 4 values → AllZip (IsValueOf model) (map (λ v. v.kind) params) last
last_values model number pred params values last (found, is, zip) is_pred same cut =
    subst (AllZip (IsValueOf model) (map (λ (v : VarDecl). v.kind) params)) (sym cut)
    (subst (λ ps. AllZip (IsValueOf model) (map (λ (v : VarDecl). v.kind) ps) (drop 4 values)) (sym same)
    (subst (λ (p : Pred). AllZip (IsValueOf model) (map (λ (v : VarDecl). v.kind) p.params) (drop 4 values)) (same_pred model number found pred is is_pred) (zip_last model _ values zip)))

pub values_put : {A E : Type 0} (model : Model) (number : ℕ) (pred : Pred) (params : List VarDecl) (values first last : List ℤ) (old mid new : List ℕ) (r : Result A E) → slice_get model.preds number ≡ Some pred → params ≡ pred.params
    → first ≡ take 4 values → last ≡ drop 4 values → Adds IsPaused (FirstParts model) first old mid → OnOk r (Adds EndsLine (LastParts model params) last mid new) → OnOk r (Adds EndsLine (TokenValues model number) values old new)
values_put model number pred params values first last old mid new (Err e) is same front back one two = tt
values_put model number pred params values first last old mid new (Ok x) is same front back one two =
    let whole : first ++ last ≡ values = ap (λ (l : List ℤ). l ++ last) front ∙ (ap (λ (l : List ℤ). take 4 values ++ l) back ∙ take-append-drop 4 values) in
    let adds = adds_then EndsLine (FirstParts model) (λ first. Then (LastParts model pred.params) (λ last. Done (first ++ last))) first (first ++ last) old mid new one
    (adds_last EndsLine (LastParts model pred.params) (λ last. first ++ last) last mid new (subst (λ ps. Adds EndsLine (LastParts model ps) last mid new) same two)) in
    subst (λ vs. Adds EndsLine (TokenValues model number) vs old new) whole (record { piece = adds.piece; is = adds.is; paused = adds.paused; reads = λ rest ends. (pred, (is, adds.reads rest ends)) })

-- ---- lines

pub local_base : (model : Model) (name : VarName) (value : ℤ) → IsLocalValue model name value → (base : Base) × HasBase model name base
local_base model (variables.Global number) value is = absurd is
local_base model (variables.Token token part) value is = absurd is
local_base model (variables.Local token rule number) value (slot, has, (variable, has_local, of)) =
    (variable.base, record { slot = slot; has_token = has; variable = variable; has_local = has_local; is_base = refl })

pub line_step : IsStrictTotalOrder IsVarBefore → (model : Model) (plan : Plan) (items : List Line) (count : ℕ) (line : Line) (old mid new : List ℕ) → All (IsLineOf model) plan.lines → AllPairs IsLineBefore plan.lines → items ≡ plan.lines → count < length items
    → line ≡ get_or items count line → AddsLine model (Of line) mid new
    → AddsLines model (global_statements 0 plan.globals) (map as_statement (take count plan.lines)) old mid → AddsLines model (global_statements 0 plan.globals) (map as_statement (take (count + 1) plan.lines)) old new
line_step law model plan items count line old mid new all order same inside is_item adds lines =
    let within = subst (λ (l : List Line). count < length l) same inside in
    let is : line ≡ get_or plan.lines count line = is_item ∙ ap (λ (l : List Line). get_or l count line) same in
    let of : IsLineOf model line = subst (IsLineOf model) (sym is) (All-get_or (IsLineOf model) plan.lines count line within all) in
    let split : map as_statement (take (count + 1) plan.lines) ≡ map as_statement (take count plan.lines) ++ Of line ∷ [] =
    ap (map as_statement) (take_more plan.lines count line within ∙ ap (λ (l : Line). take count plan.lines ++ l ∷ []) (sym is)) ∙ map_push as_statement (take count plan.lines) line in
    subst (λ said. AddsLines model (global_statements 0 plan.globals) said old new) (sym split)
    (one_more_line model (global_statements 0 plan.globals) (map as_statement (take count plan.lines)) (Of line) old mid new lines adds (line_new law model plan.globals plan.lines count line within is of order))

pub global_step : (model : Model) (values : List ℤ) (count : ℕ) (value : ℤ) (old mid new : List ℕ) → count < length values → value ≡ get_or values count value → AddsLine model (Global count value) mid new
    → AddsLines model [] (global_statements 0 (take count values)) old mid → AddsLines model [] (global_statements 0 (take (count + 1) values)) old new
global_step model values count value old mid new within is adds lines =
    subst (λ said. AddsLines model [] said old new) (sym (globals_more values count value within is))
    (one_more_line model [] (global_statements 0 (take count values)) (Global count value) old mid new lines adds (global_new values count (omega (arith, within))))
