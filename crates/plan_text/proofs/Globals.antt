-- The lines of globals.
use Rattle.std.proofs.Common.{◌≡◌, ℕ, ◌+◌, ◌<◌, ℤ, pos, List, [], ◌++◌, length, take, get_or, Result, Some, sym, ◌∙◌, ap, subst, codes, w32, to_z, of_z, arith}
use Rattle.std.specs.Prelude.{OnOk}
use Rattle.std.proofs.lemmas.List.{get_or_default}
use Rattle.eu_name.specs.declared.name.VarName.TheVariants as variables
use Rattle.eu_name.specs.declared.name_text.NameText.{NameText}
use Rattle.eu_name.specs.Spelling.{name_spelling}
use Rattle.model_core.specs.declared.model.Model.{Model}
use Rattle.model_core.specs.declared.variable.ValueKind.{ValueKind}
use Rattle.model_core.specs.declared.variable.ValueKind.TheVariants.{Int}
use Rattle.model_core.specs.declared.variable.Base.TheVariants.{Void}
use Rattle.model_core.specs.declared.variable.VarDecl.{VarDecl}
use Rattle.model_core.specs.Kinds.{IsValueOf}
use Rattle.model_core.specs.Lawful.{IsLawful}
use Rattle.model_core.specs.Names.{NamesVariable}
use Rattle.model_core.specs.Variables.{IsGlobal}
use Rattle.model_core.proofs.Items.{item_at}
use Rattle.plan_defs.specs.declared.plan.Plan.{Plan}
use Rattle.plan_defs.specs.Plans.{IsPlanOf}
use Rattle.plan_text.specs.declared.statement.Keyword.TheVariants as keywords
use Rattle.plan_text.specs.declared.statement.Statement.TheVariants.{Global}
use Rattle.plan_text.specs.Lines.{OneKeyword}
use Rattle.plan_text.specs.PlanTexts.{global_statements}
use Rattle.plan_text.specs.Values.{OneValue}
use Rattle.plan_text.specs.Words.{IsPaused}
use Rattle.plan_text.specs.Writing.{Adds, AddsLine, AddsLines}
use Rattle.plan_text.proofs.Lining.{global_put}
use Rattle.plan_text.proofs.Stepping.{kept_value, kept_is, global_step}

globals_once : (model : Model) (number : ℕ) (one other : VarDecl) → IsGlobal model number one → IsGlobal model number other → one ≡ other
globals_once model number one other first second = let both : Some one ≡ Some other = sym first ∙ second in cc

pub global_value : (model : Model) (number : ℕ) (kind : ValueKind) (value : ℤ) → IsLawful model → (variable : VarDecl) × (IsGlobal model number variable × IsValueOf model variable.kind value)
    → (variable : VarDecl) × (IsGlobal model number variable × (kind ≡ variable.kind)) → IsValueOf model kind (to_z w32 (of_z w32 value))
global_value model number kind value lawful (variable, (is, of)) (other, (is', same)) =
    let kinds_same : variable.kind ≡ kind = ap (λ (v : VarDecl). v.kind) (globals_once model number variable other is is') ∙ sym same in
    kept_is model kind value lawful (subst (λ k. IsValueOf model k value) kinds_same of)

pub global_line_put : {A E : Type 0} (model : Model) (number : ℕ) (kind : ValueKind) (value written : ℤ) (old mid named new : List ℕ) (r : Result A E) → written ≡ value → IsLawful model
    → (variable : VarDecl) × (IsGlobal model number variable × (kind ≡ variable.kind)) → Adds IsPaused OneKeyword keywords.Global old mid
    → (text : NameText) × ((named ≡ mid ++ (codes " " ++ name_spelling text)) × NamesVariable model text (variables.Global number))
    → OnOk r (Adds IsPaused (OneValue model kind) written named new) → OnOk r (AddsLine model (Global number value) old new)
global_line_put model number kind value written old mid named new r same lawful (variable, (is, kinds_same)) key (text, (put, names_it)) adds =
    global_put model number kind variable value text old mid named new r lawful is kinds_same key names_it put (subst (λ v. OnOk r (Adds IsPaused (OneValue model kind) v named new)) same adds)

value_at : (model : Model) (plan : Plan) (count : ℕ) → IsLawful model → IsPlanOf model plan → count < length plan.globals
    → (variable : VarDecl) × (IsGlobal model count variable × IsValueOf model variable.kind (get_or plan.globals count (pos 0)))
value_at model plan count lawful is within =
    let d : VarDecl = record { name = []; kind = Int; base = Void } in
    let there : count < length model.problem.globals = omega (arith, within, is.few_globals) in
    let variable = get_or model.problem.globals count d in
    let is_global = item_at model.problem.globals count d there in
    (variable, (is_global, is.globals count (get_or plan.globals count (pos 0)) variable (item_at plan.globals count (pos 0) within) is_global))

pub global_of_plan : (model : Model) (plan : Plan) (items : List ℤ) (count : ℕ) → IsLawful model → IsPlanOf model plan → items ≡ plan.globals → count < length items
    → (variable : VarDecl) × (IsGlobal model count variable × IsValueOf model variable.kind (to_z w32 (of_z w32 (get_or items count (pos 0)))))
global_of_plan model plan items count lawful is same within =
    let at = value_at model plan count lawful is (subst (λ (l : List ℤ). count < length l) same within) in
    (at.0, (at.1.0, subst (λ (l : List ℤ). IsValueOf model at.0.kind (to_z w32 (of_z w32 (get_or l count (pos 0))))) (sym same) (kept_is model at.0.kind (get_or plan.globals count (pos 0)) lawful at.1.1)))

pub globals_step : (model : Model) (plan : Plan) (items : List ℤ) (count : ℕ) (old mid new : List ℕ) → IsLawful model → IsPlanOf model plan → items ≡ plan.globals → count < length items
    → AddsLine model (Global count (to_z w32 (of_z w32 (get_or items count (pos 0))))) mid new → AddsLines model [] (global_statements 0 (take count plan.globals)) old mid
    → AddsLines model [] (global_statements 0 (take (count + 1) plan.globals)) old new
globals_step model plan items count old mid new lawful is same within adds lines =
    let inside = subst (λ (l : List ℤ). count < length l) same within in
    let at = value_at model plan count lawful is inside in
    let value = get_or plan.globals count (pos 0) in
    global_step model plan.globals count value old mid new inside (get_or_default plan.globals count (pos 0) value inside)
    (subst (λ v. AddsLine model (Global count v) mid new) (kept_value model at.0.kind value lawful at.1.1)
    (subst (λ (l : List ℤ). AddsLine model (Global count (to_z w32 (of_z w32 (get_or l count (pos 0))))) mid new) same adds)) lines
