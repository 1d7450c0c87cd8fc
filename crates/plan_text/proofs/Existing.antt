-- A plan of a model has a text: each of its lines can be put behind those before it.
use Rattle.std.proofs.Common.{◌≡◌, ℕ, zero, suc, ◌+◌, ◌<◌, ◌≤◌, ℤ, pos, w32, to_z, of_z, List, [], ◌∷◌, ◌++◌, length, take, drop, get_or, Some, Result, Ok, refl, sym, ap, subst, inl, inr, arith, codes}
use Rattle.std.specs.Prelude.{map, All, slice_get}
use Rattle.std.specs.Fmt.{signed_decimal}
use Rattle.std.specs.List.{AllZip}
use Rattle.std.proofs.lemmas.List.{take_all}
use Rattle.std.proofs.lemmas.List.Elements.{All-get_or, All-nil}
use Rattle.eu_name.specs.declared.name.Part.TheVariants.{Start}
use Rattle.eu_name.specs.declared.name.TokenName.{TokenName}
use Rattle.eu_name.specs.declared.name.VarName.TheVariants as variables
use Rattle.eu_name.specs.Spelling.{name_spelling}
use Rattle.eu_name.specs.Word.{IsName}
use Rattle.eu_name.proofs.Ordered.{ordered_none}
use Rattle.eu_name.proofs.Orders.{var_order}
use Rattle.model_core.specs.declared.class.Pred.{Pred}
use Rattle.model_core.specs.declared.model.Model.{Model}
use Rattle.model_core.specs.declared.rule.Slot.{Slot}
use Rattle.model_core.specs.declared.variable.Base.TheVariants.{Void}
use Rattle.model_core.specs.declared.variable.ValueKind.{ValueKind}
use Rattle.model_core.specs.declared.variable.ValueKind.TheVariants as kinds
use Rattle.model_core.specs.declared.variable.VarDecl.{VarDecl}
use Rattle.model_core.specs.Kinds.{IsValueOf}
use Rattle.model_core.specs.Lawful.{IsLawful, IsToken}
use Rattle.model_core.specs.Naming.{names_of}
use Rattle.model_core.specs.Variables.{IsGlobal}
use Rattle.model_core.proofs.Items.{item_within, item_at, item_is}
use Rattle.model_core.proofs.Leading.{token_once}
use Rattle.model_core.proofs.OneText.{one_token_text, one_variable_text}
use Rattle.plan_defs.specs.declared.plan.Line.{Line}
use Rattle.plan_defs.specs.declared.plan.Line.TheVariants as lines
use Rattle.plan_defs.specs.declared.plan.Plan.{Plan}
use Rattle.plan_defs.specs.Plans.{IsPlanOf, IsLineOf, IsLineBefore, AreTokenValues}
use Rattle.plan_text.specs.declared.statement.Keyword.{Keyword}
use Rattle.plan_text.specs.declared.statement.Keyword.TheVariants as keywords
use Rattle.plan_text.specs.declared.statement.Statement.TheVariants.{Global, Of}
use Rattle.plan_text.specs.Existence.{IsPlanOfAnyLength, ValuesHaveTexts, PlansHaveTexts}
use Rattle.plan_text.specs.Found.{Found}
use Rattle.plan_text.specs.Lines.{keyword_text, OneKeyword, OnePart, FirstParts, LastParts, TokenValues}
use Rattle.plan_text.specs.PlanTexts.{global_statements, IsPlanText}
use Rattle.plan_text.specs.Subjects.{IsNameOf, OnePredicate}
use Rattle.plan_text.specs.Values.{OneValue, decimal_text}
use Rattle.plan_text.specs.Words.{IsUnbroken, IsPaused}
use Rattle.plan_text.specs.Writing.{EndsLine, Adds, AddsLine, AddsLines}
use Rattle.plan_text.proofs.Adding.{adds_word}
use Rattle.plan_text.proofs.Globals.{globals_step}
use Rattle.plan_text.proofs.Lining.{active_keyword, rejected_put, merged_put, active_put, global_put, local_put}
use Rattle.plan_text.proofs.Listing.{as_statement, PartsWritten, no_parts, all_parts, no_lines, whole_written}
use Rattle.plan_text.proofs.Predicates.{predicate_put}
use Rattle.plan_text.proofs.Putting.{token_put, value_put, part_put}
use Rattle.plan_text.proofs.Stepping.{kept_value, kept_is, zip_kept, zip_length, part_step, first_put, param_names, last_values, values_put, local_base, line_step}
use Rattle.plan_text.proofs.Unbroken.{unbroken_from}

abbrev done : Result (Unit {0}) (Unit {0})
done = Ok tt

-- ---- values

pub values_have_texts : ValuesHaveTexts
values_have_texts model kinds.Int value is = (signed_decimal value, (is, refl))
values_have_texts model kinds.Float value is = (decimal_text value, (is, refl))
values_have_texts model kinds.Bool value (inl none) = (codes "false", inl (none, refl))
values_have_texts model kinds.Bool value (inr one) = (codes "true", inr (one, refl))
values_have_texts model (kinds.Enum number) value is =
    (is.member, record { found = is.found; is_enum = is.is_enum; place = is.place; is_place = is.is_place; is_member = is.is_member })
values_have_texts model kinds.Object value is = (is.0.name, (is.0, (is.1, refl)))

-- something can be put behind these bytes, of which the reader gets this
abbrev CanAdd : {X : Type 0} → (List ℕ → Type 0) → (List ℕ → Found X → Type 0) → X → List ℕ → Type 0
CanAdd Follows Reader said old = (new : List ℕ) × Adds Follows Reader said old new

value_adds : (model : Model) (kind : ValueKind) (value : ℤ) (old : List ℕ) → IsLawful model → IsValueOf model kind value → CanAdd IsPaused (OneValue model kind) value old
value_adds model kind value old lawful is =
    let shown = values_have_texts model kind value is in
    let new = old ++ (codes " " ++ shown.0) in
    (new, value_put model kind value value old new done refl lawful (shown.0, (refl, shown.1)))

-- ---- names

keyword_unbroken : (keyword : Keyword) → IsUnbroken (keyword_text keyword)
keyword_unbroken keywords.Global = unbroken_from (codes "global") (omega arith) (refl, (refl, (refl, (refl, (refl, (refl, tt))))))
keyword_unbroken keywords.Fact = unbroken_from (codes "fact") (omega arith) (refl, (refl, (refl, (refl, tt))))
keyword_unbroken keywords.Token = unbroken_from (codes "token") (omega arith) (refl, (refl, (refl, (refl, (refl, tt)))))
keyword_unbroken keywords.Merged = unbroken_from (codes "merged") (omega arith) (refl, (refl, (refl, (refl, (refl, (refl, tt))))))
keyword_unbroken keywords.Rejected = unbroken_from (codes "rejected") (omega arith) (refl, (refl, (refl, (refl, (refl, (refl, (refl, (refl, tt))))))))
keyword_unbroken keywords.Local = unbroken_from (codes "local") (omega arith) (refl, (refl, (refl, (refl, (refl, tt)))))
keyword_unbroken keywords.End = unbroken_from (codes "end") (omega arith) (refl, (refl, (refl, tt)))

keyword_adds : (keyword : Keyword) (old : List ℕ) → Adds IsPaused OneKeyword keyword old (old ++ (codes "\n" ++ keyword_text keyword))
keyword_adds keyword old =
    adds_word 10 (keyword_text keyword) old (old ++ (codes "\n" ++ keyword_text keyword)) (λ (k : Keyword) word. word ≡ keyword_text k) _ keyword refl (keyword_unbroken keyword) refl refl

-- the word of the token, put behind a space
record TokenPut (model : Model) (token : TokenName) (old : List ℕ) : Type 0 where
  new : List ℕ
  is : (word : List ℕ) × ((new ≡ old ++ (codes " " ++ word)) × IsNameOf model (variables.Token token Start) word)

module _ (model : Model) (lawful : IsLawful model) where
  token_puts : (token : TokenName) (old : List ℕ) → IsToken model token → TokenPut model token old
  token_puts token old (slot, has) =
      let text = one_token_text model token slot has in
      let new = old ++ (codes " " ++ name_spelling text.0) in
      record { new = new; is = token_put model token text.0 (codes " ") old new done lawful text.1.names refl }

  predicate_adds : (number : ℕ) (pred : Pred) (old : List ℕ) → slice_get model.preds number ≡ Some pred → CanAdd IsPaused (OnePredicate model number) tt old
  predicate_adds number pred old is =
      let class = (lawful.preds number pred is).class in
      let is_class = (lawful.preds number pred is).is_class in
      let mid = old ++ (codes " " ++ class.name) in
      let new = mid ++ (codes "." ++ pred.name) in (
        new,
        predicate_put model number model.preds pred model.classes class class.name pred.name old mid new done lawful (item_within model.preds number pred is)
            refl (sym (item_is model.preds number pred pred is)) refl (sym (item_is model.classes pred.class class class is_class)) refl refl refl refl,
      )

  -- ---- the values of a token

  part_adds : (label : List ℕ) (kind : ValueKind) (value : ℤ) (old : List ℕ) → IsUnbroken label → IsValueOf model kind value
      → CanAdd IsPaused (OnePart model label kind) (to_z w32 (of_z w32 value)) old
  part_adds label kind value old whole is =
      let kept = kept_value model kind value lawful is in
      let mid = old ++ (codes " " ++ label) in
      let adds = value_adds model kind value mid lawful is in
      (adds.0, part_put model label kind (to_z w32 (of_z w32 value)) value old mid adds.0 done (sym kept) whole refl adds.1)

  first_adds : (values : List ℤ) (old : List ℕ) → AllZip (IsValueOf model) (kinds.Int ∷ kinds.Int ∷ kinds.Int ∷ kinds.Object ∷ []) values → CanAdd IsPaused (FirstParts model) values old
  first_adds [] old zip = absurd zip
  first_adds (a ∷ []) old zip = absurd zip.1
  first_adds (a ∷ b ∷ []) old zip = absurd zip.1.1
  first_adds (a ∷ b ∷ c ∷ []) old zip = absurd zip.1.1.1
  first_adds (a ∷ b ∷ c ∷ d ∷ e ∷ more) old zip = absurd zip.1.1.1.1
  first_adds (a ∷ b ∷ c ∷ d ∷ []) old zip =
      let one = part_adds (codes "start") kinds.Int a old (unbroken_from (codes "start") (omega arith) (refl, (refl, (refl, (refl, (refl, tt)))))) zip.0 in
      let two = part_adds (codes "end") kinds.Int b one.0 (unbroken_from (codes "end") (omega arith) (refl, (refl, (refl, tt)))) zip.1.0 in
      let three = part_adds (codes "duration") kinds.Int c two.0 (unbroken_from (codes "duration") (omega arith) (refl, (refl, (refl, (refl, (refl, (refl, (refl, (refl, tt))))))))) zip.1.1.0 in
      let four = part_adds (codes "object") kinds.Object d three.0 (unbroken_from (codes "object") (omega arith) (refl, (refl, (refl, (refl, (refl, (refl, tt))))))) zip.1.1.1.0 in
      (four.0, first_put model (a ∷ b ∷ c ∷ d ∷ []) old one.0 two.0 three.0 four.0 done lawful zip one.1 two.1 three.1 four.1)

  module _ (params : List VarDecl) (values : List ℤ) (old : List ℕ) (word : All IsName (names_of params)) (zip : AllZip (IsValueOf model) (map (λ v. v.kind) params) values) where
    parts_written : (count : ℕ) → count ≤ length params → (new : List ℕ) × PartsWritten model params values count old new
    parts_written zero within = (old, no_parts model params values old)
    parts_written (suc count) within =
        let before = parts_written count (omega (arith, within)) in
        let below : count < length params = omega (arith, within) in
        let d : VarDecl = record { name = []; kind = kinds.Int; base = Void } in
        let variable = get_or params count d in
        let same : variable ≡ get_or params count variable = sym (item_is params count variable variable (item_at params count d below)) in
        let named = before.0 ++ (codes " " ++ variable.name) in
        let adds = value_adds model variable.kind (to_z w32 (of_z w32 (get_or values count (pos 0)))) named lawful (zip_kept model params values count variable lawful zip below same) in
        let next : count + 1 ≡ suc count = omega arith in (
          adds.0,
          subst (λ (n : ℕ). PartsWritten model params values n old adds.0) next
              (part_step model params values count variable variable.name old before.0 named adds.0 lawful word zip below same refl refl adds.1 before.1),
        )

    last_adds : CanAdd EndsLine (LastParts model params) values old
    last_adds =
        let all = parts_written (length params) (omega arith) in
        (all.0, all_parts model params values (length params) old all.0 (omega arith) (omega (arith, zip_length model params values zip)) all.1)

  zip_first : (more : List ValueKind) (values : List ℤ) → AllZip (IsValueOf model) (kinds.Int ∷ kinds.Int ∷ kinds.Int ∷ kinds.Object ∷ more) values
      → AllZip (IsValueOf model) (kinds.Int ∷ kinds.Int ∷ kinds.Int ∷ kinds.Object ∷ []) (take 4 values)
  zip_first more [] zip = absurd zip
  zip_first more (a ∷ []) zip = absurd zip.1
  zip_first more (a ∷ b ∷ []) zip = absurd zip.1.1
  zip_first more (a ∷ b ∷ c ∷ []) zip = absurd zip.1.1.1
  zip_first more (a ∷ b ∷ c ∷ d ∷ values) zip = (zip.0, (zip.1.0, (zip.1.1.0, (zip.1.1.1.0, tt))))

  token_values_add : (number : ℕ) (values : List ℤ) (old : List ℕ) → AreTokenValues model number values → CanAdd EndsLine (TokenValues model number) values old
  token_values_add number values old (pred, is, zip) =
      let first = first_adds (take 4 values) old (zip_first _ values zip) in
      let last = last_adds pred.params (drop 4 values) first.0 (param_names model number pred pred.params lawful is refl)
      (last_values model number pred pred.params values (drop 4 values) (pred, is, zip) is refl refl) in
      (last.0, values_put model number pred pred.params values (take 4 values) (drop 4 values) old first.0 last.0 done is refl refl refl first.1 last.1)

  -- ---- lines

  line_adds : (line : Line) (old : List ℕ) → IsLineOf model line → (new : List ℕ) × AddsLine model (Of line) old new
  line_adds (lines.Token name fact values) old (slot, has, are) =
      let mid = old ++ (codes "\n" ++ keyword_text (active_keyword fact)) in
      let named = token_puts name mid (slot, has) in
      let pred = predicate_adds slot.pred are.0 named.new are.1 in
      let new = token_values_add slot.pred values pred.0 are in (
        new.0,
        active_put model fact name slot.pred values old mid named.new pred.0 new.0 done (slot, has)
            (λ other its. ap (λ (s : Slot). s.pred) (token_once model name other slot its has)) (keyword_adds (active_keyword fact) old) named.is pred.1 new.1,
      )
  line_adds (lines.Merged name target) old is =
      let mid = old ++ (codes "\n" ++ keyword_text keywords.Merged) in
      let named = token_puts name mid is.0 in
      let into = token_puts target named.new is.1 in
      (into.new, merged_put model name target old mid named.new into.new done is.0 (keyword_adds keywords.Merged old) named.is into.is)
  line_adds (lines.Rejected name) old is =
      let mid = old ++ (codes "\n" ++ keyword_text keywords.Rejected) in
      let named = token_puts name mid is in
      (named.new, rejected_put model name old mid named.new done is (keyword_adds keywords.Rejected old) named.is)
  line_adds (lines.Local (variables.Global number) value) old is = absurd is
  line_adds (lines.Local (variables.Token token part) value) old is = absurd is
  line_adds (lines.Local (variables.Local token rule number) value) old is =
      let name = variables.Local token rule number in
      let mid = old ++ (codes "\n" ++ keyword_text keywords.Local) in
      let base = local_base model name value is in
      let text = one_variable_text model name base.0 base.1 in
      let named = mid ++ (codes " " ++ name_spelling text.0) in
      let variable = is.2.0 in
      let adds = value_adds model variable.kind value named lawful is.2.2 in (
        adds.0,
        local_put model name value value text.0 old mid named adds.0 done refl lawful (keyword_adds keywords.Local old) text.1.names refl
            (variable.kind, ((is.0, (is.1, (variable, (is.2.1, refl)))), adds.1)),
      )

  global_adds : (number : ℕ) (variable : VarDecl) (value : ℤ) (old : List ℕ) → IsGlobal model number variable → IsValueOf model variable.kind value
      → (new : List ℕ) × AddsLine model (Global number value) old new
  global_adds number variable value old is of =
      let mid = old ++ (codes "\n" ++ keyword_text keywords.Global) in
      let text = one_variable_text model (variables.Global number) variable.base (variable, is, refl) in
      let named = mid ++ (codes " " ++ name_spelling text.0) in
      let adds = value_adds model variable.kind value named lawful of in
      (adds.0, global_put model number variable.kind variable value text.0 old mid named adds.0 done lawful is refl (keyword_adds keywords.Global old) text.1.names refl adds.1)

  -- ---- the plan

  module _ (plan : Plan) (is : IsPlanOfAnyLength model plan) where
    abbrev globals_alone : Plan
    globals_alone = record { globals = plan.globals; lines = [] }

    of_globals : IsPlanOf model globals_alone
    of_globals = record {
      few_globals = is.few_globals;
      globals = is.globals;
      few_lines = omega arith;
      lines = All-nil (IsLineOf model);
      order = ordered_none IsLineBefore;
    }

    next_global : (count : ℕ) (old : List ℕ) → count < length plan.globals → (new : List ℕ) × AddsLine model (Global count (to_z w32 (of_z w32 (get_or plan.globals count (pos 0))))) old new
    next_global count old within =
        let d : VarDecl = record { name = []; kind = kinds.Int; base = Void } in
        let few = is.few_globals in
        let variable = get_or model.problem.globals count d in
        let is_global = item_at model.problem.globals count d (omega (arith, within, few)) in
        let value = get_or plan.globals count (pos 0) in
        let of = is.globals count value variable (item_at plan.globals count (pos 0) within) is_global in
        global_adds count variable (to_z w32 (of_z w32 value)) old is_global (kept_is model variable.kind value lawful of)

    globals_written : (count : ℕ) → count ≤ length plan.globals → (new : List ℕ) × AddsLines model [] (global_statements 0 (take count plan.globals)) (codes "plan") new
    globals_written zero within = (codes "plan", no_lines model [] (codes "plan"))
    globals_written (suc count) within =
        let before = globals_written count (omega (arith, within)) in
        let below : count < length plan.globals = omega (arith, within) in
        let line = next_global count before.0 below in
        let next : count + 1 ≡ suc count = omega arith in (
          line.0,
          subst (λ (n : ℕ). AddsLines model [] (global_statements 0 (take n plan.globals)) (codes "plan") line.0) next
              (globals_step model globals_alone plan.globals count (codes "plan") before.0 line.0 lawful of_globals refl below line.1 before.1),
        )

    lines_written : (old : List ℕ) (count : ℕ) → count ≤ length plan.lines
        → (new : List ℕ) × AddsLines model (global_statements 0 plan.globals) (map as_statement (take count plan.lines)) old new
    lines_written old zero within = (old, no_lines model (global_statements 0 plan.globals) old)
    lines_written old (suc count) within =
        let before = lines_written old count (omega (arith, within)) in
        let below : count < length plan.lines = omega (arith, within) in
        let d : Line = lines.Local (variables.Global 0) (pos 0) in
        let line = get_or plan.lines count d in
        let of : IsLineOf model line = All-get_or (IsLineOf model) plan.lines count d below is.lines in
        let same : line ≡ get_or plan.lines count line = sym (item_is plan.lines count line line (item_at plan.lines count d below)) in
        let more = line_adds line before.0 of in
        let next : count + 1 ≡ suc count = omega arith in (
          more.0,
          subst (λ (n : ℕ). AddsLines model (global_statements 0 plan.globals) (map as_statement (take n plan.lines)) old more.0) next
              (line_step var_order model plan plan.lines count line old before.0 more.0 is.lines is.order refl below same more.1 before.1),
        )

    written : (text : List ℕ) × IsPlanText model plan text
    written =
        let globals = globals_written (length plan.globals) (omega arith) in
        let all = lines_written globals.0 (length plan.lines) (omega arith) in
        let ended = all.0 ++ (codes "\n" ++ keyword_text keywords.End) in
        let first = subst (λ (l : List ℤ). AddsLines model [] (global_statements 0 l) (codes "plan") globals.0) (take_all (length plan.globals) plan.globals (omega arith)) globals.1 in
        let second = subst (λ (l : List Line). AddsLines model (global_statements 0 plan.globals) (map as_statement l) globals.0 all.0) (take_all (length plan.lines) plan.lines (omega arith)) all.1 in
        (ended ++ 10 ∷ [], whole_written model plan (codes "plan") globals.0 all.0 ended (ended ++ 10 ∷ []) refl first second (keyword_adds keywords.End all.0) refl)

pub plans_have_texts : PlansHaveTexts
plans_have_texts model plan lawful is = written model lawful plan is
