-- What lines say.
use Rattle.std.proofs.Common.{◌≡◌, ℕ, ◌<◌, ◌≤◌, Bool, true, false, ℤ, List, [], ◌∷◌, ◌++◌, length, map, Option, Some, Result, Ok, Err, refl, sym, ap, subst, inl, inr, arith, Contains, length-append, codes, w32, to_z, of_z}
use Rattle.std.specs.Prelude.{MatchResult}
use Rattle.std.specs.List.{AllZip}
use Rattle.eu_name.specs.declared.name.Part.TheVariants.{Start}
use Rattle.eu_name.specs.declared.name.TokenName.{TokenName}
use Rattle.eu_name.specs.declared.name.VarName.{VarName}
use Rattle.eu_name.specs.declared.name.VarName.TheVariants as variables
use Rattle.model_core.specs.declared.model.Model.{Model}
use Rattle.model_core.specs.declared.variable.ValueKind.{ValueKind}
use Rattle.model_core.specs.declared.variable.ValueKind.TheVariants as kinds
use Rattle.model_core.specs.declared.variable.VarDecl.{VarDecl}
use Rattle.model_core.specs.Kinds.{IsValueOf}
use Rattle.model_core.specs.Lawful.{IsLawful, IsToken}
use Rattle.model_core.specs.Naming.{names_of}
use Rattle.model_core.specs.Variables.{IsGlobal}
use Rattle.plan_defs.specs.declared.plan.Line.TheVariants as lines
use Rattle.plan_defs.specs.Plans.{AreTokenValues, IsLineOf, IsLocalValue, value_kinds}
use Rattle.plan_text.proofs.Stepping.{kept_value}
use Rattle.plan_text.specs.declared.fault.Wrong.{Wrong}
use Rattle.plan_text.specs.declared.statement.Keyword.{Keyword}
use Rattle.plan_text.specs.declared.statement.Keyword.TheVariants as keywords
use Rattle.plan_text.specs.declared.statement.Statement.{Statement}
use Rattle.plan_text.specs.declared.statement.Statement.TheVariants.{Global, Of}
use Rattle.plan_text.specs.declared.subject.NamedToken.{NamedToken}
use Rattle.plan_text.specs.declared.subject.NamedLocal.{NamedLocal}
use Rattle.plan_text.specs.Words.{HasWord}
use Rattle.plan_text.specs.Found.{Found, Got, Stopped, Then, FindsWords}
use Rattle.plan_text.specs.Lines.{OnePart, FirstParts, OneParameter, Parameters, TokenValues, AfterKeyword, OneLine, stated_name}
use Rattle.plan_text.specs.Subjects.{OneToken, OneLocal, OneTarget, OnePredicate, IsLocalOfKind}
use Rattle.plan_text.specs.Values.{OneValue, IsValueText}
use Rattle.plan_core.specs.Reading.{active_keyword}

-- ---- what a line says

pub active_found : (model : Model) (names : List VarName) (fact : Bool) (text mid rest : List ℕ) (named : NamedToken) (values : Result (List ℤ) Wrong) (r : Result (Option Statement) Wrong)
    → OneToken model names text (Got named mid) → FindsWords (Then (OnePredicate model named.pred) (λ said. TokenValues model named.pred) mid) values rest
    → MatchResult values (λ values. r ≡ Ok (Some (Of (lines.Token named.name fact values)))) (λ wrong. r ≡ Err wrong)
    → FindsWords (AfterKeyword model names (active_keyword fact) text) r rest
active_found model names true text mid rest named (Ok values) r token (said, (behind, (pred, got))) gives =
    subst (λ r. FindsWords (AfterKeyword model names keywords.Fact text) r rest) (sym gives) (named, (mid, (token, (said, (behind, (pred, (values, (rest, (got, (refl, refl))))))))))
active_found model names false text mid rest named (Ok values) r token (said, (behind, (pred, got))) gives =
    subst (λ r. FindsWords (AfterKeyword model names keywords.Token text) r rest) (sym gives) (named, (mid, (token, (said, (behind, (pred, (values, (rest, (got, (refl, refl))))))))))
active_found model names true text mid rest named (Err wrong) r token (inl first) gives =
    subst (λ r. FindsWords (AfterKeyword model names keywords.Fact text) r rest) (sym gives) (inr (named, (mid, (token, inl first))))
active_found model names false text mid rest named (Err wrong) r token (inl first) gives =
    subst (λ r. FindsWords (AfterKeyword model names keywords.Token text) r rest) (sym gives) (inr (named, (mid, (token, inl first))))
active_found model names true text mid rest named (Err wrong) r token (inr (said, (behind, (pred, stops)))) gives =
    subst (λ r. FindsWords (AfterKeyword model names keywords.Fact text) r rest) (sym gives) (inr (named, (mid, (token, inr (said, (behind, (pred, inl stops)))))))
active_found model names false text mid rest named (Err wrong) r token (inr (said, (behind, (pred, stops)))) gives =
    subst (λ r. FindsWords (AfterKeyword model names keywords.Token text) r rest) (sym gives) (inr (named, (mid, (token, inr (said, (behind, (pred, inl stops)))))))

pub active_stops : (model : Model) (names : List VarName) (fact : Bool) (text at : List ℕ) (wrong : Wrong) → OneToken model names text (Stopped wrong at) → AfterKeyword model names (active_keyword fact) text (Stopped wrong at)
active_stops model names true text at wrong stops = inl stops
active_stops model names false text at wrong stops = inl stops

pub merged_found : (model : Model) (names : List VarName) (text mid rest : List ℕ) (named : NamedToken) (target : Result TokenName Wrong) (r : Result (Option Statement) Wrong)
    → OneToken model names text (Got named mid) → FindsWords (OneTarget model mid) target rest
    → MatchResult target (λ target. r ≡ Ok (Some (Of (lines.Merged named.name target)))) (λ wrong. r ≡ Err wrong)
    → FindsWords (AfterKeyword model names keywords.Merged text) r rest
merged_found model names text mid rest named (Ok target) r token got gives =
    subst (λ r. FindsWords (AfterKeyword model names keywords.Merged text) r rest) (sym gives) (named, (mid, (token, (target, (rest, (got, (refl, refl)))))))
merged_found model names text mid rest named (Err wrong) r token stops gives =
    subst (λ r. FindsWords (AfterKeyword model names keywords.Merged text) r rest) (sym gives) (inr (named, (mid, (token, inl stops))))

pub local_found : (model : Model) (names : List VarName) (text mid rest : List ℕ) (named : NamedLocal) (value : Result ℤ Wrong) (r : Result (Option Statement) Wrong)
    → OneLocal model names text (Got named mid) → FindsWords (OneValue model named.kind mid) value rest
    → MatchResult value (λ value. r ≡ Ok (Some (Of (lines.Local named.name value)))) (λ wrong. r ≡ Err wrong)
    → FindsWords (AfterKeyword model names keywords.Local text) r rest
local_found model names text mid rest named (Ok value) r local got gives =
    subst (λ r. FindsWords (AfterKeyword model names keywords.Local text) r rest) (sym gives) (named, (mid, (local, (value, (rest, (got, (refl, refl)))))))
local_found model names text mid rest named (Err wrong) r local stops gives =
    subst (λ r. FindsWords (AfterKeyword model names keywords.Local text) r rest) (sym gives) (inr (named, (mid, (local, inl stops))))

-- ---- each line takes of the text

pub word_shrinks : (gap text word rest : List ℕ) → HasWord gap text word rest → length rest < length text
word_shrinks gap text word rest has = omega (arith, ap length has.whole, length-append gap (word ++ rest), length-append word rest, has.unbroken.0)

-- what is left is no longer than the text
abbrev Shrinks : {X : Type 0} → (List ℕ → Found X → Type 0) → Type 0
Shrinks {X = X} Reader = (text rest : List ℕ) (x : X) → Reader text (Got x rest) → length rest ≤ length text

value_no_longer : (model : Model) (kind : ValueKind) → Shrinks (OneValue model kind)
value_no_longer model kind text rest value got = omega (arith, word_shrinks (codes " ") text got.0 rest got.1.0)

part_no_longer : (model : Model) (label : List ℕ) (kind : ValueKind) → Shrinks (OnePart model label kind)
part_no_longer model label kind text rest value (said, (mid, (first, second))) = omega (arith, word_shrinks (codes " ") text first.0 mid first.1.0, value_no_longer model kind mid rest value second)

first_no_longer : (model : Model) → Shrinks (FirstParts model)
first_no_longer model text rest values (start, (one, (is_start, (end, (two, (is_end, (duration, (three, (is_duration, (object, (four, (is_object, (same, is))))))))))))) =
    omega (arith, part_no_longer model (codes "start") kinds.Int text one start is_start, part_no_longer model (codes "end") kinds.Int one two end is_end, part_no_longer model (codes "duration") kinds.Int two three duration is_duration, part_no_longer model (codes "object") kinds.Object three four object is_object, ap length is)

parameters_no_longer : (model : Model) (names : List (List ℕ)) (params : List VarDecl) → Shrinks (Parameters model names params)
parameters_no_longer model names [] text rest values (same, is) = omega (arith, ap length is)
parameters_no_longer model names (variable ∷ params) text rest values (value, (mid, ((said, (label, (is_label, is_value))), (more, (last, (others, (same, is))))))) =
    omega (arith, word_shrinks (codes " ") text is_label.0 label is_label.1.0, value_no_longer model variable.kind label mid value is_value, parameters_no_longer model names params mid last more others, ap length is)

values_no_longer : (model : Model) (number : ℕ) → Shrinks (TokenValues model number)
values_no_longer model number text rest values (pred, (is_pred, (first, (mid, (is_first, (last, (behind, ((more, (none, (is_more, (said, (left, (is_none, (same', is'))))))), (same, is))))))))) =
    omega (arith, first_no_longer model text mid first is_first, parameters_no_longer model (names_of pred.params) pred.params mid none more is_more, ap length is_none.0, ap length is', ap length is)

after_no_longer : (model : Model) (names : List VarName) (keyword : Keyword) → Shrinks (AfterKeyword model names keyword)
after_no_longer model names keywords.Global text rest said (named, (mid, (is_named, (value, (last, (is_value, (same, is))))))) =
    omega (arith, word_shrinks (codes " ") text is_named.0 mid is_named.1.0, value_no_longer model named.kind mid last value is_value, ap length is)
after_no_longer model names keywords.Fact text rest said (named, (mid, (is_named, (tt', (behind, (is_pred, (values, (last, (are, (same, is)))))))))) =
    omega (arith, word_shrinks (codes " ") text is_named.0 mid is_named.1.0, word_shrinks (codes " ") mid is_pred.0 behind is_pred.1.0, values_no_longer model named.pred behind last values are, ap length is)
after_no_longer model names keywords.Token text rest said (named, (mid, (is_named, (tt', (behind, (is_pred, (values, (last, (are, (same, is)))))))))) =
    omega (arith, word_shrinks (codes " ") text is_named.0 mid is_named.1.0, word_shrinks (codes " ") mid is_pred.0 behind is_pred.1.0, values_no_longer model named.pred behind last values are, ap length is)
after_no_longer model names keywords.Merged text rest said (named, (mid, (is_named, (target, (last, (is_target, (same, is))))))) =
    omega (arith, word_shrinks (codes " ") text is_named.0 mid is_named.1.0, word_shrinks (codes " ") mid is_target.0 last is_target.1.0, ap length is)
after_no_longer model names keywords.Rejected text rest said (named, (mid, (is_named, (same, is)))) = omega (arith, word_shrinks (codes " ") text is_named.0 mid is_named.1.0, ap length is)
after_no_longer model names keywords.Local text rest said (named, (mid, (is_named, (value, (last, (is_value, (same, is))))))) =
    omega (arith, word_shrinks (codes " ") text is_named.0 mid is_named.1.0, value_no_longer model named.kind mid last value is_value, ap length is)
after_no_longer model names keywords.End text rest said (same, is) = omega (arith, ap length is)

pub line_shrinks : (model : Model) (names : List VarName) (text rest : List ℕ) (said : Option Statement) → OneLine model names text (Got said rest) → length rest < length text
line_shrinks model names text rest said (keyword, (mid, (is_keyword, after))) = omega (arith, word_shrinks (codes "\n") text is_keyword.0 mid is_keyword.1.0, after_no_longer model names keyword mid rest said after)

-- ---- each line is about something new

token_new : (model : Model) (names : List VarName) (text mid : List ℕ) (named : NamedToken) → OneToken model names text (Got named mid) → Contains names (variables.Token named.name Start) → ⊥
token_new model names text mid named (word, (has, fresh)) again = fresh.new (subst (Contains names) (sym fresh.wanted.0) again)

some_is : {X : Type 0} (one other : X) → Some one ≡ Some other → one ≡ other
some_is one other same = cc

pub line_is_new : (model : Model) (names : List VarName) (text rest : List ℕ) (said : Statement) → OneLine model names text (Got (Some said) rest) → Contains names (stated_name said) → ⊥
line_is_new model names text rest said (keyword, (mid, (is_keyword, after))) = by keyword mid after
  where
    by : (keyword : Keyword) (mid : List ℕ) → AfterKeyword model names keyword mid (Got (Some said) rest) → Contains names (stated_name said) → ⊥
    by keywords.Global mid (named, (last, ((word, (has, fresh)), (value, (end, (is_value, (same, is))))))) again =
        fresh.new (subst (Contains names) (sym fresh.wanted.0) (subst (λ s. Contains names (stated_name s)) (some_is said (Global named.number value) same) again))
    by keywords.Fact mid (named, (last, (is_named, (tt', (behind, (is_pred, (values, (end, (are, (same, is)))))))))) again =
        token_new model names mid last named is_named (subst (λ s. Contains names (stated_name s)) (some_is said (Of (lines.Token named.name true values)) same) again)
    by keywords.Token mid (named, (last, (is_named, (tt', (behind, (is_pred, (values, (end, (are, (same, is)))))))))) again =
        token_new model names mid last named is_named (subst (λ s. Contains names (stated_name s)) (some_is said (Of (lines.Token named.name false values)) same) again)
    by keywords.Merged mid (named, (last, (is_named, (target, (end, (is_target, (same, is))))))) again =
        token_new model names mid last named is_named (subst (λ s. Contains names (stated_name s)) (some_is said (Of (lines.Merged named.name target)) same) again)
    by keywords.Rejected mid (named, (last, (is_named, (same, is)))) again =
        token_new model names mid last named is_named (subst (λ s. Contains names (stated_name s)) (some_is said (Of (lines.Rejected named.name)) same) again)
    by keywords.Local mid (named, (last, ((word, (has, fresh)), (value, (end, (is_value, (same, is))))))) again =
        fresh.new (subst (Contains names) (sym fresh.wanted.0) (subst (λ s. Contains names (stated_name s)) (some_is said (Of (lines.Local named.name value)) same) again))
    by keywords.End mid (same, is) again = cc

-- ---- each line is one of the model

-- what is said is of the model
abbrev pub IsSaidOf : Model → Statement → Type 0
IsSaidOf model (Global number value) = (variable : VarDecl) × (IsGlobal model number variable × IsValueOf model variable.kind value)
IsSaidOf model (Of line) = IsLineOf model line

pub value_is_of : (model : Model) (kind : ValueKind) (value : ℤ) (word : List ℕ) → IsValueText model kind value word → IsValueOf model kind value
value_is_of model kinds.Int value word is = is.0
value_is_of model kinds.Float value word is = is.0
value_is_of model kinds.Bool value word (inl is) = inl is.0
value_is_of model kinds.Bool value word (inr is) = inr is.0
value_is_of model (kinds.Enum number) value word is = record { found = is.found; is_enum = is.is_enum; place = is.place; is_place = is.is_place; member = word; is_member = is.is_member }
value_is_of model kinds.Object value word (object, (is, named)) = (object, is)

found_value : (model : Model) (kind : ValueKind) (text rest : List ℕ) (value : ℤ) → OneValue model kind text (Got value rest) → IsValueOf model kind value
found_value model kind text rest value (word, (has, is)) = value_is_of model kind value word is

found_part : (model : Model) (label : List ℕ) (kind : ValueKind) (text rest : List ℕ) (value : ℤ) → OnePart model label kind text (Got value rest) → IsValueOf model kind value
found_part model label kind text rest value (said, (mid, (first, second))) = found_value model kind mid rest value second

-- what is read is kept as it is handed on
pub part_kept : (model : Model) (label : List ℕ) (kind : ValueKind) (text rest : List ℕ) (value : ℤ) → IsLawful model → OnePart model label kind text (Got value rest) → to_z w32 (of_z w32 value) ≡ value
part_kept model label kind text rest value lawful part = kept_value model kind value lawful (found_part model label kind text rest value part)

pub parameter_kept : (model : Model) (names : List (List ℕ)) (variable : VarDecl) (text rest : List ℕ) (value : ℤ) → IsLawful model → OneParameter model names variable text (Got value rest) → to_z w32 (of_z w32 value) ≡ value
parameter_kept model names variable text rest value lawful (said, (label, (is_label, is_value))) = kept_value model variable.kind value lawful (found_value model variable.kind label rest value is_value)

found_parameters : (model : Model) (names : List (List ℕ)) (params : List VarDecl) (text rest : List ℕ) (values : List ℤ) → Parameters model names params text (Got values rest)
    → AllZip (IsValueOf model) (map (λ variable. variable.kind) params) values
found_parameters model names [] text rest values (same, is) = subst (AllZip (IsValueOf model) []) (sym same) tt
found_parameters model names (variable ∷ params) text rest values (value, (mid, ((said, (label, (is_label, is_value))), (more, (last, (others, (same, is))))))) =
    subst (AllZip (IsValueOf model) (map (λ (v : VarDecl). v.kind) (variable ∷ params))) (sym same) (found_value model variable.kind label mid value is_value, found_parameters model names params mid last more others)

found_first : (model : Model) (text rest : List ℕ) (values : List ℤ) → FirstParts model text (Got values rest) → AllZip (IsValueOf model) (kinds.Int ∷ kinds.Int ∷ kinds.Int ∷ kinds.Object ∷ []) values
found_first model text rest values (start, (one, (is_start, (end, (two, (is_end, (duration, (three, (is_duration, (object, (four, (is_object, (same, is))))))))))))) =
    subst (AllZip (IsValueOf model) (kinds.Int ∷ kinds.Int ∷ kinds.Int ∷ kinds.Object ∷ [])) (sym same) (
      found_part model (codes "start") kinds.Int text one start is_start,
      (
        found_part model (codes "end") kinds.Int one two end is_end,
        (
          found_part model (codes "duration") kinds.Int two three duration is_duration,
          (found_part model (codes "object") kinds.Object three four object is_object, tt),
        ),
      ),
    )

zip_append : (model : Model) (first others : List ValueKind) (values more : List ℤ) → AllZip (IsValueOf model) first values → AllZip (IsValueOf model) others more → AllZip (IsValueOf model) (first ++ others) (values ++ more)
zip_append model [] others [] more zip rest = rest
zip_append model [] others (value ∷ values) more zip rest = absurd zip
zip_append model (kind ∷ first) others [] more zip rest = absurd zip
zip_append model (kind ∷ first) others (value ∷ values) more zip rest = (zip.0, zip_append model first others values more zip.1 rest)

found_values : (model : Model) (number : ℕ) (text rest : List ℕ) (values : List ℤ) → TokenValues model number text (Got values rest) → AreTokenValues model number values
found_values model number text rest values (pred, (is_pred, (first, (mid, (is_first, (last, (behind, ((more, (none, (is_more, (said, (left, (is_none, (same', is'))))))), (same, is))))))))) = (
  pred,
  is_pred,
  subst (AllZip (IsValueOf model) (value_kinds pred)) (sym same)
      (zip_append model (kinds.Int ∷ kinds.Int ∷ kinds.Int ∷ kinds.Object ∷ []) (map (λ (v : VarDecl). v.kind) pred.params) first last (found_first model text mid first is_first)
      (subst (AllZip (IsValueOf model) (map (λ (v : VarDecl). v.kind) pred.params)) (sym same') (found_parameters model (names_of pred.params) pred.params mid none more is_more))),
)

found_line : (model : Model) (names : List VarName) (text mid behind last : List ℕ) (named : NamedToken) (fact : Bool) (values : List ℤ) → OneToken model names text (Got named mid) → TokenValues model named.pred behind (Got values last)
    → IsLineOf model (lines.Token named.name fact values)
found_line model names text mid behind last named fact values (word, (has, fresh)) are =
    let slot = fresh.wanted.1 in
    (slot.0, slot.1.0, subst (λ n. AreTokenValues model n values) slot.1.1 (found_values model named.pred behind last values are))

found_token : (model : Model) (names : List VarName) (text mid : List ℕ) (named : NamedToken) → OneToken model names text (Got named mid) → IsToken model named.name
found_token model names text mid named (word, (has, fresh)) = (fresh.wanted.1.0, fresh.wanted.1.1.0)

found_local : (model : Model) (name : VarName) (kind : ValueKind) (value : ℤ) → IsLocalOfKind model kind name → IsValueOf model kind value → IsLocalValue model name value
found_local model (variables.Global number) kind value of is = absurd of
found_local model (variables.Token token part) kind value of is = absurd of
found_local model (variables.Local token rule number) kind value (slot, (has, (variable, (local, same)))) is = (slot, has, (variable, local, subst (λ k. IsValueOf model k value) same is))

pub line_is_of : (model : Model) (names : List VarName) (text rest : List ℕ) (said : Statement) → OneLine model names text (Got (Some said) rest) → IsSaidOf model said
line_is_of model names text rest said (keyword, (mid, (is_keyword, after))) = by keyword mid after
  where
    by : (keyword : Keyword) (mid : List ℕ) → AfterKeyword model names keyword mid (Got (Some said) rest) → IsSaidOf model said
    by keywords.Global mid (named, (last, ((word, (has, fresh)), (value, (end, (is_value, (same, is))))))) =
        let of = fresh.wanted.1 in
        subst (IsSaidOf model) (sym (some_is said (Global named.number value) same)) (of.0, (of.1.0, subst (λ k. IsValueOf model k value) of.1.1 (found_value model named.kind last end value is_value)))
    by keywords.Fact mid (named, (last, (is_named, (tt', (behind, (is_pred, (values, (end, (are, (same, is)))))))))) =
        subst (IsSaidOf model) (sym (some_is said (Of (lines.Token named.name true values)) same)) (found_line model names mid last behind end named true values is_named are)
    by keywords.Token mid (named, (last, (is_named, (tt', (behind, (is_pred, (values, (end, (are, (same, is)))))))))) =
        subst (IsSaidOf model) (sym (some_is said (Of (lines.Token named.name false values)) same)) (found_line model names mid last behind end named false values is_named are)
    by keywords.Merged mid (named, (last, (is_named, (target, (end, ((word, (has, is_target)), (same, is))))))) =
        subst (IsSaidOf model) (sym (some_is said (Of (lines.Merged named.name target)) same)) (found_token model names mid last named is_named, (is_target.names.1.0, is_target.names.1.1.has_token))
    by keywords.Rejected mid (named, (last, (is_named, (same, is)))) =
        subst (IsSaidOf model) (sym (some_is said (Of (lines.Rejected named.name)) same)) (found_token model names mid last named is_named)
    by keywords.Local mid (named, (last, ((word, (has, fresh)), (value, (end, (is_value, (same, is))))))) =
        subst (IsSaidOf model) (sym (some_is said (Of (lines.Local named.name value)) same)) (found_local model named.name named.kind value (subst (IsLocalOfKind model named.kind) fresh.wanted.0 fresh.wanted.1) (found_value model named.kind last end value is_value))
    by keywords.End mid (same, is) = cc
