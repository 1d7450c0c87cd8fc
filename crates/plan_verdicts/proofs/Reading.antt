-- A text is read as statements, or has a first fault.
use Rattle.std.proofs.Common.{◌≡◌, ℕ, zero, suc, ◌<◌, ◌⊎◌, inl, inr, Bool, true, false, ℤ, List, [], ◌∷◌, ◌++◌, length, slice_get, Option, Some, None, refl, sym, ap, ◌∙◌, subst, append_assoc, codes, arith}
use Rattle.std.specs.Prelude.{Contains, ⊤}
use Rattle.std.proofs.lemmas.List.{append-nil}
use Rattle.eu_name.specs.declared.name.TokenName.{TokenName}
use Rattle.eu_name.specs.declared.name.VarName.{VarName}
use Rattle.law_states.specs.Undeniable.{Undeniable}
use Rattle.law_states.proofs.Denying.{is_or_not}
use Rattle.model_core.specs.declared.class.Pred.{Pred}
use Rattle.model_core.specs.declared.model.Model.{Model}
use Rattle.model_core.specs.declared.variable.ValueKind.{ValueKind}
use Rattle.model_core.specs.declared.variable.ValueKind.TheVariants as kinds
use Rattle.model_core.specs.declared.variable.VarDecl.{VarDecl}
use Rattle.model_core.specs.Lawful.{IsLawful}
use Rattle.model_core.specs.Naming.{names_of}
use Rattle.plan_defs.proofs.Kinding.{pred_of_slot}
use Rattle.plan_text.specs.declared.fault.Wrong.{Wrong}
use Rattle.plan_text.specs.declared.fault.Wrong.TheVariants.{Syntax, Twice, Unknown, Memory}
use Rattle.plan_text.specs.declared.statement.Keyword.{Keyword}
use Rattle.plan_text.specs.declared.statement.Keyword.TheVariants as keywords
use Rattle.plan_text.specs.declared.statement.Statement.{Statement}
use Rattle.plan_text.specs.declared.subject.NamedToken.{NamedToken}
use Rattle.plan_text.specs.Found.{Found, Got, Stopped, Done, OneWord, Then, IsOther, Exactly}
use Rattle.plan_text.specs.Lines.{keyword_text, IsNoKeyword, OneKeyword, IsStrangeName, IsOtherParameter, OnePart, FirstParts, OneParameter, Parameters, NoneLeft, LastParts, TokenValues, AfterKeyword, OneLine}
use Rattle.plan_text.specs.PlanTexts.{opening_text, IsNoOpening, IsCount, IsNoCount, AfterOpening, Opening, IsLast, TextEnding, names_stated, HasLines, AllLines, WholeText}
use Rattle.plan_text.specs.Subjects.{IsNameOf, IsNameWord, IsFreshName, IsNoFreshName, IsGlobalOf, IsTokenOf, IsLocalOf, IsTargetName, IsNoTarget, IsPredicateText, AreTwoNames, IsNoPredicate, OneGlobal, OneToken, OneLocal, OneTarget, OnePredicate}
use Rattle.plan_text.specs.Values.{IsValueWord, IsValueText, IsNoValueText, OneValue}
use Rattle.plan_text.specs.Words.{HasWord}
use Rattle.plan_core.proofs.Lining.{line_shrinks}

-- ---- what is found

syntax_told : Syntax ≡ Memory → ⊥
syntax_told same = cc

twice_told : Twice ≡ Memory → ⊥
twice_told same = cc

unknown_told : Unknown ≡ Memory → ⊥
unknown_told same = cc

-- it isn't want of memory
abbrev pub IsTold : {X : Type 0} → Found X → Type 0
IsTold (Got x rest) = ⊤
IsTold (Stopped wrong at) = wrong ≡ Memory → ⊥

-- the reader finds something
abbrev pub FindsSome : {X : Type 0} → (List ℕ → Found X → Type 0) → List ℕ → Type 0
FindsSome {X = X} Reader text = (found : Found X) × (Reader text found × IsTold found)

-- in each text
pub record ReadsSome {X : Type 0} (Reader : List ℕ → Found X → Type 0) : Type 0 where
  pub reads : (text : List ℕ) → Undeniable (FindsSome Reader text)

-- ---- words

-- a word says something, or is wrong in some way
abbrev IsJudged : {X : Type 0} → (X → List ℕ → Type 0) → (Wrong → List ℕ → Type 0) → List ℕ → Type 0
IsJudged {X = X} Says Amiss word =
    ((x : X) × Says x word) ⊎ ((wrong : Wrong) × (Amiss wrong word × (wrong ≡ Memory → ⊥)))

module _ {X : Type 0} (Says : X → List ℕ → Type 0) (Amiss : Wrong → List ℕ → Type 0) where
  judged_by : (word : List ℕ) → (((x : X) → Says x word → ⊥) → Undeniable ((wrong : Wrong) × (Amiss wrong word × (wrong ≡ Memory → ⊥))))
      → Undeniable (IsJudged Says Amiss word)
  judged_by word amiss none = is_or_not ((x : X) × Says x word) (λ which. elim which [
    | inl says ↦ none (inl says)
    | inr not ↦ amiss (λ x says. not (x, says)) (λ wrong. none (inr wrong))
  ])

  module _ (gap : List ℕ) (judged : (word : List ℕ) → Undeniable (IsJudged Says Amiss word)) where
    found_word : (text word rest : List ℕ) → HasWord gap text word rest → IsJudged Says Amiss word → FindsSome (OneWord gap Says Amiss) text
    found_word text word rest has (inl says) = (Got says.0 rest, ((word, (has, says.1)), tt))
    found_word text word rest has (inr amiss) = (Stopped amiss.0 text, (inr (refl, inr (word, (rest, (has, amiss.1.0)))), amiss.1.1))

    word_reads : (text : List ℕ) → Undeniable (FindsSome (OneWord gap Says Amiss) text)
    word_reads text none = is_or_not ((word : List ℕ) × ((rest : List ℕ) × HasWord gap text word rest)) (λ which. elim which [
      | inl has ↦ judged has.0 (λ said. none (found_word text has.0 has.1.0 has.1.1 said))
      | inr lacks ↦ none (Stopped Syntax text, (inr (refl, inl (refl, λ word rest has. lacks (word, (rest, has)))), syntax_told))
    ])

    word_some : ReadsSome (OneWord gap Says Amiss)
    word_some = record { reads = word_reads }

-- ---- one reader after another

module _ {X Y : Type 0} (One : List ℕ → Found X → Type 0) (Other : X → List ℕ → Found Y → Type 0) where
  behind : (text mid : List ℕ) (x : X) → One text (Got x mid) → (found : Found Y) → Other x mid found → IsTold found → FindsSome (Then One Other) text
  behind text mid x is (Got y rest) next told = (Got y rest, ((x, (mid, (is, next))), tt))
  behind text mid x is (Stopped wrong at) next told = (Stopped wrong at, (inr (x, (mid, (is, next))), told))

  module _ (second : (text mid : List ℕ) (x : X) → One text (Got x mid) → ReadsSome (Other x)) where
    after : (text : List ℕ) (found : Found X) → One text found → IsTold found → Undeniable (FindsSome (Then One Other) text)
    after text (Stopped wrong at) is told none = none (Stopped wrong at, (inl is, told))
    after text (Got x mid) is told none = (second text mid x is).reads mid (λ found. none (behind text mid x is found.0 found.1.0 found.1.1))

    then_if : ReadsSome One → ReadsSome (Then One Other)
    then_if first = record { reads = λ text none. first.reads text (λ found. after text found.0 found.1.0 found.1.1 none) }

  then_some : ReadsSome One → ((x : X) → ReadsSome (Other x)) → ReadsSome (Then One Other)
  then_some first second = then_if (λ text mid x is. second x) first

done_some : {X : Type 0} (said : X) → ReadsSome (Done said)
done_some said = record { reads = λ text none. none (Got said text, ((refl, refl), tt)) }

-- ---- single words

exactly_some : (gap expected : List ℕ) → ReadsSome (Exactly gap expected)
exactly_some gap expected = word_some (λ (said : Unit {0}) word. word ≡ expected) (IsOther expected) gap
    (λ word. judged_by (λ (said : Unit {0}) word. word ≡ expected) (IsOther expected) word (λ not none. none (Syntax, (not tt, syntax_told))))

keyword_some : ReadsSome OneKeyword
keyword_some = word_some (λ (keyword : Keyword) word. word ≡ keyword_text keyword) IsNoKeyword (codes "\n")
    (λ word. judged_by (λ (keyword : Keyword) word. word ≡ keyword_text keyword) IsNoKeyword word (λ not none. none (Syntax, (not, syntax_told))))

value_amiss : (model : Model) (kind : ValueKind) (word : List ℕ) → ((value : ℤ) → IsValueText model kind value word → ⊥)
    → Undeniable ((wrong : Wrong) × (IsNoValueText model kind wrong word × (wrong ≡ Memory → ⊥)))
value_amiss model kind word not none = is_or_not (IsValueWord word) (λ which. elim which [
  | inl is ↦ none (Unknown, ((is, not), unknown_told))
  | inr other ↦ none (Syntax, (other, syntax_told))
])

value_some : (model : Model) (kind : ValueKind) → ReadsSome (OneValue model kind)
value_some model kind = word_some (IsValueText model kind) (IsNoValueText model kind) (codes " ")
    (λ word. judged_by (IsValueText model kind) (IsNoValueText model kind) word (value_amiss model kind word))

module _ (model : Model) (names : List VarName) {Sort : Type 0} (IsOf : Sort → VarName → Type 0) where
  abbrev Wanted : VarName → Type 0
  Wanted name = (found : Sort) × IsOf found name

  fresh_unknown : (word : List ℕ) → IsNameWord word → ((found : Sort) → IsFreshName model names (IsOf found) word → ⊥)
      → ((name : VarName) × (IsNameOf model name word × Contains names name) → ⊥) → IsNoFreshName model names Wanted Unknown word
  fresh_unknown word spelled not new = (
    spelled,
    λ name is. (
      λ again. new (name, (is, again)),
      λ wanted. not wanted.0 (record { name = name; is_name = is; wanted = wanted.1; new = λ again. new (name, (is, again)) }),
    ),
  )

  fresh_amiss : (word : List ℕ) → ((found : Sort) → IsFreshName model names (IsOf found) word → ⊥)
      → Undeniable ((wrong : Wrong) × (IsNoFreshName model names Wanted wrong word × (wrong ≡ Memory → ⊥)))
  fresh_amiss word not none = is_or_not (IsNameWord word) (λ which. elim which [
    | inr other ↦ none (Syntax, (other, syntax_told))
    | inl spelled ↦ is_or_not ((name : VarName) × (IsNameOf model name word × Contains names name)) (λ again. elim again [
      | inl known ↦ none (Twice, (known, twice_told))
      | inr new ↦ none (Unknown, (fresh_unknown word spelled not new, unknown_told))
    ])
  ])

  fresh_some : ReadsSome (OneWord (codes " ") (λ (found : Sort). IsFreshName model names (IsOf found)) (IsNoFreshName model names Wanted))
  fresh_some = word_some (λ (found : Sort). IsFreshName model names (IsOf found)) (IsNoFreshName model names Wanted) (codes " ")
      (λ word. judged_by (λ (found : Sort). IsFreshName model names (IsOf found)) (IsNoFreshName model names Wanted) word (fresh_amiss word))

target_amiss : (model : Model) (word : List ℕ) → ((target : TokenName) → IsTargetName model target word → ⊥)
    → Undeniable ((wrong : Wrong) × (IsNoTarget model wrong word × (wrong ≡ Memory → ⊥)))
target_amiss model word not none = is_or_not (IsNameWord word) (λ which. elim which [
  | inl spelled ↦ none (Unknown, ((spelled, not), unknown_told))
  | inr other ↦ none (Syntax, (other, syntax_told))
])

target_some : (model : Model) → ReadsSome (OneTarget model)
target_some model = word_some (IsTargetName model) (IsNoTarget model) (codes " ")
    (λ word. judged_by (IsTargetName model) (IsNoTarget model) word (target_amiss model word))

predicate_amiss : (model : Model) (number : ℕ) (word : List ℕ) → (IsPredicateText model number word → ⊥)
    → Undeniable ((wrong : Wrong) × (IsNoPredicate model number wrong word × (wrong ≡ Memory → ⊥)))
predicate_amiss model number word not none = is_or_not (AreTwoNames word) (λ which. elim which [
  | inl two ↦ none (Unknown, ((two, not), unknown_told))
  | inr other ↦ none (Syntax, (other, syntax_told))
])

predicate_some : (model : Model) (number : ℕ) → ReadsSome (OnePredicate model number)
predicate_some model number = word_some (λ (said : Unit {0}). IsPredicateText model number) (IsNoPredicate model number) (codes " ")
    (λ word. judged_by (λ (said : Unit {0}). IsPredicateText model number) (IsNoPredicate model number) word (λ not. predicate_amiss model number word (not tt)))

-- ---- values of tokens

part_some : (model : Model) (label : List ℕ) (kind : ValueKind) → ReadsSome (OnePart model label kind)
part_some model label kind = then_some (Exactly (codes " ") label) (λ said. OneValue model kind) (exactly_some (codes " ") label) (λ said. value_some model kind)

first_some : (model : Model) → ReadsSome (FirstParts model)
first_some model =
    then_some (OnePart model (codes "start") kinds.Int) _ (part_some model (codes "start") kinds.Int) (λ start.
    then_some (OnePart model (codes "end") kinds.Int) _ (part_some model (codes "end") kinds.Int) (λ end.
    then_some (OnePart model (codes "duration") kinds.Int) _ (part_some model (codes "duration") kinds.Int) (λ duration.
    then_some (OnePart model (codes "object") kinds.Object) (λ object. Done (start ∷ end ∷ duration ∷ object ∷ [])) (part_some model (codes "object") kinds.Object)
    (λ object. done_some (start ∷ end ∷ duration ∷ object ∷ [])))))

label_amiss : (names : List (List ℕ)) (expected word : List ℕ) → (word ≡ expected → ⊥)
    → Undeniable ((wrong : Wrong) × (IsOtherParameter names expected wrong word × (wrong ≡ Memory → ⊥)))
label_amiss names expected word not none = is_or_not (IsStrangeName names word) (λ which. elim which [
  | inl strange ↦ none (Unknown, ((not, strange), unknown_told))
  | inr other ↦ none (Syntax, ((not, other), syntax_told))
])

parameter_some : (model : Model) (names : List (List ℕ)) (variable : VarDecl) → ReadsSome (OneParameter model names variable)
parameter_some model names variable =
    then_some (OneWord (codes " ") (λ (said : Unit {0}) word. word ≡ variable.name) (IsOtherParameter names variable.name)) (λ said. OneValue model variable.kind)
    (word_some (λ (said : Unit {0}) word. word ≡ variable.name) (IsOtherParameter names variable.name) (codes " ")
    (λ word. judged_by (λ (said : Unit {0}) word. word ≡ variable.name) (IsOtherParameter names variable.name) word
    (λ not. label_amiss names variable.name word (not tt)))) (λ said. value_some model variable.kind)

parameters_some : (model : Model) (names : List (List ℕ)) (params : List VarDecl) → ReadsSome (Parameters model names params)
parameters_some model names [] = done_some []
parameters_some model names (variable ∷ params) =
    then_some (OneParameter model names variable) (λ value. Then (Parameters model names params) (λ values. Done (value ∷ values))) (parameter_some model names variable) (λ value.
    then_some (Parameters model names params) (λ values. Done (value ∷ values)) (parameters_some model names params) (λ values. done_some (value ∷ values)))

surplus_found : (names : List (List ℕ)) (text word rest : List ℕ) → HasWord (codes " ") text word rest → Undeniable (FindsSome (NoneLeft names) text)
surplus_found names text word rest has none = is_or_not (IsStrangeName names word) (λ which. elim which [
  | inl strange ↦ none (Stopped Unknown text, (inr (refl, (word, (rest, (has, strange)))), unknown_told))
  | inr other ↦ none (Stopped Syntax text, (inr (refl, (word, (rest, (has, other)))), syntax_told))
])

none_left_reads : (names : List (List ℕ)) (text : List ℕ) → Undeniable (FindsSome (NoneLeft names) text)
none_left_reads names text none = is_or_not ((word : List ℕ) × ((rest : List ℕ) × HasWord (codes " ") text word rest)) (λ which. elim which [
  | inl has ↦ surplus_found names text has.0 has.1.0 has.1.1 none
  | inr lacks ↦ none (Got tt text, ((refl, λ word rest has. lacks (word, (rest, has))), tt))
])

none_left_some : (names : List (List ℕ)) → ReadsSome (NoneLeft names)
none_left_some names = record { reads = none_left_reads names }

last_some : (model : Model) (params : List VarDecl) → ReadsSome (LastParts model params)
last_some model params =
    then_some (Parameters model (names_of params) params) (λ values. Then (NoneLeft (names_of params)) (λ said. Done values)) (parameters_some model (names_of params) params) (λ values.
    then_some (NoneLeft (names_of params)) (λ said. Done values) (none_left_some (names_of params)) (λ said. done_some values))

parts_some : (model : Model) (params : List VarDecl) → ReadsSome (Then (FirstParts model) (λ first. Then (LastParts model params) (λ last. Done (first ++ last))))
parts_some model params =
    then_some (FirstParts model) (λ first. Then (LastParts model params) (λ last. Done (first ++ last))) (first_some model) (λ first.
    then_some (LastParts model params) (λ last. Done (first ++ last)) (last_some model params) (λ last. done_some (first ++ last)))

values_some : (model : Model) (number : ℕ) (pred : Pred) → slice_get model.preds number ≡ Some pred → ReadsSome (TokenValues model number)
values_some model number pred is = record {
  reads = λ text none. (parts_some model pred.params).reads text (λ found. none (found.0, ((pred, (is, found.1.0)), found.1.1)));
}

-- ---- lines

module _ (model : Model) (lawful : IsLawful model) where
  named_pred : (names : List VarName) (text mid : List ℕ) (found : NamedToken) → OneToken model names text (Got found mid) → (pred : Pred) × (slice_get model.preds found.pred ≡ Some pred)
  named_pred names text mid found (word, (has, fresh)) =
      let slot = fresh.wanted.1 in
      let pred = pred_of_slot model found.name slot.0 lawful slot.1.0 in
      (pred.0, ap (slice_get model.preds) slot.1.1 ∙ pred.1)

  token_some : (names : List VarName) → ReadsSome (OneToken model names)
  token_some names = fresh_some model names (IsTokenOf model)

  active_some : (names : List VarName) (Last : NamedToken → List ℤ → List ℕ → Found (Option Statement) → Type 0)
      → ((found : NamedToken) (values : List ℤ) → ReadsSome (Last found values))
      → ReadsSome (Then (OneToken model names) (λ found. Then (OnePredicate model found.pred) (λ said. Then (TokenValues model found.pred) (Last found))))
  active_some names Last last =
      then_if (OneToken model names) (λ found. Then (OnePredicate model found.pred) (λ said. Then (TokenValues model found.pred) (Last found))) (λ text mid found is.
      then_some (OnePredicate model found.pred) (λ said. Then (TokenValues model found.pred) (Last found)) (predicate_some model found.pred) (λ said.
      then_some (TokenValues model found.pred) (Last found)
      (let pred = named_pred names text mid found is in values_some model found.pred pred.0 pred.1) (last found))) (token_some names)

  after_some : (names : List VarName) (keyword : Keyword) → ReadsSome (AfterKeyword model names keyword)
  after_some names keywords.Global =
      then_some (OneGlobal model names) _ (fresh_some model names (IsGlobalOf model)) (λ found.
      then_some (OneValue model found.kind) _ (value_some model found.kind) (λ value. done_some _))
  after_some names keywords.Fact = active_some names _ (λ found values. done_some _)
  after_some names keywords.Token = active_some names _ (λ found values. done_some _)
  after_some names keywords.Merged =
      then_some (OneToken model names) _ (token_some names) (λ found. then_some (OneTarget model) _ (target_some model) (λ target. done_some _))
  after_some names keywords.Rejected = then_some (OneToken model names) _ (token_some names) (λ found. done_some _)
  after_some names keywords.Local =
      then_some (OneLocal model names) _ (fresh_some model names (IsLocalOf model)) (λ found.
      then_some (OneValue model found.kind) _ (value_some model found.kind) (λ value. done_some _))
  after_some names keywords.End = done_some None

  line_some : (names : List VarName) → ReadsSome (OneLine model names)
  line_some names = then_some OneKeyword (AfterKeyword model names) keyword_some (after_some names)

  -- lines up to `end`, behind those that were read before
  abbrev LinesBehind : List Statement → List ℕ → Found (List Statement) → Type 0
  LinesBehind before text (Got said rest) =
      (mid : List ℕ) × (HasLines model before text said mid × OneLine model (names_stated (before ++ said)) mid (Got None rest))
  LinesBehind before text (Stopped wrong at) =
      (said : List Statement) × ((mid : List ℕ)
      × (HasLines model before text said mid × OneLine model (names_stated (before ++ said)) mid (Stopped wrong at)))

  abbrev HasLinesBehind : List Statement → List ℕ → Type 0
  HasLinesBehind before text = (found : Found (List Statement)) × (LinesBehind before text found × IsTold found)

  -- behind none
  at_once : (before : List Statement) (text : List ℕ) (found : Found (Option Statement)) → OneLine model (names_stated before) text found
      → OneLine model (names_stated (before ++ [])) text found
  at_once before text found is = subst (λ (s : List Statement). OneLine model (names_stated s) text found) (sym (append-nil before)) is

  -- behind one more
  one_line_more : (before : List Statement) (text mid : List ℕ) (first : Statement) → OneLine model (names_stated before) text (Got (Some first) mid)
      → (found : Found (List Statement)) → LinesBehind (before ++ first ∷ []) mid found → IsTold found → HasLinesBehind before text
  one_line_more before text mid first is (Got said rest) (last, (has, line)) told = (
    Got (first ∷ said) rest,
    (
      (last, ((mid, (is, has)), subst (λ (s : List Statement). OneLine model (names_stated s) last (Got None rest)) (append_assoc before (first ∷ []) said) line)),
      tt,
    ),
  )
  one_line_more before text mid first is (Stopped wrong at) (said, (last, (has, line))) told = (
    Stopped wrong at,
    (
      (
        first ∷ said,
        (
          last,
          ((mid, (is, has)), subst (λ (s : List Statement). OneLine model (names_stated s) last (Stopped wrong at)) (append_assoc before (first ∷ []) said) line),
        ),
      ),
      told,
    ),
  )

  line_found : (before : List Statement) (text : List ℕ) (found : Found (Option Statement)) → OneLine model (names_stated before) text found → IsTold found
      → ((first : Statement) (mid : List ℕ) → OneLine model (names_stated before) text (Got (Some first) mid) → Undeniable (HasLinesBehind before text))
      → Undeniable (HasLinesBehind before text)
  line_found before text (Stopped wrong at) is told deeper none =
      none (Stopped wrong at, (([], (text, (refl, at_once before text (Stopped wrong at) is))), told))
  line_found before text (Got None rest) is told deeper none = none (Got [] rest, ((text, (refl, at_once before text (Got None rest) is)), tt))
  line_found before text (Got (Some first) mid) is told deeper none = deeper first mid is none

  lines_some : (most : ℕ) (before : List Statement) (text : List ℕ) → length text < most → Undeniable (HasLinesBehind before text)
  lines_some zero before text small none = absurd (omega (arith, small))
  lines_some (suc most) before text small none = (line_some (names_stated before)).reads text (λ line.
      line_found before text line.0 line.1.0 line.1.1 (λ first mid is fails.
      lines_some most (before ++ first ∷ []) mid (omega (arith, small, line_shrinks model (names_stated before) text mid (Some first) is)) (λ rest.
      fails (one_line_more before text mid first is rest.0 rest.1.0 rest.1.1))) none)

  all_found : (text : List ℕ) → HasLinesBehind [] text → FindsSome (AllLines model) text
  all_found text (Got said rest, (is, told)) = (Got said rest, (is, tt))
  all_found text (Stopped wrong at, (is, told)) = (Stopped wrong at, (is, told))

  all_lines_some : ReadsSome (AllLines model)
  all_lines_some = record { reads = λ text none. lines_some (suc (length text)) [] text (omega arith) (λ found. none (all_found text found)) }

  -- ---- texts

  opening_some : ReadsSome Opening
  opening_some = then_some (OneWord [] (λ (counted : Bool) word. word ≡ opening_text counted) IsNoOpening) AfterOpening
      (word_some (λ (counted : Bool) word. word ≡ opening_text counted) IsNoOpening []
      (λ word. judged_by (λ (counted : Bool) word. word ≡ opening_text counted) IsNoOpening word (λ not none. none (Syntax, (not, syntax_told))))) after_opening
    where
      after_opening : (counted : Bool) → ReadsSome (AfterOpening counted)
      after_opening false = done_some tt
      after_opening true =
          then_some (OneWord (codes " ") (λ (said : Unit {0}) word. IsCount word) IsNoCount) (λ said. Exactly (codes "\n") (codes "plan"))
          (word_some (λ (said : Unit {0}) word. IsCount word) IsNoCount (codes " ")
          (λ word. judged_by (λ (said : Unit {0}) word. IsCount word) IsNoCount word (λ not none. none (Syntax, (not tt, syntax_told)))))
          (λ said. exactly_some (codes "\n") (codes "plan"))

  ending_reads : (text : List ℕ) → Undeniable (FindsSome TextEnding text)
  ending_reads text none = is_or_not (IsLast text) (λ which. elim which [
    | inl last ↦ none (Got tt text, ((refl, last), tt))
    | inr more ↦ none (Stopped Syntax text, ((refl, refl, more), syntax_told))
  ])

  ending_some : ReadsSome TextEnding
  ending_some = record { reads = ending_reads }

  pub whole_some : ReadsSome (WholeText model)
  whole_some =
      then_some Opening (λ begun. Then (AllLines model) (λ said. Then TextEnding (λ ended. Done said))) opening_some (λ begun.
      then_some (AllLines model) (λ said. Then TextEnding (λ ended. Done said)) all_lines_some (λ said.
      then_some TextEnding (λ ended. Done said) ending_some (λ ended. done_some said)))
