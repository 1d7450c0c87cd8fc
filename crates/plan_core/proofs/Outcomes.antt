-- A plan text has one outcome, and that of a written one is its plan.
use Rattle.std.proofs.Common.{◌≡◌, ℕ, ◌+◌, ◌<◌, Bool, true, false, eqb, cond, ℤ, List, [], ◌∷◌, ◌++◌, map, slice_get, Option, Some, None, Result, Ok, Err, refl, sym, ◌∙◌, ap, subst, inl, inr, arith, All, Contains, append_assoc, codes}
use Rattle.std.specs.Prelude.{AllPairs, ⊤}
use Rattle.std.proofs.lemmas.Bool.Decides.{nat_tests}
use Rattle.std.proofs.lemmas.List.{append-nil}
use Rattle.std.proofs.lemmas.List.Elements.{All-from_recursion}
use Rattle.eu_name.specs.declared.name.VarName.{VarName}
use Rattle.eu_name.specs.declared.name.VarName.TheVariants as variables
use Rattle.eu_name.specs.NameOrder.{IsVarBefore}
use Rattle.eu_name.proofs.Orders.{var_order}
use Rattle.model_core.specs.declared.class.Pred.{Pred}
use Rattle.model_core.specs.declared.model.Model.{Model}
use Rattle.model_core.specs.declared.variable.ValueKind.{ValueKind}
use Rattle.model_core.specs.declared.variable.ValueKind.TheVariants as kinds
use Rattle.model_core.specs.declared.variable.VarDecl.{VarDecl}
use Rattle.model_core.specs.Lawful.{IsLawful}
use Rattle.model_core.specs.Naming.{names_of}
use Rattle.plan_defs.specs.declared.plan.Line.{Line}
use Rattle.plan_defs.specs.declared.plan.Line.TheVariants as lines
use Rattle.plan_defs.specs.declared.plan.Plan.{Plan}
use Rattle.plan_defs.specs.Plans.{IsLineOf, IsLineBefore, IsPlanOf}
use Rattle.eu_name.proofs.Ordered.{same_members, ordered_tail, ordered_head, ordered_none, ordered_cons, contains_head, contains_later, contains_cases, contains_none}
use Rattle.plan_text.specs.declared.fault.PlanTextFault.{PlanTextFault}
use Rattle.plan_text.specs.declared.fault.PlanTextFault.TheVariants as faults
use Rattle.plan_text.specs.declared.fault.Wrong.{Wrong}
use Rattle.plan_text.specs.declared.fault.Wrong.TheVariants.{Syntax, Twice, Unknown, Memory}
use Rattle.plan_text.specs.declared.statement.Keyword.{Keyword}
use Rattle.plan_text.specs.declared.statement.Keyword.TheVariants as keywords
use Rattle.plan_text.specs.declared.statement.Statement.{Statement}
use Rattle.plan_text.specs.declared.statement.Statement.TheVariants.{Global, Of}
use Rattle.plan_text.specs.declared.subject.NamedGlobal.{NamedGlobal}
use Rattle.plan_text.specs.declared.subject.NamedToken.{NamedToken}
use Rattle.plan_text.specs.declared.subject.NamedLocal.{NamedLocal}
use Rattle.plan_text.specs.Words.{is_gap, IsPaused, HasWord, place_in}
use Rattle.plan_text.specs.Found.{Found, Got, Stopped, Done, OneWord, Then, IsOther, Exactly}
use Rattle.plan_text.specs.Lines.{keyword_text, IsNoKeyword, OneKeyword, IsOtherParameter, OnePart, FirstParts, OneParameter, Parameters, IsSurplus, NoneLeft, LastParts, TokenValues, AfterKeyword, OneLine, stated_name}
use Rattle.plan_text.specs.PlanTexts.{opening_text, IsNoOpening, IsCount, IsNoCount, AfterOpening, Opening, TextEnding, names_stated, HasLines, AllLines, WholeText, IsStatedBefore, Gathers, global_values, plan_lines, plan_stated, global_statements, plan_statements, IsPlanText, plan_fault_at, ReadsPlan}
use Rattle.plan_text.specs.Subjects.{IsFreshName, IsNoFreshName, IsGlobalOf, IsTokenOf, IsLocalOf, IsTargetName, IsNoTarget, IsPredicateText, IsNoPredicate, OneGlobal, OneToken, OneLocal, OneTarget, OnePredicate}
use Rattle.plan_text.specs.Values.{IsValueText, IsNoValueText, OneValue}
use Rattle.plan_text.proofs.Cutting.{one_word}
use Rattle.plan_core.proofs.Once.{ReadsOnce, word_once, then_once, done_once}
use Rattle.plan_core.proofs.Told.{NameLaws, exact_once, keyword_once, opening_once, count_once, label_once, value_once, fresh_once, global_told, token_told, local_told, target_once, predicate_once}

-- ---- parts of lines

exactly_reads : (gap expected : List ℕ) → ReadsOnce (Exactly gap expected)
exactly_reads gap expected = word_once gap (λ (said : Unit {0}) word. word ≡ expected) (IsOther expected) (exact_once expected)

value_reads : (model : Model) (kind : ValueKind) → IsLawful model → ReadsOnce (OneValue model kind)
value_reads model kind lawful = word_once (codes " ") (IsValueText model kind) (IsNoValueText model kind) (value_once model kind lawful)

part_reads : (model : Model) (label : List ℕ) (kind : ValueKind) → IsLawful model → ReadsOnce (OnePart model label kind)
part_reads model label kind lawful = then_once (Exactly (codes " ") label) (λ said. OneValue model kind) (exactly_reads (codes " ") label) (λ said. value_reads model kind lawful)

first_reads : (model : Model) → IsLawful model → ReadsOnce (FirstParts model)
first_reads model lawful =
    then_once (OnePart model (codes "start") kinds.Int) _ (part_reads model (codes "start") kinds.Int lawful) (λ start.
    then_once (OnePart model (codes "end") kinds.Int) _ (part_reads model (codes "end") kinds.Int lawful) (λ end.
    then_once (OnePart model (codes "duration") kinds.Int) _ (part_reads model (codes "duration") kinds.Int lawful) (λ duration.
    then_once (OnePart model (codes "object") kinds.Object) (λ object. Done (start ∷ end ∷ duration ∷ object ∷ [])) (part_reads model (codes "object") kinds.Object lawful) (λ object. done_once (start ∷ end ∷ duration ∷ object ∷ [])))))

parameter_reads : (model : Model) (names : List (List ℕ)) (variable : VarDecl) → IsLawful model → ReadsOnce (OneParameter model names variable)
parameter_reads model names variable lawful =
    then_once (OneWord (codes " ") (λ (said : Unit {0}) word. word ≡ variable.name) (IsOtherParameter names variable.name)) (λ said. OneValue model variable.kind)
    (word_once (codes " ") (λ (said : Unit {0}) word. word ≡ variable.name) (IsOtherParameter names variable.name) (label_once names variable.name)) (λ said. value_reads model variable.kind lawful)

parameters_read : (model : Model) (names : List (List ℕ)) (params : List VarDecl) → IsLawful model → ReadsOnce (Parameters model names params)
parameters_read model names [] lawful = done_once []
parameters_read model names (variable ∷ params) lawful =
    then_once (OneParameter model names variable) (λ value. Then (Parameters model names params) (λ values. Done (value ∷ values))) (parameter_reads model names variable lawful) (λ value.
    then_once (Parameters model names params) (λ values. Done (value ∷ values)) (parameters_read model names params lawful) (λ values. done_once (value ∷ values)))

same_surplus : (names : List (List ℕ)) (word : List ℕ) (one other : Wrong) → IsSurplus names one word → IsSurplus names other word → one ≡ other
same_surplus names word Syntax Syntax a b = refl
same_surplus names word Unknown Unknown a b = refl
same_surplus names word Syntax Unknown a b = absurd (a b)
same_surplus names word Unknown Syntax a b = absurd (b a)
same_surplus names word Syntax Twice a b = absurd b
same_surplus names word Syntax Memory a b = absurd b
same_surplus names word Unknown Twice a b = absurd b
same_surplus names word Unknown Memory a b = absurd b
same_surplus names word Twice other a b = absurd a
same_surplus names word Memory other a b = absurd a

none_reads : (names : List (List ℕ)) → ReadsOnce (NoneLeft names)
none_reads names = record { got = λ text rest left one other a b. (refl, a.0 ∙ sym b.0); whole = whole; stops = stops }
  where
    whole : (text rest at : List ℕ) (one : Unit {0}) (wrong : Wrong) → NoneLeft names text (Got one rest) → NoneLeft names text (Stopped wrong at) → wrong ≡ Memory
    whole text rest at one wrong a (inl memory) = memory
    whole text rest at one wrong a (inr (same, (word, (left, (has, surplus))))) = absurd (a.1 word left has)

    stops : (text at left : List ℕ) (one other : Wrong) → NoneLeft names text (Stopped one at) → NoneLeft names text (Stopped other left) → (one ≡ Memory → ⊥) → (other ≡ Memory → ⊥) → (one ≡ other) × (at ≡ left)
    stops text at left one other (inl memory) b some some' = absurd (some memory)
    stops text at left one other (inr a) (inl memory) some some' = absurd (some' memory)
    stops text at left one other (inr (same, (word, (rest, (has, surplus))))) (inr (same', (word', (rest', (has', surplus'))))) some some' =
        let both = one_word (codes " ") text word rest word' rest' has has' in
        (same_surplus names word one other surplus (subst (IsSurplus names other) (sym both.0) surplus'), same ∙ sym same')

last_reads : (model : Model) (params : List VarDecl) → IsLawful model → ReadsOnce (LastParts model params)
last_reads model params lawful =
    then_once (Parameters model (names_of params) params) (λ values. Then (NoneLeft (names_of params)) (λ said. Done values)) (parameters_read model (names_of params) params lawful) (λ values.
    then_once (NoneLeft (names_of params)) (λ said. Done values) (none_reads (names_of params)) (λ said. done_once values))

some_is : {X : Type 0} (one other : X) → Some one ≡ Some other → one ≡ other
some_is one other same = cc

abbrev ValuesOf : Model → Pred → List ℕ → Found (List ℤ) → Type 0
ValuesOf model pred = Then (FirstParts model) (λ first. Then (LastParts model pred.params) (λ last. Done (first ++ last)))

values_of : (model : Model) (pred : Pred) → IsLawful model → ReadsOnce (ValuesOf model pred)
values_of model pred lawful =
    then_once (FirstParts model) (λ first. Then (LastParts model pred.params) (λ last. Done (first ++ last))) (first_reads model lawful) (λ first.
    then_once (LastParts model pred.params) (λ last. Done (first ++ last)) (last_reads model pred.params lawful) (λ last. done_once (first ++ last)))

values_read : (model : Model) (number : ℕ) → IsLawful model → ReadsOnce (TokenValues model number)
values_read model number lawful = record { got = got; whole = whole; stops = stops }
  where
    same : (pred other : Pred) (text : List ℕ) (found : Found (List ℤ)) → slice_get model.preds number ≡ Some pred → slice_get model.preds number ≡ Some other → ValuesOf model other text found → ValuesOf model pred text found
    same pred other text found is is' of = subst (λ (p : Pred). ValuesOf model p text found) (some_is other pred (sym is' ∙ is)) of

    got : (text rest left : List ℕ) (one other : List ℤ) → TokenValues model number text (Got one rest) → TokenValues model number text (Got other left) → (one ≡ other) × (rest ≡ left)
    got text rest left one other (pred, (is, a)) (pred', (is', b)) = (values_of model pred lawful).got text rest left one other a (same pred pred' text (Got other left) is is' b)

    whole : (text rest at : List ℕ) (one : List ℤ) (wrong : Wrong) → TokenValues model number text (Got one rest) → TokenValues model number text (Stopped wrong at) → wrong ≡ Memory
    whole text rest at one wrong (pred, (is, a)) (pred', (is', b)) = (values_of model pred lawful).whole text rest at one wrong a (same pred pred' text (Stopped wrong at) is is' b)

    stops : (text at left : List ℕ) (one other : Wrong) → TokenValues model number text (Stopped one at) → TokenValues model number text (Stopped other left) → (one ≡ Memory → ⊥) → (other ≡ Memory → ⊥) → (one ≡ other) × (at ≡ left)
    stops text at left one other (pred, (is, a)) (pred', (is', b)) some some' = (values_of model pred lawful).stops text at left one other a (same pred pred' text (Stopped other left) is is' b) some some'

-- ---- lines

global_reads : (model : Model) (names : List VarName) → IsLawful model → NameLaws → ReadsOnce (OneGlobal model names)
global_reads model names lawful laws =
    word_once (codes " ") (λ found. IsFreshName model names (IsGlobalOf model found)) (IsNoFreshName model names (λ name. (found : NamedGlobal) × IsGlobalOf model found name))
    (fresh_once model names (IsGlobalOf model) lawful laws (global_told model))

token_reads : (model : Model) (names : List VarName) → IsLawful model → NameLaws → ReadsOnce (OneToken model names)
token_reads model names lawful laws =
    word_once (codes " ") (λ found. IsFreshName model names (IsTokenOf model found)) (IsNoFreshName model names (λ name. (found : NamedToken) × IsTokenOf model found name))
    (fresh_once model names (IsTokenOf model) lawful laws (token_told model))

local_reads : (model : Model) (names : List VarName) → IsLawful model → NameLaws → ReadsOnce (OneLocal model names)
local_reads model names lawful laws =
    word_once (codes " ") (λ found. IsFreshName model names (IsLocalOf model found)) (IsNoFreshName model names (λ name. (found : NamedLocal) × IsLocalOf model found name))
    (fresh_once model names (IsLocalOf model) lawful laws (local_told model))

target_reads : (model : Model) → IsLawful model → NameLaws → ReadsOnce (OneTarget model)
target_reads model lawful laws = word_once (codes " ") (IsTargetName model) (IsNoTarget model) (target_once model lawful laws)

predicate_reads : (model : Model) (number : ℕ) → IsLawful model → ReadsOnce (OnePredicate model number)
predicate_reads model number lawful = word_once (codes " ") (λ (said : Unit {0}). IsPredicateText model number) (IsNoPredicate model number) (predicate_once model number lawful)

active_reads : (model : Model) (names : List VarName) (fact : Bool) → IsLawful model → NameLaws
    → ReadsOnce (Then (OneToken model names) (λ found. Then (OnePredicate model found.pred) (λ said. Then (TokenValues model found.pred) (λ values. Done (Some (Of (lines.Token found.name fact values)))))))
active_reads model names fact lawful laws =
    then_once (OneToken model names) (λ found. Then (OnePredicate model found.pred) (λ said. Then (TokenValues model found.pred) (λ values. Done (Some (Of (lines.Token found.name fact values))))))
    (token_reads model names lawful laws) (λ found.
    then_once (OnePredicate model found.pred) (λ said. Then (TokenValues model found.pred) (λ values. Done (Some (Of (lines.Token found.name fact values))))) (predicate_reads model found.pred lawful) (λ said.
    then_once (TokenValues model found.pred) (λ values. Done (Some (Of (lines.Token found.name fact values)))) (values_read model found.pred lawful) (λ values. done_once (Some (Of (lines.Token found.name fact values))))))

after_reads : (model : Model) (names : List VarName) (keyword : Keyword) → IsLawful model → NameLaws → ReadsOnce (AfterKeyword model names keyword)
after_reads model names keywords.Global lawful laws =
    then_once (OneGlobal model names) (λ found. Then (OneValue model found.kind) (λ value. Done (Some (Global found.number value)))) (global_reads model names lawful laws) (λ found.
    then_once (OneValue model found.kind) (λ value. Done (Some (Global found.number value))) (value_reads model found.kind lawful) (λ value. done_once (Some (Global found.number value))))
after_reads model names keywords.Fact lawful laws = active_reads model names true lawful laws
after_reads model names keywords.Token lawful laws = active_reads model names false lawful laws
after_reads model names keywords.Merged lawful laws =
    then_once (OneToken model names) (λ found. Then (OneTarget model) (λ target. Done (Some (Of (lines.Merged found.name target))))) (token_reads model names lawful laws) (λ found.
    then_once (OneTarget model) (λ target. Done (Some (Of (lines.Merged found.name target)))) (target_reads model lawful laws) (λ target. done_once (Some (Of (lines.Merged found.name target)))))
after_reads model names keywords.Rejected lawful laws =
    then_once (OneToken model names) (λ found. Done (Some (Of (lines.Rejected found.name)))) (token_reads model names lawful laws) (λ found. done_once (Some (Of (lines.Rejected found.name))))
after_reads model names keywords.Local lawful laws =
    then_once (OneLocal model names) (λ found. Then (OneValue model found.kind) (λ value. Done (Some (Of (lines.Local found.name value))))) (local_reads model names lawful laws) (λ found.
    then_once (OneValue model found.kind) (λ value. Done (Some (Of (lines.Local found.name value)))) (value_reads model found.kind lawful) (λ value. done_once (Some (Of (lines.Local found.name value)))))
after_reads model names keywords.End lawful laws = done_once None

line_reads : (model : Model) (names : List VarName) → IsLawful model → NameLaws → ReadsOnce (OneLine model names)
line_reads model names lawful laws =
    then_once OneKeyword (AfterKeyword model names) (word_once (codes "\n") (λ keyword word. word ≡ keyword_text keyword) IsNoKeyword keyword_once) (λ keyword. after_reads model names keyword lawful laws)

-- ---- all lines

-- what ends the lines: no line any more, or a fault
abbrev IsEnd : Found (Option Statement) → Type 0
IsEnd (Got None rest) = ⊤
IsEnd (Got (Some said) rest) = ⊥
IsEnd (Stopped wrong at) = wrong ≡ Memory → ⊥

not_more : (model : Model) (names : List VarName) (text mid : List ℕ) (said : Statement) (found : Found (Option Statement)) → IsLawful model → NameLaws → IsEnd found → OneLine model names text found → OneLine model names text (Got (Some said) mid) → ⊥
not_more model names text mid said (Got None rest) lawful laws end line more = let both : None ≡ Some said = ((line_reads model names lawful laws).got text rest mid None (Some said) line more).0 in cc
not_more model names text mid said (Got (Some other) rest) lawful laws end line more = end
not_more model names text mid said (Stopped wrong at) lawful laws end line more = end ((line_reads model names lawful laws).whole text mid at (Some said) wrong more line)

same_lines : (model : Model) (before said other : List Statement) (text mid mid' : List ℕ) (found found' : Found (Option Statement)) → IsLawful model → NameLaws
    → HasLines model before text said mid → OneLine model (names_stated (before ++ said)) mid found → IsEnd found
    → HasLines model before text other mid' → OneLine model (names_stated (before ++ other)) mid' found' → IsEnd found' → (said ≡ other) × (mid ≡ mid')
same_lines model before [] [] text mid mid' found found' lawful laws is line end is' line' end' = (refl, is ∙ sym is')
same_lines model before [] (s ∷ other) text mid mid' found found' lawful laws is line end (next, (first, rest)) line' end' =
    absurd (not_more model (names_stated before) text next s found lawful laws end (subst (λ l. OneLine model (names_stated l) text found) (append-nil before) (subst (λ t. OneLine model (names_stated (before ++ [])) t found) is line)) first)
same_lines model before (s ∷ said) [] text mid mid' found found' lawful laws (next, (first, rest)) line end is' line' end' =
    absurd (not_more model (names_stated before) text next s found' lawful laws end' (subst (λ l. OneLine model (names_stated l) text found') (append-nil before) (subst (λ t. OneLine model (names_stated (before ++ [])) t found') is' line')) first)
same_lines model before (s ∷ said) (s' ∷ other) text mid mid' found found' lawful laws (next, (first, rest)) line end (next', (first', rest')) line' end' =
    let both = (line_reads model (names_stated before) lawful laws).got text next next' (Some s) (Some s') first first' in
    let heads = some_is s s' both.0 in
    let more = same_lines model (before ++ s ∷ []) said other next mid mid' found found' lawful laws rest (subst (λ l. OneLine model (names_stated l) mid found) (sym (append_assoc before (s ∷ []) said)) line) end
    (subst (λ n. HasLines model (before ++ s ∷ []) n other mid') (sym both.1) (subst (λ h. HasLines model (before ++ h ∷ []) next' other mid') (sym heads) rest'))
    (subst (λ l. OneLine model (names_stated l) mid' found') (sym (append_assoc before (s ∷ []) other)) (subst (λ h. OneLine model (names_stated (before ++ h ∷ other)) mid' found') (sym heads) line')) end' in
    (λ i. heads i ∷ more.0 i, more.1)

memory_else : (wrong : Wrong) → ((wrong ≡ Memory → ⊥) → ⊥) → wrong ≡ Memory
memory_else Memory never = refl
memory_else Syntax never = absurd (never (λ same. cc))
memory_else Twice never = absurd (never (λ same. cc))
memory_else Unknown never = absurd (never (λ same. cc))

lines_read : (model : Model) → IsLawful model → NameLaws → ReadsOnce (AllLines model)
lines_read model lawful laws = record { got = got; whole = whole; stops = stops }
  where
    got : (text rest left : List ℕ) (one other : List Statement) → AllLines model text (Got one rest) → AllLines model text (Got other left) → (one ≡ other) × (rest ≡ left)
    got text rest left one other (mid, (has, line)) (mid', (has', line')) =
        let same = same_lines model [] one other text mid mid' (Got None rest) (Got None left) lawful laws has line tt has' line' tt in (
          same.0,
          ((line_reads model (names_stated one) lawful laws).got mid rest left None None line
              (subst (λ m. OneLine model (names_stated one) m (Got None left)) (sym same.1) (subst (λ l. OneLine model (names_stated l) mid' (Got None left)) (sym same.0) line'))).1,
        )

    whole : (text rest at : List ℕ) (one : List Statement) (wrong : Wrong) → AllLines model text (Got one rest) → AllLines model text (Stopped wrong at) → wrong ≡ Memory
    whole text rest at one wrong (mid, (has, line)) (other, (mid', (has', line'))) = memory_else wrong (λ some.
        let same = same_lines model [] one other text mid mid' (Got None rest) (Stopped wrong at) lawful laws has line tt has' line' some in
        some ((line_reads model (names_stated one) lawful laws).whole mid rest at None wrong line
        (subst (λ m. OneLine model (names_stated one) m (Stopped wrong at)) (sym same.1) (subst (λ l. OneLine model (names_stated l) mid' (Stopped wrong at)) (sym same.0) line'))))

    stops : (text at left : List ℕ) (one other : Wrong) → AllLines model text (Stopped one at) → AllLines model text (Stopped other left) → (one ≡ Memory → ⊥) → (other ≡ Memory → ⊥) → (one ≡ other) × (at ≡ left)
    stops text at left one other (said, (mid, (has, line))) (said', (mid', (has', line'))) some some' =
        let same = same_lines model [] said said' text mid mid' (Stopped one at) (Stopped other left) lawful laws has line some has' line' some' in
        (line_reads model (names_stated said) lawful laws).stops mid at left one other line
        (subst (λ m. OneLine model (names_stated said) m (Stopped other left)) (sym same.1) (subst (λ l. OneLine model (names_stated l) mid' (Stopped other left)) (sym same.0) line')) some some'

-- ---- whole texts

opening_reads : ReadsOnce Opening
opening_reads = then_once (OneWord [] (λ counted word. word ≡ opening_text counted) IsNoOpening) AfterOpening (word_once [] (λ counted word. word ≡ opening_text counted) IsNoOpening opening_once) after
  where
    after : (counted : Bool) → ReadsOnce (AfterOpening counted)
    after true = then_once (OneWord (codes " ") (λ (said : Unit {0}) word. IsCount word) IsNoCount) (λ said. Exactly (codes "\n") (codes "plan"))
        (word_once (codes " ") (λ (said : Unit {0}) word. IsCount word) IsNoCount count_once) (λ said. exactly_reads (codes "\n") (codes "plan"))
    after false = done_once tt

ending_reads : ReadsOnce TextEnding
ending_reads = record {
  got = λ text rest left one other a b. (refl, a.0 ∙ sym b.0);
  whole = λ text rest at one wrong a b. absurd (b.2 a.1);
  stops = λ text at left one other a b some some'. (a.0 ∙ sym b.0, a.1 ∙ sym b.1);
}

text_reads_once : (model : Model) → IsLawful model → NameLaws → ReadsOnce (WholeText model)
text_reads_once model lawful laws =
    then_once Opening (λ begun. Then (AllLines model) (λ said. Then TextEnding (λ ended. Done said))) opening_reads (λ begun.
    then_once (AllLines model) (λ said. Then TextEnding (λ ended. Done said)) (lines_read model lawful laws) (λ said.
    then_once TextEnding (λ ended. Done said) ending_reads (λ ended. done_once said)))

-- ---- plans

gathered_once : (said : List Statement) (one other : Plan) → Gathers said one → Gathers said other → one ≡ other
gathered_once said one other a b =
    let same = same_members IsStatedBefore (λ s. var_order.irreflexive (stated_name s)) (λ r s t. var_order.transitive (stated_name r) (stated_name s) (stated_name t)) a.ordered b.ordered a.order b.order
    (λ s has. (b.same s).1 ((a.same s).0 has)) (λ s has. (a.same s).1 ((b.same s).0 has)) in
    a.is ∙ (ap plan_stated same ∙ sym b.is)

-- a fault that isn't want of memory is one of the text
record IsFaultOf (model : Model) (text : List ℕ) (fault : PlanTextFault) : Type 0 where
  wrong : Wrong
  rest : List ℕ
  stops : WholeText model text (Stopped wrong rest)
  some : wrong ≡ Memory → ⊥
  is : fault ≡ plan_fault_at wrong (place_in text rest)

fault_of : (model : Model) (text : List ℕ) (fault : PlanTextFault) → ReadsPlan model text (Err fault) → (fault ≡ faults.Memory → ⊥) → IsFaultOf model text fault
fault_of model text (faults.Syntax at) (rest, (stop, is)) some = record { wrong = Syntax; rest = rest; stops = stop; some = λ same. cc; is = ap faults.Syntax is }
fault_of model text (faults.Twice at) (rest, (stop, is)) some = record { wrong = Twice; rest = rest; stops = stop; some = λ same. cc; is = ap faults.Twice is }
fault_of model text (faults.Unknown at) (rest, (stop, is)) some = record { wrong = Unknown; rest = rest; stops = stop; some = λ same. cc; is = ap faults.Unknown is }
fault_of model text faults.Memory read some = absurd (some refl)

pub read_once : (model : Model) (text : List ℕ) (one other : Result Plan PlanTextFault) → IsLawful model → NameLaws → ReadsPlan model text one → ReadsPlan model text other
    → (one ≡ Err faults.Memory → ⊥) → (other ≡ Err faults.Memory → ⊥) → one ≡ other
read_once model text (Ok one) (Ok other) lawful laws (said, (rest, (whole, gathers))) (said', (rest', (whole', gathers'))) some some' =
    let same = (text_reads_once model lawful laws).got text rest rest' said said' whole whole' in
    ap Ok (gathered_once said one other gathers (subst (λ l. Gathers l other) (sym same.0) gathers'))
read_once model text (Ok one) (Err fault) lawful laws (said, (rest, (whole, gathers))) read some some' =
    let of = fault_of model text fault read (λ same. some' (ap Err same)) in
    absurd (of.some ((text_reads_once model lawful laws).whole text rest of.rest said of.wrong whole of.stops))
read_once model text (Err fault) (Ok other) lawful laws read (said, (rest, (whole, gathers))) some some' =
    let of = fault_of model text fault read (λ same. some (ap Err same)) in
    absurd (of.some ((text_reads_once model lawful laws).whole text rest of.rest said of.wrong whole of.stops))
read_once model text (Err fault) (Err fault') lawful laws read read' some some' =
    let of = fault_of model text fault read (λ same. some (ap Err same)) in
    let of' = fault_of model text fault' read' (λ same. some' (ap Err same)) in
    let same = (text_reads_once model lawful laws).stops text of.rest of'.rest of.wrong of'.wrong of.stops of'.stops of.some of'.some in
    ap Err (of.is ∙ (ap (λ w. plan_fault_at w (place_in text of.rest)) same.0 ∙ (ap (λ r. plan_fault_at of'.wrong (place_in text r)) same.1 ∙ sym of'.is)))

-- ---- what is written is read back

line_paused : (model : Model) (names : List VarName) (text rest : List ℕ) (said : Option Statement) → OneLine model names text (Got said rest) → IsPaused text
line_paused model names text rest said (keyword, (mid, ((word, (has, is)), after))) = subst IsPaused (sym has.whole) refl

lines_paused : (model : Model) (text rest : List ℕ) (said : List Statement) → AllLines model text (Got said rest) → IsPaused text
lines_paused model text rest [] (mid, (is, line)) = subst IsPaused is (line_paused model [] mid rest None line)
lines_paused model text rest (s ∷ said) (mid, ((next, (first, more)), line)) = line_paused model (names_stated []) text next (Some s) first

written_whole : (model : Model) (plan : Plan) (text : List ℕ) → IsPlanText model plan text → WholeText model text (Got (plan_statements plan) (codes "\n"))
written_whole model plan text (rest, (is, all)) =
    let has : HasWord [] text (codes "plan") rest = record {
      whole = is;
      unbroken = (omega arith, All-from_recursion (λ byte. is_gap byte ≡ false) (codes "plan") (refl, (refl, (refl, (refl, tt)))));
      paused = lines_paused model rest (codes "\n") (plan_statements plan) all;
    } in
    (tt, (rest, ((false, (rest, ((codes "plan", (has, refl)), (refl, refl)))), (plan_statements plan, (codes "\n", (all, (tt, (codes "\n", ((refl, inr refl), (refl, refl))))))))))

-- a plan's lines are of tokens or of locals
global_first : (model : Model) (number : ℕ) (line : Line) → IsLineOf model line → IsVarBefore (variables.Global number) (stated_name (Of line))
global_first model number (lines.Token name fact values) of = tt
global_first model number (lines.Merged name target) of = tt
global_first model number (lines.Rejected name) of = tt
global_first model number (lines.Local (variables.Local token rule k) value) of = tt
global_first model number (lines.Local (variables.Global k) value) of = absurd of
global_first model number (lines.Local (variables.Token token part) value) of = absurd of

abbrev of_lines : List Line → List Statement
of_lines lines = map (λ line. Of line) lines

mapped_line : (all : List Line) (s : Statement) → Contains (of_lines all) s → (line : Line) × (Contains all line × (s ≡ Of line))
mapped_line [] s has = absurd (contains_none s has)
mapped_line (line ∷ all) s has = elim (contains_cases (Of line) s (of_lines all) has) [
  | inl here ↦ (line, (contains_head line all, sym here))
  | inr later ↦ let found = mapped_line all s later in (found.0, (contains_later line found.0 all found.1.0, found.1.1))
]

lines_ordered : (all : List Line) → AllPairs IsLineBefore all → AllPairs IsStatedBefore (of_lines all)
lines_ordered [] order = ordered_none IsStatedBefore
lines_ordered (line ∷ all) order =
    ordered_cons IsStatedBefore (Of line) (of_lines all) (λ s has. let found = mapped_line all s has in subst (IsStatedBefore (Of line)) (sym found.1.1) (ordered_head IsLineBefore line all order found.0 found.1.0))
    (lines_ordered all (ordered_tail IsLineBefore line all order))

all_of : (model : Model) (all : List Line) (line : Line) → All (IsLineOf model) all → Contains all line → IsLineOf model line
all_of model all line are (k, within, is) = subst (IsLineOf model) is (are k line within)

-- what comes behind the globals before this number
behind_global : (model : Model) (next : ℕ) (values : List ℤ) (all : List Line) (s : Statement) (number : ℕ) → number < next → All (IsLineOf model) all → Contains (global_statements next values ++ of_lines all) s → IsVarBefore (variables.Global number) (stated_name s)
behind_global model next [] all s number less are has =
    let found = mapped_line all s has in
    subst (λ t. IsVarBefore (variables.Global number) (stated_name t)) (sym found.1.1) (global_first model number found.0 (all_of model all found.0 are found.1.0))
behind_global model next (value ∷ values) all s number less are has = elim (contains_cases (Global next value) s (global_statements (next + 1) values ++ of_lines all) has) [
  | inl here ↦ subst (λ t. IsVarBefore (variables.Global number) (stated_name t)) here less
  | inr later ↦ behind_global model (next + 1) values all s number (omega (arith, less)) are later
]

statements_ordered : (model : Model) (next : ℕ) (values : List ℤ) (all : List Line) → All (IsLineOf model) all → AllPairs IsLineBefore all → AllPairs IsStatedBefore (global_statements next values ++ of_lines all)
statements_ordered model next [] all are order = lines_ordered all order
statements_ordered model next (value ∷ values) all are order =
    ordered_cons IsStatedBefore (Global next value) (global_statements (next + 1) values ++ of_lines all)
    (λ s has. behind_global model (next + 1) values all s next (omega arith) are has)
    (statements_ordered model (next + 1) values all are order)

no_values : (next : ℕ) (all : List Line) → global_values next (of_lines all) ≡ []
no_values next [] = refl
no_values next (line ∷ all) = refl

values_back : (next : ℕ) (values : List ℤ) (all : List Line) → global_values next (global_statements next values ++ of_lines all) ≡ values
values_back next [] all = no_values next all
values_back next (value ∷ values) all =
    let test : eqb next next ≡ true = grind (arith, nat_tests) in
    ap (λ b. cond b (value ∷ global_values (next + 1) (global_statements (next + 1) values ++ of_lines all)) []) test ∙ ap (λ l. value ∷ l) (values_back (next + 1) values all)

only_lines : (all : List Line) → plan_lines (of_lines all) ≡ all
only_lines [] = refl
only_lines (line ∷ all) = ap (λ l. line ∷ l) (only_lines all)

lines_back : (next : ℕ) (values : List ℤ) (all : List Line) → plan_lines (global_statements next values ++ of_lines all) ≡ all
lines_back next [] all = only_lines all
lines_back next (value ∷ values) all = lines_back (next + 1) values all

plan_gathered : (model : Model) (plan : Plan) → IsPlanOf model plan → Gathers (plan_statements plan) plan
plan_gathered model plan of = record {
  ordered = plan_statements plan;
  order = statements_ordered model 0 plan.globals plan.lines of.lines of.order;
  same = λ statement. (λ has. has, λ has. has);
  is = λ i. record { globals = sym (values_back 0 plan.globals plan.lines) i; lines = sym (lines_back 0 plan.globals plan.lines) i };
}

pub read_back : (model : Model) (plan : Plan) (text : List ℕ) (answer : Result Plan PlanTextFault) → IsLawful model → NameLaws → IsPlanOf model plan → IsPlanText model plan text → ReadsPlan model text answer
    → (answer ≡ Err faults.Memory → ⊥) → answer ≡ Ok plan
read_back model plan text answer lawful laws of written read some =
    read_once model text answer (Ok plan) lawful laws read (plan_statements plan, (codes "\n", (written_whole model plan text written, plan_gathered model plan of))) some (λ same. cc)
