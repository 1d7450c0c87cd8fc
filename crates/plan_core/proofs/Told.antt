-- What each word says is one.
use Rattle.std.proofs.Common.{◌≡◌, ℕ, ◌<◌, ◌^◌, zero, suc, Bool, true, false, ℤ, pos, negsuc, List, [], ◌∷◌, length, get_or, slice_get, Some, refl, sym, ◌∙◌, ap, subst, inl, inr, arith, All, IsTrue, Contains}
use Rattle.std.specs.Char.{is_ascii_digit}
use Rattle.std.specs.Fmt.{decimal, signed_decimal}
use Rattle.std.specs.List.{AllByRecursion, join_with_byte, slice_split}
use Rattle.std.proofs.lemmas.Fmt.{digits_decimal, decimal_nonempty, first_decimal, decimal_digit}
use Rattle.std.proofs.lemmas.Int.{ints}
use Rattle.std.proofs.lemmas.List.Elements.{All-from_recursion, recursion_from_All}
use Rattle.std.proofs.lemmas.List.Splits.{slice_split_none, slice_split_at}
use Rattle.domain_core.specs.Domain.{IsValue}
use Rattle.eu_name.specs.declared.name.Part.TheVariants.{Start}
use Rattle.eu_name.specs.declared.name.TokenName.{TokenName}
use Rattle.eu_name.specs.declared.name.VarName.{VarName}
use Rattle.eu_name.specs.declared.name.VarName.TheVariants as variables
use Rattle.eu_name.specs.Laws.{SpellsOneName}
use Rattle.eu_name.specs.Word.{IsName}
use Rattle.eu_name.proofs.Numbers.{own}
use Rattle.model_core.specs.declared.model.Model.{Model}
use Rattle.model_core.specs.declared.rule.Rule.{Rule}
use Rattle.model_core.specs.declared.rule.Slot.{Slot}
use Rattle.model_core.specs.declared.variable.ValueKind.{ValueKind}
use Rattle.model_core.specs.declared.variable.ValueKind.TheVariants as kinds
use Rattle.model_core.specs.declared.variable.VarDecl.{VarDecl}
use Rattle.model_core.specs.Lawful.{IsLawful, IsLawfulEnum, IsLawfulObject}
use Rattle.model_core.specs.Names.{NamesOneToken, NamesOneVariable}
use Rattle.model_core.specs.Naming.{IsObjectName, is_point, IsPath}
use Rattle.model_core.specs.Tokens.{HasRule, HasToken}
use Rattle.model_core.proofs.Items.{item_all}
use Rattle.model_core.proofs.Leading.{token_once}
use Rattle.model_core.proofs.Rules.{has_rule_once}
use Rattle.plan_text.specs.declared.fault.Wrong.{Wrong}
use Rattle.plan_text.specs.declared.fault.Wrong.TheVariants.{Syntax, Twice, Unknown, Memory}
use Rattle.plan_text.specs.declared.statement.Keyword.{Keyword}
use Rattle.plan_text.specs.declared.statement.Keyword.TheVariants as keywords
use Rattle.plan_text.specs.declared.subject.NamedGlobal.{NamedGlobal}
use Rattle.plan_text.specs.declared.subject.NamedToken.{NamedToken}
use Rattle.plan_text.specs.declared.subject.NamedLocal.{NamedLocal}
use Rattle.plan_text.specs.Found.{IsOther}
use Rattle.plan_text.specs.Lines.{keyword_text, IsNoKeyword, IsOtherParameter}
use Rattle.plan_text.specs.PlanTexts.{opening_text, IsNoOpening, IsCount, IsNoCount}
use Rattle.plan_text.specs.Subjects.{IsNameOf, IsFreshName, IsNoFreshName, IsGlobalOf, IsTokenOf, IsLocalOf, IsLocalOfKind, IsTargetName, IsNoTarget, IsPredicateText, AreTwoNames, IsNoPredicate}
use Rattle.plan_text.specs.Values.{IsNumberWord, IsDecimalWord, IsValueWord, IsValueText, IsNoValueText}
use Rattle.plan_resolve.proofs.Naming.{one_name}
use Rattle.plan_resolve.proofs.Telling.{value_told}
use Rattle.plan_core.proofs.Once.{SaysOnce}
use Rattle.plan_text.proofs.Decimals.{number_word, decimal_word}
use Rattle.plan_text.proofs.Points.{no_point}
use Rattle.plan_resolve.proofs.Valuing.{name_no_point}

some_is : {X : Type 0} (one other : X) → Some one ≡ Some other → one ≡ other
some_is one other same = cc

-- ---- just one word

pub exact_once : (expected : List ℕ) → SaysOnce (λ (said : Unit {0}) word. word ≡ expected) (IsOther expected)
exact_once expected = record { says = λ word one other a b. refl; whole = whole; amiss = amiss }
  where
    whole : (word : List ℕ) (one : Unit {0}) (wrong : Wrong) → word ≡ expected → IsOther expected wrong word → wrong ≡ Memory
    whole word one Syntax is differs = absurd (differs is)
    whole word one Twice is differs = absurd differs
    whole word one Unknown is differs = absurd differs
    whole word one Memory is differs = absurd differs

    amiss : (word : List ℕ) (one other : Wrong) → IsOther expected one word → IsOther expected other word → (one ≡ Memory → ⊥) → (other ≡ Memory → ⊥) → one ≡ other
    amiss word Syntax Syntax a b some some' = refl
    amiss word Syntax Twice a b some some' = absurd b
    amiss word Syntax Unknown a b some some' = absurd b
    amiss word Syntax Memory a b some some' = absurd b
    amiss word Twice other a b some some' = absurd a
    amiss word Unknown other a b some some' = absurd a
    amiss word Memory other a b some some' = absurd a

-- ---- keywords

first_byte : Keyword → ℕ
first_byte keywords.Global = 103
first_byte keywords.Fact = 102
first_byte keywords.Token = 116
first_byte keywords.Merged = 109
first_byte keywords.Rejected = 114
first_byte keywords.Local = 108
first_byte keywords.End = 101

begins : (keyword : Keyword) → get_or (keyword_text keyword) 0 0 ≡ first_byte keyword
unfolding first_byte
begins keywords.Global = refl
begins keywords.Fact = refl
begins keywords.Token = refl
begins keywords.Merged = refl
begins keywords.Rejected = refl
begins keywords.Local = refl
begins keywords.End = refl

same_keyword : (one other : Keyword) → first_byte one ≡ first_byte other → one ≡ other
unfolding first_byte
same_keyword keywords.Global keywords.Global is = refl
same_keyword keywords.Fact keywords.Fact is = refl
same_keyword keywords.Token keywords.Token is = refl
same_keyword keywords.Merged keywords.Merged is = refl
same_keyword keywords.Rejected keywords.Rejected is = refl
same_keyword keywords.Local keywords.Local is = refl
same_keyword keywords.End keywords.End is = refl
same_keyword one other is = absurd (omega (arith, is))

pub keyword_once : SaysOnce (λ keyword word. word ≡ keyword_text keyword) IsNoKeyword
keyword_once = record {
  says = λ word one other a b. same_keyword one other (sym (begins one) ∙ (ap (λ l. get_or l 0 0) (sym a ∙ b) ∙ begins other));
  whole = whole;
  amiss = amiss;
}
  where
    whole : (word : List ℕ) (one : Keyword) (wrong : Wrong) → word ≡ keyword_text one → IsNoKeyword wrong word → wrong ≡ Memory
    whole word one Syntax is none = absurd (none one is)
    whole word one Twice is none = absurd none
    whole word one Unknown is none = absurd none
    whole word one Memory is none = absurd none

    amiss : (word : List ℕ) (one other : Wrong) → IsNoKeyword one word → IsNoKeyword other word → (one ≡ Memory → ⊥) → (other ≡ Memory → ⊥) → one ≡ other
    amiss word Syntax Syntax a b some some' = refl
    amiss word Syntax Twice a b some some' = absurd b
    amiss word Syntax Unknown a b some some' = absurd b
    amiss word Syntax Memory a b some some' = absurd b
    amiss word Twice other a b some some' = absurd a
    amiss word Unknown other a b some some' = absurd a
    amiss word Memory other a b some some' = absurd a

-- ---- the frame

same_opening : (one other : Bool) (word : List ℕ) → word ≡ opening_text one → word ≡ opening_text other → one ≡ other
same_opening true true word a b = refl
same_opening false false word a b = refl
same_opening true false word a b = absurd (omega (arith, ap length (sym a ∙ b)))
same_opening false true word a b = absurd (omega (arith, ap length (sym a ∙ b)))

pub opening_once : SaysOnce (λ counted word. word ≡ opening_text counted) IsNoOpening
opening_once = record { says = λ word one other a b. same_opening one other word a b; whole = whole; amiss = amiss }
  where
    whole : (word : List ℕ) (one : Bool) (wrong : Wrong) → word ≡ opening_text one → IsNoOpening wrong word → wrong ≡ Memory
    whole word one Syntax is none = absurd (none one is)
    whole word one Twice is none = absurd none
    whole word one Unknown is none = absurd none
    whole word one Memory is none = absurd none

    amiss : (word : List ℕ) (one other : Wrong) → IsNoOpening one word → IsNoOpening other word → (one ≡ Memory → ⊥) → (other ≡ Memory → ⊥) → one ≡ other
    amiss word Syntax Syntax a b some some' = refl
    amiss word Syntax Twice a b some some' = absurd b
    amiss word Syntax Unknown a b some some' = absurd b
    amiss word Syntax Memory a b some some' = absurd b
    amiss word Twice other a b some some' = absurd a
    amiss word Unknown other a b some some' = absurd a
    amiss word Memory other a b some some' = absurd a

pub count_once : SaysOnce (λ (said : Unit {0}) word. IsCount word) IsNoCount
count_once = record { says = λ word one other a b. refl; whole = whole; amiss = amiss }
  where
    whole : (word : List ℕ) (one : Unit {0}) (wrong : Wrong) → IsCount word → IsNoCount wrong word → wrong ≡ Memory
    whole word one Syntax is none = absurd (none is)
    whole word one Twice is none = absurd none
    whole word one Unknown is none = absurd none
    whole word one Memory is none = absurd none

    amiss : (word : List ℕ) (one other : Wrong) → IsNoCount one word → IsNoCount other word → (one ≡ Memory → ⊥) → (other ≡ Memory → ⊥) → one ≡ other
    amiss word Syntax Syntax a b some some' = refl
    amiss word Syntax Twice a b some some' = absurd b
    amiss word Syntax Unknown a b some some' = absurd b
    amiss word Syntax Memory a b some some' = absurd b
    amiss word Twice other a b some some' = absurd a
    amiss word Unknown other a b some some' = absurd a
    amiss word Memory other a b some some' = absurd a

-- ---- parameters

pub label_once : (names : List (List ℕ)) (expected : List ℕ) → SaysOnce (λ (said : Unit {0}) word. word ≡ expected) (IsOtherParameter names expected)
label_once names expected = record { says = λ word one other a b. refl; whole = whole; amiss = amiss }
  where
    whole : (word : List ℕ) (one : Unit {0}) (wrong : Wrong) → word ≡ expected → IsOtherParameter names expected wrong word → wrong ≡ Memory
    whole word one Syntax is differs = absurd (differs.0 is)
    whole word one Twice is differs = absurd differs
    whole word one Unknown is differs = absurd (differs.0 is)
    whole word one Memory is differs = absurd differs

    amiss : (word : List ℕ) (one other : Wrong) → IsOtherParameter names expected one word → IsOtherParameter names expected other word → (one ≡ Memory → ⊥) → (other ≡ Memory → ⊥) → one ≡ other
    amiss word Syntax Syntax a b some some' = refl
    amiss word Syntax Twice a b some some' = absurd b
    amiss word Syntax Unknown a b some some' = absurd (a.1 b.1)
    amiss word Syntax Memory a b some some' = absurd b
    amiss word Twice other a b some some' = absurd a
    amiss word Unknown Syntax a b some some' = absurd (b.1 a.1)
    amiss word Unknown Twice a b some some' = absurd b
    amiss word Unknown Unknown a b some some' = refl
    amiss word Unknown Memory a b some some' = absurd b
    amiss word Memory other a b some some' = absurd a

-- ---- values

name_path : (name : List ℕ) → IsName name → slice_split is_point name ≡ name ∷ []
name_path name is = slice_split_none is_point name (All-from_recursion (λ byte. is_point byte ≡ false) name (no_point name (name_no_point name is)))

joined_path : (names : List (List ℕ)) → 0 < length names → AllByRecursion IsName names → slice_split is_point (join_with_byte 46 names) ≡ names
joined_path [] some are = absurd (omega arith)
joined_path (name ∷ []) some are = name_path name are.0
joined_path (name ∷ (other ∷ more)) some are =
    slice_split_at is_point name 46 (join_with_byte 46 (other ∷ more)) (All-from_recursion (λ byte. is_point byte ≡ false) name (no_point name (name_no_point name are.0))) refl
    ∙ ap (λ l. name ∷ l) (joined_path (other ∷ more) (omega arith) are.1)

object_path : (name : List ℕ) → IsObjectName name → IsPath name
object_path name (names, some, are, is) =
    subst (All IsName) (sym (ap (slice_split is_point) is ∙ joined_path names some (recursion_from_All IsName names are))) are

member_path : (name : List ℕ) → IsName name → IsPath name
member_path name is = subst (All IsName) (sym (name_path name is)) (All-from_recursion IsName (name ∷ []) (is, tt))

-- what is the text of a value has the form of one
value_word : (model : Model) (kind : ValueKind) (value : ℤ) (word : List ℕ) → IsLawful model → IsValueText model kind value word → IsValueWord word
value_word model kinds.Int value word lawful is = inl (subst IsNumberWord (sym is.1) (number_word value is.0))
value_word model kinds.Float value word lawful is = inr (inl (subst IsDecimalWord (sym is.1) (decimal_word value is.0)))
value_word model kinds.Bool value word lawful (inl is) = inr (inr (inl (inr is.1)))
value_word model kinds.Bool value word lawful (inr is) = inr (inr (inl (inl is.1)))
value_word model (kinds.Enum number) value word lawful is =
    inr (inr (inr (member_path word (item_all IsName is.found.members is.place word (item_all IsLawfulEnum model.enums number is.found lawful.enums is.is_enum).members is.is_member))))
value_word model kinds.Object value word lawful (object, ((place, at, is), named)) =
    inr (inr (inr (subst IsPath named (object_path object.name (item_all (IsLawfulObject model) model.objects place object lawful.objects is).name))))

pub value_once : (model : Model) (kind : ValueKind) → IsLawful model → SaysOnce (IsValueText model kind) (IsNoValueText model kind)
value_once model kind lawful = record { says = λ word one other a b. value_told model kind word one other lawful a b; whole = whole; amiss = amiss }
  where
    whole : (word : List ℕ) (one : ℤ) (wrong : Wrong) → IsValueText model kind one word → IsNoValueText model kind wrong word → wrong ≡ Memory
    whole word one Syntax is none = absurd (none (value_word model kind one word lawful is))
    whole word one Twice is none = absurd none
    whole word one Unknown is none = absurd (none.1 one is)
    whole word one Memory is none = absurd none

    amiss : (word : List ℕ) (one other : Wrong) → IsNoValueText model kind one word → IsNoValueText model kind other word → (one ≡ Memory → ⊥) → (other ≡ Memory → ⊥) → one ≡ other
    amiss word Syntax Syntax a b some some' = refl
    amiss word Syntax Twice a b some some' = absurd b
    amiss word Syntax Unknown a b some some' = absurd (a b.0)
    amiss word Syntax Memory a b some some' = absurd b
    amiss word Twice other a b some some' = absurd a
    amiss word Unknown Syntax a b some some' = absurd (b a.0)
    amiss word Unknown Twice a b some some' = absurd b
    amiss word Unknown Unknown a b some some' = refl
    amiss word Unknown Memory a b some some' = absurd b
    amiss word Memory other a b some some' = absurd a

-- ---- names

-- the laws of names
pub record NameLaws : Type 0 where
  pub tokens : NamesOneToken
  pub variables : NamesOneVariable
  pub spelled : SpellsOneName

-- a new name is told once if what is found of a name is
pub fresh_once : {X : Type 0} (model : Model) (names : List VarName) (Of : X → VarName → Type 0) → IsLawful model → NameLaws → ((one other : X) (name : VarName) → Of one name → Of other name → one ≡ other)
    → SaysOnce (λ found. IsFreshName model names (Of found)) (IsNoFreshName model names (λ name. (found : X) × Of found name))
fresh_once {X = X} model names Of lawful laws told = record { says = says; whole = whole; amiss = amiss }
  where
    same : (word : List ℕ) (one other : VarName) → IsNameOf model one word → IsNameOf model other word → one ≡ other
    same word one other a b = one_name model word one other lawful laws.tokens laws.variables laws.spelled a b

    says : (word : List ℕ) (one other : X) → IsFreshName model names (Of one) word → IsFreshName model names (Of other) word → one ≡ other
    says word one other a b = told one other a.name a.wanted (subst (Of other) (same word b.name a.name b.is_name a.is_name) b.wanted)

    whole : (word : List ℕ) (one : X) (wrong : Wrong) → IsFreshName model names (Of one) word → IsNoFreshName model names (λ name. (found : X) × Of found name) wrong word → wrong ≡ Memory
    whole word one Syntax a b = absurd (b (a.is_name.text, a.is_name.spells))
    whole word one Twice a b = absurd (a.new (subst (Contains names) (same word b.0 a.name b.1.0 a.is_name) b.1.1))
    whole word one Unknown a b = absurd ((b.1 a.name a.is_name).1 (one, a.wanted))
    whole word one Memory a b = refl

    amiss : (word : List ℕ) (one other : Wrong) → IsNoFreshName model names (λ name. (found : X) × Of found name) one word → IsNoFreshName model names (λ name. (found : X) × Of found name) other word
        → (one ≡ Memory → ⊥) → (other ≡ Memory → ⊥) → one ≡ other
    amiss word Syntax Syntax a b some some' = refl
    amiss word Syntax Twice a b some some' = absurd (a (b.1.0.text, b.1.0.spells))
    amiss word Syntax Unknown a b some some' = absurd (a b.0)
    amiss word Twice Syntax a b some some' = absurd (b (a.1.0.text, a.1.0.spells))
    amiss word Twice Twice a b some some' = refl
    amiss word Twice Unknown a b some some' = absurd ((b.1 a.0 a.1.0).0 a.1.1)
    amiss word Unknown Syntax a b some some' = absurd (b a.0)
    amiss word Unknown Twice a b some some' = absurd ((a.1 b.0 b.1.0).0 b.1.1)
    amiss word Unknown Unknown a b some some' = refl
    amiss word Memory other a b some some' = absurd (some refl)
    amiss word Syntax Memory a b some some' = absurd (some' refl)
    amiss word Twice Memory a b some some' = absurd (some' refl)
    amiss word Unknown Memory a b some some' = absurd (some' refl)

pub global_told : (model : Model) (one other : NamedGlobal) (name : VarName) → IsGlobalOf model one name → IsGlobalOf model other name → one ≡ other
global_told model one other name (is, (variable, (at, kind))) (is', (variable', (at', kind'))) =
    let names : variables.Global one.number ≡ variables.Global other.number = sym is ∙ is' in
    let numbers : one.number ≡ other.number = cc in
    let both : Some variable ≡ Some variable' = sym at ∙ (ap (slice_get model.problem.globals) numbers ∙ at') in
    let kinds_same : one.kind ≡ other.kind = kind ∙ (ap (λ (v : VarDecl). v.kind) (some_is variable variable' both) ∙ sym kind') in
    λ i. record { number = numbers i; kind = kinds_same i }

pub token_told : (model : Model) (one other : NamedToken) (name : VarName) → IsTokenOf model one name → IsTokenOf model other name → one ≡ other
token_told model one other name (is, (slot, (has, pred))) (is', (slot', (has', pred'))) =
    let both : variables.Token one.name Start ≡ variables.Token other.name Start = sym is ∙ is' in
    let names : one.name ≡ other.name = cc in
    let slots = token_once model one.name slot slot' has (subst (λ n. HasToken model n slot') (sym names) has') in
    let preds : one.pred ≡ other.pred = pred ∙ (ap (λ (s : Slot). s.pred) slots ∙ sym pred') in
    λ i. record { name = names i; pred = preds i }

kind_told : (model : Model) (one other : ValueKind) (name : VarName) → IsLocalOfKind model one name → IsLocalOfKind model other name → one ≡ other
kind_told model one other (variables.Global number) a b = absurd a
kind_told model one other (variables.Token token part) a b = absurd a
kind_told model one other (variables.Local token rule number) (slot, (has, (variable, (local, kind)))) (slot', (has', (variable', (local', kind')))) =
    let slots = token_once model token slot slot' has has' in
    let rules = has_rule_once model slot.pred rule local.found local'.found local.has_rule (subst (λ (s : Slot). HasRule model s.pred rule local'.found) (sym slots) local'.has_rule) in
    let both : Some variable ≡ Some variable' = sym local.declared ∙ (ap (λ (r : Rule). slice_get r.locals number) rules ∙ local'.declared) in
    kind ∙ (ap (λ (v : VarDecl). v.kind) (some_is variable variable' both) ∙ sym kind')

pub local_told : (model : Model) (one other : NamedLocal) (name : VarName) → IsLocalOf model one name → IsLocalOf model other name → one ≡ other
local_told model one other name (is, kind) (is', kind') =
    let names : one.name ≡ other.name = sym is ∙ is' in
    let kinds_same = kind_told model one.kind other.kind name kind kind' in
    λ i. record { name = names i; kind = kinds_same i }

pub target_once : (model : Model) → IsLawful model → NameLaws → SaysOnce (IsTargetName model) (IsNoTarget model)
target_once model lawful laws = record { says = says; whole = whole; amiss = amiss }
  where
    says : (word : List ℕ) (one other : TokenName) → IsTargetName model one word → IsTargetName model other word → one ≡ other
    says word one other a b =
        let both : variables.Token one Start ≡ variables.Token other Start = one_name model word (variables.Token one Start) (variables.Token other Start) lawful laws.tokens laws.variables laws.spelled a b in
        cc

    whole : (word : List ℕ) (one : TokenName) (wrong : Wrong) → IsTargetName model one word → IsNoTarget model wrong word → wrong ≡ Memory
    whole word one Syntax a b = absurd (b (a.text, a.spells))
    whole word one Twice a b = absurd b
    whole word one Unknown a b = absurd (b.1 one a)
    whole word one Memory a b = refl

    amiss : (word : List ℕ) (one other : Wrong) → IsNoTarget model one word → IsNoTarget model other word → (one ≡ Memory → ⊥) → (other ≡ Memory → ⊥) → one ≡ other
    amiss word Syntax Syntax a b some some' = refl
    amiss word Syntax Twice a b some some' = absurd b
    amiss word Syntax Unknown a b some some' = absurd (a b.0)
    amiss word Syntax Memory a b some some' = absurd (some' refl)
    amiss word Twice other a b some some' = absurd a
    amiss word Unknown Syntax a b some some' = absurd (b a.0)
    amiss word Unknown Twice a b some some' = absurd b
    amiss word Unknown Unknown a b some some' = refl
    amiss word Unknown Memory a b some some' = absurd (some' refl)
    amiss word Memory other a b some some' = absurd (some refl)

-- ---- predicates

predicate_names : (model : Model) (number : ℕ) (word : List ℕ) → IsLawful model → IsPredicateText model number word → AreTwoNames word
predicate_names model number word lawful is =
    (is.class.name, (is.pred.name, ((lawful.classes is.pred.class is.class is.is_class).name, (lawful.preds number is.pred is.is_pred).name, is.whole)))

pub predicate_once : (model : Model) (number : ℕ) → IsLawful model → SaysOnce (λ (said : Unit {0}). IsPredicateText model number) (IsNoPredicate model number)
predicate_once model number lawful = record { says = λ word one other a b. refl; whole = whole; amiss = amiss }
  where
    whole : (word : List ℕ) (one : Unit {0}) (wrong : Wrong) → IsPredicateText model number word → IsNoPredicate model number wrong word → wrong ≡ Memory
    whole word one Syntax a b = absurd (b (predicate_names model number word lawful a))
    whole word one Twice a b = absurd b
    whole word one Unknown a b = absurd (b.1 a)
    whole word one Memory a b = absurd b

    amiss : (word : List ℕ) (one other : Wrong) → IsNoPredicate model number one word → IsNoPredicate model number other word → (one ≡ Memory → ⊥) → (other ≡ Memory → ⊥) → one ≡ other
    amiss word Syntax Syntax a b some some' = refl
    amiss word Syntax Twice a b some some' = absurd b
    amiss word Syntax Unknown a b some some' = absurd (a b.0)
    amiss word Syntax Memory a b some some' = absurd b
    amiss word Twice other a b some some' = absurd a
    amiss word Unknown Syntax a b some some' = absurd (b a.0)
    amiss word Unknown Twice a b some some' = absurd b
    amiss word Unknown Unknown a b some some' = refl
    amiss word Unknown Memory a b some some' = absurd b
    amiss word Memory other a b some some' = absurd a
