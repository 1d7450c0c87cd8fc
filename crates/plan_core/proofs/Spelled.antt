-- A plan has one text.
use Rattle.std.proofs.Common.{◌≡◌, ℕ, Bool, true, false, ℤ, pos, List, [], ◌∷◌, ◌++◌, length, slice_get, Option, Some, None, refl, sym, ◌∙◌, ap, subst, inl, inr, arith, codes}
use Rattle.eu_name.specs.declared.name.Part.TheVariants.{Start, End, Duration, Object, Param}
use Rattle.eu_name.specs.declared.name.VarName.{VarName}
use Rattle.eu_name.specs.declared.name.VarName.TheVariants as variables
use Rattle.eu_name.specs.declared.name_text.NameText.{NameText}
use Rattle.eu_name.specs.Spelling.{name_spelling}
use Rattle.model_core.specs.declared.class.Class.{Class}
use Rattle.model_core.specs.declared.class.Enum.{Enum}
use Rattle.model_core.specs.declared.class.Object as classes
use Rattle.model_core.specs.declared.class.Pred.{Pred}
use Rattle.model_core.specs.declared.model.Model.{Model}
use Rattle.model_core.specs.declared.model.Root.{Root}
use Rattle.model_core.specs.declared.variable.ValueKind.{ValueKind}
use Rattle.model_core.specs.declared.variable.ValueKind.TheVariants as kinds
use Rattle.model_core.specs.declared.variable.VarDecl.{VarDecl}
use Rattle.model_core.specs.Naming.{names_of}
use Rattle.plan_defs.specs.declared.plan.Line.TheVariants as lines
use Rattle.plan_defs.specs.declared.plan.Plan.{Plan}
use Rattle.plan_text.specs.declared.fault.Wrong.{Wrong}
use Rattle.plan_text.specs.declared.statement.Keyword.{Keyword}
use Rattle.plan_text.specs.declared.statement.Keyword.TheVariants as keywords
use Rattle.plan_text.specs.declared.statement.Statement.{Statement}
use Rattle.plan_text.specs.declared.statement.Statement.TheVariants.{Global, Of}
use Rattle.plan_text.specs.declared.subject.NamedGlobal.{NamedGlobal}
use Rattle.plan_text.specs.declared.subject.NamedToken.{NamedToken}
use Rattle.plan_text.specs.declared.subject.NamedLocal.{NamedLocal}
use Rattle.plan_text.specs.Found.{Found, Got, Done, OneWord, Then, IsOther, Exactly}
use Rattle.plan_text.specs.Lines.{keyword_text, IsNoKeyword, OneKeyword, IsOtherParameter, OnePart, FirstParts, OneParameter, Parameters, NoneLeft, LastParts, TokenValues, AfterKeyword, OneLine}
use Rattle.plan_text.specs.PlanTexts.{names_stated, HasLines, IsPlanText, plan_statements}
use Rattle.plan_text.specs.Subjects.{NamesSubject, IsNameOf, IsFreshName, IsNoFreshName, IsGlobalOf, IsTokenOf, IsLocalOf, IsTargetName, IsNoTarget, IsPredicateText, IsNoPredicate, OneGlobal, OneToken, OneLocal, OneTarget, OnePredicate}
use Rattle.plan_text.specs.Values.{IsValueText, IsNoValueText, OneValue}
use Rattle.plan_core.proofs.Told.{global_told, token_told, local_told}

some_is : {X : Type 0} (one other : X) → Some one ≡ Some other → one ≡ other
some_is one other same = cc

-- ---- what says this is one text

pub record WrittenOnce {X : Type 0} (Reader : List ℕ → Found X → Type 0) : Type 0 where
  pub same : (one other rest : List ℕ) (x : X) → Reader one (Got x rest) → Reader other (Got x rest) → one ≡ other

word_written : {X : Type 0} (gap : List ℕ) (Says : X → List ℕ → Type 0) (Amiss : Wrong → List ℕ → Type 0) → ((x : X) (word other : List ℕ) → Says x word → Says x other → word ≡ other) → WrittenOnce (OneWord gap Says Amiss)
word_written gap Says Amiss spelled = record {
  same = λ one other rest x a b. a.1.0.whole ∙ (ap (λ word. gap ++ (word ++ rest)) (spelled x a.0 b.0 a.1.1 b.1.1) ∙ sym b.1.0.whole);
}

then_written : {X Y : Type 0} (One : List ℕ → Found X → Type 0) (Other : X → List ℕ → Found Y → Type 0) → WrittenOnce One → ((x : X) → WrittenOnce (Other x))
    → ((one other mid left rest : List ℕ) (x z : X) (y : Y) → One one (Got x mid) → One other (Got z left) → Other x mid (Got y rest) → Other z left (Got y rest) → x ≡ z) → WrittenOnce (Then One Other)
then_written {X = X} {Y = Y} One Other first second told = record { same = same }
  where
    same : (one other rest : List ℕ) (y : Y) → Then One Other one (Got y rest) → Then One Other other (Got y rest) → one ≡ other
    same one other rest y (x, (mid, (a, b))) (z, (left, (a', b'))) =
        let firsts = told one other mid left rest x z y a a' b b' in
        let mids = (second x).same mid left rest y b (subst (λ w. Other w left (Got y rest)) (sym firsts) b') in
        first.same one other mid x a (subst (λ m. One other (Got x m)) (sym mids) (subst (λ w. One other (Got w left)) (sym firsts) a'))

done_written : {X : Type 0} (said : X) → WrittenOnce (Done said)
done_written said = record { same = λ one other rest x a b. sym a.1 ∙ b.1 }

-- ---- words

exactly_written : (gap expected : List ℕ) → WrittenOnce (Exactly gap expected)
exactly_written gap expected = word_written gap (λ (said : Unit {0}) word. word ≡ expected) (IsOther expected) (λ x word other a b. a ∙ sym b)

value_spelled : (model : Model) (kind : ValueKind) (value : ℤ) (word other : List ℕ) → IsValueText model kind value word → IsValueText model kind value other → word ≡ other
value_spelled model kinds.Int value word other a b = a.1 ∙ sym b.1
value_spelled model kinds.Float value word other a b = a.1 ∙ sym b.1
value_spelled model kinds.Bool value word other (inl a) (inl b) = a.1 ∙ sym b.1
value_spelled model kinds.Bool value word other (inl a) (inr b) = let both : pos 0 ≡ pos 1 = sym a.0 ∙ b.0 in cc
value_spelled model kinds.Bool value word other (inr a) (inl b) = let both : pos 1 ≡ pos 0 = sym a.0 ∙ b.0 in cc
value_spelled model kinds.Bool value word other (inr a) (inr b) = a.1 ∙ sym b.1
value_spelled model (kinds.Enum number) value word other a b =
    let places_both : pos a.place ≡ pos b.place = sym a.is_place ∙ b.is_place in
    let places : a.place ≡ b.place = cc in
    let enums : a.found ≡ b.found = some_is a.found b.found (sym a.is_enum ∙ b.is_enum) in
    some_is word other (sym a.is_member ∙ (ap (λ (e : Enum). slice_get e.members a.place) enums ∙ (ap (slice_get b.found.members) places ∙ b.is_member)))
value_spelled model kinds.Object value word other (object, ((place, at, is), named)) (object', ((place', at', is'), named')) =
    let places_both : pos place ≡ pos place' = sym at ∙ at' in
    let places : place ≡ place' = cc in
    sym named ∙ (ap (λ (o : classes.Object). o.name) (some_is object object' (sym is ∙ (ap (slice_get model.objects) places ∙ is'))) ∙ named')

value_written : (model : Model) (kind : ValueKind) → WrittenOnce (OneValue model kind)
value_written model kind = word_written (codes " ") (IsValueText model kind) (IsNoValueText model kind) (value_spelled model kind)

-- a name has one text
one_text : (model : Model) (name : VarName) (t u : NameText) → NamesSubject model t name → NamesSubject model u name → t ≡ u
one_text model (variables.Global number) t u a b =
    let found = some_is a.variable b.variable (sym a.is_global ∙ b.is_global) in
    let labels : t.label ≡ u.label = sym a.label ∙ (ap (λ (v : VarDecl). v.name) found ∙ b.label) in
    let steps : t.steps ≡ u.steps = a.steps ∙ sym b.steps in
    let tail : t.tail ≡ u.tail = a.tail ∙ sym b.tail in
    λ i. record { label = labels i; steps = steps i; tail = tail i }
one_text model (variables.Token token Start) t u (tail, (slot, leads)) (tail', (slot', leads')) =
    let found = some_is leads.root leads'.root (sym leads.is_root ∙ leads'.is_root) in
    let labels : t.label ≡ u.label = sym leads.label ∙ (ap (λ (r : Root). r.label) found ∙ leads'.label) in
    let steps : t.steps ≡ u.steps = sym leads.steps ∙ leads'.steps in
    let tails : t.tail ≡ u.tail = tail ∙ sym tail' in
    λ i. record { label = labels i; steps = steps i; tail = tails i }
one_text model (variables.Token token End) t u a b = absurd a
one_text model (variables.Token token Duration) t u a b = absurd a
one_text model (variables.Token token Object) t u a b = absurd a
one_text model (variables.Token token (Param number)) t u a b = absurd a
one_text model (variables.Local token rule number) t u a b =
    let found = some_is a.leads.root b.leads.root (sym a.leads.is_root ∙ b.leads.is_root) in
    let labels : t.label ≡ u.label = sym a.leads.label ∙ (ap (λ (r : Root). r.label) found ∙ b.leads.label) in
    let steps : t.steps ≡ u.steps = sym a.leads.steps ∙ b.leads.steps in
    let tails : t.tail ≡ u.tail = a.tail ∙ sym b.tail in
    λ i. record { label = labels i; steps = steps i; tail = tails i }

name_spelled : (model : Model) (name : VarName) (word other : List ℕ) → IsNameOf model name word → IsNameOf model name other → word ≡ other
name_spelled model name word other a b = a.spells.1 ∙ (ap name_spelling (one_text model name a.text b.text a.names b.names) ∙ sym b.spells.1)

fresh_written : {X : Type 0} (model : Model) (names : List VarName) (Is : X → VarName → Type 0) → ((found : X) (one other : VarName) → Is found one → Is found other → one ≡ other)
    → WrittenOnce (OneWord (codes " ") (λ found. IsFreshName model names (Is found)) (IsNoFreshName model names (λ name. (found : X) × Is found name)))
fresh_written {X = X} model names Is named =
    word_written (codes " ") (λ found. IsFreshName model names (Is found)) (IsNoFreshName model names (λ name. (found : X) × Is found name)) (λ found word other a b.
    name_spelled model a.name word other a.is_name (subst (λ n. IsNameOf model n other) (named found b.name a.name b.wanted a.wanted) b.is_name))

predicate_spelled : (model : Model) (number : ℕ) (word other : List ℕ) → IsPredicateText model number word → IsPredicateText model number other → word ≡ other
predicate_spelled model number word other a b =
    let preds = some_is a.pred b.pred (sym a.is_pred ∙ b.is_pred) in
    let found = some_is a.class b.class (sym a.is_class ∙ (ap (λ (p : Pred). slice_get model.classes p.class) preds ∙ b.is_class)) in
    a.whole ∙ (ap (λ (k : Class). k.name ++ (codes "." ++ a.pred.name)) found ∙ (ap (λ (p : Pred). b.class.name ++ (codes "." ++ p.name)) preds ∙ sym b.whole))

-- ---- the parts of lines

part_written : (model : Model) (label : List ℕ) (kind : ValueKind) → WrittenOnce (OnePart model label kind)
part_written model label kind =
    then_written (Exactly (codes " ") label) (λ said. OneValue model kind) (exactly_written (codes " ") label) (λ said. value_written model kind) (λ one other mid left rest x z y a b c d. refl)

first_written : (model : Model) → WrittenOnce (FirstParts model)
first_written model =
    then_written (OnePart model (codes "start") kinds.Int) _ (part_written model (codes "start") kinds.Int) (λ start.
    then_written (OnePart model (codes "end") kinds.Int) _ (part_written model (codes "end") kinds.Int) (λ end.
    then_written (OnePart model (codes "duration") kinds.Int) _ (part_written model (codes "duration") kinds.Int) (λ duration.
    then_written (OnePart model (codes "object") kinds.Object) (λ object. Done (start ∷ end ∷ duration ∷ object ∷ [])) (part_written model (codes "object") kinds.Object) (λ object. done_written (start ∷ end ∷ duration ∷ object ∷ []))
    (λ one other mid left rest x z y a b c d. let both : start ∷ end ∷ duration ∷ x ∷ [] ≡ start ∷ end ∷ duration ∷ z ∷ [] = sym c.0 ∙ d.0 in cc))
    (λ one other mid left rest x z y a b c d. let both : start ∷ end ∷ x ∷ c.0 ∷ [] ≡ start ∷ end ∷ z ∷ d.0 ∷ [] = sym c.1.1.1.0 ∙ d.1.1.1.0 in cc))
    (λ one other mid left rest x z y a b c d. let both : start ∷ x ∷ c.0 ∷ c.1.1.1.0 ∷ [] ≡ start ∷ z ∷ d.0 ∷ d.1.1.1.0 ∷ [] = sym c.1.1.1.1.1.1.0 ∙ d.1.1.1.1.1.1.0 in cc))
    (λ one other mid left rest x z y a b c d. let both : x ∷ c.0 ∷ c.1.1.1.0 ∷ c.1.1.1.1.1.1.0 ∷ [] ≡ z ∷ d.0 ∷ d.1.1.1.0 ∷ d.1.1.1.1.1.1.0 ∷ [] = sym c.1.1.1.1.1.1.1.1.1.0 ∙ d.1.1.1.1.1.1.1.1.1.0 in cc)

parameter_written : (model : Model) (names : List (List ℕ)) (variable : VarDecl) → WrittenOnce (OneParameter model names variable)
parameter_written model names variable =
    then_written (OneWord (codes " ") (λ (said : Unit {0}) word. word ≡ variable.name) (IsOtherParameter names variable.name)) (λ said. OneValue model variable.kind)
    (word_written (codes " ") (λ (said : Unit {0}) word. word ≡ variable.name) (IsOtherParameter names variable.name) (λ x word other a b. a ∙ sym b)) (λ said. value_written model variable.kind) (λ one other mid left rest x z y a b c d. refl)

parameters_written : (model : Model) (names : List (List ℕ)) (params : List VarDecl) → WrittenOnce (Parameters model names params)
parameters_written model names [] = done_written []
parameters_written model names (variable ∷ params) =
    then_written (OneParameter model names variable) (λ value. Then (Parameters model names params) (λ values. Done (value ∷ values))) (parameter_written model names variable) (λ value.
    then_written (Parameters model names params) (λ values. Done (value ∷ values)) (parameters_written model names params) (λ values. done_written (value ∷ values))
    (λ one other mid left rest x z y a b c d. let both : value ∷ x ≡ value ∷ z = sym c.0 ∙ d.0 in cc))
    (λ one other mid left rest x z y a b c d. let both : x ∷ c.0 ≡ z ∷ d.0 = sym c.1.1.1.0 ∙ d.1.1.1.0 in cc)

none_written : (names : List (List ℕ)) → WrittenOnce (NoneLeft names)
none_written names = record { same = λ one other rest x a b. sym a.0 ∙ b.0 }

last_written : (model : Model) (params : List VarDecl) → WrittenOnce (LastParts model params)
last_written model params =
    then_written (Parameters model (names_of params) params) (λ values. Then (NoneLeft (names_of params)) (λ said. Done values)) (parameters_written model (names_of params) params) (λ values.
    then_written (NoneLeft (names_of params)) (λ said. Done values) (none_written (names_of params)) (λ said. done_written values) (λ one other mid left rest x z y a b c d. refl))
    (λ one other mid left rest x z y a b c d. sym c.1.1.1.0 ∙ d.1.1.1.0)

four : (model : Model) (text rest : List ℕ) (values : List ℤ) → FirstParts model text (Got values rest) → length values ≡ 4
four model text rest values (start, (one, (is_start, (end, (two, (is_end, (duration, (three, (is_duration, (object, (last, (is_object, (same, is))))))))))))) = ap length same

same_front : (first other last more : List ℤ) → length first ≡ length other → first ++ last ≡ other ++ more → first ≡ other
same_front [] [] last more long is = refl
same_front [] (y ∷ other) last more long is = absurd (omega (arith, long))
same_front (x ∷ first) [] last more long is = absurd (omega (arith, long))
same_front (x ∷ first) (y ∷ other) last more long is =
    let heads : x ≡ y = cc in
    let tails : first ++ last ≡ other ++ more = cc in
    let rest = same_front first other last more (omega (arith, long)) tails in
    λ i. heads i ∷ rest i

values_written : (model : Model) (number : ℕ) → WrittenOnce (TokenValues model number)
values_written model number = record { same = same }
  where
    of : (pred : Pred) → WrittenOnce (Then (FirstParts model) (λ first. Then (LastParts model pred.params) (λ last. Done (first ++ last))))
    of pred =
        then_written (FirstParts model) (λ first. Then (LastParts model pred.params) (λ last. Done (first ++ last))) (first_written model) (λ first.
        then_written (LastParts model pred.params) (λ last. Done (first ++ last)) (last_written model pred.params) (λ last. done_written (first ++ last))
        (λ one other mid left rest x z y a b c d. same_back first x z (sym c.0 ∙ d.0)))
        (λ one other mid left rest x z y a b c d. same_front x z c.0 d.0 (four model one mid x a ∙ sym (four model other left z b)) (sym c.1.1.1.0 ∙ d.1.1.1.0))
      where
        same_back : (first last more : List ℤ) → first ++ last ≡ first ++ more → last ≡ more
        same_back [] last more is = is
        same_back (x ∷ first) last more is = let tails : first ++ last ≡ first ++ more = cc in same_back first last more tails

    same : (one other rest : List ℕ) (x : List ℤ) → TokenValues model number one (Got x rest) → TokenValues model number other (Got x rest) → one ≡ other
    same one other rest x (pred, (is, a)) (pred', (is', b)) =
        (of pred).same one other rest x a (subst (λ (p : Pred). Then (FirstParts model) (λ first. Then (LastParts model p.params) (λ last. Done (first ++ last))) other (Got x rest)) (some_is pred' pred (sym is' ∙ is)) b)

-- ---- lines

global_written : (model : Model) (names : List VarName) → WrittenOnce (OneGlobal model names)
global_written model names = fresh_written model names (IsGlobalOf model) (λ found one other a b. a.0 ∙ sym b.0)

token_written : (model : Model) (names : List VarName) → WrittenOnce (OneToken model names)
token_written model names = fresh_written model names (IsTokenOf model) (λ found one other a b. a.0 ∙ sym b.0)

local_written : (model : Model) (names : List VarName) → WrittenOnce (OneLocal model names)
local_written model names = fresh_written model names (IsLocalOf model) (λ found one other a b. a.0 ∙ sym b.0)

-- tokens of one name are found alike
tokens_alike : (model : Model) (names : List VarName) (text other mid left : List ℕ) (x z : NamedToken) → OneToken model names text (Got x mid) → OneToken model names other (Got z left) → x.name ≡ z.name → x ≡ z
tokens_alike model names text other mid left x z (word, (has, fresh)) (word', (has', fresh')) same =
    token_told model x z fresh.name fresh.wanted (subst (IsTokenOf model z) (fresh'.wanted.0 ∙ (ap (λ t. variables.Token t Start) (sym same) ∙ sym fresh.wanted.0)) fresh'.wanted)

globals_alike : (model : Model) (names : List VarName) (text other mid left : List ℕ) (x z : NamedGlobal) → OneGlobal model names text (Got x mid) → OneGlobal model names other (Got z left) → x.number ≡ z.number → x ≡ z
globals_alike model names text other mid left x z (word, (has, fresh)) (word', (has', fresh')) same =
    global_told model x z fresh.name fresh.wanted (subst (IsGlobalOf model z) (fresh'.wanted.0 ∙ (ap variables.Global (sym same) ∙ sym fresh.wanted.0)) fresh'.wanted)

locals_alike : (model : Model) (names : List VarName) (text other mid left : List ℕ) (x z : NamedLocal) → OneLocal model names text (Got x mid) → OneLocal model names other (Got z left) → x.name ≡ z.name → x ≡ z
locals_alike model names text other mid left x z (word, (has, fresh)) (word', (has', fresh')) same =
    local_told model x z fresh.name fresh.wanted (subst (IsLocalOf model z) (fresh'.wanted.0 ∙ (sym same ∙ sym fresh.wanted.0)) fresh'.wanted)

active_written : (model : Model) (names : List VarName) (fact : Bool)
    → WrittenOnce (Then (OneToken model names) (λ found. Then (OnePredicate model found.pred) (λ said. Then (TokenValues model found.pred) (λ values. Done (Some (Of (lines.Token found.name fact values)))))))
active_written model names fact =
    then_written (OneToken model names) (λ found. Then (OnePredicate model found.pred) (λ said. Then (TokenValues model found.pred) (λ values. Done (Some (Of (lines.Token found.name fact values))))))
    (token_written model names) (λ found.
    then_written (OnePredicate model found.pred) (λ said. Then (TokenValues model found.pred) (λ values. Done (Some (Of (lines.Token found.name fact values)))))
    (word_written (codes " ") (λ (said : Unit {0}). IsPredicateText model found.pred) (IsNoPredicate model found.pred) (λ x word other a b. predicate_spelled model found.pred word other a b)) (λ said.
    then_written (TokenValues model found.pred) (λ values. Done (Some (Of (lines.Token found.name fact values)))) (values_written model found.pred) (λ values. done_written (Some (Of (lines.Token found.name fact values))))
    (λ one other mid left rest x z y a b c d. let both : Some (Of (lines.Token found.name fact x)) ≡ Some (Of (lines.Token found.name fact z)) = sym c.0 ∙ d.0 in cc))
    (λ one other mid left rest x z y a b c d. refl))
    (λ one other mid left rest x z y a b c d.
    let both : Some (Of (lines.Token x.name fact c.1.1.1.0)) ≡ Some (Of (lines.Token z.name fact d.1.1.1.0)) = sym c.1.1.1.1.1.1.0 ∙ d.1.1.1.1.1.1.0 in
    let names_same : x.name ≡ z.name = cc in
    tokens_alike model names one other mid left x z a b names_same)

after_written : (model : Model) (names : List VarName) (keyword : Keyword) → WrittenOnce (AfterKeyword model names keyword)
after_written model names keywords.Global =
    then_written (OneGlobal model names) (λ found. Then (OneValue model found.kind) (λ value. Done (Some (Global found.number value)))) (global_written model names) (λ found.
    then_written (OneValue model found.kind) (λ value. Done (Some (Global found.number value))) (value_written model found.kind) (λ value. done_written (Some (Global found.number value)))
    (λ one other mid left rest x z y a b c d. let both : Some (Global found.number x) ≡ Some (Global found.number z) = sym c.0 ∙ d.0 in cc))
    (λ one other mid left rest x z y a b c d.
    let both : Some (Global x.number c.0) ≡ Some (Global z.number d.0) = sym c.1.1.1.0 ∙ d.1.1.1.0 in
    let numbers : x.number ≡ z.number = cc in
    globals_alike model names one other mid left x z a b numbers)
after_written model names keywords.Fact = active_written model names true
after_written model names keywords.Token = active_written model names false
after_written model names keywords.Merged =
    then_written (OneToken model names) (λ found. Then (OneTarget model) (λ target. Done (Some (Of (lines.Merged found.name target))))) (token_written model names) (λ found.
    then_written (OneTarget model) (λ target. Done (Some (Of (lines.Merged found.name target))))
    (word_written (codes " ") (IsTargetName model) (IsNoTarget model) (λ x word other a b. name_spelled model (variables.Token x Start) word other a b)) (λ target. done_written (Some (Of (lines.Merged found.name target))))
    (λ one other mid left rest x z y a b c d. let both : Some (Of (lines.Merged found.name x)) ≡ Some (Of (lines.Merged found.name z)) = sym c.0 ∙ d.0 in cc))
    (λ one other mid left rest x z y a b c d.
    let both : Some (Of (lines.Merged x.name c.0)) ≡ Some (Of (lines.Merged z.name d.0)) = sym c.1.1.1.0 ∙ d.1.1.1.0 in
    let names_same : x.name ≡ z.name = cc in
    tokens_alike model names one other mid left x z a b names_same)
after_written model names keywords.Rejected =
    then_written (OneToken model names) (λ found. Done (Some (Of (lines.Rejected found.name)))) (token_written model names) (λ found. done_written (Some (Of (lines.Rejected found.name))))
    (λ one other mid left rest x z y a b c d.
    let both : Some (Of (lines.Rejected x.name)) ≡ Some (Of (lines.Rejected z.name)) = sym c.0 ∙ d.0 in
    let names_same : x.name ≡ z.name = cc in
    tokens_alike model names one other mid left x z a b names_same)
after_written model names keywords.Local =
    then_written (OneLocal model names) (λ found. Then (OneValue model found.kind) (λ value. Done (Some (Of (lines.Local found.name value))))) (local_written model names) (λ found.
    then_written (OneValue model found.kind) (λ value. Done (Some (Of (lines.Local found.name value)))) (value_written model found.kind) (λ value. done_written (Some (Of (lines.Local found.name value))))
    (λ one other mid left rest x z y a b c d. let both : Some (Of (lines.Local found.name x)) ≡ Some (Of (lines.Local found.name z)) = sym c.0 ∙ d.0 in cc))
    (λ one other mid left rest x z y a b c d.
    let both : Some (Of (lines.Local x.name c.0)) ≡ Some (Of (lines.Local z.name d.0)) = sym c.1.1.1.0 ∙ d.1.1.1.0 in
    let names_same : x.name ≡ z.name = cc in
    locals_alike model names one other mid left x z a b names_same)
after_written model names keywords.End = done_written None

-- the word with which a line begins is that of what it says
keyword_of : Option Statement → Keyword
keyword_of None = keywords.End
keyword_of (Some (Global number value)) = keywords.Global
keyword_of (Some (Of (lines.Token name true values))) = keywords.Fact
keyword_of (Some (Of (lines.Token name false values))) = keywords.Token
keyword_of (Some (Of (lines.Merged name target))) = keywords.Merged
keyword_of (Some (Of (lines.Rejected name))) = keywords.Rejected
keyword_of (Some (Of (lines.Local name value))) = keywords.Local

after_is : (model : Model) (names : List VarName) (keyword : Keyword) (text rest : List ℕ) (said : Option Statement) → AfterKeyword model names keyword text (Got said rest) → keyword_of said ≡ keyword
unfolding keyword_of
after_is model names keywords.Global text rest said (found, (mid, (a, (value, (left, (b, (same, is))))))) = ap keyword_of same
after_is model names keywords.Fact text rest said (found, (mid, (a, (tt', (left, (b, (values, (last, (c, (same, is)))))))))) = ap keyword_of same
after_is model names keywords.Token text rest said (found, (mid, (a, (tt', (left, (b, (values, (last, (c, (same, is)))))))))) = ap keyword_of same
after_is model names keywords.Merged text rest said (found, (mid, (a, (target, (left, (b, (same, is))))))) = ap keyword_of same
after_is model names keywords.Rejected text rest said (found, (mid, (a, (same, is)))) = ap keyword_of same
after_is model names keywords.Local text rest said (found, (mid, (a, (value, (left, (b, (same, is))))))) = ap keyword_of same
after_is model names keywords.End text rest said (same, is) = ap keyword_of same

line_written : (model : Model) (names : List VarName) → WrittenOnce (OneLine model names)
line_written model names =
    then_written OneKeyword (AfterKeyword model names) (word_written (codes "\n") (λ keyword word. word ≡ keyword_text keyword) IsNoKeyword (λ x word other a b. a ∙ sym b)) (after_written model names)
    (λ one other mid left rest x z y a b c d. sym (after_is model names x mid rest y c) ∙ after_is model names z left rest y d)

lines_written : (model : Model) (before : List Statement) (one other : List ℕ) (said : List Statement) (rest : List ℕ) → HasLines model before one said rest → HasLines model before other said rest → one ≡ other
lines_written model before one other [] rest is is' = sym is ∙ is'
lines_written model before one other (s ∷ said) rest (mid, (line, more)) (mid', (line', more')) =
    let mids = lines_written model (before ++ s ∷ []) mid mid' said rest more more' in
    (line_written model (names_stated before)).same one other mid (Some s) line (subst (λ m. OneLine model (names_stated before) other (Got (Some s) m)) (sym mids) line')

pub text_once : (model : Model) (plan : Plan) (one other : List ℕ) → IsPlanText model plan one → IsPlanText model plan other → one ≡ other
text_once model plan one other (rest, (is, (mid, (has, line)))) (rest', (is', (mid', (has', line')))) =
    let mids = (line_written model (names_stated (plan_statements plan))).same mid mid' (codes "\n") None line line' in
    let rests = lines_written model [] rest rest' (plan_statements plan) mid has (subst (λ m. HasLines model [] rest' (plan_statements plan) m) (sym mids) has') in
    is ∙ (ap (λ l. codes "plan" ++ l) rests ∙ sym is')
