-- What words name.
use Rattle.std.proofs.Common.{◌≡◌, ℕ, ◌+◌, ◌<◌, ◌↔◌, zero, suc, Bool, true, false, ◌||◌, ◌⊎◌, inl, inr, List, [], ◌∷◌, ◌++◌, length, map, get_or, Option, Some, None, slice_get, refl, sym, ◌∙◌, ap, subst, arith, IsTrue, Contains, codes}
use Rattle.std.specs.Prelude.{◌≢◌, AllPairs, MatchOption}
use Rattle.std.specs.List.{flat_map, list_any, AllZip}
use Rattle.std.proofs.lemmas.List.{get_or_append_left, get_or-append-add, get_or-map, length-append, length-map}
use Rattle.eu_name.specs.declared.name.Part.{Part}
use Rattle.eu_name.specs.declared.name.Part.TheVariants.{Start, End, Duration, Object, Param}
use Rattle.eu_name.specs.declared.name.TokenName.{TokenName}
use Rattle.eu_name.specs.declared.name.VarName.{VarName}
use Rattle.eu_name.specs.declared.name.VarName.TheVariants.{Global, Token, Local}
use Rattle.eu_name.specs.declared.name_text.NameText.{NameText}
use Rattle.eu_name.specs.declared.name_text.Tail.TheVariants as tails
use Rattle.eu_name.specs.Laws.{DecidesEquality, SpellsOneName}
use Rattle.eu_name.specs.Spelling.{Spells}
use Rattle.model_core.specs.declared.class.Class.{Class}
use Rattle.model_core.specs.declared.class.Pred.{Pred}
use Rattle.model_core.specs.declared.model.Model.{Model}
use Rattle.model_core.specs.declared.model.Root.{Root}
use Rattle.eu_name.specs.declared.name.Step.{Step}
use Rattle.model_core.specs.declared.rule.Rule.{Rule}
use Rattle.model_core.specs.declared.rule.Slot.{Slot}
use Rattle.model_core.specs.declared.variable.Base.{Base}
use Rattle.model_core.specs.declared.variable.ValueKind.{ValueKind}
use Rattle.model_core.specs.declared.variable.VarDecl.{VarDecl}
use Rattle.model_core.specs.Lawful.{IsLawful, IsLawfulRule, IsLawfulSlot, IsLawfulRoot, IsToken}
use Rattle.model_core.specs.Names.{NamesToken, NamesVariable, NamesOneVariable, NamesOneToken}
use Rattle.model_core.specs.Naming.{global_names, labels}
use Rattle.model_core.specs.Tokens.{IsRoot, HasRule, HasToken, Reaches, slot_of}
use Rattle.model_core.specs.Variables.{HasBase, IsGlobal}
use Rattle.model_core.proofs.Distinct.{pairs_front}
use Rattle.model_core.proofs.Items.{item_within, item_is, item_all}
use Rattle.plan_text.specs.declared.fault.Wrong.TheVariants.{Unknown}
use Rattle.plan_text.specs.declared.subject.NamedGlobal.{NamedGlobal}
use Rattle.plan_text.specs.declared.subject.NamedToken.{NamedToken}
use Rattle.plan_text.specs.declared.subject.NamedLocal.{NamedLocal}
use Rattle.plan_text.specs.Subjects.{NamesSubject, IsNameOf, IsLocalOfKind, IsFreshName, IsNoFreshName, IsGlobalOf, IsTokenOf, IsLocalOf, IsTargetName, IsNoTarget, IsPredicateText, OneToken}
use Rattle.plan_text.specs.Found.{Got}
use Rattle.plan_text.proofs.Predicates.{found_pred, found_class}
use Rattle.eu_name.proofs.Ordered.{contains_head, contains_later, contains_cases, contains_none}
use Rattle.plan_resolve.specs.Naming.{SaysSubject, SaysFresh, IsLocalName}

-- ---- locals

pub local_there : (model : Model) (name : VarName) (token : TokenName) (rule number : ℕ) → name ≡ Local token rule number → (kind : ValueKind) × IsLocalOfKind model kind name → (base : Base) × HasBase model (Local token rule number) base
local_there model name token rule number is (kind, of) =
    let here : IsLocalOfKind model kind (Local token rule number) = subst (IsLocalOfKind model kind) is of in
    (here.1.1.0.base, record { slot = here.0; has_token = here.1.0; variable = here.1.1.0; has_local = here.1.1.1.0; is_base = refl })

pub local_kind_is : (model : Model) (name : VarName) (token : TokenName) (rule number : ℕ) (kind : ValueKind) → name ≡ Local token rule number → IsLocalOfKind model kind (Local token rule number) → IsLocalOfKind model kind name
local_kind_is model name token rule number kind is of = subst (IsLocalOfKind model kind) (sym is) of

-- ---- names that are known

pub known_is : (test : VarName → VarName → Bool) → DecidesEquality test → (names : List VarName) (name : VarName) (r : Bool) → r ≡ list_any (test name) names → IsTrue r ↔ Contains names name
known_is test tells names name r is = (λ holds. there names (sym is ∙ holds), λ has. is ∙ found names has)
  where
    there : (names : List VarName) → list_any (test name) names ≡ true → Contains names name
    there [] holds = cc
    there (one ∷ names) holds = by (test name one) refl holds (there names)
      where
        by : (b : Bool) → test name one ≡ b → b || list_any (test name) names ≡ true → (list_any (test name) names ≡ true → Contains names name) → Contains (one ∷ names) name
        by true same holds rest = subst (λ n. Contains (one ∷ names) n) (sym ((tells name one).0 same)) (contains_head one names)
        by false differ holds rest = contains_later one name names (rest holds)

    found : (names : List VarName) → Contains names name → list_any (test name) names ≡ true
    found [] has = absurd (contains_none name has)
    found (one ∷ names) has = by (test name one) refl (contains_cases one name names has) (found names)
      where
        by : (b : Bool) → test name one ≡ b → (one ≡ name) ⊎ Contains names name → (Contains names name → list_any (test name) names ≡ true) → b || list_any (test name) names ≡ true
        by true same cases rest = refl
        by false differ (inl here) rest = let equal : test name one ≡ true = (tells name one).1 (sym here) in cc
        by false differ (inr later) rest = rest later

-- ---- one name

pub none_of : {X : Type 0} (found : Option X) (P : Type 0) (Q : X → Type 0) → found ≡ None → MatchOption found P Q → P
none_of found P Q is says = subst (λ f. MatchOption f P Q) is says

-- a text that names no token names what a line can be about where it names a variable that isn't a part of a token
pub subject_is : (model : Model) (text : NameText) (found result : Option VarName) → IsLawful model → NamesOneVariable
    → ((token : TokenName) → NamesToken model text token → ⊥)
    → MatchOption found ((variable : VarName) → NamesVariable model text variable → ⊥) (NamesVariable model text)
    → ((token : TokenName) (part : Part) → found ≡ Some (Token token part) → result ≡ None)
    → ((number : ℕ) → found ≡ Some (Global number) → result ≡ found)
    → ((token : TokenName) (rule number : ℕ) → found ≡ Some (Local token rule number) → result ≡ found)
    → (found ≡ None → result ≡ found)
    → MatchOption result ((name : VarName) → NamesSubject model text name → ⊥) (NamesSubject model text)
subject_is model text None result lawful once none named part global local absent = subst (λ r. MatchOption r ((name : VarName) → NamesSubject model text name → ⊥) (NamesSubject model text)) (sym (absent refl)) unnamed
  where
    unnamed : (name : VarName) → NamesSubject model text name → ⊥
    unnamed (Global number) is = named (Global number) is
    unnamed (Token token Start) is = none token is
    unnamed (Token token End) is = is
    unnamed (Token token Duration) is = is
    unnamed (Token token Object) is = is
    unnamed (Token token (Param number)) is = is
    unnamed (Local token rule number) is = named (Local token rule number) is
subject_is model text (Some (Global number)) result lawful once none named part global local absent =
    subst (λ r. MatchOption r ((name : VarName) → NamesSubject model text name → ⊥) (NamesSubject model text)) (sym (global number refl)) named
subject_is model text (Some (Local token rule number)) result lawful once none named part global local absent =
    subst (λ r. MatchOption r ((name : VarName) → NamesSubject model text name → ⊥) (NamesSubject model text)) (sym (local token rule number refl)) named
subject_is model text (Some (Token token at)) result lawful once none named part global local absent =
    subst (λ r. MatchOption r ((name : VarName) → NamesSubject model text name → ⊥) (NamesSubject model text)) (sym (part token at refl)) unnamed
  where
    unnamed : (name : VarName) → NamesSubject model text name → ⊥
    unnamed (Global number) is = let same : Token token at ≡ Global number = once model text (Token token at) (Global number) lawful named is in cc
    unnamed (Token other Start) is = none other is
    unnamed (Token other End) is = is
    unnamed (Token other Duration) is = is
    unnamed (Token other Object) is = is
    unnamed (Token other (Param number)) is = is
    unnamed (Local other rule number) is = let same : Token token at ≡ Local other rule number = once model text (Token token at) (Local other rule number) lawful named is in cc

-- ---- pairs of words

same_behind : (gap one two : List ℕ) → gap ++ one ≡ gap ++ two → one ≡ two
same_behind [] one two is = is
same_behind (byte ∷ gap) one two is = let tails : gap ++ one ≡ gap ++ two = cc in same_behind gap one two tails

pub pair_is : (first second word after name : List ℕ) (r : Bool) → word ≡ first ++ after → after ≡ codes "." ++ name → IsTrue r ↔ (name ≡ second) → IsTrue r ↔ (word ≡ first ++ (codes "." ++ second))
pair_is first second word after name r is behind same = (
  λ holds. is ∙ ap (λ l. first ++ l) (behind ∙ ap (λ l. codes "." ++ l) (same.0 holds)),
  λ whole. same.1 (same_behind (codes ".") name second (sym behind ∙ same_behind first after (codes "." ++ second) (sym is ∙ whole))),
)

pub no_pair : (first second word after : List ℕ) → word ≡ first ++ after → ((rest : List ℕ) → after ≡ codes "." ++ rest → ⊥) → word ≡ first ++ (codes "." ++ second) → ⊥
no_pair first second word after is none whole = none second (same_behind first after (codes "." ++ second) (sym is ∙ whole))

pub predicate_is : (model : Model) (number : ℕ) (items : List Pred) (pred : Pred) (classes : List Class) (class : Class) (front back word : List ℕ) (r : Bool) → IsLawful model → number < length model.preds
    → items ≡ model.preds → pred ≡ get_or items number pred → classes ≡ model.classes → class ≡ get_or classes pred.class class → front ≡ class.name → back ≡ pred.name
    → IsTrue r ↔ (word ≡ front ++ (codes "." ++ back)) → IsTrue r ↔ IsPredicateText model number word
predicate_is model number items pred classes class front back word r lawful there items_same pred_is classes_same class_is front_is back_is says =
    let is_pred : slice_get model.preds number ≡ Some pred = found_pred model number items pred there items_same pred_is in
    let is_class : slice_get model.classes pred.class ≡ Some class = found_class model number pred classes class lawful is_pred classes_same class_is in
    let spelled : front ++ (codes "." ++ back) ≡ class.name ++ (codes "." ++ pred.name) = ap (λ l. l ++ (codes "." ++ back)) front_is ∙ ap (λ l. class.name ++ (codes "." ++ l)) back_is in (
      λ holds. record { pred = pred; is_pred = is_pred; class = class; is_class = is_class; whole = says.0 holds ∙ spelled },
      λ text. says.1 (
          let preds_both : Some text.pred ≡ Some pred = sym text.is_pred ∙ is_pred in
          let preds : text.pred ≡ pred = cc in
          let classes_both : Some text.class ≡ Some class = sym text.is_class ∙ (ap (λ (p : Pred). slice_get model.classes p.class) preds ∙ is_class) in
          let same : text.class ≡ class = cc in
          text.whole ∙ (ap (λ (k : Class). k.name ++ (codes "." ++ text.pred.name)) same ∙ (ap (λ (p : Pred). class.name ++ (codes "." ++ p.name)) preds ∙ sym spelled))
          ),
    )

-- ---- what is named

pub subject_says : (model : Model) (word : List ℕ) (text : NameText) (found : Option VarName) → SpellsOneName → Spells word text
    → MatchOption found ((name : VarName) → NamesSubject model text name → ⊥) (NamesSubject model text) → SaysSubject model found word
subject_says model word text None one spells none = ((text, spells), λ name is. none name (subst (λ t. NamesSubject model t name) (one word is.text text is.spells spells) is.names))
subject_says model word text (Some name) one spells names = record { text = text; spells = spells; names = names }

-- no global has the label of a root
cross : {X : Type 0} (xs ys : List X) (i j : ℕ) (d : X) → AllPairs ◌≢◌ (xs ++ ys) → i < length xs → j < length ys → get_or xs i d ≡ get_or ys j d → ⊥
cross xs ys i j d pairs first second same =
    let whole : length xs + j < length (xs ++ ys) = omega (arith, length-append xs ys, second) in
    let order : i < length xs + j = omega (arith, first) in
    (rw (get_or_append_left xs ys d i first, get_or-append-add xs ys j d) at (pairs i (length xs + j) d order whole)) same

global_no_label : (model : Model) (i j : ℕ) (variable : VarDecl) (root : Root) → IsLawful model → IsGlobal model i variable → IsRoot model j root → variable.name ≡ root.label → ⊥
global_no_label model i j variable root lawful global is same =
    let globals : i < length (global_names model) = omega (arith, length-map model.problem.globals (λ (v : VarDecl). v.name), item_within model.problem.globals i variable global) in
    let rest = map (λ object. object.name) model.objects ++ (map (λ found. found.name) model.enums ++ flat_map (λ found. found.members) model.enums) in
    let within : j < length (labels model) = omega (arith, length-map model.problem.roots (λ (r : Root). r.label), item_within model.problem.roots j root is) in
    let behind : j < length (labels model ++ rest) = omega (arith, within, length-append (labels model) rest) in
    let global_is : get_or (global_names model) i root.label ≡ variable.name =
    get_or-map (λ (v : VarDecl). v.name) model.problem.globals i variable root.label (item_within model.problem.globals i variable global) ∙ ap (λ (v : VarDecl). v.name) (item_is model.problem.globals i variable variable global) in
    let label_is : get_or (labels model ++ rest) j root.label ≡ root.label =
    get_or_append_left (labels model) rest root.label j within
    ∙ (get_or-map (λ (r : Root). r.label) model.problem.roots j root root.label (item_within model.problem.roots j root is) ∙ ap (λ (r : Root). r.label) (item_is model.problem.roots j root root is)) in
    cross (global_names model) (labels model ++ rest) i j root.label (pairs_front ◌≢◌ (global_names model ++ (labels model ++ rest)) (map (λ class. class.name) model.classes) lawful.distinct) globals behind
    (global_is ∙ (same ∙ sym label_is))

-- a text names one of what a line can be about at most
one_subject : (model : Model) (text : NameText) (one other : VarName) → IsLawful model → NamesOneToken → NamesOneVariable → NamesSubject model text one → NamesSubject model text other → one ≡ other
one_subject model text (Global m) (Global n) lawful tokens vars is is' = vars model text (Global m) (Global n) lawful is is'
one_subject model text (Global m) (Token b Start) lawful tokens vars is is' =
    absurd (global_no_label model m b.root is.variable is'.1.1.root lawful is.is_global is'.1.1.is_root (is.label ∙ sym is'.1.1.label))
one_subject model text (Global m) (Token b End) lawful tokens vars is is' = absurd is'
one_subject model text (Global m) (Token b Duration) lawful tokens vars is is' = absurd is'
one_subject model text (Global m) (Token b Object) lawful tokens vars is is' = absurd is'
one_subject model text (Global m) (Token b (Param n)) lawful tokens vars is is' = absurd is'
one_subject model text (Global m) (Local b r n) lawful tokens vars is is' = vars model text (Global m) (Local b r n) lawful is is'
one_subject model text (Token a End) other lawful tokens vars is is' = absurd is
one_subject model text (Token a Duration) other lawful tokens vars is is' = absurd is
one_subject model text (Token a Object) other lawful tokens vars is is' = absurd is
one_subject model text (Token a (Param m)) other lawful tokens vars is is' = absurd is
one_subject model text (Token a Start) (Global n) lawful tokens vars is is' =
    absurd (global_no_label model n a.root is'.variable is.1.1.root lawful is'.is_global is.1.1.is_root (is'.label ∙ sym is.1.1.label))
one_subject model text (Token a Start) (Token b Start) lawful tokens vars is is' = ap (λ t. Token t Start) (tokens model text a b lawful is is')
one_subject model text (Token a Start) (Token b End) lawful tokens vars is is' = absurd is'
one_subject model text (Token a Start) (Token b Duration) lawful tokens vars is is' = absurd is'
one_subject model text (Token a Start) (Token b Object) lawful tokens vars is is' = absurd is'
one_subject model text (Token a Start) (Token b (Param n)) lawful tokens vars is is' = absurd is'
one_subject model text (Token a Start) (Local b r n) lawful tokens vars is is' = let both : tails.None ≡ tails.Local r n = sym is.0 ∙ is'.tail in cc
one_subject model text (Local a q m) (Global n) lawful tokens vars is is' = vars model text (Local a q m) (Global n) lawful is is'
one_subject model text (Local a q m) (Token b Start) lawful tokens vars is is' = let both : tails.None ≡ tails.Local q m = sym is'.0 ∙ is.tail in cc
one_subject model text (Local a q m) (Token b End) lawful tokens vars is is' = absurd is'
one_subject model text (Local a q m) (Token b Duration) lawful tokens vars is is' = absurd is'
one_subject model text (Local a q m) (Token b Object) lawful tokens vars is is' = absurd is'
one_subject model text (Local a q m) (Token b (Param n)) lawful tokens vars is is' = absurd is'
one_subject model text (Local a q m) (Local b r n) lawful tokens vars is is' = vars model text (Local a q m) (Local b r n) lawful is is'

-- so does a word
pub one_name : (model : Model) (word : List ℕ) (one other : VarName) → IsLawful model → NamesOneToken → NamesOneVariable → SpellsOneName → IsNameOf model one word → IsNameOf model other word → one ≡ other
one_name model word one other lawful tokens vars spells is is' =
    one_subject model is.text one other lawful tokens vars is.names (subst (λ t. NamesSubject model t other) (spells word is'.text is.text is'.spells is.spells) is'.names)

-- what is named isn't wanted
pub not_wanted : (model : Model) (names : List VarName) (Wanted : VarName → Type 0) (word : List ℕ) (found : Option VarName) → IsLawful model → NamesOneToken → NamesOneVariable → SpellsOneName
    → SaysFresh model names found word → ((name : VarName) → found ≡ Some name → Wanted name → ⊥) → IsNoFreshName model names Wanted Unknown word
not_wanted model names Wanted word None lawful tokens vars spells (form, none) unwanted = (form, λ name is. absurd (none name is))
not_wanted model names Wanted word (Some one) lawful tokens vars spells (is, new) unwanted = (
  (is.text, is.spells),
  λ name is'.
      let same = one_name model word one name lawful tokens vars spells is is' in
      (λ has. new (subst (Contains names) (sym same) has), unwanted name (ap Some same)),
)

pub no_target : (model : Model) (word : List ℕ) (found : Option VarName) → IsLawful model → NamesOneToken → NamesOneVariable → SpellsOneName → SaysSubject model found word
    → ((token : TokenName) (part : Part) → found ≡ Some (Token token part) → ⊥) → IsNoTarget model Unknown word
no_target model word None lawful tokens vars spells (form, none) absent = (form, λ target is. none (Token target Start) is)
no_target model word (Some one) lawful tokens vars spells is absent =
    ((is.text, is.spells), λ target is'. absent target Start (ap Some (one_name model word one (Token target Start) lawful tokens vars spells is is')))

pub is_target : (model : Model) (word : List ℕ) (found : Option VarName) (token : TokenName) → SaysSubject model found word → (part : Part) × (found ≡ Some (Token token part)) → IsTargetName model token word
is_target model word found token says (Start, is) = subst (λ f. SaysSubject model f word) is says
is_target model word found token says (End, is) = absurd (subst (λ f. SaysSubject model f word) is says).names
is_target model word found token says (Duration, is) = absurd (subst (λ f. SaysSubject model f word) is says).names
is_target model word found token says (Object, is) = absurd (subst (λ f. SaysSubject model f word) is says).names
is_target model word found token says (Param n, is) = absurd (subst (λ f. SaysSubject model f word) is says).names

-- a new name of a token is one of its start
pub fresh_start : (model : Model) (names : List VarName) (word : List ℕ) (found : Option VarName) (token : TokenName) → SaysFresh model names found word → (part : Part) × (found ≡ Some (Token token part))
    → IsNameOf model (Token token Start) word × (Contains names (Token token Start) → ⊥)
fresh_start model names word found token says (Start, is) = subst (λ f. SaysFresh model names f word) is says
fresh_start model names word found token says (End, is) = absurd (subst (λ f. SaysFresh model names f word) is says).0.names
fresh_start model names word found token says (Duration, is) = absurd (subst (λ f. SaysFresh model names f word) is says).0.names
fresh_start model names word found token says (Object, is) = absurd (subst (λ f. SaysFresh model names f word) is says).0.names
fresh_start model names word found token says (Param n, is) = absurd (subst (λ f. SaysFresh model names f word) is says).0.names

pub token_there : (model : Model) (token : TokenName) (word : List ℕ) → IsNameOf model (Token token Start) word → IsToken model token
token_there model token word is = (is.names.1.0, is.names.1.1.has_token)

pub fresh_token : (model : Model) (names : List VarName) (word : List ℕ) (token : TokenName) (pred : ℕ) → IsNameOf model (Token token Start) word × (Contains names (Token token Start) → ⊥)
    → ((slot : Slot) → HasToken model token slot → slot.pred ≡ pred) → IsFreshName model names (IsTokenOf model (record { name = token; pred = pred })) word
fresh_token model names word token pred (is, new) of = record {
  name = Token token Start;
  is_name = is;
  wanted = (refl, (is.names.1.0, (is.names.1.1.has_token, sym (of is.names.1.0 is.names.1.1.has_token))));
  new = new;
}

pub fresh_global : (model : Model) (names : List VarName) (word : List ℕ) (found : Option VarName) (number : ℕ) (kind : ValueKind) → SaysFresh model names found word → found ≡ Some (Global number)
    → (variable : VarDecl) × (IsGlobal model number variable × (kind ≡ variable.kind)) → IsFreshName model names (IsGlobalOf model (record { number = number; kind = kind })) word
fresh_global model names word found number kind says is of =
    let here : IsNameOf model (Global number) word × (Contains names (Global number) → ⊥) = subst (λ f. SaysFresh model names f word) is says in
    record { name = Global number; is_name = here.0; wanted = (refl, of); new = here.1 }

pub global_there : (model : Model) (names : List VarName) (word : List ℕ) (found : Option VarName) (number : ℕ) → SaysFresh model names found word → found ≡ Some (Global number) → (variable : VarDecl) × IsGlobal model number variable
global_there model names word found number says is =
    let here : IsNameOf model (Global number) word × (Contains names (Global number) → ⊥) = subst (λ f. SaysFresh model names f word) is says in
    (here.0.names.variable, here.0.names.is_global)

local_of_name : (model : Model) (name : VarName) (word : List ℕ) → IsNameOf model name word → IsLocalName name → (kind : ValueKind) × IsLocalOfKind model kind name
local_of_name model (Global number) word is local = absurd local
local_of_name model (Token token part) word is local = absurd local
local_of_name model (Local token rule number) word is local =
    (is.names.variable.kind, (is.names.slot, (is.names.leads.has_token, (is.names.variable, (is.names.has_local, refl)))))

pub local_is_there : (model : Model) (names : List VarName) (word : List ℕ) (found : Option VarName) (name : VarName) → SaysFresh model names found word → (found ≡ Some name) × IsLocalName name → (kind : ValueKind) × IsLocalOfKind model kind name
local_is_there model names word found name says (is, local) = local_of_name model name word (subst (λ f. SaysFresh model names f word) is says).0 local

pub fresh_local : (model : Model) (names : List VarName) (word : List ℕ) (found : Option VarName) (name : VarName) (kind : ValueKind) → SaysFresh model names found word → (found ≡ Some name) × IsLocalName name
    → IsLocalOfKind model kind name → IsFreshName model names (IsLocalOf model (record { name = name; kind = kind })) word
fresh_local model names word found name kind says (is, local) of =
    let here : IsNameOf model name word × (Contains names name → ⊥) = subst (λ f. SaysFresh model names f word) is says in
    record { name = name; is_name = here.0; wanted = (refl, of); new = here.1 }

no_global_wanted : (model : Model) (found : Option VarName) → ((number : ℕ) → found ≡ Some (Global number) → ⊥) → (name : VarName) → found ≡ Some name → (of : NamedGlobal) × IsGlobalOf model of name → ⊥
no_global_wanted model found none name is (of, (same, has)) = none of.number (is ∙ ap Some same)

pub unknown_global : (model : Model) (names : List VarName) (word : List ℕ) (found : Option VarName) → IsLawful model → NamesOneToken → NamesOneVariable → SpellsOneName
    → SaysFresh model names found word → ((number : ℕ) → found ≡ Some (Global number) → ⊥) → IsNoFreshName model names (λ name. (of : NamedGlobal) × IsGlobalOf model of name) Unknown word
unknown_global model names word found lawful tokens vars spells says none =
    not_wanted model names (λ name. (of : NamedGlobal) × IsGlobalOf model of name) word found lawful tokens vars spells says (no_global_wanted model found none)

pub unknown_token : (model : Model) (names : List VarName) (word : List ℕ) (found : Option VarName) → IsLawful model → NamesOneToken → NamesOneVariable → SpellsOneName
    → SaysFresh model names found word → ((token : TokenName) (part : Part) → found ≡ Some (Token token part) → ⊥) → IsNoFreshName model names (λ name. (of : NamedToken) × IsTokenOf model of name) Unknown word
unknown_token model names word found lawful tokens vars spells says none =
    not_wanted model names (λ name. (of : NamedToken) × IsTokenOf model of name) word found lawful tokens vars spells says (λ name is of. none of.0.name Start (is ∙ ap Some of.1.0))

local_name : (model : Model) (name : VarName) (kind : ValueKind) → IsLocalOfKind model kind name → IsLocalName name
local_name model (Global number) kind of = of
local_name model (Token token part) kind of = of
local_name model (Local token rule number) kind of = tt

pub unknown_local : (model : Model) (names : List VarName) (word : List ℕ) (found : Option VarName) → IsLawful model → NamesOneToken → NamesOneVariable → SpellsOneName
    → SaysFresh model names found word → ((name : VarName) → found ≡ Some name → IsLocalName name → ⊥) → IsNoFreshName model names (λ name. (of : NamedLocal) × IsLocalOf model of name) Unknown word
unknown_local model names word found lawful tokens vars spells says none =
    not_wanted model names (λ name. (of : NamedLocal) × IsLocalOf model of name) word found lawful tokens vars spells says
    (λ name is of. none name is (local_name model name of.0.kind of.1.1))

-- ---- predicates

zip_at : {A B : Type 0} (R : A → B → Type 0) (xs : List A) (ys : List B) (i : ℕ) (d : A) (e : B) → AllZip R xs ys → i < length xs → R (get_or xs i d) (get_or ys i e)
zip_at R [] ys i d e zip within = absurd (omega arith)
zip_at R (x ∷ xs) [] i d e zip within = absurd zip
zip_at R (x ∷ xs) (y ∷ ys) zero d e zip within = zip.0
zip_at R (x ∷ xs) (y ∷ ys) (suc i) d e zip within = zip_at R xs ys i d e zip.1 (omega arith)

zip_long : {A B : Type 0} (R : A → B → Type 0) (xs : List A) (ys : List B) → AllZip R xs ys → length xs ≡ length ys
zip_long R [] [] zip = refl
zip_long R [] (y ∷ ys) zip = absurd zip
zip_long R (x ∷ xs) [] zip = absurd zip
zip_long R (x ∷ xs) (y ∷ ys) zip = ap suc (zip_long R xs ys zip.1)

-- the rule of a number is a lawful one
rule_lawful : (model : Model) (pred number : ℕ) (rule : Rule) → IsLawful model → HasRule model pred number rule → IsLawfulRule model pred rule
rule_lawful model pred number rule lawful has =
    let of = lawful.preds pred has.predicate has.is_predicate in
    let d : Rule = rule in
    let within = item_within has.predicate.rules number has.place has.listed in
    let at : slice_get model.rules (get_or has.predicate.rules number has.place) ≡ Some (get_or of.rules number d) = zip_at (λ place rule. slice_get model.rules place ≡ Some rule) has.predicate.rules of.rules number has.place d of.are_rules within in
    let place : get_or has.predicate.rules number has.place ≡ has.place = item_is has.predicate.rules number has.place has.place has.listed in
    let both : Some (get_or of.rules number d) ≡ Some rule = sym at ∙ (ap (slice_get model.rules) place ∙ has.is_rule) in
    let same : get_or of.rules number d ≡ rule = cc in
    let inside : number < length of.rules = omega (arith, within, zip_long (λ place rule. slice_get model.rules place ≡ Some rule) has.predicate.rules of.rules of.are_rules) in
    subst (IsLawfulRule model pred) same (of.lawful number d inside)

slot_pred : (model : Model) (slot last : Slot) (steps : List Step) → IsLawful model → (pred : Pred) × (slice_get model.preds slot.pred ≡ Some pred) → Reaches model slot steps last → (pred : Pred) × (slice_get model.preds last.pred ≡ Some pred)
slot_pred model slot last [] lawful of is = subst (λ (s : Slot). (pred : Pred) × (slice_get model.preds s.pred ≡ Some pred)) (sym is) of
slot_pred model slot last (step ∷ steps) lawful of (next, leads, rest) =
    let slots = (rule_lawful model slot.pred step.rule leads.rule lawful leads.has_rule).slots in
    let lawful_slot = item_all (IsLawfulSlot model) leads.rule.slots step.slot next slots leads.is_slot in
    slot_pred model next last steps lawful (lawful_slot.pred, lawful_slot.is_pred) rest

-- the predicate of a token is there
pub token_pred : (model : Model) (token : TokenName) (slot : Slot) → IsLawful model → HasToken model token slot → slot.pred < length model.preds
token_pred model token slot lawful has =
    let root = item_all (IsLawfulRoot model) model.problem.roots token.root has.root lawful.roots has.is_root in
    let found = slot_pred model (slot_of has.root) slot token.steps lawful (root.pred, root.is_pred) has.reached in
    item_within model.preds slot.pred found.0 found.1

pub named_pred : (model : Model) (names : List VarName) (text mid : List ℕ) (named : NamedToken) → IsLawful model → OneToken model names text (Got named mid) → named.pred < length model.preds
named_pred model names text mid named lawful (word, (has, fresh)) =
    let of = fresh.wanted.1 in
    subst (λ n. n < length model.preds) (sym of.1.1) (token_pred model named.name of.0 lawful of.1.0)
