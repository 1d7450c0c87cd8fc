-- Where nothing is wrong with the text that makes objects, nothing is with a constructor of a class.
use Rattle.std.proofs.Common.{◌≡◌, ℕ, zero, suc, ◌+◌, ◌==◌, Bool, true, false, not, ◌||◌, ◌&&◌, List, [], ◌∷◌, get_or, refl, sym, ◌∙◌, ap, subst, arith}
use Rattle.std.specs.Prelude.{Option, Some, None, All, Contains, slice_get, if◌then◌else◌}
use Rattle.std.specs.Option.{option_and_then, option_map_or}
use Rattle.std.specs.Str.{bytes_eq}
use Rattle.std.proofs.lemmas.Bool.Decides.{Decides-eqb}
use Rattle.std.proofs.lemmas.List.Elements.{All-nil, All-cons, All-append, All-contains, All-weaker, Contains-get_or}
use Rattle.std.proofs.lemmas.Option.{same_Some, none-some}
use Rattle.std.proofs.lemmas.Slice.Eq.{bytes_eq-Decides}
use Rattle.model_core.proofs.Items.{item_all}
use Rattle.nddl_ast.specs.declared.declaration.Decl.{Decl}
use Rattle.nddl_ast.specs.declared.declaration.Decl.TheVariants as decls
use Rattle.nddl_ast.specs.declared.declaration.Member.{Member}
use Rattle.nddl_ast.specs.declared.expression.Init.{Init}
use Rattle.nddl_ast.specs.declared.expression.Init.TheVariants as inits
use Rattle.nddl_ast.specs.declared.name.Name.{Name}
use Rattle.nddl_ast.specs.declared.statement.Variable.{Variable}
use Rattle.nddl_symbols.specs.declared.declared.Declared.{Declared}
use Rattle.nddl_symbols.specs.declared.declared.Sort.{Sort}
use Rattle.nddl_symbols.specs.declared.declared.Sort.TheVariants as sorts
use Rattle.nddl_symbols.specs.declared.scope.Meaning.TheVariants as meanings
use Rattle.nddl_symbols.specs.Builtin.{is_builtin_name, is_config_name}
use Rattle.nddl_symbols.specs.Names.{declared_as, declared_members, enums_in_decl, is_body_sort, is_class_sort, is_config_type, is_posting_word, names_from, names_in_decl, scope_names, sort_of_init, sort_of_variable}
use Rattle.nddl_symbols.specs.Scope.{is_class_at, is_named, is_repeated, is_second_body, is_second_config, meaning_of, named_number}
use Rattle.nddl_hierarchy.specs.Decls.{decl_members, declaration_with_body}
use Rattle.nddl_hierarchy.specs.Facts.{Facts}
use Rattle.nddl_declarations.specs.Faults.{all_faults}
use Rattle.nddl_types.specs.Classes.{is_first}
use Rattle.nddl_constructors.specs.Bodies.{bodies_faults, body_faults}
use Rattle.nddl_constructors.specs.Objects.{writing_faults, writing_faults_from}
use Rattle.nddl_construction.specs.Classes.{constructor_at, own_constructor}
use Rattle.nddl_laws.proofs.Circles.{body_is}
use Rattle.nddl_laws.proofs.First.{neither, not_second, stands_from}
use Rattle.nddl_laws.proofs.Lists.{none_flat}
use Rattle.nddl_laws.proofs.Nothing.{none_first, none_second}
use Rattle.nddl_laws.proofs.Parents.{found_at, meant_first}
use Rattle.nddl_model_laws.proofs.Passing.{own_so}

-- ---- where a name is declared

-- the name is one of the declaration at this place
record IsOwned (number : ℕ) (program : List Decl) (declared : Declared) : Type 0 where
  offset : ℕ
  before : ℕ
  decl : Decl
  is_place : declared.place.decl ≡ number + offset
  there : slice_get program offset ≡ Some decl
  own : Contains (names_in_decl (number + offset) before decl) declared

members_placed : (number before place : ℕ) (some : List Name) → All (λ (declared : Declared). declared.place.decl ≡ number) (declared_members number before place some)
members_placed number before place [] = All-nil (λ (declared : Declared). declared.place.decl ≡ number)
members_placed number before place (name ∷ more) =
    All-cons (λ (declared : Declared). declared.place.decl ≡ number) (declared_as number name (sorts.Member before place))
    (declared_members number before (place + 1) more) refl (members_placed number before (place + 1) more)

one_placed : (number : ℕ) (name : Name) (sort : Sort) → All (λ (declared : Declared). declared.place.decl ≡ number) (declared_as number name sort ∷ [])
one_placed number name sort =
    All-cons (λ (declared : Declared). declared.place.decl ≡ number) (declared_as number name sort) [] refl
    (All-nil (λ (declared : Declared). declared.place.decl ≡ number))

placed_in : (number before : ℕ) (decl : Decl) → All (λ (declared : Declared). declared.place.decl ≡ number) (names_in_decl number before decl)
placed_in number before (decls.Enum at name members_at members) =
    All-cons (λ (declared : Declared). declared.place.decl ≡ number) (declared_as number name (sorts.Enum before)) (declared_members number before 0 members) refl
    (members_placed number before 0 members)
placed_in number before (decls.Typedef at declared name) = one_placed number name sorts.Typedef
placed_in number before (decls.Forward at name) = one_placed number name sorts.Forward
placed_in number before (decls.Class at name parent members) = one_placed number name sorts.Body
placed_in number before (decls.Variable variable) = one_placed number variable.name (sort_of_variable variable)
placed_in number before (decls.Ask ask) = by (is_posting_word ask.word.text)
  where
    by : (b : Bool) → All (λ (declared : Declared). declared.place.decl ≡ number) (if b then declared_as number ask.label sorts.Root ∷ [] else [])
    by true = one_placed number ask.label sorts.Root
    by false = All-nil (λ (declared : Declared). declared.place.decl ≡ number)
placed_in number before (decls.Include at file file_at) = All-nil (λ (declared : Declared). declared.place.decl ≡ number)
placed_in number before (decls.Rule class predicate body) = All-nil (λ (declared : Declared). declared.place.decl ≡ number)
placed_in number before (decls.Call call) = All-nil (λ (declared : Declared). declared.place.decl ≡ number)

all_owned : (number before : ℕ) (program : List Decl) → All (IsOwned number program) (names_from number before program)
all_owned number before [] = All-nil (IsOwned number [])
all_owned number before (decl ∷ more) =
    let here = names_in_decl number before decl in
    let e : number ≡ number + 0 = omega arith in
    All-append (IsOwned number (decl ∷ more)) here (names_from (number + 1) (before + enums_in_decl decl) more)
    (λ k d within. record {
      offset = 0;
      before = before;
      decl = decl;
      is_place = placed_in number before decl k d within ∙ e;
      there = refl;
      own = subst (λ (n : ℕ). Contains (names_in_decl n before decl) (get_or here k d)) e (Contains-get_or here k d within);
    })
    (All-weaker (IsOwned (number + 1) more) (IsOwned number (decl ∷ more)) (λ declared is. record {
      offset = suc is.offset;
      before = is.before;
      decl = is.decl;
      is_place = (let sum : declared.place.decl ≡ number + 1 + is.offset = is.is_place in omega arith);
      there = is.there;
      own = (let sum : number + 1 + is.offset ≡ number + suc is.offset = omega arith in
          subst (λ (n : ℕ). Contains (names_in_decl n is.before is.decl) declared) sum is.own);
    }) (names_from (number + 1) (before + enums_in_decl decl) more) (all_owned (number + 1) (before + enums_in_decl decl) more))

-- the one item of a list
one_item : {X : Type 0} (x y : X) → Contains (x ∷ []) y → x ≡ y
one_item {X} x y has = All-contains (λ (z : X). x ≡ z) (x ∷ []) y (All-cons (λ (z : X). x ≡ z) x [] refl (All-nil (λ (z : X). x ≡ z))) has

-- ---- constructors

writing_at : (facts : Facts) (closed : Option ℕ) (number : ℕ) (program : List Decl) (place : ℕ) (decl : Decl) → writing_faults_from facts closed number program ≡ []
    → slice_get program place ≡ Some decl → writing_faults facts closed (number + place) decl ≡ []
writing_at facts closed number [] place decl none at = absurd (none-some decl at)
writing_at facts closed number (here ∷ more) zero decl none at =
    let first = none_first (writing_faults facts closed number here) (writing_faults_from facts closed (number + 1) more) none in
    let same : here ≡ decl = same_Some here decl at in
    let e : number ≡ number + 0 = omega arith in
    sym (λ i. writing_faults facts closed (e i) (same i)) ∙ first
writing_at facts closed number (here ∷ more) (suc place) decl none at =
    let rest = none_second (writing_faults facts closed number here) (writing_faults_from facts closed (number + 1) more) none in
    let e : number + 1 + place ≡ number + suc place = omega arith in
    sym (ap (λ (n : ℕ). writing_faults facts closed n decl) e) ∙ writing_at facts closed (number + 1) more place decl rest at

pub writing_fine : (facts : Facts) (closed : Option ℕ) (place : ℕ) (decl : Decl) → writing_faults_from facts closed 0 facts.program ≡ []
    → slice_get facts.program place ≡ Some decl → writing_faults facts closed place decl ≡ []
writing_fine facts closed place decl none at =
    let e : 0 + place ≡ place = omega arith in
    sym (ap (λ (n : ℕ). writing_faults facts closed n decl) e) ∙ writing_at facts closed 0 facts.program place decl none at

module _ (facts : Facts) (names_are : facts.names ≡ scope_names facts.program) (fine : all_faults facts ≡ []) (closed : Option ℕ)
    (written : writing_faults_from facts closed 0 facts.program ≡ []) where
  -- the first of its name
  first_is : (entry : ℕ) (declared : Declared) → is_first facts.names entry declared ≡ true → named_number false facts.names declared.name ≡ Some entry
  first_is entry declared first = by (named_number false facts.names declared.name) first
    where
      by : (o : Option ℕ) → option_map_or (λ (n : ℕ). n == entry) o false ≡ true → o ≡ Some entry
      by None is = absurd (let e : false ≡ true = is in cc)
      by (Some number) is = ap (λ (n : ℕ). Some n) ((Decides-eqb number entry).0 is)

  -- a declaration with a constructor is a class, whose constructors are fine
  of_decl : (number entry : ℕ) (decl : Decl) (constructor : Member) → slice_get facts.program number ≡ Some decl
      → ((at : ℕ) (name : Name) (parent : Option Name) (some : List Member) → decl ≡ decls.Class at name parent some
      → named_number false facts.names name.text ≡ Some entry)
      → own_constructor (decl_members decl) ≡ Some constructor → body_faults facts number entry constructor ≡ []
  of_decl number entry (decls.Class at name parent some) constructor there named is =
      let none = writing_fine facts closed number (decls.Class at name parent some) written there in
      let bodies : bodies_faults facts number entry some ≡ [] =
      sym (ap (λ (o : Option ℕ). option_map_or (λ (n : ℕ). bodies_faults facts number n some) o []) (named at name parent some refl)) ∙ none in
      own_so (λ (member : Member). body_faults facts number entry member ≡ []) some constructor (none_flat (body_faults facts number entry) some bodies) is
  of_decl number entry (decls.Include at file file_at) constructor there named is = absurd (none-some constructor is)
  of_decl number entry (decls.Enum at name members_at some) constructor there named is = absurd (none-some constructor is)
  of_decl number entry (decls.Typedef at declared name) constructor there named is = absurd (none-some constructor is)
  of_decl number entry (decls.Forward at name) constructor there named is = absurd (none-some constructor is)
  of_decl number entry (decls.Rule class predicate body) constructor there named is = absurd (none-some constructor is)
  of_decl number entry (decls.Variable variable) constructor there named is = absurd (none-some constructor is)
  of_decl number entry (decls.Call call) constructor there named is = absurd (none-some constructor is)
  of_decl number entry (decls.Ask ask) constructor there named is = absurd (none-some constructor is)

  -- the text of each constructor is fine
  pub texts_fine : (entry : ℕ) (constructor : Member) → (text : List ℕ) × (meaning_of facts.names text ≡ Some (meanings.Entry entry))
      → constructor_at facts.names facts.program entry ≡ Some constructor → (decl : ℕ) × (body_faults facts decl entry constructor ≡ [])
  texts_fine entry constructor is at =
      let first = meant_first facts.names is.0 entry is.1 in
      let own = first_is entry first.found first.first in
      by first.found own (declaration_with_body facts.names facts.program first.found) refl
      (sym (ap (λ (o : Option Declared). own_constructor (option_map_or decl_members (option_and_then (declaration_with_body facts.names facts.program) o) [])) first.there) ∙ at)
    where
      by : (found : Declared) → named_number false facts.names found.name ≡ Some entry → (o : Option Decl) → declaration_with_body facts.names facts.program found ≡ o
          → own_constructor (option_map_or decl_members o []) ≡ Some constructor → (decl : ℕ) × (body_faults facts decl entry constructor ≡ [])
      by found own None body given = absurd (none-some constructor given)
      by found own (Some decl) body given =
          let has = body_is facts.names facts.program found decl body in
          let seen = found_at (is_named true found.name) facts.names 0 has.number has.first in
          let place : seen.0 ≡ has.number = (let sum : has.number ≡ 0 + seen.0 = seen.1 in omega arith) in
          let same : seen.2.0 ≡ has.other = same_Some seen.2.0 has.other (sym seen.2.1 ∙ (ap (slice_get facts.names) place ∙ has.there)) in
          let called : found.name ≡ seen.2.0.name =
          (bytes_eq-Decides found.name seen.2.0.name).0 (and_second (not true || is_body_sort seen.2.0.sort) (bytes_eq found.name seen.2.0.name) seen.2.2) in
          let there : slice_get (scope_names facts.program) has.number ≡ Some has.other = sym (ap (λ (some : List Declared). slice_get some has.number) names_are) ∙ has.there in
          let owned = item_all (IsOwned 0 facts.program) (scope_names facts.program) has.number has.other (all_owned 0 0 facts.program) there in (
            has.other.place.decl,
            of_decl has.other.place.decl entry decl constructor has.at
                (λ one name parent some is_class.
                let e : 0 + owned.offset ≡ has.other.place.decl = sym owned.is_place in
                let offset : owned.offset ≡ has.other.place.decl = (let sum : 0 + owned.offset ≡ has.other.place.decl = e in omega arith) in
                let decl_is : owned.decl ≡ decls.Class one name parent some =
                same_Some owned.decl decl (sym owned.there ∙ (ap (slice_get facts.program) offset ∙ has.at)) ∙ is_class in
                let inside : Contains (declared_as (0 + owned.offset) name sorts.Body ∷ []) has.other =
                subst (λ (d : Decl). Contains (names_in_decl (0 + owned.offset) owned.before d) has.other) decl_is owned.own in
                let named : name.text ≡ has.other.name = ap (λ (d : Declared). d.name) (one_item (declared_as (0 + owned.offset) name sorts.Body) has.other inside) in
                ap (named_number false facts.names) (named ∙ sym (called ∙ ap (λ (d : Declared). d.name) same)) ∙ own) given,
          )
        where
          and_second : (one other : Bool) → (one && other) ≡ true → other ≡ true
          and_second true other both = both
          and_second false other both = absurd (let e : false ≡ true = both in cc)

  -- ---- objects

  no_class : (variable : Variable) (init : Option Init) → is_class_sort (sort_of_init variable.declared init) ≡ false
  no_class variable None = refl
  no_class variable (Some (inits.Expr expr)) = refl
  no_class variable (Some (inits.New creation)) = by (is_config_name creation.class.text && is_config_type variable.declared.base variable.declared.bounds)
    where
      by : (b : Bool) → is_class_sort (if b then sorts.Config else sorts.Object) ≡ false
      by true = refl
      by false = refl

  -- the name of a variable is declared there first
  same_place : (number entry k : ℕ) (variable : Variable) (declared : Declared)
      → named_number false facts.names variable.name.text ≡ Some entry → slice_get facts.names entry ≡ Some declared
      → slice_get facts.names k ≡ Some (declared_as (0 + number) variable.name (sort_of_variable variable)) → declared.place.decl ≡ number
  same_place number entry k variable declared named at own = by (entry == k) refl
    where
      repeated : is_repeated facts.names k (declared_as (0 + number) variable.name (sort_of_variable variable)) ≡ false
      repeated =
          let it = declared_as (0 + number) variable.name (sort_of_variable variable) in
          (neither (is_repeated facts.names k it) (is_second_body facts.names k it || is_second_config facts.names k it)
          (neither (is_builtin_name it.name) (is_repeated facts.names k it || (is_second_body facts.names k it || is_second_config facts.names k it))
          (not_second facts fine k it own)).1).0

      test : (not (entry == k) && not (is_class_sort (sort_of_variable variable) && is_class_at facts.names entry)) ≡ false
      test =
          sym (ap (λ (o : Option ℕ). option_map_or (λ (n : ℕ). not (n == k) && not (is_class_sort (sort_of_variable variable) && is_class_at facts.names n)) o false) named)
          ∙ repeated

      by : (b : Bool) → (entry == k) ≡ b → declared.place.decl ≡ number
      by true is =
          let e : entry ≡ k = (Decides-eqb entry k).0 is in
          let same : declared ≡ declared_as (0 + number) variable.name (sort_of_variable variable) =
          same_Some declared (declared_as (0 + number) variable.name (sort_of_variable variable)) (sym at ∙ (ap (slice_get facts.names) e ∙ own)) in
          let sum : 0 + number ≡ number = omega arith in
          ap (λ (d : Declared). d.place.decl) same ∙ sum
      by false is =
          let never : true ≡ false =
          (λ i. not (sym is i) && not (sym (no_class variable variable.init) i && is_class_at facts.names entry)) ∙ test in
          absurd (cc)

  pub variable_at : (number entry : ℕ) (variable : Variable) (declared : Declared) → slice_get facts.program number ≡ Some (decls.Variable variable)
      → named_number false facts.names variable.name.text ≡ Some entry → slice_get facts.names entry ≡ Some declared → declared.place.decl ≡ number
  variable_at number entry variable declared there named at =
      let stands = stands_from 0 0 facts.program number (decls.Variable variable) variable.name (sort_of_variable variable) there (λ n b. refl) in
      same_place number entry stands.0 variable declared named at (ap (λ (some : List Declared). slice_get some stands.0) names_are ∙ stands.1)
