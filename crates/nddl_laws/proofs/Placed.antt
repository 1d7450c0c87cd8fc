-- What is wrong with a program stands in one of its declarations, and so in a file.
use Rattle.std.proofs.Common.{◌≡◌, ℕ, ◌+◌, ◌<◌, Bool, true, false, List, [], ◌∷◌, ◌++◌, length, get_or, inl, inr, refl, sym, ◌∙◌, ap, subst, arith}
use Rattle.std.specs.Prelude.{Option, Some, None, All, Contains, slice_get, nat_lt, is_some, ◌||◌, not, if◌then◌else◌}
use Rattle.std.specs.List.{flat_map}
use Rattle.std.specs.Option.{option_and_then, option_map, option_map_or}
use Rattle.std.specs.Str.{bytes_eq}
use Rattle.std.proofs.lemmas.List.Elements.{All-nil, All-cons, All-append, All-contains, All-head, All-tail, All-weaker}
use Rattle.std.proofs.lemmas.Option.{same_Some, none-some, slice_get_within}
use Rattle.eu_forest.specs.declared.walk.Mark.{Mark}
use Rattle.eu_forest.specs.Lines.{rootedness_in}
use Rattle.model_core.specs.Naming.{token_part_words}
use Rattle.model_core.proofs.Items.{item_at}
use Rattle.nddl_ast.specs.declared.declaration.Decl.{Decl}
use Rattle.nddl_ast.specs.declared.declaration.Decl.TheVariants as decls
use Rattle.nddl_ast.specs.declared.declaration.FileDecls.{FileDecls}
use Rattle.nddl_ast.specs.declared.declaration.Member.{Member}
use Rattle.nddl_ast.specs.declared.declaration.Member.TheVariants as members
use Rattle.nddl_ast.specs.declared.declaration.Typed.{Typed}
use Rattle.nddl_ast.specs.declared.expression.Bounds.{Bounds}
use Rattle.nddl_ast.specs.declared.expression.Bounds.TheVariants as bounds
use Rattle.nddl_ast.specs.declared.expression.Type as types
use Rattle.nddl_ast.specs.declared.expression.Value.{Value}
use Rattle.nddl_ast.specs.declared.kind.TextKind.{TextKind}
use Rattle.nddl_ast.specs.declared.kind.TextKind.TheVariants as faults
use Rattle.nddl_ast.specs.declared.name.Name.{Name}
use Rattle.nddl_ast.specs.Places.{value_place}
use Rattle.nddl_symbols.specs.declared.place.Place.{Place}
use Rattle.nddl_symbols.specs.declared.site.Site.{Site}
use Rattle.nddl_symbols.specs.Joined.{decl_in, joined_decls, joined_sites}
use Rattle.nddl_symbols.specs.Place.{file_of_place}
use Rattle.nddl_symbols.proofs.Sites.{at_sites}
use Rattle.nddl_symbols.specs.declared.declared.Declared.{Declared}
use Rattle.nddl_symbols.specs.declared.fault.Fault.{Fault}
use Rattle.nddl_symbols.specs.Finding.{faults_here}
use Rattle.eu_index.specs.Index.{Noted, noted_number, with_noted}
use Rattle.nddl_symbols.specs.Names.{is_class_sort, is_config_sort, scope_names, sort_of_variable}
use Rattle.nddl_symbols.specs.Repeats.{repeated_fault, repeated_faults}
use Rattle.nddl_symbols.specs.Scope.{fault_if, is_second_name, meaning_of, named_number, second_name_fault, second_name_faults}
use Rattle.nddl_symbols.proofs.Earliest.{finds_earliest}
use Rattle.nddl_typeexpr.specs.declared.kind.Extent.{Extent}
use Rattle.nddl_typeexpr.specs.declared.kind.TypeKind.{TypeKind}
use Rattle.nddl_typeexpr.specs.declared.kind.TypeKind.TheVariants as kinds
use Rattle.nddl_typeexpr.specs.Bases.{base_extent, base_fault, base_kind}
use Rattle.nddl_typeexpr.specs.Bounds.{bounds_faults, bounds_values, ends_faults, has_too_many, is_wrong_range, members_faults, missing_faults, no_range_faults, range_faults}
use Rattle.nddl_typeexpr.specs.Kinds.{is_ranged}
use Rattle.nddl_typeexpr.specs.Types.{type_faults}
use Rattle.nddl_typeexpr.specs.Values.{end_fault, end_number, member_fault, value_fault}
use Rattle.nddl_hierarchy.specs.Ancestors.{is_foreign, objects_faults}
use Rattle.nddl_hierarchy.specs.Facts.{Facts}
use Rattle.nddl_hierarchy.specs.Lines.{circle_fault, circle_faults, declared_place, is_circle}
use Rattle.nddl_declarations.specs.Known.{all_type_faults}
use Rattle.nddl_hierarchy.specs.Inherited.{inherited_noted, member_names, words_noted}
use Rattle.nddl_hierarchy.specs.Shorter.{is_constructor}
use Rattle.nddl_declarations.specs.Classes.{class_meaning_fault, parent_faults}
use Rattle.nddl_declarations.specs.Members.{constructor_fault, constructors_faults, member_faults, parameters_of, typed_faults, typed_names}
use Rattle.nddl_declarations.specs.Faults.{IsFirstFault, all_faults, decl_faults, decls_faults}
use Rattle.nddl_laws.proofs.Lists.{all_flat}
use Rattle.nddl_laws.proofs.Places.{declared_in}

-- the fault is in the declaration of this number
IsAt : ℕ → Fault → Type 0
IsAt number fault = fault.place.decl ≡ number

here : (number at : ℕ) (o : Option TextKind) → All (IsAt number) (faults_here number at o)
unfolding IsAt
here number at None = All-nil (IsAt number)
here number at (Some kind) = All-cons (IsAt number) (record { place = record { decl = number; at = at }; kind = kind }) [] refl (All-nil (IsAt number))

joined : (number : ℕ) (one other : List Fault) → All (IsAt number) one → All (IsAt number) other → All (IsAt number) (one ++ other)
joined number one other first second = All-append (IsAt number) one other first second

each : {X : Type 0} (number : ℕ) (f : X → List Fault) (xs : List X) → ((x : X) → All (IsAt number) (f x)) → All (IsAt number) (flat_map f xs)
each number f xs all = all_flat (IsAt number) f xs (λ k d within. all (get_or xs k d))

module _ (names : List Declared) (number : ℕ) where
  range_at : (kind : TypeKind) (extent : Extent) (at : ℕ) (least greatest : Value) → All (IsAt number) (range_faults names kind extent number at least greatest)
  range_at kind extent at least greatest = by (is_ranged kind extent)
    where
      by : (b : Bool) → All (IsAt number) (if b then ends_faults names kind extent number at least greatest else no_range_faults names number least greatest)
      by true =
          let wrong = fault_if (is_wrong_range extent (end_number names kind least) (end_number names kind greatest)) faults.NotInDomain in
          joined number (faults_here number at wrong ++ faults_here number (value_place least) (end_fault names kind least)) (faults_here number (value_place greatest) (end_fault names kind greatest))
          (joined number (faults_here number at wrong) (faults_here number (value_place least) (end_fault names kind least)) (here number at wrong)
          (here number (value_place least) (end_fault names kind least))) (here number (value_place greatest) (end_fault names kind greatest))
      by false =
          joined number (faults_here number (value_place least) (value_fault names least) ++ faults_here number (value_place least) (Some faults.WrongType))
          (faults_here number (value_place greatest) (value_fault names greatest))
          (joined number (faults_here number (value_place least) (value_fault names least)) (faults_here number (value_place least) (Some faults.WrongType))
          (here number (value_place least) (value_fault names least)) (here number (value_place least) (Some faults.WrongType)))
          (here number (value_place greatest) (value_fault names greatest))

  bounds_at : (kind : TypeKind) (extent : Extent) (bound : Bounds) → All (IsAt number) (bounds_faults names kind extent number bound)
  bounds_at kind extent bounds.All = All-nil (IsAt number)
  bounds_at kind extent (bounds.Range at least greatest) = range_at kind extent at least greatest
  bounds_at kind extent (bounds.Set at values) =
      let most = fault_if (has_too_many names kind extent values) faults.LimitMembers in
      joined number (faults_here number at most) (members_faults names kind extent number values) (here number at most)
      (each number (λ value. faults_here number (value_place value) (member_fault names kind extent value)) values
      (λ value. here number (value_place value) (member_fault names kind extent value)))

  optional_at : (o : Option TypeKind) (extent : Extent) (bound : Bounds)
      → All (IsAt number) (option_map_or (λ (kind : TypeKind). bounds_faults names kind extent number bound) o (missing_faults names number bound))
  optional_at None extent bound =
      each number (λ value. faults_here number (value_place value) (value_fault names value)) (bounds_values bound)
      (λ value. here number (value_place value) (value_fault names value))
  optional_at (Some kind) extent bound = bounds_at kind extent bound

  objects_at : (program : List Decl) (parents : List (Option ℕ)) (kind : Option TypeKind) (bound : Bounds)
      → All (IsAt number) (objects_faults names program parents number kind bound)
  objects_at program parents (Some (kinds.Object class)) (bounds.Set at values) =
      each number (λ value. faults_here number (value_place value) (fault_if (is_foreign names program parents class value) faults.NotInDomain)) values
      (λ value. here number (value_place value) (fault_if (is_foreign names program parents class value) faults.NotInDomain))
  objects_at program parents (Some (kinds.Object class)) bounds.All = All-nil (IsAt number)
  objects_at program parents (Some (kinds.Object class)) (bounds.Range at least greatest) = All-nil (IsAt number)
  objects_at program parents (Some kinds.Int) bound = All-nil (IsAt number)
  objects_at program parents (Some kinds.Float) bound = All-nil (IsAt number)
  objects_at program parents (Some kinds.Bool) bound = All-nil (IsAt number)
  objects_at program parents (Some (kinds.Enum of)) bound = All-nil (IsAt number)
  objects_at program parents None bound = All-nil (IsAt number)

type_at : (facts : Facts) (number : ℕ) (type : types.Type) → All (IsAt number) (all_type_faults facts number type)
unfolding all_type_faults
type_at facts number type =
    let kind = base_kind facts.names facts.known type.base in
    let extent = base_extent facts.names facts.known type.base in
    joined number (type_faults facts.names facts.known number type) (objects_faults facts.names facts.program facts.parents number kind type.bounds)
    (joined number (faults_here number type.at (base_fault facts.names type.base))
    (option_map_or (λ (kind : TypeKind). bounds_faults facts.names kind extent number type.bounds) kind (missing_faults facts.names number type.bounds))
    (here number type.at (base_fault facts.names type.base)) (optional_at facts.names number kind extent type.bounds))
    (objects_at facts.names number facts.program facts.parents kind type.bounds)

repeated_at : (number : ℕ) (noted : Noted) (some : List Name) → All (IsAt number) (repeated_faults number noted some)
repeated_at number noted [] = All-nil (IsAt number)
repeated_at number noted (name ∷ more) =
    joined number (repeated_fault number noted name) (repeated_faults number (with_noted noted name.text 0) more)
    (here number name.at (fault_if (is_some (noted_number noted name.text)) faults.Twice)) (repeated_at number (with_noted noted name.text 0) more)

typed_at : (facts : Facts) (number : ℕ) (some : List Typed) → All (IsAt number) (typed_faults facts number some)
typed_at facts number some = each number (λ typed. all_type_faults facts number typed.declared) some (λ typed. type_at facts number typed.declared)

member_at : (facts : Facts) (number : ℕ) (member : Member) → All (IsAt number) (member_faults facts number member)
member_at facts number (members.Field typed) = type_at facts number typed.declared
member_at facts number (members.Predicate at name parts) =
    let params = parameters_of parts in
    let three = faults_here number name.at (fault_if (nat_lt 32 (length params)) faults.LimitParameters) in
    let two = repeated_faults number (words_noted [] token_part_words) (typed_names params) in
    joined number (typed_faults facts number params) (two ++ three) (typed_at facts number params)
    (joined number two three (repeated_at number (words_noted [] token_part_words) (typed_names params))
    (here number name.at (fault_if (nat_lt 32 (length params)) faults.LimitParameters)))
member_at facts number (members.Constructor name formals sets) =
    joined number (typed_faults facts number formals) (repeated_faults number [] (typed_names formals)) (typed_at facts number formals)
    (repeated_at number [] (typed_names formals))

constructor_at : (number : ℕ) (class : Name) (seen : Bool) (member : Member) → All (IsAt number) (constructor_fault number class seen member)
constructor_at number class seen (members.Constructor name formals sets) =
    joined number (faults_here number name.at (fault_if seen faults.Twice)) (faults_here number name.at (fault_if (not (bytes_eq name.text class.text)) faults.WrongType))
    (here number name.at (fault_if seen faults.Twice)) (here number name.at (fault_if (not (bytes_eq name.text class.text)) faults.WrongType))
constructor_at number class seen (members.Field typed) = All-nil (IsAt number)
constructor_at number class seen (members.Predicate at name parts) = All-nil (IsAt number)

constructors_at : (number : ℕ) (class : Name) (seen : Bool) (some : List Member) → All (IsAt number) (constructors_faults number class seen some)
constructors_at number class seen [] = All-nil (IsAt number)
constructors_at number class seen (member ∷ more) =
    joined number (constructor_fault number class seen member) (constructors_faults number class (seen || is_constructor member) more)
    (constructor_at number class seen member) (constructors_at number class (seen || is_constructor member) more)

parent_at : (names : List Declared) (number : ℕ) (parent : Option Name) → All (IsAt number) (parent_faults names number parent)
parent_at names number None = All-nil (IsAt number)
parent_at names number (Some name) = here number name.at (class_meaning_fault names (meaning_of names name.text))

decl_at : (facts : Facts) (number : ℕ) (decl : Decl) → All (IsAt number) (decl_faults facts number decl)
decl_at facts number (decls.Enum at name members_at some) = here number members_at (fault_if (nat_lt 4096 (length some)) faults.LimitMembers)
decl_at facts number (decls.Typedef at declared name) = type_at facts number declared
decl_at facts number (decls.Class at name parent some) =
    let one = parent_faults facts.names number parent in
    let two = repeated_faults number (inherited_noted facts parent) (member_names some) in
    let three = flat_map (member_faults facts number) some in
    let four = constructors_faults number name false some in
    joined number one (two ++ (three ++ four)) (parent_at facts.names number parent)
    (joined number two (three ++ four) (repeated_at number (inherited_noted facts parent) (member_names some))
    (joined number three four (each number (member_faults facts number) some (member_at facts number)) (constructors_at number name false some)))
decl_at facts number (decls.Variable variable) = by (is_config_sort (sort_of_variable variable))
  where
    by : (b : Bool) → All (IsAt number) (if b then [] else all_type_faults facts number variable.declared)
    by true = All-nil (IsAt number)
    by false = type_at facts number variable.declared
decl_at facts number (decls.Include at file file_at) = All-nil (IsAt number)
decl_at facts number (decls.Forward at name) = All-nil (IsAt number)
decl_at facts number (decls.Rule class predicate body) = All-nil (IsAt number)
decl_at facts number (decls.Call call) = All-nil (IsAt number)
decl_at facts number (decls.Ask ask) = All-nil (IsAt number)

-- ---- in the program

-- the fault is in one of so many declarations
IsIn : ℕ → Fault → Type 0
IsIn count fault = fault.place.decl < count

decls_in : (facts : Facts) (count number : ℕ) (some : List Decl) → number + length some ≡ count → All (IsIn count) (decls_faults facts number some)
unfolding IsAt IsIn
decls_in facts count number [] sum = All-nil (IsIn count)
decls_in facts count number (decl ∷ more) sum =
    All-append (IsIn count) (decl_faults facts number decl) (decls_faults facts (number + 1) more)
    (All-weaker (IsAt number) (IsIn count) (λ fault at. omega arith) (decl_faults facts number decl) (decl_at facts number decl))
    (decls_in facts count (number + 1) more (omega arith))

place_in : (count : ℕ) (place : Place) (kind : Option TextKind) → place.decl < count → All (IsIn count) (faults_here place.decl place.at kind)
unfolding IsIn
place_in count place None less = All-nil (IsIn count)
place_in count place (Some kind) less = All-cons (IsIn count) (record { place = record { decl = place.decl; at = place.at }; kind = kind }) [] less (All-nil (IsIn count))

seconds_in : (names : List Declared) (count number : ℕ) (some : List Declared) → All (λ (declared : Declared). declared.place.decl < count) some
    → All (IsIn count) (second_name_faults names number some)
seconds_in names count number [] all = All-nil (IsIn count)
seconds_in names count number (declared ∷ more) all =
    All-append (IsIn count) (second_name_fault names number declared) (second_name_faults names (number + 1) more)
    (place_in count declared.place (fault_if (is_second_name names number declared) faults.Twice) (All-head (λ (d : Declared). d.place.decl < count) declared more all))
    (seconds_in names count (number + 1) more (All-tail (λ (d : Declared). d.place.decl < count) declared more all))

circle_in : (count : ℕ) (o : Option Place) (b : Bool) → ((place : Place) → o ≡ Some place → place.decl < count) → All (IsIn count) (circle_fault o b)
circle_in count None b each = All-nil (IsIn count)
circle_in count (Some place) false each = All-nil (IsIn count)
circle_in count (Some place) true each = place_in count place (Some faults.WrongType) (each place refl)

circles_in : (names : List Declared) (marked : List Mark) (count number : ℕ) (some : List Declared)
    → ((declared : Declared) (place : Place) → declared_place names declared ≡ Some place → declared.place.decl < count → place.decl < count)
    → All (λ (declared : Declared). declared.place.decl < count) some → All (IsIn count) (circle_faults names marked number some)
circles_in names marked count number [] each all = All-nil (IsIn count)
circles_in names marked count number (declared ∷ more) each all =
    All-append (IsIn count) (circle_fault (declared_place names declared) (is_circle (rootedness_in marked number))) (circle_faults names marked (number + 1) more)
    (circle_in count (declared_place names declared) (is_circle (rootedness_in marked number))
    (λ place is. each declared place is (All-head (λ (d : Declared). d.place.decl < count) declared more all)))
    (circles_in names marked count (number + 1) more each (All-tail (λ (d : Declared). d.place.decl < count) declared more all))

place_of_class : (names : List Declared) (count : ℕ) → ((entry : ℕ) (declared : Declared) → slice_get names entry ≡ Some declared → declared.place.decl < count)
    → (declared : Declared) (place : Place) → declared_place names declared ≡ Some place → declared.place.decl < count → place.decl < count
place_of_class names count each declared place is less = by (is_class_sort declared.sort) (named_number true names declared.name) is
  where
    last : (entry : ℕ) (o : Option Declared) → slice_get names entry ≡ o → option_map (λ (other : Declared). other.place) o ≡ Some place → place.decl < count
    last entry None at is = absurd (none-some place is)
    last entry (Some other) at is =
        let same : other.place ≡ place = same_Some other.place place is in subst (λ (p : Place). p.decl < count) same (each entry other at)

    by : (b : Bool) (o : Option ℕ)
        → (if b then option_and_then (λ (body : ℕ). option_map (λ (other : Declared). other.place) (slice_get names body)) o else Some declared.place) ≡ Some place
        → place.decl < count
    by true None is = absurd (none-some place is)
    by true (Some body) is = last body (slice_get names body) refl is
    by false o is = subst (λ (p : Place). p.decl < count) (same_Some declared.place place is) less

-- all that is wrong with a program stands in it
pub faults_in : (facts : Facts) → facts.names ≡ scope_names facts.program → All (λ (fault : Fault). fault.place.decl < length facts.program) (all_faults facts)
unfolding IsIn
faults_in facts are =
    let count = length facts.program in
    let each : (entry : ℕ) (declared : Declared) → slice_get facts.names entry ≡ Some declared → declared.place.decl < count = λ entry declared at.
    let stands = declared_in facts.program entry declared (sym (ap (λ names. slice_get names entry) are) ∙ at) in
    slice_get_within facts.program declared.place.decl stands.decl stands.there in
    let all : All (λ (declared : Declared). declared.place.decl < count) facts.names = λ k d within. each k (get_or facts.names k d) (item_at facts.names k d within) in
    All-append (IsIn count) (second_name_faults facts.names 0 facts.names) (circle_faults facts.names facts.marked 0 facts.names ++ decls_faults facts 0 facts.program)
    (seconds_in facts.names count 0 facts.names all)
    (All-append (IsIn count) (circle_faults facts.names facts.marked 0 facts.names) (decls_faults facts 0 facts.program)
    (circles_in facts.names facts.marked count 0 facts.names (place_of_class facts.names count each) all)
    (decls_in facts count 0 facts.program (omega arith)))

-- a place in a declaration of files has a file
pub place_has_file : (files : List FileDecls) (place : Place) → place.decl < length (joined_decls files)
    → (file : FileDecls) × (file_of_place files (joined_sites files) place ≡ Some file)
place_has_file files place less =
    let first : Decl = get_or (joined_decls files) place.decl (decls.Include 0 [] 0) in
    by (slice_get (joined_sites files) place.decl) refl first
    (sym (at_sites files place.decl) ∙ item_at (joined_decls files) place.decl (decls.Include 0 [] 0) less)
  where
    inner : (site : Site) → slice_get (joined_sites files) place.decl ≡ Some site → (decl : Decl) → (o : Option FileDecls) → slice_get files site.file ≡ o
        → slice_get (option_map_or (λ (file : FileDecls). file.decls) o []) site.decl ≡ Some decl
        → (file : FileDecls) × (file_of_place files (joined_sites files) place ≡ Some file)
    inner site at decl None there is = absurd (none-some decl is)
    inner site at decl (Some file) there is = (file, ap (option_and_then (λ (site : Site). slice_get files site.file)) at ∙ there)

    by : (o : Option Site) → slice_get (joined_sites files) place.decl ≡ o → (decl : Decl) → option_and_then (decl_in files) o ≡ Some decl
        → (file : FileDecls) × (file_of_place files (joined_sites files) place ≡ Some file)
    by None at decl is = absurd (none-some decl is)
    by (Some site) at decl is = inner site at decl (slice_get files site.file) refl is

-- what is wrong first has a file
pub fault_has_file : (files : List FileDecls) (fault : Fault) → IsFirstFault (joined_decls files) (Some fault)
    → (file : FileDecls) × (file_of_place files (joined_sites files) fault.place ≡ Some file)
fault_has_file files fault is =
    let facts = is.facts in
    let names : facts.names ≡ scope_names facts.program = is.are.is_names ∙ ap scope_names (sym is.are.is_program) in
    let found = (finds_earliest None (all_faults facts)).found fault (sym is.first) in
    let there : Contains (all_faults facts) fault = elim found [
      | inl old ↦ absurd (none-some fault old)
      | inr new ↦ new
    ] in
    let less = All-contains (λ (one : Fault). one.place.decl < length facts.program) (all_faults facts) fault (faults_in facts names) there in
    let long = ap length is.are.is_program in
    place_has_file files fault.place (omega arith)
