-- A name in a rule is read as what it denotes.
use Rattle.std.proofs.Common.{◌≡◌, ℕ, zero, suc, ◌+◌, ◌==◌, Bool, true, false, ◌&&◌, ◌||◌, not, List, [], ◌∷◌, ◌++◌, map, refl, sym, ◌∙◌, ap, subst, arith}
use Rattle.std.specs.Prelude.{Option, Some, None, is_some, slice_get, if◌then◌else◌, codes}
use Rattle.std.specs.List.{AllByRecursion, AllZip, position_from}
use Rattle.std.specs.Option.{option_and_then, option_map, option_map_or, option_or}
use Rattle.std.specs.Str.{bytes_eq}
use Rattle.std.proofs.lemmas.Bool.Decides.{Decides-eqb}
use Rattle.std.proofs.lemmas.Option.{same_Some, none-some, slice_get_within}
use Rattle.std.proofs.lemmas.Slice.Eq.{bytes_eq-Decides}
use Rattle.eu_name.specs.declared.name.Part.{Part}
use Rattle.eu_name.specs.declared.name.Part.TheVariants as parts
use Rattle.eu_index.specs.Hiding.{last_meaning, meaning_if}
use Rattle.eu_index.specs.Index.{Noted, noted_number, with_noted}
use Rattle.eu_index.proofs.Indexes.{noted_with, or_none}
use Rattle.model_core.specs.declared.variable.VarDecl.{VarDecl}
use Rattle.model_core.specs.Naming.{names_of}
use Rattle.nddl_ast.specs.declared.declaration.FileDecls.{FileDecls}
use Rattle.nddl_ast.specs.declared.declaration.Typed.{Typed}
use Rattle.nddl_symbols.specs.declared.declared.Declared.{Declared}
use Rattle.nddl_symbols.specs.declared.scope.Meaning.{Meaning}
use Rattle.nddl_symbols.specs.declared.scope.Meaning.TheVariants as meanings
use Rattle.nddl_symbols.specs.declared.site.Site.{Site}
use Rattle.nddl_symbols.specs.Joined.{joined_decls, joined_sites}
use Rattle.nddl_symbols.specs.Place.{file_of_place}
use Rattle.nddl_symbols.specs.Scope.{builtin_number, is_named, meaning_of, named_number}
use Rattle.nddl_typeexpr.specs.declared.kind.TypeKind.TheVariants as kinds
use Rattle.nddl_hierarchy.specs.Facts.{Facts}
use Rattle.nddl_hierarchy.specs.Members.{named_typed}
use Rattle.nddl_declarations.specs.Members.{parameters_of}
use Rattle.nddl_types.specs.declared.table.Named.{Named}
use Rattle.nddl_types.specs.Classes.{is_first}
use Rattle.nddl_types.specs.Scoped.{named_at, named_from, named_in}
use Rattle.nddl_resolve.specs.declared.denoted.Denoted.{Denoted}
use Rattle.nddl_resolve.specs.declared.denoted.Predicate.{Predicate}
use Rattle.nddl_resolve.specs.declared.denoted.Predicate.TheVariants as predicates
use Rattle.nddl_resolve.specs.declared.denoted.Seen.{Seen}
use Rattle.nddl_resolve.specs.declared.denoted.TokenSort.{TokenSort}
use Rattle.nddl_resolve.specs.Fields.{type_value}
use Rattle.nddl_resolve.specs.Files.{meaning_denoted}
use Rattle.nddl_resolve.specs.Paths.{Surroundings, last_seen, named_seen, near_denoted, own_denoted}
use Rattle.nddl_resolve.specs.Predicates.{changing_value, declared_parts, parameter_value, token_part}
use Rattle.nddl_resolve.specs.Seen.{seen_as}
use Rattle.nddl_rule_check.specs.Slots.{is_name_seen}
use Rattle.nddl_terms.specs.declared.tree.Meaning as tree
use Rattle.nddl_terms.specs.declared.tree.Meaning.TheVariants as reads
use Rattle.nddl_rules.specs.Reads.{own_part, scope_meaning, sight_meaning}
use Rattle.nddl_rules.specs.Sight.{Sight}
use Rattle.nddl_rules.specs.Told.{scope_places}
use Rattle.nddl_laws.specs.Scoping.{AreAlike, IsGround, IsNumbered, IsSeenAs, Numbered, ReadsAlike, RuleGround, SeeAlike, file_read, is_slot_read, parameters_denoted, part_denoted, read_denoted}
use Rattle.nddl_laws.proofs.Placed.{place_has_file}
use Rattle.nddl_laws.proofs.Places.{declared_in}

-- ---- options that are alike

or_alike : {X Y : Type 0} (R : X → Y → Type 0) (a b : Option X) (x y : Option Y) → AreAlike R a x → AreAlike R b y
    → AreAlike R (option_or a b) (option_or x y)
or_alike R None b None y one other = other
or_alike R None b (Some read) y one other = absurd one
or_alike R (Some meant) b None y one other = absurd one
or_alike R (Some meant) b (Some read) y one other = one

alike_weaker : {X Y : Type 0} (R Q : X → Y → Type 0) (a : Option X) (x : Option Y) → ((meant : X) (read : Y) → R meant read → Q meant read)
    → AreAlike R a x → AreAlike Q a x
alike_weaker R Q None None each is = tt
alike_weaker R Q None (Some read) each is = absurd is
alike_weaker R Q (Some meant) None each is = absurd is
alike_weaker R Q (Some meant) (Some read) each is = each meant read is

-- ---- what the rule declares

-- the last of a name is found among both
last_alike : (numbered : List Denoted) (name : List ℕ) (seen : List Seen) (read : List (List ℕ × ℕ)) → AllZip (IsSeenAs numbered) seen read
    → AreAlike (IsNumbered numbered) (last_seen name seen) (last_meaning name read)
last_alike numbered name [] [] all = tt
last_alike numbered name [] (here ∷ read) all = absurd all
last_alike numbered name (one ∷ seen) [] all = absurd all
last_alike numbered name (one ∷ seen) (here ∷ read) all =
    let P : List ℕ → Type 0 = λ word.
    AreAlike (IsNumbered numbered) (if bytes_eq name one.name then Some one.denoted else None) (if bytes_eq name word then Some here.1 else None) in
    or_alike (IsNumbered numbered) (last_seen name seen) (named_seen name one) (last_meaning name read) (meaning_if name here)
    (last_alike numbered name seen read all.1) (subst P all.0.0 (by (bytes_eq name one.name)))
  where
    by : (b : Bool) → AreAlike (IsNumbered numbered) (if b then Some one.denoted else None) (if b then Some here.1 else None)
    by true = all.0.1
    by false = tt

module _ (ground : RuleGround) (numbered : Numbered) where
  abbrev IsRead : Denoted → tree.Meaning → Type 0
  IsRead meant read = read_denoted ground numbered read ≡ Some meant

  abbrev IsPart : Denoted → Part → Type 0
  IsPart meant part = part_denoted ground.facts ground.token part ≡ Some meant

  abbrev IsFileRead : Meaning → tree.Meaning → Type 0
  IsFileRead meaning read = file_read ground.facts.names ground.scope read ≡ Some meaning

  -- turns come first, then locals, then labels
  near_alike : (a b c : Option Denoted) (x y z : Option ℕ) → AreAlike (IsNumbered numbered.turns) a x → AreAlike (IsNumbered numbered.locals) b y
      → AreAlike (IsNumbered numbered.slots) c z
      → AreAlike IsRead (option_or (option_or (option_or None a) b) c)
      (option_or (option_map reads.Turn x) (option_or (option_map reads.Local y) (option_map reads.Slot z)))
  near_alike (Some meant) b c (Some number) y z one two three = one
  near_alike (Some meant) b c None y z one two three = absurd one
  near_alike None b c (Some number) y z one two three = absurd one
  near_alike None (Some meant) c None (Some number) z one two three = two
  near_alike None (Some meant) c None None z one two three = absurd two
  near_alike None None c None (Some number) z one two three = absurd two
  near_alike None None (Some meant) None None (Some number) one two three = three
  near_alike None None (Some meant) None None None one two three = absurd three
  near_alike None None None None None (Some number) one two three = absurd three
  near_alike None None None None None None one two three = tt

  -- ---- the front of a path

  file_denotes : (read : tree.Meaning) (meaning : Meaning) → IsFileRead meaning read
      → meaning_denoted ground.facts meaning ≡ read_denoted ground numbered read
  file_denotes (reads.BuiltIn number) meaning is = ap (meaning_denoted ground.facts) (sym (same_Some (meanings.BuiltIn number) meaning is))
  file_denotes (reads.Scope place) meaning is = sym (ap (option_and_then (meaning_denoted ground.facts)) is)
  file_denotes (reads.Turn number) meaning is = absurd (none-some meaning is)
  file_denotes (reads.Local number) meaning is = absurd (none-some meaning is)
  file_denotes (reads.Slot number) meaning is = absurd (none-some meaning is)
  file_denotes (reads.Here part) meaning is = absurd (none-some meaning is)

  front_same : (near own : Option Denoted) (file : Option Meaning) (sight : Option tree.Meaning) (part : Option Part) (scope : Option tree.Meaning)
      → AreAlike IsRead near sight → AreAlike IsPart own part → AreAlike IsFileRead file scope
      → option_or near (option_or own (option_and_then (meaning_denoted ground.facts) file))
      ≡ option_and_then (read_denoted ground numbered) (option_or sight (option_or (option_map reads.Here part) scope))
  front_same (Some meant) own file (Some read) part scope one two three = sym one
  front_same (Some meant) own file None part scope one two three = absurd one
  front_same None own file (Some read) part scope one two three = absurd one
  front_same None (Some meant) file None (Some part) scope one two three = sym two
  front_same None (Some meant) file None None scope one two three = absurd two
  front_same None None file None (Some part) scope one two three = absurd two
  front_same None None (Some meaning) None None (Some read) one two three = file_denotes read meaning three
  front_same None None (Some meaning) None None None one two three = absurd three
  front_same None None None None None (Some read) one two three = absurd three
  front_same None None None None None None one two three = refl

  -- ---- labels

  label_same : (a b c : Option Denoted) (x y z : Option ℕ) (part : Option Part) (scope : Option tree.Meaning)
      → AreAlike (IsNumbered numbered.turns) a x → AreAlike (IsNumbered numbered.locals) b y → AreAlike (IsNumbered numbered.slots) c z
      → is_slot_read scope ≡ false
      → (not (false || (is_some a || is_some b)) && is_some c)
      ≡ is_slot_read (option_or (option_or (option_map reads.Turn x) (option_or (option_map reads.Local y) (option_map reads.Slot z)))
      (option_or (option_map reads.Here part) scope))
  label_same (Some meant) b c (Some number) y z part scope one two three none = refl
  label_same (Some meant) b c None y z part scope one two three none = absurd one
  label_same None b c (Some number) y z part scope one two three none = absurd one
  label_same None (Some meant) c None (Some number) z part scope one two three none = refl
  label_same None (Some meant) c None None z part scope one two three none = absurd two
  label_same None None c None (Some number) z part scope one two three none = absurd two
  label_same None None (Some meant) None None (Some number) part scope one two three none = refl
  label_same None None (Some meant) None None None part scope one two three none = absurd three
  label_same None None None None None (Some number) part scope one two three none = absurd three
  label_same None None None None None None (Some part) scope one two three none = refl
  label_same None None None None None None None scope one two three none = sym none

pub seen_any : (name : List ℕ) (some : List Seen) → is_name_seen name some ≡ is_some (last_seen name some)
seen_any name [] = refl
seen_any name (seen ∷ more) =
    ap (λ b. bytes_eq name seen.name || b) (seen_any name more) ∙ by (bytes_eq name seen.name) (last_seen name more)
  where
    by : (b : Bool) (o : Option Denoted) → (b || is_some o) ≡ is_some (option_or o (if b then Some seen.denoted else None))
    by true None = refl
    by true (Some meant) = refl
    by false None = refl
    by false (Some meant) = refl

no_slot : (builtin place : Option ℕ) → is_slot_read (option_or (option_map reads.BuiltIn builtin) (option_map reads.Scope place)) ≡ false
no_slot (Some number) place = refl
no_slot None (Some place) = refl
no_slot None None = refl

-- ---- parts of the token

-- parameters as they are seen
abbrev seen_typed : (Typed → Denoted) → List Typed → List Seen
seen_typed value some = map (λ (typed : Typed). seen_as typed.name.text (value typed)) some

abbrev seen_names : List Seen → List (List ℕ)
seen_names some = map (λ (seen : Seen). seen.name) some

-- this number, where the first of these has that one, is the one of what denotes this
abbrev IsFrom : ℕ → List Seen → Denoted → ℕ → Type 0
IsFrom start some meant number =
    (place : ℕ) × (number ≡ start + place) × (option_map (λ (seen : Seen). seen.denoted) (slice_get some place) ≡ Some meant)

-- a parameter is found by its name
typed_alike : (value : Typed → Denoted) (name : List ℕ) (start : ℕ) (some : List Typed)
    → AreAlike (IsFrom start (seen_typed value some)) (option_map value (named_typed name some))
    (position_from (bytes_eq name) start (seen_names (seen_typed value some)))
typed_alike value name start [] = tt
typed_alike value name start (typed ∷ more) = by (bytes_eq name typed.name.text) (typed_alike value name (start + 1) more)
  where
    by : (b : Bool)
        → AreAlike (IsFrom (start + 1) (seen_typed value more)) (option_map value (named_typed name more))
        (position_from (bytes_eq name) (start + 1) (seen_names (seen_typed value more)))
        → AreAlike (IsFrom start (seen_typed value (typed ∷ more))) (option_map value (if b then Some typed else named_typed name more))
        (if b then Some start else position_from (bytes_eq name) (start + 1) (seen_names (seen_typed value more)))
    by true rest = (0, omega arith, refl)
    by false rest =
        alike_weaker (IsFrom (start + 1) (seen_typed value more)) (IsFrom start (seen_typed value (typed ∷ more)))
        (option_map value (named_typed name more)) (position_from (bytes_eq name) (start + 1) (seen_names (seen_typed value more)))
        (λ meant number found.
        let e : number ≡ start + 1 + found.0 = found.1 in (suc found.0, omega arith, found.2)) rest

position_mapped : (name : List ℕ) (start : ℕ) (params : List VarDecl)
    → position_from (λ (param : VarDecl). bytes_eq name param.name) start params ≡ position_from (bytes_eq name) start (names_of params)
position_mapped name start [] = refl
position_mapped name start (param ∷ more) = ap (λ o. if bytes_eq name param.name then Some start else o) (position_mapped name (start + 1) more)

-- the parameter of this number of a predicate denotes this
abbrev IsParameter : Facts → Predicate → Denoted → ℕ → Type 0
IsParameter facts predicate meant number =
    option_map (λ (seen : Seen). seen.denoted) (slice_get (parameters_denoted facts predicate) number) ≡ Some meant

parameter_alike : (facts : Facts) (name : List ℕ) (predicate : Predicate)
    → AreAlike (IsParameter facts predicate) (parameter_value facts name predicate)
    (position_from (bytes_eq name) 0 (seen_names (parameters_denoted facts predicate)))
parameter_alike facts name predicates.BuiltIn = one (bytes_eq name (codes "quantity"))
  where
    one : (b : Bool)
        → AreAlike (IsParameter facts predicates.BuiltIn) (if b then Some (changing_value kinds.Int) else None) (if b then Some 0 else None)
    one true = refl
    one false = tt
parameter_alike facts name (predicates.Declared entry member) =
    let some = parameters_of (declared_parts facts.names facts.program entry member) in
    let value : Typed → Denoted = λ typed. type_value facts.names facts.known false typed.declared in
    let seen = seen_typed value some in
    alike_weaker (IsFrom 0 seen) (IsParameter facts (predicates.Declared entry member)) (option_map value (named_typed name some))
    (position_from (bytes_eq name) 0 (seen_names seen))
    (λ meant number found.
    let sum : number ≡ 0 + found.0 = found.1 in
    let e : number ≡ found.0 = omega arith in
    ap (λ n. option_map (λ (one : Seen). one.denoted) (slice_get seen n)) e ∙ found.2) (typed_alike value name 0 some)

parts_alike : (facts : Facts) (token : TokenSort) (a b c d : Bool) (o : Option Denoted) (p : Option ℕ)
    → AreAlike (IsParameter facts token.predicate) o p
    → AreAlike (λ (meant : Denoted) (part : Part). part_denoted facts token part ≡ Some meant)
    (if (a || (b || c)) then Some (changing_value kinds.Int) else (if d then Some (changing_value (kinds.Object token.class)) else o))
    (if a then Some parts.Start else (if b then Some parts.End
    else (if c then Some parts.Duration else (if d then Some parts.Object else option_map parts.Param p))))
parts_alike facts token true b c d o p rest = refl
parts_alike facts token false true c d o p rest = refl
parts_alike facts token false false true d o p rest = refl
parts_alike facts token false false false true o p rest = refl
parts_alike facts token false false false false None None rest = tt
parts_alike facts token false false false false None (Some number) rest = absurd rest
parts_alike facts token false false false false (Some meant) None rest = absurd rest
parts_alike facts token false false false false (Some meant) (Some number) rest = rest

own_alike : (facts : Facts) (token : TokenSort) (params : List VarDecl) (name : List ℕ)
    → map (λ (seen : Seen). seen.name) (parameters_denoted facts token.predicate) ≡ names_of params
    → AreAlike (λ (meant : Denoted) (part : Part). part_denoted facts token part ≡ Some meant) (token_part facts name token) (own_part params name)
own_alike facts token params name are =
    let same = ap (position_from (bytes_eq name) 0) are ∙ sym (position_mapped name 0 params) in
    parts_alike facts token (bytes_eq name (codes "start")) (bytes_eq name (codes "end")) (bytes_eq name (codes "duration")) (bytes_eq name (codes "object"))
    (parameter_value facts name token.predicate) (position_from (λ (param : VarDecl). bytes_eq name param.name) 0 params)
    (subst (AreAlike (IsParameter facts token.predicate) (parameter_value facts name token.predicate)) same
    (parameter_alike facts name token.predicate))

-- ---- lists in which something is found

all_at : {X : Type 0} (P : X → Type 0) (xs : List X) (place : ℕ) (x : X) → AllByRecursion P xs → slice_get xs place ≡ Some x → P x
all_at P [] place x all is = absurd (none-some x is)
all_at P (y ∷ xs) zero x all is = subst P (same_Some y x is) all.0
all_at P (y ∷ xs) (suc place) x all is = all_at P xs place x all.1 is

all_behind : {X : Type 0} (P : X → Type 0) (xs ys : List X) → AllByRecursion P (xs ++ ys) → AllByRecursion P ys
all_behind P [] ys all = all
all_behind P (x ∷ xs) ys all = all_behind P xs ys all.1

-- what is found passes the test
record IsFound {X : Type 0} (test : X → Bool) (start : ℕ) (xs : List X) (number : ℕ) : Type 0 where
  place : ℕ
  is_number : number ≡ start + place
  item : X
  there : slice_get xs place ≡ Some item
  passes : test item ≡ true

found_at : {X : Type 0} (test : X → Bool) (start : ℕ) (xs : List X) (number : ℕ) → position_from test start xs ≡ Some number → IsFound test start xs number
found_at test start [] number is = absurd (none-some number is)
found_at {X} test start (x ∷ xs) number is = by (test x) refl is (found_at test (start + 1) xs number)
  where
    by : (b : Bool) → test x ≡ b → (if b then Some start else position_from test (start + 1) xs) ≡ Some number
        → (position_from test (start + 1) xs ≡ Some number → IsFound test (start + 1) xs number) → IsFound test start (x ∷ xs) number
    by true passes found rest =
        let e : start ≡ number = same_Some start number found in
        record { place = 0; is_number = omega arith; item = x; there = refl; passes = passes }
    by false fails found rest =
        let it = rest found in
        let e : number ≡ start + 1 + it.place = it.is_number in
        record { place = suc it.place; is_number = omega arith; item = it.item; there = it.there; passes = it.passes }

none_found : {X : Type 0} (test : X → Bool) (start : ℕ) (xs : List X) → position_from test start xs ≡ None → AllByRecursion (λ x. test x ≡ false) xs
none_found test start [] none = tt
none_found {X} test start (x ∷ xs) none = by (test x) refl none (none_found test (start + 1) xs)
  where
    by : (b : Bool) → test x ≡ b → (if b then Some start else position_from test (start + 1) xs) ≡ None
        → (position_from test (start + 1) xs ≡ None → AllByRecursion (λ y. test y ≡ false) xs) → AllByRecursion (λ y. test y ≡ false) (x ∷ xs)
    by true passes none rest = absurd (none-some start (sym none))
    by false fails none rest = (fails, rest none)

-- ---- names of the files

-- the place of a name in a scope is that of the first that has it
noted_places : (noted : Noted) (number : ℕ) (scope : List Named) (name : List ℕ)
    → noted_number (scope_places noted number scope) name
    ≡ option_or (noted_number noted name) (position_from (λ (named : Named). bytes_eq name named.name) number scope)
noted_places noted number [] name = or_none (noted_number noted name)
noted_places noted number (named ∷ more) name =
    noted_places (with_noted noted named.name number) (number + 1) more name
    ∙ (ap (λ o. option_or o (position_from (λ (other : Named). bytes_eq name other.name) (number + 1) more)) (noted_with noted named.name name number)
    ∙ by (noted_number noted name) (bytes_eq name named.name) (position_from (λ (other : Named). bytes_eq name other.name) (number + 1) more))
  where
    by : (o : Option ℕ) (b : Bool) (rest : Option ℕ)
        → option_or (option_or o (if b then Some number else None)) rest ≡ option_or o (if b then Some number else rest)
    by (Some found) b rest = refl
    by None true rest = refl
    by None false rest = refl

module _ (files : List FileDecls) (sites : List Site) (names : List Declared) where
  abbrev HasEntry : Named → Type 0
  HasEntry named = (entry : ℕ) × (named_number false names named.name ≡ Some entry)

  first_entry : (number : ℕ) (name : List ℕ) (o : Option ℕ) → named_number false names name ≡ o → option_map_or (λ (first : ℕ). first == number) o false ≡ true
      → (entry : ℕ) × (named_number false names name ≡ Some entry)
  first_entry number name None is first = absurd (let e : false ≡ true = first in cc)
  first_entry number name (Some found) is first = (found, is)

  -- each name of a table is declared
  all_entered : (number : ℕ) (some : List Declared) → AllByRecursion HasEntry (named_from files sites names number some)
  all_entered number [] = tt
  all_entered number (declared ∷ more) =
      by (is_first names number declared) refl (file_of_place files sites declared.place) (all_entered (number + 1) more)
    where
      by : (b : Bool) → is_first names number declared ≡ b → (o : Option FileDecls)
          → AllByRecursion HasEntry (named_from files sites names (number + 1) more)
          → AllByRecursion HasEntry
          ((if b then option_map_or (λ file. named_in declared file ∷ []) o [] else []) ++ named_from files sites names (number + 1) more)
      by false first o rest = rest
      by true first None rest = rest
      by true first (Some file) rest = (first_entry number declared.name (named_number false names declared.name) refl first, rest)

  -- and each that is declared first is one of them
  each_named : (P : Named → Type 0) (number : ℕ) (some : List Declared) (offset : ℕ) (declared : Declared) (file : FileDecls)
      → AllByRecursion P (named_from files sites names number some) → slice_get some offset ≡ Some declared
      → is_first names (number + offset) declared ≡ true → file_of_place files sites declared.place ≡ Some file → P (named_in declared file)
  each_named P number [] offset declared file all is first there = absurd (none-some declared is)
  each_named P number (here ∷ more) zero declared file all is first there =
      let same : here ≡ declared = same_Some here declared is in
      let Q : Bool → Option FileDecls → Type 0 = λ b o.
      AllByRecursion P ((if b then option_map_or (λ found. named_in here found ∷ []) o [] else []) ++ named_from files sites names (number + 1) more) in
      let e : number + 0 ≡ number = omega arith in
      let own : is_first names number here ≡ true = (λ i. is_first names (sym e i) (same i)) ∙ first in
      let at : file_of_place files sites here.place ≡ Some file = ap (λ (d : Declared). file_of_place files sites d.place) same ∙ there in
      let found : Q true (Some file) = subst (Q true) at (subst (λ b. Q b (file_of_place files sites here.place)) own all) in
      subst (λ (d : Declared). P (named_in d file)) same found.0
  each_named P number (here ∷ more) (suc offset) declared file all is first there =
      let e : number + suc offset ≡ number + 1 + offset = omega arith in
      each_named P (number + 1) more offset declared file
      (all_behind P (named_at files sites names number here) (named_from files sites names (number + 1) more) all) is
      (sym (ap (λ n. is_first names n declared) e) ∙ first) there

module _ (files : List FileDecls) (ground : RuleGround) (is : IsGround files ground) (name : List ℕ) where
  abbrev names : List Declared
  names = ground.facts.names

  abbrev Has : Named → Bool
  Has named = bytes_eq name named.name

  abbrev places : Noted
  places = scope_places [] 0 ground.scope

  abbrev IsFile : Meaning → tree.Meaning → Type 0
  IsFile meaning read = file_read names ground.scope read ≡ Some meaning

  spelled : (other : List ℕ) → bytes_eq name other ≡ true → name ≡ other
  spelled other same = (bytes_eq-Decides name other).0 same

  -- the name that stands at a place
  placed : (place : ℕ) → noted_number places name ≡ Some place → IsFound Has 0 ground.scope place
  placed place noted = found_at Has 0 ground.scope place (sym (noted_places [] 0 ground.scope name) ∙ noted)

  -- a name of a scope is declared
  entered : (place : ℕ) → IsFound Has 0 ground.scope place → named_number false names name ≡ None → ⊥
  entered place found none =
      let all = subst (AllByRecursion (HasEntry files (joined_sites files) names)) (sym is.scope_is) (all_entered files (joined_sites files) names 0 names) in
      let has = all_at (HasEntry files (joined_sites files) names) ground.scope found.place found.item all found.there in
      none-some has.0 (sym none ∙ (ap (named_number false names) (spelled found.item.name found.passes) ∙ has.1))

  -- and a declared name is one of its scope
  in_scope : (entry : ℕ) → named_number false names name ≡ Some entry → noted_number places name ≡ None → ⊥
  in_scope entry named none =
      let it = found_at (is_named false name) 0 names entry named in
      let sum : entry ≡ 0 + it.place = it.is_number in
      let e : it.place ≡ entry = omega arith in
      let there : slice_get names entry ≡ Some it.item = sym (ap (slice_get names) e) ∙ it.there in
      let same : name ≡ it.item.name = spelled it.item.name it.passes in
      let own : named_number false names it.item.name ≡ Some entry = sym (ap (named_number false names) same) ∙ named in
      let first : is_first names entry it.item ≡ true =
      ap (λ o. option_map_or (λ (n : ℕ). n == entry) o false) own ∙ (Decides-eqb entry entry).1 refl in
      let stands = declared_in (joined_decls files) entry it.item (sym (ap (λ some. slice_get some entry) is.are.is_names) ∙ there) in
      let file = place_has_file files it.item.place (slice_get_within (joined_decls files) it.item.place.decl stands.decl stands.there) in
      let differ : AllByRecursion (λ (other : Named). Has other ≡ false) (named_from files (joined_sites files) names 0 names) =
      subst (AllByRecursion (λ (other : Named). Has other ≡ false)) is.scope_is
      (none_found Has 0 ground.scope (sym (noted_places [] 0 ground.scope name) ∙ none)) in
      let zero_on : 0 + entry ≡ entry = omega arith in
      let never : bytes_eq name it.item.name ≡ false =
      each_named files (joined_sites files) names (λ (other : Named). Has other ≡ false) 0 names entry it.item file.0 differ there
      (ap (λ n. is_first names n it.item) zero_on ∙ first) file.1 in
      let absurdity : true ≡ false = sym ((bytes_eq-Decides name it.item.name).1 same) ∙ never in cc

  scope_alike : AreAlike IsFile (option_map meanings.Entry (named_number false names name)) (option_map reads.Scope (noted_number places name))
  scope_alike = by (named_number false names name) refl (noted_number places name) refl
    where
      by : (o : Option ℕ) → named_number false names name ≡ o → (p : Option ℕ) → noted_number places name ≡ p
          → AreAlike IsFile (option_map meanings.Entry o) (option_map reads.Scope p)
      by None none None at = tt
      by None none (Some place) at = absurd (entered place (placed place at) none)
      by (Some entry) named None at = absurd (in_scope entry named at)
      by (Some entry) named (Some place) at =
          let found = placed place at in
          let sum : place ≡ 0 + found.place = found.is_number in
          let e : found.place ≡ place = omega arith in
          let there : slice_get ground.scope place ≡ Some found.item = sym (ap (slice_get ground.scope) e) ∙ found.there in
          let same = spelled found.item.name found.passes in
          ap (option_and_then (λ (other : Named). option_map meanings.Entry (named_number false names other.name))) there
          ∙ (ap (option_map meanings.Entry) (sym (ap (named_number false names) same) ∙ named))

  file_alike : AreAlike IsFile (meaning_of names name) (scope_meaning places name)
  file_alike =
      or_alike IsFile (option_map meanings.BuiltIn (builtin_number name)) (option_map meanings.Entry (named_number false names name))
      (option_map reads.BuiltIn (builtin_number name)) (option_map reads.Scope (noted_number places name)) (by (builtin_number name)) scope_alike
    where
      by : (o : Option ℕ) → AreAlike IsFile (option_map meanings.BuiltIn o) (option_map reads.BuiltIn o)
      by None = tt
      by (Some number) = refl

-- ---- any name

pub name_alike : (files : List FileDecls) (ground : RuleGround) (around : Surroundings) (sight : Sight) (numbered : Numbered) (name : List ℕ)
    → IsGround files ground → SeeAlike ground.token around sight numbered → ReadsAlike ground around sight numbered name
name_alike files ground around sight numbered name is see =
    let one = last_alike numbered.turns name around.turns sight.turns see.turns in
    let two = last_alike numbered.locals name around.locals sight.locals see.locals in
    let three = last_alike numbered.slots name around.labels sight.labels see.labels in
    let a = last_seen name around.turns in
    let b = last_seen name around.locals in
    let c = last_seen name around.labels in
    let x = last_meaning name sight.turns in
    let y = last_meaning name sight.locals in
    let z = last_meaning name sight.labels in
    let N : List Seen → Type 0 = λ formals.
    AreAlike (IsRead ground numbered) (option_or (option_or (option_or (last_seen name formals) a) b) c) (sight_meaning sight name) in
    let near : AreAlike (IsRead ground numbered) (near_denoted around name) (sight_meaning sight name) =
    subst N (sym see.formals) (near_alike ground numbered a b c x y z one two three) in
    let O : Option TokenSort → Type 0 = λ token.
    AreAlike (IsPart ground numbered) (option_and_then (token_part ground.facts name) token) (own_part ground.params name) in
    let own : AreAlike (IsPart ground numbered) (own_denoted ground.facts around name) (own_part ground.params name) =
    subst O (sym see.own) (own_alike ground.facts ground.token ground.params name is.params_are) in
    let file = file_alike files ground is name in
    record {
      turn = one;
      local = two;
      slot = three;
      near = near;
      own = own;
      file = file;
      front = front_same ground numbered (near_denoted around name) (own_denoted ground.facts around name) (meaning_of ground.facts.names name)
          (sight_meaning sight name) (own_part ground.params name) (scope_meaning (scope_places [] 0 ground.scope) name) near own file;
      label = (λ i. not (is_name_seen name (see.formals i) || (seen_any name around.turns i || seen_any name around.locals i)) && seen_any name around.labels i)
          ∙ label_same ground numbered a b c x y z (own_part ground.params name) (scope_meaning (scope_places [] 0 ground.scope) name) one two three
          (no_slot (builtin_number name) (noted_number (scope_places [] 0 ground.scope) name));
    }
