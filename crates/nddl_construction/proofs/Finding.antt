-- What is found once of constructors.
use Rattle.std.proofs.Common.{◌≡◌, ℕ, zero, suc, true, List, [], ◌∷◌, ◌++◌, length, Option, Some, None, ◌⊎◌, inl, inr, refl, sym, ◌∙◌, ap, subst, arith}
use Rattle.std.specs.Prelude.{is_some, slice_get}
use Rattle.std.specs.Option.{option_and_then, option_map, option_map_or}
use Rattle.std.proofs.lemmas.List.{length-map}
use Rattle.std.proofs.lemmas.Option.{slice_get-map}
use Rattle.nddl_ast.specs.declared.declaration.Decl.{Decl}
use Rattle.nddl_ast.specs.declared.declaration.Member.{Member}
use Rattle.nddl_ast.specs.declared.declaration.Member.TheVariants as members
use Rattle.nddl_ast.specs.declared.declaration.Set.{Set}
use Rattle.nddl_ast.specs.declared.expression.Expr.{Expr}
use Rattle.nddl_symbols.specs.declared.declared.Declared.{Declared}
use Rattle.nddl_symbols.specs.Scope.{meaning_of, named_number}
use Rattle.nddl_typeexpr.specs.declared.kind.TypeKind.{TypeKind}
use Rattle.nddl_hierarchy.specs.Decls.{class_parent, decl_members, decl_of_name, declaration_with_body, members_of, number_with_body}
use Rattle.nddl_hierarchy.specs.Facts.{Facts}
use Rattle.nddl_hierarchy.specs.Shorter.{builds, has_constructor}
use Rattle.nddl_constructors.specs.declared.wanted.Wanted.{Wanted}
use Rattle.nddl_constructors.specs.declared.wanted.Wanted.TheVariants as wanted
use Rattle.nddl_resolve.specs.declared.denoted.Seen.{Seen}
use Rattle.nddl_constructors.specs.Wanted.{wanted_count, wanted_kinds}
use Rattle.nddl_constructors.specs.Wants.{formal_kind}
use Rattle.nddl_constructors.specs.Creations.{meaning_wants}
use Rattle.nddl_construction.specs.declared.made.Datum.{Datum}
use Rattle.nddl_construction.specs.declared.made.MadeObject.{MadeObject}
use Rattle.nddl_construction.specs.Reading.{fine_data}
use Rattle.nddl_construction.specs.Scene.{Grounds, Scenery}
use Rattle.nddl_construction.specs.declared.builders.Builder.{Builder}
use Rattle.nddl_construction.specs.declared.builders.Builders as code
use Rattle.nddl_construction.specs.Builders.{AreBuilders, AreEntries, IsBuilder, IsBuilderAt, body_numbers, builder_at, constructor_in, entry_at, wants_handed, wants_in, wants_over}
use Rattle.nddl_construction.specs.Classes.{body_decl, own_constructor}
use Rattle.nddl_construction.specs.Passing.{constructor_scene, handed_arguments, handed_data}

-- ---- lists

some_is : {X : Type 0} (x y : X) → Some x ≡ Some y → x ≡ y
some_is x y same = ap (λ o. elim o [ Some z ↦ z | None ↦ x ]) same

-- what stands in a list with one more item is in the list, or is that item, at the end
get_cases : {X : Type 0} (list : List X) (last : X) (place : ℕ) (x : X) → slice_get (list ++ last ∷ []) place ≡ Some x
    → (slice_get list place ≡ Some x) ⊎ ((place ≡ length list) × (x ≡ last))
get_cases [] last zero x is = inr (refl, sym (some_is last x is))
get_cases [] last (suc place) x is = cc
get_cases (first ∷ list) last zero x is = inl is
get_cases (first ∷ list) last (suc place) x is =
    elim (get_cases list last place x is) [ inl h ↦ inl h | inr h ↦ inr (ap suc h.0, h.1) ]

-- where there is nothing in the one list, there is nothing in the other, which isn't longer
none_past : {X Y : Type 0} (one : List X) (other : List Y) (place : ℕ) → length one ≡ length other
    → slice_get one place ≡ None → slice_get other place ≡ None
none_past [] [] place same none = refl
none_past [] (y ∷ other) place same none = absurd (omega (arith, same))
none_past (x ∷ one) [] place same none = refl
none_past (x ∷ one) (y ∷ other) zero same none = absurd (let e : Some x ≡ None = none in cc)
none_past (x ∷ one) (y ∷ other) (suc place) same none = none_past one other place (omega (arith, same)) none

-- ---- what is wanted

-- there are as many as there are kinds of them
pub counted : (facts : Facts) (wanted : Wanted) → wanted_count wanted ≡ length (wanted_kinds facts wanted)
counted facts (wanted.Formals formals) = sym (length-map formals.now (formal_kind facts))
counted facts (wanted.BuiltIn kinds) = refl

-- ---- the table

-- what is found of the next declaration comes behind what is found of the others
pub entries_more : (facts : Facts) (number : ℕ) (found : Option Builder) (old new : List (Option Builder)) → length old ≡ number
    → new ≡ old ++ found ∷ [] → IsBuilder facts number (wants_in facts number) (constructor_in facts.program number) found
    → AreEntries facts old → AreEntries facts new
entries_more facts number found old new long more is were = λ other builder there.
    elim (get_cases old found other builder (sym (ap (λ all. slice_get all other) more) ∙ there)) [
      | inl h ↦ were other builder h
      | inr h ↦
          let At : ℕ → Type 0 = λ n. IsBuilder facts n (wants_in facts n) (constructor_in facts.program n) builder in
          let Of : Option Builder → Type 0 = λ b. IsBuilder facts number (wants_in facts number) (constructor_in facts.program number) b in
          subst At (sym (h.0 ∙ long)) (subst Of (sym h.1) is)
    ]

module _ (facts : Facts) (entries : List (Option Builder)) where
  -- what is wanted of a class, its constructor and the number of a declaration, where its members stand in this one
  abbrev wants_by : Option Decl → List (Option TypeKind)
  wants_by decl = meaning_wants facts (option_and_then (λ name. meaning_of facts.names name.text) (option_and_then class_parent decl))

  abbrev constructor_by : Option Decl → Option Member
  constructor_by decl = own_constructor (option_map_or decl_members decl [])

  abbrev number_by : Option Declared → ℕ
  number_by body = option_map_or (λ body. body.place.decl) body 0

  abbrev IsBy : ℕ → Option Decl → Option Builder → Type 0
  IsBy number decl found = IsBuilder facts number (wants_by decl) (constructor_by decl) found

  from_decl : (number : ℕ) (decl : Option Decl) (found : Option Builder)
      → IsBuilder facts number (option_map_or (wants_over facts) decl []) (option_and_then (λ decl. own_constructor (decl_members decl)) decl) found
      → IsBy number decl found
  from_decl number None found is = is
  from_decl number (Some decl) found is = is

  at_number : length entries ≡ length facts.program → AreEntries facts entries → (number : ℕ)
      → IsBy number (slice_get facts.program number) (entry_at entries number)
  at_number long are number = by (slice_get entries number) refl
    where
      by : (found : Option (Option Builder)) → slice_get entries number ≡ found
          → IsBy number (slice_get facts.program number) (option_and_then (λ found. found) found)
      by None none = ap constructor_by (none_past entries facts.program number long none)
      by (Some found) is = from_decl number (slice_get facts.program number) found (are number found is)

  at_body : length entries ≡ length facts.program → AreEntries facts entries → (body : Option Declared)
      → IsBy (number_by body) (option_and_then (decl_of_name facts.program) body)
      (option_and_then (entry_at entries) (option_map (λ (body : Declared). body.place.decl) body))
  at_body long are None = refl
  at_body long are (Some body) = at_number long are body.place.decl

  at_named : length entries ≡ length facts.program → AreEntries facts entries → (number : Option ℕ)
      → IsBy (number_by (option_and_then (slice_get facts.names) number))
      (option_and_then (λ number. option_and_then (decl_of_name facts.program) (slice_get facts.names number)) number)
      (option_and_then (entry_at entries)
      (option_and_then (λ number. option_map (λ (body : Declared). body.place.decl) (slice_get facts.names number)) number))
  at_named long are None = refl
  at_named long are (Some number) = at_body long are (slice_get facts.names number)

  at_declared : length entries ≡ length facts.program → AreEntries facts entries → (declared : Option Declared)
      → IsBuilder facts
      (number_by (option_and_then (slice_get facts.names) (option_and_then (λ declared. named_number true facts.names declared.name) declared)))
      (meaning_wants facts (option_and_then
      (λ declared. option_and_then (λ name. meaning_of facts.names name.text)
      (option_and_then class_parent (declaration_with_body facts.names facts.program declared))) declared))
      (constructor_by (option_and_then (declaration_with_body facts.names facts.program) declared))
      (option_and_then (entry_at entries) (option_and_then (λ number. number) (option_map (number_with_body facts.names) declared)))
  at_declared long are None = refl
  at_declared long are (Some declared) = at_named long are (named_number true facts.names declared.name)

-- what is found of the declarations, and the numbers of those, are all that is found of classes
pub table_whole : (facts : Facts) (builders : code.Builders) → builders.bodies.items ≡ body_numbers facts.names
    → length builders.entries.items ≡ length facts.program → AreEntries facts builders.entries.items → AreBuilders facts builders
table_whole facts builders bodies long are = λ entry.
    let entries = builders.entries.items in
    let found : Option (Option ℕ) → Option Builder = λ number. option_and_then (entry_at entries) (option_and_then (λ number. number) number) in
    let there : slice_get builders.bodies.items entry ≡ option_map (number_with_body facts.names) (slice_get facts.names entry)
    = ap (λ all. slice_get all entry) bodies ∙ slice_get-map (number_with_body facts.names) facts.names entry in
    subst (λ number. IsBuilderAt facts entry (found number)) (sym there)
    (at_declared facts entries long are (slice_get facts.names entry))

-- ---- what is found in the table

pub found_there : (facts : Facts) (builders : code.Builders) (entry : ℕ) (found given : Option Builder) → AreBuilders facts builders
    → found ≡ builder_at builders entry → found ≡ given → IsBuilderAt facts entry given
found_there facts builders entry found given are there is = subst (IsBuilderAt facts entry) (sym there ∙ is) (are entry)

has_found : (some : List Member) → has_constructor some ≡ is_some (own_constructor some)
has_found [] = refl
has_found (members.Field typed ∷ more) = has_found more
has_found (members.Predicate at name parts ∷ more) = has_found more
has_found (members.Constructor name formals sets ∷ more) = refl

-- a class has a constructor where something is found of it
pub builds_found : (facts : Facts) (entry : ℕ) (found : Option Builder) → IsBuilderAt facts entry found
    → is_some found ≡ builds facts.names facts.program entry
unfolding builds
builds_found facts entry None is =
    sym (has_found (members_of facts.names facts.program entry) ∙ ap is_some is)
builds_found facts entry (Some builder) is =
    sym (has_found (members_of facts.names facts.program entry) ∙ ap is_some is.0)

-- what stands around in a constructor of which this is found
pub scene_there : (facts : Facts) (entry : ℕ) (builder : Builder) (values : List (Option Datum))
    → IsBuilderAt facts entry (Some builder)
    → (record { decl = builder.decl; formals = builder.formals; values = values })
    ≡ constructor_scene facts entry builder.constructor.now values
scene_there facts entry builder values is =
    let around : ℕ → List Seen → Scenery = λ decl formals. record { decl = decl; formals = formals; values = values } in
    ap (λ decl. around decl builder.formals) is.1 ∙ ap (around (body_decl facts.names entry)) is.2

-- ---- what is handed on

-- what is handed on is read in the same scene, and the kinds that are kept are those that are wanted
pub handed_over : (grounds : Grounds) (scene one : Scenery) (objects : List MadeObject) (wants kept : List (Option TypeKind))
    (body : List Set) (handed : Option (List Expr)) → scene ≡ one → handed ≡ handed_arguments (length wants) body
    → kept ≡ wants_handed wants body
    → option_map_or (λ arguments. Some (fine_data grounds scene objects kept 0 arguments)) handed None
    ≡ handed_data grounds one objects wants body
handed_over grounds scene one objects wants kept body handed scenes is are =
    ap (λ given. option_map_or (λ arguments. Some (fine_data grounds scene objects kept 0 arguments)) given None) is
    ∙ by (handed_arguments (length wants) body) are
  where
    by : (given : Option (List Expr)) → kept ≡ option_map_or (λ arguments. wants) given []
        → option_map_or (λ arguments. Some (fine_data grounds scene objects kept 0 arguments)) given None
        ≡ option_map_or (λ arguments. Some (fine_data grounds one objects wants 0 arguments)) given None
    by None same = refl
    by (Some arguments) same =
        ap (λ wanted. Some (fine_data grounds scene objects wanted 0 arguments)) same
        ∙ ap (λ around. Some (fine_data grounds around objects wants 0 arguments)) scenes
