-- What a path stands for outside of rules that leads from an object or a class over objects: exactly what it denotes.
use Rattle.std.proofs.Common.{◌≡◌, ℕ, zero, suc, ◌+◌, ◌-◌, ◌==◌, Bool, true, false, List, [], ◌∷◌, ◌++◌, length, take, get_or, ℤ, refl, sym, ◌∙◌, ap, subst, arith}
use Rattle.std.specs.Prelude.{⊤, Option, Some, None, Ok, Err, Contains, slice_get, if◌then◌else◌}
use Rattle.std.specs.List.{position_from}
use Rattle.std.specs.Option.{option_and_then, option_map, option_map_or, option_or}
use Rattle.std.specs.Str.{bytes_eq}
use Rattle.std.proofs.lemmas.Bool.Decides.{Decides-eqb}
use Rattle.std.proofs.lemmas.Option.{same_Some, none-some, slice_get_within}
use Rattle.std.proofs.lemmas.Slice.Eq.{bytes_eq-Decides}
use Rattle.eu_index.specs.Index.{Noted, noted_number, with_noted}
use Rattle.eu_index.proofs.Indexes.{noted_with, or_none}
use Rattle.model_core.specs.declared.class.Object.{Object}
use Rattle.model_core.specs.declared.item.Term.{Term}
use Rattle.model_core.specs.declared.item.Term.TheVariants as terms
use Rattle.model_core.specs.declared.variable.ValueKind.{ValueKind}
use Rattle.model_core.specs.declared.variable.ValueKind.TheVariants as value_kinds
use Rattle.model_core.proofs.Items.{item_at}
use Rattle.nddl_ast.specs.declared.declaration.FileDecls.{FileDecls}
use Rattle.nddl_ast.specs.declared.name.Name.{Name}
use Rattle.nddl_ast.specs.Path.{last_in_path}
use Rattle.nddl_symbols.specs.declared.declared.Declared.{Declared}
use Rattle.nddl_symbols.specs.declared.declared.Sort.{Sort}
use Rattle.nddl_symbols.specs.declared.declared.Sort.TheVariants as sorts
use Rattle.nddl_symbols.specs.declared.scope.Meaning.{Meaning}
use Rattle.nddl_symbols.specs.declared.scope.Meaning.TheVariants as meanings
use Rattle.nddl_symbols.specs.declared.site.Site.{Site}
use Rattle.nddl_symbols.specs.Joined.{joined_sites}
use Rattle.nddl_symbols.specs.Names.{is_class_sort}
use Rattle.nddl_symbols.specs.Place.{file_of_place}
use Rattle.nddl_symbols.specs.Scope.{builtin_number, is_named, meaning_of, named_number}
use Rattle.nddl_typeexpr.specs.declared.kind.TypeKind.{TypeKind}
use Rattle.nddl_typeexpr.specs.declared.kind.TypeKind.TheVariants as kinds
use Rattle.nddl_hierarchy.specs.Facts.{Facts}
use Rattle.nddl_declarations.specs.Domains.{value_kind}
use Rattle.nddl_types.specs.declared.table.Named.{Named}
use Rattle.nddl_types.specs.declared.table.TypeTable.{TypeTable}
use Rattle.nddl_types.specs.Classes.{class_number, is_first}
use Rattle.nddl_types.specs.Scoped.{named_from, named_in}
use Rattle.nddl_types.specs.Table.{IsTable}
use Rattle.nddl_resolve.specs.declared.denoted.Denoted.{Denoted}
use Rattle.nddl_resolve.specs.declared.denoted.Denoted.TheVariants as denoted
use Rattle.nddl_resolve.specs.declared.denoted.Predicate.{Predicate}
use Rattle.nddl_resolve.specs.declared.denoted.TokenSort.{TokenSort}
use Rattle.nddl_resolve.specs.Fields.{class_field}
use Rattle.nddl_resolve.specs.Files.{declared_value, file_denoted, file_owner, meaning_denoted, meaning_owner, sort_denoted, sort_owner}
use Rattle.nddl_resolve.specs.Following.{Understood, asked_names, found_at, found_next, named_token, next_denoted, object_alone, token_denoted, token_with}
use Rattle.nddl_resolve.specs.Predicates.{class_predicate}
use Rattle.nddl_construction.specs.declared.made.MadeObject.{MadeObject}
use Rattle.nddl_construction.specs.declared.made.NamedObject.{NamedObject}
use Rattle.nddl_terms.specs.PlainTree.{PlainTree}
use Rattle.nddl_terms.specs.declared.growth.Growth.{Growth}
use Rattle.nddl_terms.specs.declared.lexicon.Attribute.{Attribute}
use Rattle.nddl_terms.specs.declared.lexicon.Lexicon.{Lexicon}
use Rattle.nddl_terms.specs.declared.stands.Stand.{Stand}
use Rattle.nddl_terms.specs.declared.stands.Stand.TheVariants as stands
use Rattle.nddl_terms.specs.Lexicon.{attribute_class, attribute_kind, class_objects, pred_named, shape_fields}
use Rattle.nddl_terms.specs.Paths.{next_stand, numbered_field, reached, rest_stand}
use Rattle.nddl_terms.specs.Readings.{Readings}
use Rattle.nddl_terms.specs.Stands.{stand_or_nothing}
use Rattle.nddl_lower.specs.declared.slots.Wanted.{Wanted}
use Rattle.nddl_lower.specs.Slots.{AskedSlot, asked_behind, asked_nothing, asked_of_owner, wanted_of}
use Rattle.nddl_env.specs.Lexicons.{name_stand, sort_stand}
use Rattle.nddl_env.specs.Shapes.{World}
use Rattle.nddl_rules.specs.Told.{AreFileTrees, scope_places}
use Rattle.nddl_instance.specs.Outside.{Outsides, front_stand, scoped_stand}
use Rattle.nddl_instance.specs.Posed.{bare_readings, outside_rules}
use Rattle.nddl_problem.specs.Compiled.{posing_known, problem_fault}
use Rattle.nddl_problem.specs.Known.{Known, known_by, lexicon_known, objects_known, progress_known, scope_known, world_known}
use Rattle.nddl_laws.specs.Given.{AreGiven}
use Rattle.nddl_laws.proofs.First.{some_position}
use Rattle.nddl_laws.proofs.Parents.{few_builtin, meant_class}
use Rattle.nddl_laws.proofs.Placed.{place_has_file}
use Rattle.nddl_laws.proofs.Places.{declared_in}
use Rattle.nddl_rule_laws.proofs.Classes.{are_facts, first_number}
use Rattle.nddl_rule_laws.proofs.Owners.{position_is}
use Rattle.nddl_rule_laws.proofs.Scopes.{place_aligned}
use Rattle.nddl_rule_laws.proofs.Shapes.{FieldIn, field_found, has_field}
use Rattle.nddl_rule_laws.proofs.TypeKinds.{IsThere, KindThere, builtin_there, entry_there}
use Rattle.nddl_name_laws.proofs.Names.{object_found}
use Rattle.nddl_model_laws.specs.Faultless.{IsFaultless}
use Rattle.nddl_model_laws.proofs.Grounds.{objects_fine}
use Rattle.nddl_whole_laws.proofs.Belonging.{whole_at}

-- ---- places of names

-- the place of a name is that of the first that has it
noted_places : (noted : Noted) (number : ℕ) (scope : List Named) (name : List ℕ)
    → noted_number (scope_places noted number scope) name
    ≡ option_or (noted_number noted name) (position_from (λ (named : Named). bytes_eq name named.name) number scope)
noted_places noted number [] name = or_none (noted_number noted name)
noted_places noted number (named ∷ more) name =
    noted_places (with_noted noted named.name number) (number + 1) more name
    ∙ (ap (λ o. option_or o (position_from (λ (other : Named). bytes_eq name other.name) (number + 1) more)) (noted_with noted named.name name number)
    ∙ by (noted_number noted name) (bytes_eq name named.name) (position_from (λ (other : Named). bytes_eq name other.name) (number + 1) more))
  where
    by : (o : Option ℕ) (b : Bool) (rest : Option ℕ)
        → option_or (option_or o (if b then Some number else None)) rest ≡ option_or o (if b then Some number else rest)
    by (Some found) b rest = refl
    by None true rest = refl
    by None false rest = refl

-- a name that is declared first has a place
record HasPlace (scope : List Named) (name : List ℕ) : Type 0 where
  place : ℕ
  named : Named
  there : slice_get scope place ≡ Some named
  name_is : name ≡ named.name

module _ (files : List FileDecls) (sites : List Site) (names : List Declared) where
  placed : (number : ℕ) (some : List Declared) (offset : ℕ) (declared : Declared) (file : FileDecls) → slice_get some offset ≡ Some declared
      → is_first names (number + offset) declared ≡ true → file_of_place files sites declared.place ≡ Some file
      → HasPlace (named_from files sites names number some) declared.name
  placed number [] offset declared file at first filed = absurd (none-some declared at)
  placed number (here ∷ more) zero declared file at first filed =
      let same : here ≡ declared = same_Some here declared at in
      let e : number + 0 ≡ number = omega arith in
      let own : is_first names number here ≡ true = (λ i. is_first names (sym e i) (same i)) ∙ first in
      let own_file : file_of_place files sites here.place ≡ Some file = ap (λ (d : Declared). file_of_place files sites d.place) same ∙ filed in
      record {
        place = 0;
        named = named_in here file;
        there = (λ i. slice_get ((if own i then option_map_or (λ (f : FileDecls). named_in here f ∷ []) (own_file i) [] else []) ++ named_from files sites names (number + 1) more) 0);
        name_is = ap (λ (d : Declared). d.name) (sym same);
      }
  placed number (here ∷ more) (suc offset) declared file at first filed =
      let e : number + suc offset ≡ number + 1 + offset = omega arith in
      let rest = placed (number + 1) more offset declared file at (sym (ap (λ n. is_first names n declared) e) ∙ first) filed in
      by (is_first names number here) (file_of_place files sites here.place) rest
    where
      by : (b : Bool) (o : Option FileDecls) → HasPlace (named_from files sites names (number + 1) more) declared.name
          → HasPlace ((if b then option_map_or (λ (f : FileDecls). named_in here f ∷ []) o [] else []) ++ named_from files sites names (number + 1) more) declared.name
      by false o rest = rest
      by true None rest = rest
      by true (Some found) rest = record { place = suc rest.place; named = rest.named; there = rest.there; name_is = rest.name_is }

-- ---- denoted values

same_ok : (one other : Denoted) → ◌≡◌ {A = Understood} (Ok one) (Ok other) → one ≡ other
same_ok one other same = cc

found_is : (name : Name) (o : Option Denoted) (next : Denoted) → found_at name o ≡ Ok next → o ≡ Some next
found_is name None next is = absurd (cc)
found_is name (Some found) next is = ap (λ d. Some d) (same_ok found next is)

-- a value of another kind than objects, behind which nothing follows
abbrev pub IsPlain : Denoted → Type 0
IsPlain (denoted.Value (kinds.Object of) constant) = ⊥
IsPlain (denoted.Value kind constant) = ⊤
IsPlain (denoted.Token token) = ⊥
IsPlain (denoted.Class class) = ⊥
IsPlain denoted.Faulty = ⊥

plain_next : (facts : Facts) (first : ℕ) (here : Denoted) (name : Name) (next : Denoted) → IsPlain here → next_denoted facts first here name ≡ Ok next → ⊥
plain_next facts first (denoted.Value (kinds.Object of) constant) name next plain is = plain
plain_next facts first (denoted.Value kinds.Int constant) name next plain is = cc
plain_next facts first (denoted.Value kinds.Float constant) name next plain is = cc
plain_next facts first (denoted.Value kinds.Bool constant) name next plain is = cc
plain_next facts first (denoted.Value (kinds.Enum number) constant) name next plain is = cc
plain_next facts first (denoted.Token token) name next plain is = plain
plain_next facts first (denoted.Class class) name next plain is = plain
plain_next facts first denoted.Faulty name next plain is = plain

plain_token : (facts : Facts) (first : ℕ) (here : Denoted) (name : Name) (meant : Denoted) → IsPlain here → token_denoted facts first here name ≡ Ok meant → ⊥
plain_token facts first (denoted.Value (kinds.Object of) constant) name meant plain is = plain
plain_token facts first (denoted.Value kinds.Int constant) name meant plain is = cc
plain_token facts first (denoted.Value kinds.Float constant) name meant plain is = cc
plain_token facts first (denoted.Value kinds.Bool constant) name meant plain is = cc
plain_token facts first (denoted.Value (kinds.Enum number) constant) name meant plain is = cc
plain_token facts first (denoted.Token token) name meant plain is = plain
plain_token facts first (denoted.Class class) name meant plain is = plain
plain_token facts first denoted.Faulty name meant plain is = plain

-- it stands for a known object of the denoted class or for this class, by its number; behind other values nothing follows
pub data IsExact (There : Meaning → Type 0) (number_of : Meaning → ℕ) (Inside : ℕ → ℤ → Type 0) (meant : Denoted) (stand : Stand) : Type 0 where
  exact_object : (of : Meaning) (constant : Bool) (value : ℤ) (own : ValueKind) → meant ≡ denoted.Value (kinds.Object of) constant
      → stand ≡ stands.Value (terms.Lit value) own (number_of of) → There of → Inside (number_of of) value
      → IsExact There number_of Inside meant stand
  exact_class : (of : Meaning) → meant ≡ denoted.Class of → stand ≡ stands.Class (number_of of) → There of
      → IsExact There number_of Inside meant stand
  exact_plain : IsPlain meant → IsExact There number_of Inside meant stand

module _ (files : List FileDecls) (table : TypeTable) (trees : List PlainTree) (given : AreGiven files) (is : IsTable files table)
    (are_trees : AreFileTrees table files trees) (fine : problem_fault (known_by files is.facts table trees) ≡ None) where
  abbrev known : Known
  known = known_by files is.facts table trees

  abbrev faultless : IsFaultless known
  faultless = record { given = given; is_table = is; are_trees = are_trees; are = is.are; fine = fine }

  abbrev facts : Facts
  facts = is.facts

  abbrev world : World
  world = world_known known

  abbrev lexicon : Lexicon
  lexicon = lexicon_known known

  abbrev objects : List Object
  objects = objects_known known

  abbrev made : List MadeObject
  made = (progress_known known).so_far.objects

  abbrev named : List NamedObject
  named = (progress_known known).named_objects

  abbrev outside : Outsides
  outside = outside_rules (posing_known known)

  abbrev reading : Readings
  reading = bare_readings (posing_known known)

  abbrev number_of : Meaning → ℕ
  number_of class = class_number facts.names class

  abbrev There : Meaning → Type 0
  There = IsThere files table given is

  -- ---- one step

  abbrev pub Exact : Denoted → Stand → Type 0
  Exact = IsExact There number_of (λ (number : ℕ) (value : ℤ). Contains (class_objects lexicon number) value)

  field_exact : (of : Meaning) (constant : Bool) (value : ℤ) (own : ValueKind) (name : Name) (growth : Growth) (next : Denoted) → There of
      → Contains (class_objects lexicon (number_of of)) value → class_field facts constant name.text of ≡ Some next
      → Exact next (next_stand reading (stands.Value (terms.Lit value) own (number_of of)) name growth).stand
  field_exact of constant value own name growth next there inside found =
      let class = number_of of in
      let fields = shape_fields lexicon class in
      let has = has_field files table given is named made constant name.text class there.0 next
      (subst (λ (c : Meaning). FieldIn facts constant name.text c next) (sym there.1) (field_found facts name.text constant of next found)) in
      let it = whole_at files table trees given is are_trees fine class has.place value has.attribute inside has.at in
      let kind = attribute_kind fields has.place in
      let stand_is : (next_stand reading (stands.Value (terms.Lit value) own class) name growth).stand
      ≡ stands.Value (terms.Lit it.content) kind (attribute_class fields has.place) =
      ap (λ (o : Option ℕ). (option_map_or (λ (number : ℕ). numbered_field objects (terms.Lit value) fields number growth) o (reached stands.Nothing growth)).stand)
      has.named
      ∙ ap (λ (o : Option ℤ). option_map_or (λ (content : ℤ). stands.Value (terms.Lit content) kind (attribute_class fields has.place)) o stands.Nothing) it.known in
      let class_is : attribute_class fields has.place ≡ has.attribute.shape.class =
      ap (λ (o : Option Attribute). option_map_or (λ (one : Attribute). one.shape.class) o 0) has.at in
      by has.kind has.kind refl
      (λ other same. exact_object other constant it.content kind
      (has.is_value ∙ ap (λ (k : TypeKind). denoted.Value k constant) same)
      (stand_is ∙ ap (stands.Value (terms.Lit it.content) kind) (class_is ∙ has.class_is other same))
      (subst (KindThere files table given is) same has.there)
      (subst (λ (n : ℕ). Contains (class_objects lexicon n) it.content) (has.class_is other same) (it.inside (has.is_kind ∙ ap value_kind same))))
      (λ plain. exact_plain (subst IsPlain (sym has.is_value) plain))
    where
      by : (kind : TypeKind) → (whole : TypeKind) → whole ≡ kind
          → ((other : Meaning) → whole ≡ kinds.Object other
          → Exact next (next_stand reading (stands.Value (terms.Lit value) own (number_of of)) name growth).stand)
          → (IsPlain (denoted.Value kind constant)
          → Exact next (next_stand reading (stands.Value (terms.Lit value) own (number_of of)) name growth).stand)
          → Exact next (next_stand reading (stands.Value (terms.Lit value) own (number_of of)) name growth).stand
      by (kinds.Object other) whole same object plain = object other same
      by kinds.Int whole same object plain = plain tt
      by kinds.Float whole same object plain = plain tt
      by kinds.Bool whole same object plain = plain tt
      by (kinds.Enum number) whole same object plain = plain tt

  next_exact : (first : ℕ) (here : Denoted) (stand : Stand) (name : Name) (growth : Growth) (next : Denoted) → Exact here stand
      → next_denoted facts first here name ≡ Ok next → Exact next (next_stand reading stand name growth).stand
  next_exact first here stand name growth next (exact_object of constant value own means stands_for there inside) told =
      let found = found_is name (class_field facts constant name.text of) next (sym (ap (λ (d : Denoted). next_denoted facts first d name) means) ∙ told) in
      subst (λ (s : Stand). Exact next (next_stand reading s name growth).stand) (sym stands_for)
      (field_exact of constant value own name growth next there inside found)
  next_exact first here stand name growth next (exact_class of means stands_for there) told =
      let never : next_denoted facts first (denoted.Class of) name ≡ Ok next = sym (ap (λ (d : Denoted). next_denoted facts first d name) means) ∙ told in
      absurd (cc)
  next_exact first here stand name growth next (exact_plain plain) told = absurd (plain_next facts first here name next plain told)

  -- ---- the token that is asked for

  -- nothing, or an object of the class
  abbrev pub IsObjectFor : Meaning → Option Term → Type 0
  IsObjectFor class None = ⊤
  IsObjectFor class (Some (terms.Lit value)) = Contains (class_objects lexicon (number_of class)) value
  IsObjectFor class (Some term) = ⊥

  -- a token of the predicate of this name is wanted
  pub record IsWanted (token : TokenSort) (name : List ℕ) (wanted : Wanted) : Type 0 where
    pub there : There token.class
    pub predicate : class_predicate facts name token.class ≡ Some token.predicate
    pub pred : wanted.pred ≡ pred_named lexicon (number_of token.class) name
    pub object : IsObjectFor token.class wanted.object

  -- the token is of the class of which it is asked
  token_exact : (of : Meaning) (name : Name) (token : TokenSort) → named_token facts of name ≡ Ok (denoted.Token token)
      → (token.class ≡ of) × (class_predicate facts name.text token.class ≡ Some token.predicate)
  token_exact of name token told = by (class_predicate facts name.text of) refl told
    where
      same_token : (one other : TokenSort) → denoted.Token one ≡ denoted.Token other → one ≡ other
      same_token one other same = cc

      by : (o : Option Predicate) → class_predicate facts name.text of ≡ o → token_with of name o ≡ Ok (denoted.Token token)
          → (token.class ≡ of) × (class_predicate facts name.text token.class ≡ Some token.predicate)
      by None found none = absurd (cc)
      by (Some predicate) found some =
          let own : TokenSort = record { class = of; predicate = predicate } in
          let e : own ≡ token = same_token own token (same_ok (denoted.Token own) (denoted.Token token) some) in (
            ap (λ (t : TokenSort). t.class) (sym e),
            subst (λ (t : TokenSort). class_predicate facts name.text t.class ≡ Some t.predicate) e found,
          )

  last_wanted : (first : ℕ) (here : Denoted) (stand : Stand) (name : Name) (token : TokenSort) → Exact here stand
      → token_denoted facts first here name ≡ Ok (denoted.Token token) → IsWanted token name.text (wanted_of lexicon stand name.text)
  last_wanted first here stand name token (exact_object of constant value own means stands_for there inside) told =
      let it = token_exact of name token (sym (ap (λ (d : Denoted). token_denoted facts first d name) means) ∙ told) in
      let number : number_of of ≡ number_of token.class = ap number_of (sym it.0) in
      subst (λ (s : Stand). IsWanted token name.text (wanted_of lexicon s name.text)) (sym stands_for)
      (record {
        there = subst There (sym it.0) there;
        predicate = it.1;
        pred = ap (λ (n : ℕ). pred_named lexicon n name.text) number;
        object = subst (λ (n : ℕ). Contains (class_objects lexicon n) value) number inside;
      })
  last_wanted first here stand name token (exact_class of means stands_for there) told =
      let it = token_exact of name token (sym (ap (λ (d : Denoted). token_denoted facts first d name) means) ∙ told) in
      subst (λ (s : Stand). IsWanted token name.text (wanted_of lexicon s name.text)) (sym stands_for)
      (record {
        there = subst There (sym it.0) there;
        predicate = it.1;
        pred = ap (λ (n : ℕ). pred_named lexicon n name.text) (ap number_of (sym it.0));
        object = tt;
      })
  last_wanted first here stand name token (exact_plain plain) told =
      absurd (plain_token facts first here name (denoted.Token token) plain told)

  -- behind one name more the same is asked
  behind_more : (stand : Stand) (name next : Name) (more : List Name) (growth : Growth)
      → asked_behind reading stand (name ∷ next ∷ more) growth
      ≡ asked_behind reading (next_stand reading stand name growth).stand (next ∷ more) (next_stand reading stand name growth).growth
  behind_more stand name next more growth =
      let step = next_stand reading stand name growth in
      let last : Name = get_or (next ∷ more) (length (next ∷ more) - 1) next in
      let e : length (name ∷ next ∷ more) - 1 ≡ suc (length (next ∷ more) - 1) = omega arith in
      let there : slice_get (next ∷ more) (length (next ∷ more) - 1) ≡ Some last = item_at (next ∷ more) (length (next ∷ more) - 1) next (omega arith) in
      let asks : Growth → Option Name → AskedSlot = λ none o.
      option_map_or (λ (one : Name). asked_of_owner lexicon (rest_stand reading step.stand (take (length (next ∷ more) - 1) (next ∷ more)) step.growth) one.text)
      o (asked_nothing none) in
      ap (λ n. option_map_or (λ (one : Name). asked_of_owner lexicon (rest_stand reading stand (take n (name ∷ next ∷ more)) growth) one.text)
      (slice_get (name ∷ next ∷ more) n) (asked_nothing growth)) e
      ∙ (ap (asks growth) there ∙ sym (ap (asks step.growth) there))

  pub names_wanted : (first : ℕ) (here : Denoted) (stand : Stand) (name : Name) (more : List Name) (growth : Growth) (token : TokenSort) → Exact here stand
      → asked_names facts first here name more ≡ Ok (denoted.Token token)
      → IsWanted token (last_in_path name more).text (asked_behind reading stand (name ∷ more) growth).wanted
  names_wanted first here stand name [] growth token exact told = last_wanted first here stand name token exact told
  names_wanted first here stand name (next ∷ more) growth token exact told =
      by (next_denoted facts first here name) refl told
      (λ further so rest. names_wanted first further (next_stand reading stand name growth).stand next more (next_stand reading stand name growth).growth token so rest)
    where
      by : (u : Understood) → next_denoted facts first here name ≡ u
          → found_next (λ further. asked_names facts first further next more) u ≡ Ok (denoted.Token token)
          → ((further : Denoted) → Exact further (next_stand reading stand name growth).stand
          → asked_names facts first further next more ≡ Ok (denoted.Token token)
          → IsWanted token (last_in_path next more).text
          (asked_behind reading (next_stand reading stand name growth).stand (next ∷ more) (next_stand reading stand name growth).growth).wanted)
          → IsWanted token (last_in_path next more).text (asked_behind reading stand (name ∷ next ∷ more) growth).wanted
      by (Ok further) here_is rest behind =
          subst (λ (asked : AskedSlot). IsWanted token (last_in_path next more).text asked.wanted) (sym (behind_more stand name next more growth))
          (behind further (next_exact first here stand name growth further exact here_is) rest)
      by (Err fault) here_is rest behind = absurd (cc)

  -- ---- names of the files

  -- what the name stands for that is declared first as this
  pub record StandsAs (name : List ℕ) (entry : ℕ) (declared : Declared) : Type 0 where
    pub place : ℕ
    pub noted : noted_number (scope_known known) name ≡ Some place
    pub globals : ℕ
    pub roots : ℕ
    pub stand : slice_get lexicon.scope place ≡ Some (name_stand world entry globals roots declared)

  pub stands_as : (entry : ℕ) (declared : Declared) → slice_get facts.names entry ≡ Some declared → is_first facts.names entry declared ≡ true
      → StandsAs declared.name entry declared
  stands_as entry declared at first =
      let name = declared.name in
      let names_are = (are_facts files table given is).is_names in
      let in_text = declared_in facts.program entry declared (sym (ap (λ (some : List Declared). slice_get some entry) names_are) ∙ at) in
      let within = slice_get_within facts.program declared.place.decl in_text.decl in_text.there in
      let long = ap length is.are.is_program in
      let file = place_has_file files declared.place (omega arith) in
      let e : 0 + entry ≡ entry = omega arith in
      let own = placed files (joined_sites files) facts.names 0 facts.names entry declared file.0 at (ap (λ n. is_first facts.names n declared) e ∙ first) file.1 in
      let scope_is : table.scope ≡ named_from files (joined_sites files) facts.names 0 facts.names = is.entries.others.scope_is in
      let there : slice_get table.scope own.place ≡ Some own.named = ap (λ (scope : List Named). slice_get scope own.place) scope_is ∙ own.there in
      let position = some_position (λ (one : Named). bytes_eq name one.name) table.scope 0 own.place own.named there ((bytes_eq-Decides name own.named.name).1 own.name_is) in
      let found = position_is (λ (one : Named). bytes_eq name one.name) table.scope 0 position.0 position.1 in
      let same_place : found.0 ≡ position.0 = (let sum : position.0 ≡ 0 + found.0 = found.1 in omega arith) in
      let at_place : slice_get table.scope position.0 ≡ Some found.2.0 = ap (slice_get table.scope) (sym same_place) ∙ found.2.1 in
      let it = place_aligned files table given is named made position.0 found.2.0 at_place in
      let same_name : it.declared.name ≡ name = sym (it.name_is) ∙ sym ((bytes_eq-Decides name found.2.0.name).0 found.2.2) in
      let one : named_number false facts.names it.declared.name ≡ Some it.entry = first_number (named_number false facts.names it.declared.name) it.entry it.first in
      let other : named_number false facts.names name ≡ Some entry = first_number (named_number false facts.names name) entry first in
      let entries : it.entry ≡ entry = same_Some it.entry entry (sym one ∙ (ap (named_number false facts.names) same_name ∙ other)) in
      let offset : it.entry ≡ it.offset = (let sum : it.entry ≡ 0 + it.offset = it.is_entry in omega arith) in
      let declared_is : it.declared ≡ declared =
      same_Some it.declared declared (sym it.there ∙ (ap (slice_get facts.names) (sym offset ∙ entries) ∙ at)) in
      record {
        place = position.0;
        noted = noted_places [] 0 table.scope name ∙ position.1;
        globals = it.globals;
        roots = it.roots;
        stand = it.stand ∙ (λ i. Some (name_stand world (entries i) it.globals it.roots (declared_is i)));
      }

  -- what stands at the front of a path for a name that means this
  record IsFront (name : List ℕ) (entry : ℕ) (declared : Declared) : Type 0 where
    globals : ℕ
    roots : ℕ
    stand : front_stand outside name ≡ name_stand world entry globals roots declared
    denotes : file_denoted facts declared.name ≡ sort_denoted facts entry declared declared.sort

  front_is : (name : List ℕ) (entry : ℕ) (declared : Declared) → meaning_of facts.names name ≡ Some (meanings.Entry entry)
      → slice_get facts.names entry ≡ Some declared → IsFront name entry declared
  front_is name entry declared means at = by (builtin_number name) refl (named_number false facts.names name) refl means
    where
      by : (built : Option ℕ) → builtin_number name ≡ built → (o : Option ℕ) → named_number false facts.names name ≡ o
          → option_or (option_map meanings.BuiltIn built) (option_map meanings.Entry o) ≡ Some (meanings.Entry entry) → IsFront name entry declared
      by (Some number) builtin o named_is same =
          absurd (let e : meanings.BuiltIn number ≡ meanings.Entry entry = same_Some (meanings.BuiltIn number) (meanings.Entry entry) same in cc)
      by None builtin None named_is same = absurd (none-some (meanings.Entry entry) same)
      by None builtin (Some number) named_is same =
          let e : meanings.Entry number ≡ meanings.Entry entry = same_Some (meanings.Entry number) (meanings.Entry entry) same in
          let here : number ≡ entry = cc in
          let own : named_number false facts.names name ≡ Some entry = named_is ∙ ap (λ n. Some n) here in
          let found = position_is (is_named false name) facts.names 0 entry own in
          let place : found.0 ≡ entry = (let sum : entry ≡ 0 + found.0 = found.1 in omega arith) in
          let declared_is : found.2.0 ≡ declared = same_Some found.2.0 declared (sym found.2.1 ∙ (ap (slice_get facts.names) place ∙ at)) in
          let name_is : name ≡ declared.name = (bytes_eq-Decides name found.2.0.name).0 found.2.2 ∙ ap (λ (d : Declared). d.name) declared_is in
          let first : is_first facts.names entry declared ≡ true =
          ap (λ (o : Option ℕ). option_map_or (λ (one : ℕ). one == entry) o false) (ap (named_number false facts.names) (sym name_is) ∙ own)
          ∙ (Decides-eqb entry entry).1 refl in
          let it = stands_as entry declared at first in
          record {
            globals = it.globals;
            roots = it.roots;
            stand = ap (λ (o : Option ℕ). option_map_or stands.Class o (scoped_stand outside name)) builtin
                ∙ (ap (λ (o : Option ℕ). option_map_or (λ (p : ℕ). stand_or_nothing (slice_get lexicon.scope p)) o stands.Nothing)
                (ap (noted_number (scope_known known)) name_is ∙ it.noted)
                ∙ ap stand_or_nothing it.stand);
            denotes = ap (option_and_then (meaning_denoted facts)) (ap (meaning_of facts.names) (sym name_is) ∙ means)
                ∙ ap (option_and_then (λ (d : Declared). sort_denoted facts entry d d.sort)) at;
          }

  class_there : (name : List ℕ) (entry : ℕ) (declared : Declared) → meaning_of facts.names name ≡ Some (meanings.Entry entry)
      → slice_get facts.names entry ≡ Some declared → is_class_sort declared.sort ≡ true → There (meanings.Entry entry)
  class_there name entry declared means at class =
      let found = meant_class facts.names name entry means
      (ap (λ (o : Option Declared). option_map_or (λ (d : Declared). is_class_sort d.sort) o false) at ∙ class) in
      entry_there files table given is entry found.0 found.1 found.2

  built : (name : List ℕ) (number : ℕ) → meaning_of facts.names name ≡ Some (meanings.BuiltIn number) → builtin_number name ≡ Some number
  built name number means = by (builtin_number name) refl (named_number false facts.names name) means
    where
      by : (found : Option ℕ) → builtin_number name ≡ found → (o : Option ℕ)
          → option_or (option_map meanings.BuiltIn found) (option_map meanings.Entry o) ≡ Some (meanings.BuiltIn number) → builtin_number name ≡ Some number
      by (Some one) at o same =
          let e : meanings.BuiltIn one ≡ meanings.BuiltIn number = same_Some (meanings.BuiltIn one) (meanings.BuiltIn number) same in
          let here : one ≡ number = cc in
          at ∙ ap (λ n. Some n) here
      by None at None same = absurd (none-some (meanings.BuiltIn number) same)
      by None at (Some entry) same =
          absurd (let e : meanings.Entry entry ≡ meanings.BuiltIn number = same_Some (meanings.Entry entry) (meanings.BuiltIn number) same in cc)

  -- what an object or a class stands for of which a token is posted
  pub front_exact : (name : List ℕ) (owner : Denoted) → file_owner facts name ≡ Some owner → Exact owner (front_stand outside name)
  front_exact name owner found = by (meaning_of facts.names name) refl found
    where
      sorted : (entry : ℕ) (declared : Declared) (sort : Sort) → meaning_of facts.names name ≡ Some (meanings.Entry entry)
          → slice_get facts.names entry ≡ Some declared → declared.sort ≡ sort → sort_owner facts entry declared sort ≡ Some owner
          → Exact owner (front_stand outside name)
      sorted entry declared sorts.Object means at sort told =
          let front = front_is name entry declared means at in
          let it = object_found files table given is (objects_fine known faultless) entry declared at sort in
          let class = it.stands.class in
          let owner_is : owner ≡ denoted.Value (kinds.Object class) true =
          sym (same_Some (object_alone (declared_value facts true declared)) owner told) ∙ ap object_alone it.stands.denotes in
          let meant : file_denoted facts declared.name ≡ Some (denoted.Value (kinds.Object class) true) =
          front.denotes ∙ (ap (sort_denoted facts entry declared) sort ∙ ap (λ d. Some d) (ap object_alone it.stands.denotes)) in
          exact_object class true it.stands.value value_kinds.Object owner_is
          (front.stand ∙ ((λ i. sort_stand world entry front.globals front.roots declared (meant i) (sort i))
          ∙ ap (λ (o : Option ℤ). option_map_or (λ (value : ℤ). stands.Value (terms.Lit value) value_kinds.Object (number_of class)) o stands.Nothing)
          it.stands.made))
          it.there it.stands.inside
      sorted entry declared sorts.Forward means at sort told =
          let front = front_is name entry declared means at in
          exact_class (meanings.Entry entry) (sym (same_Some (denoted.Class (meanings.Entry entry)) owner told))
          (front.stand ∙ ap (sort_stand world entry front.globals front.roots declared (file_denoted facts declared.name)) sort)
          (class_there name entry declared means at (ap is_class_sort sort))
      sorted entry declared sorts.Body means at sort told =
          let front = front_is name entry declared means at in
          exact_class (meanings.Entry entry) (sym (same_Some (denoted.Class (meanings.Entry entry)) owner told))
          (front.stand ∙ ap (sort_stand world entry front.globals front.roots declared (file_denoted facts declared.name)) sort)
          (class_there name entry declared means at (ap is_class_sort sort))
      sorted entry declared (sorts.Enum number) means at sort told = absurd (none-some owner told)
      sorted entry declared (sorts.Member of place) means at sort told = absurd (none-some owner told)
      sorted entry declared sorts.Typedef means at sort told = absurd (none-some owner told)
      sorted entry declared sorts.Global means at sort told = absurd (none-some owner told)
      sorted entry declared sorts.Root means at sort told = absurd (none-some owner told)
      sorted entry declared sorts.Config means at sort told = absurd (none-some owner told)

      entered : (entry : ℕ) → meaning_of facts.names name ≡ Some (meanings.Entry entry) → (o : Option Declared) → slice_get facts.names entry ≡ o
          → option_and_then (λ (d : Declared). sort_owner facts entry d d.sort) o ≡ Some owner → Exact owner (front_stand outside name)
      entered entry means None at told = absurd (none-some owner told)
      entered entry means (Some declared) at told = sorted entry declared declared.sort means at refl told

      by : (o : Option Meaning) → meaning_of facts.names name ≡ o → option_and_then (meaning_owner facts) o ≡ Some owner → Exact owner (front_stand outside name)
      by None means told = absurd (none-some owner told)
      by (Some (meanings.BuiltIn number)) means told =
          exact_class (meanings.BuiltIn number) (sym (same_Some (denoted.Class (meanings.BuiltIn number)) owner told))
          (ap (λ (o : Option ℕ). option_map_or stands.Class o (scoped_stand outside name)) (built name number means))
          (builtin_there files table given is number (few_builtin facts.names name number means))
      by (Some (meanings.Entry entry)) means told = entered entry means (slice_get facts.names entry) refl told
