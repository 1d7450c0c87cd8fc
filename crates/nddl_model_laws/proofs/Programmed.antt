-- Of a program with which nothing is wrong each field of each object is set to a value of its kind.
use Rattle.std.proofs.Common.{◌≡◌, ℕ, zero, suc, ◌+◌, ◌<◌, Bool, true, false, not, ◌&&◌, ◌⊎◌, inl, inr, List, [], ◌∷◌, length, map, refl, sym, ◌∙◌, ap, subst, arith}
use Rattle.std.specs.Prelude.{Option, Some, None, All, slice_get, slice_set, nat_lt, if◌then◌else◌}
use Rattle.std.specs.Option.{option_and_then, option_map, option_map_or}
use Rattle.std.proofs.lemmas.List.Elements.{All-nil}
use Rattle.std.proofs.lemmas.Option.{same_Some, none-some, slice_get-map}
use Rattle.eu_name.specs.Word.{IsName}
use Rattle.model_core.proofs.Items.{item_all}
use Rattle.nddl_ast.specs.declared.declaration.Decl.{Decl}
use Rattle.nddl_ast.specs.declared.declaration.Decl.TheVariants as decls
use Rattle.nddl_ast.specs.declared.declaration.Member.{Member}
use Rattle.nddl_ast.specs.declared.expression.Creation.{Creation}
use Rattle.nddl_ast.specs.declared.expression.Init.{Init}
use Rattle.nddl_ast.specs.declared.expression.Init.TheVariants as inits
use Rattle.nddl_ast.specs.declared.kind.TextKind.TheVariants as faults
use Rattle.nddl_ast.specs.declared.statement.Variable.{Variable}
use Rattle.nddl_symbols.specs.declared.declared.Declared.{Declared}
use Rattle.nddl_symbols.specs.declared.fault.Fault.{Fault}
use Rattle.nddl_symbols.specs.declared.scope.Meaning.{Meaning}
use Rattle.nddl_symbols.specs.declared.scope.Meaning.TheVariants as meanings
use Rattle.nddl_symbols.specs.Finding.{earlier_fault, faults_here, is_fault_before}
use Rattle.nddl_symbols.specs.Names.{is_config_sort, scope_names, sort_of_variable}
use Rattle.nddl_symbols.specs.Scope.{fault_if, meaning_of, named_number}
use Rattle.nddl_typeexpr.specs.declared.kind.TypeKind.{TypeKind}
use Rattle.nddl_typeexpr.specs.declared.kind.TypeKind.TheVariants as kinds
use Rattle.nddl_typeexpr.specs.Bases.{base_kind}
use Rattle.nddl_hierarchy.specs.Facts.{Facts}
use Rattle.nddl_declarations.specs.Known.{AreFacts, all_type_faults}
use Rattle.nddl_declarations.specs.Faults.{all_faults}
use Rattle.nddl_resolve.specs.declared.denoted.Denoted.TheVariants as denoted
use Rattle.nddl_resolve.specs.Fields.{type_value}
use Rattle.nddl_resolve.specs.Files.{declared_value, variable_type}
use Rattle.nddl_resolve.specs.Following.{object_alone}
use Rattle.nddl_constructors.specs.Bodies.{body_faults}
use Rattle.nddl_constructors.specs.Creations.{class_alone, creation_faults, is_no_object, is_of_class, set_to_faults}
use Rattle.nddl_constructors.specs.Formals.{around_formals}
use Rattle.nddl_constructors.specs.Objects.{creation_of_faults, first_close, foreign_fault, is_closed, is_foreign_class, new_faults, object_faults, settings_faults, variable_faults_by, written_faults}
use Rattle.nddl_construction.specs.declared.made.Datum.{Datum}
use Rattle.nddl_construction.specs.declared.made.Datum.TheVariants as datums
use Rattle.nddl_construction.specs.declared.made.MadeObject.{MadeObject}
use Rattle.nddl_construction.specs.declared.made.NamedObject.{NamedObject}
use Rattle.nddl_construction.specs.declared.made.NamedObject.TheVariants as stands
use Rattle.nddl_construction.specs.Classes.{constructor_at, made_class}
use Rattle.nddl_construction.specs.Passing.{passed_down}
use Rattle.nddl_construction.specs.Scene.{Grounds}
use Rattle.nddl_objects.specs.Construction.{Asked, Construction, Subject, has_room, object_begun, too_many}
use Rattle.nddl_objects.specs.Made.{arguments_read, asked_object, made_by, new_datum, object_made}
use Rattle.nddl_objects.specs.Objects.{Progress, all_declared, bare_scene, first_progress, init_declared, last_progress, most_levels, object_declared, one_declared, progress_fault, progress_grounds, settings_declared, with_named}
use Rattle.nddl_objects.specs.Settings.{setting_faults_of}
use Rattle.nddl_laws.specs.Fine.{IsFineDecl, IsFineStart}
use Rattle.nddl_laws.proofs.Declared.{IsRightDecl}
use Rattle.nddl_laws.proofs.Known.{meant}
use Rattle.nddl_laws.proofs.Nothing.{decls_fine, none_first, none_second}
use Rattle.nddl_laws.proofs.Parents.{decl_fine}
use Rattle.nddl_laws.proofs.Values.{no_fault, not_so}
use Rattle.nddl_laws.proofs.WholeTypes.{type_means}
use Rattle.nddl_types.proofs.Answering.{none_found}
use Rattle.nddl_model_laws.proofs.Following.{Follows, classes_follow, follows_not, made_follows, new_follows}
use Rattle.nddl_model_laws.proofs.Grounds.{none_before}
use Rattle.nddl_model_laws.proofs.Making.{HasOwnName, IsNamedObject, called, own_names, taken}
use Rattle.nddl_model_laws.proofs.Sounding.{IsSound, IsSubject, last_stands, made_keeps, new_keeps, new_number, object_kind}
use Rattle.nddl_model_laws.proofs.Texted.{texts_fine, variable_at, writing_fine}
use Rattle.nddl_model_laws.proofs.Typing.{AreDeclared, AreFormals, Extends, IsDatum, datum_stays}

-- what stands at a place of a list with one item written is that item at its place, or stood there
set_where : {X : Type 0} (xs : List X) (i k : ℕ) (x y : X) → slice_get (slice_set xs i x) k ≡ Some y → ((k ≡ i) × (y ≡ x)) ⊎ (slice_get xs k ≡ Some y)
set_where [] i k x y at = inr at
set_where (z ∷ xs) zero zero x y at = inl (refl, sym (same_Some x y at))
set_where (z ∷ xs) zero (suc k) x y at = inr at
set_where (z ∷ xs) (suc i) zero x y at = inr at
set_where (z ∷ xs) (suc i) (suc k) x y at = elim (set_where xs i k x y at) [
  | inl here ↦ inl (ap suc here.0, here.1)
  | inr before ↦ inr before
]

-- the object that is made under a name, if there is one
abbrev made_of : NamedObject → Option Datum
made_of stands.Unmade = None
made_of (stands.Made datum) = datum

-- ---- nothing was met

earlier_some : (first : Option Fault) (fault : Fault) → earlier_fault first fault ≡ None → ⊥
earlier_some None fault none = none-some fault (sym none)
earlier_some (Some found) fault none = by (is_fault_before fault found) none
  where
    by : (b : Bool) → (if b then Some fault else Some found) ≡ None → ⊥
    by true told = none-some fault (sym told)
    by false told = none-some found (sym told)

pub both_none : (progress : Progress) → progress_fault progress ≡ None → (progress.so_far.first ≡ None) × (progress.first ≡ None)
both_none progress none = by progress.so_far.first refl none
  where
    by : (o : Option Fault) → progress.so_far.first ≡ o → option_map_or (λ (fault : Fault). earlier_fault progress.first fault) o progress.first ≡ None
        → (progress.so_far.first ≡ None) × (progress.first ≡ None)
    by None at told = (at, told)
    by (Some fault) at told = absurd (earlier_some progress.first fault told)

module _ (facts : Facts) where
  -- what was wrong before any was made stays known
  one_first : (number : ℕ) (decl : Decl) (progress : Progress) → (one_declared facts number decl progress).first ≡ None → progress.first ≡ None
  one_first number (decls.Variable variable) progress = by variable.init
    where
      new : (creation : Creation) (b : Bool)
          → (if b then settings_declared facts number creation progress else object_declared facts number variable creation progress).first ≡ None → progress.first ≡ None
      new creation true none =
          (none_before progress.first (setting_faults_of (progress_grounds facts progress) (bare_scene number) progress.so_far.objects creation) none).0
      new creation false none = none

      by : (o : Option Init) → (init_declared facts number variable o progress).first ≡ None → progress.first ≡ None
      by None none = none
      by (Some (inits.Expr expr)) none = none
      by (Some (inits.New creation)) none = new creation (is_config_sort (sort_of_variable variable)) none
  one_first number decl progress = λ none. none

  all_first : (number : ℕ) (some : List Decl) (progress : Progress) → (all_declared facts number some progress).first ≡ None → progress.first ≡ None
  all_first number [] progress none = none
  all_first number (decl ∷ more) progress none =
      one_first number decl progress (all_first (number + 1) more (one_declared facts number decl progress) none)

  -- and so does what making them met
  one_follows : (number : ℕ) (decl : Decl) (progress : Progress) → Follows progress.so_far (one_declared facts number decl progress).so_far
  one_follows number (decls.Variable variable) progress = by variable.init
    where
      new : (creation : Creation) (b : Bool)
          → Follows progress.so_far (if b then settings_declared facts number creation progress else object_declared facts number variable creation progress).so_far
      new creation true = follows_not progress.so_far
      new creation false =
          new_follows (progress_grounds facts progress) (made_by most_levels (progress_grounds facts progress)) (made_follows (progress_grounds facts progress) most_levels)
          (bare_scene number) variable.name.text (named_number false facts.names variable.name.text) creation progress.so_far

      by : (o : Option Init) → Follows progress.so_far (init_declared facts number variable o progress).so_far
      by None = follows_not progress.so_far
      by (Some (inits.Expr expr)) = follows_not progress.so_far
      by (Some (inits.New creation)) = new creation (is_config_sort (sort_of_variable variable))
  one_follows number decl progress = follows_not progress.so_far

  pub all_follow : (number : ℕ) (some : List Decl) (progress : Progress) → (all_declared facts number some progress).so_far.first ≡ None → progress.so_far.first ≡ None
  all_follow number [] progress none = none
  all_follow number (decl ∷ more) progress none =
      (one_follows number decl progress).first (all_follow (number + 1) more (one_declared facts number decl progress) none)

  pub written_fine : (last_progress facts).first ≡ None → written_faults facts ≡ []
  unfolding last_progress
  written_fine none = none_found (written_faults facts) (sym (all_first 0 facts.program (first_progress facts) none))

-- ---- an object that is made

module _ (grounds : Grounds) where
  -- the object that is asked for is the next one, and of its class
  made_there : (levels : ℕ) (asked : Asked) (so_far : Construction) → 0 < levels → has_room so_far ≡ true
      → IsSubject (made_by levels grounds asked so_far).objects (length so_far.objects) asked.class
  unfolding made_by
  made_there zero asked so_far some room = absurd (omega arith)
  made_there (suc levels) asked so_far some room = by (has_room so_far) room
    where
      by : (b : Bool) → b ≡ true
          → IsSubject (if b then object_made (made_by levels grounds) levels grounds asked so_far else too_many so_far asked.place).objects (length so_far.objects) asked.class
      by false also = absurd (let e : false ≡ true = also in cc)
      by true also =
          let new : MadeObject = record { name = asked.name; entry = asked.entry; class = asked.class; fields = [] } in
          let begun = object_begun so_far asked in
          let subject : Subject = record { name = asked.name; place = asked.place; number = length so_far.objects } in
          let some = passed_down grounds begun.objects asked.class asked.values in
          let follows = classes_follow grounds (made_by levels grounds) (made_follows grounds levels) levels subject some begun in
          follows.more (length so_far.objects) new (last_stands so_far.objects new)

  new_is : (levels : ℕ) (creation : Creation) (so_far : Construction) (class : Meaning) (found : Datum) → made_class grounds.facts creation ≡ Some class
      → new_datum levels grounds.facts creation so_far ≡ Some found → (nat_lt 0 levels ≡ true) × (has_room so_far ≡ true)
  new_is levels creation so_far class found at told =
      by (nat_lt 0 levels) refl (has_room so_far) refl
      (sym (ap (λ (o : Option Meaning). option_map_or (λ (c : Meaning).
      if nat_lt 0 levels && has_room so_far then Some (datums.Object (length so_far.objects)) else None) o None) at) ∙ told)
    where
      by : (enough : Bool) → nat_lt 0 levels ≡ enough → (room : Bool) → has_room so_far ≡ room
          → (if enough && room then Some (datums.Object (length so_far.objects)) else None) ≡ Some found → (nat_lt 0 levels ≡ true) × (has_room so_far ≡ true)
      by true enough true room given = (enough, room)
      by true enough false room given = absurd (none-some found given)
      by false enough room_is room given = absurd (none-some found given)

-- ---- the program

module _ (facts : Facts) (are : AreFacts (scope_names facts.program) facts.program facts) (fine : all_faults facts ≡ [])
    (right : All (IsRightDecl facts) facts.program) (fine_decls : All IsFineDecl facts.program) (written : written_faults facts ≡ []) where
  abbrev IsSoundSoFar : Progress → Type 0
  IsSoundSoFar progress = IsSound facts are fine right fine_decls progress.named_objects progress.so_far.objects

  texts : (entry : ℕ) (constructor : Member) → (text : List ℕ) × (meaning_of facts.names text ≡ Some (meanings.Entry entry))
      → constructor_at facts.names facts.program entry ≡ Some constructor
      → (decl : ℕ) × (body_faults facts decl entry constructor ≡ [])
  texts = texts_fine facts are.is_names fine (first_close facts.program) written

  nothing_around : (objects : List MadeObject) → AreFormals facts objects [] []
  nothing_around objects = record { once = tt; each = λ number seen datum at value. absurd (none-some seen at) }

  -- what is right of an object that is declared
  record IsRightObject (variable : Variable) (creation : Creation) : Type 0 where
    class : Meaning
    kind : base_kind facts.names facts.known variable.declared.base ≡ Some (kinds.Object class)
    own : (made : Meaning) → made_class facts creation ≡ Some made → is_of_class facts class made ≡ true

  not_foreign : (b : Bool) → not b ≡ false → b ≡ true
  not_foreign true is = refl
  not_foreign false is = absurd (let e : true ≡ false = is in cc)

  declared_right : (number : ℕ) (variable : Variable) (creation : Creation) → slice_get facts.program number ≡ Some (decls.Variable variable)
      → variable.init ≡ Some (inits.New creation) → is_config_sort (sort_of_variable variable) ≡ false → IsRightObject variable creation
  declared_right number variable creation there init plain =
      let kind = base_kind facts.names facts.known variable.declared.base in
      let types : all_type_faults facts (0 + number) variable.declared ≡ [] =
      sym (ap (λ (b : Bool). if b then [] else all_type_faults facts (0 + number) variable.declared) plain)
      ∙ decl_fine facts 0 facts.program number (decls.Variable variable) (decls_fine facts fine) there in
      let told = meaning_kind (0 + number) variable types in
      let written_here = writing_fine facts (first_close facts.program) number (decls.Variable variable) written there in
      let new : new_faults facts (first_close facts.program) number variable creation ≡ [] =
      sym (ap (λ (o : Option Init). variable_faults_by facts (first_close facts.program) number variable o) init) ∙ written_here in
      let closed = faults_here number creation.at (fault_if (is_closed (first_close facts.program) number) faults.Closed) in
      let made : object_faults facts number kind creation ≡ [] =
      sym (ap (λ (b : Bool). if b then settings_faults facts number creation else object_faults facts number kind creation) plain)
      ∙ none_second closed (creation_of_faults facts number variable creation) new in
      let set = set_to_faults facts (around_formals []) number kind (inits.New creation) in
      let foreign = faults_here number creation.class.at (foreign_fault facts kind creation) in
      let wrong = faults_here number creation.at (fault_if (is_no_object kind) faults.WrongType) in
      let object : is_no_object kind ≡ false =
      not_so (is_no_object kind) faults.WrongType (no_fault number creation.at (fault_if (is_no_object kind) faults.WrongType)
      (none_first wrong (creation_faults facts (around_formals []) number creation) (none_first set foreign made))) in
      let of = object_kind facts are fine right fine_decls [] told.0 (sym (ap is_no_object told.1) ∙ object) in
      let kind_is : kind ≡ Some (kinds.Object of.0) = told.1 ∙ ap (λ (k : TypeKind). Some k) of.1 in
      let own = no_fault number creation.class.at (foreign_fault facts kind creation) (none_second set foreign made) in
      record {
        class = of.0;
        kind = kind_is;
        own = λ it at.
            let alone = taken facts creation it at in
            let meaning = class_alone facts.names (meaning_of facts.names creation.class.text) in
            let same : is_foreign_class facts kind meaning ≡ not (is_of_class facts of.0 it) = (λ i. is_foreign_class facts (kind_is i) (alone i)) in
            not_foreign (is_of_class facts of.0 it) (sym same ∙ not_so (is_foreign_class facts kind meaning) faults.NotInDomain own);
      }
    where
      meaning_kind : (place : ℕ) (variable : Variable) → all_type_faults facts place variable.declared ≡ []
          → (kind : TypeKind) × (base_kind facts.names facts.known variable.declared.base ≡ Some kind)
      meaning_kind place variable none =
          let means = type_means facts are fine right place variable.declared none in
          let told = meant facts variable.declared means.0 means.1 in
          (told.kind, told.is_kind)

  -- what a declared name stands for is of its class
  declared_datum : (number entry : ℕ) (variable : Variable) (creation : Creation) (progress : Progress) (declared : Declared) (datum : Datum)
      → slice_get facts.program number ≡ Some (decls.Variable variable) → IsRightObject variable creation
      → named_number false facts.names variable.name.text ≡ Some entry → slice_get facts.names entry ≡ Some declared
      → new_datum most_levels facts creation progress.so_far ≡ Some datum → IsName variable.name.text
      → (kind : TypeKind) × (object_alone (declared_value facts true declared) ≡ denoted.Value kind true)
      × IsDatum facts (object_declared facts number variable creation progress).so_far.objects kind datum
  declared_datum number entry variable creation progress declared datum there is named at told name =
      let place = variable_at facts are.is_names fine (first_close facts.program) written number entry variable declared there named at in
      let decl : slice_get facts.program declared.place.decl ≡ Some (decls.Variable variable) = ap (slice_get facts.program) place ∙ there in
      let value : declared_value facts true declared ≡ denoted.Value (kinds.Object is.class) true =
      ap (λ (o : Option Decl). option_map_or (type_value facts.names facts.known true) (option_and_then variable_type o) denoted.Faulty) decl
      ∙ ap (λ (o : Option TypeKind). option_map_or (λ (kind : TypeKind). denoted.Value kind true) o denoted.Faulty) is.kind in (
        kinds.Object is.class,
        ap object_alone value,
        by (made_class facts creation) refl,
      )
    where
      by : (o : Option Meaning) → made_class facts creation ≡ o
          → IsDatum facts (object_declared facts number variable creation progress).so_far.objects (kinds.Object is.class) datum
      by None at_class =
          absurd (none-some datum (sym (ap (λ (o : Option Meaning). option_map_or (λ (c : Meaning).
          if nat_lt 0 most_levels && has_room progress.so_far then Some (datums.Object (length progress.so_far.objects)) else None) o None) at_class) ∙ told))
      by (Some class) at_class =
          let grounds = progress_grounds facts progress in
          let own = named_number false facts.names variable.name.text in
          let read = arguments_read grounds (bare_scene number) creation progress.so_far in
          let asked = asked_object grounds (bare_scene number) read.objects variable.name.text own creation class in
          let so = new_is grounds most_levels creation progress.so_far class datum at_class told in
          let made = made_there grounds most_levels asked read (omega arith) so.1 in
          let result : (object_declared facts number variable creation progress).so_far ≡ made_by most_levels grounds asked read =
          ap (λ (o : Option Meaning). option_map_or (λ (c : Meaning). made_by most_levels grounds (asked_object grounds (bare_scene number) read.objects variable.name.text own creation c) read) o read) at_class in
          let same = new_number facts are fine right fine_decls progress.named_objects most_levels creation progress.so_far datum told in
          let objects = (object_declared facts number variable creation progress).so_far.objects in
          let stands_so : slice_get objects (length progress.so_far.objects) ≡ Some made.0 =
          ap (λ (c : Construction). slice_get c.objects (length progress.so_far.objects)) result ∙ made.1 in
          subst (IsDatum facts objects (kinds.Object is.class)) (sym same)
          (record { object = made.0; there = stands_so; of_class = ap (is_of_class facts is.class) made.2 ∙ is.own class at_class })

  -- so names stand for objects of their classes when one more is made
  named_after : (number : ℕ) (variable : Variable) (creation : Creation) (progress : Progress) → slice_get facts.program number ≡ Some (decls.Variable variable)
      → IsName variable.name.text → IsRightObject variable creation
      → Extends progress.so_far.objects (object_declared facts number variable creation progress).so_far.objects
      → AreDeclared facts progress.so_far.objects progress.named_objects → (own : Option ℕ) → named_number false facts.names variable.name.text ≡ own
      → AreDeclared facts (object_declared facts number variable creation progress).so_far.objects
      (with_named progress.named_objects own (new_datum most_levels facts creation progress.so_far))
  named_after number variable creation progress there name is more before None own entry declared datum at sort made =
      let it = before entry declared datum at sort made in
      (it.0, it.1, datum_stays facts progress.so_far.objects (object_declared facts number variable creation progress).so_far.objects more it.0 datum it.2)
  named_after number variable creation progress there name is more before (Some first) own entry declared datum at sort made =
      elim (set_where progress.named_objects first entry (stands.Made (new_datum most_levels facts creation progress.so_far)) (stands.Made (Some datum)) made) [
        | inl here ↦
            (let told : new_datum most_levels facts creation progress.so_far ≡ Some datum = sym (ap made_of here.1) in
            declared_datum number entry variable creation progress declared datum there is (own ∙ ap (λ (n : ℕ). Some n) (sym here.0)) at told name)
        | inr old ↦
            (let it = before entry declared datum at sort old in
            (it.0, it.1, datum_stays facts progress.so_far.objects (object_declared facts number variable creation progress).so_far.objects more it.0 datum it.2))
      ]

  object_sound : (number : ℕ) (variable : Variable) (creation : Creation) (progress : Progress) → slice_get facts.program number ≡ Some (decls.Variable variable)
      → IsFineDecl (decls.Variable variable) → variable.init ≡ Some (inits.New creation) → is_config_sort (sort_of_variable variable) ≡ false
      → (object_declared facts number variable creation progress).so_far.first ≡ None → IsSoundSoFar progress
      → IsSoundSoFar (object_declared facts number variable creation progress)
  object_sound number variable creation progress there fine_decl init plain none sound =
      let grounds = progress_grounds facts progress in
      let name = variable.name.text in
      let own = named_number false facts.names name in
      let arguments = subst IsFineStart init fine_decl.1.1 in
      let given = item_all (HasOwnName facts) facts.program number (decls.Variable variable) (own_names facts are.is_names) there in
      let keeps = new_keeps facts are fine right fine_decls progress.named_objects texts most_levels
      (made_keeps facts are fine right fine_decls progress.named_objects texts most_levels) (bare_scene number) name own creation progress.so_far
      (called facts variable creation fine_decl.1.0 given init) arguments.1 (nothing_around progress.so_far.objects) none sound in
      let follows = new_follows grounds (made_by most_levels grounds) (made_follows grounds most_levels) (bare_scene number) name own creation progress.so_far in
      record {
        named = keeps.named;
        typed = keeps.typed;
        declared = named_after number variable creation progress there fine_decl.1.0 (declared_right number variable creation there init plain) follows.more
            sound.declared own refl;
      }

  pub one_sound : (number : ℕ) (decl : Decl) (progress : Progress) → slice_get facts.program number ≡ Some decl → IsFineDecl decl
      → (one_declared facts number decl progress).so_far.first ≡ None → IsSoundSoFar progress → IsSoundSoFar (one_declared facts number decl progress)
  one_sound number (decls.Variable variable) progress there fine_decl none sound = by variable.init refl none sound
    where
      new : (creation : Creation) → variable.init ≡ Some (inits.New creation) → (b : Bool) → is_config_sort (sort_of_variable variable) ≡ b
          → (if b then settings_declared facts number creation progress else object_declared facts number variable creation progress).so_far.first ≡ None
          → IsSoundSoFar progress
          → IsSoundSoFar (if b then settings_declared facts number creation progress else object_declared facts number variable creation progress)
      new creation init true plain none sound = record { named = sound.named; typed = sound.typed; declared = sound.declared }
      new creation init false plain none sound = object_sound number variable creation progress there fine_decl init plain none sound

      by : (o : Option Init) → variable.init ≡ o → (init_declared facts number variable o progress).so_far.first ≡ None → IsSoundSoFar progress
          → IsSoundSoFar (init_declared facts number variable o progress)
      by None init none sound = sound
      by (Some (inits.Expr expr)) init none sound = sound
      by (Some (inits.New creation)) init none sound = new creation init (is_config_sort (sort_of_variable variable)) refl none sound
  one_sound number (decls.Include at file file_at) progress there fine_decl none sound = sound
  one_sound number (decls.Enum at name members_at members) progress there fine_decl none sound = sound
  one_sound number (decls.Typedef at declared name) progress there fine_decl none sound = sound
  one_sound number (decls.Forward at name) progress there fine_decl none sound = sound
  one_sound number (decls.Class at name parent members) progress there fine_decl none sound = sound
  one_sound number (decls.Rule class predicate body) progress there fine_decl none sound = sound
  one_sound number (decls.Call call) progress there fine_decl none sound = sound
  one_sound number (decls.Ask ask) progress there fine_decl none sound = sound

  all_sound : (number : ℕ) (some : List Decl) (progress : Progress)
      → ((place : ℕ) (decl : Decl) → slice_get some place ≡ Some decl → slice_get facts.program (number + place) ≡ Some decl)
      → (all_declared facts number some progress).so_far.first ≡ None → IsSoundSoFar progress → IsSoundSoFar (all_declared facts number some progress)
  all_sound number [] progress stand none sound = sound
  all_sound number (decl ∷ more) progress stand none sound =
      let next = one_declared facts number decl progress in
      let e : number + 0 ≡ number = omega arith in
      let there : slice_get facts.program number ≡ Some decl = sym (ap (slice_get facts.program) e) ∙ stand 0 decl refl in
      all_sound (number + 1) more next
      (λ place other at.
      let sum : number + suc place ≡ number + 1 + place = omega arith in
      sym (ap (slice_get facts.program) sum) ∙ stand (suc place) other at) none
      (one_sound number decl progress there (item_all IsFineDecl facts.program number decl fine_decls there) (all_follow facts (number + 1) more next none) sound)

  nothing_named : (entry : ℕ) (datum : Datum) → slice_get (map (λ (name : Declared). stands.Unmade) facts.names) entry ≡ Some (stands.Made (Some datum)) → ⊥
  nothing_named entry datum at = by (slice_get facts.names entry) (sym (slice_get-map (λ (name : Declared). stands.Unmade) facts.names entry) ∙ at)
    where
      by : (o : Option Declared) → option_map (λ (name : Declared). stands.Unmade) o ≡ Some (stands.Made (Some datum)) → ⊥
      by None is = none-some (stands.Made (Some datum)) is
      by (Some declared) is =
          let same : stands.Unmade ≡ stands.Made (Some datum) = same_Some stands.Unmade (stands.Made (Some datum)) is in cc

  -- so each field of each object is
  pub last_sound : (last_progress facts).so_far.first ≡ None
      → IsSound facts are fine right fine_decls (last_progress facts).named_objects (last_progress facts).so_far.objects
  unfolding last_progress
  last_sound none =
      all_sound 0 facts.program (first_progress facts)
      (λ place decl at. let e : place ≡ 0 + place = omega arith in sym (ap (slice_get facts.program) e) ∙ at) none
      (record {
        named = All-nil (IsNamedObject facts);
        typed = λ number object at. absurd (none-some object at);
        declared = λ entry declared datum at sort made. absurd (nothing_named entry datum made);
      })
