-- No name of a compiled model is the language's own.
use Rattle.std.proofs.Common.{◌≡◌, ℕ, ◌+◌, inl, inr, true, false, List, [], ◌∷◌, ◌++◌, length, map, refl, sym, ◌∙◌, subst}
use Rattle.std.proofs.lemmas.List.{map-append}
use Rattle.std.specs.Prelude.{All, Contains}
use Rattle.std.specs.List.{flat_map}
use Rattle.std.proofs.lemmas.List.Elements.{All-append, All-contains, All-from_recursion, All-map, All-nil, All-cons, All-weaker}
use Rattle.model_core.specs.declared.class.Enum.{Enum}
use Rattle.model_core.specs.declared.class.Object.{Object}
use Rattle.model_core.specs.declared.model.Root.{Root}
use Rattle.model_core.specs.declared.variable.VarDecl.{VarDecl}
use Rattle.model_core.specs.Naming.{builtin_names, declared_names}
use Rattle.nddl_construction.specs.declared.made.MadeObject.{MadeObject}
use Rattle.nddl_objects.specs.Modelled.{modelled_object}
use Rattle.nddl_instance.specs.Asserted.{assertions_of}
use Rattle.nddl_instance.specs.Globals.{declared_globals}
use Rattle.nddl_instance.specs.Posed.{outside_rules, text_beside}
use Rattle.nddl_instance.specs.Renumbered.{field_global, field_globals}
use Rattle.nddl_instance.specs.Roots.{posted_roots}
use Rattle.nddl_problem.specs.Compiled.{compiled_model, posing_known}
use Rattle.nddl_problem.specs.Known.{Known, progress_known, world_known}
use Rattle.nddl_model_laws.specs.Faultless.{IsFaultless}
use Rattle.nddl_model_laws.proofs.Emptied.{emptied_lawful}
use Rattle.nddl_model_laws.proofs.Grounds.{known_are, known_decls, known_fine, table_enums}
use Rattle.nddl_model_laws.proofs.Making.{made_right}
use Rattle.nddl_model_laws.proofs.Origins.{IsOfObject, globals_within, labels_within, not_own, objects_called, of_code, texts_of, within_scope}
use Rattle.nddl_model_laws.proofs.Spelled.{has_point, is_marked}

abbrev pub IsForeign : List ℕ → Type 0
IsForeign name = Contains builtin_names name → ⊥

abbrev IsPlainWord : List ℕ → Type 0
IsPlainWord word = (has_point word ≡ false) × (is_marked word ≡ false)

words_plain : All IsPlainWord builtin_names
words_plain =
    All-from_recursion IsPlainWord builtin_names ((refl, refl), ((refl, refl), ((refl, refl), ((refl, refl), ((refl, refl), tt)))))

pointed_foreign : (name : List ℕ) → has_point name ≡ true → IsForeign name
pointed_foreign name pointed word =
    let plain = All-contains IsPlainWord builtin_names name words_plain word in
    let never : true ≡ false = sym pointed ∙ plain.0 in
    cc

marked_foreign : (name : List ℕ) → is_marked name ≡ true → IsForeign name
marked_foreign name marked word =
    let plain = All-contains IsPlainWord builtin_names name words_plain word in
    let never : true ≡ false = sym marked ∙ plain.1 in
    cc

-- those of globals for fields have a mark
pub fields_marked : (number : ℕ) (locals : List VarDecl)
    → All (λ (name : List ℕ). is_marked name ≡ true) (map (λ (variable : VarDecl). variable.name) (field_globals number locals))
fields_marked number [] = All-nil (λ (name : List ℕ). is_marked name ≡ true)
fields_marked number (local ∷ more) =
    All-cons (λ (name : List ℕ). is_marked name ≡ true) (field_global number local).name
    (map (λ (variable : VarDecl). variable.name) (field_globals (number + 1) more)) refl (fields_marked (number + 1) more)

module _ (known : Known) (is : IsFaultless known) where
  abbrev pub globals : List VarDecl
  globals = declared_globals (world_known known) known.facts.program

  abbrev pub locals : List VarDecl
  locals = (assertions_of (text_beside (posing_known known) (length globals)) known.facts.program).growth.locals

  scope_foreign : (code : ℕ) (some : List (List ℕ)) → All (Contains (texts_of known.facts code)) some → All IsForeign some
  scope_foreign code some all =
      All-weaker (Contains (texts_of known.facts code)) IsForeign
      (λ name there. not_own known.facts (known_are known is).is_names (known_decls known is) (known_fine known is) (of_code code) name there) some all

  globals_foreign : All IsForeign (map (λ (variable : VarDecl). variable.name) (globals ++ field_globals (length globals) locals))
  globals_foreign =
      let own = map (λ (variable : VarDecl). variable.name) globals in
      let others = map (λ (variable : VarDecl). variable.name) (field_globals (length globals) locals) in
      subst (All IsForeign) (sym (map-append (λ (variable : VarDecl). variable.name) globals (field_globals (length globals) locals)))
      (All-append IsForeign own others
      (scope_foreign 0 own
      (within_scope known.facts (known_are known is).is_names (known_decls known is) (known_fine known is) 0 own
      (globals_within known.facts (known_are known is).is_names (known_decls known is) (known_fine known is) (world_known known))))
      (All-weaker (λ (name : List ℕ). is_marked name ≡ true) IsForeign marked_foreign others (fields_marked (length globals) locals)))

  labels_foreign : All IsForeign (map (λ (root : Root). root.label) (posted_roots (outside_rules (posing_known known)) known.facts.program))
  labels_foreign =
      let own = map (λ (root : Root). root.label) (posted_roots (outside_rules (posing_known known)) known.facts.program) in
      scope_foreign 1 own
      (within_scope known.facts (known_are known is).is_names (known_decls known is) (known_fine known is) 1 own
      (labels_within known.facts (known_are known is).is_names (known_decls known is) (known_fine known is) (outside_rules (posing_known known))))

  object_foreign : (name : List ℕ) → IsOfObject known.facts name → IsForeign name
  object_foreign name called = elim called.own [
    | inl there ↦ not_own known.facts (known_are known is).is_names (known_decls known is) (known_fine known is) (of_code 2) name there
    | inr pointed ↦ pointed_foreign name pointed
  ]

  abbrev made : List MadeObject
  made = (progress_known known).so_far.objects

  pub all_called : All (λ (object : MadeObject). IsOfObject known.facts object.name) made
  all_called =
      objects_called known.facts (known_are known is).is_names (known_decls known is) (known_fine known is) made
      (made_right known.facts (known_decls known is) (known_are known is).is_names).named

  -- what is so of each such name is so of those of the objects
  pub object_names : (P : List ℕ → Type 0) → ((name : List ℕ) → IsOfObject known.facts name → P name)
      → All P (map (λ (object : Object). object.name) (compiled_model known).objects)
  object_names P each =
      All-map P (λ (object : Object). object.name) (map (modelled_object known.facts known.table.classes) made)
      (All-map (λ (object : Object). P object.name) (modelled_object known.facts known.table.classes) made
      (All-weaker (λ (object : MadeObject). IsOfObject known.facts object.name) (λ (object : MadeObject). P (modelled_object known.facts known.table.classes object).name)
      (λ object called. each object.name called) made all_called))

  enums_foreign : All IsForeign (map (λ (one : Enum). one.name) (compiled_model known).enums ++ flat_map (λ (one : Enum). one.members) (compiled_model known).enums)
  enums_foreign =
      let P : List Enum → Type 0 = λ enums. All IsForeign (map (λ (one : Enum). one.name) enums ++ flat_map (λ (one : Enum). one.members) enums) in
      subst P (table_enums known is) (emptied_lawful known is).not_builtin

  pub all_foreign : All IsForeign (declared_names (compiled_model known))
  all_foreign =
      let globals_names = map (λ (variable : VarDecl). variable.name) (globals ++ field_globals (length globals) locals) in
      let labels = map (λ (root : Root). root.label) (posted_roots (outside_rules (posing_known known)) known.facts.program) in
      let objects = map (λ (object : Object). object.name) (compiled_model known).objects in
      let enums = map (λ (one : Enum). one.name) (compiled_model known).enums ++ flat_map (λ (one : Enum). one.members) (compiled_model known).enums in
      All-append IsForeign globals_names (labels ++ (objects ++ enums)) globals_foreign
      (All-append IsForeign labels (objects ++ enums) labels_foreign
      (All-append IsForeign objects enums (object_names IsForeign object_foreign) enums_foreign))
