-- What is so of the objects of a compiled model.
use Rattle.std.proofs.Common.{◌≡◌, ℕ, suc, List, [], ◌∷◌, ◌++◌, refl, sym, ◌∙◌, ap, subst}
use Rattle.std.specs.Prelude.{Some, None, All, slice_get}
use Rattle.std.proofs.lemmas.List.Elements.{All-cons, All-map, All-nil}
use Rattle.model_core.specs.declared.class.Object.{Object}
use Rattle.model_core.specs.Lawful.{IsHorizon, IsLawfulKind}
use Rattle.model_core.proofs.Items.{item_all}
use Rattle.nddl_symbols.specs.declared.scope.Meaning.TheVariants as meanings
use Rattle.nddl_symbols.specs.Joined.{joined_decls}
use Rattle.nddl_symbols.specs.Names.{scope_names}
use Rattle.nddl_hierarchy.specs.Facts.{Facts}
use Rattle.nddl_construction.specs.declared.made.MadeObject.{MadeObject}
use Rattle.nddl_objects.specs.Modelled.{modelled_object}
use Rattle.nddl_objects.specs.Objects.{Progress, last_progress, progress_fault}
use Rattle.nddl_object_laws.specs.Made.{made_objects}
use Rattle.nddl_object_laws.proofs.Program.{run_as_stated}
use Rattle.nddl_problem_check.specs.Limits.{problem_limit_faults}
use Rattle.nddl_problem_check.specs.Texts.{problem_text_faults}
use Rattle.nddl_unroll.specs.Weighing.{tree_limits}
use Rattle.nddl_problem.specs.Compiled.{compiled_model}
use Rattle.nddl_problem.specs.Known.{Known, lexicon_known, progress_known, scope_known}
use Rattle.nddl_laws.proofs.Knowledge.{one_facts}
use Rattle.nddl_laws.proofs.Nothing.{none_first}
use Rattle.nddl_model_laws.specs.Faultless.{IsFaultless}
use Rattle.nddl_model_laws.proofs.Grounds.{known_are, known_decls, known_fine, known_right, objects_fine, problem_fine}
use Rattle.nddl_model_laws.proofs.Lined.{Lined}
use Rattle.nddl_model_laws.proofs.Making.{IsNamedObject}
use Rattle.nddl_model_laws.proofs.Programmed.{both_none, last_sound, written_fine}
use Rattle.nddl_model_laws.proofs.Sounding.{IsSound, meant_line}
use Rattle.nddl_whole_laws.specs.Whole.{HasAll, HorizonsAreRight, ObjectsAreSet, ResourcesKeepBounds}
use Rattle.nddl_whole_laws.proofs.Horizon.{AreRight, last_settings, settings_right}
use Rattle.nddl_whole_laws.proofs.Leading.{AreFull}
use Rattle.nddl_whole_laws.proofs.Levels.{kind_right}
use Rattle.nddl_whole_laws.proofs.Turns.{all_full}

pub all_numbered : {X : Type 0} (P : X → Type 0) (some : List X) → ((number : ℕ) (x : X) → slice_get some number ≡ Some x → P x) → All P some
all_numbered P [] each = All-nil P
all_numbered P (x ∷ more) each = All-cons P x more (each 0 x refl) (all_numbered P more (λ number y at. each (suc number) y at))

module _ (known : Known) (is : IsFaultless known) where
  abbrev made : List MadeObject
  made = (progress_known known).so_far.objects

  -- the facts of the table are those that are known
  same : is.is_table.facts ≡ known.facts
  same = one_facts (scope_names (joined_decls known.files)) (joined_decls known.files) is.is_table.facts known.facts is.is_table.are is.are

  pub table_fine : progress_fault (last_progress is.is_table.facts) ≡ None
  table_fine = ap (λ (facts : Facts). progress_fault (last_progress facts)) same ∙ objects_fine known is

  pub text_fine : problem_text_faults is.is_table.facts ≡ []
  text_fine =
      ap problem_text_faults same
      ∙ none_first (problem_text_faults known.facts)
      (problem_limit_faults known.facts (progress_known known) (lexicon_known known) (scope_known known) ++ tree_limits (lexicon_known known) known.trees)
      (problem_fine known is)

  pub full : AreFull known.facts made
  full =
      let F : Facts → Type 0 = λ facts. AreFull facts (last_progress facts).so_far.objects in
      let facts = is.is_table.facts in
      let own : AreFull facts (made_objects facts) = all_full known.files known.table is.given is.is_table table_fine text_fine in
      let told : made_objects facts ≡ (last_progress facts).so_far.objects = sym (ap (λ (p : Progress). p.so_far.objects) (run_as_stated facts)) in
      subst F same (subst (AreFull facts) told own)

  pub sound : IsSound known.facts (known_are known is) (known_fine known is) (known_right known is) (known_decls known is) (progress_known known).named_objects made
  sound =
      let none = both_none (progress_known known) (objects_fine known is) in
      last_sound known.facts (known_are known is) (known_fine known is) (known_right known is) (known_decls known is) (written_fine known.facts none.1) none.0

  pub line_of : (number : ℕ) (object : MadeObject) → slice_get made number ≡ Some object → (entry : ℕ) → object.class ≡ meanings.Entry entry
      → (levels : ℕ) × Lined known.facts levels entry
  line_of number object at =
      meant_line known.facts (known_are known is) (known_fine known is) (known_right known is) (known_decls known is) (progress_known known).named_objects
      object.class (item_all (IsNamedObject known.facts) made number object sound.named at).class

  set_all : All (HasAll known.facts) made
  set_all = all_numbered (HasAll known.facts) made (λ number object at. (full number object at).set)

  pub kinds_right : All (λ (object : Object). IsLawfulKind object.kind) (compiled_model known).objects
  kinds_right =
      let M : MadeObject → Object = modelled_object known.facts known.table.classes in
      All-map (λ (object : Object). IsLawfulKind object.kind) M made
      (all_numbered (λ (object : MadeObject). IsLawfulKind (M object).kind) made
      (λ number object at. kind_right known.facts made object (line_of number object at) (sound.typed number object at) (full number object at)))

  pub horizon_right : IsHorizon (compiled_model known).problem
  horizon_right =
      let R : Facts → Type 0 = λ facts. AreRight (last_progress facts).settings in
      let facts = is.is_table.facts in
      let own = last_settings known.files known.table is.given is.is_table table_fine text_fine in
      let told = sym (ap (λ (p : Progress). p.settings) (run_as_stated facts)) in
      let it = settings_right (progress_known known).settings (subst R same (subst AreRight told own)) in
      record { start = it.start; order = it.order; end = it.end; some_steps = it.some; few_steps = it.few }

pub objects_set : ObjectsAreSet
objects_set known is = set_all known is

pub bounds_kept : ResourcesKeepBounds
bounds_kept known is = kinds_right known is

pub horizons_right : HorizonsAreRight
horizons_right known is = horizon_right known is
