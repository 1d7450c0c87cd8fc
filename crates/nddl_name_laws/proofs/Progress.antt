-- Where making the objects of a program gets to: the object of each name is there.
use Rattle.std.proofs.Common.{◌≡◌, ℕ, zero, suc, ◌+◌, ◌<◌, Bool, true, false, List, [], ◌∷◌, length, refl, sym, ◌∙◌, ap, subst, arith}
use Rattle.std.specs.Prelude.{Option, Some, None, slice_get, slice_set, if◌then◌else◌}
use Rattle.std.specs.Option.{option_map_or}
use Rattle.std.proofs.lemmas.Option.{same_Some, none-some}
use Rattle.eu_forest.proofs.Lists.{get-set_other, get-set_same}
use Rattle.nddl_ast.specs.declared.declaration.Decl.{Decl}
use Rattle.nddl_ast.specs.declared.declaration.Decl.TheVariants as decls
use Rattle.nddl_ast.specs.declared.expression.Creation.{Creation}
use Rattle.nddl_ast.specs.declared.expression.Init.{Init}
use Rattle.nddl_ast.specs.declared.expression.Init.TheVariants as inits
use Rattle.nddl_ast.specs.declared.statement.Variable.{Variable}
use Rattle.nddl_symbols.specs.declared.scope.Meaning.{Meaning}
use Rattle.nddl_symbols.specs.Names.{is_config_sort, sort_of_variable}
use Rattle.nddl_symbols.specs.Scope.{named_number}
use Rattle.nddl_hierarchy.specs.Facts.{Facts}
use Rattle.nddl_construction.specs.declared.made.Datum.{Datum}
use Rattle.nddl_construction.specs.declared.made.Datum.TheVariants as datums
use Rattle.nddl_construction.specs.declared.made.NamedObject.{NamedObject}
use Rattle.nddl_construction.specs.declared.made.NamedObject.TheVariants as made_names
use Rattle.nddl_construction.specs.Classes.{made_class}
use Rattle.nddl_construction.specs.Reading.{all_unmade_faults}
use Rattle.nddl_objects.specs.Construction.{Construction}
use Rattle.nddl_objects.specs.Made.{arguments_read, asked_object, made_by, new_datum, next_datum}
use Rattle.nddl_objects.specs.Objects.{Progress, all_declared, bare_scene, init_declared, most_levels, object_declared, one_declared, progress_grounds, settings_declared, with_named}
use Rattle.nddl_objects.specs.Settings.{setting_faults_of}
use Rattle.nddl_name_laws.proofs.Making.{GoesOn, IsFullTold, KeepsClass, earliest_none, goes_new, goes_noted, goes_same, goes_then, made_on, made_there}

set_length : {X : Type 0} (some : List X) (place : ℕ) (x : X) → length (slice_set some place x) ≡ length some
set_length [] place x = refl
set_length (first ∷ some) zero x = refl
set_length (first ∷ some) (suc place) x = ap suc (set_length some place x)

module _ (facts : Facts) where
  -- ---- what stays

  pub record StepsOn (old new : Progress) : Type 0 where
    pub told : new.first ≡ None → old.first ≡ None
    pub made : GoesOn old.so_far new.so_far
    pub count : length new.named_objects ≡ length old.named_objects

  steps_same : (progress : Progress) → StepsOn progress progress
  steps_same progress = record { told = λ is. is; made = goes_same progress.so_far; count = refl }

  steps_then : (old mid new : Progress) → StepsOn old mid → StepsOn mid new → StepsOn old new
  steps_then old mid new first second = record {
    told = λ is. first.told (second.told is);
    made = goes_then old.so_far mid.so_far new.so_far first.made second.made;
    count = second.count ∙ first.count;
  }

  named_count : (some : List NamedObject) (entry : Option ℕ) (datum : Option Datum) → length (with_named some entry datum) ≡ length some
  named_count some None datum = refl
  named_count some (Some entry) datum = set_length some entry (made_names.Made datum)

  steps_settings : (decl : ℕ) (creation : Creation) (progress : Progress) → StepsOn progress (settings_declared facts decl creation progress)
  steps_settings decl creation progress = record {
    told = λ is. (earliest_none progress.first
        (setting_faults_of (progress_grounds facts progress) (bare_scene decl) progress.so_far.objects creation) is).0;
    made = goes_same progress.so_far;
    count = refl;
  }

  steps_object : (decl : ℕ) (variable : Variable) (creation : Creation) (progress : Progress)
      → StepsOn progress (object_declared facts decl variable creation progress)
  steps_object decl variable creation progress =
      let grounds = progress_grounds facts progress in
      let entry = named_number false facts.names variable.name.text in
      record {
        told = λ is. is;
        made = goes_new (made_by most_levels grounds) (λ asked so_far. made_on most_levels grounds asked so_far) grounds (bare_scene decl)
            variable.name.text entry creation progress.so_far;
        count = named_count progress.named_objects entry (new_datum most_levels facts creation progress.so_far);
      }

  steps_init : (decl : ℕ) (variable : Variable) (init : Option Init) (progress : Progress) → StepsOn progress (init_declared facts decl variable init progress)
  steps_init decl variable None progress = steps_same progress
  steps_init decl variable (Some (inits.Expr expr)) progress = steps_same progress
  steps_init decl variable (Some (inits.New creation)) progress = by (is_config_sort (sort_of_variable variable))
    where
      by : (b : Bool) → StepsOn progress (if b then settings_declared facts decl creation progress else object_declared facts decl variable creation progress)
      by true = steps_settings decl creation progress
      by false = steps_object decl variable creation progress

  steps_one : (decl : ℕ) (one : Decl) (progress : Progress) → StepsOn progress (one_declared facts decl one progress)
  steps_one decl (decls.Variable variable) progress = steps_init decl variable variable.init progress
  steps_one decl (decls.Enum at name members_at some) progress = steps_same progress
  steps_one decl (decls.Typedef at declared name) progress = steps_same progress
  steps_one decl (decls.Forward at name) progress = steps_same progress
  steps_one decl (decls.Class at name parent some) progress = steps_same progress
  steps_one decl (decls.Include at file file_at) progress = steps_same progress
  steps_one decl (decls.Rule class predicate body) progress = steps_same progress
  steps_one decl (decls.Call call) progress = steps_same progress
  steps_one decl (decls.Ask ask) progress = steps_same progress

  pub steps_all : (number : ℕ) (some : List Decl) (progress : Progress) → StepsOn progress (all_declared facts number some progress)
  steps_all number [] progress = steps_same progress
  steps_all number (decl ∷ more) progress =
      let next = one_declared facts number decl progress in
      steps_then progress next (all_declared facts (number + 1) more next) (steps_one number decl progress) (steps_all (number + 1) more next)

  -- ---- other names

  -- the declaration isn't of the name of this number
  abbrev pub NamesOther : ℕ → Decl → Type 0
  NamesOther entry decl = (variable : Variable) → decl ≡ decls.Variable variable → named_number false facts.names variable.name.text ≡ Some entry → ⊥

  other_named : (some : List NamedObject) (entry : ℕ) (o : Option ℕ) (datum : Option Datum) → (o ≡ Some entry → ⊥)
      → slice_get (with_named some o datum) entry ≡ slice_get some entry
  other_named some entry None datum differ = refl
  other_named some entry (Some other) datum differ =
      get-set_other some other entry (made_names.Made datum) (λ same. differ (ap (λ n. Some n) (sym same)))

  others_init : (entry decl : ℕ) (variable : Variable) (init : Option Init) (progress : Progress)
      → (named_number false facts.names variable.name.text ≡ Some entry → ⊥)
      → slice_get (init_declared facts decl variable init progress).named_objects entry ≡ slice_get progress.named_objects entry
  others_init entry decl variable None progress differ = refl
  others_init entry decl variable (Some (inits.Expr expr)) progress differ = refl
  others_init entry decl variable (Some (inits.New creation)) progress differ = by (is_config_sort (sort_of_variable variable))
    where
      by : (b : Bool)
          → slice_get (if b then settings_declared facts decl creation progress else object_declared facts decl variable creation progress).named_objects entry
          ≡ slice_get progress.named_objects entry
      by true = refl
      by false =
          other_named progress.named_objects entry (named_number false facts.names variable.name.text)
          (new_datum most_levels facts creation progress.so_far) differ

  others_one : (entry decl : ℕ) (one : Decl) (progress : Progress) → NamesOther entry one
      → slice_get (one_declared facts decl one progress).named_objects entry ≡ slice_get progress.named_objects entry
  others_one entry decl (decls.Variable variable) progress other =
      others_init entry decl variable variable.init progress (λ same. other variable refl same)
  others_one entry decl (decls.Enum at name members_at some) progress other = refl
  others_one entry decl (decls.Typedef at declared name) progress other = refl
  others_one entry decl (decls.Forward at name) progress other = refl
  others_one entry decl (decls.Class at name parent some) progress other = refl
  others_one entry decl (decls.Include at file file_at) progress other = refl
  others_one entry decl (decls.Rule class predicate body) progress other = refl
  others_one entry decl (decls.Call call) progress other = refl
  others_one entry decl (decls.Ask ask) progress other = refl

  others_all : (entry number : ℕ) (some : List Decl) (progress : Progress)
      → ((place : ℕ) (decl : Decl) → slice_get some place ≡ Some decl → NamesOther entry decl)
      → slice_get (all_declared facts number some progress).named_objects entry ≡ slice_get progress.named_objects entry
  others_all entry number [] progress each = refl
  others_all entry number (decl ∷ more) progress each =
      let next = one_declared facts number decl progress in
      others_all entry (number + 1) more next (λ place other at. each (suc place) other at) ∙ others_one entry number decl progress (each 0 decl refl)

  -- ---- the object of a name

  -- the name of this number stands for an object of this class
  pub record IsMade (progress : Progress) (entry : ℕ) (class : Meaning) : Type 0 where
    pub number : ℕ
    pub is_named : slice_get progress.named_objects entry ≡ Some (made_names.Made (Some (datums.Object number)))
    pub there : KeepsClass progress.so_far.objects number class

  made_here : (decl entry : ℕ) (class : Meaning) (variable : Variable) (creation : Creation) (progress : Progress)
      → named_number false facts.names variable.name.text ≡ Some entry → entry < length progress.named_objects → made_class facts creation ≡ Some class
      → IsFullTold progress.so_far → (object_declared facts decl variable creation progress).so_far.first ≡ None
      → IsMade (object_declared facts decl variable creation progress) entry class
  made_here decl entry class variable creation progress named within is full told =
      let grounds = progress_grounds facts progress in
      let scene = bare_scene decl in
      let own = named_number false facts.names variable.name.text in
      let read = arguments_read grounds scene creation progress.so_far in
      let N : Option Meaning → Construction = λ o.
      option_map_or (λ (one : Meaning). made_by most_levels grounds (asked_object grounds scene read.objects variable.name.text own creation one) read) o read in
      let so : N (made_class facts creation) ≡ N (Some class) = ap N is in
      let asked = asked_object grounds scene read.objects variable.name.text own creation class in
      let read_full : IsFullTold read = (goes_noted progress.so_far (all_unmade_faults grounds scene creation.arguments)).full full in
      let it = made_there 16 grounds asked read read_full (sym (ap (λ (c : Construction). c.first) so) ∙ told) in
      let number = length progress.so_far.objects in
      let datum_is : new_datum most_levels facts creation progress.so_far ≡ Some (datums.Object number) =
      ap (λ o. option_map_or (λ (one : Meaning). next_datum most_levels progress.so_far) o None) is
      ∙ ap (λ b. if b then Some (datums.Object number) else None) it.0 in
      record {
        number = number;
        is_named = (λ i. slice_get (with_named progress.named_objects (named i) (datum_is i)) entry)
            ∙ get-set_same progress.named_objects entry (made_names.Made (Some (datums.Object number))) within;
        there = subst (λ (c : Construction). KeepsClass c.objects number class) (sym so) it.1;
      }

  pub made_from : (number entry : ℕ) (class : Meaning) (variable : Variable) (creation : Creation) (left : List Decl) (offset : ℕ) (progress : Progress)
      → slice_get left offset ≡ Some (decls.Variable variable) → variable.init ≡ Some (inits.New creation)
      → is_config_sort (sort_of_variable variable) ≡ false → named_number false facts.names variable.name.text ≡ Some entry
      → made_class facts creation ≡ Some class → entry < length progress.named_objects → IsFullTold progress.so_far
      → ((place : ℕ) (decl : Decl) → offset < place → slice_get left place ≡ Some decl → NamesOther entry decl)
      → (all_declared facts number left progress).so_far.first ≡ None → IsMade (all_declared facts number left progress) entry class
  made_from number entry class variable creation [] offset progress at init config named is within full other told =
      absurd (none-some (decls.Variable variable) at)
  made_from number entry class variable creation (here ∷ more) zero progress at init config named is within full other told =
      let same : here ≡ decls.Variable variable = same_Some here (decls.Variable variable) at in
      let D = object_declared facts number variable creation progress in
      let step : one_declared facts number here progress ≡ D =
      ap (λ d. one_declared facts number d progress) same
      ∙ (ap (λ i. init_declared facts number variable i progress) init
      ∙ ap (λ b. if b then settings_declared facts number creation progress else object_declared facts number variable creation progress) config) in
      let end = all_declared facts (number + 1) more D in
      let rest = steps_all (number + 1) more D in
      let last : end.so_far.first ≡ None = sym (ap (λ p. (all_declared facts (number + 1) more p).so_far.first) step) ∙ told in
      let it = made_here number entry class variable creation progress named within is full (rest.made.told last) in
      let found = rest.made.kept it.number it.there.0 it.there.1 in
      let stays = others_all entry (number + 1) more D (λ place decl here. other (suc place) decl (omega arith) here) in
      let end_made : IsMade end entry class = record {
        number = it.number;
        is_named = stays ∙ it.is_named;
        there = (found.0, found.1, found.2 ∙ it.there.2);
      } in
      subst (λ p. IsMade (all_declared facts (number + 1) more p) entry class) (sym step) end_made
  made_from number entry class variable creation (here ∷ more) (suc offset) progress at init config named is within full other told =
      let next = one_declared facts number here progress in
      let one = steps_one number here progress in
      let long : length next.named_objects ≡ length progress.named_objects = one.count in
      made_from (number + 1) entry class variable creation more offset next at init config named is (omega (arith, within, long)) (one.made.full full)
      (λ place decl less here. other (suc place) decl (omega (arith, less)) here) told
