-- Nothing of a class without a constructor runs, and it hands on what it is passed.
use Rattle.std.proofs.Common.{◌≡◌, ℕ, Bool, true, false, List, [], ◌∷◌, ◌++◌, refl, ◌∙◌, ap}
use Rattle.std.specs.Prelude.{Option, Some, None, reverse, if◌then◌else◌}
use Rattle.std.specs.Option.{option_map_or}
use Rattle.nddl_ast.specs.declared.declaration.Decl.{Decl}
use Rattle.nddl_ast.specs.declared.declaration.Member.{Member}
use Rattle.nddl_ast.specs.declared.declaration.Member.TheVariants as members
use Rattle.nddl_symbols.specs.declared.declared.Declared.{Declared}
use Rattle.nddl_symbols.specs.declared.scope.Meaning.{Meaning}
use Rattle.nddl_symbols.specs.declared.scope.Meaning.TheVariants as meanings
use Rattle.nddl_hierarchy.specs.Decls.{members_of}
use Rattle.nddl_hierarchy.specs.Shorter.{KeepTheSame, builds, has_constructor}
use Rattle.nddl_hierarchy.proofs.Keeping.{found_kept}
use Rattle.nddl_construction.specs.declared.made.Datum.{Datum}
use Rattle.nddl_construction.specs.declared.made.MadeObject.{MadeObject}
use Rattle.nddl_construction.specs.Scene.{Grounds}
use Rattle.nddl_construction.specs.declared.passing.Passed.{Passed}
use Rattle.nddl_construction.specs.Classes.{constructor_at, is_building, line_up, own_constructor}
use Rattle.nddl_construction.specs.Passing.{passed_above, passed_down, passed_from, passed_here, super_data}

no_constructor : (some : List Member) → has_constructor some ≡ false → own_constructor some ≡ None
no_constructor [] is = refl
no_constructor (members.Field typed ∷ more) is = no_constructor more is
no_constructor (members.Predicate at name parts ∷ more) is = no_constructor more is
no_constructor (members.Constructor name formals sets ∷ more) is = absurd (let e : true ≡ false = is in cc)

none_built : (names : List Declared) (program : List Decl) (entry : ℕ) → builds names program entry ≡ false → constructor_at names program entry ≡ None
unfolding builds
none_built names program entry is = no_constructor (members_of names program entry) is

module _ (grounds : Grounds) (objects : List MadeObject) where
  abbrev step : Meaning → (Option (List (Option Datum)) → List Passed) → Option (List (Option Datum)) → List Passed
  step class rest values = passed_here grounds.facts class values ++ rest (passed_above grounds objects class values)

  idle : (class : Meaning) (values : Option (List (Option Datum))) (rest : Option (List (Option Datum)) → List Passed)
      → is_building grounds.facts class ≡ false → step class rest values ≡ rest values
  idle (meanings.BuiltIn number) values rest is = absurd (let e : true ≡ false = is in cc)
  idle (meanings.Entry entry) None rest is = refl
  idle (meanings.Entry entry) (Some values) rest is =
      let none = none_built grounds.facts.names grounds.facts.program entry is in
      let given : Bool → List Passed = λ b. if b then record { class = meanings.Entry entry; values = values } ∷ [] else [] in
      ap (λ b. given b ++ rest (passed_above grounds objects (meanings.Entry entry) (Some values))) is
      ∙ ap (λ found. rest (option_map_or (super_data grounds objects entry values) found (Some values))) none

  -- the same is passed along lines of which the same classes have a constructor
  passed_same : (one other : List Meaning) (values : Option (List (Option Datum))) → KeepTheSame (is_building grounds.facts) one other
      → passed_from grounds objects one values ≡ passed_from grounds objects other values
  passed_same one other values same =
      ap (λ passed. passed values)
      (found_kept (is_building grounds.facts) (passed_from grounds objects) step (λ class line. refl)
      (λ class is rest. λ i values. idle class values rest is i) one other same)

  pub passed_along : (class : Meaning) (values : List (Option Datum)) (line : List Meaning) (found : List Passed)
      → KeepTheSame (is_building grounds.facts) line (line_up grounds.facts class)
      → found ≡ reverse (passed_from grounds objects line (Some values)) → found ≡ passed_down grounds objects class values
  unfolding passed_down
  passed_along class values line found same is = is ∙ ap reverse (passed_same line (line_up grounds.facts class) (Some values) same)
