-- A class of the program that adds no members has no field.
use Rattle.std.proofs.Common.{◌≡◌, Bool, true, false, List, [], ◌∷◌, refl, ap}
use Rattle.std.specs.Prelude.{◌||◌, ◌&&◌, not, ◌++◌}
use Rattle.std.specs.List.{list_all, list_any}
use Rattle.nddl_ast.specs.declared.declaration.Member.{Member}
use Rattle.nddl_ast.specs.declared.declaration.Member.TheVariants as members
use Rattle.nddl_ast.specs.declared.kind.TextKind.TheVariants as faults
use Rattle.nddl_symbols.specs.declared.place.Place.{Place}
use Rattle.nddl_symbols.specs.declared.fault.Fault.{Fault}
use Rattle.nddl_symbols.specs.declared.scope.Meaning.{Meaning}
use Rattle.nddl_symbols.specs.declared.scope.Meaning.TheVariants as meanings
use Rattle.nddl_symbols.specs.Finding.{faults_here}
use Rattle.nddl_symbols.specs.Scope.{fault_if}
use Rattle.nddl_hierarchy.specs.Decls.{members_of}
use Rattle.nddl_hierarchy.specs.Facts.{Facts}
use Rattle.nddl_hierarchy.specs.Shorter.{KeepTheSame, has_named}
use Rattle.nddl_hierarchy.proofs.Adding.{adds_none}
use Rattle.nddl_hierarchy.proofs.Keeping.{found_kept}
use Rattle.nddl_construction.specs.declared.made.FieldValue.{FieldValue}
use Rattle.nddl_construction.specs.Classes.{is_adding}
use Rattle.nddl_objects.specs.Finished.{are_all_set, finished_faults, is_class_out, is_class_set, is_member_set}

none_to_set : (fields : List FieldValue) (some : List Member) → has_named some ≡ false → list_all (is_member_set fields) some ≡ true
none_to_set fields [] is = refl
none_to_set fields (members.Field typed ∷ more) is = absurd (let e : true ≡ false = is in cc)
none_to_set fields (members.Predicate at name parts ∷ more) is = absurd (let e : true ≡ false = is in cc)
none_to_set fields (members.Constructor name formals sets ∷ more) is = none_to_set fields more is

module _ (facts : Facts) (fields : List FieldValue) where
  class_set : (class : Meaning) → is_adding facts class ≡ false → is_class_set facts fields class ≡ true
  class_set (meanings.BuiltIn number) is = absurd (let e : true ≡ false = is in cc)
  class_set (meanings.Entry entry) is =
      let none = adds_none facts.names facts.program entry is in none_to_set fields (members_of facts.names facts.program entry) none.none

  class_within : (class : Meaning) → is_adding facts class ≡ false → is_class_out fields class ≡ false
  class_within (meanings.BuiltIn number) is = absurd (let e : true ≡ false = is in cc)
  class_within (meanings.Entry entry) is = refl

  -- the same is wrong with the fields along lines to which the same classes add members
  pub same_finished : (place : Place) (one other : List Meaning) → KeepTheSame (is_adding facts) one other
      → finished_faults facts place one fields ≡ finished_faults facts place other fields
  same_finished place one other same =
      let all : are_all_set facts fields one ≡ are_all_set facts fields other =
      found_kept (is_adding facts) (are_all_set facts fields) (λ class rest. is_class_set facts fields class && rest) (λ class line. refl)
      (λ class is rest. ap (λ first. first && rest) (class_set class is)) one other same in
      let some : list_any (is_class_out fields) one ≡ list_any (is_class_out fields) other =
      found_kept (is_adding facts) (list_any (is_class_out fields)) (λ class rest. is_class_out fields class || rest) (λ class line. refl)
      (λ class is rest. ap (λ first. first || rest) (class_within class is)) one other same in
      let with_these : Bool → Bool → List Fault = λ set out.
      faults_here place.decl place.at (fault_if (not set) faults.WrongCount) ++ faults_here place.decl place.at (fault_if out faults.NotInDomain) in
      λ i. with_these (all i) (some i)
