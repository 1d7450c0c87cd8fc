-- What stands behind `new`.
use Rattle.std.proofs.Common.{◌≡◌, ℕ, Bool, true, false, List, refl, sym, ◌∙◌, ap}
use Rattle.std.specs.Prelude.{Option, Some, None, is_none, if◌then◌else◌}
use Rattle.std.proofs.lemmas.Option.{none-some}
use Rattle.nddl_ast.specs.declared.kind.TextKind.{TextKind}
use Rattle.nddl_ast.specs.declared.kind.TextKind.TheVariants as faults
use Rattle.nddl_symbols.specs.declared.scope.Meaning.{Meaning}
use Rattle.nddl_symbols.specs.declared.scope.Meaning.TheVariants as meanings
use Rattle.nddl_symbols.specs.Scope.{is_class_at, meaning_of}
use Rattle.nddl_hierarchy.specs.Facts.{Facts}
use Rattle.nddl_declarations.specs.Classes.{class_meaning_fault}
use Rattle.nddl_constructors.specs.Creations.{class_alone}
use Rattle.nddl_model_laws.proofs.Making.{IsClassMeant}

-- what a class stands for that is meant
pub record IsMeantAs (facts : Facts) (class : Meaning) : Type 0 where
  pub text : List ℕ
  pub means : meaning_of facts.names text ≡ Some class
  pub fine : class_meaning_fault facts.names (Some class) ≡ None

pub meant_as : (facts : Facts) (class : Meaning) → IsClassMeant facts class → IsMeantAs facts class
meant_as facts class is = outer (meaning_of facts.names is.0) refl is.1
  where
    inner : (o : Option Meaning) → meaning_of facts.names is.0 ≡ o → (f : Option TextKind) → class_meaning_fault facts.names o ≡ f
        → (if is_none f then o else None) ≡ Some class → IsMeantAs facts class
    inner o at (Some kind) fault taken = absurd (none-some class taken)
    inner o at None fault taken = record {
      text = is.0;
      means = at ∙ taken;
      fine = ap (class_meaning_fault facts.names) (sym taken) ∙ fault;
    }

    outer : (o : Option Meaning) → meaning_of facts.names is.0 ≡ o → class_alone facts.names o ≡ Some class → IsMeantAs facts class
    outer o at taken = inner o at (class_meaning_fault facts.names o) refl taken

pub class_sort : (facts : Facts) (entry : ℕ) → class_meaning_fault facts.names (Some (meanings.Entry entry)) ≡ None → is_class_at facts.names entry ≡ true
class_sort facts entry fine = by (is_class_at facts.names entry) fine
  where
    by : (b : Bool) → (if b then None else Some faults.WrongType) ≡ None → b ≡ true
    by true fine = refl
    by false fine = absurd (none-some faults.WrongType (sym fine))
