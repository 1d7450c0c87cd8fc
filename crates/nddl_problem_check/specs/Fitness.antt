-- Roots that nothing can be on, and globals that begin as an object of another class.
use Rattle.std.specs.Prelude.{ℕ, ◌+◌, ◌==◌, Bool, true, false, ◌||◌, ◌&&◌, List, [], ◌∷◌, ◌++◌, Option, Some, length}
use Rattle.std.specs.List.{list_any}
use Rattle.std.specs.Option.{option_and_then}
use Rattle.model_core.specs.declared.variable.Base.{Base}
use Rattle.model_core.specs.declared.variable.Base.TheVariants as bases
use Rattle.nddl_ast.specs.declared.declaration.Decl.{Decl}
use Rattle.nddl_ast.specs.declared.declaration.Decl.TheVariants as decls
use Rattle.nddl_ast.specs.declared.expression.Expr.{Expr}
use Rattle.nddl_ast.specs.declared.expression.Init.{Init}
use Rattle.nddl_ast.specs.declared.expression.Init.TheVariants as inits
use Rattle.nddl_ast.specs.declared.kind.TextKind.TheVariants as faults
use Rattle.nddl_ast.specs.declared.statement.Ask.{Ask}
use Rattle.nddl_ast.specs.declared.statement.Variable.{Variable}
use Rattle.nddl_ast.specs.Places.{expr_place}
use Rattle.nddl_symbols.specs.declared.fault.Fault.{Fault}
use Rattle.nddl_symbols.specs.Finding.{faults_here}
use Rattle.eu_index.specs.Index.{Noted, noted_number}
use Rattle.nddl_symbols.specs.Scope.{fault_if}
use Rattle.nddl_typeexpr.specs.declared.kind.TypeKind.{TypeKind}
use Rattle.nddl_typeexpr.specs.Bases.{base_kind}
use Rattle.nddl_construction.specs.declared.made.MadeObject.{MadeObject}
use Rattle.nddl_construction.specs.Fitting.{is_foreign_datum}
use Rattle.nddl_construction.specs.Reading.{fine_datum}
use Rattle.nddl_construction.specs.Scene.{Grounds, grounds_of}
use Rattle.nddl_objects.specs.Objects.{bare_scene}
use Rattle.nddl_terms.specs.declared.lexicon.Lexicon.{Lexicon}
use Rattle.nddl_terms.specs.declared.stands.Stand.{Stand}
use Rattle.nddl_terms.specs.declared.stands.Stand.TheVariants.{Root}
use Rattle.nddl_terms.specs.Lexicon.{class_objects, pred_class, pred_params}
use Rattle.nddl_terms.specs.Stands.{file_stand}
use Rattle.nddl_problem_check.specs.declared.fitness.Start as code

-- ---- what roots may be on

abbrev pub is_void_base : Base → Bool
is_void_base (bases.Given domain) = false
is_void_base bases.Void = true

-- the class has no object
abbrev pub is_void_class : Lexicon → ℕ → Bool
is_void_class lexicon class = length (class_objects lexicon class) == 0

-- nothing is left for the object of a token of this predicate, or for a parameter
abbrev pub is_void_pred : Lexicon → ℕ → Bool
is_void_pred lexicon pred =
    is_void_class lexicon (pred_class lexicon pred)
    || list_any (λ param. is_void_base param.shape.base) (pred_params lexicon pred)

abbrev pub is_void_stand : Lexicon → Option Stand → Bool
is_void_stand lexicon (Some (Root number pred)) = is_void_pred lexicon pred
is_void_stand lexicon stand = false

-- what the name stands for that has this place in the scope, if it has one
abbrev pub placed_stand : Lexicon → Noted → List ℕ → Option Stand
placed_stand lexicon scope name = option_and_then (file_stand lexicon) (noted_number scope name)

-- what is wrong with a root whose label the scope of the files has: nothing is left for it, though the objects are fine
abbrev pub void_root_faults : Lexicon → Noted → Bool → ℕ → Ask → List Fault
void_root_faults lexicon scope are_fine decl ask =
    faults_here decl ask.word.at
    (fault_if (are_fine && is_void_stand lexicon (placed_stand lexicon scope ask.label.text)) faults.NotInDomain)

-- ---- what globals begin as

-- what is wrong with the value of a global of this kind: it is an object that isn't of the declared class
abbrev pub foreign_value_faults : Grounds → List MadeObject → ℕ → Option TypeKind → Expr → List Fault
foreign_value_faults grounds objects decl kind expr =
    faults_here decl (expr_place expr)
    (fault_if (is_foreign_datum grounds objects kind (fine_datum grounds (bare_scene decl) objects kind expr))
    faults.NotInDomain)

abbrev pub foreign_begun_faults : Grounds → List MadeObject → ℕ → Variable → Option Init → List Fault
foreign_begun_faults grounds objects decl variable (Some (inits.Expr expr)) =
    foreign_value_faults grounds objects decl
    (base_kind grounds.facts.names grounds.facts.known variable.declared.base) expr
foreign_begun_faults grounds objects decl variable init = []

-- ---- the program

-- what is known once objects are made: what names stand for, the objects, the lexicon, the places of names in its scope,
-- and the earliest of what making the objects has met that is wrong
pub record Outset : Type 0 where
  pub grounds : Grounds
  pub objects : List MadeObject
  pub lexicon : Lexicon
  pub scope : Noted
  pub met : Option Fault

-- that which the code keeps
abbrev pub outset_at : code.Start → Outset
outset_at start = record {
  grounds = grounds_of start.footing;
  objects = start.objects.now;
  lexicon = start.lexicon.now;
  scope = start.scope.now;
  met = start.met;
}

-- what is wrong with the declaration of this number, now that objects are made, and are fine or not
abbrev pub unfit_decl_faults : Outset → Bool → ℕ → Decl → List Fault
unfit_decl_faults outset are_fine decl (decls.Variable variable) =
    foreign_begun_faults outset.grounds outset.objects decl variable variable.init
unfit_decl_faults outset are_fine decl (decls.Ask ask) =
    void_root_faults outset.lexicon outset.scope are_fine decl ask
unfit_decl_faults outset are_fine decl other = []

abbrev pub unfit_faults_from : Outset → Bool → ℕ → List Decl → List Fault
unfit_faults_from outset are_fine number [] = []
unfit_faults_from outset are_fine number (decl ∷ more) =
    unfit_decl_faults outset are_fine number decl ++ unfit_faults_from outset are_fine (number + 1) more
