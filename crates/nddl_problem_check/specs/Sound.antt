-- Whether anything is wrong with the objects of a program.
use Rattle.std.specs.Prelude.{ℕ, ◌+◌, Bool, false, not, List, [], ◌∷◌, ◌++◌, Option, Some, is_none, if◌then◌else◌}
use Rattle.nddl_ast.specs.declared.declaration.Decl.{Decl}
use Rattle.nddl_ast.specs.declared.declaration.Decl.TheVariants as decls
use Rattle.nddl_symbols.specs.declared.fault.Fault.{Fault}
use Rattle.nddl_symbols.specs.Finding.{earliest_fault}
use Rattle.nddl_symbols.specs.Names.{is_config_sort, sort_of_variable}
use Rattle.nddl_constructors.specs.Objects.{first_close, writing_faults}
use Rattle.nddl_terms.specs.declared.lexicon.Lexicon.{Lexicon}
use Rattle.nddl_terms.specs.declared.stands.Stand.{Stand}
use Rattle.nddl_terms.specs.declared.stands.Stand.TheVariants.{Class}
use Rattle.nddl_problem_check.specs.Fitness.{Outset, is_void_class, placed_stand}

-- it is a class that has an object, its own or that of a class under it, so that its constructor has run
abbrev pub is_filled_stand : Lexicon → Option Stand → Bool
is_filled_stand lexicon (Some (Class class)) = not (is_void_class lexicon class)
is_filled_stand lexicon stand = false

-- The text of the declaration counts among what makes objects: it is a `new` other than that of the settings, or a class whose
-- constructor has run.
abbrev pub is_making : Outset → Decl → Bool
is_making outset (decls.Class at name parent members) =
    is_filled_stand outset.lexicon (placed_stand outset.lexicon outset.scope name.text)
is_making outset (decls.Variable variable) = not (is_config_sort (sort_of_variable variable))
is_making outset decl = false

-- what is wrong with the text of the declaration of this number, if it counts
abbrev pub making_faults : Outset → Option ℕ → ℕ → Decl → List Fault
making_faults outset closed number decl =
    if is_making outset decl then writing_faults outset.grounds.facts closed number decl else []

abbrev pub making_faults_from : Outset → Option ℕ → ℕ → List Decl → List Fault
making_faults_from outset closed number [] = []
making_faults_from outset closed number (decl ∷ more) =
    making_faults outset closed number decl ++ making_faults_from outset closed (number + 1) more

-- all that is wrong with the text that makes objects
abbrev pub all_making_faults : Outset → List Fault
all_making_faults outset =
    making_faults_from outset (first_close outset.grounds.facts.program) 0 outset.grounds.facts.program

-- Nothing is wrong with an object: making the objects has met nothing, and nothing is wrong with the text that makes them.
-- The settings are no object, and a constructor that hasn't run has made none.
abbrev pub are_sound : Outset → Bool
are_sound outset = is_none (earliest_fault outset.met (all_making_faults outset))
