-- What is wrong with a problem that only its objects tell, and the limits that its roots, facts and globals pass.
use Rattle.std.specs.Prelude.{ℕ, List, [], ◌∷◌, ◌++◌, slice_get}
use Rattle.std.specs.Option.{option_map_or}
use Rattle.nddl_ast.specs.declared.kind.TextKind.{TextKind}
use Rattle.nddl_ast.specs.declared.kind.TextKind.TheVariants as faults
use Rattle.nddl_symbols.specs.declared.place.Place.{Place}
use Rattle.nddl_symbols.specs.declared.fault.Fault.{Fault}
use Rattle.eu_index.specs.Index.{Noted}
use Rattle.nddl_hierarchy.specs.Facts.{Facts}
use Rattle.nddl_objects.specs.Objects.{Progress, progress_grounds}
use Rattle.nddl_terms.specs.declared.lexicon.Lexicon.{Lexicon}
use Rattle.nddl_problem_check.specs.Fitness.{Outset, unfit_faults_from}
use Rattle.nddl_problem_check.specs.Made.{making_places}
use Rattle.nddl_problem_check.specs.Posts.{fact_places, global_places, posting_places}
use Rattle.nddl_problem_check.specs.Sound.{are_sound}

-- a fault of the kind at the one of these places that comes behind so many of them, if there is one
abbrev pub past_faults : TextKind → ℕ → List Place → List Fault
past_faults kind most places =
    option_map_or (λ place. record { place = place; kind = kind } ∷ []) (slice_get places most) []

-- the globals in their order: those that are declared, and then those that paths make
abbrev pub all_global_places : Facts → List Place
all_global_places facts = global_places 0 facts.program ++ making_places facts 0 facts.program

-- there are too many roots, facts or globals
abbrev pub count_faults : Facts → List Fault
count_faults facts =
    past_faults faults.LimitRoots 4096 (posting_places 0 facts.program)
    ++ (past_faults faults.LimitFacts 512 (fact_places 0 facts.program)
    ++ past_faults faults.LimitGlobals 4096 (all_global_places facts))

-- what is known where this has been made, with this lexicon
abbrev pub outset_of : Facts → Progress → Lexicon → Noted → Outset
outset_of facts progress lexicon scope = record {
  grounds = progress_grounds facts progress;
  objects = progress.so_far.objects;
  lexicon = lexicon;
  scope = scope;
  met = progress.so_far.first;
}

-- all that is wrong with a problem that only its objects tell; if something is wrong with these, no root is void
abbrev pub unfit_faults : Outset → List Fault
unfit_faults outset = unfit_faults_from outset (are_sound outset) 0 outset.grounds.facts.program

-- all that is wrong with a problem that only its objects tell, and the limits that it passes, but for those of rules
abbrev pub problem_limit_faults : Facts → Progress → Lexicon → Noted → List Fault
problem_limit_faults facts progress lexicon scope =
    unfit_faults (outset_of facts progress lexicon scope) ++ count_faults facts
