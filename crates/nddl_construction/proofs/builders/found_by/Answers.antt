use Rattle.std.proofs.Common.{refl, ◌∙◌, ap, length, map, []}
use Rattle.std.specs.Option.{option_copied, option_map_or}
use Rattle.nddl_hierarchy.specs.Facts.{facts_of}
use Rattle.nddl_constructors.specs.Creations.{meaning_wants}
use Rattle.nddl_constructors.specs.Formals.{formal_seen}
use Rattle.nddl_construction.specs.Builders.{wants_over}
use Rattle.nddl_construction.specs.Classes.{constructor_sets}
use Rattle.nddl_construction.specs.Passing.{handed_arguments}
use Rattle.nddl_construction.proofs.Finding.{counted}
use Rattle.nddl_construction.proofs.builders.found_by.Goals as goal

pub returns : goal.returns
returns c =
    let facts = facts_of c.args.basis.now in
    let wants = wants_over facts c.args.decl.now in
    let body = constructor_sets c.args.constructor.now in
    let given = option_copied c.handed_arguments-handed.result in
    let same = c.in_ok-wanted.ensures ∙ ap (meaning_wants facts) c.extended.ensures in
    let count = c.count.ensures ∙ (counted facts c.in_ok-wanted.wanted ∙ ap length same) in
    let handed = c.handed_arguments-handed.ensures
    ∙ (ap (λ number. handed_arguments number c.constructor_sets.result.now) count
    ∙ ap (handed_arguments (length wants)) c.constructor_sets.ensures) in
    let kept = c.in_ok-wants.ensures
    ∙ (ap (λ kinds. option_map_or (λ arguments. kinds) given []) same
    ∙ ap (λ found. option_map_or (λ arguments. wants) found []) handed) in
    (refl, refl, c.in_ok-formals.ensures ∙ ap (map (formal_seen facts)) c.constructor_formals.ensures, handed, kept)
