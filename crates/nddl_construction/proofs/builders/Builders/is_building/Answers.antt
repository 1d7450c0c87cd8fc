use Rattle.std.proofs.Common.{◌∙◌, ap, refl, sym}
use Rattle.std.specs.Option.{option_copied}
use Rattle.std.specs.Prelude.{is_some}
use Rattle.nddl_hierarchy.specs.Facts.{facts_of}
use Rattle.nddl_construction.specs.Classes.{is_building}
use Rattle.nddl_construction.proofs.Finding.{builds_found, found_there}
use Rattle.nddl_construction.proofs.builders.Builders.is_building.Goals as goal

pub returns-in-Some : goal.returns-in-Some
returns-in-Some c =
    let facts = facts_of c.args.basis.now in
    let found = option_copied c.find.result in
    sym (ap (λ given. is_some (option_copied given)) c.in-Some.is)
    ∙ (builds_found facts c.in-Entry.entry found
    (found_there facts c.args.self.now c.in-Entry.entry found found c.requires c.find.ensures refl)
    ∙ sym (ap (is_building facts) c.in-Entry.is))

pub returns-in-None : goal.returns-in-None
returns-in-None c =
    let facts = facts_of c.args.basis.now in
    let found = option_copied c.find.result in
    sym (ap (λ given. is_some (option_copied given)) c.in-None.is)
    ∙ (builds_found facts c.in-Entry.entry found
    (found_there facts c.args.self.now c.in-Entry.entry found found c.requires c.find.ensures refl)
    ∙ sym (ap (is_building facts) c.in-Entry.is))
