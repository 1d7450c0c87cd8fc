use Rattle.std.proofs.Common.{◌∙◌, sym}
use Rattle.nddl_hierarchy.specs.Facts.{facts_of}
use Rattle.nddl_env.proofs.Populating.{listed_is}
use Rattle.nddl_env.proofs.objects.listed.Goals as goal

pub returns-then-is_numbered : goal.returns-then-is_numbered
returns-then-is_numbered c =
    let premises = c.args.premises.now in
    listed_is (facts_of premises.sources.basis) premises.objects.now premises.sources.entries.now premises.by_class.now c.class_number-number.result
    c.args.class c.objects.result.now premises.sources.are_entries premises.are_listed (sym c.is_numbered.ensures ∙ c.if-is_numbered.true) c.objects.ensures
