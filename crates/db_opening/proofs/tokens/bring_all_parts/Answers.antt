use Rattle.std.proofs.Common.{refl, sym, subst}
use Rattle.std.specs.Prelude.{All}
use Rattle.eu_name.specs.declared.name.Part.{Part}
use Rattle.model_core.specs.declared.variable.Base.{Base}
use Rattle.model_core.specs.Variables.{HasPartBase}
use Rattle.db_opening.specs.Parts.{slot_asked, ArePartsOf}
use Rattle.db_opening.proofs.Parting.{parts_based, brings_all}
use Rattle.db_opening.proofs.tokens.bring_all_parts.Goals as goal

pub bring_parts-requires-clause-are : goal.bring_parts-requires-clause-are
bring_parts-requires-clause-are c =
    let model = c.args.model.now in
    let slot = slot_asked c.args.asked.now in
    subst (All (λ (part : Part). (base : Base) × HasPartBase model slot part base)) (sym c.as_slice.ensures.value)
    (parts_based model slot c.args.place c.in_ok-parts.parts.items (c.in_ok-parts.ensures slot refl))

pub returns-clause-brings : goal.returns-clause-brings
returns-clause-brings c =
    let model = c.args.model.now in
    let slot = slot_asked c.args.asked.now in
    brings_all model slot c.args.place c.as_slice.result.now (subst (ArePartsOf model slot) (sym c.as_slice.ensures.value) (c.in_ok-parts.ensures slot refl))
    c.args.store.now c.bring_parts.new.store c.bring_parts.result c.bring_parts.ensures.brings
