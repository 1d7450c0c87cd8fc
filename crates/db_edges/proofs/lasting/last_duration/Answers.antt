use Rattle.std.proofs.Common.{Some, sym, ap, ◌∙◌}
use Rattle.std.proofs.lemmas.Option.{same_Some}
use Rattle.eu_name.specs.declared.name.Part.TheVariants.{Duration}
use Rattle.eu_name.specs.declared.name.VarName.TheVariants.{Token}
use Rattle.model_core.specs.declared.decision.Decision.TheVariants.{Specify}
use Rattle.db_edges.proofs.lasting.last_duration.Goals as goal

pub returns-in-Some : goal.returns-in-Some
returns-in-Some c = λ value.
    let at = c.in-Some.ensures.value in (
      λ is. sym at ∙ ap (λ d. Some d) ((c.value_by.ensures value).0 is),
      λ last. (c.value_by.ensures value).1 (same_Some c.in-Some.decision.now (Specify (Token c.args.token.now Duration) value) (at ∙ last)),
    )
