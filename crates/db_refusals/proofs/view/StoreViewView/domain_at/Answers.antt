use Rattle.std.proofs.Common.{subst}
use Rattle.std.specs.Prelude.{option_copied}
use Rattle.eu_name.specs.declared.name.VarName.TheVariants.{Token}
use Rattle.model_core.specs.Views.{IsDomainAt}
use Rattle.db_refusals.specs.Seeing.{Seen, seen_state}
use Rattle.db_refusals.proofs.view.StoreViewView.domain_at.Goals as goal

pub returns : goal.returns
returns c =
    subst (λ (seen : Seen). IsDomainAt (seen_state seen.stored) c.args.place (λ token. Token token c.args.part) (option_copied c.part_at.result)) c.self.view_is c.part_at.ensures
