use Rattle.std.proofs.Common.{subst}
use Rattle.std.specs.Prelude.{option_copied}
use Rattle.eu_name.specs.declared.name.VarName.TheVariants.{Local}
use Rattle.model_core.specs.Views.{IsDomainAt}
use Rattle.db_refusals.specs.Seeing.{Seen, seen_state}
use Rattle.db_refusals.proofs.view.StoreViewView.local_at.Goals as goal

pub returns : goal.returns
returns c =
    subst (λ (seen : Seen). IsDomainAt (seen_state seen.stored) c.args.place (λ token. Local token c.args.rule c.args.number) (option_copied c.local_at.result)) c.self.view_is c.local_at.ensures
