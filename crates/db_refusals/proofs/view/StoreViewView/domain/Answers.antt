use Rattle.std.proofs.Common.{subst}
use Rattle.std.specs.Prelude.{option_copied}
use Rattle.model_core.specs.Views.{IsDomainIn}
use Rattle.db_refusals.specs.Seeing.{Seen, seen_state}
use Rattle.db_refusals.proofs.view.StoreViewView.domain.Goals as goal

pub returns : goal.returns
returns c = subst (λ (seen : Seen). IsDomainIn (seen_state seen.stored) c.args.variable.now (option_copied c.domain.result)) c.self.view_is c.domain.ensures
