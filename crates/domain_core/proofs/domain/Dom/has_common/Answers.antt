use Rattle.std.proofs.Common.{sym, ap, ◌∙◌}
use Rattle.domain_core.specs.Forms.{domain_of_form}
use Rattle.domain_core.proofs.Forms.{decided_same}
use Rattle.domain_core.proofs.domain.Dom.has_common.Goals as goal

pub returns-in-Range-form : goal.returns-in-Range-form
returns-in-Range-form c =
    decided_same _ _ _ _ _ (ap domain_of_form (sym c.in-Range.is) ∙ c.self.view_is) (ap domain_of_form (sym c.in-Range-form.is) ∙ c.other.view_is) c.overlaps.ensures
