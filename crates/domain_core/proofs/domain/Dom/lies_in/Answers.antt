use Rattle.std.proofs.Common.{sym, ap, ◌∙◌}
use Rattle.domain_core.specs.Domain.{Set}
use Rattle.domain_core.specs.Forms.{domain_of_form}
use Rattle.domain_core.proofs.Forms.{lies_same}
use Rattle.domain_core.proofs.domain.Dom.lies_in.Goals as goal

pub returns-in-Set-form : goal.returns-in-Set-form
returns-in-Set-form c =
    lies_same _ (Set c.as_slice.result.now) (Set c.as_slice-in-Set-form.result.now) _ _
    (ap Set c.as_slice.ensures.value ∙ (ap domain_of_form (sym c.in-Set.is) ∙ c.self.view_is))
    (ap Set c.as_slice-in-Set-form.ensures.value ∙ (ap domain_of_form (sym c.in-Set-form.is) ∙ c.other.view_is)) c.are_among.ensures
