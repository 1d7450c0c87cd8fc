use Rattle.std.proofs.Common.{sym, ap, ◌∙◌}
use Rattle.domain_core.specs.Domain.{Set}
use Rattle.domain_core.specs.declared.domain.Dom.TheInside.{Inside}
use Rattle.domain_core.specs.Forms.{domain_of_form}
use Rattle.domain_core.proofs.Forms.{keeps_same, common_same}
use Rattle.domain_core.proofs.domain.Dom.meet_set.Goals as goal
use Rattle.domain_core.proofs.domain.Dom.meet_set.Goals.{in-Range-form, in-Set-form}

pub returns-after-self-clause-kept : goal.returns-after-self-clause-kept
returns-after-self-clause-kept c =
    let view = λ (inside : Inside). domain_of_form inside.form in
    let other_is = ap domain_of_form (sym c.in-Set.is) ∙ c.other.view_is in
    elim c.match-self.branch [
      | in-Range-form w ↦
          keeps_same _ _ _ _ _ _ _ (ap domain_of_form (sym w.in-Range-form.is) ∙ c.self.view_is) (sym w.result-is) (ap view (sym w.self-inside-is))
          (common_same (Set w.as_slice.result.now) c.args.other.now _ _ _ (ap Set w.as_slice.ensures.value ∙ other_is) w.meet_around.ensures.kept)
      | in-Set-form w ↦
          keeps_same _ _ _ _ _ _ _ (ap domain_of_form (sym w.in-Set-form.is) ∙ c.self.view_is) (sym w.result-is) (ap view (sym w.self-inside-is))
          (common_same (Set w.as_slice-in-Set-form.result.now) c.args.other.now _ _ _ (ap Set w.as_slice-in-Set-form.ensures.value ∙ other_is) w.meet_set.ensures.kept)
    ]
