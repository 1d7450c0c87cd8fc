use Rattle.std.proofs.Common.{sym, ap, ◌∙◌, w32}
use Rattle.std.proofs.lemmas.Int.{to_z-of_z}
use Rattle.domain_core.specs.declared.domain.Dom.TheInside.{Inside}
use Rattle.domain_core.specs.Forms.{domain_of_form}
use Rattle.domain_core.proofs.Forms.{keeps_same, without_same}
use Rattle.domain_core.proofs.domain.Dom.drop_value.Goals as goal
use Rattle.domain_core.proofs.domain.Dom.drop_value.Goals.{in-Range, in-Set}

pub returns-clause-kept : goal.returns-clause-kept
returns-clause-kept c =
    let view = λ (inside : Inside). domain_of_form inside.form in
    let value_is = to_z-of_z w32 c.args.value c.ranges.value in
    elim c.match-self.branch [
      | in-Range w ↦
          keeps_same _ _ _ _ _ _ _ (ap domain_of_form (sym w.in-Range.is) ∙ c.self.view_is) (sym w.result-is) (ap view (sym w.self-inside-is))
          (without_same _ c.args.value _ _ _ value_is w.drop_value.ensures.kept)
      | in-Set w ↦
          keeps_same _ _ _ _ _ _ _ (ap domain_of_form (sym w.in-Set.is) ∙ c.self.view_is) (sym w.result-is) (ap view (sym w.self-inside-is))
          (without_same _ c.args.value _ _ _ value_is w.drop_value-in-Set.ensures.kept)
    ]
