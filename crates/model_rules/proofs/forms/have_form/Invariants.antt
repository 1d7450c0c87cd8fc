use Rattle.std.specs.Prelude.{take, All}
use Rattle.model_rules.specs.Forms.{HasForm}
use Rattle.model_rules.proofs.forms.have_form.Given as goal

abbrev pub invariant-loop-item : goal.invariant-loop-item
invariant-loop-item g l = All (λ item. HasForm l.form (g.T.Named.named item)) (take l.item-index l.items)
