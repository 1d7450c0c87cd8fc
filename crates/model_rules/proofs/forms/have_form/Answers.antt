use Rattle.std.proofs.Common.{refl, sym, ◌∙◌, subst}
use Rattle.std.proofs.lemmas.List.Elements.{All-more}
use Rattle.model_rules.specs.Forms.{HasForm}
use Rattle.model_rules.proofs.Pathing.{never, false_never, true_surely}
use Rattle.model_rules.proofs.Taking.{not_at, all_taken}
use Rattle.model_rules.proofs.forms.have_form.Goals as goal

pub returns-then-not-has_form : goal.returns-then-not-has_form
returns-then-not-has_form g c = false_never _ (λ all.
    not_at (HasForm c.args.form) g.T.Named.named c.args.items.now c.loop-item.item-index c.item-item.result c.loop-item-test.true c.item-item.is
    (λ is. never _ c.if-not-has_form.ensures (subst (HasForm c.args.form) (sym (c.as_bytes.ensures ∙ c.name.ensures)) is)) all)

pub loop-item-preserved : goal.loop-item-preserved
loop-item-preserved g c =
    All-more (λ item. HasForm c.args.form (g.T.Named.named item)) c.args.items.now c.loop-item.item-index c.item-item.result c.loop-item-test.true c.loop-item.invariant
    (subst (λ item. HasForm c.args.form (g.T.Named.named item)) c.item-item.is
    (subst (HasForm c.args.form) (c.as_bytes.ensures ∙ c.name.ensures) (c.if-not-has_form.ensures.0 refl)))

pub returns : goal.returns
returns g c = true_surely _ (all_taken (HasForm c.args.form) g.T.Named.named c.args.items.now c.loop-item.item-index c.loop-item-test.false c.loop-item.invariant)
