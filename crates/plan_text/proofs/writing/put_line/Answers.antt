use Rattle.std.proofs.Common.{ℤ, List, ap, sym, ◌∙◌, subst}
use Rattle.std.specs.Prelude.{OnOk}
use Rattle.plan_defs.specs.declared.plan.Line.{Line}
use Rattle.plan_defs.specs.declared.plan.Line.TheVariants as lines
use Rattle.plan_text.specs.declared.statement.Statement.TheVariants.{Of}
use Rattle.plan_text.specs.Writing.{AddsLine}
use Rattle.plan_text.proofs.LocalValues.{local_kept}
use Rattle.plan_text.proofs.writing.put_line.Goals as goal

pub returns-in-Token : goal.returns-in-Token
returns-in-Token c =
    subst (λ (l : Line). OnOk c.put_active.result (AddsLine c.args.model.now (Of l) c.args.out.now.items c.put_active.new.out.items))
    (ap (λ (vs : List ℤ). lines.Token c.in-Token.name c.in-Token.fact vs) c.as_slice.ensures ∙ sym c.in-Token.is) c.put_active.ensures

pub returns-in-Merged : goal.returns-in-Merged
returns-in-Merged c =
    subst (λ (l : Line). OnOk c.put_merged.result (AddsLine c.args.model.now (Of l) c.args.out.now.items c.put_merged.new.out.items)) (sym c.in-Merged.is) c.put_merged.ensures

pub returns-in-Rejected : goal.returns-in-Rejected
returns-in-Rejected c =
    subst (λ (l : Line). OnOk c.put_rejected.result (AddsLine c.args.model.now (Of l) c.args.out.now.items c.put_rejected.new.out.items)) (sym c.in-Rejected.is) c.put_rejected.ensures

pub returns-in-Local : goal.returns-in-Local
returns-in-Local c =
    subst (λ (l : Line). OnOk c.put_local.result (AddsLine c.args.model.now (Of l) c.args.out.now.items c.put_local.new.out.items))
    (ap (λ (v : ℤ). lines.Local c.in-Local.name v) (local_kept c.args.model.now c.args.line.now c.in-Local.name c.in-Local.value c.requires.lawful c.in-Local.is c.requires.line) ∙ sym c.in-Local.is) c.put_local.ensures
