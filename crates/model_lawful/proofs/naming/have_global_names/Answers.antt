use Rattle.std.proofs.Common.{sym, subst}
use Rattle.model_core.specs.declared.variable.VarDecl.{VarDecl}
use Rattle.model_core.specs.Naming.{IsGlobalName}
use Rattle.model_typing.proofs.Telling.{told_false, told_not, told_so}
use Rattle.model_lawful.proofs.Counting.{below_more_items, below_not, below_whole}
use Rattle.model_lawful.proofs.naming.have_global_names.Goals as goal

pub returns-then-not-branch : goal.returns-then-not-branch
returns-then-not-branch c = told_not _
    (below_not (λ number (v : VarDecl). IsGlobalName number v.name) c.args.globals.now c.loop-number.number c.index-globals-number.result c.loop-number-test.true c.index-globals-number.is
    (λ is. told_false c.in_ok-is_global_name.field-0 _ c.if-not-branch.true c.in_ok-is_global_name.ensures (subst (IsGlobalName c.loop-number.number) (sym c.as_bytes.ensures) is)))

pub loop-number-preserved : goal.loop-number-preserved
loop-number-preserved c =
    below_more_items (λ number (v : VarDecl). IsGlobalName number v.name) c.args.globals.now c.loop-number.number c.index-globals-number.result c.loop-number-test.true c.index-globals-number.is
    (subst (IsGlobalName c.loop-number.number) c.as_bytes.ensures (c.in_ok-is_global_name.ensures.0 c.if-not-branch.false)) c.loop-number.invariant

pub returns : goal.returns
returns c = told_so _ (below_whole (λ number (v : VarDecl). IsGlobalName number v.name) c.args.globals.now c.loop-number.number c.loop-number-test.false c.loop-number.invariant)
