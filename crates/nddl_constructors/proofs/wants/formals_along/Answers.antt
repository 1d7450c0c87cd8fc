use Rattle.std.proofs.Common.{◌-◌, ◌+◌, length, sym, ◌∙◌, ap, map}
use Rattle.std.specs.Option.{option_copied}
use Rattle.eu_forest.specs.Ancestors.{ancestry, line_from}
use Rattle.nddl_constructors.specs.Wants.{line_formals}
use Rattle.nddl_constructors.proofs.Seeking.{formals_end, formals_step}
use Rattle.nddl_constructors.proofs.wants.formals_along.Goals as goal

pub loop-preserved : goal.loop-preserved
loop-preserved c =
    let names = c.args.scope.now in
    let program = map (λ decl. decl.now) c.args.decls.now in
    let parents = c.args.parents.now in
    ap (λ next. line_formals names program (line_from (length parents - (c.loop.counter + 1)) parents next)) c.parent_in-next.ensures
    ∙ formals_step names program parents (length parents) c.loop.counter c.in-Some.here
    (line_formals names program (ancestry parents c.args.entry)) c.loop-test.true (rw c.in-Some.is at c.loop.invariant)
    (sym c.formals_at.ensures ∙ ap option_copied c.in-None-formals_at.is)

pub returns : goal.returns
returns c =
    let names = c.args.scope.now in
    let program = map (λ decl. decl.now) c.args.decls.now in
    let parents = c.args.parents.now in
    formals_end names program parents (length parents) c.loop.counter c.loop.next
    (line_formals names program (ancestry parents c.args.entry)) c.loop-test.false c.loop.invariant
