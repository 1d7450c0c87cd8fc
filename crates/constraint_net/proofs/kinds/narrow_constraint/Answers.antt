use Rattle.std.proofs.Common.{◌<◌, length, refl, subst}
use Rattle.std.proofs.lemmas.Option.{slice_get_read}
use Rattle.domain_core.specs.declared.kind.Kind.TheVariants as kind
use Rattle.cell_store.specs.Cells.{present}
use Rattle.constraint_net.specs.Moves.{SinksAt}
use Rattle.constraint_net.specs.Networks.{IsAllowed}
use Rattle.constraint_net.proofs.Meaning.{for_kind, for_field}
use Rattle.constraint_net.proofs.kinds.narrow_constraint.Goals as goal

pub returns-in-Eq-clause-steps : goal.returns-in-Eq-clause-steps
returns-in-Eq-clause-steps c =
    let step = c.narrow in
    for_kind c.args.tables.now c.args.constraint.now kind.Eq c.as_slice-args.result.now (present c.args.domains.now.cells) (present step.new.self.cells) step.result c.in-Eq.is c.as_slice-args.ensures step.ensures.steps

pub returns-in-Neq-clause-steps : goal.returns-in-Neq-clause-steps
returns-in-Neq-clause-steps c =
    let step = c.narrow-in-Neq in
    for_kind c.args.tables.now c.args.constraint.now kind.Neq c.as_slice-args.result.now (present c.args.domains.now.cells) (present step.new.self.cells) step.result c.in-Neq.is c.as_slice-args.ensures step.ensures.steps

pub returns-in-Lt-clause-steps : goal.returns-in-Lt-clause-steps
returns-in-Lt-clause-steps c =
    let step = c.narrow-in-Lt in
    for_kind c.args.tables.now c.args.constraint.now kind.Lt c.as_slice-args.result.now (present c.args.domains.now.cells) (present step.new.self.cells) step.result c.in-Lt.is c.as_slice-args.ensures step.ensures.steps

pub returns-in-Leq-clause-steps : goal.returns-in-Leq-clause-steps
returns-in-Leq-clause-steps c =
    let step = c.narrow-in-Leq in
    for_kind c.args.tables.now c.args.constraint.now kind.Leq c.as_slice-args.result.now (present c.args.domains.now.cells) (present step.new.self.cells) step.result c.in-Leq.is c.as_slice-args.ensures step.ensures.steps

pub returns-in-AddEq-clause-steps : goal.returns-in-AddEq-clause-steps
returns-in-AddEq-clause-steps c =
    let step = c.narrow-in-AddEq in
    for_kind c.args.tables.now c.args.constraint.now kind.AddEq c.as_slice-args.result.now (present c.args.domains.now.cells) (present step.new.self.cells) step.result c.in-AddEq.is c.as_slice-args.ensures step.ensures.steps

pub returns-in-TestEq-clause-steps : goal.returns-in-TestEq-clause-steps
returns-in-TestEq-clause-steps c =
    let step = c.narrow-in-TestEq in
    for_kind c.args.tables.now c.args.constraint.now kind.TestEq c.as_slice-args.result.now (present c.args.domains.now.cells) (present step.new.self.cells) step.result c.in-TestEq.is c.as_slice-args.ensures step.ensures.steps

pub returns-in-TestLeq-clause-steps : goal.returns-in-TestLeq-clause-steps
returns-in-TestLeq-clause-steps c =
    let step = c.narrow-in-TestLeq in
    for_kind c.args.tables.now c.args.constraint.now kind.TestLeq c.as_slice-args.result.now (present c.args.domains.now.cells) (present step.new.self.cells) step.result c.in-TestLeq.is c.as_slice-args.ensures step.ensures.steps

pub returns-in-MulEq-clause-steps : goal.returns-in-MulEq-clause-steps
returns-in-MulEq-clause-steps c =
    let step = c.narrow_product in
    for_kind c.args.tables.now c.args.constraint.now kind.MulEq c.as_slice-args.result.now (present c.args.domains.now.cells) (present step.new.domains.cells) step.result c.in-MulEq.is c.as_slice-args.ensures step.ensures.steps

pub returns-in-Field-clause-steps : goal.returns-in-Field-clause-steps
returns-in-Field-clause-steps c =
    let tables = c.args.tables.now in
    let constraint = c.args.constraint.now in
    let number = c.in-Field.number in
    let step = c.narrow-in-Field in
    let table = c.index-tables-number.result in
    let old = present c.args.domains.now.cells in
    let new = (present step.new.self.cells) in
    let below : number < length tables = subst (λ k. IsAllowed tables k constraint.args) c.in-Field.is c.requires.posted.allowed in
    let found = slice_get_read tables (length tables) number table refl below c.index-tables-number.is in
    for_kind tables constraint (kind.Field number) c.as_slice-args.result.now old new step.result c.in-Field.is c.as_slice-args.ensures
    (for_field tables number table c.as_slice-args.result.now old new step.result found step.ensures.steps)

pub returns-in-Eq-clause-sinks : goal.returns-in-Eq-clause-sinks
returns-in-Eq-clause-sinks c = subst (λ args. SinksAt args c.args.since c.args.domains.now.cells c.narrow.new.self.cells) c.as_slice-args.ensures c.narrow.ensures.sinks

pub returns-in-Neq-clause-sinks : goal.returns-in-Neq-clause-sinks
returns-in-Neq-clause-sinks c = subst (λ args. SinksAt args c.args.since c.args.domains.now.cells c.narrow-in-Neq.new.self.cells) c.as_slice-args.ensures c.narrow-in-Neq.ensures.sinks

pub returns-in-Lt-clause-sinks : goal.returns-in-Lt-clause-sinks
returns-in-Lt-clause-sinks c = subst (λ args. SinksAt args c.args.since c.args.domains.now.cells c.narrow-in-Lt.new.self.cells) c.as_slice-args.ensures c.narrow-in-Lt.ensures.sinks

pub returns-in-Leq-clause-sinks : goal.returns-in-Leq-clause-sinks
returns-in-Leq-clause-sinks c = subst (λ args. SinksAt args c.args.since c.args.domains.now.cells c.narrow-in-Leq.new.self.cells) c.as_slice-args.ensures c.narrow-in-Leq.ensures.sinks

pub returns-in-AddEq-clause-sinks : goal.returns-in-AddEq-clause-sinks
returns-in-AddEq-clause-sinks c = subst (λ args. SinksAt args c.args.since c.args.domains.now.cells c.narrow-in-AddEq.new.self.cells) c.as_slice-args.ensures c.narrow-in-AddEq.ensures.sinks

pub returns-in-TestEq-clause-sinks : goal.returns-in-TestEq-clause-sinks
returns-in-TestEq-clause-sinks c = subst (λ args. SinksAt args c.args.since c.args.domains.now.cells c.narrow-in-TestEq.new.self.cells) c.as_slice-args.ensures c.narrow-in-TestEq.ensures.sinks

pub returns-in-TestLeq-clause-sinks : goal.returns-in-TestLeq-clause-sinks
returns-in-TestLeq-clause-sinks c = subst (λ args. SinksAt args c.args.since c.args.domains.now.cells c.narrow-in-TestLeq.new.self.cells) c.as_slice-args.ensures c.narrow-in-TestLeq.ensures.sinks

pub returns-in-MulEq-clause-sinks : goal.returns-in-MulEq-clause-sinks
returns-in-MulEq-clause-sinks c = subst (λ args. SinksAt args c.args.since c.args.domains.now.cells c.narrow_product.new.domains.cells) c.as_slice-args.ensures c.narrow_product.ensures.sinks

pub returns-in-Field-clause-sinks : goal.returns-in-Field-clause-sinks
returns-in-Field-clause-sinks c = subst (λ args. SinksAt args c.args.since c.args.domains.now.cells c.narrow-in-Field.new.self.cells) c.as_slice-args.ensures c.narrow-in-Field.ensures.sinks
