use Rattle.std.proofs.Common.{sym, subst}
use Rattle.std.specs.Prelude.{IfOk, MatchOption}
use Rattle.eu_name.specs.declared.name.VarName.{VarName}
use Rattle.plan_defs.specs.Terms.{Variable}
use Rattle.db_edges.specs.declared.edge.Point.{Point}
use Rattle.db_edges.specs.Points.{IsArgumentPoint}
use Rattle.db_edges.proofs.posting.variable_point.Goals as goal

pub returns-in-Token : goal.returns-in-Token
returns-in-Token c =
    let model = c.args.at.model.now in
    let decisions = c.args.at.decisions.now in
    subst (λ (name : VarName). IfOk c.point_of.result (λ found. MatchOption found
    ((point : Point) → IsArgumentPoint model decisions (Variable name) point → ⊥) (IsArgumentPoint model decisions (Variable name)))) (sym c.in-Token.is)
    c.point_of.ensures
