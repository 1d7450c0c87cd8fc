use Rattle.std.proofs.lemmas.Result.{IfOk-weaker}
use Rattle.db_edges.specs.Sites.{context_at}
use Rattle.db_edges.proofs.Pointing.{some_told, term_point}
use Rattle.db_edges.proofs.comparing.point_meant.Goals as goal

pub returns-in-Some : goal.returns-in-Some
returns-in-Some c =
    IfOk-weaker c.point_of.result _ _
    (λ found told. term_point c.args.at.model.now c.args.at.decisions.now (context_at c.args.site) c.args.term c.in-Some.named.token c.in-Some.named.part found (some_told c.in_ok-named.field-0 _ _ c.in-Some.named c.in-Some.is c.in_ok-named.ensures) told)
    c.point_of.ensures
