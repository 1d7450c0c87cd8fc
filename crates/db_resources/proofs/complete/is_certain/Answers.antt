use Rattle.std.proofs.Common.{inl, ⊎_elim}
use Rattle.std.specs.Prelude.{MatchBool}
use Rattle.std.proofs.lemmas.Result.{IfOk-weaker}
use Rattle.plan_values.proofs.Matching.{match_bool}
use Rattle.db_resources.specs.Completeness.{IsOneOpen, IsCertainBranch}
use Rattle.db_resources.proofs.complete.is_certain.Goals as goal

pub returns : goal.returns
returns c =
    let behind = IsOneOpen c.args.store.now c.args.block.now c.args.place in
    let branch = IsCertainBranch c.args.model.now c.args.store.now c.args.block.now c.args.place c.args.guard in
    IfOk-weaker c.is_one_open.result (λ certain. MatchBool certain behind (behind → ⊥)) (λ certain. MatchBool certain branch (branch → ⊥))
    (λ certain told. match_bool certain behind branch (behind → ⊥) (branch → ⊥) (λ is. inl is) (λ none. ⊎_elim none c.if-names_one_out.ensures) told)
    c.is_one_open.ensures
