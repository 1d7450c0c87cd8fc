use Rattle.std.proofs.Common.{◌≡◌, true, false, refl}
use Rattle.std.proofs.lemmas.Result.{on_ok_weaker}
use Rattle.db_decide.proofs.Saying.{said_of_token, none_said_of}
use Rattle.db_decide.proofs.begun.post_begun.Goals as goal

pub returns-then-is_rejectable-clause-posted : goal.returns-then-is_rejectable-clause-posted
returns-then-is_rejectable-clause-posted c =
    on_ok_weaker c.post_anywhere.result
    (said_of_token c.args.model.now c.args.token.now (c.if-is_rejectable.ensures.0 refl) c.args.unfolded c.args.store.now c.post_anywhere.new.store) c.post_anywhere.ensures.posted

pub returns-else-is_rejectable-clause-posted : goal.returns-else-is_rejectable-clause-posted
returns-else-is_rejectable-clause-posted c =
    none_said_of c.args.model.now c.args.token.now c.args.unfolded (λ is. let told : false ≡ true = c.if-is_rejectable.ensures.1 is in cc) c.args.store.now
