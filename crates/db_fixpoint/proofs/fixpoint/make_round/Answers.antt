use Rattle.std.proofs.Common.{◌≡◌, length, sym, ap, subst, arith}
use Rattle.std.specs.Prelude.{OnOk}
use Rattle.std.proofs.lemmas.Result.{err_from_is_err_and}
use Rattle.db_store.specs.Stores.{Stored}
use Rattle.db_fixpoint.specs.Fixpoint.{CanGoOn, MakesRound}
use Rattle.db_fixpoint.proofs.Resting.{unfolds_on, unfold_fails, round_fails, round_on, none_heeded}
use Rattle.db_fixpoint.proofs.Seated.{kept_on, kept_both}
use Rattle.db_fixpoint.proofs.fixpoint.make_round.Goals as goal

pub unfold-requires-clause-underway : goal.unfold-requires-clause-underway
unfold-requires-clause-underway c = (c.requires.way.0, (c.args.store.now.net.changed, c.requires.way.1.underway))

pub returns-in_err-unfold-clause-round : goal.returns-in_err-unfold-clause-round
returns-in_err-unfold-clause-round c =
    let p = err_from_is_err_and c.from_residual.result c.from_residual.ensures.1 in
    rw (p.1, p.2)
    (unfold_fails c.args.model.now c.args.unfolded c.args.store.now c.unfold.new.store c.in_err-unfold.field-0.0 c.in_err-unfold.ensures.unfolds)

pub returns-then-unfolded-blocks-clause-round : goal.returns-then-unfolded-blocks-clause-round
returns-then-unfolded-blocks-clause-round c =
    unfolds_on c.args.model.now c.args.unfolded c.args.store.now c.unfold.new.store c.in_ok-unfold.ensures.unfolds c.in_ok-unfold.ensures.adds.changed

pub returns-in_err-heeded-clause-round : goal.returns-in_err-heeded-clause-round
returns-in_err-heeded-clause-round c =
    let p = err_from_is_err_and c.from_residual-in_err-heeded.result c.from_residual-in_err-heeded.ensures.1 in
    rw (p.1, p.2)
    (round_fails c.args.model.now c.args.unfolded c.args.store.now c.heed_next.new.store c.in_err-heeded.field-0.0 c.in_err-heeded.ensures.heeds)

pub returns-then-heeded-clause-round : goal.returns-then-heeded-clause-round
returns-then-heeded-clause-round c =
    round_on c.args.model.now c.args.unfolded c.args.store.now c.heed_next.new.store c.in_ok-heeded.heeded c.if-heeded.true c.in_ok-heeded.ensures.heeds

pub propagate-requires-clause-way : goal.propagate-requires-clause-way
propagate-requires-clause-way c =
    let none = none_heeded c.args.model.now c.args.unfolded c.args.store.now c.heed_next.new.store c.in_ok-heeded.heeded c.if-heeded.false c.in_ok-heeded.ensures.heeds in
    subst (λ (stored : Stored). CanGoOn c.args.model.now stored c.args.unfolded) (sym none) c.requires.way

pub propagate-requires-clause-all : goal.propagate-requires-clause-all
propagate-requires-clause-all c =
    let none = none_heeded c.args.model.now c.args.unfolded c.args.store.now c.heed_next.new.store c.in_ok-heeded.heeded c.if-heeded.false c.in_ok-heeded.ensures.heeds in
    omega (arith, ap (λ (stored : Stored). length stored.blocks) none, c.block_count-blocks.ensures, c.if-unfolded-blocks.false)

pub returns-clause-round : goal.returns-clause-round
returns-clause-round c =
    let none = none_heeded c.args.model.now c.args.unfolded c.args.store.now c.heed_next.new.store c.in_ok-heeded.heeded c.if-heeded.false c.in_ok-heeded.ensures.heeds in
    subst (λ (stored : Stored). MakesRound c.args.model.now c.args.unfolded stored c.propagate.result c.propagate.new.store) none c.propagate.ensures.round

pub returns-clause-tables : goal.returns-clause-tables
returns-clause-tables c =
    let none = none_heeded c.args.model.now c.args.unfolded c.args.store.now c.heed_next.new.store c.in_ok-heeded.heeded c.if-heeded.false c.in_ok-heeded.ensures.heeds in
    subst (λ (stored : Stored). OnOk c.propagate.result (c.propagate.new.store.net.tables ≡ stored.net.tables)) none c.propagate.ensures.tables

pub returns-in_err-unfold-clause-seated : goal.returns-in_err-unfold-clause-seated
returns-in_err-unfold-clause-seated c =
    kept_on c.args.store.now c.unfold.new.store c.args.seating.now c.in_err-unfold.ensures.marks c.requires.seated

pub returns-then-unfolded-blocks-clause-seated : goal.returns-then-unfolded-blocks-clause-seated
returns-then-unfolded-blocks-clause-seated c =
    kept_on c.args.store.now c.unfold.new.store c.args.seating.now c.in_ok-unfold.ensures.marks c.requires.seated

pub propagate-requires-clause-seated : goal.propagate-requires-clause-seated
propagate-requires-clause-seated c = c.in_ok-heeded.ensures.seated.is

pub returns-clause-seated : goal.returns-clause-seated
returns-clause-seated c =
    kept_both c.args.seating.now c.heed_next.new.seating c.propagate.new.seating c.heed_next.new.store c.propagate.new.store c.in_ok-heeded.ensures.seated
    c.propagate.ensures.seated
