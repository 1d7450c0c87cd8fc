use Rattle.std.proofs.Common.{sym, subst}
use Rattle.std.specs.Prelude.{MatchBool, IsTrue, ◌↔◌, IfOk}
use Rattle.std.proofs.lemmas.Result.{IfOk-weaker}
use Rattle.plan_defs.specs.Resources.{FitReusables}
use Rattle.db_resources.specs.Actors.{IsSoundView}
use Rattle.db_refusals.specs.Seeing.{Seen, seen_state}
use Rattle.db_resources.proofs.FittingStore.{sound}
use Rattle.db_resources.proofs.Looping.{told_bool}
use Rattle.db_resources.proofs.store_fit.uses_fit.Goals as goal

pub reusables_fit-requires-clause-sound : goal.reusables_fit-requires-clause-sound
reusables_fit-requires-clause-sound c =
    subst (λ (seen : Seen). IsSoundView seen.model seen.decisions (seen_state seen.stored)) (sym c.new.ensures)
    (sound c.args.model.now c.args.decisions.now c.args.store.now c.is_sound.ensures
    (c.settled_lists_decide_once.ensures c.args.model.now c.args.decisions.now c.requires.settled) c.requires.rest c.requires.lawful)

pub returns : goal.returns
returns c =
    let fits = FitReusables c.args.model.now c.args.decisions.now (seen_state c.args.store.now) in
    IfOk-weaker c.reusables_fit.result (λ fit. IsTrue fit ↔ fits) (λ fit. MatchBool fit fits (fits → ⊥)) (λ fit told. told_bool fit told)
    (subst (λ (seen : Seen). IfOk c.reusables_fit.result (λ fit. IsTrue fit ↔ FitReusables seen.model seen.decisions (seen_state seen.stored))) c.new.ensures c.reusables_fit.ensures)
