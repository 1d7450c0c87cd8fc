use Rattle.std.proofs.Common.{◌≡◌, true, false, subst}
use Rattle.std.specs.Prelude.{MatchBool}
use Rattle.std.proofs.lemmas.Result.{IfOk-weaker}
use Rattle.plan_defs.specs.Closure.{IsLeast, IsCollapsed}
use Rattle.plan_defs.specs.Resources.{FitReusables, FitReservoirs}
use Rattle.db_refusals.specs.Seeing.{seen_state}
use Rattle.db_resources.proofs.FittingStore.{least_told, unfit_uses}
use Rattle.db_resources.proofs.store_fit.resources_fit.Goals as goal

pub returns-then-not-branch : goal.returns-then-not-branch
returns-then-not-branch c =
    let uses = FitReusables c.args.model.now c.args.decisions.now (seen_state c.args.store.now) in
    let misfit : c.in_ok-uses_fit.field-0 ≡ false = let is = c.if-not-branch.true in cc in
    unfit_uses c.args.model.now c.args.decisions.now c.args.store.now c.is_sound.ensures
    (c.settled_lists_decide_once.ensures c.args.model.now c.args.decisions.now c.requires.settled) c.requires.rest c.requires.settled c.resources_decide.ensures
    (subst (λ answer. MatchBool answer uses (uses → ⊥)) misfit c.in_ok-uses_fit.ensures)

pub returns : goal.returns
returns c =
    let model = c.args.model.now in
    let decisions = c.args.decisions.now in
    let state = seen_state c.args.store.now in
    let once = c.settled_lists_decide_once.ensures model decisions c.requires.settled in
    let uses = FitReusables model decisions state in
    let levels = FitReservoirs model decisions state in
    let fit : c.in_ok-uses_fit.field-0 ≡ true = let is = c.if-not-branch.false in cc in
    let used = subst (λ answer. MatchBool answer uses (uses → ⊥)) fit c.in_ok-uses_fit.ensures in
    IfOk-weaker c.levels_fit.result (λ told. MatchBool told levels (levels → ⊥)) (λ told. MatchBool told (IsLeast model decisions state) (IsCollapsed model decisions))
    (λ told is. least_told model decisions c.args.store.now c.is_sound.ensures once c.requires.rest c.requires.settled c.resources_decide.ensures used told is)
    c.levels_fit.ensures
