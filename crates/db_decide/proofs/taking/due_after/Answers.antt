use Rattle.std.proofs.Common.{◌≡◌, Some, slice_get, inl, sym, subst}
use Rattle.std.proofs.lemmas.Result.{IfOk-weaker}
use Rattle.eu_name.specs.declared.name.TokenName.{TokenName}
use Rattle.eu_name.specs.declared.name.VarName.TheVariants.{Token}
use Rattle.db_posting.specs.Origins.{content_now}
use Rattle.db_decide.proofs.Numbering.{takes_activated, takes_merged, takes_other}
use Rattle.db_decide.proofs.taking.due_after.Goals as goal

pub parts_due-requires-clause-there : goal.parts_due-requires-clause-there
parts_due-requires-clause-there c = c.requires.there c.in-Activate.token (inl c.in-Activate.is)

pub returns-in-Activate : goal.returns-in-Activate
returns-in-Activate c =
    IfOk-weaker c.parts_due.result _ _
    (λ due all token part number takes at. all part number
    (subst (λ (t : TokenName). slice_get (content_now c.args.store.now).names number ≡ Some (Token t part))
    (sym (takes_activated c.args.decision.now c.in-Activate.token token c.in-Activate.is takes)) at)) c.parts_due.ensures

pub returns-in-Merge : goal.returns-in-Merge
returns-in-Merge c =
    IfOk-weaker c.parts_due-in-Merge.result _ _
    (λ due all token part number takes at. all part number
    (subst (λ (t : TokenName). slice_get (content_now c.args.store.now).names number ≡ Some (Token t part))
    (sym (takes_merged c.args.decision.now c.in-Merge.token _ token c.in-Merge.is takes)) at)) c.parts_due-in-Merge.ensures

pub returns-in_default : goal.returns-in_default
returns-in_default c = λ token part number takes at. absurd (takes_other c.args.decision.now token c.in_default.not-Activate c.in_default.not-Merge takes)
