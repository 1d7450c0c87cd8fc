use Rattle.db_opening.specs.Parts.{slot_asked}
use Rattle.db_opening.proofs.Parting.{times_there, duration_there, token_brought}
use Rattle.db_posting.proofs.Storing.{marks_both}
use Rattle.db_opening.proofs.tokens.bring_new.Goals as goal

pub post_lasts-requires-clause-times : goal.post_lasts-requires-clause-times
post_lasts-requires-clause-times c =
    times_there c.args.model.now c.args.token.now (slot_asked c.asked_for-asked.result) c.asked_for-asked.ensures c.in_ok-place.place c.args.store.now c.begin_token.new.store
    c.bring_all_parts.new.store c.in_ok-place.ensures.begins c.in_ok-bring_all_parts.ensures.brings

pub post_lasts-requires-clause-duration : goal.post_lasts-requires-clause-duration
post_lasts-requires-clause-duration c =
    duration_there c.args.model.now c.args.token.now (slot_asked c.asked_for-asked.result) c.asked_for-asked.ensures c.in_ok-place.place c.args.store.now c.begin_token.new.store
    c.bring_all_parts.new.store c.in_ok-place.ensures.begins c.in_ok-bring_all_parts.ensures.brings

pub returns-in_err-post_lasts-clause-marks : goal.returns-in_err-post_lasts-clause-marks
returns-in_err-post_lasts-clause-marks c =
    marks_both _ _ _ (marks_both _ _ _ c.in_ok-place.ensures.marks c.in_ok-bring_all_parts.ensures.marks) c.in_err-post_lasts.ensures.marks

pub returns-clause-brings : goal.returns-clause-brings
returns-clause-brings c =
    token_brought c.args.model.now c.args.token.now (slot_asked c.asked_for-asked.result) c.asked_for-asked.ensures c.in_ok-place.place c.args.store.now c.begin_token.new.store
    c.bring_all_parts.new.store c.in_ok-place.ensures.begins c.in_ok-bring_all_parts.ensures.brings c.post_lasts.new.store c.requires.fresh c.in_ok-post_lasts.ensures.posted
    c.in_ok-post_lasts.ensures.only

pub returns-clause-marks : goal.returns-clause-marks
returns-clause-marks c =
    marks_both _ _ _ (marks_both _ _ _ c.in_ok-place.ensures.marks c.in_ok-bring_all_parts.ensures.marks) c.in_ok-post_lasts.ensures.marks
