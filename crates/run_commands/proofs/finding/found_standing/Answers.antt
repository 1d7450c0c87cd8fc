use Rattle.std.proofs.Common.{sym, ◌∙◌}
use Rattle.session_replies.proofs.Seen.{found_seen, seen_flawless, seen_least}
use Rattle.run_commands.proofs.Found.{standing_told}
use Rattle.run_commands.proofs.finding.found_standing.Goals as goal

pub found_state-requires-clause-model : goal.found_state-requires-clause-model
found_state-requires-clause-model c = c.in-Ok.ensures.model ∙ sym c.model.ensures.model

pub found_state-requires-clause-least : goal.found_state-requires-clause-least
found_state-requires-clause-least c = seen_least c.args.db.now c.in-Ok.view c.in-Ok.ensures c.model.ensures.sound c.model.result.now c.model.ensures.model

pub found_state-requires-clause-flawless : goal.found_state-requires-clause-flawless
found_state-requires-clause-flawless c =
    seen_flawless c.args.db.now c.in-Ok.view c.in-Ok.ensures c.model.result.now c.model.ensures.model c.args.visits c.requires.found

pub returns : goal.returns
returns c =
    standing_told c.args.db.now c.in-Ok.view c.model.result.now c.args.visits c.found_state.result c.in-Ok.ensures c.model.ensures.model c.found_state.ensures

pub unreachable-requires : goal.unreachable-requires
unreachable-requires c = found_seen c.args.db.now c.args.visits c.in-Err._fault c.requires.ready c.requires.found c.in-Err.ensures
