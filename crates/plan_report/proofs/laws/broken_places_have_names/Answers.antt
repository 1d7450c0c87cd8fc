use Rattle.plan_report.proofs.Ranging.{place_named}
use Rattle.plan_report.proofs.laws.broken_places_have_names.Goals as goal

pub returns : goal.returns
returns c = λ model plan clause place lawful is_plan broken. place_named model plan lawful is_plan clause place broken
