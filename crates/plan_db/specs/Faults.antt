-- What the reasons against a decision are answered as.
use Rattle.model_core.specs.declared.refusal.Refusal.{Refusal}
use Rattle.model_core.specs.declared.refusal.Refusal.TheVariants as reason
use Rattle.db_history.specs.declared.objection.Objection.{Objection}
use Rattle.db_history.specs.declared.objection.Objection.TheVariants.{Collapsed, Refused}
use Rattle.plan_db.specs.declared.fault.DbFault.{DbFault}
use Rattle.plan_db.specs.declared.fault.DbFault.TheVariants as fault

-- the fault of a decision that is refused for this reason
abbrev pub fault_for : Refusal → DbFault
fault_for reason.Unknown = fault.Unknown
fault_for reason.WrongType = fault.WrongType
fault_for reason.Decided = fault.Decided
fault_for reason.NotInDomain = fault.NotInDomain
fault_for reason.NotActive = fault.NotActive
fault_for reason.NotSamePredicate = fault.NotSamePredicate
fault_for reason.NotRejectable = fault.NotRejectable
fault_for reason.SameToken = fault.Same
fault_for reason.ActiveFull = fault.ActiveFull

-- and of one that may not be taken
abbrev pub fault_of : Objection → DbFault
fault_of Collapsed = fault.InInconsistent
fault_of (Refused reason) = fault_for reason
