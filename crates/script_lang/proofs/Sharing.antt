-- What a decision shares with the one that was asked for and for which it stands.
use Rattle.std.proofs.Common.{◌≡◌, ◌⊎◌, ℤ, List, [], ◌∷◌, refl, sym, subst, inl, inr}
use Rattle.std.specs.Prelude.{Contains}
use Rattle.domain_core.specs.declared.kind.Kind.{Kind}
use Rattle.domain_core.specs.Domain.{IsValue}
use Rattle.domain_core.proofs.Words.{has_value}
use Rattle.eu_name.specs.declared.name.VarName.{VarName}
use Rattle.model_core.specs.declared.decision.ConArg.{ConArg}
use Rattle.model_core.specs.declared.decision.ConArg.TheVariants.{Var, Value}
use Rattle.model_core.specs.declared.decision.Decision.{Decision}
use Rattle.model_core.specs.declared.decision.Decision.TheVariants as decisions
use Rattle.model_core.specs.declared.model.Model.{Model}
use Rattle.model_core.specs.Lawful.{IsLawful}
use Rattle.model_core.specs.State.{State}
use Rattle.model_core.specs.Decided.{IsTaken}
use Rattle.plan_defs.specs.Refusals.{IsDeclared, Hinders, IsRefused, IsAdmissible}
use Rattle.plan_defs.specs.Settling.{IsSettled}
use Rattle.model_core.specs.declared.refusal.Refusal.TheVariants.{Unknown, WrongType, Decided, NotInDomain, NotActive, NotSamePredicate, NotRejectable, SameToken, ActiveFull}
use Rattle.model_core.specs.declared.refusal.Refusal.{Refusal}
use Rattle.model_core.proofs.Lawful.{base_lawful}
use Rattle.plan_defs.proofs.Admitting.{admitted}
use Rattle.script_lang.specs.Naming.{StandsFor, StandsForArgument, StandForArguments, StandsForDecision}
use Rattle.script_lang.proofs.Standing.{stands_back, arguments_back, same_or_outside, takes_moves, taken_within, all_known, all_count}

declared_value : (model : Model) (name : VarName) (value : ℤ) → IsLawful model → IsDeclared model name value → IsValue value
declared_value model name value lawful (base, has, inside) = has_value base value (base_lawful model lawful name base has) inside

declared_alike : (model : Model) (name : VarName) (value number : ℤ) → IsLawful model → StandsFor value number → IsDeclared model name number → IsDeclared model name value
declared_alike model name value number lawful (inl same) declared = subst (IsDeclared model name) (sym same) declared
declared_alike model name value number lawful (inr (out, out')) declared = absurd (out' (declared_value model name number lawful declared))

module _ (model : Model) (list : List Decision) (state : State) (name : VarName) (lawful : IsLawful model) where
  hinders_alike : (value number : ℤ) (reason : Refusal) → StandsFor value number → Hinders model list state reason (decisions.Specify name value)
      → Hinders model list state reason (decisions.Specify name number)
  hinders_alike value number Unknown stands hinders = hinders
  hinders_alike value number WrongType stands hinders = absurd hinders
  hinders_alike value number Decided stands hinders = hinders
  hinders_alike value number NotInDomain stands hinders = λ declared. hinders (declared_alike model name value number lawful stands declared)
  hinders_alike value number NotActive stands hinders = hinders
  hinders_alike value number NotSamePredicate stands hinders = absurd hinders
  hinders_alike value number NotRejectable stands hinders = absurd hinders
  hinders_alike value number SameToken stands hinders = absurd hinders
  hinders_alike value number ActiveFull stands hinders = absurd hinders

-- ---- decisions that may be taken

pub admitted_is_asked : (model : Model) (list : List Decision) (decision asked : Decision) → IsLawful model → StandsForDecision decision asked → IsAdmissible model list decision → decision ≡ asked
admitted_is_asked model list (decisions.Specify name value) (decisions.Specify name' number) lawful (same, inl equal) admissible = cc
admitted_is_asked model list (decisions.Specify name value) (decisions.Specify name' number) lawful (same, inr (out, out')) admissible =
    absurd (admissible.free NotInDomain (λ declared. out (declared_value model name value lawful declared)))
admitted_is_asked model list (decisions.Constrain kind given) (decisions.Constrain kind' asked) lawful (same, stand) admissible =
    same_or_outside (decisions.Constrain kind given ≡ decisions.Constrain kind' asked) given asked stand (λ equal. cc)
    (λ out out'. absurd (admissible.free NotInDomain (λ takes. out (taken_within model lawful kind given takes))))
admitted_is_asked model list decision asked lawful same admissible = same

argument_itself : (argument : ConArg) → StandsForArgument argument argument
argument_itself (Var name) = refl
argument_itself (Value value) = inl refl

arguments_themselves : (arguments : List ConArg) → StandForArguments arguments arguments
arguments_themselves [] = tt
arguments_themselves (argument ∷ arguments) = (argument_itself argument, arguments_themselves arguments)

pub stands_itself : (decision : Decision) → StandsForDecision decision decision
stands_itself (decisions.Specify name value) = (refl, inl refl)
stands_itself (decisions.Constrain kind arguments) = (refl, arguments_themselves arguments)
stands_itself decision = refl

stands_decision_back : (decision asked : Decision) → StandsForDecision decision asked → StandsForDecision asked decision
stands_decision_back (decisions.Specify name value) (decisions.Specify name' number) (same, stands) = (sym same, stands_back value number stands)
stands_decision_back (decisions.Constrain kind given) (decisions.Constrain kind' asked) (same, stand) = (sym same, arguments_back given asked stand)
stands_decision_back decision asked same = subst (λ (d : Decision). StandsForDecision d decision) same (stands_itself decision)

-- what stands in a settled list is what was asked for
module _ (model : Model) (list : List Decision) (lawful : IsLawful model) (settled : IsSettled model list) where
  pub standing_is_asked : (decision asked : Decision) → StandsForDecision decision asked → Contains list decision ⊎ Contains list asked → decision ≡ asked
  standing_is_asked decision asked stands (inl there) =
      let is = admitted model list decision settled there in
      admitted_is_asked model is.front decision asked lawful stands is.admissible
  standing_is_asked decision asked stands (inr there) =
      let is = admitted model list asked settled there in
      sym (admitted_is_asked model is.front asked decision lawful (stands_decision_back decision asked stands) is.admissible)

  module _ (state : State) (kind : Kind) where
    posting_alike : (given asked : List ConArg) (reason : Refusal) → StandForArguments given asked → Hinders model list state reason (decisions.Constrain kind given)
        → Hinders model list state reason (decisions.Constrain kind asked)
    posting_alike given asked Unknown stand hinders = λ known. hinders (all_known state asked given (arguments_back given asked stand) known)
    posting_alike given asked WrongType stand hinders = λ takes. hinders (takes_moves model kind asked given (arguments_back given asked stand) takes)
    posting_alike given asked Decided stand hinders =
        subst (Contains list) (standing_is_asked (decisions.Constrain kind given) (decisions.Constrain kind asked) (refl, stand) (inl hinders)) hinders
    posting_alike given asked NotInDomain stand hinders =
        same_or_outside (Hinders model list state NotInDomain (decisions.Constrain kind asked)) given asked stand
        (λ same. subst (λ (arguments : List ConArg). Hinders model list state NotInDomain (decisions.Constrain kind arguments)) same hinders)
        (λ out out' takes. out' (taken_within model lawful kind asked takes))
    posting_alike given asked NotActive stand hinders = λ counts. hinders (all_count model (IsTaken list) asked given (arguments_back given asked stand) counts)
    posting_alike given asked NotSamePredicate stand hinders = absurd hinders
    posting_alike given asked NotRejectable stand hinders = absurd hinders
    posting_alike given asked SameToken stand hinders = absurd hinders
    posting_alike given asked ActiveFull stand hinders = absurd hinders

-- ---- decisions that are refused

pub refused_as_asked : (model : Model) (list : List Decision) (decision asked : Decision) (reason : Refusal) → IsLawful model → IsSettled model list → StandsForDecision decision asked
    → IsRefused model list decision reason → IsRefused model list asked reason
refused_as_asked model list (decisions.Specify name value) (decisions.Specify name' number) reason lawful settled (same, stands) refused =
    subst (λ (n : VarName). IsRefused model list (decisions.Specify n number) reason) same (record {
      state = refused.state;
      least = refused.least;
      refusal = record {
        hinders = hinders_alike model list refused.state name lawful value number reason stands refused.refusal.hinders;
        first = λ earlier less hinders. refused.refusal.first earlier less (hinders_alike model list refused.state name lawful number value earlier (stands_back value number stands) hinders);
      };
    })
refused_as_asked model list (decisions.Constrain kind given) (decisions.Constrain kind' asked) reason lawful settled (same, stand) refused =
    subst (λ (k : Kind). IsRefused model list (decisions.Constrain k asked) reason) same (record {
      state = refused.state;
      least = refused.least;
      refusal = record {
        hinders = posting_alike model list lawful settled refused.state kind given asked reason stand refused.refusal.hinders;
        first = λ earlier less hinders. refused.refusal.first earlier less (posting_alike model list lawful settled refused.state kind asked given earlier (arguments_back given asked stand) hinders);
      };
    })
refused_as_asked model list decision asked reason lawful settled same refused = subst (λ (d : Decision). IsRefused model list d reason) same refused
