-- A term has one meaning where it stands.
use Rattle.std.proofs.Common.{◌≡◌, sym, ◌∙◌}
use Rattle.model_core.specs.declared.item.Term.{Term}
use Rattle.model_core.specs.declared.item.Term.TheVariants.{Lit, Here, Slot, Local, Global, Root}
use Rattle.plan_defs.specs.Terms.{Context, InProblem, InRule, Argument, Means}

pub means_once : (context : Context) (term : Term) (one other : Argument) → Means context term one → Means context term other → one ≡ other
means_once context (Lit value) one other p q = p ∙ sym q
means_once context (Global number) one other p q = p ∙ sym q
means_once context (Root number part) one other p q = p ∙ sym q
means_once (InRule token rule) (Here part) one other p q = p ∙ sym q
means_once (InRule token rule) (Slot number part) one other p q = p ∙ sym q
means_once (InRule token rule) (Local number) one other p q = p ∙ sym q
means_once InProblem (Here part) one other p q = absurd p
means_once InProblem (Slot number part) one other p q = absurd p
means_once InProblem (Local number) one other p q = absurd p
