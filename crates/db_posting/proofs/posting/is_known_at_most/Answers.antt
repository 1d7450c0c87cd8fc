use Rattle.std.proofs.Common.{[], ◌∷◌, refl, subst}
use Rattle.std.specs.Prelude.{Contains}
use Rattle.domain_core.specs.declared.kind.Kind.TheVariants.{Leq}
use Rattle.constraint_net.specs.Networks.{Network}
use Rattle.constraint_net.specs.declared.constraint.Constraint.{Constraint}
use Rattle.db_posting.proofs.posting.is_known_at_most.Goals as goal

pub returns : goal.returns
returns c = λ known.
    let constraint : Constraint = record { kind = Leq; args = c.part_argument.result ∷ c.part_argument-2.result ∷ [] } in (
      constraint,
      subst (λ (net : Network). Contains net.constraints constraint) c.net.ensures (c.is_known.ensures known),
      record { kind = refl; arguments = (c.part_argument.ensures, (c.part_argument-2.ensures, tt)) },
    )
