use Rattle.std.proofs.Common.{ℤ, w32, subst, arith}
use Rattle.std.proofs.lemmas.Int.{to_z-of_z}
use Rattle.domain_core.specs.Domain.{Range, IsDomain}
use Rattle.domain_core.specs.declared.Change.{Change}
use Rattle.constraint_net.specs.Limits.{LimitsAt}
use Rattle.eu_name.proofs.Members.{get_below}
use Rattle.db_posting.specs.Origins.{content_now}
use Rattle.db_posting.proofs.Naming.{names_long}
use Rattle.db_decide.proofs.Specifying.{emptied, no_value, specified, limits_to}
use Rattle.db_decide.proofs.specify.specify.Goals as goal

pub limit-requires : goal.limit-requires
limit-requires c =
    omega (arith, get_below (content_now c.args.store.now).names c.in-Some.number c.args.variable.now c.in-Some.ensures, names_long c.args.store.now c.is_sound.ensures)

pub returns-in_default-range-clause-takes : goal.returns-in_default-range-clause-takes
returns-in_default-range-clause-takes c = λ model decisions may.
    no_value model decisions c.args.variable.now c.args.value c.args.store.now c.in-Some.number c.in-Some.ensures may
    (subst (λ (value : ℤ). IsDomain (Range value value) → ⊥) (to_z-of_z w32 c.args.value c.ranges.value) c.in_default-range.ensures.none)

pub returns-in-Empty-clause-takes : goal.returns-in-Empty-clause-takes
returns-in-Empty-clause-takes c = λ model decisions may.
    emptied model decisions c.args.variable.now c.args.value c.args.store.now c.in-Some.number c.in-Some.ensures may c.limit.new.self.net.domains
    (subst (λ (change : Change). LimitsAt c.args.store.now.net.domains c.in-Some.number (Range c.args.value c.args.value) change c.limit.new.self.net.domains) c.in-Empty.is
    (limits_to c.args.store.now.net.domains c.limit.new.self.net.domains c.in-Some.number c.in-Some-range.only c.args.value _ (to_z-of_z w32 c.args.value c.ranges.value)
    c.in-Some-range.ensures.some.0 c.in_ok-limit.field-0 c.in_ok-limit.ensures.limited.0))

pub returns-in-Same-clause-takes : goal.returns-in-Same-clause-takes
returns-in-Same-clause-takes c = λ model decisions due may after.
    specified model decisions c.args.variable.now c.args.value c.args.store.now c.in-Some.number c.in-Some.ensures may c.limit.new.self c.in_ok-limit.field-0
    (limits_to c.args.store.now.net.domains c.limit.new.self.net.domains c.in-Some.number c.in-Some-range.only c.args.value _ (to_z-of_z w32 c.args.value c.ranges.value)
    c.in-Some-range.ensures.some.0 c.in_ok-limit.field-0 c.in_ok-limit.ensures.limited.0)
    c.in_ok-limit.ensures.limited.1 (λ e. let is = c.in-Same.is in cc) c.in_ok-limit.ensures.others due after

pub returns-clause-takes : goal.returns-clause-takes
returns-clause-takes c = λ model decisions due may after.
    specified model decisions c.args.variable.now c.args.value c.args.store.now c.in-Some.number c.in-Some.ensures may c.limit.new.self c.in_ok-limit.field-0
    (limits_to c.args.store.now.net.domains c.limit.new.self.net.domains c.in-Some.number c.in-Some-range.only c.args.value _ (to_z-of_z w32 c.args.value c.ranges.value)
    c.in-Some-range.ensures.some.0 c.in_ok-limit.field-0 c.in_ok-limit.ensures.limited.0)
    c.in_ok-limit.ensures.limited.1 (λ e. let is = c.in-Smaller.is in cc) c.in_ok-limit.ensures.others due after
