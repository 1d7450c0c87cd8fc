use Rattle.std.proofs.Common.{◌≡◌, ℤ, ◌<ℤ◌, ◌+◌, pos, w32, to_z, of_z, FitsSigned, subst, sym, ap, ◌∙◌, get_or, take, Some, MatchOption, rules, arith}
use Rattle.std.specs.Prelude.{⊤}
use Rattle.std.proofs.lemmas.Int.{ints, to_z-of_z}
use Rattle.std.proofs.lemmas.Bool.{both_ways}
use Rattle.resource_profile.specs.declared.usage.Use.{Use}
use Rattle.resource_profile.specs.Usage.{IsOverUsed}
use Rattle.resource_profile.proofs.Firsts.{IsFirstAmong, takes, keeps, looked_at_all}
use Rattle.resource_profile.proofs.Places.{first_over_use, no_over_use}
use Rattle.resource_profile.proofs.usage.over_use.Goals as goal
use Rattle.resource_profile.proofs.usage.over_use.Goals.{then-is_earlier+then-is_over_used, else-is_earlier, else-is_earlier-via-then-is_earlier+else-is_over_used, else-is_earlier-via-else-is_earlier}

pub loop-usage-preserved : goal.loop-usage-preserved
loop-usage-preserved c =
    let uses = c.args.uses.now in
    let none : Use = record { from = pos 0; until = pos 0; quantity = pos 0 } in
    let i = c.loop-usage.usage-index in
    let found = c.loop-usage.first in
    let start = (get_or uses i none).from in
    let fits : FitsSigned w32 start = search rules in
    let cast : to_z w32 (of_z w32 start) ≡ start = to_z-of_z w32 start fits in
    let is_so = IsOverUsed uses (to_z w32 (of_z w32 c.args.capacity)) in
    let key = λ (usage : Use). usage.from in
    let within = c.loop-usage-test.true in
    let before = λ (at : ℤ). MatchOption found ⊤ (λ other. at <ℤ other) in
    let kept = λ (not : before start → is_so start → ⊥). keeps key is_so uses i none within found not c.loop-usage.invariant in
    elim c.if-is_earlier.branch [
      | then-is_earlier+then-is_over_used w ↦
          subst (IsFirstAmong key is_so (take (i + 1) uses)) (sym (w.first-is ∙ ap Some cast))
          (takes key is_so uses i none within found (subst before cast (c.is_earlier.ensures.0 w.if-is_earlier.true)) (subst is_so cast (w.is_over_used.ensures.0 w.if-is_over_used.true)) c.loop-usage.invariant)
      | else-is_earlier w ↦
          subst (IsFirstAmong key is_so (take (i + 1) uses)) (sym w.first-is)
          (elim w.else-is_earlier.branch [
            | else-is_earlier-via-then-is_earlier+else-is_over_used w' ↦ kept (λ _ so. both_ways w'.is_over_used.result w'.if-is_over_used.false (w'.is_over_used.ensures.1 (subst is_so (sym cast) so)))
            | else-is_earlier-via-else-is_earlier w' ↦ kept (λ earlier _. both_ways c.is_earlier.result w'.if-is_earlier.false (c.is_earlier.ensures.1 (subst before (sym cast) earlier)))
          ])
    ]

-- where the loop ends, the whole list was looked at
pub returns-clause-first : goal.returns-clause-first
returns-clause-first c =
    let uses = c.args.uses.now in
    let cast : to_z w32 (of_z w32 c.args.capacity) ≡ c.args.capacity = omega (arith, ints) in
    first_over_use uses c.args.capacity c.loop-usage.first c.requires.capacity c.requires.quantities
    (looked_at_all (λ (usage : Use). usage.from) (IsOverUsed uses c.args.capacity) uses c.loop-usage.usage-index c.loop-usage.first c.loop-usage-test.false (subst (λ capacity. IsFirstAmong (λ (usage : Use). usage.from) (IsOverUsed uses capacity) (take c.loop-usage.usage-index uses) c.loop-usage.first) cast c.loop-usage.invariant))

pub returns-clause-none : goal.returns-clause-none
returns-clause-none c =
    let uses = c.args.uses.now in
    let cast : to_z w32 (of_z w32 c.args.capacity) ≡ c.args.capacity = omega (arith, ints) in
    no_over_use uses c.args.capacity c.loop-usage.first c.requires.capacity c.requires.quantities
    (looked_at_all (λ (usage : Use). usage.from) (IsOverUsed uses c.args.capacity) uses c.loop-usage.usage-index c.loop-usage.first c.loop-usage-test.false (subst (λ capacity. IsFirstAmong (λ (usage : Use). usage.from) (IsOverUsed uses capacity) (take c.loop-usage.usage-index uses) c.loop-usage.first) cast c.loop-usage.invariant))
