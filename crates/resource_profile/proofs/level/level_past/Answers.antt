use Rattle.std.proofs.Common.{◌≡◌, ℤ, ◌<ℤ◌, ◌+◌, pos, w32, to_z, of_z, FitsSigned, subst, sym, ap, ◌∙◌, get_or, take, Some, MatchOption, rules, arith}
use Rattle.std.specs.Prelude.{⊤}
use Rattle.std.proofs.lemmas.Int.{ints, to_z-of_z}
use Rattle.std.proofs.lemmas.Bool.{both_ways}
use Rattle.resource_profile.specs.declared.level.LevelChange.{LevelChange}
use Rattle.resource_profile.specs.Level.{IsPastAt}
use Rattle.resource_profile.proofs.Firsts.{IsFirstAmong, takes, keeps, looked_at_all, along_two}
use Rattle.resource_profile.proofs.Places.{first_level_past, no_level_past}
use Rattle.resource_profile.proofs.level.level_past.Goals as goal
use Rattle.resource_profile.proofs.level.level_past.Goals.{then-from-at+then-is_earlier+then-is_past_at-2, else-from-at, else-from-at-via-then-from-at+then-is_earlier+else-is_past_at-2, else-from-at-via-then-from-at+else-is_earlier, else-from-at-via-else-from-at}

pub loop-change-preserved : goal.loop-change-preserved
loop-change-preserved c =
    let changes = c.args.changes.now in
    let none : LevelChange = record { at = pos 0; add = pos 0 } in
    let i = c.loop-change.change-index in
    let found = c.loop-change.first in
    let at = (get_or changes i none).at in
    let fits : FitsSigned w32 at = search rules in
    let cast : to_z w32 (of_z w32 at) ≡ at = to_z-of_z w32 at fits in
    let from = to_z w32 (of_z w32 c.args.from) in
    let is_past = IsPastAt changes (to_z w32 (of_z w32 c.args.initial)) c.args.limit in
    let is_so = λ (at : ℤ). (from <ℤ at) × is_past at in
    let key = λ (change : LevelChange). change.at in
    let within = c.loop-change-test.true in
    let before = λ (at : ℤ). MatchOption found ⊤ (λ other. at <ℤ other) in
    let kept = λ (not : before at → is_so at → ⊥). keeps key is_so changes i none within found not c.loop-change.invariant in
    elim c.if-from-at.branch [
      | then-from-at+then-is_earlier+then-is_past_at-2 w ↦
          subst (IsFirstAmong key is_so (take (i + 1) changes)) (sym (w.first-is ∙ ap Some cast))
          (takes key is_so changes i none within found (subst before cast (w.is_earlier.ensures.0 w.if-is_earlier.true)) (omega (arith, ints, w.if-from-at.true), subst is_past cast (w.is_past_at-then-is_earlier.ensures.0 w.if-is_past_at-2.true)) c.loop-change.invariant)
      | else-from-at w ↦
          subst (IsFirstAmong key is_so (take (i + 1) changes)) (sym w.first-is)
          (elim w.else-from-at.branch [
            | else-from-at-via-then-from-at+then-is_earlier+else-is_past_at-2 w' ↦ kept (λ _ so. both_ways w'.is_past_at-then-is_earlier.result w'.if-is_past_at-2.false (w'.is_past_at-then-is_earlier.ensures.1 (subst is_past (sym cast) so.1)))
            | else-from-at-via-then-from-at+else-is_earlier w' ↦ kept (λ earlier _. both_ways w'.is_earlier.result w'.if-is_earlier.false (w'.is_earlier.ensures.1 (subst before (sym cast) earlier)))
            | else-from-at-via-else-from-at w' ↦ kept (λ _ so. absurd (omega (arith, ints, w'.if-from-at.false, so.0)))
          ])
    ]

pub returns-clause-first : goal.returns-clause-first
returns-clause-first c =
    let changes = c.args.changes.now in
    let initial : to_z w32 (of_z w32 c.args.initial) ≡ c.args.initial = omega (arith, ints) in
    let from : to_z w32 (of_z w32 c.args.from) ≡ c.args.from = omega (arith, ints) in
    let key = λ (change : LevelChange). change.at in
    let among = along_two (λ z f. IsFirstAmong key (λ at. (f <ℤ at) × IsPastAt changes z c.args.limit at) (take c.loop-change.change-index changes) c.loop-change.first) _ _ _ _ initial from c.loop-change.invariant in
    let not_at_once = λ (past : IsPastAt changes c.args.initial c.args.limit c.args.from). both_ways c.is_past_at.result c.if-is_past_at.false
    (c.is_past_at.ensures.1 (along_two (λ z f. IsPastAt changes z c.args.limit f) _ _ _ _ (sym initial) (sym from) past)) in
    first_level_past changes c.args.initial c.args.limit c.args.from c.loop-change.first not_at_once
    (looked_at_all key (λ at. (c.args.from <ℤ at) × IsPastAt changes c.args.initial c.args.limit at) changes c.loop-change.change-index c.loop-change.first c.loop-change-test.false among)

pub returns-clause-none : goal.returns-clause-none
returns-clause-none c =
    let changes = c.args.changes.now in
    let initial : to_z w32 (of_z w32 c.args.initial) ≡ c.args.initial = omega (arith, ints) in
    let from : to_z w32 (of_z w32 c.args.from) ≡ c.args.from = omega (arith, ints) in
    let key = λ (change : LevelChange). change.at in
    let among = along_two (λ z f. IsFirstAmong key (λ at. (f <ℤ at) × IsPastAt changes z c.args.limit at) (take c.loop-change.change-index changes) c.loop-change.first) _ _ _ _ initial from c.loop-change.invariant in
    let not_at_once = λ (past : IsPastAt changes c.args.initial c.args.limit c.args.from). both_ways c.is_past_at.result c.if-is_past_at.false
    (c.is_past_at.ensures.1 (along_two (λ z f. IsPastAt changes z c.args.limit f) _ _ _ _ (sym initial) (sym from) past)) in
    no_level_past changes c.args.initial c.args.limit c.args.from c.loop-change.first not_at_once
    (looked_at_all key (λ at. (c.args.from <ℤ at) × IsPastAt changes c.args.initial c.args.limit at) changes c.loop-change.change-index c.loop-change.first c.loop-change-test.false among)
