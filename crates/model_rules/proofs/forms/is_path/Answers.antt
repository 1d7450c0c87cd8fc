use Rattle.std.proofs.Common.{All, refl}
use Rattle.std.specs.List.{slice_split}
use Rattle.eu_name.specs.Word.{IsName}
use Rattle.model_core.specs.Naming.{is_point, IsPath}
use Rattle.model_rules.proofs.Pathing.{never, false_never, not_all_parts, all_parts, one_part, both_ways, parts_there, parts_whole}
use Rattle.model_rules.proofs.forms.is_path.Goals as goal

pub returns-then-not-is_name : goal.returns-then-not-is_name
returns-then-not-is_name c =
    let parts = parts_there c.loop-name.rest.now c.in-Some.name.now c.in-Some.after.now c.in-Some.ensures in
    false_never (IsPath c.args.text.now)
    (λ all. not_all_parts IsName c.in-Some.name.now _ _ parts (never (IsName c.in-Some.name.now) c.if-not-is_name.ensures) (c.loop-name.invariant.0 all))

pub loop-name-preserved : goal.loop-name-preserved
loop-name-preserved c =
    let parts = parts_there c.loop-name.rest.now c.in-Some.name.now c.in-Some.after.now c.in-Some.ensures in
    both_ways (All IsName (slice_split is_point c.args.text.now)) (All IsName (slice_split is_point c.loop-name.rest.now)) (All IsName (slice_split is_point c.in-Some.after.now))
    c.loop-name.invariant (all_parts IsName c.in-Some.name.now (slice_split is_point c.loop-name.rest.now) (slice_split is_point c.in-Some.after.now) parts (c.if-not-is_name.ensures.0 refl))

pub returns : goal.returns
returns c =
    let one = one_part IsName c.loop-name.rest.now (slice_split is_point c.loop-name.rest.now) (parts_whole c.loop-name.rest.now c.in_default.ensures) in (
      λ holds. c.loop-name.invariant.1 (one.1 (c.is_name-2.ensures.0 holds)),
      λ all. c.is_name-2.ensures.1 (one.0 (c.loop-name.invariant.0 all)),
    )
