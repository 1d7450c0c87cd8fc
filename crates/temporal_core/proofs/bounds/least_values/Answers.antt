use Rattle.std.proofs.Common.{◌≡◌, ℕ, ◌<◌, ℤ, pos, neg_ℤ, ◌≤ℤ◌, w64, to_z, of_z, MatchBool, List, ◌++◌, length, map, take, drop, None, get_or, sym, ap, ◌∙◌, subst, arith}
use lib.Seq.{take-append_seam}
use Rattle.temporal_core.specs.Satisfied.{value_at, Raises, Exceeds}
use Rattle.temporal_core.specs.Bounds.{far_below, TellsPoint}
use Rattle.temporal_core.proofs.Satisfying.{satisfied_modest}
use Rattle.temporal_core.proofs.Least.{cast_origin, cast_modest, satisfied_near, low_modest, nothing_beyond, new_modest, least_told_all, near_told_all}
use Rattle.temporal_core.proofs.bounds.least_values.Goals as goal

pub raise-requires-clause-low : goal.raise-requires-clause-low
raise-requires-clause-low c =
    let graph = c.args.satisfied.now.graph in
    let edges = graph.edges.items in
    let values = c.args.satisfied.now.values.items in
    let points = length values in
    let few = c.requires.satisfied.few in
    let each = c.requires.satisfied.graph.each in
    let is_satisfied = c.requires.satisfied.values in
    let first : c.as_slice-first.result.now ≡ values = c.as_slice-first.ensures.value in
    let low : c.deref_mut.result.now ≡ map far_below values = c.deref_mut.ensures.value ∙ c.in_ok-values.ensures ∙ ap (map far_below) first in
    subst (λ xs. (point : ℕ) → neg_ℤ (pos 2199023255552) ≤ℤ value_at xs point) (sym low) (λ point. (low_modest points edges values c.requires.some few each is_satisfied point).0)

pub raise-requires-clause-high : goal.raise-requires-clause-high
raise-requires-clause-high c =
    let graph = c.args.satisfied.now.graph in
    let edges = graph.edges.items in
    let values = c.args.satisfied.now.values.items in
    let points = length values in
    let few = c.requires.satisfied.few in
    let each = c.requires.satisfied.graph.each in
    let is_satisfied = c.requires.satisfied.values in
    let first : c.as_slice-first.result.now ≡ values = c.as_slice-first.ensures.value in
    let low : c.deref_mut.result.now ≡ map far_below values = c.deref_mut.ensures.value ∙ c.in_ok-values.ensures ∙ ap (map far_below) first in
    subst (λ xs. (point : ℕ) → value_at xs point ≤ℤ pos 2199023255552) (sym low) (λ point. (low_modest points edges values c.requires.some few each is_satisfied point).1)

pub raise-requires-clause-modest : goal.raise-requires-clause-modest
raise-requires-clause-modest c =
    let graph = c.args.satisfied.now.graph in
    let edges = graph.edges.items in
    let values = c.args.satisfied.now.values.items in
    let points = length values in
    let few = c.requires.satisfied.few in
    let each = c.requires.satisfied.graph.each in
    let is_satisfied = c.requires.satisfied.values in
    let first : c.as_slice-first.result.now ≡ values = c.as_slice-first.ensures.value in
    let low : c.deref_mut.result.now ≡ map far_below values = c.deref_mut.ensures.value ∙ c.in_ok-values.ensures ∙ ap (map far_below) first in
    let origin_low = is_satisfied.low 0 in
    let origin_high = satisfied_modest points edges values few each is_satisfied 0 in
    let origin = cast_origin c.as_slice-first.result.now values first origin_low origin_high in
    (cast_modest _ _ origin origin_low origin_high).1

pub unreachable-requires : goal.unreachable-requires
unreachable-requires c =
    let graph = c.args.satisfied.now.graph in
    let edges = graph.edges.items in
    let values = c.args.satisfied.now.values.items in
    let points = length values in
    let few = c.requires.satisfied.few in
    let each = c.requires.satisfied.graph.each in
    let is_satisfied = c.requires.satisfied.values in
    let first : c.as_slice-first.result.now ≡ values = c.as_slice-first.ensures.value in
    let low : c.deref_mut.result.now ≡ map far_below values = c.deref_mut.ensures.value ∙ c.in_ok-values.ensures ∙ ap (map far_below) first in
    let origin_low = is_satisfied.low 0 in
    let origin_high = satisfied_modest points edges values few each is_satisfied 0 in
    let origin = cast_origin c.as_slice-first.result.now values first origin_low origin_high in
    let raised = subst (λ done. MatchBool done (Raises edges 0 (to_z w64 (of_z w64 (value_at c.as_slice-first.result.now 0))) (length c.as_slice-first.result.now) c.deref_mut.result.now c.raise.new.values) (Exceeds edges 0 (to_z w64 (of_z w64 (value_at c.as_slice-first.result.now 0))) (length c.as_slice-first.result.now) c.deref_mut.result.now)) c.if-not-branch.true c.in_ok-raise.ensures in
    let exceeds = subst (λ v. Exceeds edges 0 v (length c.as_slice-first.result.now) c.deref_mut.result.now) origin raised in
    nothing_beyond points edges values c.requires.some few each is_satisfied
    (subst (λ n. Exceeds edges 0 (value_at values 0) n (map far_below values)) (ap length first) (subst (Exceeds edges 0 (value_at values 0) (length c.as_slice-first.result.now)) low exceeds))

pub told_all-requires-clause-satisfied : goal.told_all-requires-clause-satisfied
told_all-requires-clause-satisfied c =
    let graph = c.args.satisfied.now.graph in
    let edges = graph.edges.items in
    let values = c.args.satisfied.now.values.items in
    let points = length values in
    let few = c.requires.satisfied.few in
    let each = c.requires.satisfied.graph.each in
    let is_satisfied = c.requires.satisfied.values in
    let first : c.as_slice-first.result.now ≡ values = c.as_slice-first.ensures.value in
    let low : c.deref_mut.result.now ≡ map far_below values = c.deref_mut.ensures.value ∙ c.in_ok-values.ensures ∙ ap (map far_below) first in
    subst (λ xs. (point : ℕ) → (pos 0 ≤ℤ value_at xs point) × (value_at xs point ≤ℤ pos 2199023255552)) (sym first)
    (λ point. (is_satisfied.low point, satisfied_near _ (satisfied_modest points edges values few each is_satisfied point)))

pub told_all-requires-clause-origin : goal.told_all-requires-clause-origin
told_all-requires-clause-origin c =
    let graph = c.args.satisfied.now.graph in
    let edges = graph.edges.items in
    let values = c.args.satisfied.now.values.items in
    let points = length values in
    let few = c.requires.satisfied.few in
    let each = c.requires.satisfied.graph.each in
    let is_satisfied = c.requires.satisfied.values in
    let first : c.as_slice-first.result.now ≡ values = c.as_slice-first.ensures.value in
    let low : c.deref_mut.result.now ≡ map far_below values = c.deref_mut.ensures.value ∙ c.in_ok-values.ensures ∙ ap (map far_below) first in
    let origin_low = is_satisfied.low 0 in
    let origin_high = satisfied_modest points edges values few each is_satisfied 0 in
    let origin = cast_origin c.as_slice-first.result.now values first origin_low origin_high in
    cast_modest _ _ origin origin_low origin_high

pub told_all-requires-clause-values : goal.told_all-requires-clause-values
told_all-requires-clause-values c =
    let graph = c.args.satisfied.now.graph in
    let edges = graph.edges.items in
    let values = c.args.satisfied.now.values.items in
    let points = length values in
    let few = c.requires.satisfied.few in
    let each = c.requires.satisfied.graph.each in
    let is_satisfied = c.requires.satisfied.values in
    let first : c.as_slice-first.result.now ≡ values = c.as_slice-first.ensures.value in
    let low : c.deref_mut.result.now ≡ map far_below values = c.deref_mut.ensures.value ∙ c.in_ok-values.ensures ∙ ap (map far_below) first in
    let origin_low = is_satisfied.low 0 in
    let origin_high = satisfied_modest points edges values few each is_satisfied 0 in
    let origin = cast_origin c.as_slice-first.result.now values first origin_low origin_high in
    let raised = subst (λ done. MatchBool done (Raises edges 0 (to_z w64 (of_z w64 (value_at c.as_slice-first.result.now 0))) (length c.as_slice-first.result.now) c.deref_mut.result.now c.raise.new.values) (Exceeds edges 0 (to_z w64 (of_z w64 (value_at c.as_slice-first.result.now 0))) (length c.as_slice-first.result.now) c.deref_mut.result.now)) c.if-not-branch.false c.in_ok-raise.ensures in
    let moved = subst (λ v. Raises edges 0 v (length c.as_slice-first.result.now) c.deref_mut.result.now c.raise.new.values) origin raised in
    let raises = subst (λ n. Raises edges 0 (value_at values 0) n (map far_below values) c.raise.new.values) (ap length first)
    (subst (λ old. Raises edges 0 (value_at values 0) (length c.as_slice-first.result.now) old c.raise.new.values) low moved) in
    let kept : c.in_ok-values.values.len ≡ length c.raise.new.values = omega (arith, c.in_ok-values.values.ok.0, ap length c.deref_mut.ensures.value, c.raise.auto.values) in
    let rest = drop (length c.raise.new.values) c.in_ok-values.values.items in
    let written : c.deref.result.now ≡ c.raise.new.values = c.deref.ensures.value ∙ ap (λ n. take n (c.raise.new.values ++ rest)) kept ∙ take-append_seam c.raise.new.values rest in
    subst (λ xs. (point : ℕ) → (neg_ℤ (pos 2199023255552) ≤ℤ value_at xs point) × (value_at xs point ≤ℤ pos 2199023255552)) (sym written)
    (new_modest points edges values c.requires.some few each is_satisfied c.raise.new.values raises)

pub returns-clause-values : goal.returns-clause-values
returns-clause-values c =
    let graph = c.args.satisfied.now.graph in
    let edges = graph.edges.items in
    let values = c.args.satisfied.now.values.items in
    let points = length values in
    let few = c.requires.satisfied.few in
    let each = c.requires.satisfied.graph.each in
    let is_satisfied = c.requires.satisfied.values in
    let first : c.as_slice-first.result.now ≡ values = c.as_slice-first.ensures.value in
    let low : c.deref_mut.result.now ≡ map far_below values = c.deref_mut.ensures.value ∙ c.in_ok-values.ensures ∙ ap (map far_below) first in
    let origin_low = is_satisfied.low 0 in
    let origin_high = satisfied_modest points edges values few each is_satisfied 0 in
    let origin = cast_origin c.as_slice-first.result.now values first origin_low origin_high in
    let raised = subst (λ done. MatchBool done (Raises edges 0 (to_z w64 (of_z w64 (value_at c.as_slice-first.result.now 0))) (length c.as_slice-first.result.now) c.deref_mut.result.now c.raise.new.values) (Exceeds edges 0 (to_z w64 (of_z w64 (value_at c.as_slice-first.result.now 0))) (length c.as_slice-first.result.now) c.deref_mut.result.now)) c.if-not-branch.false c.in_ok-raise.ensures in
    let moved = subst (λ v. Raises edges 0 v (length c.as_slice-first.result.now) c.deref_mut.result.now c.raise.new.values) origin raised in
    let raises = subst (λ n. Raises edges 0 (value_at values 0) n (map far_below values) c.raise.new.values) (ap length first)
    (subst (λ old. Raises edges 0 (value_at values 0) (length c.as_slice-first.result.now) old c.raise.new.values) low moved) in
    let kept : c.in_ok-values.values.len ≡ length c.raise.new.values = omega (arith, c.in_ok-values.values.ok.0, ap length c.deref_mut.ensures.value, c.raise.auto.values) in
    let rest = drop (length c.raise.new.values) c.in_ok-values.values.items in
    let written : c.deref.result.now ≡ c.raise.new.values = c.deref.ensures.value ∙ ap (λ n. take n (c.raise.new.values ++ rest)) kept ∙ take-append_seam c.raise.new.values rest in
    let told = c.in_ok-least.least.items in
    let count : length told ≡ points = c.in_ok-least.ensures.count ∙ ap length first in
    let Each = λ (news firsts : List ℤ) (o : ℤ). (point : ℕ) → point < length firsts → TellsPoint (value_at news point) (value_at firsts point) o (get_or told point None) in
    let tells = subst (λ o. Each c.raise.new.values values o) origin
    (subst (λ xs. Each c.raise.new.values xs (to_z w64 (of_z w64 (value_at c.as_slice-first.result.now 0)))) first
    (subst (λ xs. Each xs c.as_slice-first.result.now (to_z w64 (of_z w64 (value_at c.as_slice-first.result.now 0)))) written c.in_ok-least.ensures.each)) in
    least_told_all points edges values c.requires.some few each is_satisfied c.raise.new.values raises told count tells

pub returns-clause-near : goal.returns-clause-near
returns-clause-near c =
    let graph = c.args.satisfied.now.graph in
    let edges = graph.edges.items in
    let values = c.args.satisfied.now.values.items in
    let points = length values in
    let few = c.requires.satisfied.few in
    let each = c.requires.satisfied.graph.each in
    let is_satisfied = c.requires.satisfied.values in
    let first : c.as_slice-first.result.now ≡ values = c.as_slice-first.ensures.value in
    let low : c.deref_mut.result.now ≡ map far_below values = c.deref_mut.ensures.value ∙ c.in_ok-values.ensures ∙ ap (map far_below) first in
    let origin_low = is_satisfied.low 0 in
    let origin_high = satisfied_modest points edges values few each is_satisfied 0 in
    let origin = cast_origin c.as_slice-first.result.now values first origin_low origin_high in
    let raised = subst (λ done. MatchBool done (Raises edges 0 (to_z w64 (of_z w64 (value_at c.as_slice-first.result.now 0))) (length c.as_slice-first.result.now) c.deref_mut.result.now c.raise.new.values) (Exceeds edges 0 (to_z w64 (of_z w64 (value_at c.as_slice-first.result.now 0))) (length c.as_slice-first.result.now) c.deref_mut.result.now)) c.if-not-branch.false c.in_ok-raise.ensures in
    let moved = subst (λ v. Raises edges 0 v (length c.as_slice-first.result.now) c.deref_mut.result.now c.raise.new.values) origin raised in
    let raises = subst (λ n. Raises edges 0 (value_at values 0) n (map far_below values) c.raise.new.values) (ap length first)
    (subst (λ old. Raises edges 0 (value_at values 0) (length c.as_slice-first.result.now) old c.raise.new.values) low moved) in
    let kept : c.in_ok-values.values.len ≡ length c.raise.new.values = omega (arith, c.in_ok-values.values.ok.0, ap length c.deref_mut.ensures.value, c.raise.auto.values) in
    let rest = drop (length c.raise.new.values) c.in_ok-values.values.items in
    let written : c.deref.result.now ≡ c.raise.new.values = c.deref.ensures.value ∙ ap (λ n. take n (c.raise.new.values ++ rest)) kept ∙ take-append_seam c.raise.new.values rest in
    let told = c.in_ok-least.least.items in
    let count : length told ≡ points = c.in_ok-least.ensures.count ∙ ap length first in
    let Each = λ (news firsts : List ℤ) (o : ℤ). (point : ℕ) → point < length firsts → TellsPoint (value_at news point) (value_at firsts point) o (get_or told point None) in
    let tells = subst (λ o. Each c.raise.new.values values o) origin
    (subst (λ xs. Each c.raise.new.values xs (to_z w64 (of_z w64 (value_at c.as_slice-first.result.now 0)))) first
    (subst (λ xs. Each xs c.as_slice-first.result.now (to_z w64 (of_z w64 (value_at c.as_slice-first.result.now 0)))) written c.in_ok-least.ensures.each)) in
    near_told_all points edges values c.requires.some few each is_satisfied c.raise.new.values raises told count tells
