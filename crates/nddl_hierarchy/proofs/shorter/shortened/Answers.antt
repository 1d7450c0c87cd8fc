use Rattle.std.proofs.Common.{ℕ, List, ◌+◌, get_or, sym, ◌∙◌, ap, subst}
use Rattle.std.specs.Prelude.{Option, slice_set}
use Rattle.std.proofs.lemmas.Option.{slice_get-get_or}
use Rattle.eu_forest.specs.Lines.{IsLineageOf}
use Rattle.nddl_hierarchy.specs.Shorter.{passed_over}
use Rattle.nddl_hierarchy.proofs.Passing.{ArePassed, all_shorter, none_passed, passes_on}
use Rattle.eu_forest.proofs.Ways.{within_way}
use Rattle.eu_forest.specs.Members.{is_marked}
use Rattle.nddl_hierarchy.proofs.shorter.shortened.Goals as goal

pub loop-entry-init : goal.loop-entry-init
loop-entry-init c =
    none_passed (is_marked c.args.marks.now) c.args.parents.now c.order-order.result.now c.in_ok-short.short.items c.in_ok-short.ensures

pub loop-entry-preserved : goal.loop-entry-preserved
loop-entry-preserved c =
    let test = is_marked c.args.marks.now in
    let parents = c.args.parents.now in
    let order = c.order-order.result.now in
    let count = c.loop-entry.entry-index in
    let short = c.loop-entry.short.items in
    let entry = get_or order count 0 in
    let here = slice_get-get_or order count 0 c.loop-entry-test.true in
    let L : List ℕ → Type 0 = λ some. IsLineageOf parents c.args.lineage.now.marks.items some in
    let lineage = subst L (sym c.order-order.ensures) c.requires in
    let rooted = lineage.sound count entry here in
    let inside = (within_way parents entry rooted.path rooted.root rooted.leads rooted.ends).0 in
    let P : List (Option ℕ) → Type 0 = λ some. ArePassed test parents order (count + 1) some in
    let next = c.passed_over-passed.ensures ∙ (λ i. passed_over test (c.as_slice.ensures.value i) (c.parent_in-next.ensures i)) in
    subst P (sym (c.put_next.ensures ∙ ap (λ n. slice_set short entry n) next))
    (passes_on test parents order lineage.ordered count entry short here inside c.loop-entry.invariant)

pub returns : goal.returns
returns c =
    let order = c.order-order.result.now in
    let L : List ℕ → Type 0 = λ some. IsLineageOf c.args.parents.now c.args.lineage.now.marks.items some in
    let lineage = subst L (sym c.order-order.ensures) c.requires in
    all_shorter (is_marked c.args.marks.now) c.args.parents.now order lineage.ordered c.loop-entry.entry-index c.loop-entry.short.items
    c.loop-entry-test.false c.loop-entry.invariant c.args.lineage.now.marks.items lineage
