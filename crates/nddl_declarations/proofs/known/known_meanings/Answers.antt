use Rattle.std.proofs.Common.{ℕ, ◌+◌, List, [], length, get_or, replicate, sym, ◌∙◌, ap, subst}
use Rattle.std.specs.Prelude.{Option, None}
use Rattle.std.proofs.lemmas.Option.{slice_get-get_or}
use Rattle.eu_forest.specs.Lines.{IsLineageOf, ParentsComeFirst}
use Rattle.nddl_typeexpr.specs.declared.kind.TypeMeaning.{TypeMeaning}
use Rattle.nddl_hierarchy.specs.Facts.{Facts, facts_of}
use Rattle.nddl_declarations.specs.Known.{known_meaning}
use Rattle.nddl_declarations.proofs.Depends.{with_known}
use Rattle.nddl_declarations.proofs.Settled.{Settled, begins_settled, settles, all_known}
use Rattle.nddl_declarations.proofs.known.known_meanings.Goals as goal

pub loop-entry-init : goal.loop-entry-init
loop-entry-init c =
    let facts : Facts = with_known (facts_of c.args.basis.now) [] in
    let P : List (Option TypeMeaning) → Type 0 = λ known. Settled facts c.order-order.result.now 0 known in
    subst P (sym (c.in_ok-known.ensures ∙ ap (λ names. replicate (length names) None) c.names.ensures.names))
    (begins_settled facts c.order-order.result.now)

pub loop-entry-preserved : goal.loop-entry-preserved
loop-entry-preserved c =
    let basis = c.args.basis.now in
    let facts : Facts = with_known (facts_of basis) [] in
    let order = c.order-order.result.now in
    let count = c.loop-entry.entry-index in
    let entry = get_or order count 0 in
    let Q : List ℕ → Type 0 = λ some. ParentsComeFirst basis.parents.now some in
    let P : List (Option TypeMeaning) → Type 0 = λ known. Settled facts order (count + 1) known in
    subst P (sym c.put_meaning.ensures)
    (settles facts order basis.are_parents (subst Q (sym c.order-order.ensures) c.requires.ordered) count entry
    c.loop-entry.known.items c.in_ok-meaning.meaning (slice_get-get_or order count 0 c.loop-entry-test.true)
    (c.in_ok-meaning.ensures ∙ ap (λ known. known_meaning (with_known facts known) entry) c.as_slice.ensures.value)
    c.loop-entry.invariant)

pub returns : goal.returns
returns c =
    let basis = c.args.basis.now in
    let facts : Facts = with_known (facts_of basis) [] in
    let order = c.order-order.result.now in
    let Q : List ℕ → Type 0 = λ some. IsLineageOf basis.parents.now basis.lineage.now.marks.items some in
    all_known facts order c.loop-entry.entry-index c.loop-entry.known.items c.loop-entry-test.false basis.are_parents
    (subst Q (sym c.order-order.ensures) c.requires) c.loop-entry.invariant
