use Rattle.std.proofs.Common.{ℕ, List, Option, sym, refl, subst, arith}
use Rattle.eu_forest.specs.Lines.{IsLineageOf}
use Rattle.model_typing.specs.Ground.{AreClassParents}
use Rattle.model_typing.proofs.Telling.{never}
use Rattle.model_lawful.specs.Classes.{AreInLine}
use Rattle.model_lawful.proofs.Lining.{parents_there, rooted_in_line}
use Rattle.model_lawful.proofs.parents.parents_over.Goals as goal

pub returns-then-not-are_rooted : goal.returns-then-not-are_rooted
returns-then-not-are_rooted c = λ line.
    let lineage = c.in_ok-lineage.lineage in
    let P : List (Option ℕ) → Type 0 = λ parents. IsLineageOf parents lineage.marks.items lineage.order.items in
    let are = subst P c.as_slice.ensures.value c.in_ok-lineage.ensures in
    never _ c.if-not-are_rooted.ensures (λ number below.
    rooted_in_line c.args.model.now c.args.parents.items lineage.marks.items lineage.order.items c.requires.parents are line number (omega (arith, below, c.len.ensures)))

pub returns : goal.returns
returns c =
    let lineage = c.in_ok-lineage.lineage in
    let P : List (Option ℕ) → Type 0 = λ parents. IsLineageOf parents lineage.marks.items lineage.order.items in
    let Q : List (Option ℕ) → Type 0 = λ parents. AreInLine c.args.model.now × AreClassParents c.args.model.now parents in
    let are = subst P c.as_slice.ensures.value c.in_ok-lineage.ensures in
    subst Q (sym c.in_ok-found.ensures)
    (parents_there c.args.model.now c.args.parents.items lineage.marks.items lineage.order.items c.requires.parents c.requires.there are
    (λ number below. c.if-not-are_rooted.ensures.0 refl number (omega (arith, below, c.len.ensures))))
