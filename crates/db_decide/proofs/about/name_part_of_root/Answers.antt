use Rattle.std.proofs.Common.{◌≡◌, true, false, subst}
use Rattle.std.specs.Prelude.{All}
use Rattle.std.proofs.lemmas.List.{take_all}
use Rattle.std.proofs.lemmas.List.Elements.{All-contains}
use Rattle.model_core.specs.declared.item.Term.{Term}
use Rattle.db_posting.proofs.Taking.{all_more}
use Rattle.db_decide.specs.RootItems.{IsPartOfRoot}
use Rattle.db_decide.proofs.about.name_part_of_root.Goals as goal

pub loop-term-preserved : goal.loop-term-preserved
loop-term-preserved c =
    all_more (λ (term : Term). IsPartOfRoot c.args.root term → ⊥) c.args.terms.now c.loop-term.term-index _ c.loop-term-test.true c.loop-term.invariant
    (λ is. let told : false ≡ true = c.if-is_part_of_root.ensures.1 is in cc)

pub returns : goal.returns
returns c = (
  λ told. let told : false ≡ true = told in absurd (cc),
  λ named.
      let none = subst (All (λ (term : Term). IsPartOfRoot c.args.root term → ⊥)) (take_all c.loop-term.term-index c.args.terms.now c.loop-term-test.false) c.loop-term.invariant in
      absurd (All-contains (λ (term : Term). IsPartOfRoot c.args.root term → ⊥) c.args.terms.now named.0 none named.1 named.2),
)
