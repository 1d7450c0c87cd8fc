use Rattle.std.proofs.Common.{◌∷◌, ◌++◌, [], length, sym, ◌∙◌, subst}
use Rattle.std.proofs.lemmas.List.{with_items_is}
use Rattle.temporal_core.specs.Satisfied.{AreKept, AreSatisfied}
use Rattle.temporal_core.proofs.Satisfying.{satisfied_kept}
use Rattle.temporal_core.proofs.satisfied.Satisfied.insert.Goals as goal

pub keep_too-requires-clause-values : goal.keep_too-requires-clause-values
keep_too-requires-clause-values c =
    let old = c.args.self.now in
    let own = satisfied_kept (length old.values.items) old.graph.edges.items old.values.items c.requires.satisfied.few c.requires.satisfied.graph.each c.requires.satisfied.values in
    subst (λ values. AreKept (length values) old.graph.edges.items values) (sym c.deref_mut.ensures.value) own

pub returns : goal.returns
returns c =
    let old = c.args.self.now in
    let edges = old.graph.edges.items in
    let more = edges ++ c.args.edge ∷ [] in
    let before = subst (λ values. AreSatisfied (length values) edges values) (sym c.deref_mut.ensures.value) c.requires.satisfied.values in
    let kept = c.in_ok-keep_too.ensures.satisfied c.if-not-branch.false before in
    let values = subst (λ values. AreSatisfied (length values) more c.keep_too.new.values) c.deref_mut.ensures.value kept in
    let written = with_items_is old.values c.keep_too.new.values (values.count ∙ sym old.values.ok.0) in
    record {
      few = c.requires.satisfied.few;
      graph = c.in_ok-link.ensures (length old.values.items) edges c.requires.satisfied.graph;
      values = subst (AreSatisfied (length old.values.items) more) (sym written) values;
    }
