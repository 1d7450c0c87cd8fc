-- Each thing has one line.
use Rattle.std.proofs.Common.{◌≡◌, ℕ, ℤ, List, [], ◌∷◌, ◌++◌, Option, Some, None, slice_get, refl, sym, ap, ◌∙◌, subst, inl, inr, get_or}
use Rattle.std.specs.Prelude.{codes}
use Rattle.std.specs.Fmt.{decimal, signed_decimal}
use Rattle.domain_core.specs.declared.kind.Kind.{Kind}
use Rattle.domain_core.specs.Domain.{Domain, Range, Set}
use Rattle.eu_name.specs.declared.name.Part.TheVariants as parts
use Rattle.eu_name.specs.declared.name.TokenName.{TokenName}
use Rattle.eu_name.specs.declared.name.VarName.{VarName}
use Rattle.eu_name.specs.declared.name.VarName.TheVariants as variables
use Rattle.eu_name.specs.NameOrder.{IsTokenBefore}
use Rattle.eu_name.proofs.Orders.{token_order}
use Rattle.model_core.specs.declared.class.Pred.{Pred}
use Rattle.model_core.specs.declared.decision.Decision.{Decision}
use Rattle.model_core.specs.declared.decision.ConArg.{ConArg}
use Rattle.model_core.specs.declared.decision.ConArg.TheVariants.{Var, Value}
use Rattle.model_core.specs.declared.decision.Decision.TheVariants.{Specify, Activate, Merge, Reject, Order, Constrain, Relate}
use Rattle.model_core.specs.declared.model.Model.{Model}
use Rattle.model_core.specs.declared.rule.Slot.{Slot}
use Rattle.model_core.specs.declared.variable.ValueKind.{ValueKind}
use Rattle.model_core.specs.declared.view.TokenState.{TokenState}
use Rattle.model_core.specs.declared.view.TokenState.TheVariants as standing
use Rattle.model_core.specs.State.{State, AreInOrder}
use Rattle.model_core.specs.TokenStates.{HasTokenState, IsMergedAt}
use Rattle.model_core.proofs.Leading.{token_once}
use Rattle.plan_text.specs.Subjects.{IsPredicateText}
use Rattle.plan_text.specs.Values.{IsValueText}
use Rattle.model_core.proofs.Distinct.{place_once}
use Rattle.eu_name.proofs.Members.{get_same}
use Rattle.db_edges.specs.declared.edge.NamedEdge.{NamedEdge}
use Rattle.db_edges.specs.declared.edge.Point.{Point}
use Rattle.db_edges.specs.declared.edge.Point.TheVariants as points
use Rattle.plan_defs.specs.Flaws.{Flaw, Undecided, Undetermined, Unordered, Untimed}
use Rattle.plan_defs.proofs.Deciding.{DecidesOnce}
use Rattle.session_replies.specs.Lines.{spaced, IsTokenWord, IsDomainText, IsDomainLine, IsStateText, IsTokenLine, IsLineOnToken, IsLineOnTokens, IsLineOnVariable, IsDecisionLine}
use Rattle.session_replies.specs.Lines.{IsArgumentText, IsPostLine, IsPointWord, IsEdgeLine, IsFlawText, IsFlawLine}
use Rattle.script_lang.specs.Compared.{compared, IsFirstKind, kind_at, AllPlaced}
use Rattle.script_lang.specs.KindWords.{constraint_word, relation_word}
use Rattle.script_lang.proofs.Placed.{placed_zip, zip_same}
use Rattle.model_core.proofs.Kinding.{kind_once}
use Rattle.session_core.proofs.Words.{zip_one, value_text_one, token_word_one, variable_word_one}

module _ (model : Model) where
  -- ---- domains

  domain_text_one : (kind : ValueKind) (domain : Domain) (one other : List ℕ) → IsDomainText model kind domain one → IsDomainText model kind domain other → one ≡ other
  domain_text_one kind (Range lo hi) one other p q = p ∙ sym q
  domain_text_one kind (Set members) one other (words, (are, whole)) (words', (are', whole')) =
      let same = zip_one (IsValueText model kind) (value_text_one model kind) members words words' are are' in
      whole ∙ (ap (λ (shown : List (List ℕ)). codes "{" ++ (spaced shown ++ codes "}")) same ∙ sym whole')

  pub domain_line_one : (name : VarName) (domain : Domain) (one other : List ℕ) → IsDomainLine model name domain one → IsDomainLine model name domain other → one ≡ other
  domain_line_one name domain one other (word, (is_word, (kind, (of_kind, (shown, (is_shown, whole)))))) (word', (is_word', (kind', (of_kind', (shown', (is_shown', whole')))))) =
      let words = variable_word_one model name word word' is_word is_word' in
      let kinds = kind_once model name kind' kind of_kind' of_kind in
      let texts = domain_text_one kind domain shown shown' is_shown (subst (λ k. IsDomainText model k domain shown') kinds is_shown') in
      let lines : word ++ (codes " " ++ shown) ≡ word' ++ (codes " " ++ shown') = λ i. words i ++ (codes " " ++ texts i) in
      whole ∙ (lines ∙ sym whole')

  -- ---- tokens

  predicate_text_one : (number : ℕ) (one other : List ℕ) → IsPredicateText model number one → IsPredicateText model number other → one ≡ other
  predicate_text_one number one other p q =
      let preds = get_same model.preds number p.pred q.pred p.is_pred q.is_pred in
      let class = subst (λ (pred : Pred). slice_get model.classes pred.class ≡ Some p.class) preds p.is_class in
      let classes = get_same model.classes q.pred.class p.class q.class class q.is_class in
      let both : p.class.name ++ (codes "." ++ p.pred.name) ≡ q.class.name ++ (codes "." ++ q.pred.name) =
      λ i. (classes i).name ++ (codes "." ++ (preds i).name) in
      p.whole ∙ (both ∙ sym q.whole)

  state_text_one : (state : State) (found : TokenState) (one other : List ℕ) → IsStateText model state found one → IsStateText model state found other → one ≡ other
  state_text_one state standing.Inactive one other p q = p ∙ sym q
  state_text_one state standing.Active one other p q = p ∙ sym q
  state_text_one state standing.Fact one other p q = p ∙ sym q
  state_text_one state standing.Rejected one other p q = p ∙ sym q
  state_text_one state (standing.Merged place) one other (target, (at, (word, (is_word, whole)))) (target', (at', (word', (is_word', whole')))) =
      let targets = get_same state.tokens place target target' at at' in
      let words = token_word_one model target' word word' (subst (λ t. IsTokenWord model t word) targets is_word) is_word' in
      whole ∙ (ap (λ (w : List ℕ). codes "merged " ++ w) words ∙ sym whole')

  module _ (state : State) (decisions : List Decision) (order : AreInOrder state) (once : DecidesOnce model decisions) where
    -- a token stands at one place of the state
    places_one : (token : TokenName) (one other : ℕ) → slice_get state.tokens one ≡ Some token → slice_get state.tokens other ≡ Some token → one ≡ other
    places_one token one other p q =
        place_once state.tokens
        (λ i j d less within same.
        token_order.irreflexive (get_or state.tokens j d) (subst (λ t. IsTokenBefore t (get_or state.tokens j d)) same (order.tokens i j d less within)))
        one other token p q

    merged_one : (token : TokenName) (one other : ℕ) → IsMergedAt state decisions token one → IsMergedAt state decisions token other → one ≡ other
    merged_one token one other (target, at, there) (target', at', there') =
        let same = once.one token (Merge token target) (Merge token target') there there' refl refl in
        let targets : target ≡ target' = cc in
        places_one target' one other (subst (λ t. slice_get state.tokens one ≡ Some t) targets at) at'

    -- what becomes of a token is one
    state_one : (token : TokenName) (one other : TokenState) → HasTokenState model state decisions token one → HasTokenState model state decisions token other → one ≡ other
    state_one token standing.Inactive standing.Inactive p q = refl
    state_one token standing.Inactive standing.Active p q = absurd (p (inr (inl (inl q))))
    state_one token standing.Inactive standing.Fact p q = absurd (p (inl q))
    state_one token standing.Inactive (standing.Merged place) p q = absurd (p (inr (inl (inr (q.0, q.2)))))
    state_one token standing.Inactive standing.Rejected p q = absurd (p (inr (inr q)))
    state_one token standing.Active standing.Inactive p q = absurd (q (inr (inl (inl p))))
    state_one token standing.Active standing.Active p q = refl
    state_one token standing.Active standing.Fact p q = absurd (once.facts token (Activate token) q p refl)
    state_one token standing.Active (standing.Merged place) p q = let same = once.one token (Activate token) (Merge token q.0) p q.2 refl refl in absurd (let apart : ⊥ = cc in apart)
    state_one token standing.Active standing.Rejected p q = let same = once.one token (Activate token) (Reject token) p q refl refl in absurd (let apart : ⊥ = cc in apart)
    state_one token standing.Fact standing.Inactive p q = absurd (q (inl p))
    state_one token standing.Fact standing.Active p q = absurd (once.facts token (Activate token) p q refl)
    state_one token standing.Fact standing.Fact p q = refl
    state_one token standing.Fact (standing.Merged place) p q = absurd (once.facts token (Merge token q.0) p q.2 refl)
    state_one token standing.Fact standing.Rejected p q = absurd (once.facts token (Reject token) p q refl)
    state_one token (standing.Merged place) standing.Inactive p q = absurd (q (inr (inl (inr (p.0, p.2)))))
    state_one token (standing.Merged place) standing.Active p q = let same = once.one token (Activate token) (Merge token p.0) q p.2 refl refl in absurd (let apart : ⊥ = cc in apart)
    state_one token (standing.Merged place) standing.Fact p q = absurd (once.facts token (Merge token p.0) q p.2 refl)
    state_one token (standing.Merged place) (standing.Merged elsewhere) p q = ap standing.Merged (merged_one token place elsewhere p q)
    state_one token (standing.Merged place) standing.Rejected p q = let same = once.one token (Reject token) (Merge token p.0) q p.2 refl refl in absurd (let apart : ⊥ = cc in apart)
    state_one token standing.Rejected standing.Inactive p q = absurd (q (inr (inr p)))
    state_one token standing.Rejected standing.Active p q = let same = once.one token (Activate token) (Reject token) q p refl refl in absurd (let apart : ⊥ = cc in apart)
    state_one token standing.Rejected standing.Fact p q = absurd (once.facts token (Reject token) q p refl)
    state_one token standing.Rejected (standing.Merged place) p q = let same = once.one token (Reject token) (Merge token q.0) p q.2 refl refl in absurd (let apart : ⊥ = cc in apart)
    state_one token standing.Rejected standing.Rejected p q = refl

    pub token_line_one : (token : TokenName) (one other : List ℕ) → IsTokenLine model state decisions token one → IsTokenLine model state decisions token other → one ≡ other
    token_line_one token one other p q =
        let words = token_word_one model token p.word q.word p.is_word q.is_word in
        let slots = token_once model token p.slot q.slot p.has_token q.has_token in
        let preds = predicate_text_one q.slot.pred p.pred q.pred (subst (λ (s : Slot). IsPredicateText model s.pred p.pred) slots p.is_pred) q.is_pred in
        let found = state_one token p.found q.found p.has_state q.has_state in
        let shown = state_text_one state q.found p.shown q.shown (subst (λ f. IsStateText model state f p.shown) found p.is_shown) q.is_shown in
        let both : p.word ++ (codes " " ++ (p.pred ++ (codes " " ++ p.shown))) ≡ q.word ++ (codes " " ++ (q.pred ++ (codes " " ++ q.shown))) =
        λ i. words i ++ (codes " " ++ (preds i ++ (codes " " ++ shown i))) in
        p.whole ∙ (both ∙ sym q.whole)

  -- ---- decisions

  on_token_one : (first : List ℕ) (token : TokenName) (one other : List ℕ) → IsLineOnToken model first token one → IsLineOnToken model first token other → one ≡ other
  on_token_one first token one other (word, (is_word, whole)) (word', (is_word', whole')) =
      whole ∙ (ap (λ (w : List ℕ). first ++ (codes " " ++ w)) (token_word_one model token word word' is_word is_word') ∙ sym whole')

  on_tokens_one : (first : List ℕ) (token target : TokenName) (one other : List ℕ) → IsLineOnTokens model first token target one → IsLineOnTokens model first token target other → one ≡ other
  on_tokens_one first token target one other (word, (is_word, (next, (is_next, whole)))) (word', (is_word', (next', (is_next', whole')))) =
      let words = token_word_one model token word word' is_word is_word' in
      let nexts = token_word_one model target next next' is_next is_next' in
      let both : first ++ (codes " " ++ (word ++ (codes " " ++ next))) ≡ first ++ (codes " " ++ (word' ++ (codes " " ++ next'))) =
      λ i. first ++ (codes " " ++ (words i ++ (codes " " ++ nexts i))) in
      whole ∙ (both ∙ sym whole')

  on_variable_one : (first : List ℕ) (name : VarName) (value : ℤ) (one other : List ℕ) → IsLineOnVariable model first name value one → IsLineOnVariable model first name value other → one ≡ other
  on_variable_one first name value one other (word, (is_word, (kind, (of_kind, (shown, (is_shown, whole)))))) (word', (is_word', (kind', (of_kind', (shown', (is_shown', whole')))))) =
      let words = variable_word_one model name word word' is_word is_word' in
      let kinds = kind_once model name kind' kind of_kind' of_kind in
      let texts = value_text_one model kind value shown shown' is_shown (subst (λ k. IsValueText model k value shown') kinds is_shown') in
      let both : first ++ (codes " " ++ (word ++ (codes " " ++ shown))) ≡ first ++ (codes " " ++ (word' ++ (codes " " ++ shown'))) =
      λ i. first ++ (codes " " ++ (words i ++ (codes " " ++ texts i))) in
      whole ∙ (both ∙ sym whole')

  first_kind_one : (arguments : List ConArg) (one other : Option ValueKind) → IsFirstKind model arguments one → IsFirstKind model arguments other → one ≡ other
  first_kind_one [] one other p q = p ∙ sym q
  first_kind_one (Var name ∷ arguments) one other (kind, (of, is)) (kind', (of', is')) = is ∙ (ap Some (kind_once model name kind kind' of of') ∙ sym is')
  first_kind_one (Value value ∷ arguments) one other p q = first_kind_one arguments one other p q

  argument_text_one : (kind : Option ValueKind) (argument : ConArg) (one other : List ℕ) → IsArgumentText model kind argument one → IsArgumentText model kind argument other → one ≡ other
  argument_text_one kind (Var name) one other p q = variable_word_one model name one other p q
  argument_text_one (Some kind) (Value value) one other p q = value_text_one model kind value one other p q
  argument_text_one None (Value value) one other p q = absurd p

  post_line_one : (kind : Kind) (arguments : List ConArg) (one other : List ℕ) → IsPostLine model kind arguments one → IsPostLine model kind arguments other → one ≡ other
  post_line_one kind arguments one other p q =
      let kinds = first_kind_one (compared kind arguments) q.among p.among q.is_among p.is_among in
      let are = subst (λ (among : Option ValueKind). AllPlaced (λ place. IsArgumentText model (kind_at kind among place)) 0 arguments q.words) kinds q.are in
      let zip = placed_zip (λ place. IsArgumentText model (kind_at kind p.among place)) (λ place. IsArgumentText model (kind_at kind p.among place)) ◌≡◌
      (λ place. argument_text_one (kind_at kind p.among place)) 0 arguments p.words q.words p.are are in
      let words = zip_same p.words q.words zip in
      p.whole ∙ (ap (λ (shown : List (List ℕ)). spaced (codes "post" ∷ constraint_word kind ∷ shown)) words ∙ sym q.whole)

  pub decision_line_one : (decision : Decision) (one other : List ℕ) → IsDecisionLine model decision one → IsDecisionLine model decision other → one ≡ other
  decision_line_one (Specify name value) one other p q = on_variable_one (codes "specify") name value one other p q
  decision_line_one (Activate token) one other p q = on_token_one (codes "activate") token one other p q
  decision_line_one (Merge token target) one other p q = on_tokens_one (codes "merge") token target one other p q
  decision_line_one (Reject token) one other p q = on_token_one (codes "reject") token one other p q
  decision_line_one (Order first second) one other p q = on_tokens_one (codes "order") first second one other p q
  decision_line_one (Constrain kind arguments) one other p q = post_line_one kind arguments one other p q
  decision_line_one (Relate relation first second) one other (rest, (is, whole)) (rest', (is', whole')) =
      whole ∙ (ap (λ (r : List ℕ). codes "relate " ++ r) (on_tokens_one (relation_word relation) first second rest rest' is is') ∙ sym whole')

  -- ---- time edges

  point_word_one : (point : Point) (one other : List ℕ) → IsPointWord model point one → IsPointWord model point other → one ≡ other
  point_word_one points.Origin one other p q = p ∙ sym q
  point_word_one (points.Start token) one other p q = variable_word_one model (variables.Token token parts.Start) one other p q
  point_word_one (points.End token) one other p q = variable_word_one model (variables.Token token parts.End) one other p q

  pub edge_line_one : (edge : NamedEdge) (one other : List ℕ) → IsEdgeLine model edge one → IsEdgeLine model edge other → one ≡ other
  edge_line_one edge one other (start, (is_start, (end, (is_end, whole)))) (start', (is_start', (end', (is_end', whole')))) =
      let starts = point_word_one edge.from start start' is_start is_start' in
      let ends = point_word_one edge.to end end' is_end is_end' in
      let both : start ++ (codes " + " ++ (signed_decimal edge.gap ++ (codes " <= " ++ end))) ≡ start' ++ (codes " + " ++ (signed_decimal edge.gap ++ (codes " <= " ++ end'))) =
      λ i. starts i ++ (codes " + " ++ (signed_decimal edge.gap ++ (codes " <= " ++ ends i))) in
      whole ∙ (both ∙ sym whole')

  -- ---- flaws

  flaw_text_one : (flaw : Flaw) (one other : List ℕ) → IsFlawText model flaw one → IsFlawText model flaw other → one ≡ other
  flaw_text_one (Undecided token) one other p q = on_token_one (codes "token") token one other p q
  flaw_text_one (Undetermined name) one other (word, (is_word, whole)) (word', (is_word', whole')) =
      whole ∙ (ap (λ (w : List ℕ). codes "variable " ++ w) (variable_word_one model name word word' is_word is_word') ∙ sym whole')
  flaw_text_one (Unordered first second) one other p q = on_tokens_one (codes "order") first second one other p q
  flaw_text_one (Untimed name) one other (word, (is_word, whole)) (word', (is_word', whole')) =
      whole ∙ (ap (λ (w : List ℕ). codes "time " ++ w) (variable_word_one model name word word' is_word is_word') ∙ sym whole')

  pub flaw_line_one : (flaw : Flaw) (count : ℕ) (one other : List ℕ) → IsFlawLine model flaw count one → IsFlawLine model flaw count other → one ≡ other
  flaw_line_one flaw count one other (text, (is_text, whole)) (text', (is_text', whole')) =
      whole ∙ (ap (λ (t : List ℕ). codes "flaw " ++ (t ++ (codes " choices " ++ decimal count))) (flaw_text_one flaw text text' is_text is_text') ∙ sym whole')
