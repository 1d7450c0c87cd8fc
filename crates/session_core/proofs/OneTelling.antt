-- What is told of a database is one text.
use Rattle.std.proofs.Common.{◌≡◌, ℕ, List, length, sym, ap, ◌∙◌, subst, inl, inr}
use Rattle.std.specs.Prelude.{codes}
use Rattle.std.specs.List.{AllZip}
use Rattle.eu_name.specs.declared.name_text.NameText.{NameText}
use Rattle.model_core.specs.declared.decision.Decision.{Decision}
use Rattle.model_core.specs.declared.model.Model.{Model}
use Rattle.model_core.specs.History.{standing}
use Rattle.model_core.specs.Lawful.{IsLawful}
use Rattle.model_core.specs.State.{State, AreInOrder, Gives}
use Rattle.model_core.proofs.Naming.{names_one_variable}
use Rattle.law_states.proofs.Splitting.{conflict_same}
use Rattle.plan_db.specs.Database.{Database, HasLeast, HasCollapsed}
use Rattle.plan_defs.specs.Settling.{IsSettled}
use Rattle.plan_defs.proofs.Settling.{least_same, least_not_collapsed}
use Rattle.plan_defs.proofs.States.{gives_same}
use Rattle.db_edges.specs.declared.edge.NamedEdge.{NamedEdge}
use Rattle.db_edges.specs.TimeCycle.{IsTimeCycle}
use Rattle.law_search.specs.Choices.{AreChoices}
use Rattle.plan_defs.proofs.Deciding.{decides_once}
use Rattle.session_replies.specs.Lines.{with_line_feed, counted_lines, IsDomainLine, IsTokenLine, IsDecisionLine, IsEdgeLine, IsFlawLine}
use Rattle.session_core.specs.Replies.{TellsState, TellsCollapse, TellsDomain, TellsTokens, TellsDecisions, TellsFlaw, TellsConflict, TellsCycle}
use Rattle.session_core.proofs.Cycling.{cycle_one}
use Rattle.session_core.proofs.Edging.{standing_edges_one}
use Rattle.law_search.proofs.Once.{first_once, choices_once}
use Rattle.session_core.proofs.OneLine.{domain_line_one, token_line_one, decision_line_one, edge_line_one, flaw_line_one}
use Rattle.session_core.proofs.Words.{zip_one}

module _ (database : Database) where
  not_collapsed : (state : State) → HasLeast database state → HasCollapsed database → ⊥
  not_collapsed state least collapsed = least_not_collapsed database.model (standing database.history) state least collapsed

  -- what is told of a state is told of the database, once
  pub state_told_one : (Tells : State → List ℕ → Type 0) → ((state : State) (one other : List ℕ) → HasLeast database state → Tells state one → Tells state other → one ≡ other)
      → (one other : List ℕ) → TellsState Tells database one → TellsState Tells database other → one ≡ other
  state_told_one Tells once one other (inl p) (inl q) = p.1 ∙ sym q.1
  state_told_one Tells once one other (inl p) (inr (state, (least, tells))) = absurd (not_collapsed state least p.0)
  state_told_one Tells once one other (inr (state, (least, tells))) (inl q) = absurd (not_collapsed state least q.0)
  state_told_one Tells once one other (inr (state, (least, tells))) (inr (state', (least', tells'))) =
      let states = least_same database.model (standing database.history) state' state least' least in
      once state one other least tells (subst (λ s. Tells s other) states tells')

  pub collapse_told_one : (Tells : List ℕ → Type 0) → ((one other : List ℕ) → Tells one → Tells other → one ≡ other)
      → (one other : List ℕ) → TellsCollapse Tells database one → TellsCollapse Tells database other → one ≡ other
  collapse_told_one Tells once one other (inl p) (inl q) = p.1 ∙ sym q.1
  collapse_told_one Tells once one other (inl p) (inr q) = absurd (not_collapsed p.0.0 p.0.1 q.0)
  collapse_told_one Tells once one other (inr p) (inl q) = absurd (not_collapsed q.0.0 q.0.1 p.0)
  collapse_told_one Tells once one other (inr p) (inr q) = once one other p.1 q.1

-- the order of what a least state has
pub least_order : (database : Database) (state : State) → HasLeast database state → AreInOrder state
least_order database state least = least.closed.consistent.is_state.order

module _ (model : Model) where
  pub domain_told_one : IsLawful model → (text : NameText) (state : State) (one other : List ℕ) → AreInOrder state → TellsDomain model text state one → TellsDomain model text state other → one ≡ other
  domain_told_one lawful text state one other order (inl (name, domain, line, (names, gives, is_line, is))) (inl (name', domain', line', (names', gives', is_line', is'))) =
      let same = names_one_variable model text name' name lawful names' names in
      let domains = gives_same state order name domain' domain (subst (λ n. Gives state n domain') same gives') gives in
      let line_of = subst (λ d. IsDomainLine model name d line') domains (subst (λ n. IsDomainLine model n domain' line') same is_line') in
      is ∙ (ap with_line_feed (domain_line_one model name domain line line' is_line line_of) ∙ sym is')
  domain_told_one lawful text state one other order (inl (name, domain, line, (names, gives, is_line, is))) (inr q) = absurd (q.0 name domain names gives)
  domain_told_one lawful text state one other order (inr p) (inl (name, domain, line, (names, gives, is_line, is))) = absurd (p.0 name domain names gives)
  domain_told_one lawful text state one other order (inr p) (inr q) = p.1 ∙ sym q.1

  pub decisions_told_one : (word : List ℕ) (decisions : List Decision) (one other : List ℕ) → TellsDecisions model word decisions one → TellsDecisions model word decisions other → one ≡ other
  decisions_told_one word decisions one other (lines, (are, is)) (lines', (are', is')) =
      let same = zip_one (IsDecisionLine model) (decision_line_one model) decisions lines lines' are are' in
      is ∙ (ap (counted_lines word) same ∙ sym is')

  module _ (decisions : List Decision) (settled : IsSettled model decisions) (state : State) (order : AreInOrder state) where
    pub tokens_told_one : (one other : List ℕ) → TellsTokens model decisions state one → TellsTokens model decisions state other → one ≡ other
    tokens_told_one one other (lines, (are, is)) (lines', (are', is')) =
        let same = zip_one (IsTokenLine model state decisions) (token_line_one model state decisions order (decides_once model decisions settled)) state.tokens lines lines' are are' in
        is ∙ (ap (counted_lines (codes "tokens")) same ∙ sym is')

    pub flaw_told_one : (one other : List ℕ) → TellsFlaw model decisions state one → TellsFlaw model decisions state other → one ≡ other
    flaw_told_one one other (inl p) (inl q) = p.1 ∙ sym q.1
    flaw_told_one one other (inl p) (inr (flaw, choices, line, (is_first, are, is_line, is))) = absurd (p.0 (flaw, is_first.is))
    flaw_told_one one other (inr (flaw, choices, line, (is_first, are, is_line, is))) (inl q) = absurd (q.0 (flaw, is_first.is))
    flaw_told_one one other (inr (flaw, choices, line, (is_first, are, is_line, is))) (inr (flaw', choices', line', (is_first', are', is_line', is'))) =
        let flaws = first_once model decisions state flaw' flaw is_first' is_first in
        let lists = choices_once model decisions state order 512 flaw choices' choices (subst (λ f. AreChoices model decisions state 512 f choices') flaws are') are in
        let line_of = subst (λ (n : ℕ). IsFlawLine model flaw n line') (ap length lists) (subst (λ f. IsFlawLine model f (length choices') line') flaws is_line') in
        is ∙ (ap with_line_feed (flaw_line_one model flaw (length choices) line line' is_line line_of) ∙ sym is')

module _ (database : Database) where
  pub conflict_told_one : (one other : List ℕ) → TellsConflict database one → TellsConflict database other → one ≡ other
  conflict_told_one one other (conflict, (is, tells)) (conflict', (is', tells')) =
      let same = conflict_same database.model (standing database.history) conflict' conflict is' is in
      decisions_told_one database.model (codes "conflict") conflict one other tells
      (subst (λ (list : List Decision). TellsDecisions database.model (codes "conflict") list other) same tells')

  pub cycle_told_one : IsSettled database.model (standing database.history) → (one other : List ℕ) → TellsCycle database one → TellsCycle database other → one ≡ other
  cycle_told_one settled one other (edges, cycle, lines, (are, is_cycle, lines_are, is)) (edges', cycle', lines', (are', is_cycle', lines_are', is')) =
      let same = standing_edges_one database settled edges' edges are' are in
      let cycles = cycle_one edges cycle' cycle (subst (λ (list : List NamedEdge). IsTimeCycle list cycle') same is_cycle') is_cycle in
      let texts = zip_one (IsEdgeLine database.model) (edge_line_one database.model) cycle lines lines' lines_are
      (subst (λ (list : List NamedEdge). AllZip (IsEdgeLine database.model) list lines') cycles lines_are') in
      is ∙ (ap (counted_lines (codes "cycle")) texts ∙ sym is')
