-- What is there has a line: names have words, and values have texts.
use Rattle.std.proofs.Common.{◌≡◌, ℕ, suc, ◌+◌, ℤ, Option, Some, None, List, [], ◌∷◌, ◌++◌, slice_get, refl, subst, arith}
use Rattle.std.specs.Prelude.{Contains, codes}
use Rattle.std.specs.Fmt.{decimal, signed_decimal}
use Rattle.std.specs.List.{AllZip}
use Rattle.std.proofs.lemmas.List.Elements.{All-contains}
use Rattle.domain_core.specs.declared.kind.Kind.{Kind}
use Rattle.domain_core.specs.Domain.{Domain, Range, Set, Has}
use Rattle.eu_name.specs.declared.name.Part.{Part}
use Rattle.eu_name.specs.declared.name.Part.TheVariants.{Start, End, Duration, Object, Param}
use Rattle.eu_name.specs.declared.name.TokenName.{TokenName}
use Rattle.eu_name.specs.declared.name.VarName.{VarName}
use Rattle.eu_name.specs.declared.name.VarName.TheVariants as variables
use Rattle.eu_name.specs.Spelling.{name_spelling}
use Rattle.eu_name.proofs.Members.{contains_from_get}
use Rattle.eu_name.proofs.Ordered.{contains_head, contains_later}
use Rattle.model_core.specs.declared.decision.ConArg.{ConArg}
use Rattle.model_core.specs.declared.decision.ConArg.TheVariants.{Var, Value}
use Rattle.model_core.specs.declared.decision.Decision.{Decision}
use Rattle.model_core.specs.declared.decision.Decision.TheVariants.{Specify, Activate, Merge, Reject, Order, Constrain, Relate}
use Rattle.model_core.specs.declared.model.Model.{Model}
use Rattle.model_core.specs.declared.rule.Slot.{Slot}
use Rattle.model_core.specs.declared.variable.Base.{Base}
use Rattle.model_core.specs.declared.variable.Base.TheVariants.{Given}
use Rattle.model_core.specs.declared.variable.ValueKind.{ValueKind}
use Rattle.model_core.specs.declared.variable.ValueKind.TheVariants as kinds
use Rattle.model_core.specs.declared.view.TokenState.{TokenState}
use Rattle.model_core.specs.declared.view.TokenState.TheVariants as standing
use Rattle.model_core.specs.Kinds.{IsValueOf, IsPartOfKind, IsVariableOfKind}
use Rattle.model_core.specs.Lawful.{IsLawful, IsToken}
use Rattle.model_core.specs.State.{State, IsState}
use Rattle.model_core.specs.TokenStates.{HasTokenState}
use Rattle.model_core.specs.Tokens.{HasToken}
use Rattle.model_core.specs.Variables.{HasBase, HasPartBase}
use Rattle.model_core.proofs.OneText.{one_token_text, one_variable_text}
use Rattle.model_core.proofs.WellFormed.{token_text_well_formed}
use Rattle.plan_text.specs.Subjects.{IsPredicateText}
use Rattle.plan_text.specs.Values.{IsValueText}
use Rattle.plan_text.proofs.Existing.{values_have_texts}
use Rattle.db_edges.specs.declared.edge.Point.{Point}
use Rattle.db_edges.specs.declared.edge.Point.TheVariants as points
use Rattle.plan_defs.specs.Flaws.{Flaw, Undecided, Undetermined, Unordered, Untimed}
use Rattle.plan_defs.proofs.Kinding.{pred_of_slot}
use Rattle.script_lang.specs.Compared.{kind_at, AllPlaced}
use Rattle.script_lang.specs.KindWords.{constraint_word, relation_word}
use Rattle.session_replies.specs.Existence.{DomainsHaveLines, TokensHaveLines, DecisionsHaveLines, EdgesHaveLines, FlawsHaveLines}
use Rattle.session_replies.specs.Lines.{spaced, printed_number, IsTokenWord, IsVariableWord, IsDomainText, IsStateText, IsLineOnToken, IsLineOnTokens, IsArgumentText, IsPostLine, IsDecisionLine, IsPointWord, IsFlawText}
use Rattle.session_replies.specs.Writable.{IsArgumentWritable, IsPostWritable, IsWritable, IsPointWritable, IsFlawWritable}
use Rattle.session_replies.proofs.Declaring.{values_of_kind, declared_of_kind}
use Rattle.session_replies.proofs.Spacing.{variable_word}

-- ---- values

member_texts : (model : Model) (kind : ValueKind) (members : List ℤ) → ((value : ℤ) → Contains members value → IsValueOf model kind value)
    → (words : List (List ℕ)) × AllZip (IsValueText model kind) members words
member_texts model kind [] are = ([], tt)
member_texts model kind (value ∷ members) are =
    let first = values_have_texts model kind value (are value (contains_head value members)) in
    let rest = member_texts model kind members (λ other there. are other (contains_later value other members there)) in
    (first.0 ∷ rest.0, (first.1, rest.1))

domain_text : (model : Model) (kind : ValueKind) (domain : Domain) → ((value : ℤ) → Has domain value → IsValueOf model kind value)
    → (shown : List ℕ) × IsDomainText model kind domain shown
domain_text model kind (Range lo hi) are = (codes "[" ++ (printed_number kind lo ++ (codes " " ++ (printed_number kind hi ++ codes "]"))), refl)
domain_text model kind (Set members) are =
    let words = member_texts model kind members are in
    (codes "{" ++ (spaced words.0 ++ codes "}"), (words.0, (words.1, refl)))

-- ---- kinds

part_kind : (model : Model) (slot : Slot) (part : Part) (base : Base) → HasPartBase model slot part base → (kind : ValueKind) × IsPartOfKind model slot.pred kind part
part_kind model slot Start base is = (kinds.Int, refl)
part_kind model slot End base is = (kinds.Int, refl)
part_kind model slot Duration base is = (kinds.Int, refl)
part_kind model slot Object base is = (kinds.Object, refl)
part_kind model slot (Param number) base (variable, has, is) = (variable.kind, (variable, has, refl))

pub variable_kind : (model : Model) (name : VarName) (base : Base) → HasBase model name base → (kind : ValueKind) × IsVariableOfKind model kind name
variable_kind model (variables.Global number) base (variable, is, same) = (variable.kind, (variable, (is, refl)))
variable_kind model (variables.Token token part) base (slot, has, is) =
    let found = part_kind model slot part base is in (found.0, (slot, (has, found.1)))
variable_kind model (variables.Local token rule number) base is =
    (is.variable.kind, (is.slot, (is.has_token, (is.variable, (is.has_local, refl)))))

-- ---- names

module _ (model : Model) (lawful : IsLawful model) where
  token_named : (token : TokenName) → IsToken model token → (word : List ℕ) × IsTokenWord model token word
  token_named token (slot, has) =
      let text = one_token_text model token slot has in
      (name_spelling text.0, (text.0, ((token_text_well_formed model text.0 token lawful text.1.names, refl), text.1.names)))

  variable_named : (name : VarName) (base : Base) → HasBase model name base → (word : List ℕ) × IsVariableWord model name word
  variable_named name base has =
      let text = one_variable_text model name base has in
      (name_spelling text.0, variable_word model name text.0 lawful text.1.names)

  predicate_named : (token : TokenName) (slot : Slot) → HasToken model token slot → (word : List ℕ) × IsPredicateText model slot.pred word
  predicate_named token slot has =
      let pred = pred_of_slot model token slot lawful has in
      let fine = lawful.preds slot.pred pred.0 pred.1 in (
        fine.class.name ++ (codes "." ++ pred.0.name),
        record { pred = pred.0; is_pred = pred.1; class = fine.class; is_class = fine.is_class; whole = refl },
      )

  on_token : (first : List ℕ) (token : TokenName) → IsToken model token → (line : List ℕ) × IsLineOnToken model first token line
  on_token first token is =
      let word = token_named token is in (first ++ (codes " " ++ word.0), (word.0, (word.1, refl)))

  on_tokens : (first : List ℕ) (one other : TokenName) → IsToken model one → IsToken model other → (line : List ℕ) × IsLineOnTokens model first one other line
  on_tokens first one other is its =
      let word = token_named one is in
      let next = token_named other its in
      (first ++ (codes " " ++ (word.0 ++ (codes " " ++ next.0))), (word.0, (word.1, (next.0, (next.1, refl)))))

  -- ---- lines

  argument_text : (kind : Option ValueKind) (argument : ConArg) → IsArgumentWritable model kind argument → (word : List ℕ) × IsArgumentText model kind argument word
  argument_text kind (Var name) (base, has) = variable_named name base has
  argument_text (Some kind) (Value value) of = values_have_texts model kind value of
  argument_text None (Value value) of = absurd of

  argument_texts : (kind : Kind) (among : Option ValueKind) (place : ℕ) (arguments : List ConArg)
      → ((n : ℕ) (argument : ConArg) → slice_get arguments n ≡ Some argument → IsArgumentWritable model (kind_at kind among (place + n)) argument)
      → (words : List (List ℕ)) × AllPlaced (λ n. IsArgumentText model (kind_at kind among n)) place arguments words
  argument_texts kind among place [] each = ([], tt)
  argument_texts kind among place (argument ∷ arguments) each =
      let first = argument_text (kind_at kind among place) argument
      (subst (λ (n : ℕ). IsArgumentWritable model (kind_at kind among n) argument) (omega arith) (each 0 argument refl)) in
      let rest = argument_texts kind among (place + 1) arguments
      (λ n other at. subst (λ (m : ℕ). IsArgumentWritable model (kind_at kind among m) other) (omega arith) (each (suc n) other at)) in
      (first.0 ∷ rest.0, (first.1, rest.1))

  post_line : (kind : Kind) (arguments : List ConArg) → IsPostWritable model kind arguments → (line : List ℕ) × IsPostLine model kind arguments line
  post_line kind arguments is =
      let words = argument_texts kind is.among 0 arguments (λ n argument at.
      subst (λ (m : ℕ). IsArgumentWritable model (kind_at kind is.among m) argument) (omega arith) (is.each n argument at)) in (
        spaced (codes "post" ∷ constraint_word kind ∷ words.0),
        record { posted = is.posted; some = is.some; among = is.among; is_among = is.is_among; words = words.0; are = words.1; whole = refl },
      )

  decision_line : (decision : Decision) → IsWritable model decision → (line : List ℕ) × IsDecisionLine model decision line
  decision_line (Specify name value) declared =
      let kind = variable_kind model name (Given declared.0) declared.1 in
      let word = variable_named name (Given declared.0) declared.1 in
      let shown = values_have_texts model kind.0 value (declared_of_kind model lawful name kind.0 value declared kind.1) in (
        codes "specify" ++ (codes " " ++ (word.0 ++ (codes " " ++ shown.0))),
        (word.0, (word.1, (kind.0, (kind.1, (shown.0, (shown.1, refl)))))),
      )
  decision_line (Activate token) is = on_token (codes "activate") token is
  decision_line (Merge token target) is = on_tokens (codes "merge") token target is.0 is.1
  decision_line (Reject token) is = on_token (codes "reject") token is
  decision_line (Order one other) is = on_tokens (codes "order") one other is.0 is.1
  decision_line (Constrain kind arguments) is = post_line kind arguments is
  decision_line (Relate relation one other) is =
      let rest = on_tokens (relation_word relation) one other is.0 is.1 in
      (codes "relate " ++ rest.0, (rest.0, (rest.1, refl)))

  point_word : (point : Point) → IsPointWritable model point → (word : List ℕ) × IsPointWord model point word
  point_word points.Origin is = (codes "origin", refl)
  point_word (points.Start token) is = variable_named (variables.Token token Start) (Given (Range model.problem.start model.problem.end)) (is.0, is.1, refl)
  point_word (points.End token) is = variable_named (variables.Token token End) (Given (Range model.problem.start model.problem.end)) (is.0, is.1, refl)

  flaw_text : (flaw : Flaw) → IsFlawWritable model flaw → (text : List ℕ) × IsFlawText model flaw text
  flaw_text (Undecided token) is = on_token (codes "token") token is
  flaw_text (Undetermined name) is = let word = variable_named name is.0 is.1 in (codes "variable " ++ word.0, (word.0, (word.1, refl)))
  flaw_text (Unordered one other) is = on_tokens (codes "order") one other is.0 is.1
  flaw_text (Untimed name) is = let word = variable_named name is.0 is.1 in (codes "time " ++ word.0, (word.0, (word.1, refl)))

  -- ---- tokens

  module _ (state : State) (is_state : IsState model state) where
    token_there : (token : TokenName) → Contains state.tokens token → IsToken model token
    token_there token there = All-contains (IsToken model) state.tokens token is_state.tokens there

    state_text : (found : TokenState) (decisions : List Decision) (token : TokenName) → HasTokenState model state decisions token found
        → (shown : List ℕ) × IsStateText model state found shown
    state_text standing.Inactive decisions token is = (codes "inactive", refl)
    state_text standing.Active decisions token is = (codes "active", refl)
    state_text standing.Fact decisions token is = (codes "fact", refl)
    state_text (standing.Merged place) decisions token is =
        let word = token_named is.0 (token_there is.0 (contains_from_get state.tokens place is.0 is.1)) in
        (codes "merged " ++ word.0, (is.0, (is.1, (word.0, (word.1, refl)))))
    state_text standing.Rejected decisions token is = (codes "rejected", refl)

-- ---- the laws

pub domains_have_lines : DomainsHaveLines
domains_have_lines model state name domain lawful in_base gives =
    let base = in_base name domain gives in
    let kind = variable_kind model name base.0 base.1 in
    let word = variable_named model lawful name base.0 base.1 in
    let shown = domain_text model kind.0 domain (values_of_kind model lawful name domain kind.0 base kind.1) in
    (word.0 ++ (codes " " ++ shown.0), (word.0, (word.1, (kind.0, (kind.1, (shown.0, (shown.1, refl)))))))

pub tokens_have_lines : TokensHaveLines
tokens_have_lines model state decisions token found lawful is_state there has =
    let is = token_there model lawful state is_state token there in
    let word = token_named model lawful token is in
    let pred = predicate_named model lawful token is.0 is.1 in
    let shown = state_text model lawful state is_state found decisions token has in (
      word.0 ++ (codes " " ++ (pred.0 ++ (codes " " ++ shown.0))),
      record {
        word = word.0;
        is_word = word.1;
        slot = is.0;
        has_token = is.1;
        pred = pred.0;
        is_pred = pred.1;
        found = found;
        has_state = has;
        shown = shown.0;
        is_shown = shown.1;
        whole = refl;
      },
    )

pub decisions_have_lines : DecisionsHaveLines
decisions_have_lines model decision lawful is = decision_line model lawful decision is

pub edges_have_lines : EdgesHaveLines
edges_have_lines model edge lawful is =
    let from = point_word model lawful edge.from is.0 in
    let to = point_word model lawful edge.to is.1 in
    (from.0 ++ (codes " + " ++ (signed_decimal edge.gap ++ (codes " <= " ++ to.0))), (from.0, (from.1, (to.0, (to.1, refl)))))

pub flaws_have_lines : FlawsHaveLines
flaws_have_lines model flaw count lawful is =
    let text = flaw_text model lawful flaw is in
    (codes "flaw " ++ (text.0 ++ (codes " choices " ++ decimal count)), (text.0, (text.1, refl)))
