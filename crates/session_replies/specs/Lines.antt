-- How the replies of a session say what a model and a database have.
use Rattle.std.specs.Prelude.{◌≡◌, ℕ, ◌<◌, ℤ, Option, Some, None, List, [], ◌∷◌, ◌++◌, length, slice_get, codes}
use Rattle.std.specs.Fmt.{decimal, signed_decimal}
use Rattle.std.specs.List.{AllZip, flat_map}
use Rattle.domain_core.specs.declared.kind.Kind.{Kind}
use Rattle.domain_core.specs.Domain.{Domain, Range, Set}
use Rattle.eu_name.specs.declared.name.Part.TheVariants as parts
use Rattle.eu_name.specs.declared.name.TokenName.{TokenName}
use Rattle.eu_name.specs.declared.name.VarName.{VarName}
use Rattle.eu_name.specs.declared.name.VarName.TheVariants as variables
use Rattle.eu_name.specs.declared.name_text.NameText.{NameText}
use Rattle.eu_name.specs.Spelling.{Spells}
use Rattle.model_core.specs.declared.decision.ConArg.{ConArg}
use Rattle.model_core.specs.declared.decision.ConArg.TheVariants.{Var, Value}
use Rattle.model_core.specs.declared.decision.Decision.{Decision}
use Rattle.model_core.specs.declared.decision.Decision.TheVariants.{Specify, Activate, Merge, Reject, Order, Constrain, Relate}
use Rattle.model_core.specs.declared.item.Rel.{Rel}
use Rattle.model_core.specs.declared.model.Model.{Model}
use Rattle.model_core.specs.declared.rule.Slot.{Slot}
use Rattle.model_core.specs.declared.variable.ValueKind.{ValueKind}
use Rattle.model_core.specs.declared.variable.ValueKind.TheVariants as kinds
use Rattle.model_core.specs.declared.view.TokenState.{TokenState}
use Rattle.model_core.specs.declared.view.TokenState.TheVariants as standing
use Rattle.model_core.specs.Kinds.{IsVariableOfKind}
use Rattle.model_core.specs.Names.{NamesToken}
use Rattle.model_core.specs.State.{State}
use Rattle.model_core.specs.Tokens.{HasToken}
use Rattle.model_core.specs.TokenStates.{HasTokenState}
use Rattle.plan_text.specs.Subjects.{IsPredicateText}
use Rattle.plan_text.specs.Values.{IsValueText, decimal_text}
use Rattle.db_edges.specs.declared.edge.NamedEdge.{NamedEdge}
use Rattle.db_edges.specs.declared.edge.Point.{Point}
use Rattle.db_edges.specs.declared.edge.Point.TheVariants as points
use Rattle.plan_defs.specs.Flaws.{Flaw, Undecided, Undetermined, Unordered, Untimed}
use Rattle.script_lang.specs.Compared.{compared, IsFirstKind, kind_at, AllPlaced}
use Rattle.script_lang.specs.KindWords.{IsPosted, constraint_word, relation_word}
use Rattle.script_lang.specs.Naming.{SaysVariable}

-- ---- names

-- the word names the token
abbrev pub IsTokenWord : Model → TokenName → List ℕ → Type 0
IsTokenWord model token word = (text : NameText) × (Spells word text × NamesToken model text token)

-- the word names the variable
abbrev pub IsVariableWord : Model → VarName → List ℕ → Type 0
IsVariableWord model name word = SaysVariable model name word

-- ---- lines

-- a line as it is printed, with its line feed
abbrev pub with_line_feed : List ℕ → List ℕ
with_line_feed text = text ++ 10 ∷ []

-- a line that says how many there are, and then the lines
abbrev pub counted_lines : List ℕ → List (List ℕ) → List ℕ
counted_lines word lines =
    with_line_feed (word ++ (codes " " ++ decimal (length lines))) ++ flat_map with_line_feed lines

-- ---- domains

-- the words with single spaces between them
abbrev pub spaced : List (List ℕ) → List ℕ
spaced [] = []
spaced (word ∷ words) = word ++ flat_map (λ next. codes " " ++ next) words

-- how a number of the kind is printed: thousandths as a decimal
abbrev pub printed_number : ValueKind → ℤ → List ℕ
printed_number kinds.Float value = decimal_text value
printed_number kind value = signed_decimal value

-- a range is printed by its ends, and a set by its members, as values of the kind
abbrev pub IsDomainText : Model → ValueKind → Domain → List ℕ → Type 0
IsDomainText model kind (Range lo hi) text =
    text ≡ codes "[" ++ (printed_number kind lo ++ (codes " " ++ (printed_number kind hi ++ codes "]")))
IsDomainText model kind (Set members) text =
    (words : List (List ℕ)) × (AllZip (IsValueText model kind) members words
    × (text ≡ codes "{" ++ (spaced words ++ codes "}")))

-- the variable with its domain
abbrev pub IsDomainLine : Model → VarName → Domain → List ℕ → Type 0
IsDomainLine model name domain line =
    (word : List ℕ) × (IsVariableWord model name word
    × ((kind : ValueKind) × (IsVariableOfKind model kind name
    × ((shown : List ℕ) × (IsDomainText model kind domain shown × (line ≡ word ++ (codes " " ++ shown)))))))

-- ---- tokens

-- what has become of a token of the state
abbrev pub IsStateText : Model → State → TokenState → List ℕ → Type 0
IsStateText model state standing.Inactive text = text ≡ codes "inactive"
IsStateText model state standing.Active text = text ≡ codes "active"
IsStateText model state standing.Fact text = text ≡ codes "fact"
IsStateText model state (standing.Merged place) text =
    (target : TokenName) × ((slice_get state.tokens place ≡ Some target)
    × ((word : List ℕ) × (IsTokenWord model target word × (text ≡ codes "merged " ++ word))))
IsStateText model state standing.Rejected text = text ≡ codes "rejected"

-- the token with its predicate, and what has become of it
pub record IsTokenLine (model : Model) (state : State) (decisions : List Decision) (token : TokenName) (line : List ℕ) : Type 0 where
  pub word : List ℕ
  pub is_word : IsTokenWord model token word
  pub slot : Slot
  pub has_token : HasToken model token slot
  pub pred : List ℕ
  pub is_pred : IsPredicateText model slot.pred pred
  pub found : TokenState
  pub has_state : HasTokenState model state decisions token found
  pub shown : List ℕ
  pub is_shown : IsStateText model state found shown
  pub whole : line ≡ word ++ (codes " " ++ (pred ++ (codes " " ++ shown)))

-- ---- decisions

-- a command's word and the name of a token
abbrev pub IsLineOnToken : Model → List ℕ → TokenName → List ℕ → Type 0
IsLineOnToken model first token line =
    (word : List ℕ) × (IsTokenWord model token word × (line ≡ first ++ (codes " " ++ word)))

-- a command's word and the names of two tokens
abbrev pub IsLineOnTokens : Model → List ℕ → TokenName → TokenName → List ℕ → Type 0
IsLineOnTokens model first one other line =
    (word : List ℕ) × (IsTokenWord model one word
    × ((next : List ℕ) × (IsTokenWord model other next × (line ≡ first ++ (codes " " ++ (word ++ (codes " " ++ next)))))))

-- a command's word, the name of a variable and a value of its kind
abbrev pub IsLineOnVariable : Model → List ℕ → VarName → ℤ → List ℕ → Type 0
IsLineOnVariable model first name value line =
    (word : List ℕ) × (IsVariableWord model name word
    × ((kind : ValueKind) × (IsVariableOfKind model kind name
    × ((shown : List ℕ) × (IsValueText model kind value shown
    × (line ≡ first ++ (codes " " ++ (word ++ (codes " " ++ shown)))))))))

-- an argument of a constraint as it is written: a variable by its name, and a value as one of the kind in which it is read
abbrev pub IsArgumentText : Model → Option ValueKind → ConArg → List ℕ → Type 0
IsArgumentText model kind (Var name) word = IsVariableWord model name word
IsArgumentText model (Some kind) (Value value) word = IsValueText model kind value word
IsArgumentText model None (Value value) word = ⊥

-- a constraint that may be posted, with its arguments, of which there are some, each in the kind in which it is read
pub record IsPostLine (model : Model) (kind : Kind) (arguments : List ConArg) (line : List ℕ) : Type 0 where
  pub posted : IsPosted kind
  pub some : 0 < length arguments
  pub among : Option ValueKind
  pub is_among : IsFirstKind model (compared kind arguments) among
  pub words : List (List ℕ)
  pub are : AllPlaced (λ place. IsArgumentText model (kind_at kind among place)) 0 arguments words
  pub whole : line ≡ spaced (codes "post" ∷ constraint_word kind ∷ words)

-- a relation with the names of two tokens
abbrev pub IsRelateLine : Model → Rel → TokenName → TokenName → List ℕ → Type 0
IsRelateLine model relation one other line =
    (rest : List ℕ) × (IsLineOnTokens model (relation_word relation) one other rest × (line ≡ codes "relate " ++ rest))

-- the decision as the command that makes it
abbrev pub IsDecisionLine : Model → Decision → List ℕ → Type 0
IsDecisionLine model (Specify name value) line = IsLineOnVariable model (codes "specify") name value line
IsDecisionLine model (Activate token) line = IsLineOnToken model (codes "activate") token line
IsDecisionLine model (Merge token target) line = IsLineOnTokens model (codes "merge") token target line
IsDecisionLine model (Reject token) line = IsLineOnToken model (codes "reject") token line
IsDecisionLine model (Order one other) line = IsLineOnTokens model (codes "order") one other line
IsDecisionLine model (Constrain kind arguments) line = IsPostLine model kind arguments line
IsDecisionLine model (Relate relation one other) line = IsRelateLine model relation one other line

-- ---- time edges

-- a point by the variable that it is, and the origin by its word
abbrev pub IsPointWord : Model → Point → List ℕ → Type 0
IsPointWord model points.Origin word = word ≡ codes "origin"
IsPointWord model (points.Start token) word = IsVariableWord model (variables.Token token parts.Start) word
IsPointWord model (points.End token) word = IsVariableWord model (variables.Token token parts.End) word

-- the edge as an inequality
abbrev pub IsEdgeLine : Model → NamedEdge → List ℕ → Type 0
IsEdgeLine model edge line =
    (from : List ℕ) × (IsPointWord model edge.from from × ((to : List ℕ) × (IsPointWord model edge.to to
    × (line ≡ from ++ (codes " + " ++ (signed_decimal edge.gap ++ (codes " <= " ++ to)))))))

-- ---- flaws

-- what the flaw is about
abbrev pub IsFlawText : Model → Flaw → List ℕ → Type 0
IsFlawText model (Undecided token) text = IsLineOnToken model (codes "token") token text
IsFlawText model (Undetermined name) text =
    (word : List ℕ) × (IsVariableWord model name word × (text ≡ codes "variable " ++ word))
IsFlawText model (Unordered one other) text = IsLineOnTokens model (codes "order") one other text
IsFlawText model (Untimed name) text =
    (word : List ℕ) × (IsVariableWord model name word × (text ≡ codes "time " ++ word))

-- the flaw with the number of its choices
abbrev pub IsFlawLine : Model → Flaw → ℕ → List ℕ → Type 0
IsFlawLine model flaw count line =
    (text : List ℕ) × (IsFlawText model flaw text
    × (line ≡ codes "flaw " ++ (text ++ (codes " choices " ++ decimal count))))
