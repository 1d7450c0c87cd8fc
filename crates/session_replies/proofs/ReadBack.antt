-- Lines of decisions are read back.
use Rattle.std.proofs.Common.{◌≡◌, ℕ, ◌+◌, ◌≤◌, ℤ, Option, Some, None, List, [], ◌∷◌, length, Ok, refl, sym, ap, ◌∙◌, subst, inl, inr, codes, arith}
use Rattle.std.specs.List.{AllByRecursion}
use Rattle.std.proofs.lemmas.List.Elements.{All-from_recursion}
use Rattle.domain_core.specs.declared.kind.Kind.{Kind}
use Rattle.domain_core.specs.declared.kind.Kind.TheVariants as constraints
use Rattle.eu_name.specs.declared.name.TokenName.{TokenName}
use Rattle.model_core.specs.declared.decision.ConArg.{ConArg}
use Rattle.model_core.specs.declared.decision.ConArg.TheVariants.{Var, Value}
use Rattle.model_core.specs.declared.decision.Decision.{Decision}
use Rattle.model_core.specs.declared.decision.Decision.TheVariants as decisions
use Rattle.model_core.specs.declared.item.Rel.{Rel}
use Rattle.model_core.specs.declared.item.Rel.TheVariants as relations
use Rattle.model_core.specs.declared.model.Model.{Model}
use Rattle.model_core.specs.declared.variable.ValueKind.{ValueKind}
use Rattle.model_core.specs.declared.variable.ValueKind.TheVariants as kinds
use Rattle.model_core.specs.Lawful.{IsLawful}
use Rattle.plan_text.specs.Values.{IsValueText}
use Rattle.script_lang.specs.declared.command.Command.{Command}
use Rattle.script_lang.specs.declared.command.Command.TheVariants.{Specify, Activate, Merge, Reject, Order, Post, Relate}
use Rattle.script_lang.specs.Compared.{kind_at, AllPlaced}
use Rattle.script_lang.specs.KindWords.{constraint_word, relation_word}
use Rattle.script_lang.specs.Line.{IsValueWord, IsArgumentWord, ReadsLine}
use Rattle.script_lang.specs.Words.{words_of}
use Rattle.session_replies.specs.Lines.{IsDecisionLine, IsLineOnToken, IsLineOnTokens, IsArgumentText}
use Rattle.script_lang.specs.Naming.{AsksDecision, SaysArgument, SaysValue}
use Rattle.session_replies.specs.Reading.{HasOuterObjects, IsToldApart, DecisionLinesAreReadBack}
use Rattle.session_replies.proofs.Apart.{value_no_variable}
use Rattle.session_replies.proofs.Paths.{member_name, member_path, object_name, object_path}
use Rattle.session_replies.proofs.Separated.{IsWhole, name_whole, spelling_whole, object_whole, number_whole, decimal_whole, word_then, two_words, three_words, spaced_words}
use Rattle.session_replies.proofs.Numbers.{number_said, decimal_signed, decimal_said}

-- ---- values

-- what is written of a value says it in a command
value_said : (model : Model) (kind : ValueKind) (value : ℤ) (word : List ℕ) → IsLawful model → IsValueText model kind value word → IsWhole word × (IsValueWord word × SaysValue model kind value word)
value_said model kinds.Int value word lawful (is, same) =
    let said = number_said value is in
    subst (λ (w : List ℕ). IsWhole w × (IsValueWord w × SaysValue model kinds.Int value w)) (sym same) (number_whole value is, (inl said.0, said))
value_said model kinds.Float value word lawful (is, same) =
    subst (λ (w : List ℕ). IsWhole w × (IsValueWord w × SaysValue model kinds.Float value w)) (sym same) (decimal_whole value is, (inr (inl (decimal_signed value is)), decimal_said value is))
value_said model kinds.Bool value word lawful (inl (is, same)) =
    (subst IsWhole (sym same) (omega arith, (refl, (refl, (refl, (refl, (refl, tt)))))), (inr (inr (inl (inr same))), inl (is, same)))
value_said model kinds.Bool value word lawful (inr (is, same)) =
    (subst IsWhole (sym same) (omega arith, (refl, (refl, (refl, (refl, tt))))), (inr (inr (inl (inl same))), inr (is, same)))
value_said model (kinds.Enum number) value word lawful is =
    let name = member_name model number value word lawful is in
    (name_whole word name, (inr (inr (inr (member_path word name))), is))
value_said model kinds.Object value word lawful is =
    let name = object_name model value word lawful is in
    (object_whole word name, (inr (inr (inr (object_path word name))), is))

-- the line, which isn't too long, is a command that asks for the decision
abbrev IsReadBack : Model → Decision → List ℕ → Type 0
IsReadBack model decision line = (command : Command) × (ReadsLine line (Ok command) × AsksDecision model command decision)

-- the words for constraints and relations are words
constraint_whole : (kind : Kind) → IsWhole (constraint_word kind)
constraint_whole constraints.Eq = (omega arith, (refl, (refl, tt)))
constraint_whole constraints.Neq = (omega arith, (refl, (refl, (refl, tt))))
constraint_whole constraints.Lt = (omega arith, (refl, (refl, tt)))
constraint_whole constraints.Leq = (omega arith, (refl, (refl, (refl, tt))))
constraint_whole constraints.AddEq = (omega arith, (refl, (refl, (refl, (refl, (refl, tt))))))
constraint_whole constraints.MulEq = (omega arith, (refl, (refl, (refl, (refl, (refl, tt))))))
constraint_whole constraints.TestEq = (omega arith, (refl, (refl, (refl, (refl, (refl, (refl, tt)))))))
constraint_whole constraints.TestLeq = (omega arith, (refl, (refl, (refl, (refl, (refl, (refl, (refl, tt))))))))
constraint_whole constraints.AllDiff = (omega arith, (refl, (refl, (refl, (refl, (refl, (refl, (refl, tt))))))))
constraint_whole (constraints.Field number) = (omega arith, (refl, (refl, (refl, (refl, (refl, tt))))))

-- so are those for relations
relation_whole : (relation : Rel) → IsWhole (relation_word relation)
relation_whole relations.Any = (omega arith, (refl, (refl, (refl, tt))))
relation_whole relations.Before = (omega arith, (refl, (refl, (refl, (refl, (refl, (refl, tt)))))))
relation_whole relations.After = (omega arith, (refl, (refl, (refl, (refl, (refl, tt))))))
relation_whole relations.Meets = (omega arith, (refl, (refl, (refl, (refl, (refl, tt))))))
relation_whole relations.MetBy = (omega arith, (refl, (refl, (refl, (refl, (refl, (refl, tt)))))))
relation_whole relations.Equals = (omega arith, (refl, (refl, (refl, (refl, (refl, (refl, tt)))))))
relation_whole relations.Contains = (omega arith, (refl, (refl, (refl, (refl, (refl, (refl, (refl, (refl, tt)))))))))
relation_whole relations.ContainedBy = (omega arith, (refl, (refl, (refl, (refl, (refl, (refl, (refl, (refl, (refl, (refl, (refl, (refl, tt)))))))))))))
relation_whole relations.Starts = (omega arith, (refl, (refl, (refl, (refl, (refl, (refl, tt)))))))
relation_whole relations.Ends = (omega arith, (refl, (refl, (refl, (refl, tt)))))
relation_whole relations.Parallels = (omega arith, (refl, (refl, (refl, (refl, (refl, (refl, (refl, (refl, (refl, tt))))))))))
relation_whole relations.ParalleledBy = (omega arith, (refl, (refl, (refl, (refl, (refl, (refl, (refl, (refl, (refl, (refl, (refl, (refl, (refl, tt))))))))))))))
relation_whole relations.StartsDuring = (omega arith, (refl, (refl, (refl, (refl, (refl, (refl, (refl, (refl, (refl, (refl, (refl, (refl, (refl, tt))))))))))))))
relation_whole relations.ContainsStart = (omega arith, (refl, (refl, (refl, (refl, (refl, (refl, (refl, (refl, (refl, (refl, (refl, (refl, (refl, (refl, tt)))))))))))))))
relation_whole relations.EndsDuring = (omega arith, (refl, (refl, (refl, (refl, (refl, (refl, (refl, (refl, (refl, (refl, (refl, tt))))))))))))
relation_whole relations.ContainsEnd = (omega arith, (refl, (refl, (refl, (refl, (refl, (refl, (refl, (refl, (refl, (refl, (refl, (refl, tt)))))))))))))

module _ (model : Model) (lawful : IsLawful model) where
  -- ---- arguments

  -- how an argument is written is a word that says it
  argument_said : HasOuterObjects model → (kind : Option ValueKind) (argument : ConArg) (word : List ℕ) → IsArgumentText model kind argument word
      → IsWhole word × (IsArgumentWord word × SaysArgument model kind word argument)
  argument_said outer kind (Var name) word (text, (spells, names)) =
      (subst IsWhole (sym spells.1) (spelling_whole text spells.0), (inl (text, spells), (text, (spells, names))))
  argument_said outer (Some kind) (Value value) word says =
      let said = value_said model kind value word lawful says in
      (said.0, (inr said.1.0, (value_no_variable model lawful outer kind value word says, said.1.1)))
  argument_said outer None (Value value) word says = absurd says

  -- the words say the arguments in their places
  record AreSaid (kind : Kind) (among : Option ValueKind) (place : ℕ) (arguments : List ConArg) (words : List (List ℕ)) : Type 0 where
    whole : AllByRecursion IsWhole words
    fine : AllByRecursion IsArgumentWord words
    say : AllPlaced (λ n. SaysArgument model (kind_at kind among n)) place words arguments
    long : length words ≡ length arguments

  arguments_said : HasOuterObjects model → (kind : Kind) (among : Option ValueKind) (place : ℕ) (arguments : List ConArg) (words : List (List ℕ))
      → AllPlaced (λ n. IsArgumentText model (kind_at kind among n)) place arguments words → AreSaid kind among place arguments words
  arguments_said outer kind among place [] [] are = record { whole = tt; fine = tt; say = tt; long = refl }
  arguments_said outer kind among place (argument ∷ arguments) (word ∷ words) are =
      let first = argument_said outer (kind_at kind among place) argument word are.0 in
      let rest = arguments_said outer kind among (place + 1) arguments words are.1 in
      record { whole = (first.0, rest.whole); fine = (first.1.0, rest.fine); say = (first.1.1, rest.say); long = omega (arith, rest.long) }
  arguments_said outer kind among place [] (word ∷ words) are = absurd are
  arguments_said outer kind among place (argument ∷ arguments) [] are = absurd are

  -- ---- lines

  with_name : (first : List ℕ) (token : TokenName) (line : List ℕ) → IsWhole first → (is : IsLineOnToken model first token line)
      → (words_of line ≡ first ∷ is.0 ∷ [])
  with_name first token line whole (word, ((text, (spells, names)), same)) =
      ap words_of same ∙ two_words first word whole (subst IsWhole (sym spells.1) (spelling_whole text spells.0))

  with_names : (first : List ℕ) (one other : TokenName) (line : List ℕ) → IsWhole first → (is : IsLineOnTokens model first one other line)
      → (words_of line ≡ first ∷ is.0 ∷ is.1.1.0 ∷ [])
  with_names first one other line whole (word, ((text, (spells, names)), (next, ((other_text, (other_spells, other_names)), same)))) =
      ap words_of same ∙ three_words first word next whole (subst IsWhole (sym spells.1) (spelling_whole text spells.0)) (subst IsWhole (sym other_spells.1) (spelling_whole other_text other_spells.0))

  read_back : (decision : Decision) (line : List ℕ) → IsToldApart model decision → IsDecisionLine model decision line → length line ≤ 4096 → IsReadBack model decision line
  read_back (decisions.Specify name value) line apart (word, ((text, (spells, names)), (kind, (of, (shown, (says, same)))))) short =
      let said = value_said model kind value shown lawful says in
      let whole = subst IsWhole (sym spells.1) (spelling_whole text spells.0) in
      let words = ap words_of same ∙ three_words (codes "specify") word shown (omega arith, (refl, (refl, (refl, (refl, (refl, (refl, (refl, tt)))))))) whole said.0 in
      (Specify text shown, ((short, (word, (words, spells, said.1.0))), (names, (kind, (of, said.1.1)))))
  read_back (decisions.Activate token) line apart is short =
      let words = with_name (codes "activate") token line (omega arith, (refl, (refl, (refl, (refl, (refl, (refl, (refl, (refl, tt))))))))) is in
      (Activate is.1.0.0, ((short, (is.0, (words, is.1.0.1.0))), is.1.0.1.1))
  read_back (decisions.Merge token target) line apart is short =
      let words = with_names (codes "merge") token target line (omega arith, (refl, (refl, (refl, (refl, (refl, tt)))))) is in
      (Merge is.1.0.0 is.1.1.1.0.0, ((short, (is.0, (is.1.1.0, (words, is.1.0.1.0, is.1.1.1.0.1.0)))), (is.1.0.1.1, is.1.1.1.0.1.1)))
  read_back (decisions.Reject token) line apart is short =
      let words = with_name (codes "reject") token line (omega arith, (refl, (refl, (refl, (refl, (refl, (refl, tt))))))) is in
      (Reject is.1.0.0, ((short, (is.0, (words, is.1.0.1.0))), is.1.0.1.1))
  read_back (decisions.Order one other) line apart is short =
      let words = with_names (codes "order") one other line (omega arith, (refl, (refl, (refl, (refl, (refl, tt)))))) is in
      (Order is.1.0.0 is.1.1.1.0.0, ((short, (is.0, (is.1.1.0, (words, is.1.0.1.0, is.1.1.1.0.1.0)))), (is.1.0.1.1, is.1.1.1.0.1.1)))
  read_back (decisions.Constrain kind arguments) line apart is short =
      let said = arguments_said apart kind is.among 0 arguments is.words is.are in
      let words = ap words_of is.whole ∙ spaced_words (codes "post") (constraint_word kind ∷ is.words)
      ((omega arith, (refl, (refl, (refl, (refl, tt))))), (constraint_whole kind, said.whole)) in (
        Post kind is.words,
        (
          (short, (words, is.posted, omega (arith, is.some, said.long), All-from_recursion IsArgumentWord is.words said.fine)),
          (refl, record { among = is.among; is_among = is.is_among; say = said.say }),
        ),
      )
  read_back (decisions.Relate relation one other) line apart (rest, (is, same)) short =
      let words = ap words_of same ∙ (word_then (codes "relate") rest (omega arith, (refl, (refl, (refl, (refl, (refl, (refl, tt)))))))
      ∙ ap (λ (ws : List (List ℕ)). codes "relate" ∷ ws) (with_names (relation_word relation) one other rest (relation_whole relation) is)) in
      (Relate relation is.1.0.0 is.1.1.1.0.0, ((short, (is.0, (is.1.1.0, (words, is.1.0.1.0, is.1.1.1.0.1.0)))), (refl, is.1.0.1.1, is.1.1.1.0.1.1)))

pub lines_are_read_back : DecisionLinesAreReadBack
lines_are_read_back model decision line lawful apart is short = read_back model lawful decision line apart is short
