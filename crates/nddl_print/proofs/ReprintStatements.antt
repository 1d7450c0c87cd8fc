-- Statements read back from their words.
use Rattle.std.proofs.Common.{◌≡◌, ℕ, ◌⊎◌, inl, inr, Option, Some, None, List, refl}
use Rattle.eu_name.specs.declared.word.Reserved.TheVariants as keywords
use Rattle.nddl_grammar.specs.declared.sort.Sort.TheVariants as sorts
use Rattle.nddl_grammar.specs.Symbols.{PlainSymbol}
use Rattle.nddl_ast.specs.declared.name.Name.{Name}
use Rattle.nddl_ast.specs.declared.name.Path.{Path}
use Rattle.nddl_ast.specs.declared.expression.Expr.{Expr}
use Rattle.nddl_ast.specs.declared.expression.Type as types
use Rattle.nddl_ast.specs.declared.expression.Init.{Init}
use Rattle.nddl_ast.specs.declared.statement.Variable.{Variable}
use Rattle.nddl_ast.specs.declared.statement.Call.{Call}
use Rattle.nddl_ast.specs.declared.statement.Ask.{Ask}
use Rattle.nddl_ast.specs.declared.statement.Condition.{Condition}
use Rattle.nddl_ast.specs.declared.statement.Condition.TheVariants as conditions
use Rattle.nddl_ast.specs.Tree.{Statements, Nothing, Declares, Calls, Asks, Tests, Chooses, Repeats}
use Rattle.nddl_ast.specs.Same.{BothSame, SameInit, SameCondition, SameVariable, SameCall, SameAsk, SameStatements, SameBlock}
use Rattle.nddl_grammar.specs.Grammar.{IsStart, IsVariable, IsCall, IsAsk, IsCondition, IsLoneIf, Encloses, AreStatements, IsBraced}
use Rattle.nddl_print.specs.Words.{Word, Fixed}
use Rattle.nddl_print.specs.Canonical.{◌⌢◌, fixed, braced, start_words, variable_words, call_words, ask_words, condition_words, expr_words, listed_words, statements_words, block_words}
use Rattle.nddl_print.proofs.Saying.{AreSound, then_assoc, three_first, sound_then, say_then, one_said}
use Rattle.nddl_print.proofs.Reprinting.{Reprints, EachReprints, mapped, reworded, both, mark, marks, after, before, after_placed, listed}
use Rattle.nddl_print.proofs.ReprintParts.{name_reprints, path_reprints, expr_reprints, init_reprints, type_reprints}

pub start_reprints : EachReprints IsStart (BothSame SameInit) start_words
start_reprints None = record { sound = λ symbols fine is. tt; again = λ old symbols is say. (None, say, tt) }
start_reprints (Some init) = mapped Some init (λ p symbols is. is) (λ symbols is. is) (λ p same. same) (after (mark sorts.Assign refl) (init_reprints init))

pub variable_reprints : EachReprints IsVariable SameVariable variable_words
variable_reprints variable =
    mapped {X = types.Type × (Name × Option Init)} (λ p. record { declared = p.0; name = p.1.0; init = p.1.1 }) (variable.declared, (variable.name, variable.init))
    (λ p symbols is. is) (λ symbols is. is) (λ p same. (same.0, same.1.0, same.1.1))
    (both (type_reprints variable.declared) (both (name_reprints variable.name) (before (start_reprints variable.init) (mark sorts.Semicolon refl))))

pub call_reprints : EachReprints IsCall SameCall call_words
call_reprints call =
    mapped {X = Path × List Expr} (λ p. record { path = p.0; arguments = p.1 }) (call.path, call.arguments) (λ p symbols is. is) (λ symbols is. is) (λ p same. same)
    (both (path_reprints call.path)
    (reworded (three_first (fixed sorts.ParenOpen) (listed_words expr_words call.arguments) (fixed sorts.ParenClose) (fixed sorts.Semicolon))
    (after (mark sorts.ParenOpen refl) (before (listed expr_reprints call.arguments) (marks (mark sorts.ParenClose refl) (mark sorts.Semicolon refl))))))

pub ask_reprints : EachReprints IsAsk SameAsk ask_words
ask_reprints ask =
    mapped {X = Name × (Path × Name)} (λ p. record { word = p.0; path = p.1.0; label = p.1.1 }) (ask.word, (ask.path, ask.label))
    (λ p symbols is. is) (λ symbols is. is) (λ p same. (same.0, same.1.0, same.1.1))
    (both (name_reprints ask.word) (after (mark sorts.ParenOpen refl)
    (both (path_reprints ask.path) (before (name_reprints ask.label) (marks (mark sorts.ParenClose refl) (mark sorts.Semicolon refl))))))

pub condition_reprints : EachReprints IsCondition SameCondition condition_words
condition_reprints (conditions.Truth expr) = mapped conditions.Truth expr (λ p symbols is. is) (λ symbols is. is) (λ p same. same) (expr_reprints expr)
condition_reprints (conditions.Equal one other) =
    mapped {X = Expr × Expr} (λ p. conditions.Equal p.0 p.1) (one, other) (λ p symbols is. is) (λ symbols is. is) (λ p same. same)
    (both (expr_reprints one) (after (mark sorts.Equal refl) (expr_reprints other)))
condition_reprints (conditions.NotEqual one other) =
    mapped {X = Expr × Expr} (λ p. conditions.NotEqual p.0 p.1) (one, other) (λ p symbols is. is) (λ symbols is. is) (λ p same. same)
    (both (expr_reprints one) (after (mark sorts.NotEqual refl) (expr_reprints other)))

-- ---- blocks

-- a block, or behind `else` one `if` without braces
abbrev Braced : ℕ × Statements → List PlainSymbol → Type 0
Braced p = Encloses p.0 (AreStatements p.1)

abbrev Otherwise : ℕ × Statements → List PlainSymbol → Type 0
Otherwise p symbols = Encloses p.0 (AreStatements p.1) symbols ⊎ (IsLoneIf p.0 p.1 × AreStatements p.1 symbols)

abbrev SameInside : ℕ × Statements → ℕ × Statements → Type 0
SameInside p q = SameStatements p.1 q.1

braces_reprint : (at : ℕ) (statements : Statements) → Reprints AreStatements SameStatements (statements_words statements) statements
    → Reprints Braced SameInside (braced (statements_words statements)) (at, statements)
braces_reprint at statements inside = after_placed sorts.BraceOpen at refl (before inside (mark sorts.BraceClose refl))

braced_sound : (words : List Word) → AreSound words → AreSound (braced words)
braced_sound words sound = sound_then _ _ (refl, tt) (sound_then _ _ sound (refl, tt))

-- the symbols of the statements behind `else`
inside_of : (at : ℕ) (statements : Statements) (symbols : List PlainSymbol) → Otherwise (at, statements) symbols → (inside : List PlainSymbol) × AreStatements statements inside
inside_of at statements symbols (inl (front, back, split, opens, (middle, last, halves, are, closes))) = (middle, are)
inside_of at statements symbols (inr lone) = (symbols, lone.1)

-- an `if` without braces gets them: what is read back is a block with braces
otherwise_reprints : (at : ℕ) (statements : Statements) → Reprints AreStatements SameStatements (statements_words statements) statements
    → Reprints Otherwise SameInside (braced (statements_words statements)) (at, statements)
otherwise_reprints at statements inside = record {
  sound = λ symbols fine is. elim is [
    | inl braces ↦ (braces_reprint at statements inside).sound symbols fine braces
    | inr lone ↦ braced_sound _ (inside.sound symbols fine lone.1)
  ];
  again = λ old symbols is say.
      let (before, old_inside) = inside_of at statements old is in
      let (front, back, split, first, rest) = say_then (fixed sorts.BraceOpen) _ symbols say in
      let (middle, last, halves, between, end) = say_then (statements_words statements) (fixed sorts.BraceClose) back rest in
      let (brace, only, says) = one_said (Fixed sorts.BraceOpen) front first in
      let (others, are, same) = inside.again before middle old_inside between in (
        (brace.at, others),
        inl (
          front,
          back,
          split,
          record { symbol = brace; only = only; sorted = says; placed = refl },
          (middle, last, halves, are, (mark sorts.BraceClose refl).again last end),
        ),
        same,
      );
}

-- `if` with its condition, and what follows
if_more : (a b c d e : List Word) → a ⌢ (b ⌢ (c ⌢ (d ⌢ e))) ≡ (a ⌢ (b ⌢ (c ⌢ d))) ⌢ e
if_more a b c d e = simp then_assoc refl

foreach_more : (a b c d e f g : List Word) → a ⌢ (b ⌢ (c ⌢ (d ⌢ (e ⌢ (f ⌢ g))))) ≡ (a ⌢ (b ⌢ (c ⌢ (d ⌢ (e ⌢ f))))) ⌢ g
foreach_more a b c d e f g = simp then_assoc refl

pub statements_reprint : EachReprints AreStatements SameStatements statements_words
statements_reprint Nothing = record { sound = λ symbols fine is. tt; again = λ old symbols is say. (Nothing, say, tt) }
statements_reprint (Declares v more) =
    mapped {X = Variable × Statements} (λ p. Declares p.0 p.1) (v, more) (λ p symbols is. is) (λ symbols is. is) (λ p same. same) (both (variable_reprints v) (statements_reprint more))
statements_reprint (Calls c more) =
    mapped {X = Call × Statements} (λ p. Calls p.0 p.1) (c, more) (λ p symbols is. is) (λ symbols is. is) (λ p same. same) (both (call_reprints c) (statements_reprint more))
statements_reprint (Asks a more) =
    mapped {X = Ask × Statements} (λ p. Asks p.0 p.1) (a, more) (λ p symbols is. is) (λ symbols is. is) (λ p same. same) (both (ask_reprints a) (statements_reprint more))
statements_reprint (Tests at condition then_at then more) =
    mapped {X = (ℕ × (Condition × (ℕ × Statements))) × Statements} (λ p. Tests p.0.0 p.0.1.0 p.0.1.1.0 p.0.1.1.1 p.1) ((at, (condition, (then_at, then))), more)
    (λ p symbols is. is) (λ symbols is. is) (λ p same. same)
    (both (reworded (if_more _ _ _ _ (braced (statements_words then)))
    (after_placed (sorts.Word keywords.If) at refl (after (mark sorts.ParenOpen refl) (both (condition_reprints condition) (after (mark sorts.ParenClose refl) (braces_reprint then_at then (statements_reprint then)))))))
    (statements_reprint more))
statements_reprint (Chooses at condition then_at then else_at else more) =
    mapped {X = (ℕ × (Condition × ((ℕ × Statements) × (ℕ × Statements)))) × Statements}
    (λ p. Chooses p.0.0 p.0.1.0 p.0.1.1.0.0 p.0.1.1.0.1 p.0.1.1.1.0 p.0.1.1.1.1 p.1) ((at, (condition, ((then_at, then), (else_at, else)))), more)
    (λ p symbols is. is) (λ symbols is. is) (λ p same. ((same.0.0, same.0.1.0, same.0.1.1), same.1))
    (both (reworded (if_more _ _ _ _ (braced (statements_words then) ⌢ (fixed (sorts.Word keywords.Else) ⌢ braced (statements_words else))))
    (after_placed (sorts.Word keywords.If) at refl (after (mark sorts.ParenOpen refl) (both (condition_reprints condition) (after (mark sorts.ParenClose refl)
    (both (braces_reprint then_at then (statements_reprint then)) (after (mark (sorts.Word keywords.Else) refl) (otherwise_reprints else_at else (statements_reprint else)))))))))
    (statements_reprint more))
statements_reprint (Repeats at name class body_at body more) =
    mapped {X = (ℕ × (Name × (Name × (ℕ × Statements)))) × Statements} (λ p. Repeats p.0.0 p.0.1.0 p.0.1.1.0 p.0.1.1.1.0 p.0.1.1.1.1 p.1) ((at, (name, (class, (body_at, body)))), more)
    (λ p symbols is. is) (λ symbols is. is) (λ p same. ((same.0.0, same.0.1.0, same.0.1.1), same.1))
    (both (reworded (foreach_more _ _ _ _ _ _ (braced (statements_words body)))
    (after_placed (sorts.Word keywords.Foreach) at refl (after (mark sorts.ParenOpen refl) (both (name_reprints name) (after (mark (sorts.Word keywords.In) refl) (both (name_reprints class)
    (after (mark sorts.ParenClose refl) (braces_reprint body_at body (statements_reprint body)))))))))
    (statements_reprint more))

pub block_reprints : EachReprints IsBraced SameBlock block_words
block_reprints block =
    mapped {X = ℕ × Statements} (λ p. record { at = p.0; statements = p.1 }) (block.at, block.statements) (λ p symbols is. is) (λ symbols is. is) (λ p same. same)
    (braces_reprint block.at block.statements (statements_reprint block.statements))
