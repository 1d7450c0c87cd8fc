-- A text has one outcome.
use Rattle.std.proofs.Common.{◌≡◌, ℕ, zero, suc, ◌+◌, ◌<◌, ◌≤◌, Option, Some, None, Result, Ok, Err, List, [], ◌∷◌, ◌++◌, length, refl, sym, ap, subst, ◌∙◌, arith}
use Rattle.nddl_lexer.specs.declared.kinds.Lexeme.{Lexeme}
use Rattle.nddl_lexer.specs.Reading.{AreLexemesOf}
use Rattle.nddl_lexer.proofs.Laws.{lie_in_order}
use Rattle.nddl_grammar.specs.declared.sort.Sort.TheVariants as sorts
use Rattle.nddl_grammar.specs.Symbols.{PlainSymbol}
use Rattle.nddl_grammar.specs.Readers.{Outcome, got, stuck, deep, next_place, is}
use Rattle.nddl_grammar.specs.Exact.{Agrees, FindsExactly, earlier}
use Rattle.nddl_grammar.proofs.Lists.{append_none, regroup}
use Rattle.nddl_grammar.proofs.Many.{wider}
use Rattle.nddl_ast.specs.declared.declaration.Decl.{Decl}
use Rattle.nddl_ast.specs.declared.declaration.Decl.TheVariants as decls
use Rattle.nddl_ast.specs.Tree.{Statements, Nothing, Declares, Calls, Asks, Tests, Chooses, Repeats, count}
use Rattle.nddl_parser.specs.declared.parsing.ParseFault.{ParseFault}
use Rattle.nddl_parser.specs.declared.parsing.ParseFault.TheVariants.{Syntax, TooDeep, Memory}
use Rattle.nddl_parser.specs.Symbols.{AreSymbols}
use Rattle.nddl_grammar.specs.Grammar.{deep_statements}
use Rattle.nddl_parser.specs.Grammar.{IsText, most_nested, deep_decl, deep_text}
use Rattle.nddl_parser.specs.Derives.{IsNotBefore, IsSyntax, IsTooDeep, IsParseOutcome, HasOneParse, HasOneTree}
use Rattle.nddl_parser.specs.Productions.{text, begins_decl}
use Rattle.nddl_parser.proofs.SymbolsOnce.{symbols_once}
use Rattle.nddl_parser.proofs.ExactText.{text_exact}

agrees_self : (symbols used rest : List PlainSymbol) → symbols ≡ used ++ rest → Agrees symbols used rest
agrees_self symbols used [] split = split ∙ append_none used
agrees_self symbols used (c ∷ rest) split = (rest, split)

none_is_some : {at : ℕ} {o : Option ℕ} → o ≡ None → o ≡ Some at → ⊥
none_is_some p q = let e = sym p ∙ q in cc

-- two trees of the same symbols are one, unless a block is nested too deep in both
same_tree : (left : ℕ) (symbols : List PlainSymbol) (one other : List Decl) → IsText one symbols → deep_text left one ≡ None → IsText other symbols
    → (o : Outcome (List Decl)) → FindsExactly IsText (deep_text left) (wider begins_decl (is sorts.Semicolon)) symbols o → one ≡ other
same_tree left symbols one other h shallow g (got x rest) a =
    let split = agrees_self symbols a.used rest a.split in
    let again = subst (λ (l : List PlainSymbol). Agrees l a.used rest) (sym (append_none symbols)) split in
    (a.only one symbols [] h refl again).0 ∙ sym (a.only other symbols [] g refl again).0
same_tree left symbols one other h shallow g (stuck rest) a =
    absurd (a.none one symbols [] h refl (subst (λ (l : List PlainSymbol). Agrees l a.used rest) (sym (append_none symbols)) (agrees_self symbols a.used rest a.split)))
same_tree left symbols one other h shallow g (deep rest) a =
    absurd (none_is_some shallow (a.all one symbols [] h refl (subst (λ (l : List PlainSymbol). Agrees l a.used rest) (sym (append_none symbols)) (agrees_self symbols a.used rest a.split))))

tree_once : (left : ℕ) (symbols : List PlainSymbol) (one other : List Decl) → IsText one symbols → deep_text left one ≡ None → IsText other symbols → one ≡ other
tree_once left symbols one other h shallow g = same_tree left symbols one other h shallow g (text left symbols) ((text_exact left).answers symbols)

-- two ways to split a list: at one place, or at an earlier and a later one
data Meet (one left other right : List PlainSymbol) : Type 0 where
  alike : one ≡ other → left ≡ right → Meet one left other right
  before : (c : PlainSymbol) (between : List PlainSymbol) → other ≡ one ++ c ∷ between → left ≡ c ∷ (between ++ right) → Meet one left other right
  behind : (c : PlainSymbol) (between : List PlainSymbol) → one ≡ other ++ c ∷ between → right ≡ c ∷ (between ++ left) → Meet one left other right

meet_more : (d : PlainSymbol) (one left other right : List PlainSymbol) → Meet one left other right → Meet (d ∷ one) left (d ∷ other) right
meet_more d one left other right (alike p q) = alike (ap (λ (l : List PlainSymbol). d ∷ l) p) q
meet_more d one left other right (before c between p q) = before c between (ap (λ (l : List PlainSymbol). d ∷ l) p) q
meet_more d one left other right (behind c between p q) = behind c between (ap (λ (l : List PlainSymbol). d ∷ l) p) q

meet : (one left other right : List PlainSymbol) → one ++ left ≡ other ++ right → Meet one left other right
meet [] left [] right same = alike refl same
meet [] left (c ∷ other) right same = before c other refl same
meet (c ∷ one) left [] right same = behind c one refl (sym same)
meet (c ∷ one) left (d ∷ other) right same =
    let head : c ≡ d = cc in
    let rest : one ++ left ≡ other ++ right = cc in
    subst (λ (e : PlainSymbol). Meet (c ∷ one) left (e ∷ other) right) head (meet_more c one left other right (meet one left other right rest))

-- what begins past a split agrees with it
past : (one : List PlainSymbol) (c : PlainSymbol) (between left right other after : List PlainSymbol) → other ≡ one ++ c ∷ between → left ≡ c ∷ (between ++ right) → Agrees (other ++ after) one left
past one c between left right other after is begins =
    subst (Agrees (other ++ after) one) (sym begins) (between ++ after, ap (λ (l : List PlainSymbol). l ++ after) is ∙ regroup one (c ∷ between) after)

syntax_once : (end : ℕ) (symbols : List PlainSymbol) (p q : ℕ) → IsSyntax end symbols p → IsSyntax end symbols q → p ≡ q
syntax_once end symbols p q one other = by (meet one.before one.rest other.before other.rest (sym one.split ∙ other.split)) where
  by : Meet one.before one.rest other.before other.rest → p ≡ q
  by (alike b r) = one.at ∙ (ap (next_place end) r ∙ sym other.at)
  by (before c between b r) = absurd (one.none other.begun.tree (other.before ++ other.begun.after) other.begun.derived (past one.before c between one.rest other.rest other.before other.begun.after b r))
  by (behind c between b r) = absurd (other.none one.begun.tree (one.before ++ one.begun.after) one.begun.derived (past other.before c between other.rest one.rest one.before one.begun.after b r))

-- ---- places rise

abbrev AreRising : ℕ → List PlainSymbol → Type 0
AreRising end [] = Unit {0}
AreRising end (c ∷ rest) = (c.at < next_place end rest) × AreRising end rest

rise_behind : (end : ℕ) (front rest : List PlainSymbol) → AreRising end (front ++ rest) → AreRising end rest
rise_behind end [] rest rise = rise
rise_behind end (c ∷ front) rest rise = rise_behind end front rest rise.1

rise_to : (end : ℕ) (c : PlainSymbol) (between rest : List PlainSymbol) → AreRising end (c ∷ (between ++ rest)) → c.at < next_place end rest
rise_to end c [] rest rise = rise.0
rise_to end c (d ∷ between) rest rise = let later = rise_to end d between rest rise.1 in let first : c.at < d.at = rise.0 in omega arith

rising : (text : List ℕ) (from : ℕ) (lexemes : List Lexeme) (symbols : List PlainSymbol) → AreLexemesOf text from lexemes → AreSymbols text lexemes symbols → AreRising (length text) symbols
rising text from [] [] are is = tt
rising text from [] (c ∷ symbols) are is = absurd is
rising text from (l ∷ lexemes) [] are is = absurd is
rising text from (l ∷ []) (c ∷ []) are is = (let at : c.at ≡ l.at = is.0.at in omega (arith, are.1.within, are.1.some), tt)
rising text from (l ∷ k ∷ lexemes) (c ∷ []) are is = absurd is.1
rising text from (l ∷ []) (c ∷ d ∷ symbols) are is = absurd is.1
rising text from (l ∷ k ∷ lexemes) (c ∷ d ∷ symbols) are is =
    (let at : c.at ≡ l.at = is.0.at in let next : d.at ≡ k.at = is.1.0.at in let after : l.at + l.len ≤ k.at = are.2.0 in omega (arith, are.1.some), rising text (l.at + l.len) (k ∷ lexemes) (d ∷ symbols) are.2 is.1)

too_late : (place at : ℕ) (o : Option ℕ) → IsNotBefore place o → o ≡ Some at → at < place → ⊥
too_late place at o h is early = let later : IsNotBefore place (Some at) = subst (IsNotBefore place) is h in omega (arith, later)

syntax_or_deep : (end : ℕ) (symbols : List PlainSymbol) (p q : ℕ) → AreRising end symbols → IsSyntax end symbols p → IsTooDeep symbols q → ⊥
syntax_or_deep end symbols p q rise one other = by (meet one.before one.rest other.before (other.symbol ∷ other.rest) (sym one.split ∙ other.split)) where
  by : Meet one.before one.rest other.before (other.symbol ∷ other.rest) → ⊥
  by (alike b r) = one.none other.tree (other.before ++ other.symbol ∷ other.after) other.derived
      (subst (Agrees (other.before ++ other.symbol ∷ other.after) one.before) (sym r) (other.after, ap (λ (l : List PlainSymbol). l ++ other.symbol ∷ other.after) (sym b)))
  by (before c between b r) =
      one.none other.tree (other.before ++ other.symbol ∷ other.after) other.derived (past one.before c between one.rest (other.symbol ∷ other.rest) other.before (other.symbol ∷ other.after) b r)
  by (behind c between b r) =
      let head : other.symbol ≡ c = cc in
      let whole : one.before ++ one.begun.after ≡ other.before ++ other.symbol ∷ (between ++ one.begun.after) =
      ap (λ (l : List PlainSymbol). l ++ one.begun.after) b ∙ (regroup other.before (c ∷ between) one.begun.after ∙ ap (λ (x : PlainSymbol). other.before ++ x ∷ (between ++ one.begun.after)) (sym head)) in
      let first = other.all one.begun.tree (between ++ one.begun.after) (subst (IsText one.begun.tree) whole one.begun.derived) in
      let list : symbols ≡ other.before ++ c ∷ (between ++ one.rest) = one.split ∙ (ap (λ (l : List PlainSymbol). l ++ one.rest) b ∙ regroup other.before (c ∷ between) one.rest) in
      let up = rise_to end c between one.rest (rise_behind end other.before (c ∷ (between ++ one.rest)) (subst (AreRising end) list rise)) in
      let at : q ≡ c.at = other.at ∙ ap (λ (x : PlainSymbol). x.at) head in
      let early : q < p = omega (arith, at, one.at, up) in
      too_late p q (deep_text most_nested one.begun.tree) one.begun.shallow first early

deep_once : (symbols : List PlainSymbol) (p q : ℕ) → IsTooDeep symbols p → IsTooDeep symbols q → p ≡ q
deep_once symbols p q one other = by (meet one.before (one.symbol ∷ one.rest) other.before (other.symbol ∷ other.rest) (sym one.split ∙ other.split)) where
  by : Meet one.before (one.symbol ∷ one.rest) other.before (other.symbol ∷ other.rest) → p ≡ q
  by (alike b r) = let head : one.symbol ≡ other.symbol = cc in one.at ∙ (ap (λ (x : PlainSymbol). x.at) head ∙ sym other.at)
  by (before c between b r) =
      let head : one.symbol ≡ c = cc in
      let whole : other.before ++ other.symbol ∷ other.after ≡ one.before ++ one.symbol ∷ (between ++ other.symbol ∷ other.after) =
      ap (λ (l : List PlainSymbol). l ++ other.symbol ∷ other.after) b ∙ (regroup one.before (c ∷ between) (other.symbol ∷ other.after) ∙ ap (λ (x : PlainSymbol). one.before ++ x ∷ (between ++ other.symbol ∷ other.after)) (sym head)) in
      let first = one.all other.tree (between ++ other.symbol ∷ other.after) (subst (IsText other.tree) whole other.derived) in
      let e : Some p ≡ Some q = sym first ∙ other.first in
      cc
  by (behind c between b r) =
      let head : other.symbol ≡ c = cc in
      let whole : one.before ++ one.symbol ∷ one.after ≡ other.before ++ other.symbol ∷ (between ++ one.symbol ∷ one.after) =
      ap (λ (l : List PlainSymbol). l ++ one.symbol ∷ one.after) b ∙ (regroup other.before (c ∷ between) (one.symbol ∷ one.after) ∙ ap (λ (x : PlainSymbol). other.before ++ x ∷ (between ++ one.symbol ∷ one.after)) (sym head)) in
      let first = other.all one.tree (between ++ one.symbol ∷ one.after) (subst (IsText one.tree) whole one.derived) in
      let e : Some q ≡ Some p = sym first ∙ one.first in
      cc

tree_or_syntax : (end : ℕ) (symbols : List PlainSymbol) (tree : List Decl) (p : ℕ) → IsText tree symbols → IsSyntax end symbols p → ⊥
tree_or_syntax end symbols tree p h fault = fault.none tree symbols h (agrees_self symbols fault.before fault.rest fault.split)

tree_or_deep : (symbols : List PlainSymbol) (tree : List Decl) (p : ℕ) → IsText tree symbols → deep_text most_nested tree ≡ None → IsTooDeep symbols p → ⊥
tree_or_deep symbols tree p h shallow fault = none_is_some shallow (fault.all tree fault.rest (subst (IsText tree) fault.split h))

same_outcome : (end : ℕ) (symbols : List PlainSymbol) (one other : Result (List Decl) ParseFault) → AreRising end symbols → IsParseOutcome end symbols one → IsParseOutcome end symbols other → one ≡ other
same_outcome end symbols (Ok one) (Ok other) rise h g = ap Ok (tree_once most_nested symbols one other h.0 h.1 g.0)
same_outcome end symbols (Ok one) (Err (Syntax q)) rise h g = absurd (tree_or_syntax end symbols one q h.0 g)
same_outcome end symbols (Ok one) (Err (TooDeep q)) rise h g = absurd (tree_or_deep symbols one q h.0 h.1 g)
same_outcome end symbols (Ok one) (Err Memory) rise h g = absurd g
same_outcome end symbols (Err (Syntax p)) (Ok other) rise h g = absurd (tree_or_syntax end symbols other p g.0 h)
same_outcome end symbols (Err (Syntax p)) (Err (Syntax q)) rise h g = ap (λ (n : ℕ). Err (Syntax n)) (syntax_once end symbols p q h g)
same_outcome end symbols (Err (Syntax p)) (Err (TooDeep q)) rise h g = absurd (syntax_or_deep end symbols p q rise h g)
same_outcome end symbols (Err (Syntax p)) (Err Memory) rise h g = absurd g
same_outcome end symbols (Err (TooDeep p)) (Ok other) rise h g = absurd (tree_or_deep symbols other p g.0 g.1 h)
same_outcome end symbols (Err (TooDeep p)) (Err (Syntax q)) rise h g = absurd (syntax_or_deep end symbols q p rise g h)
same_outcome end symbols (Err (TooDeep p)) (Err (TooDeep q)) rise h g = ap (λ (n : ℕ). Err (TooDeep n)) (deep_once symbols p q h g)
same_outcome end symbols (Err (TooDeep p)) (Err Memory) rise h g = absurd g
same_outcome end symbols (Err Memory) other rise h g = absurd h

pub one_outcome : HasOneParse
one_outcome bytes lexemes one other lexes h g =
    let same = symbols_once bytes lexemes g.symbols h.symbols g.read h.read in
    same_outcome (length bytes) h.symbols one other (rising bytes 0 lexemes h.symbols (lie_in_order bytes lexemes lexes) h.read) h.ends
    (subst (λ (symbols : List PlainSymbol). IsParseOutcome (length bytes) symbols other) same g.ends)

-- ---- one tree, however deep its blocks are nested

neither : (one other : Option ℕ) → one ≡ None → other ≡ None → earlier one other ≡ None
neither one other p q = ap (λ (o : Option ℕ). earlier o other) p ∙ q

-- blocks aren't nested deeper than there are statements
statements_within : (statements : Statements) (left : ℕ) → count statements ≤ left → deep_statements statements left ≡ None
statements_within Nothing left within = refl
statements_within (Declares variable more) left within = statements_within more left (omega arith)
statements_within (Calls call more) left within = statements_within more left (omega arith)
statements_within (Asks ask more) left within = statements_within more left (omega arith)
statements_within (Tests at condition then_at then more) zero within = absurd (omega arith)
statements_within (Tests at condition then_at then more) (suc left) within =
    neither (deep_statements then left) (deep_statements more (suc left)) (statements_within then left (omega arith)) (statements_within more (suc left) (omega arith))
statements_within (Chooses at condition then_at then else_at else more) zero within = absurd (omega arith)
statements_within (Chooses at condition then_at then else_at else more) (suc left) within =
    neither (earlier (deep_statements then left) (deep_statements else left)) (deep_statements more (suc left))
    (neither (deep_statements then left) (deep_statements else left) (statements_within then left (omega arith)) (statements_within else left (omega arith)))
    (statements_within more (suc left) (omega arith))
statements_within (Repeats at name class body_at body more) zero within = absurd (omega arith)
statements_within (Repeats at name class body_at body more) (suc left) within =
    neither (deep_statements body left) (deep_statements more (suc left)) (statements_within body left (omega arith)) (statements_within more (suc left) (omega arith))

abbrev decl_size : Decl → ℕ
decl_size (decls.Rule class predicate body) = count body.statements + 1
decl_size other = 0

decl_within : (decl : Decl) (left : ℕ) → decl_size decl ≤ left → deep_decl left decl ≡ None
decl_within (decls.Rule class predicate body) zero within = absurd (omega arith)
decl_within (decls.Rule class predicate body) (suc left) within = statements_within body.statements left (omega arith)
decl_within other left within = refl

abbrev text_size : List Decl → ℕ
text_size [] = 0
text_size (decl ∷ tree) = decl_size decl + text_size tree

text_within : (tree : List Decl) (left : ℕ) → text_size tree ≤ left → deep_text left tree ≡ None
text_within [] left within = refl
text_within (decl ∷ tree) left within =
    neither (deep_decl left decl) (deep_text left tree) (decl_within decl left (omega arith)) (text_within tree left (omega arith))

pub one_tree : HasOneTree
one_tree bytes lexemes one other h g =
    let same = symbols_once bytes lexemes g.0 h.0 g.1 h.1 in
    tree_once (text_size one) h.0 one other h.2 (text_within one (text_size one) (omega arith)) (subst (IsText other) same g.2)
