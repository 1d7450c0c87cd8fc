-- What the reader of a text finds, as the outcome of a text.
use Rattle.std.proofs.Common.{◌≡◌, ℕ, Option, Some, None, Ok, List, [], ◌∷◌, ◌++◌, refl, sym, ap, subst, ◌∙◌, arith}
use Rattle.nddl_grammar.specs.Symbols.{PlainSymbol}
use Rattle.nddl_grammar.specs.Readers.{Outcome, got, stuck, deep, next_place, next_sort}
use Rattle.nddl_grammar.specs.declared.sort.Sort.{Sort}
use Rattle.nddl_grammar.specs.Exact.{Agrees, IfAt, FindsExactly}
use Rattle.nddl_grammar.proofs.Lists.{append_none, not_shorter}
use Rattle.nddl_grammar.proofs.Many.{wider}
use Rattle.nddl_grammar.specs.declared.sort.Sort.TheVariants as sorts
use Rattle.nddl_grammar.specs.Readers.{is}
use Rattle.nddl_ast.specs.declared.declaration.Decl.{Decl}
use Rattle.nddl_parser.specs.Grammar.{IsText, most_nested, deep_text}
use Rattle.nddl_parser.specs.Derives.{IsNotBefore, IsSyntax, IsTooDeep, IsParseOutcome}
use Rattle.nddl_parser.specs.Productions.{text, begins_decl}
use Rattle.nddl_parser.proofs.ExactText.{text_exact}

abbrev Found : List PlainSymbol → Outcome (List Decl) → Type 0
Found = FindsExactly IsText (deep_text most_nested) (wider begins_decl (is sorts.Semicolon))

found : (symbols : List PlainSymbol) (o : Outcome (List Decl)) → text most_nested symbols ≡ o → Found symbols o
found symbols o is = subst (Found symbols) is ((text_exact most_nested).answers symbols)

ended : (other used rest : List PlainSymbol) → Agrees other used rest → Agrees (other ++ []) used rest
ended other used rest same = subst (λ (l : List PlainSymbol). Agrees l used rest) (sym (append_none other)) same

pub whole_tree : (end : ℕ) (symbols rest : List PlainSymbol) (tree : List Decl) → text most_nested symbols ≡ got tree rest → rest ≡ [] → IsParseOutcome end symbols (Ok tree)
whole_tree end symbols rest tree is none =
    let a = found symbols (got tree rest) is in
    (subst (IsText tree) (sym (a.split ∙ (ap (λ (l : List PlainSymbol). a.used ++ l) none ∙ append_none a.used))) a.derived, a.shallow)

shallow_at : (place : ℕ) (o : Option ℕ) → IfAt o place → IsNotBefore place o
shallow_at place None h = tt
shallow_at place (Some at) h = omega (arith, h)

no_deep : (place : ℕ) (o : Option ℕ) → o ≡ None → IsNotBefore place o
no_deep place o is = subst (IsNotBefore place) (sym is) tt

pub more_left : (end : ℕ) (symbols rest left : List PlainSymbol) (symbol : PlainSymbol) (tree : List Decl) → text most_nested symbols ≡ got tree rest → rest ≡ symbol ∷ left → IsSyntax end symbols (next_place end rest)
more_left end symbols rest left symbol tree is some =
    let a = found symbols (got tree rest) is in
    record {
      before = a.used;
      rest = rest;
      split = a.split;
      at = refl;
      begun = record { after = []; tree = tree; derived = subst (IsText tree) (sym (append_none a.used)) a.derived; shallow = no_deep (next_place end rest) (deep_text most_nested tree) a.shallow };
      none = λ other word derived same.
          let one = a.only other word [] derived refl (ended word a.used rest same) in
          let longer = subst (Agrees word a.used) some same in
          not_shorter a.used symbol longer.0 (sym one.1 ∙ longer.1);
    }

pub stuck_there : (end : ℕ) (symbols rest : List PlainSymbol) → text most_nested symbols ≡ stuck rest → IsSyntax end symbols (next_place end rest)
stuck_there end symbols rest is =
    let a = found symbols (stuck rest) is in
    let go = a.begun (next_place end rest) in
    record {
      before = a.used;
      rest = rest;
      split = a.split;
      at = refl;
      begun = record { after = go.0; tree = go.1; derived = go.2; shallow = shallow_at (next_place end rest) (deep_text most_nested go.1) go.3 };
      none = λ other word derived same. a.none other word [] derived refl (ended word a.used rest same);
    }

pub deep_there : (end : ℕ) (symbols rest : List PlainSymbol) → text most_nested symbols ≡ deep rest → IsTooDeep symbols (next_place end rest)
deep_there end symbols rest is =
    let a = found symbols (deep rest) is in
    let go = a.begun in
    let place : next_place end rest ≡ a.symbol.at = ap (next_place end) a.next in
    record {
      before = a.used;
      symbol = a.symbol;
      rest = a.left;
      split = a.split ∙ ap (λ (l : List PlainSymbol). a.used ++ l) a.next;
      at = place;
      after = go.0;
      tree = go.1;
      derived = go.2;
      first = go.3 ∙ ap Some (sym place);
      all = λ tree after derived.
          a.all tree (a.used ++ a.symbol ∷ after) [] derived refl
          (subst (Agrees ((a.used ++ a.symbol ∷ after) ++ []) a.used) (sym a.next) (after, append_none (a.used ++ a.symbol ∷ after)))
          ∙ ap Some (sym place);
    }

-- ---- as the code comes to them

pub outcome_whole : (end : ℕ) (symbols begin rest : List PlainSymbol) (tree : List Decl) → begin ≡ symbols → text most_nested begin ≡ got tree rest → None ≡ next_sort rest → IsParseOutcome end symbols (Ok tree)
outcome_whole end symbols begin [] tree same is none = whole_tree end symbols [] tree (ap (text most_nested) (sym same) ∙ is) refl
outcome_whole end symbols begin (c ∷ rest) tree same is none = absurd cc

pub outcome_more : (end : ℕ) (symbols begin rest : List PlainSymbol) (tree : List Decl) (sort : Sort) (place : ℕ) → begin ≡ symbols → text most_nested begin ≡ got tree rest → Some sort ≡ next_sort rest → place ≡ next_place end rest → IsSyntax end symbols place
outcome_more end symbols begin [] tree sort place same is some at = absurd cc
outcome_more end symbols begin (c ∷ rest) tree sort place same is some at =
    subst (IsSyntax end symbols) (sym at) (more_left end symbols (c ∷ rest) rest c tree (ap (text most_nested) (sym same) ∙ is) refl)

pub outcome_stuck : (end : ℕ) (symbols begin rest : List PlainSymbol) (place : ℕ) → begin ≡ symbols → text most_nested begin ≡ stuck rest → place ≡ next_place end rest → IsSyntax end symbols place
outcome_stuck end symbols begin rest place same is at = subst (IsSyntax end symbols) (sym at) (stuck_there end symbols rest (ap (text most_nested) (sym same) ∙ is))

pub outcome_deep : (end : ℕ) (symbols begin rest : List PlainSymbol) (place : ℕ) → begin ≡ symbols → text most_nested begin ≡ deep rest → place ≡ next_place end rest → IsTooDeep symbols place
outcome_deep end symbols begin rest place same is at = subst (IsTooDeep symbols) (sym at) (deep_there end symbols rest (ap (text most_nested) (sym same) ∙ is))
