-- Behind a name come a variable, a call, or what asks for something.
use Rattle.std.proofs.Common.{◌≡◌, ℕ, Bool, true, false, not, Option, ◌⊎◌, inl, inr, List, [], ◌∷◌, refl, sym, ap, subst, ◌∙◌}
use Rattle.nddl_grammar.specs.declared.sort.Sort.{Sort}
use Rattle.eu_name.specs.declared.word.Reserved.TheVariants as keywords
use Rattle.nddl_grammar.specs.declared.sort.Sort.TheVariants as sorts
use Rattle.nddl_grammar.specs.Sorts.{same}
use Rattle.nddl_grammar.specs.Symbols.{PlainSymbol}
use Rattle.nddl_grammar.specs.Readers.{begins, is}
use Rattle.nddl_grammar.specs.Exact.{◌·◌, IsPlaced, IsMark, BeginsWith, IsExact}
use Rattle.nddl_grammar.proofs.Combine.{no_more, no_blocks, place_begins, relabelled_exact}
use Rattle.nddl_grammar.proofs.Choices.{Image, image_exact, Bound, bound_exact, bound_begins, Beside, beside_exact, image_begins, some_still, follows_none}
use Rattle.nddl_ast.specs.declared.name.Name.{Name}
use Rattle.nddl_ast.specs.declared.expression.Expr.{Expr}
use Rattle.nddl_ast.specs.declared.expression.Expr.TheVariants as exprs
use Rattle.nddl_ast.specs.declared.expression.BaseType.{BaseType}
use Rattle.nddl_ast.specs.declared.expression.BaseType.TheVariants as bases
use Rattle.nddl_ast.specs.declared.expression.Bounds.{Bounds}
use Rattle.nddl_ast.specs.declared.expression.Init.{Init}
use Rattle.nddl_grammar.specs.declared.statements.SimpleStmt.{SimpleStmt}
use Rattle.nddl_grammar.specs.declared.statements.SimpleStmt.TheVariants as plains
use Rattle.nddl_grammar.specs.Grammar.{IsWrittenName, IsPath, IsLiteral, AreExpressions, IsBounds, IsType, IsVariable, IsCall}
use Rattle.nddl_grammar.specs.Productions.{calls, plain_after, plain_named, plain}
use Rattle.nddl_grammar.proofs.Flat.{Starts, front_starts, refuses}
use Rattle.nddl_grammar.proofs.ExactExpressions.{name_exact, name_begins, path_begins, literal_begins}
use Rattle.nddl_grammar.proofs.ExactStatements.{to_left, to_right, Inside, path_first, PlainAfter, plain_after_exact, IsPlain, path_of_name, name_of_path, call_to, call_from, variable_to, variable_from, dotted_with, variable_exact, variable_begins}

pub starts_not : (test : Sort → Bool) (word : List PlainSymbol) → Starts (refuses test) word → begins test word ≡ false
unfolding refuses
starts_not test word h = subst (λ (l : List PlainSymbol). begins test l ≡ false) (sym h.2) (negated (test h.0.sort) h.3) where
  negated : (b : Bool) → not b ≡ true → b ≡ false
  negated true p = absurd cc
  negated false p = refl

abbrev Closing : List PlainSymbol → Type 0
Closing = IsMark sorts.ParenClose · IsMark sorts.Semicolon

-- a word and parentheses, with what stands between them
abbrev Parens : Name → SimpleStmt → List PlainSymbol → Type 0
Parens first y = IsWrittenName first · IsMark sorts.ParenOpen · Inside first y · Closing

abbrev CallParens : Name → List Expr → List PlainSymbol → Type 0
CallParens first list = IsWrittenName first · IsMark sorts.ParenOpen · AreExpressions list · Closing

call_of_parens : (first : Name) (list : List Expr) (word : List PlainSymbol) → CallParens first list word → IsPlain (calls first list) word
call_of_parens first list word h = (h.0, h.1, h.2, path_of_name first h.0 h.3, h.4)

parens_to : (first : Name) (y : SimpleStmt) (word : List PlainSymbol) → Parens first y word → IsPlain y word
parens_to first y word h = elim h.4.4.3 as (λ f. IsPlain y word) [
  | inl bound ↦ elim bound.1.4 as (λ f. IsPlain y word) [
    | inl ask ↦
        subst (λ (z : SimpleStmt). IsPlain z word) (sym ask.1) (
          h.0,
          h.1,
          h.2,
          h.3,
          (h.4.0, h.4.1, h.4.2, h.4.3, to_right (IsPath bound.0) (IsWrittenName ask.0) Closing h.4.1 (h.4.4.0, h.4.4.1, h.4.4.2, (bound.1.0, bound.1.1, bound.1.2, bound.1.3, ask.2), h.4.4.4)),
        )
    | inr call ↦
        subst (λ (z : SimpleStmt). IsPlain z word) (sym (call.1 ∙ ap (calls first) call.2.1))
        (call_of_parens first (path_first bound.0 call.2.0) word
        (h.0, h.1, h.2, h.3, (h.4.0, h.4.1, h.4.2, h.4.3, (h.4.4.0, h.4.4.1, h.4.4.2, (bound.1.0, bound.1.1, bound.1.2, bound.1.3, call.2.2), h.4.4.4))))
  ]
  | inr call ↦
      subst (λ (z : SimpleStmt). IsPlain z word) (sym call.0.1)
      (call_of_parens first call.0.0 word (h.0, h.1, h.2, h.3, (h.4.0, h.4.1, h.4.2, h.4.3, (h.4.4.0, h.4.4.1, h.4.4.2, call.0.2, h.4.4.4))))
]

pub plain_to : (first : Name) (y : SimpleStmt) (word : List PlainSymbol) → (IsWrittenName first · PlainAfter first y) word → IsPlain y word
plain_to first y word h = elim h.4 as (λ f. IsPlain y word) [
  | inl parens ↦ subst (λ (z : SimpleStmt). IsPlain z word) (sym parens.1) (parens_to first parens.0.1.0 word (h.0, h.1, h.2, h.3, parens.2))
  | inr (inl dotted) ↦
      subst (λ (z : SimpleStmt). IsPlain z word) (sym (dotted.1 ∙ ap plains.Call dotted.2.1)) (call_to first dotted.2.0 word (h.0, h.1, h.2, h.3, dotted.2.2))
  | inr (inr variable) ↦
      subst (λ (z : SimpleStmt). IsPlain z word) (sym (variable.1 ∙ ap plains.Variable variable.2.1)) (variable_to first variable.2.0 word (h.0, h.1, h.2, h.3, variable.2.2))
]

abbrev Plains : SimpleStmt → List PlainSymbol → Type 0
Plains y word = Bound IsWrittenName PlainAfter y word ⊎ Beside (is sorts.Name) (Image plains.Variable IsVariable) y word

-- a call of one name
parens_from : (first : Name) (list : List Expr) (word : List PlainSymbol) → CallParens first list word → Bound IsWrittenName PlainAfter (calls first list) word
unfolding same refuses
parens_from first [] word h = (
  first,
  (
    h.0,
    h.1,
    h.2,
    h.3,
    inl (
      (tt, (calls first [], (tt, tt))),
      refl,
      (h.4.0, h.4.1, h.4.2, h.4.3, (h.4.4.0, h.4.4.1, h.4.4.2, inr (([], refl, h.4.4.3), subst (λ (l : List PlainSymbol). begins (is sorts.Name) l ≡ false) (sym h.4.4.3) refl), h.4.4.4)),
    ),
  ),
)
parens_from first (exprs.Path p ∷ more) word h = (
  first,
  (
    h.0,
    h.1,
    h.2,
    h.3,
    inl (
      (tt, (calls first (exprs.Path p ∷ more), (tt, tt))),
      refl,
      (
        h.4.0,
        h.4.1,
        h.4.2,
        h.4.3,
        (
          h.4.4.0,
          h.4.4.1,
          h.4.4.2,
          inl (p, (h.4.4.3.0, h.4.4.3.1, h.4.4.3.2, h.4.4.3.3, inr (exprs.Path p ∷ more, refl, (more, refl, h.4.4.3.4)))),
          h.4.4.4,
        ),
      ),
    ),
  ),
)
parens_from first (exprs.Literal l ∷ more) word h = (
  first,
  (
    h.0,
    h.1,
    h.2,
    h.3,
    inl (
      (tt, (calls first (exprs.Literal l ∷ more), (tt, tt))),
      refl,
      (
        h.4.0,
        h.4.1,
        h.4.2,
        h.4.3,
        (
          h.4.4.0,
          h.4.4.1,
          h.4.4.2,
          inr (
            (exprs.Literal l ∷ more, refl, h.4.4.3),
            starts_not (is sorts.Name) h.4.4.0 (front_starts (refuses (is sorts.Name)) (IsLiteral l) _ (literal_begins (refuses (is sorts.Name)) refl refl refl refl l) h.4.4.0 h.4.4.3),
          ),
          h.4.4.4,
        ),
      ),
    ),
  ),
)

call_plain : (first : Name) (rest : List Name) (list : List Expr) (word : List PlainSymbol) → IsCall (record { path = record { first = first; rest = rest }; arguments = list }) word
    → Bound IsWrittenName PlainAfter (plains.Call (record { path = record { first = first; rest = rest }; arguments = list })) word
call_plain first [] list word h = parens_from first list word (h.0, h.1, h.2, name_of_path first h.0 h.3, h.4)
call_plain first (x ∷ xs) list word h =
    let g = call_from first x xs list word h in
    (first, (g.0, g.1, g.2, g.3, inr (inl (dotted_with first (x ∷ xs, list), refl, ((x ∷ xs, list), refl, g.4)))))

variable_plain : (at : ℕ) (base : BaseType) (b : Bounds) (n : Name) (o : Option Init) (word : List PlainSymbol) → IsVariable (record { declared = record { at = at; base = base; bounds = b }; name = n; init = o }) word
    → Plains (plains.Variable (record { declared = record { at = at; base = base; bounds = b }; name = n; init = o })) word
unfolding same refuses
variable_plain at (bases.Named first) b n o word h =
    let g = variable_from first b n o at word h in
    inl (
      first,
      (
        g.1.0,
        g.1.1,
        g.1.2,
        g.1.3,
        inr (inr (
          record { declared = record { at = at; base = bases.Named first; bounds = b }; name = n; init = o },
          refl,
          ((b, (n, (o, tt))), (λ i. record { declared = record { at = g.0 i; base = bases.Named first; bounds = b }; name = n; init = o }), g.1.4),
        )),
      ),
    )
variable_plain at bases.Int b n o word h = inr (
  (record { declared = record { at = at; base = bases.Int; bounds = b }; name = n; init = o }, refl, h),
  starts_not (is sorts.Name) word (front_starts (refuses (is sorts.Name)) (IsType (record { at = at; base = bases.Int; bounds = b })) _ (front_starts (refuses (is sorts.Name)) (IsPlaced (sorts.Word keywords.Int) at) (IsBounds b) (place_begins (sorts.Word keywords.Int) (refuses (is sorts.Name)) refl at)) word h),
)
variable_plain at bases.Float b n o word h = inr (
  (record { declared = record { at = at; base = bases.Float; bounds = b }; name = n; init = o }, refl, h),
  starts_not (is sorts.Name) word (front_starts (refuses (is sorts.Name)) (IsType (record { at = at; base = bases.Float; bounds = b })) _ (front_starts (refuses (is sorts.Name)) (IsPlaced (sorts.Word keywords.Float) at) (IsBounds b) (place_begins (sorts.Word keywords.Float) (refuses (is sorts.Name)) refl at)) word h),
)
variable_plain at bases.Bool b n o word h = inr (
  (record { declared = record { at = at; base = bases.Bool; bounds = b }; name = n; init = o }, refl, h),
  starts_not (is sorts.Name) word (front_starts (refuses (is sorts.Name)) (IsType (record { at = at; base = bases.Bool; bounds = b })) _ (front_starts (refuses (is sorts.Name)) (IsPlaced (sorts.Word keywords.Bool) at) (IsBounds b) (place_begins (sorts.Word keywords.Bool) (refuses (is sorts.Name)) refl at)) word h),
)
variable_plain at bases.Str b n o word h = inr (
  (record { declared = record { at = at; base = bases.Str; bounds = b }; name = n; init = o }, refl, h),
  starts_not (is sorts.Name) word (front_starts (refuses (is sorts.Name)) (IsType (record { at = at; base = bases.Str; bounds = b })) _ (front_starts (refuses (is sorts.Name)) (IsPlaced (sorts.Word keywords.Str) at) (IsBounds b) (place_begins (sorts.Word keywords.Str) (refuses (is sorts.Name)) refl at)) word h),
)

pub plain_from : (y : SimpleStmt) (word : List PlainSymbol) → IsPlain y word → Plains y word
plain_from (plains.Variable v) word h = variable_plain v.declared.at v.declared.base v.declared.bounds v.name v.init word h
plain_from (plains.Call c) word h = inl (call_plain c.path.first c.path.rest c.arguments word h)
plain_from (plains.Ask a) word h =
    let g = to_left (IsPath a.path) (IsWrittenName a.label) Closing h.4.1 h.4.4 in
    inl (
      a.word,
      (
        h.0,
        h.1,
        h.2,
        h.3,
        inl (
          (tt, (plains.Ask a, (tt, tt))),
          refl,
          (h.4.0, h.4.1, h.4.2, h.4.3, (g.0, g.1, g.2, inl (a.path, (g.3.0, g.3.1, g.3.2, g.3.3, inl (a.label, refl, g.3.4))), g.4)),
        ),
      ),
    )

abbrev pub any : Sort → Bool
any sort = true

pub plain_exact : IsExact IsPlain no_blocks no_more plain
unfolding plain plain_named same refuses
plain_exact = relabelled_exact IsPlain no_blocks
    (beside_exact (is sorts.Name)
    (bound_exact PlainAfter no_blocks no_more plain_after name_exact plain_after_exact (λ first. follows_none (PlainAfter first) no_more))
    (image_exact no_blocks plains.Variable variable_exact (λ x. refl))
    (bound_begins PlainAfter (is sorts.Name) (name_begins (is sorts.Name) refl))
    (λ y word after h none out. some_still (Image plains.Variable IsVariable) (is sorts.Name) any (image_begins plains.Variable any (variable_begins any refl refl refl refl refl)) y word after h none))
    (λ y word h. elim h as (λ f. IsPlain y word) [
      | inl g ↦ plain_to g.0 y word g.1
      | inr g ↦ subst (λ (z : SimpleStmt). IsPlain z word) (sym g.0.1) g.0.2
    ])
    plain_from (λ y. refl)

pub plain_begins : (test : Sort → Bool) → test (sorts.Word keywords.Int) ≡ true → test (sorts.Word keywords.Float) ≡ true → test (sorts.Word keywords.Bool) ≡ true → test (sorts.Word keywords.Str) ≡ true → test sorts.Name ≡ true → BeginsWith IsPlain test
plain_begins test i f b s n (plains.Variable v) word h = variable_begins test i f b s n v word h
plain_begins test i f b s n (plains.Call c) word h = front_starts test (IsPath c.path) _ (path_begins test n c.path) word h
plain_begins test i f b s n (plains.Ask a) word h = front_starts test (IsWrittenName a.word) _ (name_begins test n a.word) word h
