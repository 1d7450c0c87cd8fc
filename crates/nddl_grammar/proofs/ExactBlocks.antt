-- What the readers of blocks find is exactly what the grammar has, to any depth.
use Rattle.std.proofs.Common.{◌≡◌, ℕ, pos, Bool, true, false, cond, Some, ◌⊎◌, inl, inr, List, [], ◌∷◌, ◌++◌, refl, sym, ap, subst, ◌∙◌}
use Rattle.nddl_grammar.specs.declared.sort.Sort.{Sort}
use Rattle.nddl_grammar.specs.declared.sort.Sort.TheVariants as sorts
use Rattle.nddl_grammar.specs.Sorts.{same}
use Rattle.nddl_grammar.specs.Symbols.{PlainSymbol}
use Rattle.nddl_grammar.specs.Readers.{stuck, deep, begins, is}
use Rattle.nddl_grammar.specs.Exact.{◌·◌, IsMark, IsNothing, Agrees, FindsExactly, IsExact}
use Rattle.nddl_grammar.proofs.OneSort.{same_is, is_same}
use Rattle.nddl_grammar.proofs.Lists.{append_none, agrees_head}
use Rattle.nddl_grammar.proofs.Combine.{no_blocks, not_both, relabelled_exact, widened_exact, choice_exact, EmptyFor, nothing_exact}
use Rattle.nddl_grammar.proofs.Many.{wider, begins_first, begins_second, or_second}
use Rattle.nddl_grammar.proofs.Choices.{Image, image_exact, image_begins, Bound, bound_exact, after_exact, after_begins}
use Rattle.nddl_ast.specs.declared.expression.Expr.{Expr}
use Rattle.nddl_ast.specs.declared.statement.Condition.{Condition}
use Rattle.nddl_ast.specs.declared.statement.Condition.TheVariants as conditions
use Rattle.nddl_ast.specs.Tree.{Braces}
use Rattle.nddl_grammar.specs.Grammar.{IsExpr, IsCondition}
use Rattle.nddl_grammar.specs.Productions.{condition, condition_behind, too_deep}
use Rattle.nddl_grammar.proofs.Flat.{refuses, apart}
use Rattle.nddl_grammar.proofs.ExactExpressions.{more_path, expr_exact}
use Rattle.nddl_grammar.proofs.ExactStatements.{aside_empty}

-- ---- conditions

abbrev pub more_marks : Sort → Bool
more_marks = wider (is sorts.Equal) (is sorts.NotEqual)

abbrev pub more_condition : Sort → Bool
more_condition = wider more_marks more_path

abbrev ConditionBehind : Expr → Condition → List PlainSymbol → Type 0
ConditionBehind one g word = Image (conditions.Equal one) (λ e. IsMark sorts.Equal · IsExpr e) g word ⊎ (Image (conditions.NotEqual one) (λ e. IsMark sorts.NotEqual · IsExpr e) g word ⊎ EmptyFor (conditions.Truth one) g word)

condition_behind_exact : (one : Expr) → IsExact (ConditionBehind one) no_blocks more_condition (condition_behind one)
unfolding condition_behind same refuses
condition_behind_exact one = choice_exact (is sorts.Equal)
    (widened_exact more_condition (image_exact no_blocks (conditions.Equal one) (after_exact sorts.Equal expr_exact) (λ x. refl)) (λ sort out. or_second (more_marks sort) (more_path sort) out))
    (choice_exact (is sorts.NotEqual)
    (widened_exact more_condition (image_exact no_blocks (conditions.NotEqual one) (after_exact sorts.NotEqual expr_exact) (λ x. refl)) (λ sort out. or_second (more_marks sort) (more_path sort) out))
    (nothing_exact (conditions.Truth one) no_blocks more_condition refl)
    (image_begins (conditions.NotEqual one) (is sorts.NotEqual) (after_begins IsExpr sorts.NotEqual (is sorts.NotEqual) refl))
    (λ y word after h out. aside_empty (conditions.Truth one) (is sorts.NotEqual) y word after h (begins_second (is sorts.Equal) (is sorts.NotEqual) after (begins_first more_marks more_path after out))))
    (image_begins (conditions.Equal one) (is sorts.Equal) (after_begins IsExpr sorts.Equal (is sorts.Equal) refl))
    (λ y word after h out. elim h as (λ f. begins (is sorts.Equal) (word ++ after) ≡ false) [
      | inl g ↦ apart (Image (conditions.NotEqual one) (λ e. IsMark sorts.NotEqual · IsExpr e)) (is sorts.Equal) more_condition (image_begins (conditions.NotEqual one) (refuses (is sorts.Equal)) (after_begins IsExpr sorts.NotEqual (refuses (is sorts.Equal)) refl)) y word after g out
      | inr g ↦ aside_empty (conditions.Truth one) (is sorts.Equal) y word after g (begins_first (is sorts.Equal) (is sorts.NotEqual) after (begins_first more_marks more_path after out))
    ])

pub with_nothing : (P : List PlainSymbol → Type 0) (word : List PlainSymbol) → P word → (P · IsNothing) word
with_nothing P word h = (word, [], sym (append_none word), h, refl)

pub without_nothing : (P : List PlainSymbol → Type 0) (word : List PlainSymbol) → (P · IsNothing) word → P word
without_nothing P word h = subst P (sym (h.2 ∙ (ap (λ (l : List PlainSymbol). h.0 ++ l) h.4 ∙ append_none h.0))) h.3

condition_to : (g : Condition) (word : List PlainSymbol) → Bound IsExpr ConditionBehind g word → IsCondition g word
condition_to g word (one, h) = elim h.4 as (λ f. IsCondition g word) [
  | inl e ↦ subst (λ (g : Condition). IsCondition g word) (sym e.1) (h.0, h.1, h.2, h.3, e.2)
  | inr (inl e) ↦ subst (λ (g : Condition). IsCondition g word) (sym e.1) (h.0, h.1, h.2, h.3, e.2)
  | inr (inr e) ↦ subst (λ (g : Condition). IsCondition g word) (sym e.0) (without_nothing (IsExpr one) word (h.0, h.1, h.2, h.3, e.1))
]

condition_from : (g : Condition) (word : List PlainSymbol) → IsCondition g word → Bound IsExpr ConditionBehind g word
condition_from (conditions.Truth one) word h = (one, (word, [], sym (append_none word), h, inr (inr (refl, refl))))
condition_from (conditions.Equal one other) word h = (one, (h.0, h.1, h.2, h.3, inl (other, refl, h.4)))
condition_from (conditions.NotEqual one other) word h = (one, (h.0, h.1, h.2, h.3, inr (inl (other, refl, h.4))))

pub condition_exact : IsExact IsCondition no_blocks more_condition condition
unfolding condition same refuses
condition_exact = relabelled_exact IsCondition no_blocks
    (bound_exact ConditionBehind no_blocks more_condition condition_behind expr_exact condition_behind_exact
    (λ one y word after h out. elim h as (λ f. begins more_path (word ++ after) ≡ false) [
      | inl g ↦ apart (Image (conditions.Equal one) (λ e. IsMark sorts.Equal · IsExpr e)) more_path more_condition (image_begins (conditions.Equal one) (refuses more_path) (after_begins IsExpr sorts.Equal (refuses more_path) refl)) y word after g out
      | inr (inl g) ↦ apart (Image (conditions.NotEqual one) (λ e. IsMark sorts.NotEqual · IsExpr e)) more_path more_condition (image_begins (conditions.NotEqual one) (refuses more_path) (after_begins IsExpr sorts.NotEqual (refuses more_path) refl)) y word after g out
      | inr (inr g) ↦ aside_empty (conditions.Truth one) more_path y word after g (begins_second more_marks more_path after out)
    ]))
    condition_to condition_from (λ g. refl)

-- ---- blocks that are nested too deep

abbrev pub Opens : Sort → Braces → List PlainSymbol → Type 0
Opens sort b word = (c : PlainSymbol) × (after : List PlainSymbol) × (word ≡ c ∷ after) × (c.sort ≡ sort) × (c.at ≡ b.at)

some_symbol : Sort → ℕ → PlainSymbol
some_symbol sort at = record { sort = sort; bytes = []; value = pos 0; at = at }

deep_found : (sort : Sort) (L : Braces → List PlainSymbol → Type 0) (more : Sort → Bool) → ((b : Braces) (word : List PlainSymbol) → L b word → Opens sort b word)
    → ((c : PlainSymbol) → c.sort ≡ sort → (after : List PlainSymbol) × (b : Braces) × L b (c ∷ after) × (b.at ≡ c.at))
    → (c : PlainSymbol) (rest : List PlainSymbol) (flag : Bool) → same c.sort sort ≡ flag → FindsExactly L (λ b. Some b.at) more (c ∷ rest) (cond flag (deep (c ∷ rest)) (stuck (c ∷ rest)))
unfolding some_symbol
deep_found sort L more opens complete c rest true holds = record {
  used = [];
  symbol = c;
  left = rest;
  next = refl;
  split = refl;
  begun = let end = complete c (same_is c.sort sort holds) in (end.0, end.1, end.2, ap Some end.3);
  all = λ b word after h out goes.
      let open_at = opens b word h in
      let alike = subst (λ (l : List PlainSymbol). Agrees (l ++ after) [] (c ∷ rest)) open_at.2 goes in
      let head = agrees_head (open_at.0 ∷ (open_at.1 ++ after)) [] (c ∷ rest) c rest refl alike in
      let both : open_at.0 ∷ (open_at.1 ++ after) ≡ c ∷ head.0 = head.1 in
      let first : open_at.0 ≡ c = cc in
      ap Some (sym open_at.4 ∙ ap (λ (x : PlainSymbol). x.at) first);
}
deep_found sort L more opens complete c rest false fails = record {
  used = [];
  split = refl;
  begun = λ place. let end = complete (some_symbol sort place) refl in (some_symbol sort place ∷ end.0, end.1, end.2, end.3);
  none = λ b word after h out goes.
      let open_at = opens b word h in
      let alike = subst (λ (l : List PlainSymbol). Agrees (l ++ after) [] (c ∷ rest)) open_at.2 goes in
      let head = agrees_head (open_at.0 ∷ (open_at.1 ++ after)) [] (c ∷ rest) c rest refl alike in
      let both : open_at.0 ∷ (open_at.1 ++ after) ≡ c ∷ head.0 = head.1 in
      let first : open_at.0 ≡ c = cc in
      let sorts : c.sort ≡ sort = ap (λ (x : PlainSymbol). x.sort) (sym first) ∙ open_at.3 in
      not_both (subst (λ (other : Sort). same c.sort other ≡ true) sorts (is_same c.sort)) fails;
}

deep_at : (sort : Sort) (L : Braces → List PlainSymbol → Type 0) (more : Sort → Bool) → ((b : Braces) (word : List PlainSymbol) → L b word → Opens sort b word)
    → ((c : PlainSymbol) → c.sort ≡ sort → (after : List PlainSymbol) × (b : Braces) × L b (c ∷ after) × (b.at ≡ c.at))
    → (symbols : List PlainSymbol) → FindsExactly L (λ b. Some b.at) more symbols (too_deep sort symbols)
unfolding too_deep some_symbol
deep_at sort L more opens complete [] = record {
  used = [];
  split = refl;
  begun = λ place. let end = complete (some_symbol sort place) refl in (some_symbol sort place ∷ end.0, end.1, end.2, end.3);
  none = λ b word after h out goes.
      let open_at = opens b word h in
      let empty : open_at.0 ∷ (open_at.1 ++ after) ≡ [] = subst (λ (l : List PlainSymbol). l ++ after ≡ []) open_at.2 goes in
      absurd cc;
}
deep_at sort L more opens complete (c ∷ rest) = deep_found sort L more opens complete c rest (same c.sort sort) refl

pub too_deep_exact : (sort : Sort) (L : Braces → List PlainSymbol → Type 0) (more : Sort → Bool) → ((b : Braces) (word : List PlainSymbol) → L b word → Opens sort b word)
    → ((c : PlainSymbol) → c.sort ≡ sort → (after : List PlainSymbol) × (b : Braces) × L b (c ∷ after) × (b.at ≡ c.at)) → IsExact L (λ b. Some b.at) more (too_deep sort)
unfolding some_symbol
too_deep_exact sort L more opens complete = record {
  answers = deep_at sort L more opens complete;
  sample = λ place. let end = complete (some_symbol sort place) refl in (some_symbol sort place ∷ end.0, end.1, end.2, end.3);
}
