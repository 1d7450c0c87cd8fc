-- Lines of different names can be put in order, so that two tokens can change places.
use Rattle.std.proofs.Common.{◌≡◌, ◌≢◌, inl, inr, List, [], ◌∷◌, refl, sym, ap, ◌∙◌, subst}
use Rattle.std.specs.Prelude.{AllPairs, Contains, map, IsPermutation}
use Rattle.std.proofs.lemmas.List.Sorted.{IsPermutation-refl, IsPermutation-sym, IsPermutation-trans, IsPermutation-cons, IsPermutation-middle, Contains-permutation}
use Rattle.eu_name.specs.declared.name.TokenName.{TokenName}
use Rattle.eu_name.specs.declared.name.VarName.{VarName}
use Rattle.eu_name.specs.NameOrder.{IsVarBefore}
use Rattle.eu_name.proofs.Orders.{var_order}
use Rattle.plan_defs.specs.declared.plan.Line.{Line}
use Rattle.plan_defs.specs.declared.plan.Line.TheVariants as lines
use Rattle.plan_defs.specs.declared.plan.Plan.{Plan}
use Rattle.plan_defs.specs.Plans.{IsLineBefore, order_name}
use Rattle.eu_name.proofs.Ordered.{contains_head, contains_later, contains_cases, contains_none, ordered_none, ordered_cons, ordered_head, ordered_tail}
use Rattle.law_search.specs.Swapping.{IsSwap, swapped_line, swapped_name}
use Rattle.law_search.proofs.Having.{name_twice}
use Rattle.law_search.proofs.Mapping.{map_contains}
use Rattle.law_search.proofs.Renaming.{AreApart}

-- the lines have different names
abbrev pub HaveOwnNames : List Line → Type 0
HaveOwnNames some = AllPairs (λ a b. order_name a ≢ order_name b) some

-- the lines in order
record InOrder (some : List Line) : Type 0 where
  lines : List Line
  shuffled : IsPermutation some lines
  order : AllPairs IsLineBefore lines

-- one line more
put_in : (line : Line) (some : List Line) → ((other : Line) → Contains some other → order_name line ≢ order_name other) → AllPairs IsLineBefore some → InOrder (line ∷ some)
put_in line [] apart order =
    record { lines = line ∷ []; shuffled = IsPermutation-refl (line ∷ []); order = ordered_cons IsLineBefore line [] (λ y c. absurd (contains_none y c)) (ordered_none IsLineBefore) }
put_in line (first ∷ some) apart order = elim (var_order.total (order_name line) (order_name first)) [
  | inl before ↦ record {
    lines = line ∷ first ∷ some;
    shuffled = IsPermutation-refl (line ∷ first ∷ some);
    order = ordered_cons IsLineBefore line (first ∷ some)
        (λ y c. elim (contains_cases first y some c) [
          | inl same ↦ subst (IsLineBefore line) same before
          | inr later ↦ var_order.transitive (order_name line) (order_name first) (order_name y) before (ordered_head IsLineBefore first some order y later)
        ])
        order;
  }
  | inr (inl same) ↦ absurd (apart first (contains_head first some) same)
  | inr (inr behind) ↦
      let rest = put_in line some (λ other c. apart other (contains_later first other some c)) (ordered_tail IsLineBefore first some order) in
      record {
        lines = first ∷ rest.lines;
        shuffled = IsPermutation-trans _ _ _ (IsPermutation-sym _ _ (IsPermutation-middle (first ∷ []) line some)) (IsPermutation-cons first _ _ rest.shuffled);
        order = ordered_cons IsLineBefore first rest.lines
            (λ y c. elim (contains_cases line y some (Contains-permutation _ _ y (IsPermutation-sym _ _ rest.shuffled) c)) [
              | inl same ↦ subst (IsLineBefore first) same behind
              | inr later ↦ ordered_head IsLineBefore first some order y later
            ])
            rest.order;
      }
]

put_all : (some : List Line) → HaveOwnNames some → InOrder some
put_all [] own = record { lines = []; shuffled = IsPermutation-refl []; order = ordered_none IsLineBefore }
put_all (line ∷ some) own =
    let rest = put_all some (ordered_tail (λ a b. order_name a ≢ order_name b) line some own) in
    let put = put_in line rest.lines
    (λ other c. ordered_head (λ a b. order_name a ≢ order_name b) line some own other (Contains-permutation _ _ other (IsPermutation-sym _ _ rest.shuffled) c))
    rest.order in
    record { lines = put.lines; shuffled = IsPermutation-trans _ _ _ (IsPermutation-cons line _ _ rest.shuffled) put.shuffled; order = put.order }

name_swapped : (one other : TokenName) (line : Line) → order_name (swapped_line one other line) ≡ swapped_name one other (order_name line)
name_swapped one other (lines.Token token fact values) = refl
name_swapped one other (lines.Merged token target) = refl
name_swapped one other (lines.Rejected token) = refl
name_swapped one other (lines.Local name value) = refl

own_names : (one other : TokenName) → AreApart one other → (some : List Line) → AllPairs IsLineBefore some → HaveOwnNames (map (swapped_line one other) some)
own_names one other apart [] order = ordered_none (λ a b. order_name a ≢ order_name b)
own_names one other apart (line ∷ some) order =
    ordered_cons (λ a b. order_name a ≢ order_name b) (swapped_line one other line) (map (swapped_line one other) some)
    (λ y c same.
    let was = map_contains (swapped_line one other) some y c in
    let names : swapped_name one other (order_name line) ≡ swapped_name one other (order_name was.0) =
    sym (name_swapped one other line) ∙ same ∙ ap order_name (sym was.1.1) ∙ name_swapped one other was.0 in
    let before : IsVarBefore (order_name line) (order_name was.0) = ordered_head IsLineBefore line some order was.0 was.1.0 in
    let equal : order_name line ≡ order_name was.0 =
    sym (name_twice one other apart (order_name line)) ∙ ap (swapped_name other one) names ∙ name_twice one other apart (order_name was.0) in
    var_order.irreflexive (order_name was.0) (subst (λ (n : VarName). IsVarBefore n (order_name was.0)) equal before))
    (own_names one other apart some (ordered_tail IsLineBefore line some order))

pub swap_there : (one other : TokenName) → AreApart one other → (plan : Plan) → AllPairs IsLineBefore plan.lines → (new : Plan) × IsSwap one other plan new
swap_there one other apart plan order =
    let put = put_all (map (swapped_line one other) plan.lines) (own_names one other apart plan.lines order) in
    (record { globals = plan.globals; lines = put.lines }, record { globals = refl; lines = put.shuffled; order = put.order })
