-- What lines say can be put in order, and makes a plan of the model.
use Rattle.std.proofs.Common.{◌≡◌, ℕ, ◌+◌, ◌<◌, ◌≤◌, ◌^◌, ◌⊎◌, inl, inr, true, false, List, [], ◌∷◌, ◌++◌, length, Some, refl, sym, ap, ◌∙◌, subst, Contains, codes, arith}
use Rattle.std.specs.Prelude.{◌↔◌, AllPairs}
use Rattle.eu_name.proofs.Ordered.{ordered_tail, ordered_head, ordered_none, ordered_cons, contains_head, contains_later, contains_cases, contains_none}
use Rattle.eu_name.proofs.Orders.{var_order}
use Rattle.model_core.specs.declared.model.Model.{Model}
use Rattle.plan_defs.specs.declared.plan.Plan.{Plan}
use Rattle.plan_defs.specs.Plans.{IsPlanOf}
use Rattle.plan_text.specs.declared.statement.Statement.{Statement}
use Rattle.plan_text.specs.declared.statement.Statement.TheVariants.{Global, Of}
use Rattle.plan_text.specs.Found.{Got}
use Rattle.plan_text.specs.Lines.{stated_name}
use Rattle.plan_text.specs.PlanTexts.{Opening, names_stated, HasLines, WholeText, IsStatedBefore, plan_lines, plan_stated, Gathers}
use Rattle.plan_text.proofs.Gatherings.{contains_map}
use Rattle.plan_core.proofs.Lining.{IsSaidOf, line_shrinks, line_is_new, line_is_of, word_shrinks}
use Rattle.plan_core.proofs.Making.{plan_is_of}

-- ---- each line is about something new

-- what comes behind some statements is about nothing that these are about
names_new : (model : Model) (before : List Statement) (text : List ℕ) (said : List Statement) (rest : List ℕ) → HasLines model before text said rest
    → (statement other : Statement) → Contains said statement → Contains before other → stated_name other ≡ stated_name statement → ⊥
names_new model before text [] rest lines statement other has known same = contains_none statement has
names_new model before text (first ∷ said) rest (mid, (line, lines)) statement other has known same = elim (contains_cases first statement said has) [
  | inl here ↦ line_is_new model (names_stated before) text mid first line
      (subst (Contains (names_stated before)) (same ∙ ap stated_name (sym here)) (contains_map stated_name before other known))
  | inr later ↦ names_new model (before ++ first ∷ []) mid said rest lines statement other later (front first before other known) same
]
  where
    front : (last : Statement) (list : List Statement) (x : Statement) → Contains list x → Contains (list ++ last ∷ []) x
    front last [] x none = absurd (contains_none x none)
    front last (y ∷ list) x there = elim (contains_cases y x list there) [
      | inl here ↦ subst (λ (z : Statement). Contains (y ∷ (list ++ last ∷ [])) z) here (contains_head y (list ++ last ∷ []))
      | inr later ↦ contains_later y x (list ++ last ∷ []) (front last list x later)
    ]

last_there : (list : List Statement) (last : Statement) → Contains (list ++ last ∷ []) last
last_there [] last = contains_head last []
last_there (y ∷ list) last = contains_later y last (list ++ last ∷ []) (last_there list last)

-- ---- in order

-- the same statements in order
record InOrder (said : List Statement) : Type 0 where
  list : List Statement
  order : AllPairs IsStatedBefore list
  are : (statement : Statement) → Contains list statement ↔ Contains said statement
  long : length list ≡ length said

-- the statements with one more, which is about something else than each of them
module _ (new : Statement) where
  record With (xs : List Statement) : Type 0 where
    list : List Statement
    order : AllPairs IsStatedBefore list
    are : (statement : Statement) → Contains list statement ↔ ((new ≡ statement) ⊎ Contains xs statement)
    long : length list ≡ length xs + 1

  module _ (first : Statement) (xs : List Statement) (order : AllPairs IsStatedBefore (first ∷ xs)) where
    goes_first : IsStatedBefore new first → With (first ∷ xs)
    goes_first less = record {
      list = new ∷ first ∷ xs;
      order = ordered_cons IsStatedBefore new (first ∷ xs)
          (λ y there. elim (contains_cases first y xs there) [
            | inl same ↦ subst (IsStatedBefore new) same less
            | inr later ↦ var_order.transitive (stated_name new) (stated_name first) (stated_name y) less (ordered_head IsStatedBefore first xs order y later)
          ]) order;
      are = λ y. (
        λ there. contains_cases new y (first ∷ xs) there,
        λ which. elim which [
          | inl same ↦ subst (Contains (new ∷ first ∷ xs)) same (contains_head new (first ∷ xs))
          | inr there ↦ contains_later new y (first ∷ xs) there
        ],
      );
      long = omega arith;
    }

    goes_later : IsStatedBefore first new → With xs → With (first ∷ xs)
    goes_later more rest = record {
      list = first ∷ rest.list;
      order = ordered_cons IsStatedBefore first rest.list
          (λ y there. elim ((rest.are y).0 there) [
            | inl same ↦ subst (IsStatedBefore first) same more
            | inr later ↦ ordered_head IsStatedBefore first xs order y later
          ]) rest.order;
      are = λ y. (
        λ there. elim (contains_cases first y rest.list there) [
          | inl same ↦ inr (subst (Contains (first ∷ xs)) same (contains_head first xs))
          | inr later ↦ elim ((rest.are y).0 later) [
            | inl is_new ↦ inl is_new
            | inr old ↦ inr (contains_later first y xs old)
          ]
        ],
        λ which. elim which [
          | inl is_new ↦ contains_later first y rest.list ((rest.are y).1 (inl is_new))
          | inr there ↦ elim (contains_cases first y xs there) [
            | inl same ↦ subst (Contains (first ∷ rest.list)) same (contains_head first rest.list)
            | inr later ↦ contains_later first y rest.list ((rest.are y).1 (inr later))
          ]
        ],
      );
      long = omega (arith, rest.long);
    }

    placed : (stated_name new ≡ stated_name first → ⊥) → With xs → With (first ∷ xs)
    placed differs rest = elim (var_order.total (stated_name new) (stated_name first)) [
      | inl less ↦ goes_first less
      | inr which ↦ elim which [
        | inl same ↦ absurd (differs same)
        | inr more ↦ goes_later more rest
      ]
    ]

  put : (xs : List Statement) → AllPairs IsStatedBefore xs → ((y : Statement) → Contains xs y → stated_name new ≡ stated_name y → ⊥) → With xs
  put [] order differs = record {
    list = new ∷ [];
    order = ordered_cons IsStatedBefore new [] (λ y there. absurd (contains_none y there)) (ordered_none IsStatedBefore);
    are = λ y. (
      λ there. contains_cases new y [] there,
      λ which. elim which [
        | inl same ↦ subst (Contains (new ∷ [])) same (contains_head new [])
        | inr none ↦ absurd (contains_none y none)
      ],
    );
    long = omega arith;
  }
  put (first ∷ xs) order differs =
      placed first xs order (differs first (contains_head first xs))
      (put xs (ordered_tail IsStatedBefore first xs order) (λ y there. differs y (contains_later first y xs there)))

with_first : (first : Statement) (said : List Statement) (rest : InOrder said) → With first rest.list → InOrder (first ∷ said)
with_first first said rest more = record {
  list = more.list;
  order = more.order;
  are = λ y. (
    λ there. elim ((more.are y).0 there) [
      | inl same ↦ subst (Contains (first ∷ said)) same (contains_head first said)
      | inr later ↦ contains_later first y said ((rest.are y).0 later)
    ],
    λ there. elim (contains_cases first y said there) [
      | inl same ↦ (more.are y).1 (inl same)
      | inr later ↦ (more.are y).1 (inr ((rest.are y).1 later))
    ],
  );
  long = omega (arith, more.long, rest.long);
}

in_order : (model : Model) (before : List Statement) (text : List ℕ) (said : List Statement) (rest : List ℕ) → HasLines model before text said rest → InOrder said
in_order model before text [] rest lines = record { list = []; order = ordered_none IsStatedBefore; are = λ y. (λ there. there, λ there. there); long = refl }
in_order model before text (first ∷ said) rest (mid, (line, lines)) =
    let later = in_order model (before ++ first ∷ []) mid said rest lines in
    with_first first said later (put first later.list later.order (λ y there same.
    names_new model (before ++ first ∷ []) mid said rest lines y first ((later.are y).0 there) (last_there before first) same))

-- ---- the plan

said_all : (model : Model) (before : List Statement) (text : List ℕ) (said : List Statement) (rest : List ℕ) → HasLines model before text said rest
    → (statement : Statement) → Contains said statement → IsSaidOf model statement
said_all model before text [] rest is statement has = absurd (contains_none statement has)
said_all model before text (first ∷ said) rest (mid, (line, lines)) statement has = elim (contains_cases first statement said has) [
  | inl here ↦ subst (IsSaidOf model) here (line_is_of model (names_stated before) text mid first line)
  | inr later ↦ said_all model (before ++ first ∷ []) mid said rest lines statement later
]

said_few : (model : Model) (before : List Statement) (text : List ℕ) (said : List Statement) (rest : List ℕ) → HasLines model before text said rest
    → length said + length rest ≤ length text
said_few model before text [] rest is = omega (arith, ap length is)
said_few model before text (first ∷ said) rest (mid, (line, lines)) =
    omega (arith, line_shrinks model (names_stated before) text mid (Some first) line, said_few model (before ++ first ∷ []) mid said rest lines)

few_lines : (said : List Statement) → length (plan_lines said) ≤ length said
few_lines [] = omega arith
few_lines (Global number value ∷ said) = omega (arith, few_lines said)
few_lines (Of line ∷ said) = omega (arith, few_lines said)

opening_no_longer : (text rest : List ℕ) (opened : Unit {0}) → Opening text (Got opened rest) → length rest ≤ length text
opening_no_longer text rest opened (true, (mid, (found, (said, (count, (counted, plan)))))) =
    omega (arith, word_shrinks [] text found.0 mid found.1.0, word_shrinks (codes " ") mid counted.0 count counted.1.0, word_shrinks (codes "\n") count plan.0 rest plan.1.0)
opening_no_longer text rest opened (false, (mid, (plan, (same, is)))) = omega (arith, word_shrinks [] text plan.0 mid plan.1.0, ap length is)

-- a plan that statements make
pub record IsGathered (model : Model) (text : List ℕ) (said : List Statement) : Type 0 where
  pub plan : Plan
  pub gathers : Gathers said plan
  pub is_plan : length text < 2 ^ 32 → IsPlanOf model plan

module _ (model : Model) (text begun : List ℕ) (lines : List Statement) (last : List ℕ) (has : HasLines model [] begun lines last) (shorter : length begun ≤ length text) where
  gathered_by : InOrder lines → IsGathered model text lines
  gathered_by sorted =
      let plan : Plan = plan_stated sorted.list in
      let gathers : Gathers lines plan = record { ordered = sorted.list; order = sorted.order; same = sorted.are; is = refl } in
      record {
        plan = plan;
        gathers = gathers;
        is_plan = λ small. plan_is_of model lines plan (said_all model [] begun lines last has) gathers
            (omega (arith, small, few_lines sorted.list, sorted.long, said_few model [] begun lines last has, shorter));
      }

  lines_gathered : IsGathered model text lines
  lines_gathered = gathered_by (in_order model [] begun lines last has)

pub text_gathered : (model : Model) (text rest : List ℕ) (said : List Statement) → WholeText model text (Got said rest) → IsGathered model text said
text_gathered model text rest said (opened, (begun, (opening, (lines, (behind, ((last, (has, line)), (ended, (end, (ending, (same, is)))))))))) =
    subst (IsGathered model text) (sym same) (lines_gathered model text begun lines last has (opening_no_longer text begun opened opening))
