-- What terms mean where two tokens have changed places, and what opens.
use Rattle.std.proofs.Common.{◌≡◌, ℕ, ◌⊎◌, inl, inr, ℤ, List, [], ◌∷◌, refl, sym, ap, ◌∙◌, subst}
use Rattle.std.specs.List.{AllZip}
use Rattle.domain_core.specs.Domain.{Domain, Range}
use Rattle.eu_name.specs.declared.name.Part.{Part}
use Rattle.eu_name.specs.declared.name.Step.{Step}
use Rattle.eu_name.specs.declared.name.TokenName.{TokenName}
use Rattle.eu_name.specs.declared.name.VarName.TheVariants as names
use Rattle.model_core.specs.declared.item.Term.{Term}
use Rattle.model_core.specs.declared.item.Term.TheVariants.{Lit, Here, Slot, Local, Global, Root}
use Rattle.model_core.specs.declared.model.Model.{Model}
use Rattle.model_core.specs.declared.rule.Guard.{Guard}
use Rattle.model_core.specs.declared.rule.Side.{Side}
use Rattle.model_core.specs.declared.rule.Turn.{Turn}
use Rattle.model_core.specs.Entries.{Entries}
use Rattle.model_core.specs.Tokens.{IsRejectable, HasRule, root_token, slot_token}
use Rattle.plan_defs.specs.declared.plan.Plan.{Plan}
use Rattle.plan_defs.specs.Plans.{IsTakenIn, plan_situation}
use Rattle.plan_defs.specs.Support.{MayBe, Opens, IsOpen, AsksFor, one_side, other_side}
use Rattle.plan_defs.specs.Terms.{Context, InProblem, InRule, Argument, Value, Variable, Means, HasDomain, Counts, ArgumentCounts}
use Rattle.plan_defs.specs.Valid.{HasArgumentValue, AsksForLocal}
use Rattle.plan_defs.proofs.Lower.{Follows-map}
use Rattle.law_search.specs.Swapping.{swapped_token}
use Rattle.law_search.proofs.Renaming.{step_token, step_swapped}
use Rattle.law_search.proofs.Trees.{token_moved}
use Rattle.law_search.proofs.Having.{HaveSwapped, KeepsValues, one_becomes, other_becomes, values_moved, values_kept, root_stands, taken_root, activated_moved}

-- where terms stand that stood in the context
abbrev pub moved_context : TokenName → TokenName → Context → Context
moved_context one other InProblem = InProblem
moved_context one other (InRule token rule) = InRule (swapped_token one other token) rule

module _ (model : Model) (old new : Plan) (one other : TokenName) (has : HaveSwapped model old new one other) where
  -- the argument has in the new plan what the other one had in the old one
  pub record TakesOver (was is : Argument) : Type 0 where
    pub values : (value : ℤ) → HasArgumentValue old was value → HasArgumentValue new is value
    pub counts : ArgumentCounts model (IsTakenIn old) was → ArgumentCounts model (IsTakenIn new) is

  value_same : (value : ℤ) → TakesOver (Value value) (Value value)
  value_same value = record { values = λ v is. is; counts = λ counts. counts }

  global_same : (number : ℕ) → TakesOver (Variable (names.Global number)) (Variable (names.Global number))
  global_same number = record {
    values = λ v gives. values_moved model old new one other has (names.Global number) v gives;
    counts = λ counts token belongs rejectable. absurd belongs;
  }

  -- ---- parts of tokens

  part_taken : (was token : TokenName) (part : Part) → (token ≡ swapped_token one other was) ⊎ (token ≡ was)
      → Counts model (IsTakenIn old) (names.Token was part) → Counts model (IsTakenIn new) (names.Token token part)
  part_taken was token part named counts owner belongs rejectable =
      subst (λ (t : TokenName). IsTakenIn new t) belongs (taken_root model old new one other has was token named
      (subst (λ (t : TokenName). t.steps ≡ []) (sym belongs) rejectable.0)
      (λ same. counts was refl (subst (λ (t : TokenName). IsRejectable model t) (sym belongs ∙ same) rejectable)))

  pub part_over : (token : TokenName) (part : Part) → TakesOver (Variable (names.Token token part)) (Variable (names.Token (swapped_token one other token) part))
  part_over token part = record {
    values = λ v gives. values_moved model old new one other has (names.Token token part) v gives;
    counts = λ counts. part_taken token (swapped_token one other token) part (inl refl) counts;
  }

  part_stays : (token : TokenName) (part : Part) → KeepsValues one other token → TakesOver (Variable (names.Token token part)) (Variable (names.Token token part))
  part_stays token part keeps = record {
    values = λ v gives. values_kept model old new one other has token keeps part v gives;
    counts = λ counts. part_taken token token part (inr refl) counts;
  }

  pub slot_over : (token : TokenName) (step : Step) (part : Part)
      → TakesOver (Variable (names.Token (step_token token step) part)) (Variable (names.Token (step_token (swapped_token one other token) step) part))
  slot_over token step part = elim (step_swapped one other has.apart token step) [
    | inl same ↦ subst (λ (t : TokenName). TakesOver (Variable (names.Token (step_token token step) part)) (Variable (names.Token t part))) same (part_over (step_token token step) part)
    | inr (stays, which) ↦
        subst (λ (t : TokenName). TakesOver (Variable (names.Token (step_token token step) part)) (Variable (names.Token (step_token t step) part))) (sym stays)
        (part_stays (step_token token step) part (inr which))
  ]

  local_over : (token : TokenName) (rule number : ℕ) → TakesOver (Variable (names.Local token rule number)) (Variable (names.Local (swapped_token one other token) rule number))
  local_over token rule number = record {
    values = λ v gives. values_moved model old new one other has (names.Local token rule number) v gives;
    counts = λ counts owner belongs rejectable.
        subst (λ (t : TokenName). IsTakenIn new t) belongs (taken_root model old new one other has token (swapped_token one other token) (inl refl)
        (subst (λ (t : TokenName). t.steps ≡ []) (sym belongs) rejectable.0)
        (λ same. counts token refl (subst (λ (t : TokenName). IsRejectable model t) (sym belongs ∙ same) rejectable)));
  }

  -- ---- terms

  -- what the term means now, and that it takes over from what it meant
  pub record NowMeans (context : Context) (term : Term) (was : Argument) : Type 0 where
    pub is : Argument
    pub means : Means (moved_context one other context) term is
    pub over : TakesOver was is

  now_means : (context : Context) (term : Term) (was meant is : Argument) → was ≡ meant → Means (moved_context one other context) term is → TakesOver meant is
      → NowMeans context term was
  now_means context term was meant is same means over =
      record { is = is; means = means; over = subst (λ (a : Argument). TakesOver a is) (sym same) over }

  pub term_moved : (context : Context) (term : Term) (was : Argument) → Means context term was → NowMeans context term was
  term_moved context (Lit value) was means = now_means context (Lit value) was (Value value) (Value value) means refl (value_same value)
  term_moved context (Global number) was means =
      let a = Variable (names.Global number) in now_means context (Global number) was a a means refl (global_same number)
  term_moved context (Root number part) was means =
      let a = Variable (names.Token (root_token number) part) in
      now_means context (Root number part) was a a means refl (part_stays (root_token number) part (root_stands model old new one other has (root_token number) refl))
  term_moved InProblem (Here part) was means = absurd means
  term_moved InProblem (Slot number part) was means = absurd means
  term_moved InProblem (Local number) was means = absurd means
  term_moved (InRule token rule) (Here part) was means =
      now_means (InRule token rule) (Here part) was (Variable (names.Token token part)) (Variable (names.Token (swapped_token one other token) part)) means refl (part_over token part)
  term_moved (InRule token rule) (Slot number part) was means =
      now_means (InRule token rule) (Slot number part) was (Variable (names.Token (slot_token token rule number) part))
      (Variable (names.Token (slot_token (swapped_token one other token) rule number) part)) means refl
      (slot_over token (record { rule = rule; slot = number }) part)
  term_moved (InRule token rule) (Local number) was means =
      now_means (InRule token rule) (Local number) was (Variable (names.Local token rule number)) (Variable (names.Local (swapped_token one other token) rule number)) means refl
      (local_over token rule number)

  -- ---- lists of terms

  -- what the terms mean now
  pub record NowAllMean (context : Context) (terms : List Term) (were : List Argument) : Type 0 where
    pub are : List Argument
    pub mean : AllZip (Means (moved_context one other context)) terms are
    pub over : AllZip TakesOver were are

  pub terms_moved : (context : Context) (terms : List Term) (were : List Argument) → AllZip (Means context) terms were → NowAllMean context terms were
  terms_moved context [] [] mean = record { are = []; mean = tt; over = tt }
  terms_moved context [] (argument ∷ were) mean = absurd mean
  terms_moved context (term ∷ terms) [] mean = absurd mean
  terms_moved context (term ∷ terms) (argument ∷ were) mean =
      let first = term_moved context term argument mean.0 in
      let rest = terms_moved context terms were mean.1 in
      record { are = first.is ∷ rest.are; mean = (first.means, rest.mean); over = (first.over, rest.over) }

  pub values_over : (were are : List Argument) (values : List ℤ) → AllZip TakesOver were are → AllZip (HasArgumentValue old) were values → AllZip (HasArgumentValue new) are values
  values_over [] [] values over have = have
  values_over [] (is ∷ are) values over have = absurd over
  values_over (was ∷ were) [] values over have = absurd over
  values_over (was ∷ were) (is ∷ are) [] over have = absurd have
  values_over (was ∷ were) (is ∷ are) (value ∷ values) over have = (over.0.values value have.0, values_over were are values over.1 have.1)

  -- ---- guards and blocks

  has_over : (was is : Argument) (domain : Domain) → TakesOver was is → HasDomain (plan_situation old).gives was domain → HasDomain (plan_situation new).gives is domain
  has_over (Value a) (Value b) domain over have = have ∙ ap (λ (v : ℤ). Range v v) (over.values a refl)
  has_over (Value a) (Variable b) domain over have = (a, over.values a refl, have)
  has_over (Variable a) (Value b) domain over have = have.2 ∙ ap (λ (v : ℤ). Range v v) (over.values have.0 have.1)
  has_over (Variable a) (Variable b) domain over have = (have.0, over.values have.0 have.1, have.2)

  may_be_moved : (context : Context) (term : Term) (domain : Domain) → MayBe model (plan_situation old) context term domain
      → MayBe model (plan_situation new) (moved_context one other context) term domain
  may_be_moved context term domain may =
      let now = term_moved context term may.argument may.means in
      record { argument = now.is; means = now.means; counts = now.over.counts may.counts; has = has_over may.argument now.is domain now.over may.has }

  pub opens_moved : (token : TokenName) (rule : ℕ) (guard : Guard) (side : Side) → Opens model (plan_situation old) (InRule token rule) guard side
      → Opens model (plan_situation new) (InRule (swapped_token one other token) rule) guard side
  opens_moved token rule guard side opens = record {
    one = opens.one;
    other = opens.other;
    is_one = may_be_moved (InRule token rule) (one_side guard) opens.one opens.is_one;
    is_other = may_be_moved (InRule token rule) (other_side guard) opens.other opens.is_other;
    always = opens.always;
  }

  unfoldable pub open_moved : (token : TokenName) (rule : ℕ) (path : List Turn) (entries : Entries)
      → IsOpen model (plan_situation old) (record { token = token; rule = rule; path = path }) entries
      → IsOpen model (plan_situation new) (record { token = swapped_token one other token; rule = rule; path = path }) entries
  open_moved token rule path entries opened =
      let block = opened.has_block in
      let slot = token_moved model one other has.apart has.same (one_becomes one other has.apart) (other_becomes one other has.apart) token block.slot block.has_token in
      record {
        activated = activated_moved model old new one other has token opened.activated;
        has_block = record {
          slot = slot.0;
          has_token = slot.1.0;
          rule = block.rule;
          has_rule = subst (λ p. HasRule model p rule block.rule) (sym slot.1.1) block.has_rule;
          way = Follows-map _ _ (opens_moved token rule) block.rule.top path entries block.way;
        };
      }

  pub asks_moved : (token : TokenName) (step : Step) → AsksFor model (plan_situation old) token step → AsksFor model (plan_situation new) (swapped_token one other token) step
  asks_moved token step asks = record {
    path = asks.path;
    entries = asks.entries;
    is_open = open_moved token step.rule asks.path asks.entries asks.is_open;
    stands = asks.stands;
  }

  pub asks_local_moved : (token : TokenName) (rule number : ℕ) → AsksForLocal model old token rule number → AsksForLocal model new (swapped_token one other token) rule number
  asks_local_moved token rule number asks = record {
    path = asks.path;
    entries = asks.entries;
    is_open = open_moved token rule asks.path asks.entries asks.is_open;
    stands = asks.stands;
  }
