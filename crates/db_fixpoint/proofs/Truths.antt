-- The side that opens, from the domains of what a guard compares.
use Rattle.std.proofs.Common.{◌≡◌, ℕ, List, [], ◌∷◌, length, refl, sym, ap, ◌∙◌, subst, Option, Some, None, arith}
use Rattle.std.specs.Prelude.{◌≢◌, ◌↔◌, Bool, AllPairs, MatchOption, slice_get}
use Rattle.std.proofs.lemmas.List.Elements.{All-cons, All-nil, All-head, All-tail}
use Rattle.std.proofs.lemmas.Option.{get_or_from_slice_get}
use Rattle.domain_core.specs.Domain.{Domain, Range, IsDomain, least}
use Rattle.domain_core.proofs.Words.{has_least}
use Rattle.eu_name.specs.declared.name.VarName.{VarName}
use Rattle.model_core.specs.declared.decision.Decision.{Decision}
use Rattle.domain_core.specs.declared.kind.Kind.TheVariants as kinds
use Rattle.model_core.specs.declared.item.Term.{Term}
use Rattle.model_core.specs.declared.model.Model.{Model}
use Rattle.model_core.specs.declared.rule.Guard.{Guard}
use Rattle.model_core.specs.declared.rule.Guard.TheVariants.{Equal, Differ}
use Rattle.model_core.specs.declared.rule.Side.{Side}
use Rattle.model_core.specs.declared.rule.Side.TheVariants.{Then, Otherwise}
use Rattle.model_core.specs.Decided.{IsTaken}
use Rattle.model_core.specs.State.{Gives}
use Rattle.constraint_net.specs.Arguments.{IsArgument, domain_of}
use Rattle.constraint_net.specs.Networks.{Network}
use Rattle.constraint_net.specs.declared.constraint.NetArg.{NetArg}
use Rattle.constraint_net.proofs.Within.{argument_is}
use Rattle.rule_engine.specs.Guards.{asks_equal, AlwaysSelects}
use Rattle.plan_defs.specs.Situations.{situation_of}
use Rattle.plan_defs.specs.Support.{MayBe, one_side, other_side, side_when}
use Rattle.plan_defs.specs.Terms.{Context, Argument, Value, Variable, HasDomain, ArgumentCounts}
use Rattle.eu_name.proofs.Members.{get_below, get_within}
use Rattle.db_refine.specs.Claims.{IsNamedArgument}
use Rattle.model_core.specs.Content.{Content, shown}
use Rattle.db_refine.proofs.Showing.{stands_from, gives_from, number_once}
use Rattle.db_store.specs.Stores.{Stored, snapshot_of, IsSnapshot}
use Rattle.db_store.proofs.Naming.{names_are_once}
use Rattle.db_posting.specs.Counting.{TermCounts}
use Rattle.db_posting.specs.Origins.{content_now}
use Rattle.db_posting.specs.Terms.{CanStand, IsTermArgument}
use Rattle.plan_defs.proofs.Meanings.{means_once}
use Rattle.db_posting.proofs.Meaning.{meant, can_post}
use Rattle.db_fixpoint.specs.Guards.{IsTruth, OpensOnly}

-- ---- truths

module _ (one other : Domain) (is_one : IsDomain one) (is_other : IsDomain other) where
  -- not both sides are selected
  side_alone : (guard : Guard) (side another : Side) → AlwaysSelects guard side one other → AlwaysSelects guard another one other → side ≡ another
  side_alone guard Then Then p q = refl
  side_alone guard Otherwise Otherwise p q = refl
  side_alone (Equal a b) Then Otherwise p q = absurd (q (least one) (least other) (has_least one is_one) (has_least other is_other) (p (least one) (least other) (has_least one is_one) (has_least other is_other)))
  side_alone (Equal a b) Otherwise Then p q = absurd (p (least one) (least other) (has_least one is_one) (has_least other is_other) (q (least one) (least other) (has_least one is_one) (has_least other is_other)))
  side_alone (Differ a b) Then Otherwise p q = absurd (p (least one) (least other) (has_least one is_one) (has_least other is_other) (q (least one) (least other) (has_least one is_one) (has_least other is_other)))
  side_alone (Differ a b) Otherwise Then p q = absurd (q (least one) (least other) (has_least one is_one) (has_least other is_other) (p (least one) (least other) (has_least one is_one) (has_least other is_other)))

  module _ (guard : Guard) where
    abbrev Found : Option Bool → Type 0
    Found truth = MatchOption truth ((side : Side) → AlwaysSelects guard side one other → ⊥) (λ t. AlwaysSelects guard (side_when t) one other)

    truth_found : (truth : Option Bool) → Found truth → (side : Side) → AlwaysSelects guard side one other → (t : Bool) × (truth ≡ Some t) × (side_when t ≡ side)
    truth_found None none side always = absurd (none side always)
    truth_found (Some t) is side always = (t, refl, side_alone guard (side_when t) side is always)

    truth_selects : (truth : Option Bool) → Found truth → (t : Bool) → truth ≡ Some t → AlwaysSelects guard (side_when t) one other
    truth_selects None none t e = absurd (cc)
    truth_selects (Some u) is t e =
        let same : u ≡ t = cc in
        subst (λ (b : Bool). AlwaysSelects guard (side_when b) one other) same is

-- ---- terms

at_number : (names : List VarName) (domains : List Domain) → length names ≡ length domains → (number : ℕ) (name : VarName) → slice_get names number ≡ Some name
    → (domain : Domain) × (slice_get domains number ≡ Some domain)
at_number names domains long number name at =
    let below = get_below names number name at in
    get_within domains number (omega (arith, below, long))

module _ (model : Model) (decisions : List Decision) (content : Content) (context : Context) where
  module _ (once : AllPairs (λ one other. one ≢ other) content.names) where
    argument_domain : (argument : Argument) (arg : NetArg) (domain : Domain) → IsNamedArgument content.names argument arg → HasDomain (Gives (shown content)) argument domain
        → domain ≡ domain_of content.domains arg
    argument_domain (Value value) arg domain named has = subst (λ (a : NetArg). domain ≡ domain_of content.domains a) (sym named) has
    argument_domain (Variable name) arg domain (number, is, at) has =
        let stands = stands_from content.names content.domains name domain has in
        let same = number_once content.names once stands.number number name stands.named at in
        subst (λ (a : NetArg). domain ≡ domain_of content.domains a) (sym is)
        (sym (get_or_from_slice_get content.domains number domain _ (subst (λ (n : ℕ). slice_get content.domains n ≡ Some domain) same stands.given)))

    term_domain : (term : Term) (arg : NetArg) (domain : Domain) → IsTermArgument content context term arg → MayBe model (situation_of decisions (shown content)) context term domain
        → domain ≡ domain_of content.domains arg
    term_domain term arg domain is may = argument_domain may.argument arg domain (is may.argument may.means) may.has

  has_counted : (term : Term) (domain : Domain) → MayBe model (situation_of decisions (shown content)) context term domain → TermCounts model (IsTaken decisions) context term
  has_counted term domain may = λ argument means.
      subst (ArgumentCounts model (IsTaken decisions)) (means_once context term may.argument argument may.means means) may.counts

  module _ (long : length content.names ≡ length content.domains) where
    domain_given : (argument : Argument) (arg : NetArg) → IsNamedArgument content.names argument arg → HasDomain (Gives (shown content)) argument (domain_of content.domains arg)
    domain_given (Value value) arg named = subst (λ (a : NetArg). domain_of content.domains a ≡ Range value value) (sym named) refl
    domain_given (Variable name) arg (number, is, at) =
        let found = at_number content.names content.domains long number name at in
        subst (λ (a : NetArg). Gives (shown content) name (domain_of content.domains a)) (sym is)
        (subst (Gives (shown content) name) (sym (get_or_from_slice_get content.domains number found.0 _ found.1)) (gives_from content.names content.domains number name found.0 at found.1))

    may_be : (term : Term) (arg : NetArg) → CanStand context term → IsTermArgument content context term arg → TermCounts model (IsTaken decisions) context term
        → MayBe model (situation_of decisions (shown content)) context term (domain_of content.domains arg)
    may_be term arg stands is counts =
        let means = meant context term stands in
        record { argument = means.0; means = means.1; counts = counts means.0 means.1; has = domain_given means.0 arg (is means.0 means.1) }

  -- ---- guards

  module _ (guard : Guard) where
    -- where one of the terms doesn't count, neither side opens
    pub opens_none : (TermCounts model (IsTaken decisions) context (one_side guard) × TermCounts model (IsTaken decisions) context (other_side guard) → ⊥)
        → OpensOnly model (situation_of decisions (shown content)) context guard None
    opens_none uncounted = λ side. (
      λ opens. absurd (uncounted (has_counted (one_side guard) opens.one opens.is_one, has_counted (other_side guard) opens.other opens.is_other)),
      λ e. absurd (cc),
    )

    pub opens_only : AllPairs (λ one other. one ≢ other) content.names → length content.names ≡ length content.domains
        → (a b : NetArg) → IsDomain (domain_of content.domains a) → IsDomain (domain_of content.domains b)
        → CanStand context (one_side guard) → CanStand context (other_side guard)
        → IsTermArgument content context (one_side guard) a → IsTermArgument content context (other_side guard) b
        → TermCounts model (IsTaken decisions) context (one_side guard) → TermCounts model (IsTaken decisions) context (other_side guard)
        → (truth : Option Bool) → IsTruth (asks_equal guard) (domain_of content.domains a) (domain_of content.domains b) truth
        → (found : Option Side) → ((side : Side) → (found ≡ Some side) ↔ ((t : Bool) × (truth ≡ Some t) × (side_when t ≡ side)))
        → OpensOnly model (situation_of decisions (shown content)) context guard found
    opens_only once long a b ok_a ok_b stands_a stands_b is_a is_b counts_a counts_b truth is found sides =
        let one = domain_of content.domains a in
        let other = domain_of content.domains b in
        let told = is guard refl in
        λ side. (
          λ opens. (sides side).1 (truth_found one other ok_a ok_b guard truth told side
              (subst (λ (d : Domain). AlwaysSelects guard side d other) (term_domain once (one_side guard) a opens.one is_a opens.is_one)
              (subst (λ (d : Domain). AlwaysSelects guard side opens.one d) (term_domain once (other_side guard) b opens.other is_b opens.is_other) opens.always))),
          λ e. (
              let t = (sides side).0 e in
              record {
                one = one;
                other = other;
                is_one = may_be long (one_side guard) a stands_a is_a counts_a;
                is_other = may_be long (other_side guard) b stands_b is_b counts_b;
                always = subst (λ (s : Side). AlwaysSelects guard s one other) t.2 (truth_selects one other ok_a ok_b guard truth told t.0 t.1);
              }),
        )

-- ---- in a store

-- what the terms of a guard mean is in the network
pub both_arguments : (content : Content) (context : Context) (count : ℕ) → length content.names ≡ count → (one other : Term) (a b : NetArg) → CanStand context one → CanStand context other
    → IsTermArgument content context one a → IsTermArgument content context other b → IsArgument count a × IsArgument count b
both_arguments content context count long one other a b stands_a stands_b is_a is_b =
    let Is = IsArgument count in
    let stand = All-cons (CanStand context) one (other ∷ []) stands_a (All-cons (CanStand context) other [] stands_b (All-nil (CanStand context))) in
    let are = (can_post content context [] count long kinds.Eq (one ∷ other ∷ []) (a ∷ b ∷ []) (is_a, (is_b, tt)) (record { stand = stand; count = refl; allowed = tt })).arguments in
    (All-head Is a (b ∷ []) are, All-head Is b [] (All-tail Is a (b ∷ []) are))

module _ (model : Model) (stored : Stored) (sound : IsSnapshot (snapshot_of stored)) (context : Context) (guard : Guard) (s t : Term) (one : s ≡ one_side guard) (other : t ≡ other_side guard)
    (stands_s : CanStand context (one_side guard)) (stands_t : CanStand context (other_side guard)) (a b : NetArg)
    (is_a : IsTermArgument (content_now stored) context s a) (is_b : IsTermArgument (content_now stored) context t b) (net : Network) (same : net ≡ stored.net) where
  abbrev content : Content
  content = content_now stored

  pub guard_arguments : IsArgument (length net.domains) a × IsArgument (length net.domains) b
  guard_arguments =
      let once = names_are_once (snapshot_of stored) sound in
      both_arguments content context (length net.domains) (once.count ∙ ap (λ (n : Network). length n.domains) (sym same)) (one_side guard) (other_side guard) a b stands_s stands_t
      (subst (λ (term : Term). IsTermArgument content context term a) one is_a) (subst (λ (term : Term). IsTermArgument content context term b) other is_b)

  pub side_found : (decisions : List Decision) → TermCounts model (IsTaken decisions) context s × TermCounts model (IsTaken decisions) context t
      → (equal : Bool) → asks_equal guard ≡ equal → (truth : Option Bool) → IsTruth equal (domain_of net.domains a) (domain_of net.domains b) truth
      → (found : Option Side) → ((side : Side) → (found ≡ Some side) ↔ ((u : Bool) × (truth ≡ Some u) × (side_when u ≡ side)))
      → OpensOnly model (situation_of decisions (shown content)) context guard found
  side_found decisions counts equal asks truth is found sides =
      let once = names_are_once (snapshot_of stored) sound in
      let of_net = subst (λ (n : Network). IsTruth equal (domain_of n.domains a) (domain_of n.domains b) truth) same is in
      let arguments = subst (λ (n : Network). IsArgument (length n.domains) a × IsArgument (length n.domains) b) same guard_arguments in
      opens_only model decisions content context guard once.names once.count a b
      (argument_is content.domains a sound.are arguments.0) (argument_is content.domains b sound.are arguments.1) stands_s stands_t
      (subst (λ (term : Term). IsTermArgument content context term a) one is_a) (subst (λ (term : Term). IsTermArgument content context term b) other is_b)
      (subst (TermCounts model (IsTaken decisions) context) one counts.0) (subst (TermCounts model (IsTaken decisions) context) other counts.1)
      truth (subst (λ (e : Bool). IsTruth e (domain_of content.domains a) (domain_of content.domains b) truth) (sym asks) of_net) found sides
