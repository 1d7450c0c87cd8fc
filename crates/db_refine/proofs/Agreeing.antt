-- The constraint that says a claim is consistent exactly where the claim is.
use Rattle.std.proofs.Common.{◌≡◌, ℕ, List, [], ◌∷◌, ◌++◌, Some, ℤ, pos, refl, sym, ap, ◌∙◌, subst}
use Rattle.std.specs.Prelude.{slice_get}
use Rattle.std.specs.List.{AllZip}
use Rattle.std.proofs.lemmas.Option.{get_or_from_slice_get}
use Rattle.domain_core.specs.Domain.{Domain, Range}
use Rattle.eu_name.specs.declared.name.VarName.{VarName}
use Rattle.domain_core.specs.declared.kind.Kind.{Kind}
use Rattle.domain_core.specs.declared.kind.Kind.TheVariants.{Field}
use Rattle.model_core.specs.declared.model.Model.{Model}
use Rattle.domain_core.specs.Consistency.{Values, AreConsistent}
use Rattle.domain_core.specs.Constraints.{AgreeOn, IsFieldOf}
use Rattle.model_core.specs.State.{State, Gives, AreInOrder}
use Rattle.narrow_core.specs.declared.field.Field as tables
use Rattle.constraint_net.specs.Arguments.{domain_of, domains_of}
use Rattle.constraint_net.specs.Networks.{field_of, IsConsistent}
use Rattle.constraint_net.specs.declared.constraint.Constraint.{Constraint}
use Rattle.constraint_net.specs.declared.constraint.NetArg.{NetArg}
use Rattle.constraint_net.specs.declared.constraint.NetArg.TheVariants.{Var}
use Rattle.plan_defs.specs.Claims.{Claim}
use Rattle.plan_defs.specs.Consistency.{HasField, IsClaimConsistent}
use Rattle.plan_defs.specs.Terms.{Argument, Value, Variable, HasDomain}
use Rattle.plan_defs.proofs.States.{gives_same}
use Rattle.db_refine.specs.Claims.{IsNamedArgument, SaysClaim, AreFieldsOf}

-- ---- which object has which value in a field

module _ (one other : ℤ → ℤ → Type 0) (to : (object value : ℤ) → one object value → other object value) where
  field_to : (values : List ℤ) → IsFieldOf one values → IsFieldOf other values
  field_to [] is = absurd is
  field_to (object ∷ []) is = absurd is
  field_to (object ∷ value ∷ []) is = to object value is
  field_to (object ∷ value ∷ more ∷ values) is = absurd is

  fields_to : (domains : List Domain) → AreConsistent Values (IsFieldOf one) domains → AreConsistent Values (IsFieldOf other) domains
  fields_to domains agree before domain after value split tested =
      let s = agree before domain after value split tested in
      (s.0, s.1, s.2, s.3, field_to (s.0 ++ value ∷ s.1) s.4)

pub agree_to : (one other : ℕ → ℤ → ℤ → Type 0) → ((number : ℕ) (object value : ℤ) → one number object value → other number object value)
    → (kind : Kind) (domains : List Domain) → AgreeOn one kind domains → AgreeOn other kind domains
agree_to one other to (Field number) domains agree = fields_to (one number) (other number) (to number) domains agree
agree_to one other to kind domains agree = agree

-- ---- the arguments' domains

module _ (state : State) (names : List VarName) (domains : List Domain) where
  -- the variables of these names have these domains in the state
  abbrev pub AreGiven : Type 0
  AreGiven = (k : ℕ) (name : VarName) → slice_get names k ≡ Some name → (domain : Domain) × (slice_get domains k ≡ Some domain) × Gives state name domain

  domain_at : (k : ℕ) (domain : Domain) → slice_get domains k ≡ Some domain → domain_of domains (Var k) ≡ domain
  domain_at k domain at = get_or_from_slice_get domains k domain (Range (pos 0) (pos 0)) at

  module _ (given : AreGiven) where
    argument_has : (argument : Argument) (arg : NetArg) → IsNamedArgument names argument arg → HasDomain (Gives state) argument (domain_of domains arg)
    argument_has (Value value) arg is = ap (domain_of domains) is
    argument_has (Variable name) arg is =
        let found = given is.0 name is.2 in
        subst (Gives state name) (sym (ap (domain_of domains) is.1 ∙ domain_at is.0 found.0 found.1)) found.2

    arguments_have : (arguments : List Argument) (args : List NetArg) → AllZip (IsNamedArgument names) arguments args
        → AllZip (HasDomain (Gives state)) arguments (domains_of domains args)
    arguments_have [] [] zip = tt
    arguments_have [] (arg ∷ args) zip = absurd zip
    arguments_have (argument ∷ arguments) [] zip = absurd zip
    arguments_have (argument ∷ arguments) (arg ∷ args) zip = (argument_has argument arg zip.0, arguments_have arguments args zip.1)

    -- a consistent constraint makes its claim consistent
    pub claim_from : (model : Model) (fields : List tables.Field) → AreFieldsOf model fields → (constraint : Constraint) (claim : Claim)
        → SaysClaim names constraint claim → IsConsistent fields constraint domains → IsClaimConsistent model state claim
    claim_from model fields are constraint claim says agree = record {
      domains = domains_of domains constraint.args;
      have = arguments_have claim.arguments constraint.args says.arguments;
      agree = subst (λ kind. AgreeOn (HasField model) kind (domains_of domains constraint.args)) says.kind
          (agree_to (field_of fields) (HasField model) (λ number object value. (are number object value).0) constraint.kind (domains_of domains constraint.args) agree);
    }

    module _ (order : AreInOrder state) where
      same_domain : (argument : Argument) (arg : NetArg) (domain : Domain) → IsNamedArgument names argument arg → HasDomain (Gives state) argument domain
          → domain ≡ domain_of domains arg
      same_domain (Value value) arg domain is has = has ∙ sym (ap (domain_of domains) is)
      same_domain (Variable name) arg domain is has = gives_same state order name domain _ has (argument_has (Variable name) arg is)

      same_domains : (arguments : List Argument) (args : List NetArg) (others : List Domain) → AllZip (IsNamedArgument names) arguments args
          → AllZip (HasDomain (Gives state)) arguments others → others ≡ domains_of domains args
      same_domains [] [] [] zip have = refl
      same_domains [] [] (other ∷ others) zip have = absurd have
      same_domains [] (arg ∷ args) others zip have = absurd zip
      same_domains (argument ∷ arguments) [] others zip have = absurd zip
      same_domains (argument ∷ arguments) (arg ∷ args) [] zip have = absurd have
      same_domains (argument ∷ arguments) (arg ∷ args) (other ∷ others) zip have =
          let head = same_domain argument arg other zip.0 have.0 in
          let tail = same_domains arguments args others zip.1 have.1 in
          (λ i. head i ∷ tail i)

      -- and a consistent claim its constraint
      pub constraint_from : (model : Model) (fields : List tables.Field) → AreFieldsOf model fields → (constraint : Constraint) (claim : Claim)
          → SaysClaim names constraint claim → IsClaimConsistent model state claim → IsConsistent fields constraint domains
      constraint_from model fields are constraint claim says consistent =
          let same = same_domains claim.arguments constraint.args consistent.domains says.arguments consistent.have in
          let agree : AgreeOn (HasField model) claim.kind (domains_of domains constraint.args) = subst (AgreeOn (HasField model) claim.kind) same consistent.agree in
          agree_to (HasField model) (field_of fields) (λ number object value. (are number object value).1) constraint.kind (domains_of domains constraint.args)
          (subst (λ kind. AgreeOn (HasField model) kind (domains_of domains constraint.args)) (sym says.kind) agree)
