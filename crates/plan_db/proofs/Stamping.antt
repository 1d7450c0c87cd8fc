-- How often variables were written, by number and by name.
use Rattle.std.proofs.Common.{◌≡◌, ℕ, zero, suc, List, [], ◌∷◌, Option, Some, None, Result, inl, inr, refl, sym, ap, subst}
use Rattle.std.specs.Prelude.{slice_get, Contains, MatchOption, OnOk}
use Rattle.std.proofs.lemmas.Result.{on_ok_weaker}
use Rattle.domain_core.specs.Domain.{Domain}
use Rattle.eu_name.specs.declared.name.VarName.{VarName}
use Rattle.model_core.specs.declared.model.Model.{Model}
use Rattle.model_core.specs.History.{History, standing}
use Rattle.model_core.specs.State.{Gives}
use Rattle.plan_defs.specs.Closure.{IsLeast}
use Rattle.eu_name.proofs.Members.{contains_from_get}
use Rattle.eu_name.proofs.Ordered.{contains_head, contains_later, contains_cases, contains_none}
use Rattle.db_store.specs.Stamps.{HasStamp, FollowStamps, StampsRise}
use Rattle.db_store.specs.Stores.{Stored, snapshot_of, IsSnapshot, named_content, variable_names}
use Rattle.db_store.proofs.Naming.{gives_by_number, names_are_once}
use Rattle.db_refusals.specs.Seeing.{seen_state}
use Rattle.db_refusals.proofs.Seen.{put_in_order}
use Rattle.db_history.specs.declared.footing.Footing.{Footing}
use Rattle.db_history.specs.declared.footing.Footing.TheVariants.{Rest, Fallen, Void}
use Rattle.db_history.specs.Standing.{Stood}
use Rattle.db_history.specs.Kept.{KeepsHistory}
use Rattle.db_history.proofs.Keeping.{least_kept}
use Rattle.plan_db.specs.declared.fault.QueryFault.{QueryFault}
use Rattle.plan_db.specs.declared.fault.QueryFault.TheVariants as query
use Rattle.plan_db.specs.declared.fault.DbFault.{DbFault}
use Rattle.plan_db.specs.Database.{taken_in, IsTold, IsUntold}
use Rattle.plan_db.specs.Stamps.{Stamped, with_stamps, stamps_on, stamps_of, IsStampedAs, StampsFollowDomains, NoStampFalls}

-- what stands at one number is among them
stamped_at : (names : List VarName) (domains : List Domain) (stamps : List ℕ) (number : ℕ) (name : VarName) (domain : Domain) (stamp : ℕ)
    → slice_get names number ≡ Some name → slice_get domains number ≡ Some domain → slice_get stamps number ≡ Some stamp
    → Contains (with_stamps names domains stamps) (record { name = name; domain = domain; stamp = stamp })
stamped_at [] domains stamps number name domain stamp at given written = absurd (cc)
stamped_at (n ∷ names) [] stamps number name domain stamp at given written = absurd (cc)
stamped_at (n ∷ names) (d ∷ domains) [] number name domain stamp at given written = absurd (cc)
stamped_at (n ∷ names) (d ∷ domains) (s ∷ stamps) zero name domain stamp at given written =
    let name_is : n ≡ name = cc in
    let domain_is : d ≡ domain = cc in
    let stamp_is : s ≡ stamp = cc in
    let same : record { name = n; domain = d; stamp = s } ≡ record { name = name; domain = domain; stamp = stamp } =
    λ i. record { name = name_is i; domain = domain_is i; stamp = stamp_is i } in
    subst (λ (each : Stamped). Contains (record { name = n; domain = d; stamp = s } ∷ with_stamps names domains stamps) each) same
    (contains_head (record { name = n; domain = d; stamp = s }) (with_stamps names domains stamps))
stamped_at (n ∷ names) (d ∷ domains) (s ∷ stamps) (suc number) name domain stamp at given written =
    contains_later (record { name = n; domain = d; stamp = s }) (record { name = name; domain = domain; stamp = stamp }) (with_stamps names domains stamps)
    (stamped_at names domains stamps number name domain stamp at given written)

-- and what is among them stands at a number
at_stamped : (names : List VarName) (domains : List Domain) (stamps : List ℕ) (each : Stamped) → Contains (with_stamps names domains stamps) each
    → (number : ℕ) × (slice_get names number ≡ Some each.name) × (slice_get domains number ≡ Some each.domain) × (slice_get stamps number ≡ Some each.stamp)
at_stamped [] domains stamps each there = absurd (contains_none each there)
at_stamped (n ∷ names) [] stamps each there = absurd (contains_none each there)
at_stamped (n ∷ names) (d ∷ domains) [] each there = absurd (contains_none each there)
at_stamped (n ∷ names) (d ∷ domains) (s ∷ stamps) each there =
    elim (contains_cases (record { name = n; domain = d; stamp = s }) each (with_stamps names domains stamps) there) [
      | inl same ↦ (0, ap (λ (e : Stamped). Some e.name) same, ap (λ (e : Stamped). Some e.domain) same, ap (λ (e : Stamped). Some e.stamp) same)
      | inr later ↦ (
          let rest = at_stamped names domains stamps each later in
          (suc rest.0, rest.1, rest.2, rest.3))
    ]

-- ---- stores

has_stamp : (stored : Stored) (name : VarName) (domain : Domain) (stamp : ℕ) → IsStampedAs (stamps_on Rest stored) name domain stamp → HasStamp stored name domain stamp
has_stamp stored name domain stamp is =
    let at = at_stamped (variable_names (snapshot_of stored)) stored.net.domains stored.net.stamps (record { name = name; domain = domain; stamp = stamp }) is.0 in
    record { number = at.0; named = at.1; given = at.2; written = at.3; small = is.1 }

is_stamped : (stored : Stored) (name : VarName) (domain : Domain) (stamp : ℕ) → HasStamp stored name domain stamp → IsStampedAs (stamps_on Rest stored) name domain stamp
is_stamped stored name domain stamp has =
    (stamped_at (variable_names (snapshot_of stored)) stored.net.domains stored.net.stamps has.number name domain stamp has.named has.given has.written, has.small)

follow_on : (one other : Footing) (old new : Stored) → (other ≡ Rest → FollowStamps old new) → StampsFollowDomains (stamps_on one old) (stamps_on other new)
follow_on Rest Rest old new follow = λ name was now stamp next is is_now.
    follow refl name was now stamp next (has_stamp old name was stamp is) (has_stamp new name now next is_now)
follow_on Rest Fallen old new follow = λ name was now stamp next is is_now. absurd (contains_none (record { name = name; domain = now; stamp = next }) is_now.0)
follow_on Rest Void old new follow = λ name was now stamp next is is_now. absurd (contains_none (record { name = name; domain = now; stamp = next }) is_now.0)
follow_on Fallen other old new follow = λ name was now stamp next is is_now. absurd (contains_none (record { name = name; domain = was; stamp = stamp }) is.0)
follow_on Void other old new follow = λ name was now stamp next is is_now. absurd (contains_none (record { name = name; domain = was; stamp = stamp }) is.0)

-- where stamps of stores follow the domains, so do those of what is kept
pub follow_ok : {X : Type 0} (result : Result X DbFault) (old new : Stood) → OnOk result (new.footing ≡ Rest → FollowStamps old.stored new.stored)
    → OnOk result (StampsFollowDomains (stamps_of old) (stamps_of new))
follow_ok result old new follow = on_ok_weaker result (follow_on old.footing new.footing old.stored new.stored) follow

rise_on : (one other : Footing) (old new : Stored) → StampsRise old new → NoStampFalls (stamps_on one old) (stamps_on other new)
rise_on Rest Rest old new rises = λ name was now stamp next is is_now.
    rises name was now stamp next (has_stamp old name was stamp is) (has_stamp new name now next is_now)
rise_on Rest Fallen old new rises = λ name was now stamp next is is_now. absurd (contains_none (record { name = name; domain = now; stamp = next }) is_now.0)
rise_on Rest Void old new rises = λ name was now stamp next is is_now. absurd (contains_none (record { name = name; domain = now; stamp = next }) is_now.0)
rise_on Fallen other old new rises = λ name was now stamp next is is_now. absurd (contains_none (record { name = name; domain = was; stamp = stamp }) is.0)
rise_on Void other old new rises = λ name was now stamp next is is_now. absurd (contains_none (record { name = name; domain = was; stamp = stamp }) is.0)

-- and where they only rise
pub rise_stamped : (old new : Stood) → StampsRise old.stored new.stored → NoStampFalls (stamps_of old) (stamps_of new)
rise_stamped old new rises = rise_on old.footing new.footing old.stored new.stored rises

-- ---- what is told

module _ (model : Model) (history : History) (stood : Stood) (keeps : KeepsHistory model history stood) (rest : stood.footing ≡ Rest)
    (stored : Stored) (same : stored ≡ stood.stored) (is : IsSnapshot (snapshot_of stored)) (name : VarName) where
  least : IsLeast model (standing history) (seen_state stored)
  least = subst (λ (s : Stored). IsLeast model (standing history) (seen_state s)) (sym same) (least_kept model (standing history) stood keeps.list rest).least

  gives : (domain : Domain) (stamp : ℕ) → HasStamp stored name domain stamp → Gives (seen_state stored) name domain
  gives domain stamp has =
      ((put_in_order (named_content (snapshot_of stored)) (names_are_once (snapshot_of stored) is)).alike.gives name domain).0
      ((gives_by_number (named_content (snapshot_of stored)) name domain).1 (has.number, has.named, has.given))

  gives_none : (Contains (variable_names (snapshot_of stored)) name → ⊥) → (domain : Domain) → Gives (seen_state stored) name domain → ⊥
  gives_none none domain gives =
      let shown = ((put_in_order (named_content (snapshot_of stored)) (names_are_once (snapshot_of stored) is)).alike.gives name domain).1 gives in
      let at = (gives_by_number (named_content (snapshot_of stored)) name domain).0 shown in
      none (contains_from_get (variable_names (snapshot_of stored)) at.0 name at.1)

  -- the stamp that a store tells is that of what is kept
  pub stamp_by_store : (found : Option ℕ)
      → MatchOption found (Contains (variable_names (snapshot_of stored)) name → ⊥) (λ stamp. (domain : Domain) × HasStamp stored name domain stamp)
      → MatchOption found ((fault : QueryFault) × IsUntold (taken_in model history) name fault)
      (λ stamp. (domain : Domain) × IsTold (taken_in model history) name domain × IsStampedAs (stamps_of stood) name domain stamp)
  stamp_by_store (Some stamp) (domain, has) =
      let here : IsStampedAs (stamps_on Rest stood.stored) name domain stamp =
      is_stamped stood.stored name domain stamp (subst (λ (s : Stored). HasStamp s name domain stamp) same has) in
      (domain, (seen_state stored, least, gives domain stamp has), subst (λ (f : Footing). IsStampedAs (stamps_on f stood.stored) name domain stamp) (sym rest) here)
  stamp_by_store None none = (query.Unknown, (seen_state stored, least, gives_none none))
