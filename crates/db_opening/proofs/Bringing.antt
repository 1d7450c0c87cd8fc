-- Variables that come, one after another.
use Rattle.std.proofs.Common.{◌≡◌, ℕ, List, [], ◌∷◌, ◌++◌, map, Ok, Err, Some, None, ◌⊎◌, inl, inr, refl, sym, ap, ◌∙◌, subst}
use Rattle.std.specs.Prelude.{Contains, Option, Result}
use Rattle.std.proofs.lemmas.List.{append_assoc, append-nil, map-append}
use Rattle.std.proofs.lemmas.List.Elements.{All-append, All-cons, All-nil, All-weaker, Contains-append_left, Contains-push}
use Rattle.domain_core.specs.Domain.{Domain}
use Rattle.model_core.specs.declared.variable.Base.{Base}
use Rattle.model_core.specs.declared.variable.Base.TheVariants.{Given, Void}
use Rattle.constraint_net.specs.declared.NetFault.{NetFault}
use Rattle.constraint_net.specs.declared.NetFault.TheVariants.{Collapsed, Memory}
use Rattle.db_store.specs.declared.key.VarKey.{VarKey}
use Rattle.db_store.specs.Puts.{PutsVariable, with_variable}
use Rattle.db_store.specs.Stores.{Stored}
use Rattle.db_opening.specs.Bringing.{KeyDomain, KeepsRest, BringsKeys, Brings}

abbrev pub key_of : KeyDomain → VarKey
key_of each = each.key

abbrev pub domain_of : KeyDomain → Domain
domain_of each = each.domain

pub rest_same : (stored : Stored) → KeepsRest stored stored
rest_same stored = record { past = refl; blocks = refl; watches = refl; tables = refl; constraints = refl; changed = refl }

pub rest_through : (old mid new : Stored) → KeepsRest old mid → KeepsRest mid new → KeepsRest old new
rest_through old mid new one other = record {
  past = other.past ∙ one.past;
  blocks = other.blocks ∙ one.blocks;
  watches = other.watches ∙ one.watches;
  tables = other.tables ∙ one.tables;
  constraints = other.constraints ∙ one.constraints;
  changed = other.changed ∙ one.changed;
}

module _ (Wanted : VarKey → Base → Type 0) where
  -- nothing is wanted that isn't there
  pub brings_nothing : (stored : Stored) → ((key : VarKey) (base : Base) → Wanted key base → Contains stored.keys key) → BringsKeys Wanted stored stored
  brings_nothing stored there = record {
    added = [];
    keys = sym (append-nil stored.keys);
    domains = sym (append-nil stored.net.domains);
    each = All-nil (λ (each : KeyDomain). Wanted each.key (Given each.domain));
    all = there;
    rest = rest_same stored;
  }

-- one variable
module _ (key : VarKey) (base : Base) where
  abbrev is_it : VarKey → Base → Type 0
  is_it one of = (one ≡ key) × (of ≡ base)

  brings_it : (old : Stored) (domain : Domain) → base ≡ Given domain → BringsKeys is_it old (record old { keys = old.keys ++ key ∷ []; net = with_variable old.net domain })
  brings_it old domain given = record {
    added = record { key = key; domain = domain } ∷ [];
    keys = refl;
    domains = refl;
    each = All-cons (λ (each : KeyDomain). is_it each.key (Given each.domain)) (record { key = key; domain = domain }) [] (refl, sym given)
        (All-nil (λ (each : KeyDomain). is_it each.key (Given each.domain)));
    all = λ one of is. subst (Contains (old.keys ++ key ∷ [])) (sym is.0) (Contains-push old.keys key);
    rest = record { past = refl; blocks = refl; watches = refl; tables = refl; constraints = refl; changed = refl };
  }

  pub brings_put : (old new : Stored) (domain : Domain) (found : Option ℕ) → base ≡ Given domain → PutsVariable key domain old (Ok found) new → BringsKeys is_it old new
  brings_put old new domain (Some number) given put = subst (BringsKeys is_it old) (sym put.2) (brings_it old domain given)
  brings_put old new domain None given put =
      subst (BringsKeys is_it old) (sym put.1) (brings_nothing is_it old (λ one of is. subst (Contains old.keys) (sym is.0) put.0))

-- what is wanted, said otherwise
module _ (One Other : VarKey → Base → Type 0) (forth : (key : VarKey) (base : Base) → One key base → Other key base) where
  pub fails_as : (old mid new : Stored) (fault : NetFault) → Brings One mid (Err fault) new → Brings Other old (Err fault) new
  fails_as old mid new Collapsed fails = (fails.0, forth fails.0 Void fails.1)
  fails_as old mid new Memory fails = tt

  pub brings_as : ((key : VarKey) (base : Base) → Other key base → (of : Base) × One key of) → (old new : Stored) (result : Result (Unit {0}) NetFault)
      → Brings One old result new → Brings Other old result new
  brings_as back old new (Ok done) brings = record {
    added = brings.added;
    keys = brings.keys;
    domains = brings.domains;
    each = All-weaker (λ (each : KeyDomain). One each.key (Given each.domain)) (λ (each : KeyDomain). Other each.key (Given each.domain))
        (λ each is. forth each.key (Given each.domain) is) brings.added brings.each;
    all = λ key base is. let one = back key base is in brings.all key one.0 one.1;
    rest = brings.rest;
  }
  brings_as back old new (Err fault) brings = fails_as old old new fault brings

-- one after another
module _ (One Other Both : VarKey → Base → Type 0) (first : (key : VarKey) (base : Base) → One key base → Both key base)
    (second : (key : VarKey) (base : Base) → Other key base → Both key base)
    (cases : (key : VarKey) (base : Base) → Both key base → ((of : Base) × One key of) ⊎ ((of : Base) × Other key of)) where
  pub brings_joined : (old mid new : Stored) → BringsKeys One old mid → BringsKeys Other mid new → BringsKeys Both old new
  brings_joined old mid new one other =
      let keys : new.keys ≡ old.keys ++ map key_of (one.added ++ other.added) =
      other.keys ∙ ap (λ (list : List VarKey). list ++ map key_of other.added) one.keys ∙ append_assoc old.keys (map key_of one.added) (map key_of other.added)
      ∙ ap (λ (list : List VarKey). old.keys ++ list) (sym (map-append key_of one.added other.added)) in
      let domains : new.net.domains ≡ old.net.domains ++ map domain_of (one.added ++ other.added) =
      other.domains ∙ ap (λ (list : List Domain). list ++ map domain_of other.added) one.domains
      ∙ append_assoc old.net.domains (map domain_of one.added) (map domain_of other.added)
      ∙ ap (λ (list : List Domain). old.net.domains ++ list) (sym (map-append domain_of one.added other.added)) in
      record {
        added = one.added ++ other.added;
        keys = keys;
        domains = domains;
        each = All-append (λ (each : KeyDomain). Both each.key (Given each.domain)) one.added other.added
            (All-weaker (λ (each : KeyDomain). One each.key (Given each.domain)) (λ (each : KeyDomain). Both each.key (Given each.domain))
            (λ each is. first each.key (Given each.domain) is) one.added one.each)
            (All-weaker (λ (each : KeyDomain). Other each.key (Given each.domain)) (λ (each : KeyDomain). Both each.key (Given each.domain))
            (λ each is. second each.key (Given each.domain) is) other.added other.each);
        all = λ key base is. elim (cases key base is) [
          | inl front ↦ subst (λ (list : List VarKey). Contains list key) (sym other.keys) (Contains-append_left mid.keys (map key_of other.added) key (one.all key front.0 front.1))
          | inr back ↦ other.all key back.0 back.1
        ];
        rest = rest_through old mid new one.rest other.rest;
      }
