-- Variables that come to a content: those of a token, or the locals of a block.
use Rattle.std.proofs.Common.{◌≡◌, ℕ, List, [], ◌∷◌, ◌++◌, length, Some, ◌⊎◌, inl, inr, refl, sym, ap, ◌∙◌, subst, arith}
use Rattle.std.specs.Prelude.{All, AllPairs, Contains, map, slice_get, ◌≢◌, ◌↔◌}
use Rattle.std.proofs.lemmas.List.{length-append, length-map}
use Rattle.std.proofs.lemmas.List.Elements.{All-append, All-map, All-weaker, Contains-append_left, Contains-append_right, Contains-append_cases}
use Rattle.domain_core.specs.Domain.{Domain, IsDomain}
use Rattle.domain_core.proofs.Words.{IsWithin-refl}
use Rattle.eu_name.specs.declared.name.TokenName.{TokenName}
use Rattle.eu_name.specs.declared.name.VarName.{VarName}
use Rattle.eu_name.specs.declared.name.VarName.TheVariants.{Token, Local}
use Rattle.model_core.specs.declared.decision.Decision.{Decision}
use Rattle.model_core.specs.declared.model.Model.{Model}
use Rattle.model_core.specs.declared.rule.Slot.{Slot}
use Rattle.model_core.specs.declared.variable.Base.TheVariants.{Given}
use Rattle.model_core.specs.Blocks.{TokenBlock}
use Rattle.model_core.specs.Lawful.{IsLawful}
use Rattle.model_core.specs.State.{VarDomain, Gives, IsAbout, IsBlockOf, StandsOpen}
use Rattle.model_core.specs.Tokens.{HasToken}
use Rattle.model_core.specs.Variables.{HasBase}
use Rattle.plan_defs.specs.Situations.{situation_of}
use Rattle.plan_defs.proofs.Lower.{Further}
use Rattle.model_core.specs.Content.{Content, paired, shown, IsContent}
use Rattle.db_refine.specs.Coming.{VariablesCome, TokenComes, BlockComes}
use Rattle.db_refine.specs.Progress.{IsDue}
use Rattle.model_core.proofs.Lawful.{base_lawful}
use Rattle.eu_name.proofs.Places.{get_front, contains_map, pairs_joined, pairs_map}
use Rattle.model_core.proofs.Locals.{local_once}

abbrev name_of : VarDomain → VarName
name_of each = each.name

abbrev domain_of : VarDomain → Domain
domain_of each = each.domain

abbrev pub names_of : List VarDomain → List VarName
names_of added = map name_of added

paired_itself : (added : List VarDomain) → paired (map name_of added) (map domain_of added) ≡ added
paired_itself [] = refl
paired_itself (each ∷ added) = ap (λ (list : List VarDomain). each ∷ list) (paired_itself added)

paired_append : (names : List VarName) (domains : List Domain) (added : List VarDomain) → length names ≡ length domains
    → paired (names ++ map name_of added) (domains ++ map domain_of added) ≡ paired names domains ++ added
paired_append [] [] added long = paired_itself added
paired_append [] (domain ∷ domains) added long = absurd (omega (arith, long))
paired_append (name ∷ names) [] added long = absurd (omega (arith, long))
paired_append (name ∷ names) (domain ∷ domains) added long =
    ap (λ (list : List VarDomain). record { name = name; domain = domain } ∷ list) (paired_append names domains added (omega (arith, long)))

module _ (model : Model) (added : List VarDomain) (old new : Content) (is : IsContent model old) (come : VariablesCome model added old new) where
  entries_new : paired new.names new.domains ≡ paired old.names old.domains ++ added
  entries_new = (λ i. paired (come.names i) (come.domains i)) ∙ paired_append old.names old.domains added is.count

  -- ---- what is given

  pub gives_kept : (name : VarName) (domain : Domain) → Gives (shown old) name domain → Gives (shown new) name domain
  gives_kept name domain gives =
      subst (λ (list : List VarDomain). Contains list (record { name = name; domain = domain })) (sym entries_new)
      (Contains-append_left (paired old.names old.domains) added (record { name = name; domain = domain }) gives)

  pub gives_cases : (name : VarName) (domain : Domain) → Gives (shown new) name domain
      → Gives (shown old) name domain ⊎ Contains added (record { name = name; domain = domain })
  gives_cases name domain gives =
      Contains-append_cases (paired old.names old.domains) added (record { name = name; domain = domain })
      (subst (λ (list : List VarDomain). Contains list (record { name = name; domain = domain })) entries_new gives)

  pub further_new : (decisions : List Decision) → Further (situation_of decisions (shown old)) (situation_of decisions (shown new))
  further_new decisions = record {
    taken = λ token taken. taken;
    activated = λ token activated. activated;
    gives = λ name domain gives. (domain, gives_kept name domain gives, IsWithin-refl domain);
  }

  -- ---- names

  pub names_kept : (k : ℕ) (name : VarName) → slice_get old.names k ≡ Some name → slice_get new.names k ≡ Some name
  names_kept k name at = subst (λ (names : List VarName). slice_get names k ≡ Some name) (sym come.names) (get_front old.names (names_of added) k name at)

  pub due_kept : (due : List ℕ) (name : VarName) → IsDue old due name → IsDue new due name
  due_kept due name is_due = (is_due.0, names_kept is_due.0 name is_due.1, is_due.2)

  pub named_kept : (name : VarName) → Contains old.names name → Contains new.names name
  named_kept name named = subst (λ (names : List VarName). Contains names name) (sym come.names) (Contains-append_left old.names (names_of added) name named)

  pub named_new : (name : VarName) → Contains (names_of added) name → Contains new.names name
  named_new name named = subst (λ (names : List VarName). Contains names name) (sym come.names) (Contains-append_right old.names (names_of added) name named)

  pub named_cases : (name : VarName) → Contains new.names name → Contains old.names name ⊎ Contains (names_of added) name
  named_cases name named = Contains-append_cases old.names (names_of added) name (subst (λ (names : List VarName). Contains names name) come.names named)

  module _ (fresh : (name : VarName) → Contains (names_of added) name → Contains old.names name → ⊥) where
    -- what is given for an old variable was given before
    pub gives_old : (name : VarName) (domain : Domain) → Contains old.names name → Gives (shown new) name domain → Gives (shown old) name domain
    gives_old name domain named gives = elim (gives_cases name domain gives) [
      | inl before ↦ before
      | inr came ↦ absurd (fresh name (contains_map name_of added (record { name = name; domain = domain }) came) named)
    ]

    -- ---- the new content

    names_once : AllPairs (λ one other. one ≢ other) new.names
    names_once = subst (AllPairs (λ one other. one ≢ other)) (sym come.names)
        (pairs_joined (λ one other. one ≢ other) old.names (names_of added) is.names_once (pairs_map name_of (λ one other. one ≢ other) added come.once)
        (λ one other before came same. fresh other came (subst (Contains old.names) same before)))

    as_many : length new.names ≡ length new.domains
    as_many =
        let names = ap length come.names in
        let domains = ap length come.domains in
        let count = is.count in
        omega (arith, names, domains, count, length-append old.names (names_of added), length-append old.domains (map domain_of added), length-map added name_of, length-map added domain_of)

    domains_new : IsLawful model → All IsDomain new.domains
    domains_new lawful = subst (All IsDomain) (sym come.domains)
        (All-append IsDomain old.domains (map domain_of added) is.domains
        (All-map IsDomain domain_of added
        (All-weaker (λ (each : VarDomain). HasBase model each.name (Given each.domain)) (λ (each : VarDomain). IsDomain each.domain)
        (λ each base. base_lawful model lawful each.name each.domain base) added come.bases)))

    pub content_new : IsLawful model → AllPairs (λ one other. one ≢ other) new.tokens → AllPairs (λ one other. one ≢ other) new.blocks
        → All (λ token. (slot : Slot) × HasToken model token slot) new.tokens → All (IsBlockOf model (shown new)) new.blocks
        → ((name : VarName) → IsAbout model (shown new) name ↔ Contains new.names name) → IsContent model new
    content_new lawful tokens_once blocks_once tokens blocks variables = record {
      tokens_once = tokens_once;
      blocks_once = blocks_once;
      names_once = names_once;
      count = as_many;
      tokens = tokens;
      blocks = blocks;
      variables = variables;
      domains = domains_new lawful;
    }

-- ---- what comes wasn't there

pub token_fresh : (model : Model) (token : TokenName) (old new : Content) → IsContent model old → (Contains old.tokens token → ⊥) → (comes : TokenComes model token old new)
    → (name : VarName) → Contains (names_of comes.added) name → Contains old.names name → ⊥
token_fresh model token old new is none comes name came named =
    let part = (comes.parts name).0 came in
    none ((is.variables (Token token part.0)).1 (subst (Contains old.names) part.1 named)).0

module _ (model : Model) (lawful : IsLawful model) where
  pub block_fresh : (block : TokenBlock) (old new : Content) → IsContent model old → (Contains old.blocks block → ⊥) → (comes : BlockComes model block old new)
      → (name : VarName) → Contains (names_of comes.added) name → Contains old.names name → ⊥
  block_fresh block old new is none comes name came named =
      let local = (comes.locals name).0 came in
      let stands : StandsOpen model (shown old) block.token block.rule local.0 =
      (is.variables (Local block.token block.rule local.0)).1 (subst (Contains old.names) local.1 named) in
      let same = local_once model lawful stands.block block stands.entries comes.entries local.0 stands.of_token stands.of_rule stands.is_block comes.is_block stands.stands local.2 in
      none (subst (Contains old.blocks) same stands.is_open)
