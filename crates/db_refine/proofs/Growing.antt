-- A content stays justified where a token or a block comes that is supported in it.
use Rattle.std.proofs.Common.{◌≡◌, ℕ, List, [], ◌∷◌, ◌++◌, ◌⊎◌, inl, inr, refl, sym, ◌∙◌, subst}
use Rattle.std.specs.Prelude.{All, AllPairs, Contains, ◌≢◌}
use Rattle.std.proofs.lemmas.List.Elements.{All-push, All-weaker, All-contains, Contains-append_left, Contains-push, Contains-push_cases}
use Rattle.domain_core.specs.Domain.{Domain}
use Rattle.domain_core.proofs.Words.{IsWithin-refl}
use Rattle.eu_name.specs.declared.name.TokenName.{TokenName}
use Rattle.eu_name.specs.declared.name.VarName.{VarName}
use Rattle.eu_name.specs.declared.name.VarName.TheVariants.{Token, Local, Global}
use Rattle.model_core.specs.declared.decision.Decision.{Decision}
use Rattle.model_core.specs.declared.model.Model.{Model}
use Rattle.model_core.specs.declared.rule.Slot.{Slot}
use Rattle.model_core.specs.declared.variable.Base.TheVariants.{Given}
use Rattle.model_core.specs.Blocks.{TokenBlock, OfLocal, direct}
use Rattle.model_core.specs.Entries.{Entries}
use Rattle.model_core.specs.Lawful.{IsLawful}
use Rattle.model_core.specs.State.{VarDomain, Gives, IsAbout, IsBlockOf, StandsOpen}
use Rattle.model_core.specs.Tokens.{HasToken}
use Rattle.model_core.specs.Variables.{HasBase, HasPartBase}
use Rattle.model_core.proofs.Leading.{token_once}
use Rattle.narrow_core.specs.declared.field.Field.{Field}
use Rattle.constraint_net.specs.declared.constraint.Constraint.{Constraint}
use Rattle.plan_defs.specs.Claims.{Claim}
use Rattle.plan_defs.specs.Closure.{AreInBase}
use Rattle.plan_defs.specs.Situations.{situation_of}
use Rattle.plan_defs.specs.Support.{IsSupportedToken, IsSupportedBlock}
use Rattle.plan_defs.proofs.Lower.{supported_further, block_further}
use Rattle.eu_name.proofs.Ordered.{contains_cases, contains_none, ordered_one}
use Rattle.db_refine.specs.Claims.{SaysClaim, IsOwed, AreOwed}
use Rattle.model_core.specs.Content.{Content, shown, IsContent}
use Rattle.db_refine.proofs.Alike.{about_more}
use Rattle.db_refine.proofs.Owing.{grown_above}
use Rattle.db_refine.specs.Coming.{VariablesCome, TokenComes, BlockComes}
use Rattle.db_refine.specs.Progress.{IsJustified}
use Rattle.model_core.proofs.Blocks.{at_block}
use Rattle.db_refine.proofs.Coming.{names_of, gives_cases, further_new, names_kept, named_kept, named_new, named_cases, content_new, token_fresh, block_fresh}
use Rattle.db_refine.proofs.Mapping.{says_kept}
use Rattle.eu_name.proofs.Places.{pairs_joined}

-- ---- items added to a list

module _ {X : Type 0} (old new : List X) (x : X) (are : new ≡ old ++ x ∷ []) where
  pub member_kept : (y : X) → Contains old y → Contains new y
  member_kept y there = subst (λ list. Contains list y) (sym are) (Contains-append_left old (x ∷ []) y there)

  pub member_new : Contains new x
  member_new = subst (λ list. Contains list x) (sym are) (Contains-push old x)

  pub member_cases : (y : X) → Contains new y → Contains old y ⊎ (x ≡ y)
  member_cases y there = Contains-push_cases old x y (subst (λ list. Contains list y) are there)

  pushed_once : AllPairs (λ one other. one ≢ other) old → (Contains old x → ⊥) → AllPairs (λ one other. one ≢ other) new
  pushed_once once none = subst (AllPairs (λ one other. one ≢ other)) (sym are)
      (pairs_joined (λ one other. one ≢ other) old (x ∷ []) once (ordered_one (λ one other. one ≢ other) x) (λ one other before last same.
      elim (contains_cases x other [] last) [
        | inl is ↦ none (subst (Contains old) (sym is) (subst (Contains old) same before))
        | inr later ↦ contains_none other later
      ]))

  pushed_all : (P : X → Type 0) → All P old → P x → All P new
  pushed_all P all last = subst (All P) (sym are) (All-push P old x all last)

-- ---- variables

module _ (model : Model) (decisions : List Decision) (added : List VarDomain) (old new : Content) (is : IsContent model old) (come : VariablesCome model added old new) where
  came_in_base : (name : VarName) (domain : Domain) → Contains added (record { name = name; domain = domain }) → HasBase model name (Given domain)
  came_in_base name domain came =
      All-contains (λ (each : VarDomain). HasBase model each.name (Given each.domain)) added (record { name = name; domain = domain }) come.bases came

  given_cases : (name : VarName) (domain : Domain) → Gives (shown new) name domain → Gives (shown old) name domain ⊎ HasBase model name (Given domain)
  given_cases name domain gives = elim (gives_cases model added old new is come name domain gives) [
    | inl before ↦ inl before
    | inr came ↦ inr (came_in_base name domain came)
  ]

  new_in_base : AreInBase model (shown old) → AreInBase model (shown new)
  new_in_base in_base name domain gives = elim (given_cases name domain gives) [
    | inl before ↦ in_base name domain before
    | inr base ↦ (Given domain, base, IsWithin-refl domain)
  ]

  new_owed : (posted : List Constraint) → AreOwed model decisions old.names posted → AreOwed model decisions new.names posted
  new_owed posted owed = All-weaker
      (λ constraint. (claim : Claim) × SaysClaim old.names constraint claim × IsOwed model decisions claim)
      (λ constraint. (claim : Claim) × SaysClaim new.names constraint claim × IsOwed model decisions claim)
      (λ constraint says. (says.0, says_kept old.names new.names (names_kept model added old new is come) constraint says.0 says.1, says.2)) posted owed

-- ---- a token

module _ (model : Model) (decisions : List Decision) (tables : List Field) (posted : List Constraint) (old new : Content) (token : TokenName) (lawful : IsLawful model)
    (is : IsJustified model decisions tables posted old) (none : Contains old.tokens token → ⊥)
    (supported : IsSupportedToken model (situation_of decisions (shown old)) token) (comes : TokenComes model token old new) where
  was : IsContent model old
  was = is.is_content

  old_block : (block : TokenBlock) → Contains new.blocks block → Contains old.blocks block
  old_block block there = subst (λ list. Contains list block) comes.blocks there

  new_block : (block : TokenBlock) → Contains old.blocks block → Contains new.blocks block
  new_block block there = subst (λ list. Contains list block) (sym comes.blocks) there

  new_token : (other : TokenName) → Contains old.tokens other → Contains new.tokens other
  new_token = member_kept old.tokens new.tokens token comes.tokens

  part_named : (name : VarName) (other : TokenName) → token ≡ other → IsAbout model (shown new) name → (part : _) → name ≡ Token other part → Contains (names_of comes.added) name
  part_named name other same about part e =
      let base = (subst (IsAbout model (shown new)) e about).1 in
      let slots = token_once model other base.1.0 comes.slot base.1.1 (subst (λ (t : TokenName). HasToken model t comes.slot) same comes.has_token) in
      (comes.parts name).1 (
        part,
        subst (λ (t : TokenName). name ≡ Token t part) (sym same) e,
        (base.0, subst (λ (s : Slot). HasPartBase model s part base.0) slots base.1.2),
      )

  about_named : (name : VarName) → IsAbout model (shown new) name → Contains new.names name
  about_named (Global number) about = named_kept model comes.added old new was comes.variables (Global number) ((was.variables (Global number)).0 about)
  about_named (Token other part) about = elim (member_cases old.tokens new.tokens token comes.tokens other about.0) [
    | inl before ↦ named_kept model comes.added old new was comes.variables (Token other part) ((was.variables (Token other part)).0 (before, about.1))
    | inr same ↦ named_new model comes.added old new was comes.variables (Token other part) (part_named (Token other part) other same about part refl)
  ]
  about_named (Local other rule number) about =
      let stands : StandsOpen model (shown old) other rule number = record {
        block = about.block;
        is_open = old_block about.block about.is_open;
        of_token = about.of_token;
        of_rule = about.of_rule;
        entries = about.entries;
        is_block = about.is_block;
        stands = about.stands;
      } in
      named_kept model comes.added old new was comes.variables (Local other rule number) ((was.variables (Local other rule number)).0 stands)

  named_about : (name : VarName) → Contains new.names name → IsAbout model (shown new) name
  named_about name named = elim (named_cases model comes.added old new was comes.variables name named) [
    | inl before ↦ about_more model (shown old) (shown new) new_token new_block name ((was.variables name).1 before)
    | inr came ↦ (
        let part = (comes.parts name).0 came in
        subst (IsAbout model (shown new)) (sym part.1)
        (member_new old.tokens new.tokens token comes.tokens, (part.2.0, (comes.slot, comes.has_token, part.2.1))))
  ]

  token_content : IsContent model new
  token_content = content_new model comes.added old new was comes.variables (token_fresh model token old new was none comes) lawful
      (pushed_once old.tokens new.tokens token comes.tokens was.tokens_once none)
      (subst (AllPairs (λ one other. one ≢ other)) (sym comes.blocks) was.blocks_once)
      (pushed_all old.tokens new.tokens token comes.tokens (λ t. (slot : Slot) × HasToken model t slot) was.tokens (comes.slot, comes.has_token))
      (subst (All (IsBlockOf model (shown new))) (sym comes.blocks)
      (All-weaker (IsBlockOf model (shown old)) (IsBlockOf model (shown new)) (λ block of. (new_token block.token of.0, of.1)) old.blocks was.blocks))
      (λ name. (about_named name, named_about name))

  pub token_justified : IsJustified model decisions tables posted new
  token_justified =
      let further = further_new model comes.added old new was comes.variables decisions in
      record {
        is_content = token_content;
        above = grown_above model decisions old new token_content (record {
          tokens = λ other there. elim (member_cases old.tokens new.tokens token comes.tokens other there) [
            | inl before ↦ inl before
            | inr same ↦ inr (subst (IsSupportedToken model (situation_of decisions (shown old))) same supported)
          ];
          blocks = λ block there. inl (old_block block there);
          variables = given_cases model decisions comes.added old new was comes.variables;
        }) is.above;
        tokens = λ other there. elim (member_cases old.tokens new.tokens token comes.tokens other there) [
          | inl before ↦ supported_further model _ _ further other (is.tokens other before)
          | inr same ↦ subst (IsSupportedToken model (situation_of decisions (shown new))) same (supported_further model _ _ further token supported)
        ];
        blocks = λ block there. (let opened = is.blocks block (old_block block there) in (opened.0, block_further model _ _ further block opened.0 opened.1));
        in_base = new_in_base model decisions comes.added old new was comes.variables is.in_base;
        fields = is.fields;
        owed = new_owed model decisions comes.added old new was comes.variables posted is.owed;
      }

-- ---- a block

module _ (model : Model) (decisions : List Decision) (tables : List Field) (posted : List Constraint) (old new : Content) (block : TokenBlock) (entries : Entries) (lawful : IsLawful model)
    (is : IsJustified model decisions tables posted old) (none : Contains old.blocks block → ⊥) (there : Contains old.tokens block.token)
    (supported : IsSupportedBlock model (situation_of decisions (shown old)) block entries) (comes : BlockComes model block old new) where
  had : IsContent model old
  had = is.is_content

  old_token : (token : TokenName) → Contains new.tokens token → Contains old.tokens token
  old_token token held = subst (λ list. Contains list token) comes.tokens held

  kept_token : (token : TokenName) → Contains old.tokens token → Contains new.tokens token
  kept_token token held = subst (λ list. Contains list token) (sym comes.tokens) held

  kept_block : (other : TokenBlock) → Contains old.blocks other → Contains new.blocks other
  kept_block = member_kept old.blocks new.blocks block comes.blocks

  stands_named : (token : TokenName) (rule number : ℕ) → StandsOpen model (shown new) token rule number → Contains new.names (Local token rule number)
  stands_named token rule number about = elim (member_cases old.blocks new.blocks block comes.blocks about.block about.is_open) [
    | inl before ↦ (
        let stands : StandsOpen model (shown old) token rule number = record {
          block = about.block;
          is_open = before;
          of_token = about.of_token;
          of_rule = about.of_rule;
          entries = about.entries;
          is_block = about.is_block;
          stands = about.stands;
        } in
        named_kept model comes.added old new had comes.variables (Local token rule number) ((had.variables (Local token rule number)).0 stands))
    | inr same ↦ (
        let stands = at_block model (λ b e. Contains (direct e) (OfLocal number)) about.block block about.entries comes.entries (sym same) about.is_block comes.is_block about.stands in
        let named : Contains (names_of comes.added) (Local block.token block.rule number) = (comes.locals (Local block.token block.rule number)).1 (number, refl, stands) in
        let tokens : block.token ≡ token = (λ i. (same i).token) ∙ about.of_token in
        let rules : block.rule ≡ rule = (λ i. (same i).rule) ∙ about.of_rule in
        named_new model comes.added old new had comes.variables (Local token rule number)
        (subst (Contains (names_of comes.added)) (λ i. Local (tokens i) (rules i) number) named))
  ]

  local_named : (name : VarName) → IsAbout model (shown new) name → Contains new.names name
  local_named (Global number) about = named_kept model comes.added old new had comes.variables (Global number) ((had.variables (Global number)).0 about)
  local_named (Token token part) about =
      named_kept model comes.added old new had comes.variables (Token token part) ((had.variables (Token token part)).0 (old_token token about.0, about.1))
  local_named (Local token rule number) about = stands_named token rule number about

  named_local : (name : VarName) → Contains new.names name → IsAbout model (shown new) name
  named_local name named = elim (named_cases model comes.added old new had comes.variables name named) [
    | inl before ↦ about_more model (shown old) (shown new) kept_token kept_block name ((had.variables name).1 before)
    | inr came ↦ (
        let local = (comes.locals name).0 came in
        let stands : StandsOpen model (shown new) block.token block.rule local.0 = record {
          block = block;
          is_open = member_new old.blocks new.blocks block comes.blocks;
          of_token = refl;
          of_rule = refl;
          entries = comes.entries;
          is_block = comes.is_block;
          stands = local.2;
        } in
        subst (IsAbout model (shown new)) (sym local.1) stands)
  ]

  block_content : IsContent model new
  block_content = content_new model comes.added old new had comes.variables (block_fresh model lawful block old new had none comes) lawful
      (subst (AllPairs (λ one other. one ≢ other)) (sym comes.tokens) had.tokens_once)
      (pushed_once old.blocks new.blocks block comes.blocks had.blocks_once none)
      (subst (All (λ t. (slot : Slot) × HasToken model t slot)) (sym comes.tokens) had.tokens)
      (pushed_all old.blocks new.blocks block comes.blocks (IsBlockOf model (shown new))
      (All-weaker (IsBlockOf model (shown old)) (IsBlockOf model (shown new)) (λ other of. (kept_token other.token of.0, of.1)) old.blocks had.blocks)
      (kept_token block.token there, (comes.entries, comes.is_block)))
      (λ name. (local_named name, named_local name))

  pub block_justified : IsJustified model decisions tables posted new
  block_justified =
      let further = further_new model comes.added old new had comes.variables decisions in
      record {
        is_content = block_content;
        above = grown_above model decisions old new block_content (record {
          tokens = λ token held. inl (old_token token held);
          blocks = λ other held. elim (member_cases old.blocks new.blocks block comes.blocks other held) [
            | inl before ↦ inl before
            | inr same ↦ inr (entries, subst (λ (b : TokenBlock). IsSupportedBlock model (situation_of decisions (shown old)) b entries) same supported)
          ];
          variables = given_cases model decisions comes.added old new had comes.variables;
        }) is.above;
        tokens = λ token held. supported_further model _ _ further token (is.tokens token (old_token token held));
        blocks = λ other held. elim (member_cases old.blocks new.blocks block comes.blocks other held) [
          | inl before ↦ (let opened = is.blocks other before in (opened.0, block_further model _ _ further other opened.0 opened.1))
          | inr same ↦ (
            entries,
            subst (λ (b : TokenBlock). IsSupportedBlock model (situation_of decisions (shown new)) b entries) same
                (block_further model _ _ further block entries supported),
          )
        ];
        in_base = new_in_base model decisions comes.added old new had comes.variables is.in_base;
        fields = is.fields;
        owed = new_owed model decisions comes.added old new had comes.variables posted is.owed;
      }
