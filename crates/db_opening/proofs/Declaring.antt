-- The globals that come to a store, and the store that has begun with them.
use Rattle.std.proofs.Common.{◌≡◌, ℕ, List, [], ◌∷◌, ◌++◌, length, map, Ok, Err, Some, ◌⊎◌, inl, inr, refl, sym, ap, ◌∙◌, subst, arith}
use Rattle.std.specs.Prelude.{All, Contains, Result, slice_get}
use Rattle.std.proofs.lemmas.List.Elements.{All-nil}
use Rattle.domain_core.specs.Domain.{Domain}
use Rattle.eu_name.specs.declared.name.TokenName.{TokenName}
use Rattle.eu_name.specs.declared.name.VarName.{VarName}
use Rattle.eu_name.specs.declared.name.VarName.TheVariants as name
use Rattle.model_core.specs.declared.model.Model.{Model}
use Rattle.model_core.specs.declared.rule.Slot.{Slot}
use Rattle.model_core.specs.declared.variable.Base.{Base}
use Rattle.model_core.specs.declared.variable.Base.TheVariants.{Given, Void}
use Rattle.model_core.specs.declared.variable.VarDecl.{VarDecl}
use Rattle.model_core.specs.Blocks.{TokenBlock}
use Rattle.model_core.specs.State.{Gives, IsAbout, IsBlockOf}
use Rattle.model_core.specs.Tokens.{HasToken}
use Rattle.model_core.specs.Variables.{HasBase}
use Rattle.constraint_net.specs.declared.NetFault.{NetFault}
use Rattle.constraint_net.specs.declared.NetFault.TheVariants.{Collapsed, Memory}
use Rattle.constraint_net.specs.declared.constraint.Constraint.{Constraint}
use Rattle.token_store.specs.Tokens.{TokenPast, tokens_now, token_names}
use Rattle.eu_name.proofs.Members.{get_below, get_from_contains, get_within, get_all, get_same}
use Rattle.eu_name.proofs.Ordered.{contains_none}
use Rattle.db_refine.specs.Claims.{AreFieldsOf}
use Rattle.model_core.specs.Content.{Content, shown, IsContent}
use Rattle.db_refine.specs.Growth.{LeaveNothing}
use Rattle.db_refine.proofs.Owing.{no_void}
use Rattle.db_refine.specs.Progress.{IsJustified}
use Rattle.db_refine.proofs.Justifying.{globals_justified}
use Rattle.eu_name.proofs.Places.{contains_map, get_front, contains_unmap}
use Rattle.db_store.specs.Keys.{named_variable, named_block}
use Rattle.db_store.specs.Stores.{Stored, snapshot_of, IsSnapshot}
use Rattle.db_store.specs.declared.key.OpenBlock.{OpenBlock}
use Rattle.db_store.specs.declared.key.VarKey.{VarKey}
use Rattle.db_store.specs.declared.key.VarKey.TheVariants.{Global}
use Rattle.db_store.proofs.Lists.{unmapped}
use Rattle.db_store.proofs.Naming.{names_are_once, gives_by_number}
use Rattle.db_posting.specs.Origins.{content_now}
use Rattle.db_posting.specs.Tables.{HaveTables, OnlyTables}
use Rattle.db_opening.specs.Begun.{IsBegun}
use Rattle.db_opening.specs.Bringing.{KeyDomain, BringsKeys, Brings}
use Rattle.db_opening.proofs.Bringing.{key_of, domain_of, brings_nothing, brings_joined, fails_as}
use Rattle.db_opening.proofs.Lists.{get_last, push_cases}
use Rattle.db_opening.specs.Beginning.{WantsGlobal, IsBare, BeginsGlobals}

-- ---- one after another

pub no_globals : (stored : Stored) → BringsKeys (WantsGlobal []) stored stored
no_globals stored = brings_nothing (WantsGlobal []) stored (λ key base wants. absurd (let none = wants.declared in cc))

-- the variable is the global of this number, with its base
abbrev pub is_global : ℕ → VarDecl → VarKey → Base → Type 0
is_global number variable key base = (key ≡ Global number) × (base ≡ variable.base)

module _ (before : List VarDecl) (variable : VarDecl) (number : ℕ) (long : length before ≡ number) where
  last_or_before : (key : VarKey) (base : Base) → WantsGlobal (before ++ variable ∷ []) key base
      → ((of : Base) × WantsGlobal before key of) ⊎ ((of : Base) × is_global number variable key of)
  last_or_before key base wants = elim (push_cases before variable wants.number wants.variable wants.declared) [
    | inl earlier ↦ inl (base, record { number = wants.number; variable = wants.variable; is = wants.is; declared = earlier; is_base = wants.is_base })
    | inr last ↦ inr (variable.base, (wants.is ∙ ap Global (last.0 ∙ long), refl))
  ]

  pub globals_more : (old mid new : Stored) → BringsKeys (WantsGlobal before) old mid → BringsKeys (is_global number variable) mid new
      → BringsKeys (WantsGlobal (before ++ variable ∷ [])) old new
  globals_more old mid new one other =
      brings_joined (WantsGlobal before) (is_global number variable) (WantsGlobal (before ++ variable ∷ []))
      (λ key base wants. record {
        number = wants.number;
        variable = wants.variable;
        is = wants.is;
        declared = get_front before (variable ∷ []) wants.number wants.variable wants.declared;
        is_base = wants.is_base;
      })
      (λ key base is. record {
        number = number;
        variable = variable;
        is = is.0;
        declared = subst (λ (n : ℕ). slice_get (before ++ variable ∷ []) n ≡ Some variable) long (get_last before variable);
        is_base = is.1;
      })
      last_or_before old mid new one other

pub global_fails : (globals : List VarDecl) (variable : VarDecl) (number : ℕ) → slice_get globals number ≡ Some variable → (old mid new : Stored) (fault : NetFault)
    → Brings (is_global number variable) mid (Err fault) new → Brings (WantsGlobal globals) old (Err fault) new
global_fails globals variable number at old mid new fault fails =
    fails_as (is_global number variable) (WantsGlobal globals) (λ key base is. record { number = number; variable = variable; is = is.0; declared = at; is_base = is.1 }) old mid new fault fails

-- ---- a store with the globals alone

-- nothing but these variables is in the store, which are the globals with their bases
pub record HasGlobals (model : Model) (stored : Stored) : Type 0 where
  pub past : stored.past ≡ [] ∷ []
  pub blocks : stored.blocks ≡ []
  pub constraints : stored.net.constraints ≡ []
  pub added : List KeyDomain
  pub keys : stored.keys ≡ map key_of added
  pub domains : stored.net.domains ≡ map domain_of added
  pub each : All (λ each. WantsGlobal model.problem.globals each.key (Given each.domain)) added
  pub all : (key : VarKey) (base : Base) → WantsGlobal model.problem.globals key base → Contains stored.keys key

pub has_globals : (model : Model) (old mid new : Stored) → IsBare old → OnlyTables old mid → BringsKeys (WantsGlobal model.problem.globals) mid new → HasGlobals model new
has_globals model old mid new bare only brings = record {
  past = brings.rest.past ∙ ap (λ (stored : Stored). stored.past) only ∙ bare.past;
  blocks = brings.rest.blocks ∙ ap (λ (stored : Stored). stored.blocks) only ∙ bare.blocks;
  constraints = brings.rest.constraints ∙ ap (λ (stored : Stored). stored.net.constraints) only ∙ bare.constraints;
  added = brings.added;
  keys = brings.keys ∙ ap (λ (list : List VarKey). list ++ map key_of brings.added) (ap (λ (stored : Stored). stored.keys) only ∙ bare.keys);
  domains = brings.domains ∙ ap (λ (list : List Domain). list ++ map domain_of brings.added) (ap (λ (stored : Stored). stored.net.domains) only ∙ bare.domains);
  each = brings.each;
  all = brings.all;
}

module _ (model : Model) (stored : Stored) (sound : IsSnapshot (snapshot_of stored)) (has : HasGlobals model stored) where
  abbrev content : Content
  content = content_now stored

  no_tokens : content.tokens ≡ []
  no_tokens = ap (λ (past : TokenPast). token_names (tokens_now past)) has.past

  no_blocks : content.blocks ≡ []
  no_blocks = ap (λ (list : List OpenBlock). map (named_block content.tokens) list) has.blocks

  no_token : (token : TokenName) → Contains content.tokens token → ⊥
  no_token token there = contains_none token (subst (λ (list : List TokenName). Contains list token) no_tokens there)

  -- the variable of each number is a global, with its base
  global_at : (k : ℕ) (key : VarKey) (domain : Domain) → slice_get stored.keys k ≡ Some key → slice_get stored.net.domains k ≡ Some domain
      → WantsGlobal model.problem.globals key (Given domain)
  global_at k key domain at given =
      let one = unmapped key_of has.added k key (subst (λ (list : List VarKey). slice_get list k ≡ Some key) has.keys at) in
      let other = unmapped domain_of has.added k domain (subst (λ (list : List Domain). slice_get list k ≡ Some domain) has.domains given) in
      let same : one.0 ≡ other.0 = get_same has.added k one.0 other.0 one.1 other.1 in
      let wants = get_all (λ (each : KeyDomain). WantsGlobal model.problem.globals each.key (Given each.domain)) has.added k one.0 has.each one.1 in
      let domains : one.0.domain ≡ domain = ap domain_of same ∙ other.2 in
      subst (λ (d : Domain). WantsGlobal model.problem.globals key (Given d)) domains
      (subst (λ (one_key : VarKey). WantsGlobal model.problem.globals one_key (Given one.0.domain)) one.2 wants)

  about_named : (one : VarName) → IsAbout model (shown content) one → Contains content.names one
  about_named (name.Global number) below =
      let declared = get_within model.problem.globals number below in
      contains_map (named_variable content.tokens) stored.keys (Global number)
      (has.all (Global number) declared.0.base (record { number = number; variable = declared.0; is = refl; declared = declared.1; is_base = refl }))
  about_named (name.Token token part) about = absurd (no_token token about.0)
  about_named (name.Local token rule number) about =
      absurd (contains_none about.block (subst (λ (list : List TokenBlock). Contains list about.block) no_blocks about.is_open))

  named_about : (one : VarName) → Contains content.names one → IsAbout model (shown content) one
  named_about one there =
      let from = contains_unmap (named_variable content.tokens) stored.keys one there in
      let at = get_from_contains stored.keys from.0 from.1 in
      let count = sound.count in
      let below = get_below stored.keys at.0 from.0 at.1 in
      let given = get_within stored.net.domains at.0 (omega (arith, count, below)) in
      let wants = global_at at.0 from.0 given.0 at.1 given.1 in
      let is : name.Global wants.number ≡ one = sym (ap (named_variable content.tokens) wants.is) ∙ from.2 in
      subst (IsAbout model (shown content)) is (get_below model.problem.globals wants.number wants.variable wants.declared)

  is_content : IsContent model content
  is_content =
      let once = names_are_once (snapshot_of stored) sound in
      record {
        tokens_once = once.tokens;
        blocks_once = once.blocks;
        names_once = once.names;
        count = once.count;
        tokens = subst (All (λ token. (slot : Slot) × HasToken model token slot)) (sym no_tokens) (All-nil (λ (token : TokenName). (slot : Slot) × HasToken model token slot));
        blocks = subst (All (IsBlockOf model (shown content))) (sym no_blocks) (All-nil (IsBlockOf model (shown content)));
        variables = λ one. (about_named one, named_about one);
        domains = sound.are;
      }

  gives_base : (one : VarName) (domain : Domain) → Gives (shown content) one domain → HasBase model one (Given domain)
  gives_base one domain gives =
      let at = (gives_by_number content one domain).0 gives in
      let key = unmapped (named_variable content.tokens) stored.keys at.0 one at.1 in
      let wants = global_at at.0 key.0 domain key.1 at.2 in
      let is : name.Global wants.number ≡ one = sym (ap (named_variable content.tokens) wants.is) ∙ key.2 in
      subst (λ (v : VarName). HasBase model v (Given domain)) is (wants.variable, wants.declared, wants.is_base)

  pub globals_begun : AreFieldsOf model stored.net.tables → IsBegun model stored
  globals_begun fields = record {
    justified = subst (λ (posted : List Constraint). IsJustified model [] stored.net.tables posted content) (sym has.constraints)
        (globals_justified model stored.net.tables content is_content fields no_tokens no_blocks gives_base);
    states = record {
      states = λ place token state at stated.
          absurd (let none = subst (λ (list : List TokenName). slice_get list place ≡ Some token) no_tokens at in cc);
      rejected = λ token rejected taken. contains_none _ rejected;
    };
    preds = λ place token slot at has_token.
        absurd (let none = subst (λ (list : List TokenName). slice_get list place ≡ Some token) no_tokens at in cc);
    no_blocks = has.blocks;
    of_tokens = λ claim of. absurd (no_token of.token of.there);
  }

-- a global with a void base leaves nothing
global_leaves : (model : Model) (key : VarKey) → WantsGlobal model.problem.globals key Void → LeaveNothing model []
global_leaves model key wants = λ state fit.
    no_void model [] state (name.Global wants.number) fit (get_below model.problem.globals wants.number wants.variable wants.declared) (wants.variable, wants.declared, wants.is_base)

pub globals_begin : (model : Model) (old mid new : Stored) → IsBare old → OnlyTables old mid → AreFieldsOf model mid.net.tables → HaveTables model mid.net.tables
    → IsSnapshot (snapshot_of new) → (result : Result (Unit {0}) NetFault) → Brings (WantsGlobal model.problem.globals) mid result new → BeginsGlobals model result new
globals_begin model old mid new bare only fields have sound (Ok done) brings = (
  globals_begun model new sound (has_globals model old mid new bare only brings) (subst (AreFieldsOf model) (sym brings.rest.tables) fields),
  subst (HaveTables model) (sym brings.rest.tables) have,
)
globals_begin model old mid new bare only fields have sound (Err Collapsed) fails = global_leaves model fails.0 fails.1
globals_begin model old mid new bare only fields have sound (Err Memory) fails = tt
