-- What opening a block asks for and leaves.
use Rattle.std.specs.Prelude.{◌≡◌, List, [], ◌∷◌, ◌++◌, map, ⊤, All, Contains, Result, Ok, Err}
use Rattle.eu_name.specs.declared.name.VarName.{VarName}
use Rattle.eu_name.specs.declared.name.VarName.TheVariants.{Local}
use Rattle.model_core.specs.declared.decision.Decision.{Decision}
use Rattle.model_core.specs.declared.model.Model.{Model}
use Rattle.model_core.specs.declared.rule.Turn.{Turn}
use Rattle.model_core.specs.declared.variable.Base.{Base}
use Rattle.model_core.specs.declared.variable.Base.TheVariants.{Given, Void}
use Rattle.model_core.specs.Blocks.{TokenBlock, IsBlock, direct, block_at}
use Rattle.model_core.specs.Entries.{Entries}
use Rattle.rule_engine.specs.Lists.{locals_in}
use Rattle.plan_defs.specs.Situations.{situation_of}
use Rattle.plan_defs.specs.Support.{IsSupportedBlock}
use Rattle.model_core.specs.Content.{Content, shown}
use Rattle.token_store.specs.Tokens.{tokens_now, token_names}
use Rattle.db_store.specs.declared.key.OpenBlock.{OpenBlock}
use Rattle.db_store.specs.declared.key.VarKey.{VarKey}
use Rattle.db_store.specs.Stores.{Stored}
use Rattle.constraint_net.specs.declared.NetFault.{NetFault}
use Rattle.constraint_net.specs.declared.NetFault.TheVariants.{Collapsed, Memory}
use Rattle.db_opening.specs.Bringing.{KeyDomain}
use Rattle.db_posting.specs.Wanted.{WantsOfBlock}

-- the names are those of the locals that stand directly in the block
abbrev pub AreLocalsOf : Model → TokenBlock → List VarName → Type 0
AreLocalsOf model block locals =
    (entries : Entries) → IsBlock model block entries → locals ≡ map (Local block.token block.rule) (locals_in (direct entries))

-- the decisions ask for the block, whose branch stands in a block that is open
pub record AskForBlock (model : Model) (content : Content) (block : TokenBlock) (decisions : List Decision) : Type 0 where
  pub entries : Entries
  pub supported : IsSupportedBlock model (situation_of decisions (shown content)) block entries
  pub behind : (front : List Turn) (turn : Turn) → block.path ≡ front ++ turn ∷ []
      → Contains content.blocks (block_at block.token block.rule front)

-- the block, which wasn't open, stands behind the others, and its locals behind the other variables, each with its base
pub record OpensBlock (model : Model) (block : OpenBlock) (old new : Stored) : Type 0 where
  pub fresh : Contains old.blocks block → ⊥
  pub blocks : new.blocks ≡ old.blocks ++ block ∷ []
  pub added : List KeyDomain
  pub keys : new.keys ≡ old.keys ++ map (λ each. each.key) added
  pub domains : new.net.domains ≡ old.net.domains ++ map (λ each. each.domain) added
  pub each : All (λ each. WantsOfBlock model (token_names (tokens_now old.past)) block each.key (Given each.domain)) added
  pub all : (key : VarKey) (base : Base) → WantsOfBlock model (token_names (tokens_now old.past)) block key base → Contains new.keys key
  pub past : new.past ≡ old.past
  pub watches : new.watches ≡ old.watches
  pub tables : new.net.tables ≡ old.net.tables
  pub constraints : new.net.constraints ≡ old.net.constraints
  pub changed : new.net.changed ≡ old.net.changed

-- what opening it answers and leaves: a local of it may have a void base
abbrev pub OpensOrFails : Model → OpenBlock → Stored → Result (Unit {0}) NetFault → Stored → Type 0
OpensOrFails model block old (Ok done) new = OpensBlock model block old new
OpensOrFails model block old (Err Collapsed) new =
    (key : VarKey) × WantsOfBlock model (token_names (tokens_now old.past)) block key Void
OpensOrFails model block old (Err Memory) new = ⊤
