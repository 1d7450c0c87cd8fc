-- In a content that has grown, what is supported is there.
use Rattle.std.proofs.Common.{◌≡◌, ℕ, List, [], ◌∷◌, ◌++◌, refl, sym, ◌∙◌, subst, append_assoc, append-nil}
use Rattle.std.specs.Prelude.{Contains, ⊤}
use Rattle.eu_name.specs.declared.name.Step.{Step}
use Rattle.eu_name.specs.declared.name.TokenName.{TokenName}
use Rattle.model_core.specs.declared.decision.Decision.{Decision}
use Rattle.model_core.specs.declared.model.Model.{Model}
use Rattle.model_core.specs.declared.rule.Turn.{Turn}
use Rattle.model_core.specs.Blocks.{TokenBlock, IsBlock, Follows, chosen, block_at}
use Rattle.model_core.specs.Entries.{Entries}
use Rattle.model_core.specs.Numbers.{turned}
use Rattle.plan_defs.specs.Situations.{situation_of}
use Rattle.plan_defs.specs.Support.{Opens, IsOpen, IsSupportedToken, front_token}
use Rattle.plan_defs.specs.Terms.{InRule}
use Rattle.plan_defs.proofs.Lower.{HasBlock-map}
use Rattle.model_core.specs.Content.{Content, shown}
use Rattle.db_refine.specs.Growth.{HasGrown}
use Rattle.db_refine.specs.GrowthLaws.{HasAllSupported}
use Rattle.model_core.proofs.Blocks.{Follows-push}

module _ (model : Model) (decisions : List Decision) (content : Content) (grown : HasGrown model decisions content) where
  -- from an open block on, the guards lead to open blocks
  opened : (token : TokenName) (rule : ℕ) (done path : List Turn) (entries block : Entries)
      → Contains content.blocks (block_at token rule done) → IsBlock model (block_at token rule done) entries
      → Follows (Opens model (situation_of decisions (shown content)) (InRule token rule)) entries path block
      → Contains content.blocks (block_at token rule (done ++ path))
  opened token rule done [] entries block there is way = subst (λ p. Contains content.blocks (block_at token rule p)) (sym (append-nil done)) there
  opened token rule done (turn ∷ path) entries block there is way =
      let side = turn.side in
      let next = grown.branches (block_at token rule done) entries turn.entry way.0 way.1.0 way.1.1 side there is way.1.2.0 way.1.2.1.0 in
      let is_next : IsBlock model (block_at token rule (turned done turn.entry side)) (chosen side way.1.0 way.1.1) = record {
        slot = is.slot;
        has_token = is.has_token;
        rule = is.rule;
        has_rule = is.has_rule;
        way = Follows-push (λ guard side. ⊤) is.rule.top done turn.entry side entries way.0 way.1.0 way.1.1 is.way way.1.2.0 tt;
      } in
      subst (λ p. Contains content.blocks (block_at token rule p)) (append_assoc done (turn ∷ []) path)
      (opened token rule (turned done turn.entry side) path (chosen side way.1.0 way.1.1) block next is_next way.1.2.1.1)

  open_there : (block : TokenBlock) (entries : Entries) → Contains content.tokens block.token
      → IsOpen model (situation_of decisions (shown content)) block entries → Contains content.blocks block
  open_there block entries there p =
      let top : IsBlock model (block_at block.token block.rule []) p.has_block.rule.top = record {
        slot = p.has_block.slot;
        has_token = p.has_block.has_token;
        rule = p.has_block.rule;
        has_rule = p.has_block.has_rule;
        way = refl;
      } in
      opened block.token block.rule [] block.path p.has_block.rule.top entries
      (grown.rules block.token block.rule p.has_block.rule.top there p.activated top) top p.has_block.way

  -- from a front of a supported name that is there to all of it
  reached : (token : TokenName) → IsSupportedToken model (situation_of decisions (shown content)) token
      → (front back : List Step) → token.steps ≡ front ++ back → Contains content.tokens (front_token token front) → Contains content.tokens token
  reached token p front [] e there =
      subst (λ steps. Contains content.tokens (front_token token steps)) (sym (append-nil front) ∙ sym e) there
  reached token p front (step ∷ back) e there =
      let asked = p.asked front step back e in
      let block : TokenBlock = record { token = front_token token front; rule = step.rule; path = asked.path } in
      let next = grown.slots block asked.entries step.slot (open_there block asked.entries there asked.is_open)
      (HasBlock-map model _ _ (λ guard side opens. tt) block asked.entries asked.is_open.has_block) asked.stands in
      reached token p (front ++ step ∷ []) back (e ∙ sym (append_assoc front (step ∷ []) back)) next

  supported_there : (token : TokenName) → IsSupportedToken model (situation_of decisions (shown content)) token → Contains content.tokens token
  supported_there token p = reached token p [] token.steps refl (grown.roots token.root p.root p.is_root)

  pub has_all : HasAllSupported model decisions content
  has_all = record {
    tokens = supported_there;
    blocks = λ block entries p. open_there block entries (supported_there block.token p.supported) p.is_open;
  }
