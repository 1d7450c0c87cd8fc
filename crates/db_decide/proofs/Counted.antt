-- What begins to count with a token that is taken.
use Rattle.std.proofs.Common.{◌≡◌, ℕ, List, [], ◌∷◌, ◌++◌, Some, ◌⊎◌, inl, inr, sym, ap, ◌∙◌, subst, arith}
use Rattle.std.specs.Prelude.{Contains, slice_get}
use Rattle.std.specs.List.{AllZip}
use Rattle.eu_name.specs.declared.name.Part.{Part}
use Rattle.eu_name.specs.declared.name.TokenName.{TokenName}
use Rattle.eu_name.specs.declared.name.VarName.{VarName}
use Rattle.eu_name.specs.declared.name.VarName.TheVariants as variables
use Rattle.model_core.specs.declared.decision.Decision.{Decision}
use Rattle.model_core.specs.declared.item.Item.{Item}
use Rattle.model_core.specs.declared.item.Item.TheVariants.{Constraint, Relation}
use Rattle.model_core.specs.declared.item.Term.{Term}
use Rattle.model_core.specs.declared.item.Term.TheVariants.{Lit, Here, Slot, Local, Global, Root}
use Rattle.model_core.specs.declared.model.Model.{Model}
use Rattle.model_core.specs.Blocks.{TokenBlock, IsBlock, OfBranch}
use Rattle.model_core.specs.Decided.{IsTaken}
use Rattle.model_core.specs.Entries.{Entries}
use Rattle.model_core.specs.Lawful.{IsLawful}
use Rattle.model_core.specs.Tokens.{IsRejectable, root_token, slot_token}
use Rattle.constraint_net.specs.declared.constraint.Constraint as posts
use Rattle.plan_defs.specs.Claims.{Claim, ItemSays, IsOfProblem, IsOfBlock}
use Rattle.plan_defs.specs.Terms.{Context, InProblem, InRule, Argument, Variable, Means, BelongsTo}
use Rattle.eu_name.proofs.Members.{get_from_contains}
use Rattle.eu_name.proofs.Ordered.{contains_head, contains_later, contains_cases, contains_none}
use Rattle.db_refine.specs.Claims.{IsPostedIn}
use Rattle.model_core.specs.Content.{Content, shown, IsContent}
use Rattle.db_refine.specs.Coming.{TakesToken, BeginsToCount, ClaimBeginsToCount}
use Rattle.db_refine.specs.Progress.{MissesNothing, IsUnfolded, IsDue, AreBranchesFollowed}
use Rattle.db_refine.proofs.Counting.{opens_cases}
use Rattle.db_refine.proofs.Naming.{named_there}
use Rattle.eu_name.proofs.Places.{no_split}
use Rattle.db_decide.specs.RootItems.{IsPartOfRoot, IsAboutRoot, SaysAnywhere}

-- what stands there isn't in a rule of the token
abbrev IsElsewhere : TokenName → Context → Type 0
IsElsewhere token InProblem = Unit {0}
IsElsewhere token (InRule owner rule) = owner ≡ token → ⊥

module _ (token : TokenName) (root : token.steps ≡ []) where
  -- a term that means a part of the root
  abbrev IsOfIt : Term → VarName → Type 0
  IsOfIt term name = IsPartOfRoot token.root term × ((part : Part) × (name ≡ variables.Token token part))

  owned : (name : VarName) (owner : TokenName) (part : Part) → name ≡ variables.Token owner part → BelongsTo name token → owner ≡ token
  owned name owner part is belongs = subst (λ (n : VarName). BelongsTo n token) is belongs

  slot_apart : (owner : TokenName) (rule number : ℕ) → slot_token owner rule number ≡ token → ⊥
  slot_apart owner rule number same =
      no_split owner.steps (record { rule = rule; slot = number }) [] (sym root ∙ sym (ap (λ (t : TokenName). t.steps) same))

  of_root : (context : Context) → IsElsewhere token context → (term : Term) (name : VarName) → Means context term (Variable name) → BelongsTo name token → IsOfIt term name
  of_root context away (Lit value) name means belongs = absurd (cc)
  of_root context away (Global number) name means belongs =
      let is : name ≡ variables.Global number = cc in
      absurd (subst (λ (n : VarName). BelongsTo n token) is belongs)
  of_root context away (Root number part) name means belongs =
      let is : name ≡ variables.Token (root_token number) part = cc in
      let same = owned name (root_token number) part is belongs in
      (ap (λ (t : TokenName). t.root) same, (part, is ∙ ap (λ (t : TokenName). variables.Token t part) same))
  of_root (InRule owner rule) away (Here part) name means belongs =
      let is : name ≡ variables.Token owner part = cc in
      absurd (away (owned name owner part is belongs))
  of_root (InRule owner rule) away (Slot number part) name means belongs =
      let is : name ≡ variables.Token (slot_token owner rule number) part = cc in
      absurd (slot_apart owner rule number (owned name (slot_token owner rule number) part is belongs))
  of_root (InRule owner rule) away (Local number) name means belongs =
      let is : name ≡ variables.Local owner rule number = cc in
      absurd (away (subst (λ (n : VarName). BelongsTo n token) is belongs))
  of_root InProblem away (Here part) name means belongs = absurd means
  of_root InProblem away (Slot number part) name means belongs = absurd means
  of_root InProblem away (Local number) name means belongs = absurd means

  -- the term that means a variable
  meant_by : (context : Context) (terms : List Term) (arguments : List Argument) → AllZip (Means context) terms arguments → (name : VarName) → Contains arguments (Variable name)
      → (term : Term) × Contains terms term × Means context term (Variable name)
  meant_by context [] [] zip name there = absurd (contains_none (Variable name) there)
  meant_by context [] (argument ∷ arguments) zip name there = absurd zip
  meant_by context (term ∷ terms) [] zip name there = absurd zip
  meant_by context (term ∷ terms) (argument ∷ arguments) zip name there = elim (contains_cases argument (Variable name) arguments there) [
    | inl same ↦ (term, contains_head term terms, subst (Means context term) same zip.0)
    | inr later ↦ (let rest = meant_by context terms arguments zip.1 name later in (rest.0, contains_later term rest.0 terms rest.1, rest.2))
  ]

module _ (model : Model) (decisions : List Decision) (decision : Decision) (token : TokenName) (only : (other : TokenName) → TakesToken decision other → other ≡ token)
    (posted : List posts.Constraint) (content : Content) (unfolded : ℕ) (due : List ℕ) (misses : MissesNothing model decisions posted content unfolded due)
    (others : (block : TokenBlock) → IsUnfolded content unfolded block → block.token ≡ token → ⊥) where
  abbrev longer : List Decision
  longer = decisions ++ decision ∷ []

  -- the variable belongs to the token, which is a rejectable root
  begins_with : (name : VarName) → BeginsToCount model decision name → BelongsTo name token × IsRejectable model token
  begins_with name (owner, belongs, rejectable, takes) = (
    subst (BelongsTo name) (only owner takes) belongs,
    subst (IsRejectable model) (only owner takes) rejectable,
  )

  -- the item is about the root, or says the claim before
  about_cases : (context : Context) → IsElsewhere token context → (item : Item) (claim : Claim) → ItemSays model (IsTaken longer) context item claim
      → ClaimBeginsToCount model decision claim → IsAboutRoot token.root item ⊎ ItemSays model (IsTaken decisions) context item claim
  about_cases context away (Constraint kind terms) claim says (name, there, begins) =
      let begun = begins_with name begins in
      let root = begun.1.0 in
      let term = meant_by token root context terms claim.arguments says.means name there in
      inl (term.0, term.1, (of_root token root context away term.0 name term.2 begun.0).0)
  about_cases (InRule owner rule) away (Relation relation slot) claim says begins = inr says
  about_cases InProblem away (Relation relation slot) claim says begins = absurd says

  module _ (begun : IsRejectable model token → (claim : Claim) → SaysAnywhere model longer token.root content unfolded claim → IsPostedIn content.names posted claim) where
    pub problem_begun : (claim : Claim) → ClaimBeginsToCount model decision claim → IsOfProblem model (IsTaken longer) claim → IsPostedIn content.names posted claim
    problem_begun claim begins p = elim (about_cases InProblem tt p.item claim p.says begins) [
      | inl about ↦ begun (begins_with begins.0 begins.2).1 claim (inl (p.item, p.stands, record { about = about; says = p.says }))
      | inr before ↦ misses.of_problem claim (record { item = p.item; stands = p.stands; says = before })
    ]

    pub blocks_begun : (claim : Claim) → ClaimBeginsToCount model decision claim → IsOfBlock model (IsTaken longer) (IsUnfolded content unfolded) claim
        → IsPostedIn content.names posted claim
    blocks_begun claim begins p = elim (about_cases (InRule p.block.token p.block.rule) (others p.block p.is_open) p.item claim p.says begins) [
      | inl about ↦ begun (begins_with begins.0 begins.2).1 claim (inr (
        p.block,
        p.is_open,
        record {
          entries = p.entries;
          has_block = p.has_block;
          item = p.item;
          stands = p.stands;
          says = record { about = about; says = p.says };
        },
      ))
      | inr before ↦ misses.of_blocks claim
          (record { block = p.block; entries = p.entries; item = p.item; is_open = p.is_open; has_block = p.has_block; stands = p.stands; says = before })
    ]

  module _ (lawful : IsLawful model) (is : IsContent model content)
      (parts : (part : Part) (number : ℕ) → slice_get content.names number ≡ Some (variables.Token token part) → Contains due number) where
    term_due : (block : TokenBlock) → IsUnfolded content unfolded block → (term : Term) (name : VarName)
        → ((one : VarName) → Means (InRule block.token block.rule) term (Variable one) → Contains content.names one)
        → Means (InRule block.token block.rule) term (Variable name) → BeginsToCount model decision name → IsDue content due name
    term_due block is_open term name there means begins =
        let begun = begins_with name begins in
        let part = (of_root token begun.1.0 (InRule block.token block.rule) (others block is_open) term name means begun.0).1 in
        let at = get_from_contains content.names name (there name means) in
        (at.0, at.1, parts part.0 at.0 (subst (λ (n : VarName). slice_get content.names at.0 ≡ Some n) part.1 at.1))

    pub branches_begun : (block : TokenBlock) (entries : Entries) → IsUnfolded content unfolded block → IsBlock model block entries
        → AreBranchesFollowed model longer content due block entries
    branches_begun block entries is_open is_block place guard then otherwise side stands opens =
        let there = named_there model decisions posted content unfolded due lawful is misses is_open.0 block entries is_open.1 (let below = is_open.2 in omega (arith, below)) is_block
        (λ slot there. misses.slots block entries slot is_open is_block there) place (OfBranch guard then otherwise) stands in
        elim (opens_cases model decisions decision (shown content) block guard side opens) [
          | inl before ↦ misses.branches block entries is_open is_block place guard then otherwise side stands before
          | inr (name, inl means, begins) ↦ inr (name, inl means, term_due block is_open _ name there.0 means begins)
          | inr (name, inr means, begins) ↦ inr (name, inr means, term_due block is_open _ name there.1 means begins)
        ]
