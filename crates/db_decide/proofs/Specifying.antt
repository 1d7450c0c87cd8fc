-- A variable that is limited to the value that is specified.
use Rattle.std.proofs.Common.{◌≡◌, ℕ, ℤ, List, [], ◌∷◌, ◌++◌, length, Some, inl, inr, refl, sym, ap, ◌∙◌, subst, arith}
use Rattle.std.specs.Prelude.{Contains, slice_get, slice_set}
use Rattle.std.proofs.lemmas.Int.{ints}
use Rattle.std.proofs.lemmas.List.Elements.{Contains-push}
use Rattle.std.proofs.lemmas.Option.{get_or_from_slice_get}
use Rattle.domain_core.specs.Domain.{Domain, Range, Has, IsDomain, IsValue}
use Rattle.domain_core.specs.Narrowing.{Keeps}
use Rattle.domain_core.specs.declared.Change.{Change}
use Rattle.domain_core.specs.declared.Change.TheVariants.{Same, Smaller, Empty}
use Rattle.domain_core.proofs.Words.{has_value}
use Rattle.eu_name.specs.declared.name.TokenName.{TokenName}
use Rattle.eu_name.specs.declared.name.VarName.{VarName}
use Rattle.model_core.specs.declared.decision.Decision.{Decision}
use Rattle.model_core.specs.declared.decision.Decision.TheVariants.{Specify}
use Rattle.model_core.specs.declared.model.Model.{Model}
use Rattle.narrow_core.specs.declared.field.Field.{Field}
use Rattle.constraint_net.specs.Arguments.{domain_of}
use Rattle.constraint_net.specs.Calls.{GoesDown, Notes}
use Rattle.constraint_net.specs.Limits.{LimitsAt}
use Rattle.constraint_net.specs.Networks.{Network}
use Rattle.constraint_net.specs.declared.constraint.Constraint.{Constraint}
use Rattle.constraint_net.specs.declared.constraint.NetArg.TheVariants.{Var}
use Rattle.eu_name.proofs.Members.{get_below, get_within, get_all}
use Rattle.eu_name.proofs.Ordered.{contains_none}
use Rattle.model_core.specs.Content.{Content}
use Rattle.db_refine.specs.Growth.{LeaveNothing}
use Rattle.db_refine.specs.GrowthLaws.{with_domains}
use Rattle.db_refine.specs.Coming.{TakesToken}
use Rattle.db_refine.specs.ProgressLaws.{LimitJustifies}
use Rattle.db_refine.specs.Progress.{IsJustified, MissesNothing}
use Rattle.db_refine.proofs.Falling.{fallen_below}
use Rattle.db_refine.proofs.Granting.{limited}
use Rattle.db_refine.proofs.Justifying.{longer_justified, specifying_justified}
use Rattle.db_refine.proofs.Lessening.{falling_misses}
use Rattle.db_store.specs.Puts.{ChangesNet}
use Rattle.db_store.specs.Stores.{Stored, snapshot_of}
use Rattle.db_posting.specs.Origins.{content_now}
use Rattle.db_posting.specs.Underway.{IsStoreUnderway}
use Rattle.db_decide.specs.TakingUp.{MayFollow, IsDueAfter}
use Rattle.db_decide.proofs.Longer.{DecidesOf, taken_underway, quiet_taken_up}
use Rattle.db_decide.proofs.Stating.{quiet_states}

left_justified : (model : Model) (decisions : List Decision) (tables : List Field) (posted : List Constraint) (content : Content) (change : Change) → (change ≡ Empty → ⊥)
    → LimitJustifies model decisions tables posted content change → IsJustified model decisions tables posted content
left_justified model decisions tables posted content Same some is = is
left_justified model decisions tables posted content Smaller some is = is
left_justified model decisions tables posted content Empty some is = absurd (some refl)

-- the domain to which it is limited has the value alone
pub limits_to : (old new : List Domain) (number : ℕ) (only : Domain) (value cast : ℤ) → cast ≡ value → only ≡ Range cast cast → (change : Change)
    → LimitsAt old number only change new → LimitsAt old number (Range value value) change new
limits_to old new number only value cast same is change limits =
    subst (λ (to : Domain). LimitsAt old number to change new) (is ∙ ap (λ (v : ℤ). Range v v) same) limits

takes_none : (name : VarName) (value : ℤ) (token : TokenName) → TakesToken (Specify name value) token → ⊥
takes_none name value token (inl is) = cc
takes_none name value token (inr (target, is)) = cc

decides_none : (name : VarName) (value : ℤ) (token : TokenName) → DecidesOf (Specify name value) token → ⊥
decides_none name value token (inl takes) = takes_none name value token takes
decides_none name value token (inr is) = cc

module _ (model : Model) (decisions : List Decision) (name : VarName) (value : ℤ) (old : Stored) (number : ℕ)
    (named : slice_get (content_now old).names number ≡ Some name) (may : MayFollow model decisions old (Specify name value)) where
  abbrev content : Content
  content = content_now old

  abbrev longer : List Decision
  longer = decisions ++ Specify name value ∷ []

  justified : IsJustified model longer old.net.tables old.net.constraints content
  justified = longer_justified model decisions (Specify name value ∷ []) old.net.tables old.net.constraints content may.rest.underway.justified

  limit_justifies : (change : Change) (domains : List Domain) → LimitsAt content.domains number (Range value value) change domains
      → LimitJustifies model longer old.net.tables old.net.constraints (with_domains content domains) change
  limit_justifies change domains limits =
      specifying_justified model longer old.net.tables old.net.constraints content justified name value number (Contains-push decisions (Specify name value)) named change domains limits

  pub emptied : (domains : List Domain) → LimitsAt old.net.domains number (Range value value) Empty domains → LeaveNothing model longer
  emptied domains limits = limit_justifies Empty domains limits

  -- no domain has a number that is no value
  pub no_value : (IsDomain (Range value value) → ⊥) → LeaveNothing model longer
  no_value none =
      let is = justified.is_content in
      let found = get_within content.domains number (let long = is.count in let below = get_below content.names number name named in omega (arith, long, below)) in
      let is_found = get_all IsDomain content.domains number found.0 is.domains found.1 in
      let read : domain_of content.domains (Var number) ≡ found.0 = get_or_from_slice_get content.domains number found.0 _ found.1 in
      emptied (slice_set content.domains number found.0) (record {
        left = found.0;
        is = is_found;
        kept = subst (λ (d : Domain). Keeps (Has (Range value value)) d Empty found.0) (sym read) (
          refl,
          λ other has here.
              let of = has_value found.0 other is_found has in
              let ends : IsValue value = (omega (arith, ints, of.0, of.1, here.0, here.1), omega (arith, ints, of.0, of.1, here.0, here.1)) in
              none (ends, ends, omega (arith, ints, here.0, here.1)),
        );
        others = refl;
      })

  module _ (net : Network) (change : Change) (limits : LimitsAt old.net.domains number (Range value value) change net.domains) (down : GoesDown old.net net)
      (some : change ≡ Empty → ⊥) (due : List ℕ) (noted : (variable : ℕ) → Contains net.changed variable → Contains due variable) where
    abbrev fallen : Stored
    fallen = record old { net = net }

    notes : Notes content.domains net.domains [] due
    notes = record {
      kept = λ variable there. absurd (contains_none variable there);
      each = λ variable below. elim (down.notes.each variable below) [ inl same ↦ inl same | inr is ↦ inr (noted variable is) ];
    }

    followed : IsStoreUnderway model decisions longer fallen (length old.blocks) due
    followed =
        let is = justified.is_content in
        let left = limited model content name value number is named change net.domains limits some in
        let holds = left_justified model longer old.net.tables old.net.constraints (with_domains content net.domains) change some (limit_justifies change net.domains limits) in
        let misses = falling_misses model decisions old.net.constraints content net.domains (length old.blocks) [] due
        may.rest.underway.complete left.are left.within notes in
        record {
          justified = subst (λ (tables : List Field). IsJustified model longer tables net.constraints (with_domains content net.domains)) (sym down.tables)
              (subst (λ (posted : List Constraint). IsJustified model longer old.net.tables posted (with_domains content net.domains)) (sym down.constraints) holds);
          complete = subst (λ (posted : List Constraint). MissesNothing model decisions posted (with_domains content net.domains) (length old.blocks) due)
              (sym down.constraints) misses;
          states = quiet_states model decisions (Specify name value) (snapshot_of old) (snapshot_of fallen) refl may.undecided (decides_none name value) may.rest.underway.states;
          preds = may.rest.underway.preds;
          watched = may.rest.underway.watched;
          within = may.rest.underway.within;
        }

    taken : IsStoreUnderway model longer longer fallen (length old.blocks) due
    taken =
        let left = limited model content name value number justified.is_content named change net.domains limits some in
        let below = (fallen_below content net.domains left.within).variables name may.known.0 may.known.1 in
        taken_underway model decisions (Specify name value) fallen (length old.blocks) due followed
        (quiet_taken_up model decisions (Specify name value) (takes_none name value) net.constraints (with_domains content net.domains) (length old.blocks) due
        (below.0, below.1) left.granted (λ one other is. absurd (cc)) (λ claim posts. absurd posts))

  pub specified : (new : Stored) (change : Change) → LimitsAt old.net.domains number (Range value value) change new.net.domains → GoesDown old.net new.net
      → (change ≡ Empty → ⊥) → ChangesNet old new → (due : List ℕ) → IsDueAfter (Specify name value) new due → IsStoreUnderway model longer longer new (length old.blocks) due
  specified new change limits down some changes due after =
      subst (λ (stored : Stored). IsStoreUnderway model longer longer stored (length old.blocks) due) (sym changes) (taken new.net change limits down some due after.changed)
