-- A content whose domains get smaller.
use Rattle.std.proofs.Common.{◌≡◌, List, length, sym, ◌∙◌, arith}
use Rattle.std.specs.Prelude.{All}
use Rattle.std.proofs.lemmas.List.Elements.{length_all_zip}
use Rattle.domain_core.specs.Domain.{Domain, IsDomain, IsWithin}
use Rattle.domain_core.proofs.Words.{IsWithin-trans}
use Rattle.eu_name.specs.declared.name.VarName.{VarName}
use Rattle.model_core.specs.declared.decision.Decision.{Decision}
use Rattle.model_core.specs.declared.model.Model.{Model}
use Rattle.model_core.specs.declared.variable.Base.{Base}
use Rattle.model_core.specs.declared.variable.Base.TheVariants.{Given, Void}
use Rattle.model_core.specs.State.{Gives, IsBelow}
use Rattle.model_core.specs.Variables.{IsInBase}
use Rattle.narrow_core.specs.Laws.{LieWithin}
use Rattle.narrow_core.specs.declared.field.Field.{Field}
use Rattle.constraint_net.specs.declared.constraint.Constraint.{Constraint}
use Rattle.plan_defs.proofs.Lower.{further_below, supported_further, block_further}
use Rattle.eu_name.proofs.Members.{get_below, get_within}
use Rattle.model_core.specs.Content.{Content, shown, IsContent}
use Rattle.db_refine.specs.Growth.{IsAboveAll}
use Rattle.db_refine.specs.GrowthLaws.{with_domains}
use Rattle.db_refine.proofs.Alike.{about_more}
use Rattle.db_refine.proofs.Showing.{stands_from, gives_from}
use Rattle.db_refine.specs.Progress.{IsJustified}
use Rattle.eu_name.proofs.Places.{zip_at}

in_base_less : (inner outer : Domain) (base : Base) → IsWithin inner outer → IsInBase outer base → IsInBase inner base
in_base_less inner outer (Given domain) within is = IsWithin-trans inner outer domain within is
in_base_less inner outer Void within is = is

module _ (content : Content) (domains : List Domain) (within : LieWithin domains content.domains) where
  pub fallen_long : length domains ≡ length content.domains
  fallen_long = length_all_zip IsWithin domains content.domains within

  -- what is given now lies in what was given before
  pub gave : (name : VarName) (domain : Domain) → Gives (shown (with_domains content domains)) name domain
      → (outer : Domain) × Gives (shown content) name outer × IsWithin domain outer
  gave name domain gives =
      let at = stands_from content.names domains name domain gives in
      let found = get_within content.domains at.number (let below = get_below domains at.number domain at.given in omega (arith, fallen_long, below)) in (
        found.0,
        gives_from content.names content.domains at.number name found.0 at.named found.1,
        zip_at IsWithin domains content.domains at.number domain found.0 within at.given found.1,
      )

  pub fallen_below : IsBelow (shown content) (shown (with_domains content domains))
  fallen_below = record {
    tokens = λ token c. c;
    blocks = λ block c. c;
    variables = λ name domain gives.
        let at = stands_from content.names content.domains name domain gives in
        let found = get_within domains at.number (let below = get_below content.domains at.number domain at.given in omega (arith, fallen_long, below)) in (
          found.0,
          gives_from content.names domains at.number name found.0 at.named found.1,
          zip_at IsWithin domains content.domains at.number found.0 domain within found.1 at.given,
        );
  }

  pub fallen_content : (model : Model) → IsContent model content → All IsDomain domains → IsContent model (with_domains content domains)
  fallen_content model is are = record {
    tokens_once = is.tokens_once;
    blocks_once = is.blocks_once;
    names_once = is.names_once;
    count = is.count ∙ sym fallen_long;
    tokens = is.tokens;
    blocks = is.blocks;
    variables = λ name. (
      λ about. (is.variables name).0 (about_more model (shown (with_domains content domains)) (shown content) (λ token c. c) (λ block c. c) name about),
      λ named. about_more model (shown content) (shown (with_domains content domains)) (λ token c. c) (λ block c. c) name ((is.variables name).1 named),
    );
    domains = are;
  }

  -- it stays justified if it stays above all
  pub fallen_justified : (model : Model) (decisions : List Decision) (tables : List Field) (posted : List Constraint)
      → IsJustified model decisions tables posted content → All IsDomain domains → IsAboveAll model decisions (with_domains content domains)
      → IsJustified model decisions tables posted (with_domains content domains)
  fallen_justified model decisions tables posted is are above =
      let further = further_below model decisions (shown content) (shown (with_domains content domains)) fallen_below in
      record {
        is_content = fallen_content model is.is_content are;
        above = above;
        tokens = λ token c. supported_further model _ _ further token (is.tokens token c);
        blocks = λ block c. (let opened = is.blocks block c in (opened.0, block_further model _ _ further block opened.0 opened.1));
        in_base = λ name domain gives. (
            let outer = gave name domain gives in
            let base = is.in_base name outer.0 outer.1 in
            (base.0, base.1, in_base_less domain outer.0 base.0 outer.2 base.2));
        fields = is.fields;
        owed = is.owed;
      }
