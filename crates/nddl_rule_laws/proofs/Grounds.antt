-- Each tree of files with whose types and rules nothing is wrong has a ground.
use Rattle.std.proofs.Common.{◌≡◌, ℕ, zero, suc, ◌+◌, ◌<◌, true, List, [], ◌∷◌, refl, sym, ◌∙◌, ap, subst, arith}
use Rattle.std.specs.Prelude.{Option, Some, None, All, AllPairs, slice_get, reverse}
use Rattle.std.specs.List.{AllZip, flat_map}
use Rattle.std.specs.Option.{option_and_then, option_map_or}
use Rattle.std.proofs.lemmas.List.Elements.{All-nil, All-cons, All-append, All-head, All-tail, All-weaker}
use Rattle.std.proofs.lemmas.Option.{same_Some, none-some}
use Rattle.eu_index.specs.Index.{Noted, noted_number}
use Rattle.eu_forest.specs.Ancestors.{ancestry}
use Rattle.eu_forest.specs.Members.{list_at}
use Rattle.eu_name.specs.Word.{IsName}
use Rattle.model_core.specs.declared.class.Pred.{Pred}
use Rattle.model_core.specs.Naming.{full_name}
use Rattle.model_core.proofs.Distinct.{pairs_back}
use Rattle.model_core.proofs.Items.{item_all}
use Rattle.nddl_ast.specs.declared.declaration.Decl.{Decl}
use Rattle.nddl_ast.specs.declared.declaration.Decl.TheVariants as decls
use Rattle.nddl_ast.specs.declared.declaration.FileDecls.{FileDecls}
use Rattle.nddl_ast.specs.declared.declaration.Member.{Member}
use Rattle.nddl_ast.specs.declared.declaration.Member.TheVariants as members
use Rattle.nddl_ast.specs.declared.declaration.PredicatePart.{PredicatePart}
use Rattle.nddl_ast.specs.declared.declaration.PredicatePart.TheVariants as pieces
use Rattle.nddl_ast.specs.declared.kind.TextKind.{TextKind}
use Rattle.nddl_ast.specs.declared.name.Name.{Name}
use Rattle.nddl_ast.specs.Block.{statements_of}
use Rattle.nddl_ast.specs.Tree.{Braces, Nothing, Statements}
use Rattle.nddl_symbols.specs.declared.declared.Declared.{Declared}
use Rattle.nddl_symbols.specs.declared.declared.Sort.TheVariants as sorts
use Rattle.nddl_symbols.specs.declared.scope.Meaning.{Meaning}
use Rattle.nddl_symbols.specs.declared.scope.Meaning.TheVariants as meanings
use Rattle.nddl_symbols.specs.Joined.{joined_decls, joined_sites}
use Rattle.nddl_symbols.specs.Names.{declared_as, scope_names}
use Rattle.nddl_symbols.specs.Place.{file_of_place}
use Rattle.nddl_symbols.specs.Scope.{meaning_of, named_number}
use Rattle.nddl_hierarchy.specs.Decls.{decl_members, decl_of_name, declaration_with_body, members_of}
use Rattle.nddl_hierarchy.specs.Facts.{Facts}
use Rattle.nddl_declarations.specs.Classes.{class_meaning_fault}
use Rattle.nddl_declarations.specs.Faults.{all_faults}
use Rattle.nddl_types.specs.declared.table.TypeTable.{TypeTable}
use Rattle.nddl_types.specs.Classes.{name_of_entry}
use Rattle.nddl_types.specs.Table.{IsTable}
use Rattle.nddl_resolve.specs.declared.denoted.Predicate.{Predicate}
use Rattle.nddl_resolve.specs.declared.denoted.TokenSort.{TokenSort}
use Rattle.nddl_resolve.specs.Following.{token_with}
use Rattle.nddl_resolve.specs.Predicates.{class_predicate}
use Rattle.nddl_rule_check.specs.Blocks.{block_faults}
use Rattle.nddl_rule_check.specs.Rules.{all_rule_faults, class_rule_faults, decl_rule_faults, member_rule_faults, member_token, members_rule_faults, part_rule_faults, rule_faults, token_rule_faults, token_unless}
use Rattle.nddl_rule_check.specs.Seeing.{token_alone}
use Rattle.nddl_terms.specs.PlainTree.{PlainTree}
use Rattle.nddl_rules.specs.declared.places.TextPlace.{TextPlace}
use Rattle.nddl_rules.specs.Blocks.{block_names}
use Rattle.nddl_terms.specs.declared.tree.ReadName.{ReadName}
use Rattle.nddl_rules.specs.Collected.{RuleTexts, decl_statements, member_statements, part_statements, text_head, text_statements, tree_at, tree_with, trees_from}
use Rattle.nddl_rules.specs.Sight.{no_sight}
use Rattle.nddl_rules.specs.Tally.{no_tally}
use Rattle.nddl_rules.specs.Told.{AreFileTrees, scope_places}
use Rattle.nddl_rules.specs.Written.{noted_preds, places_of, preds_above, texts_written}
use Rattle.nddl_laws.specs.Fine.{AreFineStatements, IsFineMember, IsFinePart}
use Rattle.nddl_laws.specs.Given.{AreGiven}
use Rattle.nddl_laws.specs.Lookups.{IsReadFor, rule_lookups, rule_names, rule_numbered}
use Rattle.nddl_laws.specs.Nodes.{statements_nodes}
use Rattle.nddl_laws.specs.Scoping.{IsGround, RuleGround}
use Rattle.nddl_laws.specs.Trees.{IsJoinedDecl}
use Rattle.nddl_laws.proofs.Each.{each_joined}
use Rattle.nddl_laws.proofs.Apart.{all_reverse}
use Rattle.nddl_laws.proofs.Contained.{contains_at}
use Rattle.nddl_laws.proofs.Declared.{IsRightDecl}
use Rattle.nddl_laws.proofs.Faultless.{fine_body, fine_rule}
use Rattle.nddl_laws.proofs.First.{own_body, stands_for, stands_from}
use Rattle.nddl_laws.proofs.Knowledge.{one_facts}
use Rattle.nddl_laws.proofs.Lists.{all_flat}
use Rattle.nddl_laws.proofs.Nothing.{none_first, none_second}
use Rattle.nddl_laws.proofs.Standing.{IsClassEntry}
use Rattle.nddl_rule_laws.specs.Grounds.{HasFineText, HasGround, TreesHaveGrounds, of_body, of_rule}
use Rattle.nddl_rule_laws.proofs.Classes.{IsBelow, are_facts, class_name, entry_means, entry_place, entry_known, in_line, right}
use Rattle.nddl_rule_laws.proofs.Inherited.{IsInherited, IsTextFor, all_inherited, matched, member_text, own_text, texts_right}
use Rattle.nddl_rule_laws.proofs.Rising.{body_rises}
use Rattle.nddl_rule_laws.proofs.Owners.{FoundIn, class_found, found_below, found_member, owner, params_same}

-- ---- nothing is wrong with any rule

-- nothing is wrong with the rules of a declaration, if it isn't with any
pub rules_fine : (facts : Facts) (number : ℕ) (program : List Decl) (place : ℕ) (decl : Decl) → all_rule_faults facts number program ≡ []
    → slice_get program place ≡ Some decl → decl_rule_faults facts (number + place) decl ≡ []
rules_fine facts number [] place decl fine at = absurd (none-some decl at)
rules_fine facts number (here ∷ program) zero decl fine at =
    let first = none_first (decl_rule_faults facts number here) (all_rule_faults facts (number + 1) program) fine in
    let same : here ≡ decl = same_Some here decl at in
    let e : number ≡ number + 0 = omega arith in
    sym (λ i. decl_rule_faults facts (e i) (same i)) ∙ first
rules_fine facts number (here ∷ program) (suc place) decl fine at =
    let rest = none_second (decl_rule_faults facts number here) (all_rule_faults facts (number + 1) program) fine in
    let e : number + 1 + place ≡ number + suc place = omega arith in
    sym (ap (λ n. decl_rule_faults facts n decl) e) ∙ rules_fine facts (number + 1) program place decl rest at

-- the same of the members of a class
pub members_fine : (facts : Facts) (decl entry number : ℕ) (some : List Member) (place : ℕ) (member : Member)
    → members_rule_faults facts decl entry number some ≡ [] → slice_get some place ≡ Some member
    → member_rule_faults facts decl entry (number + place) member ≡ []
members_fine facts decl entry number [] place member fine at = absurd (none-some member at)
members_fine facts decl entry number (here ∷ some) zero member fine at =
    let first = none_first (member_rule_faults facts decl entry number here) (members_rule_faults facts decl entry (number + 1) some) fine in
    let same : here ≡ member = same_Some here member at in
    let e : number ≡ number + 0 = omega arith in
    sym (λ i. member_rule_faults facts decl entry (e i) (same i)) ∙ first
members_fine facts decl entry number (here ∷ some) (suc place) member fine at =
    let rest = none_second (member_rule_faults facts decl entry number here) (members_rule_faults facts decl entry (number + 1) some) fine in
    let e : number + 1 + place ≡ number + suc place = omega arith in
    sym (ap (λ n. member_rule_faults facts decl entry n member) e) ∙ members_fine facts decl entry (number + 1) some place member rest at

abbrev Rising : Statements → Type 0
Rising statements = AllPairs (λ one other. one < other) (statements_nodes statements)

-- a rule with which nothing is wrong is of a predicate of its class
pub record IsOfToken (facts : Facts) (decl : ℕ) (name : List ℕ) (class : Meaning) (statements : Statements) : Type 0 where
  pub predicate : Predicate
  pub is : class_predicate facts name class ≡ Some predicate
  pub none : block_faults facts decl (token_alone (record { class = class; predicate = predicate })) [] statements ≡ []

pub rule_fine : (facts : Facts) (decl : ℕ) (class predicate : Name) (body : Braces) (meaning : Meaning) → meaning_of facts.names class.text ≡ Some meaning
    → rule_faults facts decl class predicate body ≡ [] → IsOfToken facts decl predicate.text meaning body.statements
rule_fine facts decl class predicate body meaning means fine =
    by (class_meaning_fault facts.names (Some meaning))
    (sym (ap (λ o. token_rule_faults facts decl body (token_unless facts class predicate o (class_meaning_fault facts.names o))) means) ∙ fine)
  where
    inner : (o : Option Predicate) → class_predicate facts predicate.text meaning ≡ o
        → token_rule_faults facts decl body (token_with meaning predicate o) ≡ [] → IsOfToken facts decl predicate.text meaning body.statements
    inner None found none = absurd (cc)
    inner (Some it) found none = record { predicate = it; is = found; none = none }

    by : (o : Option TextKind) → token_rule_faults facts decl body (token_unless facts class predicate (Some meaning) o) ≡ []
        → IsOfToken facts decl predicate.text meaning body.statements
    by None none = inner (class_predicate facts predicate.text meaning) refl none
    by (Some kind) none = absurd (cc)

-- the constraints in the body of a predicate are as the parser makes them, if its parts are
parts_written : (some : List PredicatePart) → All IsFinePart some → AreFineStatements (statements_of (part_statements some))
parts_written [] fine = tt
parts_written (pieces.Parameter typed ∷ more) fine = parts_written more (All-tail IsFinePart (pieces.Parameter typed) more fine)
parts_written (pieces.Constraint call ∷ more) fine =
    (All-head IsFinePart (pieces.Constraint call) more fine, parts_written more (All-tail IsFinePart (pieces.Constraint call) more fine))

module _ (files : List FileDecls) (table : TypeTable) (given : AreGiven files) (is : IsTable files table) where
  -- what a tree of the table stands on
  pub record IsGrounded (tree : PlainTree) : Type 0 where
    pub pred : Pred
    pub at : slice_get table.preds tree.pred ≡ Some pred
    pub token : TokenSort
    pub below : IsBelow is.facts (owner files table given is tree.pred pred at).class token.class
    pub found : FoundIn is.facts pred.name token.class token.predicate
    pub text : HasFineText is.facts token tree.body
    pub written : AreFineStatements tree.body
    pub rising : AllPairs (λ one other. one < other) (statements_nodes tree.body)
    pub names : tree.names ≡ block_names (record { scope = scope_places [] 0 table.scope; params = pred.params }) no_sight no_tally tree.body

  joined : All IsJoinedDecl is.facts.program
  joined = subst (All IsJoinedDecl) (sym is.are.is_program) (each_joined files given)

  -- ---- classes by their declarations

  -- the class that is declared so
  record IsClassOf (class : Name) (some : List Member) : Type 0 where
    entry : ℕ
    known : IsClassEntry is.facts.names entry
    means : meaning_of is.facts.names class.text ≡ Some (meanings.Entry entry)
    members_are : members_of is.facts.names is.facts.program entry ≡ some

  class_of : (decl at : ℕ) (class : Name) (parent : Option Name) (some : List Member)
      → slice_get is.facts.program decl ≡ Some (decls.Class at class parent some) → IsClassOf class some
  class_of decl at class parent some there =
      let are = are_facts files table given is in
      let stands = stands_from 0 0 is.facts.program decl (decls.Class at class parent some) class sorts.Body there (λ number before. refl) in
      let e : 0 + decl ≡ decl = omega arith in
      let declared : Declared = declared_as decl class sorts.Body in
      let at_entry : slice_get is.facts.names stands.0 ≡ Some declared =
      ap (λ names. slice_get names stands.0) are.is_names ∙ (stands.1 ∙ ap (λ n. Some (declared_as n class sorts.Body)) e) in
      let first = stands_for is.facts is.fine stands.0 declared at_entry refl in
      let place = entry_place files table given is first.first first.found first.there first.is_first in
      let named : name_of_entry is.facts.names first.first ≡ class.text =
      ap (λ o. option_map_or (λ (d : Declared). d.name) o []) first.there ∙ first.same in
      let body = own_body is.facts is.fine stands.0 declared at_entry refl in
      let second : named_number true is.facts.names first.found.name ≡ Some stands.0 = ap (named_number true is.facts.names) first.same ∙ body in
      let written : declaration_with_body is.facts.names is.facts.program first.found ≡ Some (decls.Class at class parent some) =
      ap (option_and_then (λ (number : ℕ). option_and_then (decl_of_name is.facts.program) (slice_get is.facts.names number))) second
      ∙ (ap (option_and_then (decl_of_name is.facts.program)) at_entry ∙ there) in
      record {
        entry = first.first;
        known = entry_known files table given is place.0 first.first place.1;
        means = ap (meaning_of is.facts.names) (sym named) ∙ entry_means files table given is place.0 first.first place.1;
        members_are = ap (λ o. option_map_or decl_members (option_and_then (declaration_with_body is.facts.names is.facts.program) o) []) first.there
            ∙ ap (λ o. option_map_or decl_members o []) written;
      }

  -- ---- the token of a rule

  module _ (rules : all_rule_faults is.facts 0 is.facts.program ≡ []) (number : ℕ) (pred : Pred)
      (at : slice_get table.preds number ≡ Some pred) (up : ℕ)
      (it : IsInherited files table given is pred.name (owner files table given is number pred at).class up) where
    -- the class of the predicate that the rule is written for
    abbrev Upper : Meaning
    Upper = (owner files table given is up it.pred it.at).class

    -- its name means it
    record IsNamedBy (class predicate : Name) : Type 0 where
      means : meaning_of is.facts.names class.text ≡ Some Upper
      named : predicate.text ≡ pred.name

    named_by : (class predicate : Name) → IsName class.text
        → noted_number (noted_preds table.classes [] 0 table.preds) (full_name class.text predicate.text) ≡ Some up → IsNamedBy class predicate
    named_by class predicate spelled found =
        let match_it = matched files table given is class.text predicate.text up spelled found in
        let same : match_it.pred ≡ it.pred = same_Some match_it.pred it.pred (sym match_it.at ∙ it.at) in
        record {
          means = ap (meaning_of is.facts.names) (match_it.word_is ∙ ap (λ (p : Pred). class_name files table given is p.class) same)
              ∙ (owner files table given is up it.pred it.at).means;
          named = match_it.called ∙ (ap (λ (p : Pred). p.name) same ∙ it.same);
        }

    -- the token of a rule at this place
    record HasToken (place : TextPlace) : Type 0 where
      token : TokenSort
      below : IsBelow is.facts (owner files table given is number pred at).class token.class
      found : FoundIn is.facts pred.name token.class token.predicate
      text : HasFineText is.facts token (text_statements is.facts.program place)
      written : AreFineStatements (text_statements is.facts.program place)
      rising : AllPairs (λ one other. one < other) (statements_nodes (text_statements is.facts.program place))

    text_token : (place : TextPlace) → IsTextFor (noted_preds table.classes [] 0 table.preds) is.facts.program up place → HasToken place
    text_token place (own_text class predicate body there none found) =
        let rule : Decl = decls.Rule class predicate body in
        let fine = item_all (IsRightDecl is.facts) is.facts.program place.decl rule (right files table given is) there in
        let by_name = named_by class predicate fine.fine.0 found in
        let one = rule_fine is.facts (0 + place.decl) class predicate body Upper by_name.means (rules_fine is.facts 0 is.facts.program place.decl rule rules there) in
        let token : TokenSort = record { class = Upper; predicate = one.predicate } in
        let same : text_statements is.facts.program place ≡ body.statements =
        ap (λ o. option_map_or (decl_statements place.member) o Nothing) there ∙ ap (λ m. decl_statements m rule) none in
        let nodes = (item_all IsJoinedDecl is.facts.program place.decl rule joined there).rising in
        let rising : AllPairs (λ one other. one < other) (statements_nodes body.statements) =
        pairs_back (λ one other. one < other) (class.at ∷ predicate.at ∷ body.at ∷ []) (statements_nodes body.statements) nodes in
        record {
          token = token;
          below = it.below;
          found = subst (λ name. FoundIn is.facts name Upper one.predicate) by_name.named
              (class_found is.facts predicate.text Upper one.predicate one.is);
          text = subst (HasFineText is.facts token) (sym same) (of_rule (0 + place.decl) one.none);
          written = subst AreFineStatements (sym same) fine.fine.1.1;
          rising = subst Rising (sym same) rising;
        }
    text_token place (member_text class_at class parent some member pred_at name parts there member_is here found) =
        let whole : Decl = decls.Class class_at class parent some in
        let fine = item_all (IsRightDecl is.facts) is.facts.program place.decl whole (right files table given is) there in
        let by_name = named_by class name fine.fine.0 found in
        let declared = class_of place.decl class_at class parent some there in
        let upper_is : Upper ≡ meanings.Entry declared.entry = same_Some Upper (meanings.Entry declared.entry) (sym by_name.means ∙ declared.means) in
        let none : members_rule_faults is.facts (0 + place.decl) declared.entry 0 some ≡ [] =
        sym (ap (class_rule_faults is.facts (0 + place.decl) some) declared.means) ∙ rules_fine is.facts 0 is.facts.program place.decl whole rules there in
        let one = members_fine is.facts (0 + place.decl) declared.entry 0 some member (members.Predicate pred_at name parts) none here in
        let e : 0 + member ≡ member = omega arith in
        let token : TokenSort = member_token declared.entry member in
        let faultless : flat_map (part_rule_faults is.facts (0 + place.decl) (token_alone token)) parts ≡ [] =
        subst (λ n. flat_map (part_rule_faults is.facts (0 + place.decl) (token_alone (member_token declared.entry n))) parts ≡ []) e one in
        let nodes = (item_all IsJoinedDecl is.facts.program place.decl whole joined there).rising in
        let same : text_statements is.facts.program place ≡ statements_of (part_statements parts) =
        ap (λ o. option_map_or (decl_statements place.member) o Nothing) there
        ∙ (ap (λ m. decl_statements m whole) member_is ∙ ap (λ o. option_map_or member_statements o Nothing) here) in
        record {
          token = token;
          below = subst (IsBelow is.facts (owner files table given is number pred at).class) upper_is it.below;
          found = found_member declared.entry member pred_at name parts refl (in_line files table given is declared.entry declared.known)
              (ap (λ list. slice_get list member) declared.members_are ∙ here) by_name.named;
          text = subst (HasFineText is.facts token) (sym same) (of_body (0 + place.decl) parts refl faultless);
          written = subst AreFineStatements (sym same) (parts_written parts (item_all IsFineMember some member (members.Predicate pred_at name parts)
              fine.fine.1.1 here).1);
          rising = subst Rising (sym same) (body_rises class_at class parent some member pred_at name parts here nodes);
        }

  -- ---- trees

  abbrev all_noted : Noted
  all_noted = noted_preds table.classes [] 0 table.preds

  abbrev texts_over : List Decl → RuleTexts
  texts_over program = record {
    files = files;
    sites = joined_sites files;
    program = program;
    scope = scope_places [] 0 table.scope;
  }

  place_grounded : (rules : all_rule_faults is.facts 0 is.facts.program ≡ []) (number : ℕ) (pred : Pred)
      (at : slice_get table.preds number ≡ Some pred) (up : ℕ)
      → IsInherited files table given is pred.name (owner files table given is number pred at).class up
      → (place : TextPlace) → IsTextFor all_noted is.facts.program up place → All IsGrounded (tree_at (texts_over is.facts.program) number pred place)
  place_grounded rules number pred at up it place text =
      by (file_of_place files (joined_sites files) (text_head is.facts.program place))
    where
      by : (o : Option FileDecls)
          → All IsGrounded (option_map_or (λ file. tree_with (scope_places [] 0 table.scope) number pred file.name (text_head is.facts.program place)
          (text_statements is.facts.program place) ∷ []) o [])
      by None = All-nil IsGrounded
      by (Some file) =
          let has = text_token rules number pred at up it place text in
          All-cons IsGrounded
          (tree_with (scope_places [] 0 table.scope) number pred file.name (text_head is.facts.program place) (text_statements is.facts.program place)) []
          (record { pred = pred; at = at; token = has.token; below = has.below; found = has.found; text = has.text; written = has.written; rising = has.rising; names = refl })
          (All-nil IsGrounded)

  -- the trees of one predicate
  pred_grounded : (rules : all_rule_faults is.facts 0 is.facts.program ≡ []) (number : ℕ) (pred : Pred) → slice_get table.preds number ≡ Some pred
      → All IsGrounded (flat_map (tree_at (texts_over is.facts.program) number pred)
      (places_of (preds_above table.classes all_noted table.preds) (texts_written all_noted table.preds is.facts.program) number))
  pred_grounded rules number pred at =
      let above_all = preds_above table.classes all_noted table.preds in
      let written = texts_written all_noted table.preds is.facts.program in
      let texts = texts_over is.facts.program in
      let P : TextPlace → Type 0 = λ place. All IsGrounded (tree_at texts number pred place) in
      all_flat IsGrounded (tree_at texts number pred) (places_of above_all written number)
      (all_flat P (list_at written) (reverse (ancestry above_all number))
      (all_reverse (λ up. All P (list_at written up)) (ancestry above_all number)
      (All-weaker (IsInherited files table given is pred.name (owner files table given is number pred at).class) (λ up. All P (list_at written up))
      (λ up it. All-weaker (IsTextFor all_noted is.facts.program up) P (λ place text. place_grounded rules number pred at up it place text)
      (list_at written up) (texts_right all_noted is.facts.program table.preds up))
      (ancestry above_all number) (all_inherited files table given is number pred at))))

  preds_grounded : (rules : all_rule_faults is.facts 0 is.facts.program ≡ []) (number : ℕ) (left : List Pred)
      → ((offset : ℕ) (pred : Pred) → slice_get left offset ≡ Some pred → slice_get table.preds (number + offset) ≡ Some pred)
      → All IsGrounded (trees_from (texts_over is.facts.program) (preds_above table.classes all_noted table.preds)
      (texts_written all_noted table.preds is.facts.program) number left)
  preds_grounded rules number [] stand = All-nil IsGrounded
  preds_grounded rules number (pred ∷ left) stand =
      let above_all = preds_above table.classes all_noted table.preds in
      let written = texts_written all_noted table.preds is.facts.program in
      let texts = texts_over is.facts.program in
      let e : number + 0 ≡ number = omega arith in
      All-append IsGrounded (flat_map (tree_at texts number pred) (places_of above_all written number)) (trees_from texts above_all written (number + 1) left)
      (pred_grounded rules number pred (sym (ap (slice_get table.preds) e) ∙ stand 0 pred refl))
      (preds_grounded rules (number + 1) left (λ offset other here.
      let sum : number + suc offset ≡ number + 1 + offset = omega arith in
      sym (ap (slice_get table.preds) sum) ∙ stand (suc offset) other here))

  -- each tree of the files stands on something
  pub all_grounded : (trees : List PlainTree) → AreFileTrees table files trees → All IsGrounded trees
  all_grounded trees are =
      let rules : all_rule_faults is.facts 0 is.facts.program ≡ [] =
      ap (λ (f : Facts). all_rule_faults f 0 f.program) (one_facts (scope_names (joined_decls files)) (joined_decls files) is.facts are.facts is.are are.are) ∙ are.fine in
      let P : List Decl → Type 0 = λ program.
      All IsGrounded (trees_from (texts_over program) (preds_above table.classes all_noted table.preds) (texts_written all_noted table.preds program) 0 table.preds) in
      let all : P is.facts.program =
      preds_grounded rules 0 table.preds (λ offset pred here. let e : offset ≡ 0 + offset = omega arith in sym (ap (slice_get table.preds) e) ∙ here) in
      subst (All IsGrounded) (sym are.trees_are) (subst P is.are.is_program all)

  -- ---- grounds

  -- the ground of a tree
  abbrev pub ground_of : (tree : PlainTree) → IsGrounded tree → RuleGround
  ground_of tree it = record { facts = is.facts; scope = table.scope; token = it.token; params = it.pred.params }

  pub ground_is : (tree : PlainTree) (it : IsGrounded tree) → IsGround files (ground_of tree it)
  ground_is tree it =
      let own = owner files table given is tree.pred it.pred it.at in
      record {
        are = is.are;
        scope_is = is.entries.others.scope_is;
        params_are = params_same files table given is it.pred (contains_at table.preds tree.pred it.pred it.at) own it.token.predicate
            (found_below is.facts it.pred.name own.class it.token.class it.token.predicate it.below it.found);
      }

  names_read : (ground : RuleGround) → IsGround files ground → all_faults ground.facts ≡ [] → (statements : Statements)
      → HasFineText ground.facts ground.token statements
      → AllZip (IsReadFor ground (rule_numbered ground statements)) (rule_names ground statements) (rule_lookups ground statements)
  names_read ground grounded fine statements (of_rule decl none) = fine_rule files ground decl statements given grounded fine none
  names_read ground grounded fine statements (of_body decl some same none) =
      subst (λ (s : Statements). AllZip (IsReadFor ground (rule_numbered ground s)) (rule_names ground s) (rule_lookups ground s)) (sym same)
      (fine_body files ground decl some grounded none)

  tree_stands : (tree : PlainTree) → IsGrounded tree → HasGround files table tree
  tree_stands tree it =
      let ground = ground_of tree it in
      let Z : List ReadName → Type 0 = λ names. AllZip (IsReadFor ground (rule_numbered ground tree.body)) names (rule_lookups ground tree.body) in (
        ground,
        record {
          is_ground = ground_is tree it;
          fine = is.fine;
          pred = it.pred;
          is_pred = it.at;
          params = refl;
          text = it.text;
          names = it.names;
          read = subst Z (sym it.names) (names_read ground (ground_is tree it) is.fine tree.body it.text);
        },
      )

  pub trees_stand : (trees : List PlainTree) → AreFileTrees table files trees → All (HasGround files table) trees
  trees_stand trees are = All-weaker IsGrounded (HasGround files table) (λ tree it. tree_stands tree it) trees (all_grounded trees are)

-- each tree of files has a ground
pub trees_have_grounds : TreesHaveGrounds
trees_have_grounds files table trees given is are = trees_stand files table given is trees are
