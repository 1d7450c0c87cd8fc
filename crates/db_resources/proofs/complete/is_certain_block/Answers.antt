use Rattle.std.proofs.Common.{◌≡◌, Some, None, sym, ap, ◌∙◌, subst}
use Rattle.std.specs.Prelude.{MatchBool, option_copied}
use Rattle.std.proofs.lemmas.Result.{IfOk-weaker}
use Rattle.model_core.specs.Entries.{Entries}
use Rattle.eu_name.proofs.Members.{get_within, get_same}
use Rattle.db_store.specs.declared.key.OpenBlock.{OpenBlock}
use Rattle.plan_values.proofs.Matching.{match_bool}
use Rattle.db_resources.specs.Completeness.{AreCertainIn, AreCertainAt, HasOpenEntries}
use Rattle.db_resources.proofs.Looping.{told_whatever}
use Rattle.db_resources.proofs.complete.is_certain_block.Goals as goal

pub unreachable-requires : goal.unreachable-requires
unreachable-requires c =
    let there = get_within _ c.args.number c.requires.within in
    let both : None ≡ Some there.0 = sym (ap option_copied c.in-None.is) ∙ (c.block_at.ensures ∙ there.1) in
    cc

pub returns : goal.returns
returns c =
    let model = c.args.model.now in
    let store = c.args.store.now in
    let block = c.in-Some.block.now in
    let here = sym c.in-Some.ensures in
    let some = c.requires.there c.args.number block here in
    let all_in = (entries : Entries) → HasOpenEntries model store block entries → AreCertainIn model store block entries in
    let such = AreCertainAt model store c.args.number in
    IfOk-weaker c.are_certain_in.result
    (λ certain. (entries : Entries) → HasOpenEntries model store block entries → MatchBool certain (AreCertainIn model store block entries) (AreCertainIn model store block entries → ⊥))
    (λ certain. MatchBool certain such (such → ⊥))
    (λ certain told. match_bool certain all_in such (all_in → ⊥) (such → ⊥)
    (λ all other entries there has. subst (λ (b : OpenBlock). HasOpenEntries model store b entries → AreCertainIn model store b entries)
    (get_same _ c.args.number block other here there) (all entries) has)
    (λ none all. none (λ entries has. all block entries here has))
    (told_whatever (HasOpenEntries model store block) (AreCertainIn model store block) certain told some.0 some.1))
    c.are_certain_in.ensures
