-- What is counted of the text of a rule is enough.
use Rattle.std.proofs.Common.{◌≡◌, List, [], ◌∷◌, arith}
use Rattle.std.specs.Prelude.{All}
use Rattle.std.proofs.lemmas.List.Elements.{All-cons, All-nil}
use Rattle.model_core.specs.declared.variable.VarDecl.{VarDecl}
use Rattle.nddl_terms.specs.Growth.{no_growth}
use Rattle.nddl_unroll.specs.Amounts.{no_amounts}
use Rattle.nddl_unroll.specs.Blocks.{unrolled}
use Rattle.nddl_unroll.specs.Rules.{tree_readings}
use Rattle.nddl_unroll.specs.Enough.{CountsEnough}
use Rattle.nddl_unroll.specs.Unnamed.{LocalsAreUnnamed}
use Rattle.nddl_unroll.proofs.CountedBlocks.{all_enough, none_counted}
use Rattle.nddl_unroll.proofs.Extras.{EachUnnamed, Sound, no_extra}

-- a rule that has nothing is sound
pub none_sound : Sound no_growth
none_sound = record { named = tt; asked = tt; unnamed = tt }

pub trees_counted : CountsEnough
trees_counted lexicon objects tree =
    let enough = all_enough (tree_readings lexicon objects tree) tree.body in
    let adds = enough.adds [] tt no_growth none_sound in
    let counts = enough.counts no_extra no_amounts none_counted in
    record {
      slots = omega (arith, adds.slots, counts.slots);
      locals = omega (arith, adds.locals, counts.locals);
      items = omega (arith, adds.items, counts.items);
      guards = omega (arith, adds.guards, counts.guards);
    }

unnamed_all : (some : List VarDecl) → EachUnnamed some → All (λ variable. variable.name ≡ []) some
unnamed_all [] each = All-nil (λ (variable : VarDecl). variable.name ≡ [])
unnamed_all (local ∷ more) each = All-cons (λ (variable : VarDecl). variable.name ≡ []) local more each.0 (unnamed_all more each.1)

pub trees_unnamed : LocalsAreUnnamed
trees_unnamed lexicon objects tree =
    let reading = tree_readings lexicon objects tree in
    let enough = all_enough reading tree.body in
    let adds = enough.adds [] tt no_growth none_sound in
    unnamed_all (unrolled reading [] tree.body no_growth).locals (adds.sound none_sound).unnamed
