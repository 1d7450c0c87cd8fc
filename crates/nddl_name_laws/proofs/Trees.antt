-- All that is read in the trees of files means something, where their objects are whole.
use Rattle.std.proofs.Common.{refl}
use Rattle.nddl_rule_laws.proofs.Meanings.{trees_meant}
use Rattle.nddl_name_laws.specs.Named.{TreesAreMeantWhereWhole, made_world}
use Rattle.nddl_name_laws.proofs.Labels.{posted}
use Rattle.nddl_name_laws.proofs.Names.{object_found}

pub trees_where_whole : TreesAreMeantWhereWhole
trees_where_whole files table trees objects given is are fine none whole =
    trees_meant files table trees (made_world is.facts table) objects (record {
      given = given;
      is_table = is;
      are_trees = are;
      facts = is.are;
      enums = refl;
      made = record {
        named = λ entry declared at sort. (object_found files table given is fine entry declared at sort).stands;
        posted = λ entry declared at sort. posted files table given is fine none entry declared at sort;
        whole = whole;
      };
    })
