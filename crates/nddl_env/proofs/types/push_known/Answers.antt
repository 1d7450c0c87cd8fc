use Rattle.nddl_env.specs.Shapes.{world_of}
use Rattle.nddl_env.proofs.Numbering.{adds_known, alike_is}
use Rattle.nddl_env.proofs.types.push_known.Goals as goal

pub push_meaning-requires : goal.push_meaning-requires
push_meaning-requires c =
    alike_is (world_of c.args.premises.now) c.args.entry c.args.meaning.now c.args.types.now c.args.typedefs.now.numbers.items c.alike-same.result
    c.requires.numbered c.alike-same.ensures

pub returns : goal.returns
returns c =
    adds_known (world_of c.args.premises.now) c.args.entry c.len-number.result c.args.meaning.now c.args.types.now c.push_meaning.new.types
    c.args.typedefs.now.numbers.items c.push.new.self.numbers.items c.push.result c.requires.numbered c.requires.means
    c.in_ok-push_meaning.ensures c.len-number.ensures c.push.ensures
