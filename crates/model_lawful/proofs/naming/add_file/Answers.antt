use Rattle.std.proofs.Common.{[], ◌++◌, map}
use Rattle.std.specs.List.{flat_map}
use Rattle.model_core.specs.declared.class.Enum.{Enum}
use Rattle.model_core.specs.declared.class.Object.{Object}
use Rattle.model_core.specs.declared.model.Root.{Root}
use Rattle.model_core.specs.declared.variable.VarDecl.{VarDecl}
use Rattle.model_lawful.proofs.Scoping.{apart_if, file_told, none_added}
use Rattle.model_lawful.proofs.naming.add_file.Goals as goal

pub add_next-requires-2 : goal.add_next-requires-2
add_next-requires-2 c =
    let g = map (λ (v : VarDecl). v.name) c.as_slice.result.now in
    apart_if ([] ++ g) c.add_next.new.names c.in_ok-globals.globals (c.in_ok-globals.ensures [] (none_added c.args.names.now c.requires))

pub add_next-requires-3 : goal.add_next-requires-3
add_next-requires-3 c =
    let g = map (λ (v : VarDecl). v.name) c.as_slice.result.now in
    let r = map (λ (x : Root). x.label) c.as_slice-2.result.now in
    apart_if (([] ++ g) ++ r) c.add_next-2.new.names c.in_ok-roots.roots (c.in_ok-roots.ensures ([] ++ g) (c.in_ok-globals.ensures [] (none_added c.args.names.now c.requires)))

pub add_next-requires-4 : goal.add_next-requires-4
add_next-requires-4 c =
    let g = map (λ (v : VarDecl). v.name) c.as_slice.result.now in
    let r = map (λ (x : Root). x.label) c.as_slice-2.result.now in
    let o = map (λ (x : Object). x.name) c.as_slice-3.result.now in
    apart_if ((([] ++ g) ++ r) ++ o) c.add_next-3.new.names c.in_ok-objects.objects (c.in_ok-objects.ensures (([] ++ g) ++ r) (c.in_ok-roots.ensures ([] ++ g) (c.in_ok-globals.ensures [] (none_added c.args.names.now c.requires))))

pub add_next_members-requires : goal.add_next_members-requires
add_next_members-requires c =
    let g = map (λ (v : VarDecl). v.name) c.as_slice.result.now in
    let r = map (λ (x : Root). x.label) c.as_slice-2.result.now in
    let o = map (λ (x : Object). x.name) c.as_slice-3.result.now in
    let e = map (λ (x : Enum). x.name) c.as_slice-4.result.now in
    apart_if (((([] ++ g) ++ r) ++ o) ++ e) c.add_next-4.new.names c.in_ok-enums.enums (c.in_ok-enums.ensures ((([] ++ g) ++ r) ++ o) (c.in_ok-objects.ensures (([] ++ g) ++ r) (c.in_ok-roots.ensures ([] ++ g) (c.in_ok-globals.ensures [] (none_added c.args.names.now c.requires)))))

pub add_next-requires-5 : goal.add_next-requires-5
add_next-requires-5 c =
    let g = map (λ (v : VarDecl). v.name) c.as_slice.result.now in
    let r = map (λ (x : Root). x.label) c.as_slice-2.result.now in
    let o = map (λ (x : Object). x.name) c.as_slice-3.result.now in
    let e = map (λ (x : Enum). x.name) c.as_slice-4.result.now in
    let m = flat_map (λ (x : Enum). x.members) c.as_slice-5.result.now in
    apart_if ((((([] ++ g) ++ r) ++ o) ++ e) ++ m) c.add_next_members.new.names c.in_ok-members.members (c.in_ok-members.ensures (((([] ++ g) ++ r) ++ o) ++ e) (c.in_ok-enums.ensures ((([] ++ g) ++ r) ++ o) (c.in_ok-objects.ensures (([] ++ g) ++ r) (c.in_ok-roots.ensures ([] ++ g) (c.in_ok-globals.ensures [] (none_added c.args.names.now c.requires))))))

pub returns : goal.returns
returns c =
    let g = map (λ (v : VarDecl). v.name) c.as_slice.result.now in
    let r = map (λ (x : Root). x.label) c.as_slice-2.result.now in
    let o = map (λ (x : Object). x.name) c.as_slice-3.result.now in
    let e = map (λ (x : Enum). x.name) c.as_slice-4.result.now in
    let m = flat_map (λ (x : Enum). x.members) c.as_slice-5.result.now in
    file_told c.args.model.now c.as_slice.result.now c.as_slice-2.result.now c.as_slice-3.result.now c.as_slice-4.result.now c.as_slice-5.result.now c.as_slice-6.result.now
    c.as_slice.ensures c.as_slice-2.ensures c.as_slice-3.ensures c.as_slice-4.ensures c.as_slice-5.ensures c.as_slice-6.ensures
    c.add_next_members.new.names c.add_next-5.new.names c.in_ok-members.members c.add_next-5.result (c.in_ok-members.ensures (((([] ++ g) ++ r) ++ o) ++ e) (c.in_ok-enums.ensures ((([] ++ g) ++ r) ++ o) (c.in_ok-objects.ensures (([] ++ g) ++ r) (c.in_ok-roots.ensures ([] ++ g) (c.in_ok-globals.ensures [] (none_added c.args.names.now c.requires)))))) c.add_next-5.ensures
