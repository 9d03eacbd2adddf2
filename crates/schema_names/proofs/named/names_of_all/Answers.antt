use Rattle.std.proofs.Common.{◌+◌, ◌∙◌, ◌<◌, length, ap, Some, List, take, sym, subst, rules}
use Rattle.std.proofs.lemmas.Option.{slice_get-get_or}
use Rattle.type_layout.specs.declared.schema.Home.{Home}
use Rattle.schema_names.specs.inner.Homes.{AreNamesOfAll}
use Rattle.schema_names.proofs.Finding.{taken_one_more}
use Rattle.schema_names.proofs.Placing.{push_names, home_behind}
use Rattle.schema_names.proofs.named.names_of_all.Goals as goal

pub names_of-requires : goal.names_of-requires
names_of-requires c =
    let within : c.loop-i.i < length c.args.schema.now.homes = rw (← c.as_slice-homes.ensures) c.loop-i-test.true in
    c.requires.few_members (record { 0 = c.loop-i.i + 1 }) c.index-homes-i.result (home_behind c.args.schema.now.homes c.loop-i.i c.index-homes-i.result (slice_get-get_or c.args.schema.now.homes c.loop-i.i c.index-homes-i.result within ∙ ap Some (search rules)))

pub loop-i-preserved : goal.loop-i-preserved
loop-i-preserved c =
    let homes = c.args.schema.now.homes in
    let home = c.index-homes-i.result in
    let within : c.loop-i.i < length homes = rw (← c.as_slice-homes.ensures) c.loop-i-test.true in
    subst (λ (hs : List Home). AreNamesOfAll c.args.schema.now.keys hs c.push.new.self.items) (sym (taken_one_more homes c.loop-i.i home within (search rules)))
    (rw c.in_ok-push.ensures.items (push_names c.args.schema.now.keys (take c.loop-i.i homes) c.loop-i.all.items home c.in_ok-names.names c.loop-i.invariant (rw (← c.as_slice.ensures) c.in_ok-names.ensures)))
