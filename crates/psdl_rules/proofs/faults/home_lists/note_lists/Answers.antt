use Rattle.std.proofs.Common.{[]}
use Rattle.std.specs.List.{flat_map}
use Rattle.psdl_directory.specs.declared.fault.CheckKind.TheVariants.{KeyMember, FactoryMember}
use Rattle.psdl_members.specs.Bodies.{member_views}
use Rattle.psdl_members.specs.Listings.{identifiers_of_each}
use Rattle.psdl_standings.specs.Standings.{standings}
use Rattle.psdl_standings.specs.Texts.{text_of}
use Rattle.psdl_rules.specs.Words.{listed_wrong}
use Rattle.psdl_rules.specs.Faults.KeyType.{keyed_wrong}
use Rattle.psdl_rules.proofs.Found.{three_found}
use Rattle.psdl_rules.proofs.faults.home_lists.note_lists.Goals as goal

pub returns : goal.returns
returns c =
    let all = text_of c.args.standings.now in
    let ms = member_views c.args.members.now.members.items in
    let ks = identifiers_of_each c.args.lists.now.keys.items in
    let fs = identifiers_of_each c.args.lists.now.factories.items in
    three_found c.args.least.now c.all_list_members.new.least c.all_key_types.new.least c.all_list_members-2.new.least
    (flat_map (listed_wrong KeyMember ms []) ks) (flat_map (flat_map (keyed_wrong all (standings all) ms)) ks) (flat_map (listed_wrong FactoryMember ms []) fs)
    (rw (c.deref.ensures.value, c.deref-2.ensures.value) at c.in_ok-all_list_members.ensures)
    (rw c.deref-3.ensures.value at c.all_key_types.ensures)
    (rw (c.deref-4.ensures.value, c.deref-5.ensures.value) at c.in_ok-all_list_members-2.ensures)
