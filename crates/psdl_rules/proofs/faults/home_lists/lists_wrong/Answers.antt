use Rattle.std.proofs.Common.{◌∙◌, List, ap, sym, subst}
use Rattle.psdl_directory.specs.Noting.{noting}
use Rattle.psdl_lineage.specs.Descent.{StateMember, members}
use Rattle.psdl_members.specs.Listings.{identifiers_of_each}
use Rattle.psdl_standings.specs.Standings.{standings}
use Rattle.psdl_standings.specs.Texts.{text_of, types_in}
use Rattle.psdl_rules.specs.inner.Listing.{listed_faults}
use Rattle.psdl_rules.specs.inner.Typed.{AreTypes}
use Rattle.psdl_rules.proofs.Early.{late_lists}
use Rattle.psdl_rules.proofs.faults.home_lists.lists_wrong.Goals as goal

pub returns-then-not-early-clause-noted : goal.returns-then-not-early-clause-noted
returns-then-not-early-clause-noted c =
    let all = text_of c.args.standings.now in
    sym (late_lists all (standings all) c.args.least.now (members all c.args.home_type) (identifiers_of_each c.args.lists.now.keys.items) (identifiers_of_each c.args.lists.now.factories.items)
    (sym c.lists_early-early.ensures ∙ c.if-not-early.true))

pub note_lists-requires : goal.note_lists-requires
note_lists-requires c =
    subst (λ (ms : List StateMember). AreTypes (text_of c.args.standings.now) (types_in c.args.standings.now) ms c.in_ok-members.members.types.items) (sym c.in_ok-members.ensures.members) c.in_ok-members.ensures.types

pub returns-clause-noted : goal.returns-clause-noted
returns-clause-noted c =
    let all = text_of c.args.standings.now in
    c.in_ok-note_lists.ensures
    ∙ ap (λ (ms : List StateMember). noting c.args.least.now (listed_faults all (standings all) ms (identifiers_of_each c.args.lists.now.keys.items) (identifiers_of_each c.args.lists.now.factories.items))) c.in_ok-members.ensures.members
