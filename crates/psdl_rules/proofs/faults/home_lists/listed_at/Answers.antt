use Rattle.std.proofs.Common.{◌∙◌, List, ap, sym}
use Rattle.psdl_tree.specs.declared.names.Identifier.{Identifier}
use Rattle.psdl_directory.specs.declared.fault.CheckFault.{CheckFault}
use Rattle.psdl_directory.specs.Declarations.{Declaration}
use Rattle.psdl_directory.specs.Lookup.{at}
use Rattle.psdl_directory.specs.Noting.{noting}
use Rattle.psdl_lineage.specs.Descent.{members, type_of_home}
use Rattle.psdl_members.specs.Listings.{identifiers_of_each, identifiers_of}
use Rattle.psdl_members.specs.declared.list_kind.ListKind.TheVariants as kinds
use Rattle.psdl_standings.specs.Standings.{standings}
use Rattle.psdl_standings.specs.Texts.{text_of}
use Rattle.psdl_rules.specs.Texts.{judged}
use Rattle.psdl_rules.specs.inner.Listing.{listed_faults}
use Rattle.psdl_rules.proofs.HomeTypes.{of_type}
use Rattle.psdl_rules.proofs.faults.home_lists.listed_at.Goals as goal

pub returns-clause-noted : goal.returns-clause-noted
returns-clause-noted c =
    let all = judged c.args.text.now in
    let told = text_of c.args.standings.now in
    let n = c.args.number in
    let t = c.in-Some.home_type in
    let first = c.args.least.now in
    let ks = identifiers_of_each c.in_ok-lists.lists.keys.items in
    let fs = identifiers_of_each c.in_ok-lists.lists.factories.items in
    c.in_ok-lists_wrong.ensures.noted
    ∙ ap (λ (ds : List Declaration). noting first (listed_faults ds (standings ds) (members ds t) ks fs)) c.requires.told
    ∙ ap (λ (l : List (List Identifier)). noting first (listed_faults all (standings all) (members all t) l fs)) (c.in_ok-lists.ensures.keys ∙ ap (identifiers_of kinds.Key) c.what.ensures)
    ∙ ap (λ (l : List (List Identifier)). noting first (listed_faults all (standings all) (members all t) (identifiers_of kinds.Key (at all n).what) l)) (c.in_ok-lists.ensures.factories ∙ ap (identifiers_of kinds.Factory) c.what.ensures)
    ∙ ap (λ (l : List CheckFault). noting first l) (of_type all (standings all) n t (sym c.in-Some.is ∙ c.type_of_home.ensures ∙ ap (λ (ds : List Declaration). type_of_home ds n) c.lineage.ensures))
