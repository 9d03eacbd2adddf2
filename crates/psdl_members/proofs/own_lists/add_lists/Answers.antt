use Rattle.psdl_directory.specs.inner.Nodes.{what_view}
use Rattle.psdl_members.proofs.Listing.{listed_more, identifiers_more}
use Rattle.psdl_members.proofs.own_lists.add_lists.Goals as goal

pub returns-clause-listed : goal.returns-clause-listed
returns-clause-listed c = listed_more c.args.kind (what_view c.args.what) c.args.found.now.items c.add_of_home.new.found.items c.in_ok-add_of_home.ensures

pub returns-clause-identifiers : goal.returns-clause-identifiers
returns-clause-identifiers c = identifiers_more c.args.kind (what_view c.args.what) c.args.found.now.items c.add_of_home.new.found.items c.in_ok-add_of_home.ensures
