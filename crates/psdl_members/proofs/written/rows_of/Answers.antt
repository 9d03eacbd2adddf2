use Rattle.psdl_directory.specs.Directories.{all_of}
use Rattle.psdl_members.specs.Listings.{listed_views}
use Rattle.psdl_members.proofs.Entered.{alike_by, past_all}
use Rattle.psdl_members.proofs.written.rows_of.Goals as goal

pub returns-clause-clash : goal.returns-clause-clash
returns-clause-clash c =
    let written = c.in_ok-written.written in
    alike_by c.args.kind (all_of c.args.directory.now) (listed_views written.lists.items) written.starts.items c.in_ok-rows.rows c.in_ok-rows.ensures.clash c.in_ok-written.ensures.lists c.in_ok-written.ensures.starts

pub returns-clause-past : goal.returns-clause-past
returns-clause-past c =
    past_all c.args.kind (all_of c.args.directory.now) c.in_ok-rows.rows c.in_ok-written.written.starts.items c.in_ok-rows.ensures.starts c.in_ok-written.ensures.starts
