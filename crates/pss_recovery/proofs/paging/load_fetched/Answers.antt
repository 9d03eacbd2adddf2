use Rattle.pss_recovery.proofs.Paged.{few_octets, has_loaded, stop_refused, stop_told}
use Rattle.pss_recovery.proofs.paging.load_fetched.Goals as goal

pub load_rows-requires-clause-small : goal.load_rows-requires-clause-small
load_rows-requires-clause-small g c = few_octets c.args.root.now c.args.fetched.rows c.requires.limits c.requires.rows

pub returns-in-Ok-clause-loaded : goal.returns-in-Ok-clause-loaded
returns-in-Ok-clause-loaded g c = has_loaded c.args.schema.now c.args.root.now c.args.fetched c.in-Ok.homes (g.W.Station.content c.args.w.now) c.requires.limits c.requires.rooted c.requires.pages c.requires.rows c.requires.noted c.in-Ok.ensures.loaded

pub returns-in-Err-clause-refused : goal.returns-in-Err-clause-refused
returns-in-Err-clause-refused g c =
    stop_refused c.args.schema.now c.args.root.now c.args.fetched c.in-Err.stop c.of_rows.result (g.W.Station.content c.args.w.now) c.requires.rooted c.requires.pages
    (stop_told c.args.schema.now c.args.root.now.next c.args.fetched.rows c.load_rows.result c.in-Err.stop c.in-Err.is c.load_rows.ensures.refused c.load_rows.ensures.total) (c.of_rows.ensures.refused c.args.schema.now)
