use Rattle.std.proofs.Common.{rules}
use Rattle.psdl_check.specs.inner.KeyIds.{own_view}
use Rattle.psdl_check.proofs.Introduced.{introduced_more}
use Rattle.psdl_check.proofs.keys.Keys.introduce.Goals as goal

pub returns : goal.returns
returns c all ids introduced has numbered are =
    introduced_more all ids introduced c.args.self.now _ c.args.home.now (own_view c.args.key) c.args.key.id c.len-number.result c.in_ok-record.record are has numbered c.in_ok-record.ensures c.in_ok-push.ensures.ok (search rules) (search rules)
    c.put_number.ensures.sized c.in_ok-put_number.ensures.put
