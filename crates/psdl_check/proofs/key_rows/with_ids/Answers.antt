use Rattle.std.proofs.Common.{refl}
use Rattle.psdl_check.proofs.KeyIding.{have_more, views_more}
use Rattle.psdl_check.proofs.key_rows.with_ids.Goals as goal

pub loop-listed-preserved : goal.loop-listed-preserved
loop-listed-preserved c =
    record {
      views = views_more c.loop-listed.keys.items c.push.new.self.items _ c.args.lists.now c.loop-listed.listed-index c.listed-item.result c.loop-listed-test.true c.listed-item.is c.in_ok-push.ensures.items refl c.loop-listed.invariant.views;
      ids = have_more c.loop-listed.ids c.note.new.self c.loop-listed.keys.items c.push.new.self.items _ c.listed-item.result c.in_ok-id.id c.in_ok-id.ensures.kept c.in_ok-push.ensures.items refl refl c.in_ok-id.ensures.number c.loop-listed.invariant.ids;
      kept = λ l n is. c.in_ok-id.ensures.kept l n (c.loop-listed.invariant.kept l n is);
    }
