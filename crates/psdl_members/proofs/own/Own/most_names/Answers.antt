use Rattle.std.proofs.Common.{arith}
use Rattle.psdl_members.proofs.own.Own.most_names.Goals as goal

pub returns : goal.returns
returns c =
    record {
      members = c.larger.ensures.first;
      keys = omega (arith, c.larger-lists.ensures.first, c.larger.ensures.second);
      factories = omega (arith, c.larger-lists.ensures.second, c.larger.ensures.second);
    }
