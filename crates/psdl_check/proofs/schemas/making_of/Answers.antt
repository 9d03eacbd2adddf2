use Rattle.std.proofs.Common.{rules}
use Rattle.psdl_check.specs.inner.Texts.{text_in}
use Rattle.psdl_check.proofs.schemas.making_of.Goals as goal

pub returns-clause-ready : goal.returns-clause-ready
returns-clause-ready c =
    record {
      layouts = search rules;
      heirs = c.new-5.ensures (text_in c.args.text.now);
      rows = search rules;
      keyed = search rules;
      factories = search rules;
      asked = search rules;
    }
