use Rattle.std.proofs.Common.{sym, arith}
use Rattle.psdl_members.proofs.Slicing.{past_end}
use Rattle.psdl_members.proofs.rows.Rows.len.Goals as goal

pub returns : goal.returns
returns c n past =
    let self = c.args.self.now in
    sym (past_end self.starts.items self.entries.items n (omega (arith, past, c.saturating_sub.ensures, c.len.ensures, self.starts.ok.0)))
