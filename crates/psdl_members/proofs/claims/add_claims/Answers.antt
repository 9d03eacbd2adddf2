use Rattle.std.proofs.Common.{◌∙◌, List, arith, refl}
use Rattle.psdl_members.specs.declared.entry.Entry.{Entry}
use Rattle.psdl_members.proofs.Claiming.{no_more, one_more, all_more}
use Rattle.psdl_members.proofs.Covered.{below_read}
use Rattle.psdl_members.proofs.claims.add_claims.Goals as goal

pub loop-entry-init : goal.loop-entry-init
loop-entry-init c = record { sized = refl; more = no_more c.args.claims.now.items c.args.declaration c.args.entries.now }

pub add_claim-requires : goal.add_claim-requires
add_claim-requires c = below_read _ _ c.args.entries.now c.loop-entry.entry-index _ c.loop-entry-test.true c.requires c.loop-entry.invariant.sized

pub loop-entry-preserved : goal.loop-entry-preserved
loop-entry-preserved c =
    let es : List Entry = c.args.entries.now in
    record {
      sized = c.add_claim.ensures.sized ∙ c.loop-entry.invariant.sized;
      more = one_more c.args.claims.now.items c.loop-entry.claims.items c.add_claim.new.claims.items c.args.declaration es c.loop-entry.entry-index _ c.loop-entry-test.true c.in_ok-add_claim.ensures.put c.loop-entry.invariant.more;
    }

pub returns-in_err-add_claim-clause-sized : goal.returns-in_err-add_claim-clause-sized
returns-in_err-add_claim-clause-sized c = c.add_claim.ensures.sized ∙ c.loop-entry.invariant.sized

pub returns-clause-sized : goal.returns-clause-sized
returns-clause-sized c = c.loop-entry.invariant.sized

pub returns-clause-more : goal.returns-clause-more
returns-clause-more c = all_more c.args.claims.now.items c.loop-entry.claims.items c.args.declaration c.args.entries.now c.loop-entry.entry-index (omega (arith, c.loop-entry-test.false)) c.loop-entry.invariant.more
