use Rattle.std.proofs.Common.{◌≡◌, ◌∙◌, ◌+◌, ℕ, length, ap, arith}
use Rattle.psdl_directory.specs.Directories.{all_of}
use Rattle.psdl_directory.specs.Lookup.{at}
use Rattle.psdl_directory.specs.inner.Nodes.{what_view}
use Rattle.psdl_members.specs.Bodies.{member_views, own_members}
use Rattle.psdl_members.specs.inner.Flat.{flat, begins}
use Rattle.psdl_members.proofs.Bodied.{more_items, more_starts}
use Rattle.psdl_members.proofs.numbers.all_bodies.Goals as goal

pub loop-index-preserved : goal.loop-index-preserved
loop-index-preserved c =
    let all = all_of c.args.directory.now in
    let many : c.len.result ≡ length c.loop-index.members.items = omega (arith, c.len.ensures, c.loop-index.members.ok.0) in
    record {
      within = omega (arith, c.loop-index-test.true, c.len-index-end.ensures);
      items = more_items all (member_views c.loop-index.members.items) (member_views c.add_own.new.found.items) (what_view c.what.result) c.loop-index.index c.loop-index.invariant.items c.in_ok-add_own.ensures (c.what.ensures ∙ ap (λ (n : ℕ). (at all n).what) c.new.ensures);
      starts = more_starts all c.loop-index.members.items c.loop-index.starts.items c.push.new.self.items c.len.result c.loop-index.index c.loop-index.invariant.items many c.in_ok-push.ensures.items c.loop-index.invariant.starts;
    }

pub returns-clause-members : goal.returns-clause-members
returns-clause-members c =
    let all = all_of c.args.directory.now in
    let end : c.loop-index.index ≡ length all = omega (arith, c.loop-index-test.false, c.loop-index.invariant.within, c.len-index-end.ensures) in
    c.loop-index.invariant.items ∙ ap (λ (n : ℕ). flat (own_members all) n) end

pub returns-clause-starts : goal.returns-clause-starts
returns-clause-starts c =
    let all = all_of c.args.directory.now in
    let end : c.loop-index.index ≡ length all = omega (arith, c.loop-index-test.false, c.loop-index.invariant.within, c.len-index-end.ensures) in
    let many : c.len-2.result ≡ length c.loop-index.members.items = omega (arith, c.len-2.ensures, c.loop-index.members.ok.0) in
    more_starts all c.loop-index.members.items c.loop-index.starts.items c.push-2.new.self.items c.len-2.result c.loop-index.index c.loop-index.invariant.items many c.in_ok-push-2.ensures.items c.loop-index.invariant.starts
    ∙ ap (λ (n : ℕ). begins (own_members all) (n + 1)) end
