use Rattle.std.proofs.Common.{◌≡◌, ◌∙◌, ◌+◌, ℕ, List, length, ap, arith}
use Rattle.psdl_directory.specs.Declarations.{What}
use Rattle.psdl_directory.specs.Directories.{all_of}
use Rattle.psdl_directory.specs.Lookup.{at}
use Rattle.psdl_directory.specs.inner.Nodes.{what_view}
use Rattle.psdl_lineage.specs.Descent.{Listed}
use Rattle.psdl_members.specs.Listings.{listed_views}
use Rattle.psdl_members.specs.inner.Flat.{flat, begins}
use Rattle.psdl_members.specs.inner.Listing.{own_lists, listed_in}
use Rattle.psdl_members.proofs.Listing.{length-listed as length-views}
use Rattle.psdl_members.proofs.Rowing.{items_next, starts_next}
use Rattle.psdl_members.proofs.written.all_lists.Goals as goal

pub loop-index-preserved : goal.loop-index-preserved
loop-index-preserved c =
    let all = all_of c.args.directory.now in
    let own : ℕ → List Listed = own_lists c.args.kind all in
    let many : c.len.result ≡ length (listed_views c.loop-index.lists.items) = omega (arith, c.len.ensures, c.loop-index.lists.ok.0, length-views c.loop-index.lists.items) in
    let here : listed_in c.args.kind (what_view c.what.result) ≡ own c.loop-index.index =
    ap (λ (w : What). listed_in c.args.kind w) (c.what.ensures ∙ ap (λ (n : ℕ). (at all n).what) c.new.ensures) in
    record {
      within = omega (arith, c.loop-index-test.true, c.len-index-end.ensures);
      items = items_next own (listed_views c.loop-index.lists.items) (listed_in c.args.kind (what_view c.what.result)) (listed_views c.add_lists.new.found.items) c.loop-index.index c.loop-index.invariant.items here c.in_ok-add_lists.ensures.listed;
      starts = starts_next own (listed_views c.loop-index.lists.items) c.loop-index.starts.items c.push.new.self.items c.len.result c.loop-index.index c.loop-index.invariant.items many c.in_ok-push.ensures.items c.loop-index.invariant.starts;
    }

pub returns-clause-lists : goal.returns-clause-lists
returns-clause-lists c =
    let all = all_of c.args.directory.now in
    let end : c.loop-index.index ≡ length all = omega (arith, c.loop-index-test.false, c.loop-index.invariant.within, c.len-index-end.ensures) in
    c.loop-index.invariant.items ∙ ap (λ (n : ℕ). flat (own_lists c.args.kind all) n) end

pub returns-clause-starts : goal.returns-clause-starts
returns-clause-starts c =
    let all = all_of c.args.directory.now in
    let own : ℕ → List Listed = own_lists c.args.kind all in
    let end : c.loop-index.index ≡ length all = omega (arith, c.loop-index-test.false, c.loop-index.invariant.within, c.len-index-end.ensures) in
    let many : c.len-2.result ≡ length (listed_views c.loop-index.lists.items) = omega (arith, c.len-2.ensures, c.loop-index.lists.ok.0, length-views c.loop-index.lists.items) in
    starts_next own (listed_views c.loop-index.lists.items) c.loop-index.starts.items c.push-2.new.self.items c.len-2.result c.loop-index.index c.loop-index.invariant.items many c.in_ok-push-2.ensures.items c.loop-index.invariant.starts
    ∙ ap (λ (n : ℕ). begins own (n + 1)) end
