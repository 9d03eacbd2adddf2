use Rattle.std.proofs.Common.{◌≡◌, ◌∙◌, ◌+◌, ℕ, List, length, filter, nat_lt, ap, arith}
use Rattle.std.specs.List.{list_all, range_with_len}
use Rattle.psdl_members.specs.declared.entry.Entry.{Entry}
use Rattle.psdl_members.specs.inner.Contested.{is_contested}
use Rattle.psdl_members.specs.inner.Flat.{begins}
use Rattle.psdl_members.specs.inner.Rowed.{row_of}
use Rattle.psdl_members.proofs.Covered.{all_left}
use Rattle.psdl_members.proofs.Rowing.{items_next, starts_next, rows_are}
use Rattle.psdl_members.proofs.contested.contested_rows.Goals as goal

pub loop-index-preserved : goal.loop-index-preserved
loop-index-preserved c =
    let kept : ℕ → List Entry = λ n. filter (is_contested c.args.lists.now) (row_of c.args.rows.now n) in
    let entries : List Entry = c.loop-index.entries.items in
    let many : c.len.result ≡ length entries = omega (arith, c.len.ensures, c.loop-index.entries.ok.0) in
    record {
      items = items_next kept entries (filter (is_contested c.args.lists.now) c.of.result.now) c.add_contested.new.kept.items c.loop-index.index c.loop-index.invariant.items (ap (λ (l : List Entry). filter (is_contested c.args.lists.now) l) c.of.ensures) c.in_ok-add_contested.ensures;
      starts = starts_next kept entries c.loop-index.starts.items c.push.new.self.items c.len.result c.loop-index.index c.loop-index.invariant.items many c.in_ok-push.ensures.items c.loop-index.invariant.starts;
    }

pub invariant_of-result : goal.invariant_of-result
invariant_of-result c =
    let rows = c.args.rows.now in
    record {
      below =
          ap (λ (l : List Entry). list_all (λ e. nat_lt e.name rows.names) l) c.loop-index.invariant.items
          ∙ all_left (λ (e : Entry). nat_lt e.name rows.names) (is_contested c.args.lists.now) rows.starts.items rows.entries.items rows.below (range_with_len 0 c.loop-index.index);
    }

pub returns : goal.returns
returns c n =
    let kept : ℕ → List Entry = λ m. filter (is_contested c.args.lists.now) (row_of c.args.rows.now m) in
    let entries : List Entry = c.loop-index.entries.items in
    let many : c.len-2.result ≡ length entries = omega (arith, c.len-2.ensures, c.loop-index.entries.ok.0) in
    let starts : c.push-2.new.self.items ≡ begins kept (c.loop-index.index + 1) =
    starts_next kept entries c.loop-index.starts.items c.push-2.new.self.items c.len-2.result c.loop-index.index c.loop-index.invariant.items many c.in_ok-push-2.ensures.items c.loop-index.invariant.starts in
    rows_are kept c.loop-index.index entries c.push-2.new.self.items c.loop-index.invariant.items starts
    (λ m past. ap (λ (l : List Entry). filter (is_contested c.args.lists.now) l) (c.len-index-end.ensures m (omega (arith, past, c.loop-index-test.false)))) n
