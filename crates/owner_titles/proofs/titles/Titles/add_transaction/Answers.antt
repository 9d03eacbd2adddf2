use Rattle.std.proofs.Common.{◌+◌, ◌≡◌, ◌||◌, None, sym, ap, ◌∙◌, subst, arith}
use Rattle.std.specs.Ordering.{nat_cmp, eq_by_cmp}
use Rattle.std.specs.Cmp.Lexicographic.{slice_cmp, nat_list_cmp_total}
use Rattle.std.specs.FinMap as map
use Rattle.std.specs.FinSet as set
use Rattle.recent_table.proofs.Maps.{tie_self}
use Rattle.owner_titles.specs.Meaning.{Meaning, newly, transaction_named}
use Rattle.owner_titles.specs.inner.Register.{IsSound}
use Rattle.owner_titles.proofs.Naming.{bytes_key, named_is, number}
use Rattle.owner_titles.proofs.Sounds.{transaction_sound, none_of}
use Rattle.owner_titles.proofs.titles.Titles.add_transaction.Goals as goal

-- the name under which the number stands
key_is : (c : goal.After-struct_known-1) → c.as_slice-2.result.now ≡ c.args.name
key_is c = c.as_slice-2.ensures ∙ c.in_ok-key.ensures

pub put_reserved-requires-clause-reserved : goal.put_reserved-requires-clause-reserved
put_reserved-requires-clause-reserved c =
    ap (λ s. set.contains s c.as_slice-2.result.now) c.in_ok-reserve.ensures.ok
    ∙ set.contains-insert nat_list_cmp_total c.self.inside.names.reserved c.as_slice.result.now c.as_slice-2.result.now
    ∙ ap (λ b. b || set.contains c.self.inside.names.reserved c.as_slice-2.result.now) (ap (eq_by_cmp (slice_cmp nat_cmp) c.as_slice-2.result.now) (c.as_slice.ensures ∙ sym (key_is c)) ∙ tie_self bytes_key c.as_slice-2.result.now)

-- nobody has the name
none_there : (c : goal.After-struct_known-1) → map.get c.self.inside.names.held c.args.name ≡ None
none_there c =
    none_of number (map.get c.self.inside.names.held c.args.name)
    (named_is c.self.inside.table c.self.inside.names.held c.self.invariant.named c.args.name ∙ ap (λ (m : Meaning). transaction_named m c.args.name) c.self.view_is ∙ c.requires.name)

pub put_reserved-requires-clause-free : goal.put_reserved-requires-clause-free
put_reserved-requires-clause-free c = ap (λ m. map.get m c.as_slice-2.result.now) c.reserve.ensures.held ∙ ap (map.get c.self.inside.names.held) (key_is c) ∙ none_there c

pub invariant_of-self-2 : goal.invariant_of-self-2
invariant_of-self-2 c =
    let last = c.self.inside.last in
    let count = c.self.inside.transactions in
    let held : c.put_reserved.new.self.held ≡ map.insert c.self.inside.names.held c.args.name (last + 1) =
    c.put_reserved.ensures.held ∙ (λ i. map.insert (c.reserve.ensures.held i) ((c.as_slice-2.ensures ∙ c.in_ok-key.ensures) i) (last + 1)) in
    let none : map.get c.self.inside.names.held c.args.name ≡ None =
    none_of number (map.get c.self.inside.names.held c.args.name)
    (named_is c.self.inside.table c.self.inside.names.held c.self.invariant.named c.args.name ∙ ap (λ (m : Meaning). transaction_named m c.args.name) c.self.view_is ∙ c.requires.name) in
    subst (λ m. IsSound m c.put_reserved.new.self.held (last + 1) (count + 1)) (sym c.in_ok-add.ensures.ok)
    (subst (λ n. IsSound (map.insert c.self.inside.table (last + 1) (newly c.args.name c.args.level)) n (last + 1) (count + 1)) (sym held)
    (transaction_sound c.self.inside.table c.self.inside.names.held last count c.self.invariant (newly c.args.name c.args.level) (omega (arith, c.requires.number, ap (λ (m : Meaning). m.next) c.self.view_is)) c.requires.level none))
