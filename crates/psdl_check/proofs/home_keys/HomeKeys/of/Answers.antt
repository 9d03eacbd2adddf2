use Rattle.std.proofs.Common.{◌≡◌, ◌∙◌, [], List, Bool, false, map, length, ap, sym, subst}
use Rattle.std.specs.List.{list_any}
use Rattle.psdl_lineage.specs.Descent.{same_listed}
use Rattle.psdl_lineage.specs.Lineages.{text_of}
use Rattle.psdl_check.specs.declared.key_rows.OwnKey.{OwnKey}
use Rattle.psdl_check.specs.inner.Gathered.{AreGathered, FitsIds}
use Rattle.psdl_check.proofs.Gathering.{all_off, none_gathered, row_below, home_keys_are, length-cleared, any_id}
use Rattle.psdl_check.proofs.home_keys.HomeKeys.of.Goals as goal

pub add_bodies-requires : goal.add_bodies-requires
add_bodies-requires c =
    let ids = c.args.rows.now.ids in
    let sized : length c.clear.new.self ≡ length c.args.self.now.marks = ap length c.clear.ensures ∙ length-cleared c.args.self.now.marks in
    let fits : FitsIds ids (length c.clear.new.self) = subst (FitsIds ids) (sym sized) c.requires.keyed.fits in
    record { below = λ n. row_below ids (length c.clear.new.self) _ fits (c.requires.rows.numbered n) }

pub returns-clause-keys : goal.returns-clause-keys
returns-clause-keys c =
    let all = text_of c.args.self.now.lineage.now in
    let ids = c.args.rows.now.ids in
    let none : AreGathered ids c.clear.new.self c.new-found.result.items [] =
    subst (λ (f : List OwnKey). AreGathered ids c.clear.new.self f []) (sym c.new-found.ensures.items)
    (subst (λ (m : List Bool). AreGathered ids m [] []) (sym c.clear.ensures) (none_gathered ids (map (λ _. false) c.args.self.now.marks) (all_off c.args.self.now.marks))) in
    let got = c.in_ok-add_bodies.ensures.gathered ids [] c.requires.rows.numbered none in
    home_keys_are all ids c.args.rows.now.rows.items c.requires.rows c.args.self.now.sources.own c.args.self.now.sources.graph c.args.home c.deref.result.now _ c.requires.keyed.flagged c.args.self.now.graphed
    (c.deref.ensures.value ∙ c.in_ok-bodies.ensures.sources) got.once

pub returns-clause-ids : goal.returns-clause-ids
returns-clause-ids c =
    let ids = c.args.rows.now.ids in
    let none : AreGathered ids c.clear.new.self c.new-found.result.items [] =
    subst (λ (f : List OwnKey). AreGathered ids c.clear.new.self f []) (sym c.new-found.ensures.items)
    (subst (λ (m : List Bool). AreGathered ids m [] []) (sym c.clear.ensures) (none_gathered ids (map (λ _. false) c.args.self.now.marks) (all_off c.args.self.now.marks))) in
    let got = c.in_ok-add_bodies.ensures.gathered ids [] c.requires.rows.numbered none in
    got.numbered

pub returns-clause-marked : goal.returns-clause-marked
returns-clause-marked c l n is lt =
    let all = text_of c.args.self.now.lineage.now in
    let ids = c.args.rows.now.ids in
    let none : AreGathered ids c.clear.new.self c.new-found.result.items [] =
    subst (λ (f : List OwnKey). AreGathered ids c.clear.new.self f []) (sym c.new-found.ensures.items)
    (subst (λ (m : List Bool). AreGathered ids m [] []) (sym c.clear.ensures) (none_gathered ids (map (λ _. false) c.args.self.now.marks) (all_off c.args.self.now.marks))) in
    let got = c.in_ok-add_bodies.ensures.gathered ids [] c.requires.rows.numbered none in
    got.marked n lt ∙ sym (any_id ids l n c.add_bodies.new.found.items is got.numbered)
    ∙ ap (list_any (same_listed l)) (home_keys_are all ids c.args.rows.now.rows.items c.requires.rows c.args.self.now.sources.own c.args.self.now.sources.graph c.args.home c.deref.result.now _ c.requires.keyed.flagged c.args.self.now.graphed
    (c.deref.ensures.value ∙ c.in_ok-bodies.ensures.sources) got.once)
