use Rattle.std.proofs.Common.{List, sym, subst}
use Rattle.std.proofs.lemmas.Result.{IfOk-weaker}
use Rattle.psdl_lineage.specs.Lineages.{text_of, asked_of}
use Rattle.psdl_check.specs.declared.keys.Introducing.{Introducing}
use Rattle.psdl_check.specs.declared.home_keys.HeldKey.{HeldKey}
use Rattle.psdl_check.specs.inner.HeldKeys.{AreHeld}
use Rattle.psdl_check.specs.inner.Texts.{text_in}
use Rattle.psdl_check.proofs.Keying.{keys_numbered}
use Rattle.psdl_check.proofs.homes.number_keys.Goals as goal

pub returns-clause-numbered : goal.returns-clause-numbered
returns-clause-numbered c =
    let all = text_in c.args.text.now in
    let making = c.args.making.now in
    let asked = asked_of making.conformity in
    let ids = making.rows.ids in
    let home : Introducing = record { home = c.args.home; number = c.home_no.result; members = c.args.members } in
    let base = c.base_home-base.result in
    let held = c.deref.result.now in
    let are : AreHeld all ids c.args.home base held = subst (λ d. AreHeld d ids c.args.home base held) c.requires.ready.keyed.text (subst (λ (hs : List HeldKey). AreHeld (text_of making.home_keys.lineage.now) ids c.args.home base hs) (sym c.deref.ensures.value) c.in_ok-held.ensures.held) in
    IfOk-weaker c.number_all.result _ _
    (λ r numbered homes more names next.
    keys_numbered all asked ids home base held making.keys homes more c.requires.ready.asked c.home_no.ensures c.base_home-base.ensures are names next.whole next.made.keys next.few c.args.text.now.rising c.args.front.0 c.number_all.new.keys r (numbered ids))
    c.number_all.ensures.numbered
