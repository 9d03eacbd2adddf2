use Rattle.std.proofs.Common.{◌≡◌, ◌++◌, ◌∙◌, replicate, refl}
use Rattle.pss_base.specs.declared.damage.DamageKind.TheVariants as kind
use Rattle.page_format.proofs.Adding.{bad_head}
use Rattle.page_format.specs.Places.{slot_start}
use Rattle.page_format.proofs.Rows.{ok_then, rows_more, stands_there}
use Rattle.page_format.proofs.gathering.gather_page.Goals as goal

pub returns-in-None-clause-damaged : goal.returns-in-None-clause-damaged
returns-in-None-clause-damaged c = λ image copy at what same.
    let here : at ≡ c.start_of.result = cc in
    let named : what ≡ kind.Page = cc in
    bad_head c.args.page.now.slot c.args.page.now.octets.now image c.args.page.now.next _ _ copy (c.in-None.ensures.wrong refl) at what (here ∙ c.start_of.ensures) named

pub returns-in-Some-clause-alone : goal.returns-in-Some-clause-alone
returns-in-Some-clause-alone c = λ pages so_far.
    let base = slot_start c.args.page.now.slot in
    let image = replicate base 0 ++ c.args.page.now.octets.now in
    ok_then c.add_page.result _ _ (rows_more image c.args.page.now.next pages c.args.page.now.slot _ _ _ _ _ _ so_far) (c.add_page.ensures.added image (stands_there base 16384 c.args.page.now.octets.now c.requires.page))
