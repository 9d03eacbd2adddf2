use Rattle.std.proofs.Common.{◌≡◌, ◌∙◌, sym, ap, Err, subst, IsSome}
use Rattle.page_format.specs.declared.fault.PageFault.TheVariants.{Damaged}
use Rattle.page_format.proofs.Adding.{added_there, bad_entries, bad_packing}
use Rattle.page_format.proofs.gathering.add_page.Goals as goal

pub returns-in-Err-clause-damaged : goal.returns-in-Err-clause-damaged
returns-in-Err-clause-damaged c = λ image copy at what same.
    let e : c.in_file.result ≡ Damaged at what = cc in
    bad_entries c.args.page.now.slot c.args.page.now.octets.now image copy c.requires.head.used c.args.page.now.next _ _ c.in-Err.stop c.requires.head (λ place k is. c.in-Err.ensures.damaged place k (ap Err is)) at what (sym c.in_file.ensures ∙ e)

pub returns-in-Ok-note_small-clause-added : goal.returns-in-Ok-note_small-clause-added
returns-in-Ok-note_small-clause-added c = λ image copy.
    let taken = c.in-Ok.ensures in
    let noted = c.in-Ok-note_small.ensures in
    added_there c.args.page.now.slot c.args.page.now.octets.now image copy c.args.page.now.next c.args.head.used _ _ _ _ c.args.gathered.now.small c.note_small.new.gathered.small c.requires.used taken.whole taken.given (noted.places ∙ taken.places) (noted.rows ∙ taken.rows)
    (λ le. let l = noted.little le in (sym taken.small ∙ l.0, l.1)) (λ lt. noted.more lt ∙ taken.small)

pub returns-in-Err-note_small-clause-damaged : goal.returns-in-Err-note_small-clause-damaged
returns-in-Err-note_small-clause-damaged c = λ image copy at what same.
    let here : at ≡ c.start_of.result = cc in
    let named : what ≡ c.in-Err-note_small.kind = cc in
    let taken = c.in-Ok.ensures in
    let second = c.in-Err-note_small.ensures.second in
    bad_packing c.args.page.now.slot c.args.page.now.octets.now image copy c.args.page.now.next c.args.head.used _ _ c.requires.used taken.whole taken.given second.1 (subst IsSome taken.small second.2) at what (here ∙ c.start_of.ensures) (named ∙ second.0)
