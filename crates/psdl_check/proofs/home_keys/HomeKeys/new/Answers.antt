use Rattle.std.proofs.Common.{◌≡◌, ◌∙◌, length, ap, refl, arith}
use Rattle.psdl_lineage.specs.Lineages.{text_of}
use Rattle.psdl_check.proofs.Gathering.{are_flagged, length-off}
use Rattle.psdl_check.proofs.home_keys.HomeKeys.new.Goals as goal

pub returns : goal.returns
returns c =
    let all = text_of c.args.lineage.now in
    let count : c.len.result ≡ length all = c.len.ensures ∙ ap length c.directory.ensures in
    record {
      text = refl;
      flagged = are_flagged c.args.rows.now.rows.items c.len.result c.in_ok-sources.sources.own (omega (arith, c.requires.sized, count)) (c.in_ok-sources.ensures.own ∙ c.in_ok-flags.ensures);
      fits = λ l n is. length-off c.in_ok-marks.marks c.len-2.result n (c.in_ok-marks.ensures) (c.len-2.ensures l n is);
    }
