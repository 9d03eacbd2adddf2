use Rattle.std.proofs.Common.{◌≡◌, ◌≤◌, take, length, None}
use Rattle.std.specs.List.{find, flat_map, range_with_len}
use Rattle.psdl_lineage.specs.Descent.{concrete_homes}
use Rattle.psdl_rules.specs.Faults.Limit.{most_shape}
use Rattle.psdl_standings.specs.TextLengths.{cut}
use Rattle.psdl_check.specs.Schemas.{introduced}
use Rattle.psdl_check.specs.inner.Made.{IsReady, AreMade, lines_before}
use Rattle.psdl_check.specs.inner.Texts.{text_in}
use Rattle.psdl_check.proofs.Overlong.{passes}
use Rattle.psdl_check.proofs.homes.add_homes.Given as goal

abbrev pub invariant-loop-place : goal.invariant-loop-place
invariant-loop-place l =
    let all = text_in l.text in
    record {
      within : l.place ≤ length (concrete_homes all);
      ready : IsReady all l.making;
      made : AreMade all (take l.place (concrete_homes all)) l.making;
      few : length (flat_map (introduced all) (take l.place (concrete_homes all))) ≤ length (lines_before all l.place);
      short : length (lines_before all l.place) ≤ most_shape;
      length : l.length.0 ≡ cut (length (lines_before all l.place));
      fits : find (passes all) (range_with_len 1 l.place) ≡ None;
    }
