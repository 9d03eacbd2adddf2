-- What holds of every run over lines, by what holds of runs.
use Rattle.std.proofs.Common.{List, map}
use Rattle.pss_machine.specs.Run.{Said}
use Rattle.pss_laws.specs.Runs.{RunsAreSerial, HistoryLeadsToCatalog, KeysAreAlwaysUnique, ReadsAreOwnOrLast, RunsAreLive}
use Rattle.pss_laws.specs.Sound.{GoodHasGiven}
use Rattle.script_service.specs.Turns.{told_by}
use Rattle.script_service.specs.Rightful.{RunsAreRight}

pub right_runs : GoodHasGiven → RunsAreSerial → HistoryLeadsToCatalog → KeysAreAlwaysUnique → ReadsAreOwnOrLast → RunsAreLive → RunsAreRight
right_runs given serial last unique reads live S limits M next lines sound good =
    let told : List Said = map told_by lines in
    let none = given S M next good in
    record {
      serial = serial S limits M next told sound good.unique none;
      last = last S limits M next told sound good.unique none;
      reads = reads S limits M next told sound good.unique none;
      unique = unique S limits M next told sound good.unique none;
      live = live S limits M next told;
    }
