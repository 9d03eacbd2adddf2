use Rattle.std.proofs.Common.{ℕ, ◌≡◌, ◌+◌, ◌<◌, ◌^◌, ◌++◌, ◌∷◌, ◌∙◌, [], List, Some, drop, take, length, refl, rules, sym, ap, subst}
use Rattle.std.specs.List.{AllByRecursion}
use Rattle.std.proofs.lemmas.List.{take-append-drop, take_more}
use Rattle.std.proofs.lemmas.Option.{slice_get-get_or}
use Rattle.pss_catalog.specs.Catalog.{Catalog}
use Rattle.storage_home.specs.Kept.{IsKept}
use Rattle.storage_home.proofs.Places.{take_end}
use Rattle.page_format.specs.Objects.{IsRightPut}
use Rattle.redo_journal.specs.Journal.{behind}
use Rattle.pss_recovery.specs.Bodies.{Spells}
use Rattle.pss_recovery.specs.Replaying.{AreReplayed, IsRight}
use Rattle.pss_recovery.specs.inner.Remaking.{AreReplayedSoFar}
use Rattle.pss_recovery.proofs.Replays.{replayed_on}
use Rattle.pss_recovery.proofs.replaying.replay_bodies.Goals as goal

pub loop-octets-init : goal.loop-octets-init
loop-octets-init c = record {
  made = λ M kept. (M, (refl, refl), kept);
  noted = c.new-puts.ensures;
  right = subst (AllByRecursion IsRightPut) (sym c.new-puts.ensures) tt;
  place = λ within. search rules;
}

pub replay_body-requires : goal.replay_body-requires
replay_body-requires c = let m = c.loop-octets.invariant.made c.requires.kept.0 c.requires.kept.1 in (m.0, m.2)

pub returns-in-Ok-None-clause-damaged : goal.returns-in-Ok-None-clause-damaged
returns-in-Ok-None-clause-damaged c = λ at e within M kept.
    let m = c.loop-octets.invariant.made M kept in
    let same : c.loop-octets.gate ≡ at = (cc) in
    let is : c.as_slice.result.now ≡ c.octets-item.result = c.as_slice.ensures in
    record {
      index = c.loop-octets.octets-index;
      octets = c.octets-item.result;
      there = slice_get-get_or c.args.bodies.now c.loop-octets.octets-index c.octets-item.result c.loop-octets-test.true ∙ ap Some (sym c.octets-item.is);
      before = m.0;
      number = c.loop-octets.last;
      replayed = m.1;
      place = sym same ∙ c.loop-octets.invariant.place within;
      wrong = λ N last right. (rw c.in-Ok-None.field-0-is at c.in-Ok-None.ensures.none) refl m.0 N last m.2 (subst (λ (o : List ℕ). IsRight c.args.schema.now m.0 c.loop-octets.last o N last) (sym is) right);
    }

pub loop-octets-preserved : goal.loop-octets-preserved
loop-octets-preserved c =
    let S = c.args.schema.now in
    let i = c.loop-octets.octets-index in
    let bodies = c.args.bodies.now in
    let octets = c.octets-item.result in
    let body = c.in-Ok-Some.body in
    let front : take (i + 1) bodies ≡ take i bodies ++ octets ∷ [] = take_more bodies i octets c.loop-octets-test.true ∙ ap (λ (o : List ℕ). take i bodies ++ o ∷ []) (sym c.octets-item.is) in
    let spells : Spells octets body = subst (λ (o : List ℕ). Spells o body) c.as_slice.ensures (rw c.in-Ok-Some.field-0-is at c.in-Ok-Some.ensures.spells) in
    subst (λ (l : List (List ℕ)). AreReplayedSoFar S c.args.next c.args.homes.now bodies l c.replay_body.new.homes body.next c.append_puts.new.puts c.gate_after-gate.result) (sym front)
    (replayed_on S c.args.next c.args.homes.now bodies (take i bodies) c.loop-octets.homes c.loop-octets.last c.loop-octets.puts c.loop-octets.gate c.loop-octets.invariant c.requires.kept octets body c.replay_body.new.homes c.append_puts.new.puts c.gate_after-gate.result
    (drop (i + 1) bodies) spells (rw c.in-Ok-Some.field-0-is at c.in-Ok-Some.ensures.made) c.in-Ok.ensures
    (subst (λ (o : List ℕ). behind c.loop-octets.gate (length o) < 2 ^ 64 → c.gate_after-gate.result ≡ behind c.loop-octets.gate (length o)) c.as_slice-in-loop-octets.ensures c.gate_after-gate.ensures)
    (ap (λ l. l ++ drop (i + 1) bodies) (sym front) ∙ take-append-drop (i + 1) bodies))

pub returns-clause-replayed : goal.returns-clause-replayed
returns-clause-replayed c = λ M kept.
    subst (λ (l : List (List ℕ)). (N : Catalog) × AreReplayed c.args.schema.now M c.args.next l N c.loop-octets.last × IsKept c.args.schema.now N c.loop-octets.homes) (take_end c.args.bodies.now c.loop-octets.octets-index c.loop-octets-test.false) (c.loop-octets.invariant.made M kept)
