use Rattle.std.proofs.Common.{◌≡◌, codes, refl, ap, sym, ◌∙◌, Ok, [], ◌∷◌}
use Rattle.std.specs.Fmt.{decimal}
use Rattle.pss_daemon.proofs.Shapes.{one_name, two_names, second_name, demo_alone}
use Rattle.pss_daemon.proofs.planning.plan.Goals as goal

pub returns-then-is_command-clause-ok : goal.returns-then-is_command-clause-ok
returns-then-is_command-clause-ok c =
    (refl, one_name c.args.words.now (codes "check") (c.is_command.ensures.0 c.if-is_command.true))

pub returns-then-is_command-2-clause-ok : goal.returns-then-is_command-2-clause-ok
returns-then-is_command-2-clause-ok c =
    (refl, refl, two_names c.args.words.now (codes "init") (c.is_command-2.ensures.0 c.if-is_command-2.true))

pub returns-then-is_command-3-clause-ok : goal.returns-then-is_command-3-clause-ok
returns-then-is_command-3-clause-ok c =
    (refl, refl, two_names c.args.words.now (codes "run") (c.is_command-3.ensures.0 c.if-is_command-3.true))

pub returns-in-Some-clause-ok : goal.returns-in-Some-clause-ok
returns-in-Some-clause-ok c =
    let demo = c.is_command-4.ensures.0 c.if-not-is_command.false in
    let names = second_name c.args.words.now (codes "demo") c.index-words-1.result demo c.index-words-1.is in
    let said : c.index-words-1.result ≡ decimal c.in-Some.rounds = sym c.as_slice.ensures ∙ c.in-Some.ensures.2 in
    (c.in-Some.ensures.0, c.in-Some.ensures.1, refl, (names.0, names.1 ∙ ap (λ w. codes "demo" ∷ w ∷ names.0 ∷ []) said))

pub returns-in-Some-clause-only : goal.returns-in-Some-clause-only
returns-in-Some-clause-only c = λ plan other.
    ap Ok (demo_alone c.args.words.now c.in-Some.rounds plan (returns-in-Some-clause-ok c) other)
