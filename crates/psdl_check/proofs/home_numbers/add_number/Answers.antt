use Rattle.std.proofs.Common.{◌≡◌, ◌∙◌, ◌+◌, ◌++◌, ◌∷◌, [], true, false, refl, ap, rules}
use Rattle.type_layout.specs.declared.home.HomeNo.{HomeNo}
use Rattle.psdl_directory.specs.Directories.{all_of}
use Rattle.psdl_directory.specs.Lookup.{at}
use Rattle.psdl_directory.specs.Parts.{is_concrete_home}
use Rattle.psdl_check.proofs.Slots.{with_home, without_home, one_home_more, no_home_more}
use Rattle.psdl_check.proofs.home_numbers.add_number.Goals as goal

pub returns-then-not-is_home-clause-numbers : goal.returns-then-not-is_home-clause-numbers
returns-then-not-is_home-clause-numbers c =
    let all = all_of c.args.directory.now in
    let other : is_concrete_home (at all c.args.index).what ≡ false = search rules in
    c.in_ok-push.ensures.items ∙ ap (λ (h : HomeNo). c.args.numbers.now.items ++ h ∷ []) (without_home all c.args.index c.requires.index other)

pub returns-then-not-is_home-clause-homes : goal.returns-then-not-is_home-clause-homes
returns-then-not-is_home-clause-homes c =
    let all = all_of c.args.directory.now in
    let other : is_concrete_home (at all c.args.index).what ≡ false = search rules in
    no_home_more all c.args.index c.args.homes c.requires.homes other

pub returns-clause-numbers : goal.returns-clause-numbers
returns-clause-numbers c =
    let all = all_of c.args.directory.now in
    let home : is_concrete_home (at all c.args.index).what ≡ true = search rules in
    c.in_ok-push-2.ensures.items
    ∙ ap (λ (h : HomeNo). c.args.numbers.now.items ++ h ∷ []) (with_home all c.args.index c.args.homes (c.args.homes + 1) c.requires.index c.requires.homes refl home)

pub returns-clause-homes : goal.returns-clause-homes
returns-clause-homes c =
    let all = all_of c.args.directory.now in
    let home : is_concrete_home (at all c.args.index).what ≡ true = search rules in
    one_home_more all c.args.index c.args.homes (c.args.homes + 1) c.requires.homes refl home
