-- Conditions that are noted declaration by declaration.
use Rattle.std.proofs.Common.{◌≡◌, ℕ, ◌+◌, ◌<◌, List, [], ◌∷◌, ◌++◌, length, take, Option, sym, ap, ◌∙◌, arith, append_assoc}
use Rattle.std.proofs.lemmas.List.{length-take-le, take_more, append-nil}
use Rattle.psdl_directory.specs.declared.fault.CheckFault.{CheckFault}
use Rattle.psdl_directory.specs.Declarations.{Declaration}
use Rattle.psdl_directory.specs.Fault.{each, each_from}
use Rattle.psdl_directory.specs.Lookup.{at, nothing}
use Rattle.psdl_directory.specs.Noting.{noting}
use Rattle.psdl_directory.proofs.Noting.{noting-append}
use Rattle.psdl_rules.specs.inner.Passes.{IsPassed}

each_one_more : (condition : ℕ → Declaration → List CheckFault) (i : ℕ) (ds : List Declaration) (d : Declaration) (n : ℕ) → n ≡ i + length ds
    → each_from condition i (ds ++ d ∷ []) ≡ each_from condition i ds ++ condition n d
each_one_more condition i [] d n e = let same : n ≡ i = omega (arith, e) in rw same (append-nil (condition i d))
each_one_more condition i (x ∷ ds) d n e =
    ap (λ (l : List CheckFault). condition i x ++ l) (each_one_more condition (i + 1) ds d n (omega (arith, e)))
    ∙ sym (append_assoc (condition i x) (each_from condition (i + 1) ds) (condition n d))

pub more : (condition : ℕ → Declaration → List CheckFault) (all : List Declaration) (i : ℕ) (first now new : Option CheckFault) → i < length all
    → IsPassed condition all i first now → new ≡ noting now (condition i (at all i)) → IsPassed condition all (i + 1) first new
more condition all i first now new lt so_far is =
    let front : List CheckFault = each condition (take i all) in
    is ∙ ap (λ (o : Option CheckFault). noting o (condition i (at all i))) so_far
    ∙ sym (noting-append first front (condition i (at all i)))
    ∙ ap (λ (l : List CheckFault). noting first l) (sym (each_one_more condition 0 (take i all) (at all i) i (omega (arith, length-take-le i all (omega (arith, lt))))))
    ∙ ap (λ (ds : List Declaration). noting first (each condition ds)) (sym (take_more all i nothing lt))
