-- Least faults that were found apart.
use Rattle.std.proofs.Common.{◌≡◌, List, [], ◌∷◌, ◌++◌, Option, Some, sym, ap, ◌∙◌}
use Rattle.psdl_directory.specs.declared.fault.CheckFault.{CheckFault}
use Rattle.psdl_directory.specs.Declarations.{Declaration}
use Rattle.psdl_directory.specs.Fault.{lesser, least}
use Rattle.psdl_directory.specs.Noting.{noting}
use Rattle.psdl_directory.proofs.Noting.{lesser-assoc, lesser_none, noting-append}

noting_from : (first : Option CheckFault) (fs : List CheckFault) → noting first fs ≡ lesser first (least fs)
noting_from first [] = sym (lesser_none first)
noting_from first (f ∷ fs) = noting_from (lesser first (Some f)) fs ∙ lesser-assoc first (Some f) (least fs)

pub one_found : (f : List Declaration → List CheckFault) (first new found : Option CheckFault) (told all : List Declaration) → told ≡ all → found ≡ least (f told) → new ≡ lesser first found → new ≡ noting first (f all)
one_found f first new found told all same is e = e ∙ ap (lesser first) (is ∙ ap (λ (ds : List Declaration). least (f ds)) same) ∙ sym (noting_from first (f all))

pub two_found : (first x new : Option CheckFault) (a b : List CheckFault) → x ≡ noting first a → new ≡ noting x b → new ≡ noting first (a ++ b)
two_found first x new a b p q = q ∙ ap (λ (o : Option CheckFault). noting o b) p ∙ sym (noting-append first a b)

pub four_found : (first x y z new : Option CheckFault) (a b c d : List CheckFault) → x ≡ noting first a → y ≡ noting x b → z ≡ noting y c → new ≡ noting z d → new ≡ noting first (a ++ b ++ c ++ d)
four_found first x y z new a b c d p q r s =
    s ∙ ap (λ (o : Option CheckFault). noting o d) (r ∙ ap (λ (o : Option CheckFault). noting o c) (q ∙ ap (λ (o : Option CheckFault). noting o b) p))
    ∙ ap (λ (o : Option CheckFault). noting (noting o c) d) (sym (noting-append first a b))
    ∙ ap (λ (o : Option CheckFault). noting o d) (sym (noting-append first (a ++ b) c))
    ∙ sym (noting-append first (a ++ b ++ c) d)

pub five_found : (first v w x y new : Option CheckFault) (a b c d e : List CheckFault) → v ≡ noting first a → w ≡ noting v b → x ≡ noting w c → y ≡ noting x d → new ≡ noting y e → new ≡ noting first (a ++ b ++ c ++ d ++ e)
five_found first v w x y new a b c d e p q r s t =
    t ∙ ap (λ (o : Option CheckFault). noting o e) (four_found first v w x y a b c d p q r s) ∙ sym (noting-append first (a ++ b ++ c ++ d) e)

pub three_found : (first x y new : Option CheckFault) (a b c : List CheckFault) → x ≡ noting first a → y ≡ noting x b → new ≡ noting y c → new ≡ noting first (a ++ b ++ c)
three_found first x y new a b c p q r =
    r ∙ ap (λ (o : Option CheckFault). noting o c) (q ∙ ap (λ (o : Option CheckFault). noting o b) p)
    ∙ ap (λ (o : Option CheckFault). noting o c) (sym (noting-append first a b))
    ∙ sym (noting-append first (a ++ b) c)
