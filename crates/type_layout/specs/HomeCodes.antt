-- That storage homes can be told apart: each is stored as its fields.
use Rattle.std.specs.Prelude.{ℕ, List, Option, refl}
use Rattle.std.specs.Coded.{Coded, code_by, coded×, coded_ℕ, coded_list, coded_option}
use Rattle.type_layout.specs.declared.home.HomeNo.{HomeNo}
use Rattle.type_layout.specs.declared.key.KeyNo.{KeyNo}
use Rattle.type_layout.specs.declared.schema.Factory.{Factory}
use Rattle.type_layout.specs.declared.member.Layout.{Layout}
use Rattle.type_layout.specs.declared.schema.Home.{Home}
use Rattle.type_layout.specs.Types.{PlainMember}
use Rattle.type_layout.specs.Codes.{members_code}

abbrev home_no_code : Coded HomeNo
home_no_code = code_by ℕ coded_ℕ (λ h. h.0) (λ n. record { 0 = n }) (λ _. refl)

abbrev key_no_code : Coded KeyNo
key_no_code = code_by ℕ coded_ℕ (λ k. k.0) (λ n. record { 0 = n }) (λ _. refl)

abbrev factory_code : Coded Factory
factory_code = code_by (List ℕ × List ℕ) (coded× (coded_list coded_ℕ) (coded_list coded_ℕ)) (λ f. (f.name, f.members)) (λ p. record { name = p.0; members = p.1 }) (λ _. refl)

abbrev layout_code : Coded Layout
layout_code = code_by (List PlainMember) members_code (λ l. l.members) (λ ms. record { members = ms }) (λ _. refl)

abbrev pub homes_code : Coded (List Home)
homes_code =
    coded_list
    (code_by
    (List ℕ × (Option HomeNo × (Layout × (List KeyNo × List Factory))))
    (coded× (coded_list coded_ℕ) (coded× (coded_option home_no_code) (coded× layout_code (coded× (coded_list key_no_code) (coded_list factory_code)))))
    (λ h. (h.name, (h.base, (h.layout, (h.keys, h.factories)))))
    (λ p. record { name = p.0; base = p.1.0; layout = p.1.1.0; keys = p.1.1.1.0; factories = p.1.1.1.1 })
    (λ _. refl))
