-- How owners and commits are stored.
use Rattle.std.specs.Prelude.{ℕ, zero, suc, ◌≡◌, List, Bool, refl}
use Rattle.std.specs.Coded.{Coded, code_by, coded×, coded_ℕ, coded_list, coded_bool}
use Rattle.std.specs.FinMap as map
use Rattle.std.specs.Ordering.{nat_cmp}
use Rattle.pss_machine.specs.declared.level.Level.{Level}
use Rattle.pss_machine.specs.declared.level.Level.TheVariants.{Serializable, ReadCommitted, Basic}
use Rattle.owner_titles.specs.declared.called.Called.{Called}
use Rattle.owner_titles.specs.Meaning.{Meaning}
use Rattle.owner_titles.specs.History.{History}

abbrev pub level_number : Level → ℕ
level_number Serializable = 0
level_number ReadCommitted = 1
level_number Basic = 2

abbrev pub level_numbered : ℕ → Level
level_numbered zero = Serializable
level_numbered (suc zero) = ReadCommitted
level_numbered (suc (suc n)) = Basic

pub level_again : (level : Level) → level_numbered (level_number level) ≡ level
level_again Serializable = refl
level_again ReadCommitted = refl
level_again Basic = refl

abbrev pub level_code : Coded Level
level_code = code_by ℕ coded_ℕ level_number level_numbered level_again

abbrev pub called_code : Coded Called
called_code =
    code_by
    (List ℕ × (Level × (Bool × ℕ)))
    (coded× (coded_list coded_ℕ) (coded× level_code (coded× coded_bool coded_ℕ)))
    (λ c. (c.name, (c.level, (c.failed, c.commands))))
    (λ q. record { name = q.0; level = q.1.0; failed = q.1.1.0; commands = q.1.1.1 })
    (λ _. refl)

abbrev pub meaning_code : Coded Meaning
meaning_code = code_by (map.FinMap nat_cmp Called × ℕ) (coded× (map.code coded_ℕ called_code) coded_ℕ) (λ m. (m.called, m.next)) (λ q. record { called = q.0; next = q.1 }) (λ _. refl)

abbrev pub history_code : Coded History
history_code = code_by (ℕ × List (List ℕ)) (coded× coded_ℕ (coded_list (coded_list coded_ℕ))) (λ h. (h.commits, h.recent)) (λ q. record { commits = q.0; recent = q.1 }) (λ _. refl)
