-- The values of a command end within its line.
use Rattle.std.proofs.Common.{◌≡◌, ◌∙◌, ap, sym, refl, arith, ℕ, ◌+◌, ◌≤◌, List, [], ◌∷◌, length, Some}
use Rattle.pss_machine.specs.declared.command.Rest.{Rest}
use Rattle.pss_machine.specs.declared.command.Command.{Command}
use Rattle.pss_machine.specs.declared.command.Command.TheVariants as command
use Rattle.script_text.specs.Words.{Word, words, words_in, whole, end_of}
use Rattle.script_text.specs.Parts.{Part}
use Rattle.script_text.specs.Spelling.{Spells, IsSpelled, spelling}
use Rattle.script_text.proofs.RowLaws.{goes}
use Rattle.connector.specs.Rests.{IsInLine, HasShortRest}

-- they end where the line does
same_end : (parts : List Part) (values rest : Rest) (ws : List Word) → words_in rest ≡ ws → Spells parts (Some values) rest ws → end_of values ≡ end_of rest
same_end [] values rest ws is spelled = ap end_of spelled
same_end (part ∷ parts) values rest [] is spelled = absurd spelled
same_end (part ∷ parts) values rest (w ∷ ws) is spelled =
    let behind = goes rest w ws is in
    same_end parts values w.rest ws (sym behind.words) spelled.1 ∙ behind.end

in_line : (text : List ℕ) (parts : List Part) (values : Rest) → length text ≤ 65536 → Spells parts (Some values) (whole text) (words text) → IsInLine values
in_line text parts values short spelled =
    let end : values.column + length values.text ≡ 1 + length text = same_end parts values (whole text) (words text) refl spelled in
    omega (arith, end)

pub short_rest : (text : List ℕ) (c : Command) → length text ≤ 65536 → IsSpelled text c → HasShortRest c
short_rest text (command.Create s home values) short spelled = in_line text (spelling (command.Create s home values)).parts values short spelled
short_rest text (command.Make s home factory values) short spelled = in_line text (spelling (command.Make s home factory values)).parts values short spelled
short_rest text (command.Find s home key values) short spelled = in_line text (spelling (command.Find s home key values)).parts values short spelled
short_rest text (command.FindRef s home key values) short spelled = in_line text (spelling (command.FindRef s home key values)).parts values short spelled
short_rest text (command.Set s entry member value) short spelled = in_line text (spelling (command.Set s entry member value)).parts value short spelled
short_rest text _ short spelled = tt
