use Rattle.std.proofs.Common.{◌≡◌, ◌∙◌, ◌&&◌, ◌||◌, true, not, nat_lt, length, Bool, List, ap}
use Rattle.pss_base.specs.declared.place.Place.{Place}
use Rattle.psdl_directory.specs.declared.fault.CheckKind.TheVariants.{Limit}
use Rattle.psdl_directory.specs.Declarations.{What, Declaration}
use Rattle.psdl_directory.specs.Fault.{fault_if}
use Rattle.psdl_directory.specs.Lookup.{at}
use Rattle.psdl_directory.specs.Noting.{noting}
use Rattle.psdl_directory.specs.Parts.{is_storage_type, is_concrete_type, is_forward}
use Rattle.psdl_directory.specs.inner.Nodes.{what_view}
use Rattle.psdl_lineage.specs.Descent.{members}
use Rattle.psdl_standings.specs.declared.state_entry.StateEntry.{StateEntry}
use Rattle.psdl_standings.specs.Standings.{standings}
use Rattle.psdl_standings.specs.Texts.{text_of, types_in}
use Rattle.psdl_rules.specs.Faults.Limit.{most_members, has_long_default}
use Rattle.psdl_rules.specs.Texts.{judged}
use Rattle.psdl_rules.specs.Words.{has_settled_header}
use Rattle.psdl_rules.specs.inner.Typed.{default_types, are_long}
use Rattle.psdl_rules.proofs.Recording.{long_is, all_true}
use Rattle.psdl_rules.proofs.long_type.long_type_at.Goals as goal

pub returns-clause-noted : goal.returns-clause-noted
returns-clause-noted c =
    let all = judged c.args.text.now in
    let told = text_of c.args.standings.now in
    let types = types_in c.args.standings.now in
    let n = c.args.number in
    let d = at all n in
    let kept = c.in_ok-kept.kept.items in
    let concrete = is_concrete_type d.what in
    let is : is_storage_type d.what ≡ true = cc (c.is_storage_type-is_type.ensures, ap is_storage_type c.what.ensures, c.if-not-is_type.false) in
    let settled : (not (is_forward d.what) && has_settled_header all n) ≡ true = cc (c.is_settled-is_settled.ensures, c.if-not-is_settled.false) in
    let long = nat_lt most_members (length (members all n)) || (concrete && has_long_default all (standings all) n) in
    let holds : c.is_long-holds.result ≡ long =
    c.is_long-holds.ensures
    ∙ ap (λ (l : List StateEntry). nat_lt 255 (length l) || (is_concrete_type (what_view c.what-2.result) && are_long (default_types types l))) c.deref.ensures.value
    ∙ ap (λ (w : What). nat_lt 255 (length kept) || (is_concrete_type w && are_long (default_types types kept))) c.what-2.ensures
    ∙ long_is told types n concrete kept c.in_ok-kept.ensures.types
    ∙ ap (λ (ds : List Declaration). nat_lt most_members (length (members ds n)) || (concrete && has_long_default ds (standings ds) n)) c.requires.told in
    c.note_if.ensures
    ∙ ap (λ (b : Bool). noting c.args.least.now (fault_if b Limit c.place-place.result)) (holds ∙ all_true (is_storage_type d.what) (not (is_forward d.what)) (has_settled_header all n) long is settled)
    ∙ ap (λ (p : Place). noting c.args.least.now (fault_if (is_storage_type d.what && not (is_forward d.what) && has_settled_header all n && long) Limit p)) c.place-place.ensures
