use Rattle.std.proofs.Common.{IsSome, refl, sym, subst, ap, ◌∙◌}
use Rattle.type_layout.specs.declared.home.HomeNo.{HomeNo}
use Rattle.type_layout.specs.Schemas.{keys_at}
use Rattle.storage_home.specs.Kept.{IsSound}
use Rattle.owner_view.specs.Keyed.{all_keyed, keyed}
use Rattle.owner_view.proofs.Showing.{stored, spells_object, shown_own}
use Rattle.owner_view.proofs.keyed.keyed_of.Goals as goal

pub keys_of_octets-requires-clause-spells : goal.keys_of_octets-requires-clause-spells
keys_of_octets-requires-clause-spells c = spells_object c.args.schema.now c.args.seen c.in-Stored.home c.in-Stored.bytes c.in-Stored.is c.requires.shown

pub returns-in_ok-keys_of_octets-in-Stored : goal.returns-in_ok-keys_of_octets-in-Stored
returns-in_ok-keys_of_octets-in-Stored c s =
    let S = c.args.schema.now in
    c.into_vec.ensures ∙ c.in_ok-keys_of_octets-in-Stored.ensures (spells_object S c.args.seen c.in-Stored.home c.in-Stored.bytes c.in-Stored.is s)
    ∙ ap (λ (h : HomeNo). keyed S s.object.values (keys_at S h)) (stored S c.args.seen c.in-Stored.home c.in-Stored.bytes c.in-Stored.is s).0

pub keys_of_record-requires-clause-object : goal.keys_of_record-requires-clause-object
keys_of_record-requires-clause-object c =
    let s = c.requires.shown in
    subst (IsSound c.args.schema.now) (sym (shown_own c.args.schema.now c.args.seen c.in-Own.object c.in-Own.is s)) (subst IsSome (sym s.fits.there) refl, s.fits.is_record)

pub returns-in_ok-keys_of_record-in-Own : goal.returns-in_ok-keys_of_record-in-Own
returns-in_ok-keys_of_record-in-Own c s =
    c.into_vec-in-Own.ensures ∙ c.in_ok-keys_of_record-in-Own.ensures ∙ ap (all_keyed c.args.schema.now) (shown_own c.args.schema.now c.args.seen c.in-Own.object c.in-Own.is s)
