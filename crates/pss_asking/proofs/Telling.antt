-- How what is asked is told step by step.
use Rattle.std.proofs.Common.{◌≡◌, ℕ, List, Option, Some, None, ap, subst, ◌∙◌}
use Rattle.std.specs.Prelude.{Result, Ok, ok_or}
use Rattle.type_layout.specs.declared.home.HomeNo.{HomeNo}
use Rattle.type_layout.specs.declared.schema.Factory.{Factory}
use Rattle.type_layout.specs.declared.schema.Schema.{Schema}
use Rattle.type_layout.specs.declared.key.KeyNo.{KeyNo}
use Rattle.type_layout.specs.Types.{PlainValue}
use Rattle.type_layout.specs.Keys.{key_members}
use Rattle.type_layout.specs.Values.{IsRecord}
use Rattle.pss_machine.specs.declared.command.Rest.{Rest}
use Rattle.pss_machine.specs.declared.reply.Reply.{Reply}
use Rattle.pss_machine.specs.declared.reply.Reply.TheVariants as reply
use Rattle.pss_machine.specs.Values.{types_of}
use Rattle.pss_machine.specs.Names.{factory_named}
use Rattle.pss_machine.specs.Sessions.{Session}
use Rattle.pss_machine.specs.Asking.{◌>>=◌, read_home, read_values, making}
use Rattle.pss_laws.proofs.Coming.{Okay}
use Rattle.pss_laws.proofs.Records.{AllOf, all_record, read_fits}
use Rattle.pss_asking.specs.Given.{members_given, making_of}

-- values that were read for a key are of its members' types
pub key_fits : (S : Schema) (k : KeyNo) (rest : Rest) (vs : List PlainValue) → read_values (types_of (key_members S k)) rest ≡ Ok vs → IsRecord (key_members S k) vs
key_fits S k rest vs is = all_record (key_members S k) vs (subst (Okay (AllOf (types_of (key_members S k)))) is (read_fits (types_of (key_members S k)) rest))

-- a factory's members are known
pub made_by : (S : Schema) (next : ℕ) (session : Session) (word factory : List ℕ) (rest : Rest) (h : HomeNo) (members : List ℕ)
    → read_home S word ≡ Ok h → members_given (factory_named S h factory) ≡ Ok members → making S next session word factory rest ≡ making_of S next session h members rest
made_by S next session word factory rest h members home is =
    ap (λ (r : Result HomeNo Reply). r >>= λ k. ok_or (factory_named S k factory) reply.NoFactory >>= λ f. making_of S next session k f.members rest) home
    ∙ by (factory_named S h factory) is
  where
    by : (o : Option Factory) → members_given o ≡ Ok members → (ok_or o reply.NoFactory >>= λ f. making_of S next session h f.members rest) ≡ making_of S next session h members rest
    by None e = absurd (cc)
    by (Some f) e =
        let same : f.members ≡ members = cc in
        ap (λ (ms : List ℕ). making_of S next session h ms rest) same
