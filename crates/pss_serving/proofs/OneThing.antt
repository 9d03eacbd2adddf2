-- A text is one thing, by what reading it came to.
use Rattle.std.proofs.Common.{◌≡◌, ◌∙◌, sym, subst, ℕ, ◌<◌, List, length, take, Some, None, IfSome, Result, Ok, Err, arith}
use Rattle.std.specs.declared.option.Option.{Option}
use Rattle.psdl_tree.specs.Trees.{Definitions}
use Rattle.psdl_syntax.specs.Syntax.{HasNoTree, IsTextOf, most_bytes}
use Rattle.psdl_directory.specs.Declarations.{all_declarations}
use Rattle.psdl_check.specs.Faults.{first_fault}
use Rattle.pss_serving.specs.Checked.{HasFault, IsOneThing, IsSound}
use Rattle.pss_serving.specs.Found.{IsOne}
use Rattle.pss_serving.specs.declared.reading.SoundText.{SoundText}
use Rattle.pss_serving.specs.declared.reading.Unread.{Unread}
use Rattle.pss_serving.specs.declared.reading.Unread.TheVariants as unread
use Rattle.pss_serving.specs.declared.schema_fault.SchemaFault.{SchemaFault}
use Rattle.pss_serving.specs.declared.schema_fault.SchemaFault.TheVariants.{Syntax, Check}
use Rattle.pss_serving.proofs.Found.{told}

never : HasNoTree → (text : List ℕ) → ((one other : Definitions) → IsTextOf one text → IsTextOf other text → one ≡ other)
    → (fault : SchemaFault) (tree : Definitions) → HasFault text fault → IsSound text tree → ⊥
never no_tree text one (Syntax fault) tree is sound = no_tree text fault.place fault.kind tree is sound.0
never no_tree text one (Check fault) tree is sound =
    let same : is.0 ≡ tree = one is.0 tree is.1 sound.0 in
    let none : first_fault (all_declarations is.0) ≡ None = subst (λ (t : Definitions). first_fault (all_declarations t) ≡ None) (sym same) sound.1 in
    cc (is.2, none)

-- it has this tree and no other
pub of_tree : HasNoTree → (text : List ℕ) (tree : Definitions) → ((other : Definitions) → IsTextOf other text → tree ≡ other) → IsOneThing text
of_tree no_tree text tree only =
    let one : (a b : Definitions) → IsTextOf a text → IsTextOf b text → a ≡ b = λ a b is also. sym (only a is) ∙ only b also in
    record { one_tree = one; never_both = never no_tree text one }

-- it has no tree
pub of_none : (text : List ℕ) → ((tree : Definitions) → IsTextOf tree text → ⊥) → IsOneThing text
of_none text none = record { one_tree = λ one other is also. absurd (none one is); never_both = λ fault tree is sound. none tree sound.0 }

-- whatever it was found to be
pub any : (found : Result SoundText Unread) (text : List ℕ) → IsOneThing text → IsOne found (Some text)
any (Ok sound) text is = is
any (Err (unread.Refused fault)) text is = is
any (Err unread.ReadFault) text is = tt
any (Err unread.NoMemory) text is = tt

of_source : (found : Result SoundText Unread) (source : Option (List ℕ)) → IfSome source IsOneThing → IsOne found source
of_source (Ok sound) source is = is
of_source (Err (unread.Refused fault)) source is = is
of_source (Err unread.ReadFault) source is = tt
of_source (Err unread.NoMemory) source is = tt

-- all bytes that come were read
pub whole_one : (found : Result SoundText Unread) (bytes : List ℕ) (source : Option (List ℕ)) → IfSome source (λ all. bytes ≡ all) → IsOne found (Some bytes) → IsOne found source
whole_one (Ok sound) bytes source is one = told IsOneThing bytes source one is
whole_one (Err (unread.Refused fault)) bytes source is one = told IsOneThing bytes source one is
whole_one (Err unread.ReadFault) bytes source is one = tt
whole_one (Err unread.NoMemory) bytes source is one = tt

over_limit : (n : ℕ) (all : List ℕ) → most_bytes < n → n < length all → IsOneThing all
over_limit n all past over = of_none all (λ tree is. omega (arith, is.within))

-- more bytes come than a text may have
pub longer_one : (n : ℕ) (found : Result SoundText Unread) (bytes : List ℕ) (source : Option (List ℕ)) → most_bytes < n → IfSome source (λ all. (n < length all) × (bytes ≡ take n all)) → IsOne found source
longer_one n found bytes None past is = of_source found None tt
longer_one n found bytes (Some all) past is = of_source found (Some all) (over_limit n all past is.0)
