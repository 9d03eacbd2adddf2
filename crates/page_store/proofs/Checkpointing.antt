-- The moments of a checkpoint.
use Rattle.std.proofs.Common.{ℕ, ◌≡◌, inl, inr, List, Some, None, IfSome, refl, sym, ◌∙◌, subst}
use Rattle.std.specs.declared.option.Option.{Option}
use Rattle.pss_disk.specs.Moments.{Disk, IsImage, IsOnlyImage, IsSettled, IsStill, Moment, Through}
use Rattle.pss_disk.proofs.Passing.{then_come, weaker}
use Rattle.page_store.specs.Checkpoints.{ArePackedAnew, IsCheckpointed, IsEitherStore, IsLaid, IsMade, MayCheckpoint, kept_slots}
use Rattle.page_store.specs.Kept.{Kept}
use Rattle.page_store.specs.Stores.{AllHave, IsEmptied}
use Rattle.page_store.specs.Switch.{HasPages, IsEither, IsNextOf, IsWritten, MayFollow, Next, Old}
use Rattle.page_format.specs.declared.new_page.NewPage.{NewPage}
use Rattle.page_store.specs.declared.pages.planning.Plan.{Plan}
use Rattle.page_store.specs.inner.Planned.{IsNextRoot, IsPlanned, next_of}
use Rattle.page_format.proofs.Buffers.{of_some, some_both}
use Rattle.page_store.proofs.Following.{kept_of}

-- what is told of a value that there is
pub told : {A : Type 0} (o : Option A) (P : A → Type 0) → ((a : A) → o ≡ Some a → P a) → IfSome o P
told None P f = tt
told (Some a) P f = f a refl

settled_has : (P : List ℕ → Type 0) (content : Option (List ℕ)) (m : Moment) → IsSettled content m → IfSome content P → AllHave P m
settled_has P content m settled has = by m.disk settled
  where
    by : (o : Option Disk) → IfSome o (λ disk. (c : List ℕ) × (content ≡ Some c) × IsOnlyImage disk c) → IfSome o (λ disk. (image : List ℕ) → IsImage disk image → P image)
    by None s = tt
    by (Some disk) s = λ image is. subst P (sym (s.2.only image is)) (of_some content s.0 P s.1 has)

all_weaker : (P Q : List ℕ → Type 0) (m : Moment) → ((image : List ℕ) → P image → Q image) → AllHave P m → AllHave Q m
all_weaker P Q m f all = by m.disk all
  where
    by : (o : Option Disk) → IfSome o (λ disk. (image : List ℕ) → IsImage disk image → P image) → IfSome o (λ disk. (image : List ℕ) → IsImage disk image → Q image)
    by None all = tt
    by (Some disk) all = λ image is. f image (all image is)

-- while it only reads, each image has the old store
pub while_planned : (old : Old) (kept : Kept) (next : ℕ) (content : Option (List ℕ)) (c : List ℕ) (before after : List Moment) (now : Moment) → content ≡ Some c → MayCheckpoint old kept next c → IsSettled content now → Through before after (IsStill now)
    → Through before after (AllHave (IsEitherStore old kept next))
while_planned old kept next content c before after now told_ may settled time =
    let P = IsEitherStore old kept next in
    let has : IfSome content P = subst (λ (o : Option (List ℕ)). IfSome o P) (sym told_) (inl (record { store = may.store; journal = may.journal.holds })) in
    weaker before after (IsStill now) (AllHave P) (λ m still. subst (AllHave P) (sym still) (settled_has P content now settled has)) time

-- and then the old store or the next one
pub while_switched : (old : Old) (kept : Kept) (next : ℕ) (following : Next) (before between after : List Moment) → IsCheckpointed old kept next following.root following.objects → Through before between (AllHave (IsEitherStore old kept next)) → Through between after (AllHave (IsEither old following))
    → Through before after (AllHave (IsEitherStore old kept next))
while_switched old kept next following before between after made first second =
    then_come before between after (AllHave (IsEitherStore old kept next)) first (weaker between after (AllHave (IsEither old following)) (AllHave (IsEitherStore old kept next)) (λ m all. all_weaker (IsEither old following) (IsEitherStore old kept next) m either all) second)
  where
    either : (image : List ℕ) → IsEither old following image → IsEitherStore old kept next image
    either image (inl has) = inl has
    either image (inr emptied) = inr (record { root = following.root; objects = following.objects; made = made; store = emptied })

-- after it the content has the next store, and that is kept
pub made_of : (old : Old) (kept : Kept) (next : ℕ) (plan : Plan) (three four : Kept) (c : List ℕ) (content : Option (List ℕ)) → IsPlanned old kept next plan three c → four ≡ record three { area = plan.root.area; epoch = plan.root.epoch; shape = plan.root.shape; slots = plan.root.slots; small = plan.small }
    → IfSome content (IsEmptied plan.root (next_of kept plan c).objects) → IfSome content (HasPages (next_of kept plan c) c) → IfSome content (IsMade old kept next four)
made_of old kept next plan three four c content planned four_ emptied pages =
    some_both content (IsEmptied plan.root (next_of kept plan c).objects) (HasPages (next_of kept plan c) c) (IsMade old kept next four)
    (λ image store has. record { new = record { root = plan.root; objects = (next_of kept plan c).objects; made = planned.made; store = store }; kept_ = kept_of old kept next plan three four c image planned four_ has }) emptied pages

module _ (kept : Kept) (next : ℕ) (plan : Plan) (three : Kept) (pages : List NewPage) (content between : Option (List ℕ)) (pages_ : pages ≡ plan.pages.items) (same : between ≡ content) (plans : (old : Old) → IfSome content (λ c. MayCheckpoint old kept next c → IsPlanned old kept next plan three c)) where
  next_is : (old : Old) (c : List ℕ) → IsPlanned old kept next plan three c → IsNextOf old (next_of kept plan c) plan.root pages
  next_is old c planned = record { root_ = refl; pages_ = sym pages_; area_ = planned.follow.area_ }

  -- the moments of the whole
  pub all_while : (first second third : List Moment) (now : Moment) → IsSettled content now → Through first second (IsStill now) → ((old : Old) (following : Next) → IsNextOf old following plan.root pages → IfSome between (MayFollow old following) → Through second third (AllHave (IsEither old following)))
      → (old : Old) → IfSome content (λ c. MayCheckpoint old kept next c → Through first third (AllHave (IsEitherStore old kept next)))
  all_while first second third now settled time switch old =
      told content (λ c. MayCheckpoint old kept next c → Through first third (AllHave (IsEitherStore old kept next)))
      (λ c is may.
      let planned : IsPlanned old kept next plan three c = of_some content c (λ c. MayCheckpoint old kept next c → IsPlanned old kept next plan three c) is (plans old) may in
      let follow : IfSome between (MayFollow old (next_of kept plan c)) = subst (λ (o : Option (List ℕ)). IfSome o (MayFollow old (next_of kept plan c))) (sym (same ∙ is)) planned.follow in
      while_switched old kept next (next_of kept plan c) first second third planned.made (while_planned old kept next content c first second now is may settled time) (switch old (next_of kept plan c) (next_is old c planned) follow))

  -- what the content has at the end
  pub all_made : (four : Kept) (after : Option (List ℕ)) → four ≡ record three { area = plan.root.area; epoch = plan.root.epoch; shape = plan.root.shape; slots = plan.root.slots; small = plan.small }
      → ((old : Old) (following : Next) → IsNextOf old following plan.root pages → IfSome between (λ before. MayFollow old following before → IfSome after (IsEmptied following.root following.objects)))
      → ((old : Old) (following : Next) → IsNextOf old following plan.root pages → IfSome between (λ before. MayFollow old following before → IfSome after (HasPages following before))) → (old : Old) → IfSome content (λ c. MayCheckpoint old kept next c → IfSome after (IsMade old kept next four))
  all_made four after four_ switched placed old =
      told content (λ c. MayCheckpoint old kept next c → IfSome after (IsMade old kept next four))
      (λ c is may.
      let planned : IsPlanned old kept next plan three c = of_some content c (λ c. MayCheckpoint old kept next c → IsPlanned old kept next plan three c) is (plans old) may in
      let following = next_of kept plan c in
      let emptied : IfSome after (IsEmptied plan.root following.objects) =
      of_some between c (λ before. MayFollow old following before → IfSome after (IsEmptied following.root following.objects)) (same ∙ is) (switched old following (next_is old c planned)) planned.follow in
      let has : IfSome after (HasPages following c) = of_some between c (λ before. MayFollow old following before → IfSome after (HasPages following before)) (same ∙ is) (placed old following (next_is old c planned)) planned.follow in
      made_of old kept next plan three four c after planned four_ emptied has)

-- while nothing but reads was done
pub only_planned : (kept : Kept) (next : ℕ) (content : Option (List ℕ)) (first second : List Moment) (now : Moment) → IsSettled content now → Through first second (IsStill now) → (old : Old) → IfSome content (λ c. MayCheckpoint old kept next c → Through first second (AllHave (IsEitherStore old kept next)))
only_planned kept next content first second now settled time old =
    told content (λ c. MayCheckpoint old kept next c → Through first second (AllHave (IsEitherStore old kept next))) (λ c is may. while_planned old kept next content c first second now is may settled time)

-- what is written of the root that was planned
pub all_laid : (kept : Kept) (next : ℕ) (plan : Plan) (pages : List NewPage) (content between after : Option (List ℕ)) → pages ≡ plan.pages.items → between ≡ content → IfSome content (ArePackedAnew kept plan.pages.items) → IsNextRoot kept (kept_slots kept) plan.pages.items next plan.root
    → IfSome between (λ before. IfSome after (IsWritten plan.root pages before)) → IfSome content (λ c. IfSome after (IsLaid kept next c))
all_laid kept next plan pages content between after pages_ same packed root written =
    by content after packed (subst (λ (o : Option (List ℕ)). IfSome o (λ before. IfSome after (IsWritten plan.root plan.pages.items before))) same (subst (λ (ps : List NewPage). IfSome between (λ before. IfSome after (IsWritten plan.root ps before))) pages_ written))
  where
    by : (content after : Option (List ℕ)) → IfSome content (ArePackedAnew kept plan.pages.items) → IfSome content (λ before. IfSome after (IsWritten plan.root plan.pages.items before)) → IfSome content (λ c. IfSome after (IsLaid kept next c))
    by None after p w = tt
    by (Some c) None p w = tt
    by (Some c) (Some d) p w = record { root = plan.root; pages = plan.pages.items; packed = p; area_ = root.area_; epoch_ = root.epoch_; next_ = root.next_; shape_ = root.shape_; slots_ = root.slots_; written = w }
