-- What is kept of the messages that were heard.
use Rattle.std.proofs.Common.{◌≡◌, inl, ℕ, Bool, true, false, not, cond, ◌||◌, nat_eq, List, [], ◌∷◌, ◌++◌, Some, refl, ap, sym, ◌∙◌, subst, arith}
use Rattle.std.specs.Prelude.{◌==◌, if◌then◌else◌, filter}
use Rattle.std.specs.Ordering.{nat_cmp, is_eq}
use Rattle.std.specs.List.{range_with_len}
use Rattle.std.specs.BTreeSet.{contains}
use Rattle.std.proofs.lemmas.Bool.Decides.{nat_tests}
use Rattle.std.proofs.lemmas.List.Folds.{list_any-append}
use mathlib.Core.Path.{fun_ext}
use Rattle.rr_types.specs.declared.message.Message.{Message}
use Rattle.rr_types.specs.declared.message.MessageKind.{MessageKind}
use Rattle.rr_types.specs.Messages.{message_kind}
use Rattle.rr_draw.specs.declared.cut.Cut.{Cut}
use Rattle.rr_draw.specs.declared.fate.Fate.{Fate}
use Rattle.rr_draw.specs.declared.fate.Fate.TheVariants.{First, Again}
use Rattle.rr_draw.specs.declared.fate.Heard.{Heard}
use Rattle.rr_draw.specs.Fates.{fate_at, is_among, never_heard, Keeps, IsArrow, IsHearing}

eq_by_numbers : (x y : ℕ) → is_eq (nat_cmp x y) ≡ nat_eq x y
eq_by_numbers x y = grind (arith, nat_tests)

added : (b c : Bool) → cond b true c ≡ (c || (b || false))
added true true = refl
added true false = refl
added false true = refl
added false false = refl

-- one message more
pub keeps_more : (old new : Heard) (n : ℕ) (before : List ℕ) → ((k : ℕ) → contains nat_cmp new.numbers k ≡ cond (is_eq (nat_cmp n k)) true (contains nat_cmp old.numbers k)) → Keeps old before → Keeps new (before ++ n ∷ [])
keeps_more old new n before puts keeps k =
    puts k ∙ ap (λ (b : Bool). cond b true (contains nat_cmp old.numbers k)) (eq_by_numbers n k) ∙ ap (λ (c : Bool). cond (nat_eq n k) true c) (keeps k) ∙ added (nat_eq n k) (is_among before k)
    ∙ sym (list_any-append (λ m. m == k) before (n ∷ []))

-- it is heard again if it was there before
pub fate_is : (old : Heard) (n : ℕ) (before : List ℕ) (is_new : Bool) (fate : Fate) → is_new ≡ not (contains nat_cmp old.numbers n) → fate ≡ (if is_new then First else Again) → Keeps old before → fate ≡ fate_at before n
fate_is old n before is_new fate is named keeps = named ∙ ap (λ (b : Bool). if b then First else Again) (is ∙ ap not (keeps n)) ∙ turned (is_among before n)
  where
    turned : (b : Bool) → (if not b then First else Again) ≡ (if b then Again else First)
    turned true = refl
    turned false = refl

-- those that aren't kept were never heard
pub never_is : (heard : Heard) (before lost : List ℕ) (sent : ℕ) → lost ≡ filter (λ k. not (contains nat_cmp heard.numbers k)) (range_with_len 0 sent) → Keeps heard before → lost ≡ never_heard before sent
never_is heard before lost sent is keeps = is ∙ ap (λ (test : ℕ → Bool). filter (λ k. not (test k)) (range_with_len 0 sent)) (fun_ext keeps)

-- ---- what is drawn of a hearing

pub hearing_drawn : (cut : Cut) (before : List ℕ) (n : ℕ) (m : Message) (kind : MessageKind) (fate : Fate) (from to : ℕ) (text : List ℕ) → kind ≡ message_kind m.body → fate ≡ fate_at before n
    → from ≡ m.from → to ≡ m.to → IsArrow from to kind fate text → IsHearing cut before (Some (n, m)) text
hearing_drawn cut before n m kind fate from to text is becomes leaves comes arrow =
    inl
    (subst (λ (p : ℕ). IsArrow p m.to (message_kind m.body) (fate_at before n) text) leaves
    (subst (λ (q : ℕ). IsArrow from q (message_kind m.body) (fate_at before n) text) comes
    (subst (λ (k : MessageKind). IsArrow from to k (fate_at before n) text) is (subst (λ (f : Fate). IsArrow from to kind f text) becomes arrow))))
