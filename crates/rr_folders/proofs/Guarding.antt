-- What a verdict guards: no node that has been formatted is taken for a fresh one.
use Rattle.std.proofs.Common.{◌≡◌, ◌⊎◌, inl, inr, ◌||◌, ℕ, zero, suc, ◌+◌, ◌*◌, ◌%◌, ◌^◌, ◌<◌, ◌≤◌, ◌&&◌, Bool, true, false, cond, eqb, ltb, List, [], ◌∷◌, ◌++◌, length, map, is_none, Option, None, Some, refl, ap, subst, ◌∙◌, sym, arith}
use Rattle.std.specs.List.{list_all}
use Rattle.std.proofs.lemmas.Bool.{and_parts, eq-eqb, eqb-true, ltb-false, ltb-true}
use Rattle.std.proofs.Math.Nat.{zero-div}
use Rattle.rr_types.specs.Nodes.{has_member, with_member}
use Rattle.rr_folders.specs.declared.cluster.Identity.{Identity}
use Rattle.rr_folders.specs.declared.cluster.Cluster.{Cluster}
use Rattle.rr_folders.specs.declared.cluster.Mark.{Mark}
use Rattle.rr_folders.specs.declared.cluster.Digest.{Digest}
use Rattle.rr_folders.specs.declared.cluster.Reached.{Reached}
use Rattle.rr_folders.specs.declared.cluster.Course.{Course}
use Rattle.rr_folders.specs.declared.front.Content.{Content}
use Rattle.rr_folders.specs.declared.front.Content.TheVariants as contents
use Rattle.rr_folders.specs.declared.judging.Found.{Found}
use Rattle.rr_folders.specs.declared.judging.Past.{Past}
use Rattle.rr_folders.specs.declared.judging.Owner.{Owner}
use Rattle.rr_folders.specs.declared.judging.Fault.{Fault}
use Rattle.rr_folders.specs.declared.judging.Fault.TheVariants.{OtherNode, OtherNodes, OtherCluster, Older, Outdated, Replaced, LeftOut, Unfounded}
use Rattle.rr_folders.specs.declared.judging.Verdict.{Verdict}
use Rattle.rr_folders.specs.declared.judging.Verdict.TheVariants.{Open, Begin, TakeOn, Refused}
use Rattle.rr_folders.specs.Clusters.{same_identity, same_digest, reaches, is_behind, times_in}
use Rattle.rr_folders.specs.Returns.{HomeState}
use Rattle.rr_folders.specs.Judging.{mark_fault, owner_fault, loss_fault, stale_fault, past_fault, ◌or_else◌, course_of, lapse_of, forgetful_fault, lag_fault, noted_fault, outdated_fault, ◌if_also◌, older_fault, own_past, past_of, memory_fault, disk_fault, fault_of, AreLeftOut, at_or, first_left_out, count_there, leave_fault, left_out_with, first_there, first_fault, refused_or, is_blank, is_unmarked, is_fresh, is_fresh_at, first_identity, identity_or, verdict_by_nodes, verdict_by_all, verdict_of, Each, HasDisk, IsMarked, IsAsFar, IsAsNoted, IsNotBehind, KeepsItsMark, KeepsItsDisk, IsFresh, IsServed, Guards, MayReturn}

-- ---- one folder

neither : (x y : Option Fault) → (x or_else y) ≡ None → (x ≡ None) × (y ≡ None)
neither None y e = (refl, e)
neither (Some x) y e = absurd cc

-- no fault, where one was told unless a test held
passed : (b : Bool) (y : Option Fault) (x : Fault) → cond b y (Some x) ≡ None → (b ≡ true) × (y ≡ None)
passed true y x e = (refl, e)
passed false y x e = absurd cc

own_disk : (n p : ℕ) (c : Content) → owner_fault n p c ≡ None → loss_fault c ≡ None → c ≡ contents.Holds p n
own_disk n p contents.Absent own kept = absurd cc
own_disk n p contents.Blank own kept = absurd cc
own_disk n p contents.Cut own kept = absurd cc
own_disk n p (contents.Holds q m) own kept =
    let count = passed (eqb m n) (cond (eqb q p) None (Some (OtherNode q))) (OtherNodes m) own in
    let node = passed (eqb q p) None (OtherNode q) count.1 in
    ap (λ (k : ℕ). contents.Holds k m) (eqb-true q p node.0) ∙ ap (λ (k : ℕ). contents.Holds p k) (eqb-true m n count.0)

same_is : (i j : Identity) → same_identity i j ≡ true → i ≡ j
same_is i j h =
    let both = and_parts (eqb i.first j.first) (eqb i.second j.second) h in
    let make : ℕ → ℕ → Identity = λ a b. record { first = a; second = b } in
    ap (λ (a : ℕ). make a i.second) (eqb-true i.first j.first both.0) ∙ ap (λ (b : ℕ). make j.first b) (eqb-true i.second j.second both.1)

-- no fault, where one was told if a test held
held_back : (b : Bool) (y : Option Fault) (x : Fault) → cond b (Some x) y ≡ None → (b ≡ false) × (y ≡ None)
held_back true y x e = absurd cc
held_back false y x e = (refl, e)

own_mark : (i : Identity) (past : Past) (p : ℕ) (m : Option Mark) → mark_fault i p m ≡ None → past_fault (Some past) p m ≡ None
    → (far : Option Course) × (times : ℕ) × (times_in past.replaced p ≤ times) × (m ≡ Some (record { identity = i; node = p; course = far; replaced = times }))
own_mark i past p None own marked = absurd cc
own_mark i past p (Some m) own marked =
    let same = passed (same_identity m.identity i) (cond (eqb m.node p) None (Some (OtherNode m.node))) OtherCluster own in
    let node = passed (eqb m.node p) None (OtherNode m.node) same.1 in
    let fresh = held_back (ltb m.replaced (times_in past.replaced p)) None Replaced marked in
    let make : Identity → ℕ → Option Mark = λ j q. Some (record { identity = j; node = q; course = m.course; replaced = m.replaced }) in (
      m.course,
      m.replaced,
      ltb-false m.replaced (times_in past.replaced p) fresh.0,
      ap (λ (j : Identity). make j m.node) (same_is m.identity i same.0) ∙ ap (λ (q : ℕ). make i q) (eqb-true m.node p node.0),
    )

digest_is : (d e : Digest) → same_digest d e ≡ true → d ≡ e
digest_is d e h =
    let a = and_parts (eqb d.first e.first) (eqb d.second e.second && (eqb d.third e.third && eqb d.fourth e.fourth)) h in
    let b = and_parts (eqb d.second e.second) (eqb d.third e.third && eqb d.fourth e.fourth) a.1 in
    let c = and_parts (eqb d.third e.third) (eqb d.fourth e.fourth) b.1 in
    let make : ℕ → ℕ → ℕ → ℕ → Digest = λ w x y z. record { first = w; second = x; third = y; fourth = z } in
    ap (λ (w : ℕ). make w d.second d.third d.fourth) (eqb-true d.first e.first a.0)
    ∙ ap (λ (x : ℕ). make e.first x d.third d.fourth) (eqb-true d.second e.second b.0)
    ∙ ap (λ (y : ℕ). make e.first e.second y d.fourth) (eqb-true d.third e.third c.0)
    ∙ ap (λ (z : ℕ). make e.first e.second e.third z) (eqb-true d.fourth e.fourth c.1)

reaches_is : (r to : Reached) → reaches r to ≡ true → r ≡ to
reaches_is r to h =
    let a = and_parts (eqb r.epoch to.epoch) (eqb r.length to.length && same_digest r.digest to.digest) h in
    let b = and_parts (eqb r.length to.length) (same_digest r.digest to.digest) a.1 in
    let make : ℕ → ℕ → Digest → Reached = λ e l d. record { epoch = e; length = l; digest = d } in
    ap (λ (e : ℕ). make e r.length r.digest) (eqb-true r.epoch to.epoch a.0)
    ∙ ap (λ (l : ℕ). make to.epoch l r.digest) (eqb-true r.length to.length b.0)
    ∙ ap (λ (d : Digest). make to.epoch to.length d) (digest_is r.digest to.digest b.1)

some_told : (b c : Bool) (x y z : Fault) → cond b (Some x) (cond c (Some y) (Some z)) ≡ None → ⊥
some_told true c x y z e = absurd cc
some_told false true x y z e = absurd cc
some_told false false x y z e = absurd cc

one_reaches : (c : Course) (r : Reached) (b d : Bool) → reaches r c.from ≡ b → reaches r c.to ≡ d
    → cond (b || d) None (cond (eqb r.epoch c.to.epoch) (Some (lapse_of r c.to)) (cond (eqb r.epoch c.from.epoch) (Some (lapse_of r c.from)) (Some Older))) ≡ None
    → (r ≡ c.from) ⊎ (r ≡ c.to)
one_reaches c r true d from to e = inl (reaches_is r c.from from)
one_reaches c r false true from to e = inr (reaches_is r c.to to)
one_reaches c r false false from to e = absurd (some_told (eqb r.epoch c.to.epoch) (eqb r.epoch c.from.epoch) (lapse_of r c.to) (lapse_of r c.from) Older e)

as_far : (far : Option Course) (active : Option Reached) → forgetful_fault far active ≡ None → IsAsFar far active
as_far None active none = tt
as_far (Some c) None none = absurd cc
as_far (Some c) (Some r) none = (r, refl, one_reaches c r (reaches r c.from) (reaches r c.to) refl refl none)

untold : (b : Bool) → cond b (Some Outdated) None ≡ None → b ≡ false
untold true e = absurd cc
untold false e = refl

as_noted : (noted far : Option Course) → lag_fault noted far ≡ None → IsAsNoted noted far
as_noted None far none = tt
as_noted (Some n) None none = absurd cc
as_noted (Some n) (Some c) none = untold (is_behind c.to n.from) none

-- a mark that has nothing against it, of which one was noted
not_before : (n m : Mark) → noted_fault n m ≡ None → (n.replaced ≤ m.replaced) × (m.replaced ≡ n.replaced → IsAsNoted n.course m.course)
not_before n m none =
    let later = held_back (ltb m.replaced n.replaced) (cond (eqb m.replaced n.replaced) (lag_fault n.course m.course) None) Outdated none in (
      ltb-false m.replaced n.replaced later.0,
      λ same. as_noted n.course m.course (subst (λ (b : Bool). cond b (lag_fault n.course m.course) None ≡ None) (eq-eqb m.replaced n.replaced same) later.1),
    )

not_behind : (noted mark : Option Mark) → outdated_fault noted mark ≡ None → IsNotBehind noted mark
not_behind None mark none = tt
not_behind (Some n) None none = tt
not_behind (Some n) (Some m) none = λ same. not_before n m (subst (λ (b : Bool). cond b (noted_fault n m) None ≡ None) same none)

-- one of two faults isn't there
not_both : (x y : Option Fault) → (x if_also y) ≡ None → (x ≡ None) ⊎ (y ≡ None)
not_both None y e = inl refl
not_both (Some x) None e = inr refl
not_both (Some x) (Some y) e = absurd cc

one_is_as_noted : (f : Found) → (outdated_fault f.noted f.mark ≡ None) ⊎ (forgetful_fault (course_of f.noted) f.by_note ≡ None)
    → IsNotBehind f.noted f.mark ⊎ IsAsFar (course_of f.noted) f.by_note
one_is_as_noted f (inl none) = inl (not_behind f.noted f.mark none)
one_is_as_noted f (inr none) = inr (as_far (course_of f.noted) f.by_note none)

remembers : (f : Found) → memory_fault f ≡ None → KeepsItsMark f
remembers f none =
    let both = neither (forgetful_fault (course_of f.mark) f.active) (older_fault f) none in
    let one = not_both (outdated_fault f.noted f.mark) (forgetful_fault (course_of f.noted) f.by_note) both.1 in
    (as_far (course_of f.mark) f.active both.0, one_is_as_noted f one)

keeps_by : (i : Identity) (n : ℕ) (past : Past) (p : ℕ) (f : Found) → fault_of i n (Some past) p f ≡ None → has_member past.formatted p ≡ true
    → HasDisk n p f × IsMarked i past.replaced p f × KeepsItsMark f
keeps_by i n past p f none formatted =
    let outer = neither (mark_fault i p f.mark or_else owner_fault n p f.content) (disk_fault (Some past) p f) none in
    let own = neither (mark_fault i p f.mark) (owner_fault n p f.content) outer.0 in
    let all : Option Fault = (loss_fault f.content or_else past_fault (Some past) p f.mark) or_else memory_fault f in
    let asked : cond (has_member past.formatted p) all None ≡ None = outer.1 in
    let lost : all ≡ None = subst (λ (b : Bool). cond b all None ≡ None) formatted asked in
    let apart = neither (loss_fault f.content or_else past_fault (Some past) p f.mark) (memory_fault f) lost in
    let kept = neither (loss_fault f.content) (past_fault (Some past) p f.mark) apart.0 in
    (own_disk n p f.content own.1 kept.0, own_mark i past p f.mark own.0 kept.1, remembers f apart.1)

keeps : (c : Cluster) (p : ℕ) (f : Found) → fault_of c.identity c.nodes (Some (past_of c)) p f ≡ None → KeepsItsDisk c p f
keeps c p f none formatted = keeps_by c.identity c.nodes (past_of c) p f none formatted

has : (i : Identity) (n p : ℕ) (f : Found) → fault_of i n None p f ≡ None → HasDisk n p f × KeepsItsMark f
has i n p f none =
    let outer = neither (mark_fault i p f.mark or_else owner_fault n p f.content) (loss_fault f.content or_else memory_fault f) none in
    let lost = neither (loss_fault f.content) (memory_fault f) outer.1 in
    (own_disk n p f.content (neither (mark_fault i p f.mark) (owner_fault n p f.content) outer.0).1 lost.0, remembers f lost.1)

-- ---- all folders

none_here : (p : ℕ) (x : Option Fault) (y : Option (ℕ × Fault)) → at_or p x y ≡ None → (x ≡ None) × (y ≡ None)
none_here p None y e = (refl, e)
none_here p (Some x) y e = absurd cc

each_of : (P : ℕ → Found → Type 0) (i : Identity) (n : ℕ) (formatted : Option Past) → ((p : ℕ) (f : Found) → fault_of i n formatted p f ≡ None → P p f)
    → (p : ℕ) (fs : List (Option Found)) → first_fault i n formatted p fs ≡ None → Each P p fs
each_of P i n formatted one p [] none = tt
each_of P i n formatted one p (None ∷ fs) none = each_of P i n formatted one (p + 1) fs none
each_of P i n formatted one p (Some f ∷ fs) none =
    let both = none_here p (fault_of i n formatted p f) (first_fault i n formatted (p + 1) fs) none in
    (one p f both.0, each_of P i n formatted one (p + 1) fs both.1)

no_mark : (m : Option Mark) → is_unmarked m ≡ true → m ≡ None
no_mark None e = refl
no_mark (Some m) e = absurd cc

fresh_each : (p : ℕ) (fs : List (Option Found)) → list_all is_fresh_at fs ≡ true → Each IsFresh p fs
fresh_each p [] all = tt
fresh_each p (None ∷ fs) all = absurd cc
fresh_each p (Some f ∷ fs) all =
    let both = and_parts (is_fresh f) (list_all is_fresh_at fs) all in
    let one = and_parts (is_blank f.content) (is_unmarked f.mark) both.0 in
    ((one.0, no_mark f.mark one.1), fresh_each (p + 1) fs both.1)

-- ---- folders that are left out

all_there : (p : ℕ) (fs : List (Option Found)) → first_left_out p fs ≡ None → count_there fs ≡ length fs
all_there p [] e = refl
all_there p (None ∷ fs) e = absurd cc
all_there p (Some f ∷ fs) e = ap (λ (k : ℕ). suc k) (all_there (p + 1) fs e)

may_leave : (n formatted count : ℕ) → leave_fault n formatted count ≡ None → (formatted + 1 ≡ 2 ^ n) × (n < 2 * count)
may_leave n formatted count e =
    let all = passed (eqb (formatted + 1) (2 ^ n)) (cond (ltb n (2 * count)) None (Some LeftOut)) Unfounded e in
    let most = passed (ltb n (2 * count)) None LeftOut all.1 in
    (eqb-true (formatted + 1) (2 ^ n) all.0, ltb-true n (2 * count) most.0)

no_fault : (p : ℕ) (x : Option Fault) → left_out_with (Some p) x ≡ None → x ≡ None
no_fault p None e = refl
no_fault p (Some x) e = absurd cc

served : (n formatted : ℕ) (fs : List (Option Found)) (x : Option ℕ) → 1 ≤ n → length fs ≡ n → first_left_out 0 fs ≡ x
    → left_out_with x (leave_fault n formatted (count_there fs)) ≡ None → IsServed n formatted fs
served n formatted fs None some long is e =
    let count : count_there fs ≡ n = all_there 0 fs is ∙ long in
    record {
      majority = omega (arith, some, count);
      all = λ p other. absurd (let no : None ≡ Some p = sym is ∙ other in cc);
    }
served n formatted fs (Some q) some long is e =
    let both = may_leave n formatted (count_there fs) (no_fault q (leave_fault n formatted (count_there fs)) e) in
    record { majority = both.1; all = λ p other. both.0 }

-- ---- the verdict

guards_open : (n : ℕ) (c : Cluster) (fs : List (Option Found)) (x : Option (ℕ × Fault)) → c.nodes ≡ n → IsServed n c.formatted fs
    → first_fault c.identity n (Some (past_of c)) 0 fs ≡ x → Guards n (Some c) fs (refused_or x (Open c))
guards_open n c fs (Some x) same serves is = tt
guards_open n c fs None same serves is =
    let none : first_fault c.identity c.nodes (Some (past_of c)) 0 fs ≡ None = subst (λ (k : ℕ). first_fault c.identity k (Some (past_of c)) 0 fs ≡ None) (sym same) is in
    (refl, same, serves, each_of (KeepsItsDisk c) c.identity c.nodes (Some (past_of c)) (keeps c) 0 fs none)

guards_left : (n : ℕ) (c : Cluster) (fs : List (Option Found)) (x : Option (ℕ × Fault)) → 1 ≤ n → length fs ≡ n → c.nodes ≡ n
    → left_out_with (first_left_out 0 fs) (leave_fault n c.formatted (count_there fs)) ≡ x → Guards n (Some c) fs (refused_or x (verdict_by_nodes n c fs))
guards_left n c fs (Some x) some long same is = tt
guards_left n c fs None some long same is =
    guards_open n c fs (first_fault c.identity n (Some (past_of c)) 0 fs) same (served n c.formatted fs (first_left_out 0 fs) some long refl is) refl

guards_file : (n : ℕ) (c : Cluster) (fs : List (Option Found)) (b : Bool) → 1 ≤ n → length fs ≡ n → eqb c.nodes n ≡ b
    → Guards n (Some c) fs (cond b (refused_or (left_out_with (first_left_out 0 fs) (leave_fault n c.formatted (count_there fs))) (verdict_by_nodes n c fs)) (Refused (first_there 0 fs) (OtherNodes c.nodes)))
guards_file n c fs true some long same =
    guards_left n c fs (left_out_with (first_left_out 0 fs) (leave_fault n c.formatted (count_there fs))) some long (eqb-true c.nodes n same) refl
guards_file n c fs false some long other = tt

guards_taken : (n : ℕ) (i : Identity) (named : Option Identity) (fs : List (Option Found)) (x : Option (ℕ × Fault)) → first_left_out 0 fs ≡ None
    → first_fault i n None 0 fs ≡ x → Guards n None fs (refused_or x (TakeOn named))
guards_taken n i named fs (Some x) whole is = tt
guards_taken n i named fs None whole is = (whole, each_of (λ p f. HasDisk n p f × KeepsItsMark f) i n None (has i n) 0 fs is)

guards_all : (n : ℕ) (fs : List (Option Found)) (b : Bool) → first_left_out 0 fs ≡ None → list_all is_fresh_at fs ≡ b
    → Guards n None fs (cond b Begin (refused_or (first_fault (identity_or (first_identity fs)) n None 0 fs) (TakeOn (first_identity fs))))
guards_all n fs true whole all = (whole, fresh_each 0 fs all)
guards_all n fs false whole some =
    guards_taken n (identity_or (first_identity fs)) (first_identity fs) fs (first_fault (identity_or (first_identity fs)) n None 0 fs) whole refl

guards_folders : (n : ℕ) (fs : List (Option Found)) (x : Option ℕ) → first_left_out 0 fs ≡ x
    → Guards n None fs (refused_or (left_out_with x (Some Unfounded)) (verdict_by_all n fs))
guards_folders n fs (Some p) is = tt
guards_folders n fs None is = guards_all n fs (list_all is_fresh_at fs) is refl

guards_of : (n : ℕ) (file : Option Cluster) (fs : List (Option Found)) → 1 ≤ n → length fs ≡ n → Guards n file fs (verdict_of n file fs)
guards_of n (Some c) fs some long = guards_file n c fs (eqb c.nodes n) some long refl
guards_of n None fs some long = guards_folders n fs (first_left_out 0 fs) refl

pub verdict_guards : (n : ℕ) (file : Option Cluster) (fs : List (Option Found)) (v : Verdict) → 1 ≤ n → length fs ≡ n → v ≡ verdict_of n file fs → Guards n file fs v
verdict_guards n file fs v some long is = subst (λ (w : Verdict). Guards n file fs w) (sym is) (guards_of n file fs some long)

-- ---- a node that starts again

-- no node is in the empty set
pub in_none : (p : ℕ) → has_member 0 p ≡ false
in_none p = ap (λ (k : ℕ). eqb (k % 2) 1) (zero-div (2 ^ p))

-- a node is in the set of it alone
in_own : (p : ℕ) → p < 7 → has_member (with_member 0 p) p ≡ true
in_own zero h = refl
in_own (suc zero) h = refl
in_own (suc (suc zero)) h = refl
in_own (suc (suc (suc zero))) h = refl
in_own (suc (suc (suc (suc zero)))) h = refl
in_own (suc (suc (suc (suc (suc zero))))) h = refl
in_own (suc (suc (suc (suc (suc (suc zero)))))) h = refl
in_own (suc (suc (suc (suc (suc (suc (suc p))))))) h = absurd (omega (arith, h))

-- a folder in which nothing is wrong, though its node has been formatted, and whose disk is as far as the node left it
pub return_guards : (o : Owner) (past : Past) (f : Found) (left : Option Course) (reached : Option Reached) → o.node < 7 → past ≡ own_past o
    → fault_of o.identity o.nodes (Some past) o.node f ≡ None → forgetful_fault left reached ≡ None → MayReturn o f left reached
return_guards o past f left reached known own none far =
    let free : fault_of o.identity o.nodes (Some (own_past o)) o.node f ≡ None =
    subst (λ (x : Past). fault_of o.identity o.nodes (Some x) o.node f ≡ None) own none in
    let kept = keeps_by o.identity o.nodes (own_past o) o.node f free (in_own o.node known) in
    record { disk = kept.0; mark = kept.1; keeps = kept.2; far = as_far left reached far }

-- ---- lists to which a place is added

-- the places at which nothing stands, one more among them or not
pub left_out_behind : {A : Type 0} (without p : ℕ) (xs : List (Option A)) (x : Option A) → AreLeftOut without p xs → has_member without (p + length xs) ≡ is_none x
    → AreLeftOut without p (xs ++ x ∷ [])
left_out_behind {A} without p [] x all one =
    let place : p + 0 ≡ p = omega arith in
    (subst (λ (k : ℕ). has_member without k ≡ is_none x) place one, tt)
left_out_behind {A} without p (y ∷ xs) x all one =
    let place : p + suc (length xs) ≡ p + 1 + length xs = omega arith in
    (all.0, left_out_behind without (p + 1) xs x all.1 (subst (λ (k : ℕ). has_member without k ≡ is_none x) place one))

pub left_out_pushed : {A : Type 0} (without k : ℕ) (xs : List (Option A)) (x : Option A) → AreLeftOut without 0 xs → length xs ≡ k → has_member without k ≡ is_none x
    → AreLeftOut without 0 (xs ++ x ∷ [])
left_out_pushed {A} without k xs x all long one =
    let place : k ≡ 0 + length xs = omega (arith, long) in
    left_out_behind without 0 xs x all (subst (λ (j : ℕ). has_member without j ≡ is_none x) place one)

-- the same where nothing is left out
pub none_left_out : {A : Type 0} (xs : List (Option A)) (x : A) → AreLeftOut 0 0 xs → AreLeftOut 0 0 (xs ++ Some x ∷ [])
none_left_out {A} xs x all = left_out_behind 0 0 xs (Some x) all (in_none (0 + length xs))

map_behind : {A B : Type 0} (f : A → B) (xs : List A) (x : A) → map f (xs ++ x ∷ []) ≡ map f xs ++ f x ∷ []
map_behind {A} {B} f [] x = refl
map_behind {A} {B} f (y ∷ xs) x = ap (λ ys. f y ∷ ys) (map_behind f xs x)

long_map : {A B : Type 0} (f : A → B) (xs : List A) → length (map f xs) ≡ length xs
long_map {A} {B} f [] = refl
long_map {A} {B} f (y ∷ xs) = ap (λ (k : ℕ). suc k) (long_map f xs)

-- the same of homes, by their disks
pub home_pushed : {D H : Type 0} (without k : ℕ) (hs : List (HomeState D H)) (h : HomeState D H) → AreLeftOut without 0 (map (λ g. g.disk) hs) → length hs ≡ k
    → has_member without k ≡ is_none h.disk → AreLeftOut without 0 (map (λ g. g.disk) (hs ++ h ∷ []))
home_pushed {D} {H} without k hs h all long one =
    subst (λ xs. AreLeftOut without 0 xs) (sym (map_behind (λ (g : HomeState D H). g.disk) hs h))
    (left_out_pushed without k (map (λ g. g.disk) hs) h.disk all (long_map (λ (g : HomeState D H). g.disk) hs ∙ long) one)
