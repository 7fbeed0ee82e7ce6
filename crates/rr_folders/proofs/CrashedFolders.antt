-- Folders as crashes leave them agree, and the longest of their lists begins the decided list and has each reply.
use Rattle.std.proofs.Common.{◌≡◌, ℕ, ◌+◌, ◌<◌, ◌≤◌, Bool, true, false, ◌==◌, nat_lt, if◌then◌else◌, List, [], ◌∷◌, ◌++◌, length, take, drop, Contains, Some, inl, inr, refl, sym, ap, ◌∙◌, arith, subst, eqb-true, ltb-true, ltb-false, append-nil, append_assoc}
use Rattle.std.specs.List.{AllByRecursion, fold}
use Rattle.std.proofs.lemmas.Bool.{eqb-false, cases_lt}
use Rattle.std.proofs.lemmas.List.{take_at, take-take, take-append-drop}
use Rattle.rr_types.specs.declared.command.Command.{Command}
use Rattle.rr_types.specs.declared.command.RequestNo.{RequestNo}
use Rattle.rr_types.specs.declared.command.Reply.{Reply}
use Rattle.rr_types.specs.declared.fact.Fact.{Fact}
use Rattle.rr_types.specs.Facts.{standing_of, decision_of}
use Rattle.rr_types.specs.Promises.{promise_of, decided_from}
use Rattle.rr_types.specs.Registry.{reply_of}
use Rattle.rr_model.specs.World.{World, Step, Acknowledged, decided_prefix, IsRun, end_of}
use Rattle.rr_model.specs.Sound.{IsDecidedList}
use Rattle.rr_model.specs.Laws.{settled}
use Rattle.rr_model.proofs.Promised.{standing_in-promise_of}
use Rattle.rr_model.proofs.NodePrefixes.{same_prefix}
use Rattle.rr_model.proofs.Replies.{same_reply}
use Rattle.rr_model.proofs.Soundness.{sound_list}
use Rattle.rr_model.proofs.CrashedNodes.{decide_alike, begin_the_list, know_their_replies}
use Rattle.rr_folders.specs.declared.verify_folder.Reading.{Reading}
use Rattle.rr_folders.specs.declared.verify_folder.Reading.TheVariants.{Facts, Blank, Refused}
use Rattle.rr_folders.specs.Agreement.{decided_at, Alike, AllAlike, FitsAt, AllFit, Agree, decided_of, IsBeginningOf, longer, longest_decided}
use Rattle.rr_folders.specs.Crashed.{IsLeftOf, AreLeftFrom, AreLeftBy}

-- ---- they agree

decided_by_facts : (facts : List Fact) (i : ℕ) (c : Command) → decided_at (promise_of facts) i ≡ Some c → decision_of (standing_of i facts) ≡ Some c
decided_by_facts facts i c one = sym (ap decision_of (standing_in-promise_of facts i)) ∙ one

alike_left : (n : ℕ) (run : List Step) → IsRun n run → (p q : ℕ) (r s : Reading) → IsLeftOf n (end_of run) p r → IsLeftOf n (end_of run) q s → Alike r s
alike_left n run is p q (Facts f) (Facts g) x y = λ i c d one other.
    decide_alike n run is p q (x.2).0 (y.2).0 i c d
    (decided_by_facts (settled (end_of run) p (x.2).0) i c (subst (λ es. decided_at es i ≡ Some c) (x.2).1 one))
    (decided_by_facts (settled (end_of run) q (y.2).0) i d (subst (λ es. decided_at es i ≡ Some d) (y.2).1 other))
alike_left n run is p q (Facts f) Blank x y = absurd y
alike_left n run is p q (Facts f) (Refused e) x y = absurd y
alike_left n run is p q Blank s x y = absurd x
alike_left n run is p q (Refused e) s x y = absurd x

alike_with_all : (n : ℕ) (run : List Step) → IsRun n run → (p q : ℕ) (r : Reading) (ss : List Reading) → IsLeftOf n (end_of run) p r → AreLeftFrom n (end_of run) q ss → AllByRecursion (Alike r) ss
alike_with_all n run is p q r [] x left = tt
alike_with_all n run is p q r (s ∷ ss) x left = (alike_left n run is p q r s x left.0, alike_with_all n run is p (q + 1) r ss x left.1)

all_alike_left : (n : ℕ) (run : List Step) → IsRun n run → (p : ℕ) (rs : List Reading) → AreLeftFrom n (end_of run) p rs → AllAlike rs
all_alike_left n run is p [] left = tt
all_alike_left n run is p (r ∷ rs) left = (alike_with_all n run is p (p + 1) r rs left.0 left.1, all_alike_left n run is (p + 1) rs left.1)

fits_left : (n : ℕ) (w : World) (p : ℕ) (r : Reading) → IsLeftOf n w p r → FitsAt n p r
fits_left n w p (Facts f) x = (x.0, x.1)
fits_left n w p Blank x = absurd x
fits_left n w p (Refused e) x = absurd x

all_fit_left : (n : ℕ) (w : World) (p : ℕ) (rs : List Reading) → AreLeftFrom n w p rs → AllFit n p rs
all_fit_left n w p [] left = tt
all_fit_left n w p (r ∷ rs) left = (fits_left n w p r left.0, all_fit_left n w (p + 1) rs left.1)

-- folders as crashes leave them agree
pub left_agree : (run : List Step) (rs : List Reading) → IsRun (length rs) run → AreLeftBy run rs → Agree rs
left_agree run rs is left = record { fit = all_fit_left (length rs) (end_of run) 0 rs left; alike = all_alike_left (length rs) run is 0 rs left }

-- ---- the longest of their lists

decided_left : (n : ℕ) (w : World) (p : ℕ) (r : Reading) → IsLeftOf n w p r → (count : ℕ) × (decided_of r ≡ decided_prefix (settled w p count))
decided_left n w p (Facts f) x = ((x.2).0, ap (decided_from 0) (x.2).1 ∙ same_prefix (settled w p (x.2).0))
decided_left n w p Blank x = absurd x
decided_left n w p (Refused e) x = absurd x

begins_left : (n : ℕ) (run : List Step) → IsRun n run → (list : List Command) → IsDecidedList n (end_of run).wire list → (p : ℕ) (r : Reading) → IsLeftOf n (end_of run) p r → IsBeginningOf list (decided_of r)
begins_left n run is list d p r x =
    let e : (count : ℕ) × (decided_of r ≡ decided_prefix (settled (end_of run) p count)) = decided_left n (end_of run) p r x in
    subst (IsBeginningOf list) (sym e.1) (begin_the_list n run is list d p e.0)

begin_left : (n : ℕ) (run : List Step) → IsRun n run → (list : List Command) → IsDecidedList n (end_of run).wire list → (p : ℕ) (rs : List Reading) → AreLeftFrom n (end_of run) p rs → AllByRecursion (λ r. IsBeginningOf list (decided_of r)) rs
begin_left n run is list d p [] left = tt
begin_left n run is list d p (r ∷ rs) left = (begins_left n run is list d p r left.0, begin_left n run is list d (p + 1) rs left.1)

-- of two beginnings of a list the shorter begins the longer
shorter_begins : (list xs ys : List Command) → IsBeginningOf list xs → IsBeginningOf list ys → length xs ≤ length ys → IsBeginningOf ys xs
shorter_begins list xs ys x y l =
    let one : take (length xs) list ≡ xs = subst (λ z. take (length xs) z ≡ xs) (sym x.1) (take_at xs x.0 (length xs) refl) in
    let other : take (length ys) list ≡ ys = subst (λ z. take (length ys) z ≡ ys) (sym y.1) (take_at ys y.0 (length ys) refl) in
    let front : take (length xs) ys ≡ xs = subst (λ z. take (length xs) z ≡ xs) other (take-take (length xs) (length ys) list l ∙ one) in
    (drop (length xs) ys, sym (take-append-drop (length xs) ys) ∙ ap (λ z. z ++ drop (length xs) ys) front)

longer_by : (list xs ys : List Command) → IsBeginningOf list xs → IsBeginningOf list ys → (b : Bool) → nat_lt (length xs) (length ys) ≡ b → IsBeginningOf list (if b then ys else xs) × IsBeginningOf (if b then ys else xs) xs × IsBeginningOf (if b then ys else xs) ys
longer_by list xs ys x y true e = (y, shorter_begins list xs ys x y (let l : length xs < length ys = ltb-true _ _ e in omega arith), ([], sym (append-nil ys)))
longer_by list xs ys x y false e = (x, ([], sym (append-nil xs)), shorter_begins list ys xs y x (ltb-false _ _ e))

abbrev fold_longer : List Command → List Reading → List Command
fold_longer best rs = fold (λ best r. longer best (decided_of r)) best rs

-- what the longest of beginnings of a list is
record Longest (list best : List Command) (rs : List Reading) : Type 0 where
  begins : IsBeginningOf list (fold_longer best rs)
  over_best : IsBeginningOf (fold_longer best rs) best
  over_each : AllByRecursion (λ r. IsBeginningOf (fold_longer best rs) (decided_of r)) rs

begins_on : (one two three : List Command) → IsBeginningOf two one → IsBeginningOf three two → IsBeginningOf three one
begins_on one two three (more, is) (rest, was) = (more ++ rest, was ∙ ap (λ xs. xs ++ rest) is ∙ append_assoc one more rest)

longest_of : (list best : List Command) (rs : List Reading) → IsBeginningOf list best → AllByRecursion (λ r. IsBeginningOf list (decided_of r)) rs → Longest list best rs
longest_of list best [] b all = record { begins = b; over_best = ([], sym (append-nil best)); over_each = tt }
longest_of list best (r ∷ rs) b all =
    let next = longer_by list best (decided_of r) b all.0 (nat_lt (length best) (length (decided_of r))) refl in
    let rest : Longest list (longer best (decided_of r)) rs = longest_of list (longer best (decided_of r)) rs next.0 all.1 in
    record {
      begins = rest.begins;
      over_best = begins_on best (longer best (decided_of r)) (fold_longer best (r ∷ rs)) next.1 rest.over_best;
      over_each = (begins_on (decided_of r) (longer best (decided_of r)) (fold_longer best (r ∷ rs)) next.2 rest.over_best, rest.over_each);
    }

longest_left : (run : List Step) (rs : List Reading) → IsRun (length rs) run → AreLeftBy run rs → (list : List Command) → IsDecidedList (length rs) (end_of run).wire list → Longest list [] rs
longest_left run rs is left list d = longest_of list [] rs (list, refl) (begin_left (length rs) run is list d 0 rs left)

-- the longest list of such folders begins the decided list
pub longest_begins : (run : List Step) (rs : List Reading) → IsRun (length rs) run → AreLeftBy run rs → (list : List Command) → IsDecidedList (length rs) (end_of run).wire list → IsBeginningOf list (longest_decided rs)
longest_begins run rs is left list d = (longest_left run rs is left list d).begins

known_from : (n : ℕ) (run : List Step) → IsRun n run → (k : ℕ) (rs : List Reading) (whole : List Command) → AreLeftFrom n (end_of run) k rs → AllByRecursion (λ r. IsBeginningOf whole (decided_of r)) rs → (p : ℕ) → k ≤ p → p < k + length rs → (q : RequestNo) (reply : Reply) → Contains (end_of run).trace (Acknowledged p q reply) → reply_of whole q ≡ Some reply
known_from n run is k [] whole left all p low high q reply told = absurd (omega arith)
known_from n run is k (r ∷ rs) whole left all p low high q reply told =
    by (k == p) refl (λ other. known_from n run is (k + 1) rs whole left.1 all.1 p (above k p low other) (omega arith) q reply told)
  where
    above : (k p : ℕ) → k ≤ p → (k ≡ p → ⊥) → k + 1 ≤ p
    above k p l ne = elim (cases_lt k p) [ inl less ↦ omega arith | inr more ↦ absurd (ne (omega arith)) ]

    by : (b : Bool) → (k == p) ≡ b → ((k ≡ p → ⊥) → reply_of whole q ≡ Some reply) → reply_of whole q ≡ Some reply
    by true e later =
        let x : (count : ℕ) × (decided_of r ≡ decided_prefix (settled (end_of run) k count)) = decided_left n (end_of run) k r left.0 in
        let here : Contains (end_of run).trace (Acknowledged k q reply) = subst (λ j. Contains (end_of run).trace (Acknowledged j q reply)) (sym (eqb-true k p e)) told in
        let known : reply_of (decided_of r) q ≡ Some reply = subst (λ z. reply_of z q ≡ Some reply) (sym x.1) (know_their_replies n run is k x.0 q reply here) in
        subst (λ z. reply_of z q ≡ Some reply) (sym (all.0).1) (same_reply (decided_of r) (all.0).0 q reply known)
    by false e later = later (eqb-false k p e)

-- and has each reply that one of their nodes has acknowledged
pub longest_knows : (run : List Step) (rs : List Reading) → IsRun (length rs) run → AreLeftBy run rs → (p : ℕ) (q : RequestNo) (reply : Reply) → p < length rs → Contains (end_of run).trace (Acknowledged p q reply) → reply_of (longest_decided rs) q ≡ Some reply
longest_knows run rs is left p q reply l told =
    let d : (list : List Command) × IsDecidedList (length rs) (end_of run).wire list = sound_list (length rs) run in
    known_from (length rs) run is 0 rs (longest_decided rs) left (longest_left run rs is left d.0 d.1).over_each p (omega arith) (omega arith) q reply told
