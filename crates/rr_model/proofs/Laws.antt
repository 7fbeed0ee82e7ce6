-- The laws of runs: what is chosen or kept stays, rounds rise, later proposals are locked, and the list keeps real time.
use Rattle.std.proofs.Common.{◌≡◌, ℕ, ◌<◌, ◌≤◌, List, [], ◌∷◌, ◌++◌, length, take, Contains, drop, Option, None, Some, slice_get, IsTrue, refl, ap, sym, ◌∙◌, subst, arith, append-nil, append_assoc, le_refl, le_of_suc-le-suc, zero, suc, inl, inr}
use Rattle.std.proofs.lemmas.Bool.{false≢true, cases_lt}
use Rattle.std.proofs.lemmas.List.{take_at, take-take, take-append-drop}
use Rattle.std.proofs.lemmas.Option.{none-some, same_Some}
use Rattle.std.proofs.lemmas.List.Elements.{Contains-append_left}
use Rattle.rr_types.specs.declared.command.Command.{Command}
use Rattle.rr_types.specs.declared.command.RequestNo.{RequestNo}
use Rattle.rr_types.specs.declared.command.Reply.{Reply}
use Rattle.rr_types.specs.Registry.{reply_of}
use Rattle.rr_types.specs.declared.fact.Fact.{Fact}
use Rattle.rr_types.specs.declared.fact.Fact.TheVariants.{Enter, Adopt}
use Rattle.rr_types.specs.declared.promise.Standing.{Standing}
use Rattle.rr_types.specs.declared.promise.Standing.TheVariants.{Decided, Open}
use Rattle.rr_types.specs.declared.message.Message.{Message}
use Rattle.rr_types.specs.Facts.{standing_of}
use Rattle.rr_types.specs.Standings.{is_undecided, round_of}
use Rattle.rr_model.proofs.Permitted.{IsPermitted}
use Rattle.rr_model.specs.World.{World, Step, Submit, Hear, Stage, Settle, Send, Acknowledge, GoDown, Restart, after_step, empty_world, IsRun, end_of}
use Rattle.rr_model.specs.Sound.{IsChosen, IsChosenList, IsDecidedList}
use Rattle.rr_model.specs.Laws.{settled, after_steps, AreBeginningsRuns, StaysChosen, DoesListGrow, AreKeptFactsNeverLost, DoRoundsRise, DoAcksBind, AreProposalsLocked, KeepsRealTime, DoLaterCommandsStandBehind}
use Rattle.rr_model.proofs.Places.{Place, place_of}
use Rattle.rr_model.proofs.Histories.{History, OnOpen, history_front}
use Rattle.rr_model.proofs.Kept.{rounds_rise, later}
use Rattle.rr_model.proofs.Locking.{Grounded, adoption_binds, locked}
use Rattle.rr_model.proofs.Growth.{chosen_grows, at_each}
use Rattle.rr_model.proofs.Prefixes.{Begins}
use Rattle.rr_model.proofs.Listed.{begins_by_places}
use Rattle.rr_model.proofs.Invariants.{all_said, grounded}
use Rattle.rr_model.proofs.Replies.{same_reply}
use Rattle.rr_model.proofs.Soundness.{front_is_run, invariant_of, sound_one_chosen, sound_list, sound_submitted, sound_replies}

-- a run's beginning is a run
pub beginning_is_a_run : (n : ℕ) (run : List Step) → IsRun n run → AreBeginningsRuns n run
beginning_is_a_run n run r before after e = front_is_run n empty_world before after (subst (IsRun n) e r)

pub after_steps-append : (w : World) (a b : List Step) → after_steps w (a ++ b) ≡ after_steps (after_steps w a) b
after_steps-append w [] b = refl
after_steps-append w (s ∷ a) b = after_steps-append (after_step w s) a b

step_keeps_wire : (w : World) (s : Step) (m : Message) → Contains w.wire m → Contains (after_step w s).wire m
step_keeps_wire w (Submit p c) m x = x
step_keeps_wire w (Hear p k) m x = x
step_keeps_wire w (Stage p f) m x = x
step_keeps_wire w (Settle p count) m x = x
step_keeps_wire w (Send p k) m x = Contains-append_left w.wire (k ∷ []) m x
step_keeps_wire w (Acknowledge p q reply) m x = x
step_keeps_wire w (GoDown p) m x = x
step_keeps_wire w (Restart p count) m x = x

-- what is on the wire stays there
pub steps_keep_wire : (w : World) (ss : List Step) (m : Message) → Contains w.wire m → Contains (after_steps w ss).wire m
steps_keep_wire w [] m x = x
steps_keep_wire w (s ∷ ss) m x = steps_keep_wire (after_step w s) ss m (step_keeps_wire w s m x)

-- what is chosen stays chosen
pub chosen_stays_chosen : (n : ℕ) (run : List Step) → StaysChosen n run
chosen_stays_chosen n run before after e i v c =
    subst (λ z. IsChosen n z.wire i v) (sym (after_steps-append empty_world before after) ∙ ap end_of (sym e))
    (chosen_grows n (end_of before).wire (after_steps (end_of before) after).wire (steps_keep_wire (end_of before) after) i v c)

-- the decided list only grows
pub decided_list_grows : (n : ℕ) (run : List Step) → IsRun n run → DoesListGrow n run
decided_list_grows n run r before after e list last x y =
    let still : IsChosenList n (end_of run).wire list = (λ i v g. chosen_stays_chosen n run before after e i v (x.chosen i v g)) in
    let l : length list ≤ length last = y.longest list still in
    let b : Begins list last = begins_by_places list last l (λ k v w g h. sound_one_chosen n run r k v w (still k v g) (y.chosen k w h)) in
    (l, subst (λ z. take (length list) z ≡ list) b.is (take_at list b.rest (length list) refl))

step_keeps_facts : (w : World) (s : Step) (p : ℕ) → (rest : List Fact) × ((after_step w s).kept p ≡ w.kept p ++ rest)
step_keeps_facts w (Submit q c) p = ([], sym (append-nil (w.kept p)))
step_keeps_facts w (Hear q m) p = ([], sym (append-nil (w.kept p)))
step_keeps_facts w (Stage q f) p = ([], sym (append-nil (w.kept p)))
step_keeps_facts w (Settle q count) p = at_each (λ p s. (rest : List Fact) × (s ≡ w.kept p ++ rest)) w.kept q (settled w q count) (take count (w.staged q), refl) (λ p. ([], sym (append-nil (w.kept p)))) p
step_keeps_facts w (Send q m) p = ([], sym (append-nil (w.kept p)))
step_keeps_facts w (Acknowledge q k reply) p = ([], sym (append-nil (w.kept p)))
step_keeps_facts w (GoDown q) p = ([], sym (append-nil (w.kept p)))
step_keeps_facts w (Restart q count) p = at_each (λ p s. (rest : List Fact) × (s ≡ w.kept p ++ rest)) w.kept q (settled w q count) (take count (w.staged q), refl) (λ p. ([], sym (append-nil (w.kept p)))) p

steps_keep_facts : (w : World) (ss : List Step) (p : ℕ) → (rest : List Fact) × ((after_steps w ss).kept p ≡ w.kept p ++ rest)
steps_keep_facts w [] p = ([], sym (append-nil (w.kept p)))
steps_keep_facts w (s ∷ ss) p =
    let one : (rest : List Fact) × ((after_step w s).kept p ≡ w.kept p ++ rest) = step_keeps_facts w s p in
    let more : (rest : List Fact) × ((after_steps (after_step w s) ss).kept p ≡ (after_step w s).kept p ++ rest) = steps_keep_facts (after_step w s) ss p in
    (one.0 ++ more.0, more.1 ∙ ap (λ z. z ++ more.0) one.1 ∙ append_assoc (w.kept p) one.0 more.0)

-- kept facts are never lost
pub kept_facts_are_never_lost : (run : List Step) → AreKeptFactsNeverLost run
kept_facts_are_never_lost run before after e p =
    let more : (rest : List Fact) × ((after_steps (end_of before) after).kept p ≡ (end_of before).kept p ++ rest) = steps_keep_facts (end_of before) after p in
    (more.0, ap (λ z. (end_of z).kept p) e ∙ ap (λ (z : World). z.kept p) (after_steps-append empty_world before after) ∙ more.1)

round_above : (r k : ℕ) (s : Option Standing) → OnOpen (λ o. r ≤ o.round) ⊥ s → IsTrue (is_undecided s) → round_of s < k → r < k
round_above r k None q u l = absurd q
round_above r k (Some (Decided v)) q u l = absurd (false≢true u)
round_above r k (Some (Open o)) q u l = omega arith

-- a node's rounds rise over restarts
pub rounds_rise_over_restarts : (n : ℕ) (run : List Step) → IsRun n run → DoRoundsRise run
rounds_rise_over_restarts n run r p i a b e f is c =
    let G : Grounded n (all_said (end_of run)) (end_of run).kept = grounded n (end_of run) (invariant_of n run r) in
    let x : Place b (Enter i f) = place_of b (Enter i f) c in
    let split : (end_of run).kept p ≡ (a ++ Enter i e ∷ x.before) ++ Enter i f ∷ x.after = is ∙ ap (λ z. a ++ Enter i e ∷ z) x.is ∙ sym (append_assoc a (Enter i e ∷ x.before) (Enter i f ∷ x.after)) in
    let here : IsPermitted n p (a ++ Enter i e ∷ x.before) (all_said (end_of run)) (Enter i f) = (G.history p).lawful (a ++ Enter i e ∷ x.before) (Enter i f) x.after split in
    let H : History n p (all_said (end_of run)) (a ++ Enter i e ∷ x.before) = history_front n p (all_said (end_of run)) (a ++ Enter i e ∷ x.before) (Enter i f ∷ x.after) (subst (History n p (all_said (end_of run))) split (G.history p)) in
    round_above e.round f.round (standing_of i (a ++ Enter i e ∷ x.before))
    (later n p (all_said (end_of run)) i (λ o. e.round ≤ o.round) (rounds_rise n p (all_said (end_of run)) i e.round) a (Enter i e) x.before (a ++ Enter i e ∷ x.before) H refl refl (le_refl e.round))
    here.0 here.1

-- an acknowledgement binds its sender's later estimates
pub acknowledgement_binds_estimates : (n : ℕ) (run : List Step) → IsRun n run → DoAcksBind run
acknowledgement_binds_estimates n run r q i k e sa se l =
    let G : Grounded n (all_said (end_of run)) (end_of run).kept = grounded n (end_of run) (invariant_of n run r) in
    let adopted : (u : Command) × Contains ((end_of run).kept q) (Adopt i k u) = G.backed _ sa.1 in
    adoption_binds n q (all_said (end_of run)) ((end_of run).kept q) i k adopted.0 e (G.history q) adopted.1 (G.backed _ se.1) l

-- later rounds propose the locked command
pub later_proposals_are_locked : (n : ℕ) (run : List Step) → IsRun n run → AreProposalsLocked n run
later_proposals_are_locked n run r i k v p s acks = locked n (all_said (end_of run)) (end_of run).kept (grounded n (end_of run) (invariant_of n run r)) i k v p s acks

-- the decided list of a moment is the beginning that keeps the order of real time
pub real_time_is_kept : (n : ℕ) (run : List Step) → IsRun n run → KeepsRealTime n run
real_time_is_kept n run r before after e p q reply told last d =
    let here : IsRun n before = beginning_is_a_run n run r before after e in
    let front : (list : List Command) × IsDecidedList n (end_of before).wire list = sound_list n before in
    (front.0, (decided_list_grows n run r before after e front.0 last front.1 d).1, sound_replies n before here front.0 front.1 p q reply told, λ c k. sound_submitted n before here front.0 front.1 c k)

-- what stands at a place of a list stands in each beginning that is long enough
in_front : (k m : ℕ) (list : List Command) (c : Command) → k < m → slice_get list k ≡ Some c → Contains (take m list) c
in_front k zero list c l e = absurd (omega arith)
in_front k (suc m) [] c l e = absurd (none-some c e)
in_front zero (suc m) (x ∷ list) c l e = (0, omega arith, same_Some x c e)
in_front (suc k) (suc m) (x ∷ list) c l e = let t : Contains (take m list) c = in_front k m list c (le_of_suc-le-suc l) e in (suc t.0, (let h : t.0 < length (take m list) = t.1 in omega arith), t.2)

-- a command of which no command of the front was one stands behind the front, and the list up to it gives each reply of that
pub stands_behind : (front last : List Command) (c : Command) (k : ℕ) (q : RequestNo) (reply : Reply) → take (length front) last ≡ front → reply_of front q ≡ Some reply → (Contains front c → ⊥) → slice_get last k ≡ Some c → reply_of (take k last) q ≡ Some reply
stands_behind front last c k q reply is says new at = elim (cases_lt k (length front)) [
  | inl l ↦ absurd (new (subst (λ z. Contains z c) is (in_front k (length front) last c l at)))
  | inr l ↦ behind l
]
  where
    behind : length front ≤ k → reply_of (take k last) q ≡ Some reply
    behind l =
        let begins : take (length front) (take k last) ≡ front = take-take (length front) k last l ∙ is in
        let whole : front ++ drop (length front) (take k last) ≡ take k last = ap (λ z. z ++ drop (length front) (take k last)) (sym begins) ∙ take-append-drop (length front) (take k last) in
        subst (λ z. reply_of z q ≡ Some reply) whole (same_reply front (drop (length front) (take k last)) q reply says)

-- a command that was not submitted by then stands behind
pub later_commands_stand_behind : (n : ℕ) (run : List Step) → IsRun n run → DoLaterCommandsStandBehind n run
later_commands_stand_behind n run r before after e p q reply told last d c new k at =
    let f = real_time_is_kept n run r before after e p q reply told last d in
    stands_behind f.0 last c k q reply f.1 f.2 (λ there. new (f.3 c there)) at
