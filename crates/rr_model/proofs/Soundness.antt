-- Every run is sound, part by part, by the invariant at each of its moments.
use Rattle.std.proofs.Common.{◌≡◌, ℕ, ◌≤◌, List, [], ◌∷◌, ◌++◌, length, Some, refl, ap, sym, ◌∙◌, subst, arith, append-nil, length-append}
use Rattle.std.proofs.lemmas.List.{nil_from_length}
use Rattle.std.proofs.lemmas.List.Elements.{Contains-append_left}
use Rattle.std.proofs.lemmas.Option.{slice_get-get_or}
use Rattle.rr_types.specs.declared.command.Command.{Command}
use Rattle.rr_types.specs.declared.fact.Fact.TheVariants.{Decide}
use Rattle.rr_model.specs.World.{World, Step, after_step, empty_world, decided_prefix, IsRunFrom, IsRun, end_of}
use Rattle.rr_model.specs.Sound.{IsChosen, IsChosenList, IsDecidedList, IsSound}
use Rattle.rr_model.proofs.Parts.{IsOneChosen, AreDecidesChosen, AreDecisionsChosen, HasDecidedList, IsOneDecidedList, IsListSubmitted, AreReportsOfTheList, DoReportsHoldAcknowledged, AreRepliesOfTheList}
use Rattle.rr_model.proofs.Locking.{one_chosen}
use Rattle.rr_model.proofs.Prefixes.{Begins, prefix_decides}
use Rattle.rr_model.proofs.Truths.{Truthful, truthful_grows}
use Rattle.rr_model.proofs.Listed.{decided_list, begins_by_places}
use Rattle.rr_model.proofs.Invariants.{Invariant, all_said, at_start, grounded, after_all}

-- a run's beginning is a run
pub front_is_run : (n : ℕ) (w : World) (a b : List Step) → IsRunFrom n w (a ++ b) → IsRunFrom n w a
front_is_run n w [] b r = tt
front_is_run n w (s ∷ a) b r = (r.0, front_is_run n (after_step w s) a b r.1)

-- the invariant at the end of a run
pub invariant_of : (n : ℕ) (run : List Step) → IsRun n run → Invariant n (end_of run)
invariant_of n run r = after_all n empty_world run r (at_start n)

-- and at each moment of it
pub invariant_at : (n : ℕ) (run before after : List Step) → IsRun n run → run ≡ before ++ after → Invariant n (end_of before)
invariant_at n run before after r e = invariant_of n before (front_is_run n empty_world before after (subst (IsRun n) e r))

pub sound_one_chosen : (n : ℕ) (run : List Step) → IsRun n run → IsOneChosen n run
sound_one_chosen n run r i v w x y =
    one_chosen n (all_said (end_of run)) (end_of run).kept (grounded n (end_of run) (invariant_of n run r)) i v w x y

pub sound_decides : (n : ℕ) (run : List Step) → IsRun n run → AreDecidesChosen n run
sound_decides n run r before after e p i v c =
    let I : Invariant n (end_of before) = invariant_at n run before after r e in
    I.decides p i v (Contains-append_left ((end_of before).kept p) ((end_of before).staged p) (Decide i v) c)

pub sound_decisions : (n : ℕ) (run : List Step) → IsRun n run → AreDecisionsChosen n run
sound_decisions n run r before after e p i v s =
    let I : Invariant n (end_of before) = invariant_at n run before after r e in
    I.decides p i v (Contains-append_left ((end_of before).kept p) ((end_of before).staged p) (Decide i v) (I.backed _ s.1))

pub sound_list : (n : ℕ) (run : List Step) → HasDecidedList n run
sound_list n run = decided_list n (end_of run).wire

-- a list of chosen commands is a beginning of each longer one
pub chosen_begins : (n : ℕ) (run : List Step) → IsRun n run → (xs ys : List Command) → IsChosenList n (end_of run).wire xs → IsChosenList n (end_of run).wire ys → length xs ≤ length ys → Begins xs ys
chosen_begins n run r xs ys cx cy l = begins_by_places xs ys l (λ k v w a b. sound_one_chosen n run r k v w (cx k v a) (cy k w b))

pub sound_one_list : (n : ℕ) (run : List Step) → IsRun n run → IsOneDecidedList n run
sound_one_list n run r list other x y =
    let b : Begins list other = chosen_begins n run r list other x.chosen y.chosen (y.longest list x.chosen) in
    let e : length (list ++ b.rest) ≡ length other = ap length b.is in
    let l : length other ≤ length list = x.longest other y.chosen in
    let z : b.rest ≡ [] = nil_from_length b.rest (omega (arith, length-append list b.rest)) in
    sym (append-nil list) ∙ ap (λ t. list ++ t) (sym z) ∙ b.is

pub sound_submitted : (n : ℕ) (run : List Step) → IsRun n run → IsListSubmitted n run
sound_submitted n run r list d c k =
    let I : Invariant n (end_of run) = invariant_of n run r in
    let x : IsChosen n (end_of run).wire k.0 c = d.chosen k.0 c (slice_get-get_or list k.0 c k.1 ∙ ap Some k.2) in
    I.names.messages _ c x.proposed.1 refl

-- what each node has decided for good is a beginning of the decided list
pub prefix_begins : (n : ℕ) (run : List Step) → IsRun n run → (list : List Command) → IsDecidedList n (end_of run).wire list → (p : ℕ) → Begins (decided_prefix ((end_of run).kept p)) list
prefix_begins n run r list d p =
    let I : Invariant n (end_of run) = invariant_of n run r in
    let c : IsChosenList n (end_of run).wire (decided_prefix ((end_of run).kept p)) = (λ i v e. I.decides p i v (Contains-append_left ((end_of run).kept p) ((end_of run).staged p) (Decide i v) (prefix_decides ((end_of run).kept p) i v e))) in
    chosen_begins n run r (decided_prefix ((end_of run).kept p)) list c d.chosen (d.longest (decided_prefix ((end_of run).kept p)) c)

-- all that was told is true by the decided list
pub told_by_list : (n : ℕ) (run : List Step) → IsRun n run → (list : List Command) → IsDecidedList n (end_of run).wire list → Truthful (end_of run).trace (λ p. list)
told_by_list n run r list d =
    let I : Invariant n (end_of run) = invariant_of n run r in
    truthful_grows (end_of run).trace (λ p. decided_prefix ((end_of run).kept p)) (λ p. list) (prefix_begins n run r list d) I.told

pub sound_reports : (n : ℕ) (run : List Step) → IsRun n run → AreReportsOfTheList n run
sound_reports n run r list d p count entries c = (told_by_list n run r list d).reported p count entries c

pub sound_held : (n : ℕ) (run : List Step) → IsRun n run → DoReportsHoldAcknowledged n run
sound_held n run r list d a b p count entries e q reply c = (told_by_list n run r list d).held a b p count entries e q reply c

pub sound_replies : (n : ℕ) (run : List Step) → IsRun n run → AreRepliesOfTheList n run
sound_replies n run r list d p q reply c = (told_by_list n run r list d).acknowledged p q reply c

-- every run is sound
pub sound : (n : ℕ) (run : List Step) → IsRun n run → IsSound n run
sound n run r = record {
  one_command_is_chosen = sound_one_chosen n run r;
  what_nodes_decide_is_chosen = sound_decides n run r;
  what_decisions_say_is_chosen = sound_decisions n run r;
  a_decided_list_exists = sound_list n run;
  the_decided_list_is_one = sound_one_list n run r;
  its_commands_were_submitted = sound_submitted n run r;
  restarts_report_beginnings_of_it = sound_reports n run r;
  restarts_hold_what_was_acknowledged = sound_held n run r;
  acknowledged_replies_are_its_own = sound_replies n run r;
}
