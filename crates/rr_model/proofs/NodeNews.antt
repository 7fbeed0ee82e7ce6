-- A node that was just opened and hears decisions, one after another, stages those that are news to it and nothing else.
use Rattle.std.proofs.Common.{◌≡◌, ℕ, ◌+◌, ◌≤◌, Bool, true, false, ◌==◌, ◌&&◌, nat_lt, if◌then◌else◌, List, [], ◌∷◌, ◌++◌, length, map, find, filter, drop, is_some, Option, None, Some, option_map, refl, ap, sym, ◌∙◌, arith, append-nil}
use Rattle.std.specs.Option.{option_map_or}
use Rattle.std.proofs.lemmas.Bool.{ne_eqb}
use Rattle.std.proofs.lemmas.Option.{none-some, same_Some}
use Rattle.rr_types.specs.declared.command.Command.{Command}
use Rattle.rr_types.specs.declared.fact.Fact.{Fact}
use Rattle.rr_types.specs.declared.fact.Fact.TheVariants.{Decide}
use Rattle.rr_types.specs.declared.input.Input.TheVariants.{Hear}
use Rattle.rr_types.specs.declared.message.Body.TheVariants as say
use Rattle.rr_types.specs.declared.promise.Entry.{Entry}
use Rattle.rr_types.specs.declared.promise.Standing.{Standing}
use Rattle.rr_types.specs.declared.promise.Standing.TheVariants.{Decided, Open}
use Rattle.rr_types.specs.Facts.{instance_of, standing_of}
use Rattle.rr_types.specs.Nodes.{has_member}
use Rattle.rr_types.specs.Promises.{promise_of}
use Rattle.rr_types.specs.Rounds.{OpenAt, coordinator_of}
use Rattle.rr_types.specs.Standings.{is_undecided}
use Rattle.rr_model.specs.LostDisks.{decisions_from, hears_from, facts_of_events, StagesJustTheNews}
use Rattle.rr_model.specs.NodeLaws.{StateEvent, Told, after_event, facts_of_event}
use Rattle.rr_model.specs.NodeDue.{Due, Begin, Offer, MoveOn, is_majority, due_of_coordinator, due_of_participant, due_of_row, due_at, first_due, due, settle}
use Rattle.rr_model.specs.NodeParts.{owe, stage, free_command, conclude}
use Rattle.rr_model.specs.NodeReached.{opened_over}
use Rattle.rr_model.specs.NodeState.{NodeState, Row, no_votes, row_of, standing_at, next_number, open_instances}
use Rattle.rr_model.specs.NodeStep.{promised_row, heard_body, node_step, restored}
use Rattle.rr_model.proofs.NodeEnds.{settled_stays}
use Rattle.rr_model.proofs.NodeFirsts.{owe_rows, owe_pool, owe_onward}
use Rattle.rr_model.proofs.NodeKnows.{stage_stands}
use Rattle.rr_model.proofs.NodeMoves.{if_true, if_false, not_member, nobody, joined_nobody, no_pick, from_to, heard_here}
use Rattle.rr_model.proofs.NodeRestates.{SameRows, started_same}
use Rattle.rr_model.proofs.NodeRows.{stands, row_then, row_of-rows_after, stands-promised}
use Rattle.rr_model.proofs.NodeStages.{drop_front}
use Rattle.rr_model.proofs.Promised.{standing_in-promise_of}

-- the node knows no command, suspects nobody, and has heard nothing of the rounds in which it is
record IsQuiet (s : NodeState) : Type 0 where
  pool : s.pool ≡ []
  trusts : s.suspects ≡ 0
  untold : (i : ℕ) (row : Row) → row_of s.rows i ≡ Some row → row.tally ≡ no_votes

-- ---- nothing is due

module _ (s : NodeState) (Q : IsQuiet s) where
  none_free : (i : ℕ) → free_command s i ≡ None
  unfolding free_command
  none_free i = ap (find _) Q.pool

  quiet_open : (i : ℕ) (o : OpenAt) → due_of_row s i no_votes (Open o) ≡ None
  quiet_open i o = by (coordinator_of o.round s.nodes == s.node) o.proposal refl
    where
      coordinates : (v : Option Command) → due_of_coordinator s i no_votes o.round v ≡ None
      coordinates None = ap (option_map (λ v. Offer i o.round v)) (no_pick s.nodes)
      coordinates (Some v) =
          if_false (is_majority s 0) _ _ (nobody s)
          ∙ ap (λ z. if is_majority s z && nat_lt o.round 2147483647 then Some (MoveOn i) else None) (joined_nobody 0)
          ∙ ap (λ z. if z && nat_lt o.round 2147483647 then Some (MoveOn i) else None) (nobody s)

      by : (b : Bool) (v : Option Command) → o.proposal ≡ v → (if b then due_of_coordinator s i no_votes o.round o.proposal else due_of_participant s i o.round) ≡ None
      by true v e = coordinates o.proposal
      by false v e = ap (λ z. if z && nat_lt o.round 2147483647 then Some (MoveOn i) else None) (ap (λ z. has_member z (coordinator_of o.round s.nodes)) Q.trusts ∙ not_member (coordinator_of o.round s.nodes))

  quiet_row : (i : ℕ) (st : Standing) → due_of_row s i no_votes st ≡ None
  quiet_row i (Decided v) = refl
  quiet_row i (Open o) = quiet_open i o

  quiet_at : (i : ℕ) (o : Option Row) → row_of s.rows i ≡ o → due_at s i ≡ None
  quiet_at i None e = rw e (ap (λ (z : Option Command). if is_some z then Some (Begin i) else None) (none_free i))
  quiet_at i (Some row) e = rw e (ap (λ t. due_of_row s i t row.standing) (Q.untold i row e) ∙ quiet_row i row.standing)

  quiet_first : (is : List ℕ) → first_due s is ≡ None
  quiet_first [] = refl
  quiet_first (i ∷ is) = ap (λ (z : Option Due). option_map_or Some z (first_due s is)) (quiet_at i (row_of s.rows i) refl) ∙ quiet_first is

  rests : settle s ≡ s
  unfolding due
  rests = settled_stays s (quiet_first (open_instances s))

-- ---- a decision heard

-- what a decision leaves of a row
decided_tally : (k i : ℕ) (v : Command) (o : Option Row) (row : Row) → row_then k (Decide i v) (Some (Decided v)) o ≡ Some row → row.tally ≡ no_votes
decided_tally k i v None row e = ap (λ (r : Row). r.tally) (sym (same_Some _ row e))
decided_tally k i v (Some r) row e = ap (λ (r : Row). r.tally) (sym (same_Some _ row e))

stage_quiet : (i : ℕ) (v : Command) (s : NodeState) → IsQuiet s → IsQuiet (stage (Decide i v) s)
unfolding stage
stage_quiet i v s Q = record {
  pool = ap (filter _) Q.pool;
  trusts = Q.trusts;
  untold = λ j row e. by j row (i == j) (sym (row_of-rows_after (next_number s) (Decide i v) s.rows j) ∙ e);
}
  where
    by : (j : ℕ) (row : Row) (b : Bool) → (if b then row_then (next_number s) (Decide i v) (Some (Decided v)) (row_of s.rows i) else row_of s.rows j) ≡ Some row → row.tally ≡ no_votes
    by j row true e = decided_tally (next_number s) i v (row_of s.rows i) row e
    by j row false e = Q.untold j row e

conclude_quiet : (i : ℕ) (v : Command) (s : NodeState) → IsQuiet s → IsQuiet (conclude i v s)
unfolding conclude
conclude_quiet i v s Q =
    let u : NodeState = stage (Decide i v) s in
    let U : IsQuiet u = stage_quiet i v s Q in
    record {
      pool = owe_pool _ _ _ u ∙ U.pool;
      trusts = (owe_onward _ _ _ u).suspects ∙ U.trusts;
      untold = λ j row e. U.untold j row (ap (λ z. row_of z j) (sym (owe_rows _ _ _ u)) ∙ e);
    }

conclude_staged : (i : ℕ) (v : Command) (s : NodeState) → (conclude i v s).staged ≡ s.staged ++ Decide i v ∷ []
unfolding conclude stage owe
conclude_staged i v s = refl

conclude_node : (i : ℕ) (v : Command) (s : NodeState) → (conclude i v s).node ≡ s.node
unfolding conclude stage owe
conclude_node i v s = refl

conclude_beside : (i j : ℕ) (v : Command) (s : NodeState) → (i ≡ j → ⊥) → standing_at (conclude i v s) j ≡ standing_at s j
unfolding conclude
conclude_beside i j v s other =
    ap (λ z. stands (row_of z j)) (owe_rows _ _ _ (stage (Decide i v) s)) ∙ stage_stands (Decide i v) s j
    ∙ ap (λ (b : Bool). if b then Some (Decided v) else standing_at s j) (ne_eqb i j other)

-- what the node is once it has heard the decision, and where that was news
heard_decision : (q p i : ℕ) (v : Command) (s : NodeState) → IsQuiet s → s.node ≡ p → (b : Bool) → is_undecided (standing_at s i) ≡ b → node_step (Hear (from_to q p (say.Decision i v))) s ≡ (if b then conclude i v s else s)
unfolding node_step heard_body
heard_decision q p i v s Q me true e = ap settle (heard_here p (say.Decision i v) q s me ∙ if_true _ _ _ e) ∙ rests (conclude i v s) (conclude_quiet i v s Q)
heard_decision q p i v s Q me false e = ap settle (heard_here p (say.Decision i v) q s me ∙ if_false _ _ _ e) ∙ rests s Q

-- the decisions of the list that are news, from instance i on
abbrev news_from : List Fact → ℕ → List Command → List Fact
news_from facts i list = filter (λ f. is_undecided (standing_of (instance_of f) facts)) (decisions_from i list)

-- the facts of one event, and then those of the others
one_then : (s t : NodeState) (e : StateEvent) (es : List StateEvent) (fs more : List Fact) → after_event s e ≡ t → t.staged ≡ s.staged ++ fs → facts_of_event s e ≡ drop (length s.staged) (after_event s e).staged → facts_of_events t es ≡ more → facts_of_events s (e ∷ es) ≡ fs ++ more
one_then s t e es fs more is staged own rest =
    ap (λ z. z ++ facts_of_events (after_event s e) es) (own ∙ ap (λ (z : NodeState). drop (length s.staged) z.staged) is ∙ ap (drop (length s.staged)) staged ∙ drop_front s.staged fs)
    ∙ ap (λ z. fs ++ facts_of_events z es) is ∙ ap (λ z. fs ++ z) rest

hears_news : (q p : ℕ) (facts : List Fact) (i : ℕ) (list : List Command) (s : NodeState) → IsQuiet s → s.node ≡ p → ((j : ℕ) → i ≤ j → standing_at s j ≡ standing_of j facts) → facts_of_events s (hears_from q p i list) ≡ news_from facts i list
hears_news q p facts i [] s Q me same = refl
hears_news q p facts i (v ∷ list) s Q me same = by (λ t T n st. hears_news q p facts (i + 1) list t T n st) (is_undecided (standing_of i facts)) refl
  where
    hear : StateEvent
    hear = Told (Hear (from_to q p (say.Decision i v)))

    by : ((t : NodeState) → IsQuiet t → t.node ≡ p → ((j : ℕ) → i + 1 ≤ j → standing_at t j ≡ standing_of j facts) → facts_of_events t (hears_from q p (i + 1) list) ≡ news_from facts (i + 1) list)
        → (b : Bool) → is_undecided (standing_of i facts) ≡ b → facts_of_events s (hears_from q p i (v ∷ list)) ≡ (if b then Decide i v ∷ news_from facts (i + 1) list else news_from facts (i + 1) list)
    by rest true e = one_then s (conclude i v s) hear (hears_from q p (i + 1) list) (Decide i v ∷ []) (news_from facts (i + 1) list)
        (heard_decision q p i v s Q me true (ap is_undecided (same i (omega arith)) ∙ e)) (conclude_staged i v s) refl
        (rest (conclude i v s) (conclude_quiet i v s Q) (conclude_node i v s ∙ me) (λ j l. conclude_beside i j v s (λ x. omega arith) ∙ same j (omega arith)))
    by rest false e = one_then s s hear (hears_from q p (i + 1) list) [] (news_from facts (i + 1) list)
        (heard_decision q p i v s Q me false (ap is_undecided (same i (omega arith)) ∙ e)) (sym (append-nil s.staged)) refl
        (rest s Q me (λ j l. same j (omega arith)))

-- ---- an opened node

promised_untold : (next : ℕ) (es : List Entry) (i : ℕ) (row : Row) → row_of (map (promised_row next) es) i ≡ Some row → row.tally ≡ no_votes
promised_untold next [] i row e = absurd (none-some row e)
promised_untold next (x ∷ es) i row e = at (promised_untold next es i row) (x.instance == i) e
  where
    at : (row_of (map (promised_row next) es) i ≡ Some row → row.tally ≡ no_votes) → (b : Bool) → (if b then Some (promised_row next x) else row_of (map (promised_row next) es) i) ≡ Some row → row.tally ≡ no_votes
    at ih true y = ap (λ (z : Row). z.tally) (sym (same_Some _ row y))
    at ih false y = ih y

opened_quiet : (n p : ℕ) (facts : List Fact) → IsQuiet (opened_over n p facts)
opened_quiet n p facts =
    let S : SameRows (restored n p (promise_of facts) (length facts)) (opened_over n p facts) = started_same n p (promise_of facts) (length facts) in
    record {
      pool = S.1;
      trusts = (S.2).suspects;
      untold = λ i row e. promised_untold (length facts) (promise_of facts) i row (ap (λ z. row_of z i) (sym S.0) ∙ e);
    }

pub stages_news : (n p : ℕ) (facts : List Fact) (list : List Command) → StagesJustTheNews n p facts list
stages_news n p facts list q =
    let S : SameRows (restored n p (promise_of facts) (length facts)) (opened_over n p facts) = started_same n p (promise_of facts) (length facts) in
    hears_news q p facts 0 list (opened_over n p facts) (opened_quiet n p facts) (S.2).node
    (λ j l. ap (λ z. stands (row_of z j)) S.0 ∙ stands-promised (length facts) (promise_of facts) j ∙ standing_in-promise_of facts j)
