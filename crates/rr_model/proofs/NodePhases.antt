-- The phases of a round at one node: it enters the round, proposes, adopts, decides, and each time marks and sends all.
use Rattle.std.proofs.Common.{◌≡◌, ℕ, ◌+◌, ◌≤◌, ◌<◌, ◌⊎◌, inl, inr, zero, suc, Bool, true, false, ◌==◌, if◌then◌else◌, List, [], Contains, Option, None, Some, refl, ap, sym, ◌∙◌, subst, arith, le_refl}
use Rattle.std.specs.Option.{option_map_or}
use Rattle.std.proofs.lemmas.Bool.{false≢true, ne_eqb, cases_lt}
use Rattle.rr_types.specs.declared.command.Command.{Command}
use Rattle.rr_types.specs.declared.command.RequestNo.{RequestNo}
use Rattle.rr_types.specs.declared.message.Body.TheVariants as say
use Rattle.rr_types.specs.declared.message.Message.{Message}
use Rattle.rr_types.specs.declared.promise.Standing.{Standing}
use Rattle.rr_types.specs.declared.promise.Standing.TheVariants.{Decided, Open}
use Rattle.rr_types.specs.declared.refusal.Refusal.TheVariants.{RoundsOut}
use Rattle.rr_types.specs.Rounds.{Estimated, OpenAt, coordinator_of, majority_of}
use Rattle.rr_types.specs.Nodes.{has_member, with_member}
use Rattle.rr_types.specs.Standings.{round_of}
use Rattle.rr_model.specs.Lawful.{count_below}
use Rattle.rr_model.specs.NodeState.{NodeState, Vote, Tally, no_votes, standing_at}
use Rattle.rr_model.specs.NodeDue.{best_vote, pick}
use Rattle.rr_types.specs.declared.input.Input.TheVariants.{Hear, Advance}
use Rattle.rr_model.specs.NodeStep.{with_vote, node_step, input_refusal}
use Rattle.rr_model.proofs.NodeTallies.{is_sender}
use Rattle.rr_model.proofs.NodeFirsts.{First}
use Rattle.rr_model.proofs.NodeMoves.{if_false, Sits, standing_first, from_to, entered, estimated, lowest_first, Advanced, advance, voted, Tallied, hears_estimate, no_pick, nobody}
use Rattle.rr_model.proofs.NodeAnswers.{adopting, Adopted, hears_proposal, Concluded, hears_decision, is_enough, acked, Acknowledged, hears_ack, enough_here}
use Rattle.rr_model.proofs.NodeCounts.{still_sender, new_sender, votes_suffice, pick_ok, something_picked, still_member, new_member, acks_suffice}
use Rattle.rr_model.proofs.NodeBeyond.{advance_keeps, estimate_keeps, proposal_keeps, ack_keeps, decision_keeps}
use Rattle.rr_model.proofs.NodeAlone.{Comes, no_event, and_then, alone_sent, Flushed, takes}

pub flushed_sits : (i p n : ℕ) (st : Standing) (t : Tally) (s u : NodeState) (w : List Message) → Sits i p n st t s → Flushed s u w → Sits i p n st t u
flushed_sits i p n st t s u w S F = record { row = subst (First i st t) (sym F.rows) S.row; nodes = F.nodes ∙ S.nodes; node = F.node ∙ S.node; trusts = F.suspects ∙ S.trusts }

-- each of these, once the bound is one higher
one_higher : (set : ℕ → Bool) (P : ℕ → Type 0) (m : ℕ) → ((q : ℕ) → q < m → set q ≡ true → P q) → (set m ≡ true → P m) → (q : ℕ) → q < suc m → set q ≡ true → P q
one_higher set P m each last q l e = elim (cases_lt q m) [
  | inl x ↦ each q x e
  | inr x ↦ (let same : m ≡ q = omega arith in subst P same (last (subst (λ z. set z ≡ true) (sym same) e)))
]

-- instance i, round r that node k coordinates, the client's command, and which commands may be decided
module _ (n i k r : ℕ) (c : Command) (held : List RequestNo) (calm : ℕ → Type 0) (Fair : ℕ → Estimated → Type 0) (Ok : Command → Type 0) (small : i < 1048576) (above : 0 < r) (coordinates : coordinator_of r n ≡ k) where
  -- node p is in the round, and has sent its estimate to the coordinator
  pub record InRound (p : ℕ) (s : NodeState) (w : List Message) : Type 0 where
    pub o : OpenAt
    pub sits : Sits i p n (Open o) no_votes s
    pub round : o.round ≡ r
    pub stamp : o.stamp < r
    pub none : o.proposal ≡ None
    pub ok : Fair p (estimated r o)
    pub said : Contains w (from_to p k (say.Estimate i (estimated r o)))
    pub waits : s.waiting ≡ held

  not_refused : (p : ℕ) (o : OpenAt) (t : Tally) (s : NodeState) → Sits i p n (Open o) t s → 0 < o.round → o.round < 2147483647 → input_refusal Advance s ≡ None
  not_refused p o t s S l m =
      ap (λ z. option_map_or (λ j. if round_of (standing_at s j) == 2147483647 then Some RoundsOut else None) z None) (lowest_first i p n o t s S small l)
      ∙ if_false _ _ _ (ap (λ z. round_of z == 2147483647) (standing_first i (Open o) t s S.row) ∙ ne_eqb o.round 2147483647 (λ e. omega arith))

  here_in_round : (p : ℕ) (o : OpenAt) (s u : NodeState) (w : List Message) → o.round + 1 ≡ r → o.stamp ≤ o.round → Fair p (estimated r o) → s.waiting ≡ held → Advanced i p n o s (node_step Advance s) → Flushed (node_step Advance s) u w → InRound p u w
  here_in_round p o s u w e l ok waits A F = record {
    o = entered (o.round + 1) o;
    sits = flushed_sits i p n _ no_votes _ u w A.sits F;
    round = e;
    stamp = omega arith;
    none = refl;
    ok = ok;
    said = subst (λ z. Contains w (from_to p z (say.Estimate i (estimated r o)))) coordinates (subst (λ z. Contains w (from_to p (coordinator_of z n) (say.Estimate i (estimated z o)))) e (F.sent _ A.owes));
    waits = F.waiting ∙ A.onward.waiting ∙ waits;
  }

  -- an open instance can enter the round, one round after another
  pub enters_round : (p d : ℕ) (o : OpenAt) (t : Tally) (s : NodeState) (w : List Message) → Sits i p n (Open o) t s → o.stamp ≤ o.round → 0 < o.round → o.round + suc d ≡ r → r ≤ 2147483647 → Fair p (estimated r o) → s.waiting ≡ held → Comes i r calm n p c s w (InRound p)
  enters_round p zero o t s w S l m e b ok waits =
      and_then i r calm n p c s w (Flushed (node_step Advance s)) (InRound p) (takes i r calm n p c s w Advance (tt, not_refused p o t s S m (omega arith)) tt (advance_keeps i r (calm p) p n o t s S small m (omega arith))) (λ u x a F.
      no_event i r calm n p c u x (InRound p) (here_in_round p o s u x (omega arith) l ok waits (advance i p n o t s S small m) F))
  enters_round p (suc d) o t s w S l m e b ok waits =
      let A : Advanced i p n o s (node_step Advance s) = advance i p n o t s S small m in
      and_then i r calm n p c s w (Flushed (node_step Advance s)) (InRound p) (takes i r calm n p c s w Advance (tt, not_refused p o t s S m (omega arith)) tt (advance_keeps i r (calm p) p n o t s S small m (omega arith))) (λ u x a F.
      enters_round p d (entered (o.round + 1) o) no_votes u x (flushed_sits i p n _ no_votes _ u x A.sits F) (omega arith) (omega arith) (omega arith) b ok (F.waiting ∙ A.onward.waiting ∙ waits))

  -- the coordinator has the estimates of the members below m, and lacks some still
  record Counting (set : ℕ → Bool) (Counted : ℕ → List Vote → Type 0) (m : ℕ) (s : NodeState) : Type 0 where
    o : OpenAt
    t : Tally
    sits : Sits i k n (Open o) t s
    round : o.round ≡ r
    stamp : o.stamp < r
    none : o.proposal ≡ None
    acks : t.acks ≡ 0
    nacks : t.nacks ≡ 0
    lacks : pick n t ≡ None
    votes : (q : ℕ) → q < m → set q ≡ true → is_sender t.estimates q ≡ true
    ok : Counted m t.estimates
    waits : s.waiting ≡ held

  -- the coordinator has made a proposal, and sent it to every node
  pub record Made (s : NodeState) (w : List Message) : Type 0 where
    pub v : Command
    pub ok : Ok v
    pub o : OpenAt
    pub t : Tally
    pub sits : Sits i k n (Open o) t s
    pub round : o.round ≡ r
    pub stamp : o.stamp < r
    pub made : o.proposal ≡ Some v
    pub acks : t.acks ≡ 0
    pub nacks : t.nacks ≡ 0
    pub said : (q : ℕ) → q < n → Contains w (from_to k q (say.Proposal i r v))
    pub waits : s.waiting ≡ held

  -- node q's estimate for the round was sent
  abbrev pub HasVoted : ℕ → List Message → Type 0
  HasVoted q w = (e : Estimated) × (e.round ≡ r) × Fair q e × Contains w (from_to q k (say.Estimate i e))

  module _
      (set : ℕ → Bool)
      (never : calm k → ⊥)
      (Counted : ℕ → List Vote → Type 0)
      (none : Counted 0 [])
      (more : (m : ℕ) (e : Estimated) (es : List Vote) → set m ≡ true → Fair m e → Counted m es → Counted (suc m) (with_vote (record { sender = m; stamp = e.stamp; command = e.command }) es))
      (skip : (m : ℕ) (es : List Vote) → set m ≡ false → Counted m es → Counted (suc m) es)
      (picks : (m : ℕ) (es : List Vote) (b : Vote) → Counted m es → best_vote es ≡ Some b → Ok b.command) where
    abbrev CountingOrMade : ℕ → NodeState → List Message → Type 0
    CountingOrMade m s w = Counting set Counted m s ⊎ Made s w

    after_one : (m : ℕ) (s u : NodeState) (w : List Message) (e : Estimated) → (C : Counting set Counted m s) → set m ≡ true → e.round ≡ r → Fair m e → (f : Option Command) → pick n (voted m e C.t) ≡ f → Tallied i k n C.o (voted m e C.t) s (node_step (Hear (from_to m k (say.Estimate i e))) s) f → Flushed (node_step (Hear (from_to m k (say.Estimate i e))) s) u w → CountingOrMade (suc m) u w
    after_one m s u w e C in_set x ok None f T F = inl (record {
      o = C.o;
      t = voted m e C.t;
      sits = flushed_sits i k n _ _ _ u w T.0 F;
      round = C.round;
      stamp = C.stamp;
      none = C.none;
      acks = C.acks;
      nacks = C.nacks;
      lacks = f;
      votes = one_higher set (λ q. is_sender (voted m e C.t).estimates q ≡ true) m (λ q l y. still_sender (record { sender = m; stamp = e.stamp; command = e.command }) C.t.estimates q (C.votes q l y)) (λ y. new_sender (record { sender = m; stamp = e.stamp; command = e.command }) C.t.estimates);
      ok = more m e C.t.estimates in_set ok C.ok;
      waits = F.waiting ∙ T.1.waiting ∙ C.waits;
    })
    after_one m s u w e C in_set x ok (Some v) f T F = inr (record {
      v = v;
      ok = pick_ok Ok n (voted m e C.t) v (λ b. picks (suc m) (voted m e C.t).estimates b (more m e C.t.estimates in_set ok C.ok)) f;
      o = record C.o { proposal = Some v };
      t = voted m e C.t;
      sits = flushed_sits i k n _ _ _ u w T.sits F;
      round = C.round;
      stamp = C.stamp;
      made = refl;
      acks = C.acks;
      nacks = C.nacks;
      said = λ q l. subst (λ z. Contains w (from_to k q (say.Proposal i z v))) C.round (F.sent _ (T.owes q l));
      waits = F.waiting ∙ T.onward.waiting ∙ C.waits;
    })

    count_one : (m : ℕ) (s : NodeState) (w : List Message) → m < n → set m ≡ true → HasVoted m w → Counting set Counted m s → Comes i r calm n k c s w (CountingOrMade (suc m))
    count_one m s w l in_set V C =
        let e : Estimated = V.0 in
        let input : Message = from_to m k (say.Estimate i e) in
        and_then i r calm n k c s w (Flushed (node_step (Hear input) s)) (CountingOrMade (suc m)) (takes i r calm n k c s w (Hear input) (V.3, refl) (l, subst (λ z. 0 < z) (sym V.1) above) (estimate_keeps i r (calm k) k n m never e C.o C.t s C.sits small (C.round ∙ sym V.1) (ap (λ z. coordinator_of z n) V.1 ∙ coordinates) C.acks C.nacks C.none (pick n (voted m e C.t)) refl)) (λ u x a F.
        no_event i r calm n k c u x (CountingOrMade (suc m)) (after_one m s u x e C in_set V.1 V.2 (pick n (voted m e C.t)) refl (hears_estimate i k n m e C.o C.t s C.sits small (C.round ∙ sym V.1) (ap (λ z. coordinator_of z n) V.1 ∙ coordinates) C.acks C.nacks C.none (pick n (voted m e C.t)) refl) F))

    count_on : (m : ℕ) (s : NodeState) (w : List Message) → m < n → (set m ≡ true → HasVoted m w) → CountingOrMade m s w → Comes i r calm n k c s w (CountingOrMade (suc m))
    count_on m s w l V (inr M) = no_event i r calm n k c s w (CountingOrMade (suc m)) (inr M)
    count_on m s w l V (inl C) = by (set m) refl
      where
        by : (b : Bool) → set m ≡ b → Comes i r calm n k c s w (CountingOrMade (suc m))
        by true e = count_one m s w l e (V e) C
        by false e = no_event i r calm n k c s w (CountingOrMade (suc m)) (inl (record {
          o = C.o;
          t = C.t;
          sits = C.sits;
          round = C.round;
          stamp = C.stamp;
          none = C.none;
          acks = C.acks;
          nacks = C.nacks;
          lacks = C.lacks;
          votes = one_higher set (λ q. is_sender C.t.estimates q ≡ true) m C.votes (λ y. absurd (false≢true (sym e ∙ y)));
          ok = skip m C.t.estimates e C.ok;
          waits = C.waits;
        }))

    count_all : (m : ℕ) (s : NodeState) (w : List Message) → m ≤ n → ((q : ℕ) → q < n → set q ≡ true → HasVoted q w) → Counting set Counted 0 s → Comes i r calm n k c s w (CountingOrMade m)
    count_all zero s w l V C = no_event i r calm n k c s w (CountingOrMade 0) (inl C)
    count_all (suc m) s w l V C =
        and_then i r calm n k c s w (CountingOrMade m) (CountingOrMade (suc m)) (count_all m s w (omega arith) V C) (λ u x a D.
        count_on m u x (omega arith) (λ y. let v : HasVoted m w = V m (omega arith) y in (v.0, v.1, v.2, alone_sent n k c s w u x a _ v.3)) D)

    -- the coordinator can propose, by the estimates of a majority
    pub makes : (s : NodeState) (w : List Message) → majority_of n ≤ count_below set n → ((q : ℕ) → q < n → set q ≡ true → HasVoted q w) → InRound k s w → Comes i r calm n k c s w Made
    makes s w enough V I =
        let C : Counting set Counted 0 s = record {
          o = I.o;
          t = no_votes;
          sits = I.sits;
          round = I.round;
          stamp = I.stamp;
          none = I.none;
          acks = refl;
          nacks = refl;
          lacks = no_pick n;
          votes = λ q l y. absurd (omega arith);
          ok = none;
          waits = I.waits;
        } in
        and_then i r calm n k c s w (CountingOrMade n) Made (count_all n s w (le_refl n) V C) (λ u x a D.
        no_event i r calm n k c u x Made (elim D [
          | inl still ↦ absurd (something_picked n still.t (votes_suffice n set still.t.estimates enough still.votes) still.lacks)
          | inr M ↦ M
        ]))

  -- node p is about to hear the proposal of v: the coordinator has made it
  pub record Hearing (v : Command) (p : ℕ) (s : NodeState) : Type 0 where
    pub o : OpenAt
    pub t : Tally
    pub sits : Sits i p n (Open o) t s
    pub round : o.round ≡ r
    pub stamp : o.stamp < r
    pub acks : t.acks ≡ 0
    pub nacks : t.nacks ≡ 0
    pub lacks : o.proposal ≡ None → pick n t ≡ None
    pub own : p ≡ k → o.proposal ≡ Some v
    pub waits : s.waiting ≡ held

  -- node p has adopted it, and sent its acknowledgement
  pub record Answered (v : Command) (p : ℕ) (s : NodeState) (w : List Message) : Type 0 where
    pub o : OpenAt
    pub t : Tally
    pub sits : Sits i p n (Open o) t s
    pub round : o.round ≡ r
    pub acks : t.acks ≡ 0
    pub nacks : t.nacks ≡ 0
    pub own : p ≡ k → o.proposal ≡ Some v
    pub estimate : o.estimate ≡ v
    pub said : Contains w (from_to p k (say.Ack i r))
    pub waits : s.waiting ≡ held

  pub adopts : (v : Command) (p : ℕ) (s : NodeState) (w : List Message) → k < n → Contains w (from_to k p (say.Proposal i r v)) → Hearing v p s → Comes i r calm n p c s w (Answered v p)
  adopts v p s w l said H =
      let input : Message = from_to k p (say.Proposal i r v) in
      let A : Adopted i p n k r v H.o H.t s (node_step (Hear input) s) = hears_proposal i p n k r v H.o H.t s H.sits small H.round H.stamp coordinates H.acks H.nacks H.lacks in
      and_then i r calm n p c s w (Flushed (node_step (Hear input) s)) (Answered v p) (takes i r calm n p c s w (Hear input) (said, refl) (l, above) (proposal_keeps i (calm p) p n k r v H.o H.t s H.sits small H.round H.stamp coordinates H.acks H.nacks H.lacks)) (λ u x a F.
      no_event i r calm n p c u x (Answered v p) (record {
        o = adopting r v H.o;
        t = H.t;
        sits = flushed_sits i p n _ _ _ u x A.sits F;
        round = H.round;
        acks = H.acks;
        nacks = H.nacks;
        own = H.own;
        estimate = refl;
        said = F.sent _ A.owes;
        waits = F.waiting ∙ A.onward.waiting ∙ H.waits;
      }))

  -- node p has decided, and all is marked
  pub record Ended (v : Command) (p : ℕ) (s : NodeState) : Type 0 where
    pub t : Tally
    pub sits : Sits i p n (Decided v) t s
    pub running : s.running ≡ None
    pub staged : s.staged ≡ []
    pub waits : s.waiting ≡ held

  -- the coordinator has, and has sent its decision to the others
  pub record Told (v : Command) (s : NodeState) (w : List Message) : Type 0 where
    pub ended : Ended v k s
    pub said : (q : ℕ) → q < n → (q ≡ k → ⊥) → Contains w (from_to k q (say.Decision i v))

  ended_by : (v : Command) (p : ℕ) (s t u : NodeState) (w : List Message) → s.waiting ≡ held → Concluded i p n v s t → Flushed t u w → Ended v p u
  ended_by v p s t u w waits C F = record { t = no_votes; sits = flushed_sits i p n _ _ _ u w C.sits F; running = F.running; staged = F.staged; waits = F.waiting ∙ C.onward.waiting ∙ waits }

  -- the coordinator has the acknowledgements of the members below m, and they are too few still
  record Collecting (v : Command) (set : ℕ → Bool) (m : ℕ) (s : NodeState) : Type 0 where
    o : OpenAt
    t : Tally
    sits : Sits i k n (Open o) t s
    round : o.round ≡ r
    made : o.proposal ≡ Some v
    nacks : t.nacks ≡ 0
    few : is_enough n t.acks ≡ false
    acks : (q : ℕ) → q < m → set q ≡ true → has_member t.acks q ≡ true
    waits : s.waiting ≡ held

  module _ (v : Command) (set : ℕ → Bool) (never : calm k → ⊥) where
    abbrev CollectingOrTold : ℕ → NodeState → List Message → Type 0
    CollectingOrTold m s w = Collecting v set m s ⊎ Told v s w

    after_ack : (m : ℕ) (s u : NodeState) (w : List Message) → (C : Collecting v set m s) → (b : Bool) → is_enough n (with_member C.t.acks m) ≡ b → Acknowledged i k n v C.o (acked m C.t) s (node_step (Hear (from_to m k (say.Ack i r))) s) b → Flushed (node_step (Hear (from_to m k (say.Ack i r))) s) u w → CollectingOrTold (suc m) u w
    after_ack m s u w C false f A F = inl (record {
      o = C.o;
      t = acked m C.t;
      sits = flushed_sits i k n _ _ _ u w A.0 F;
      round = C.round;
      made = C.made;
      nacks = C.nacks;
      few = f;
      acks = one_higher set (λ q. has_member (with_member C.t.acks m) q ≡ true) m (λ q l y. still_member C.t.acks m q (C.acks q l y)) (λ y. new_member C.t.acks m);
      waits = F.waiting ∙ A.1.waiting ∙ C.waits;
    })
    after_ack m s u w C true f A F = inr (record { ended = ended_by v k s _ u w C.waits A F; said = λ q l other. F.sent _ (A.owes q l other) })

    collect_one : (m : ℕ) (s : NodeState) (w : List Message) → m < n → Contains w (from_to m k (say.Ack i r)) → Collecting v set m s → Comes i r calm n k c s w (CollectingOrTold (suc m))
    collect_one m s w l said C =
        let input : Message = from_to m k (say.Ack i r) in
        and_then i r calm n k c s w (Flushed (node_step (Hear input) s)) (CollectingOrTold (suc m)) (takes i r calm n k c s w (Hear input) (said, refl) (l, above) (ack_keeps i (calm k) k n m r never v C.o C.t s C.sits small C.round coordinates C.made C.nacks (is_enough n (with_member C.t.acks m)) refl)) (λ u x a F.
        no_event i r calm n k c u x (CollectingOrTold (suc m)) (after_ack m s u x C (is_enough n (with_member C.t.acks m)) refl (hears_ack i k n m r v C.o C.t s C.sits small C.round coordinates C.made C.nacks (is_enough n (with_member C.t.acks m)) refl) F))

    collect_on : (m : ℕ) (s : NodeState) (w : List Message) → m < n → (set m ≡ true → Contains w (from_to m k (say.Ack i r))) → CollectingOrTold m s w → Comes i r calm n k c s w (CollectingOrTold (suc m))
    collect_on m s w l V (inr T) = no_event i r calm n k c s w (CollectingOrTold (suc m)) (inr T)
    collect_on m s w l V (inl C) = by (set m) refl
      where
        by : (b : Bool) → set m ≡ b → Comes i r calm n k c s w (CollectingOrTold (suc m))
        by true e = collect_one m s w l (V e) C
        by false e = no_event i r calm n k c s w (CollectingOrTold (suc m)) (inl (record {
          o = C.o;
          t = C.t;
          sits = C.sits;
          round = C.round;
          made = C.made;
          nacks = C.nacks;
          few = C.few;
          acks = one_higher set (λ q. has_member C.t.acks q ≡ true) m C.acks (λ y. absurd (false≢true (sym e ∙ y)));
          waits = C.waits;
        }))

    collect_all : (m : ℕ) (s : NodeState) (w : List Message) → m ≤ n → ((q : ℕ) → q < n → set q ≡ true → Contains w (from_to q k (say.Ack i r))) → Collecting v set 0 s → Comes i r calm n k c s w (CollectingOrTold m)
    collect_all zero s w l V C = no_event i r calm n k c s w (CollectingOrTold 0) (inl C)
    collect_all (suc m) s w l V C =
        and_then i r calm n k c s w (CollectingOrTold m) (CollectingOrTold (suc m)) (collect_all m s w (omega arith) V C) (λ u x a D.
        collect_on m u x (omega arith) (λ y. alone_sent n k c s w u x a _ (V m (omega arith) y)) D)

    -- the coordinator can decide, by the acknowledgements of a majority
    pub decides : (s : NodeState) (w : List Message) → majority_of n ≤ count_below set n → ((q : ℕ) → q < n → set q ≡ true → Contains w (from_to q k (say.Ack i r))) → Answered v k s w → Comes i r calm n k c s w (Told v)
    decides s w enough V A =
        let C : Collecting v set 0 s = record {
          o = A.o;
          t = A.t;
          sits = A.sits;
          round = A.round;
          made = A.own refl;
          nacks = A.nacks;
          few = ap (is_enough n) A.acks ∙ sym (enough_here n 0 s A.sits.nodes) ∙ nobody s;
          acks = λ q l y. absurd (omega arith);
          waits = A.waits;
        } in
        and_then i r calm n k c s w (CollectingOrTold n) (Told v) (collect_all n s w (le_refl n) V C) (λ u x a D.
        no_event i r calm n k c u x (Told v) (elim D [
          | inl still ↦ absurd (false≢true (sym still.few ∙ acks_suffice n set still.t.acks enough still.acks))
          | inr T ↦ T
        ]))

  -- and each other node, by its decision
  pub follows : (v : Command) (p : ℕ) (s : NodeState) (w : List Message) → k < n → Contains w (from_to k p (say.Decision i v)) → Answered v p s w → Comes i r calm n p c s w (λ u x. Ended v p u)
  follows v p s w l said A =
      let input : Message = from_to k p (say.Decision i v) in
      and_then i r calm n p c s w (Flushed (node_step (Hear input) s)) (λ u x. Ended v p u) (takes i r calm n p c s w (Hear input) (said, refl) (l, tt) (decision_keeps i r (calm p) p n k v A.o A.t s A.sits (λ e. A.estimate))) (λ u x a F.
      no_event i r calm n p c u x (λ u2 x2. Ended v p u2) (ended_by v p s _ u x A.waits (hears_decision i p n k v A.o A.t s A.sits) F))
