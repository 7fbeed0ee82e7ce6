-- The four phases of a round that a majority takes alone, and the decision told to each member.
use Rattle.std.proofs.Common.{◌≡◌, ℕ, ◌<◌, ◌⊎◌, inl, inr, Bool, true, false, ◌==◌, List, Contains, Option, None, Some, IsTrue, refl, ap, sym, ◌∙◌, subst, arith, eqb-true}
use Rattle.std.proofs.lemmas.Bool.{false≢true, eqb-false}
use Rattle.rr_types.specs.declared.command.Command.{Command}
use Rattle.rr_types.specs.declared.fact.Fact.{Fact}
use Rattle.rr_types.specs.declared.fact.Fact.TheVariants.{Enter, Propose, Adopt, Decide}
use Rattle.rr_types.specs.declared.promise.Standing.{Standing}
use Rattle.rr_types.specs.declared.promise.Standing.TheVariants.{Decided, Open}
use Rattle.rr_types.specs.declared.message.Body.TheVariants.{Estimate, Proposal, Ack, Decision}
use Rattle.rr_types.specs.declared.message.Message.{Message}
use Rattle.rr_types.specs.Rounds.{Estimated, OpenAt, coordinator_of}
use Rattle.rr_types.specs.Facts.{standing_of, decision_of}
use Rattle.rr_types.specs.Standings.{is_undecided, round_of, stamp_of}
use Rattle.rr_model.specs.Lawful.{Heard, Says, IsOfLargestStamp, Submitted, IsLawfulAt}
use Rattle.rr_model.specs.World.{World}
use Rattle.rr_model.specs.NodeInWorld.{LeavesAlone}
use Rattle.rr_model.proofs.Histories.{entered}
use Rattle.rr_model.proofs.Prefixes.{decided_by}
use Rattle.rr_model.specs.NoDeadEnd.{IsStepOf}
use Rattle.rr_model.proofs.Reaches.{Reaches, by_none, further, weaker, does, each_in_turn, In, IsOwn, KeepsAll, and_keeps, AtNode}
use Rattle.rr_model.proofs.OneNode.{Sits, sits_still, sits_talked, Talked, message, sends, hears, HasKept, keeps, tells_all, hears_all}
use Rattle.rr_model.proofs.Plans.{Plan}

-- the command that a node enters its next round with, if this one is at hand
abbrev pub command_of : Command → Option Standing → Command
command_of c None = c
command_of c (Some (Decided v)) = c
command_of c (Some (Open o)) = o.estimate

-- what it enters round r with
abbrev pub estimated : ℕ → Command → Option Standing → Estimated
estimated r c s = record { round = r; stamp = stamp_of s; command = command_of c s }

-- to enter a later round is lawful
pub may_enter : (n q i r : ℕ) (c : Command) (s : Option Standing) (h : Heard) → IsTrue (is_undecided s) → round_of s < r → Contains h.commands c → IsLawfulAt n q s h (Enter i (estimated r c s))
may_enter n q i r c None h u l k = (l, refl, Submitted k)
may_enter n q i r c (Some (Decided v)) h u l k = absurd (false≢true u)
may_enter n q i r c (Some (Open o)) h u l k = (l, refl, refl)

-- a node or another
this_or : (q p : ℕ) → (q ≡ p) ⊎ (q ≡ p → ⊥)
this_or q p = by (q == p) refl
  where
    by : (b : Bool) → (q == p) ≡ b → (q ≡ p) ⊎ (q ≡ p → ⊥)
    by true e = inl (eqb-true q p e)
    by false e = inr (eqb-false q p e)

-- before the round: the node stands so, and has heard a command
pub record IsReady (i : ℕ) (c : Command) (S : ℕ → Option Standing) (w : World) (q : ℕ) : Type 0 where
  pub sits : Sits w i q (S q)
  pub command : Contains (w.heard q).commands c

-- it has entered the round, and told the coordinator so
record HasEntered (p i r : ℕ) (c : Command) (S : ℕ → Option Standing) (w : World) (q : ℕ) : Type 0 where
  sits : Sits w i q (Some (Open (entered (estimated r c (S q)))))
  told : Contains w.wire (message q p (Estimate i (estimated r c (S q))))

-- it is in the round with this proposal, which it hasn't adopted
record IsAsked (p i r : ℕ) (v : Command) (w : World) (q : ℕ) : Type 0 where
  open_at : OpenAt
  sits : Sits w i q (Some (Open open_at))
  round : open_at.round ≡ r
  stamp : open_at.stamp < r
  proposal : q ≡ p → open_at.proposal ≡ Some v
  told : Contains w.wire (message p q (Proposal i r v))

-- it has adopted the proposal, and told the coordinator so
record HasAdopted (p i r : ℕ) (v : Command) (w : World) (q : ℕ) : Type 0 where
  open_at : OpenAt
  sits : Sits w i q (Some (Open open_at))
  round : open_at.round ≡ r
  proposal : q ≡ p → open_at.proposal ≡ Some v
  told : Contains w.wire (message q p (Ack i r))

-- it is up with nothing staged
pub record IsIdle (i : ℕ) (w : World) (q : ℕ) : Type 0 where
  pub standing : Option Standing
  pub sits : Sits w i q standing

-- it is up, and has decided the instance for good
pub record HasDecided (i : ℕ) (w : World) (q : ℕ) : Type 0 where
  pub up : w.is_up q ≡ true
  pub command : Command
  pub fact : Contains (w.kept q) (Decide i command)

pub ready_own : (i : ℕ) (c : Command) (S : ℕ → Option Standing) → IsOwn (IsReady i c S)
ready_own i c S q w v a x = record { sits = sits_still i (S q) q w v a x.sits; command = subst (λ (z : Heard). Contains z.commands c) (sym a.heard) x.command }

entered_own : (p i r : ℕ) (c : Command) (S : ℕ → Option Standing) → IsOwn (HasEntered p i r c S)
entered_own p i r c S q w v a x = record { sits = sits_still i _ q w v a x.sits; told = a.wire _ x.told }

asked_own : (p i r : ℕ) (v : Command) → IsOwn (IsAsked p i r v)
asked_own p i r v q w z a x = record { open_at = x.open_at; sits = sits_still i _ q w z a x.sits; round = x.round; stamp = x.stamp; proposal = x.proposal; told = a.wire _ x.told }

adopted_own : (p i r : ℕ) (v : Command) → IsOwn (HasAdopted p i r v)
adopted_own p i r v q w z a x = record { open_at = x.open_at; sits = sits_still i _ q w z a x.sits; round = x.round; proposal = x.proposal; told = a.wire _ x.told }

idle_own : (i : ℕ) → IsOwn (IsIdle i)
idle_own i q w v a x = record { standing = x.standing; sits = sits_still i x.standing q w v a x.sits }

-- phase 1: a node enters the round
enters : (n p q i r : ℕ) (c : Command) (S : ℕ → Option Standing) (w : World) → q < n → IsTrue (is_undecided (S q)) → round_of (S q) < r → IsReady i c S w q → Reaches n (AtNode c q) w (λ v. HasEntered p i r c S v q)
enters n p q i r c S w l u late x =
    further n (AtNode c q) w (λ v. HasKept w v i q (S q) (Enter i (estimated r c (S q)))) (λ v. HasEntered p i r c S v q)
    (keeps n q i w (S q) (Enter i (estimated r c (S q))) l refl x.sits (may_enter n q i r c (S q) (w.heard q) u late x.command))
    (λ v K. weaker n (AtNode c q) v (λ z. Talked q v z × Contains z.wire (message q p (Estimate i (estimated r c (S q))))) (λ z. HasEntered p i r c S z q)
    (sends n q p v (Estimate i (estimated r c (S q))) l K.sits.up K.fact (λ d e. absurd (cc)))
    (λ z t. record { sits = sits_talked i _ q v z t.0 K.sits; told = t.1 }))

-- the coordinator's estimates are of a majority, and its own has the largest stamp
is_largest : (n : ℕ) (set : ℕ → Bool) (i : ℕ) (c : Command) (S : ℕ → Option Standing) (P : Plan n set S) (ms : List Message) → ((q : ℕ) → q < n → set q ≡ true → Contains ms (message q P.p (Estimate i (estimated P.r c (S q))))) → IsOfLargestStamp n i P.r ms (command_of c (S P.p))
is_largest n set i c S P ms heard = record {
  stamp = stamp_of (S P.p);
  sender = P.p;
  said = (P.p, heard P.p P.member.0 P.member.1);
  majority = record {
    members = set;
    enough = P.enough;
    each = λ q l m. record { stamp = stamp_of (S q); command = command_of c (S q); said = (P.p, heard q l m); older = P.largest q (l, m) };
  };
  exists = P.member.0;
  member = P.member.1;
}

-- the coordinator has proposed, and told each node
record HasProposed (n i r : ℕ) (v : Command) (o : OpenAt) (w : World) (p : ℕ) : Type 0 where
  sits : Sits w i p (Some (Open (record o { proposal = Some v })))
  told : (q : ℕ) → q < n → Contains w.wire (message p q (Proposal i r v))

-- phase 2: the coordinator proposes
proposes : (n : ℕ) (set : ℕ → Bool) (i : ℕ) (c : Command) (S : ℕ → Option Standing) (P : Plan n set S) (w : World) → ((q : ℕ) → In n set q → HasEntered P.p i P.r c S w q) → Reaches n (AtNode c P.p) w (λ v. HasProposed n i P.r (command_of c (S P.p)) (entered (estimated P.r c (S P.p))) v P.p)
proposes n set i c S P w all =
    let p : ℕ = P.p in
    let v : Command = command_of c (S P.p) in
    let o : OpenAt = entered (estimated P.r c (S P.p)) in
    let mine : HasEntered P.p i P.r c S w P.p = all P.p P.member in
    let f : Fact = Propose i P.r v in
    further n (AtNode c P.p) w (λ u. Talked P.p w u × ((q : ℕ) → q < n → set q ≡ true → Contains (u.heard P.p).messages (message q P.p (Estimate i (estimated P.r c (S q)))))) (λ z. HasProposed n i P.r v o z P.p)
    (hears_all n P.p w set (λ q. Estimate i (estimated P.r c (S q))) P.member.0 mine.sits.up (λ q m. (all q m).told) n (omega arith))
    (λ u g. further n (AtNode c P.p) u (λ z. HasKept u z i P.p (Some (Open o)) f) (λ z. HasProposed n i P.r v o z P.p)
    (keeps n P.p i u (Some (Open o)) f P.member.0 refl (sits_talked i (Some (Open o)) P.p w u g.0 mine.sits) (refl, P.coordinates, refl, is_largest n set i c S P (u.heard P.p).messages g.1))
    (λ y K. weaker n (AtNode c P.p) y (λ z. Talked P.p y z × ((q : ℕ) → q < n → Contains z.wire (message P.p q (Proposal i P.r v)))) (λ z. HasProposed n i P.r v o z P.p)
    (tells_all n P.p y (Proposal i P.r v) P.member.0 K.sits.up K.fact (λ d e. absurd (cc)) n)
    (λ z t. record { sits = sits_talked i _ P.p y z t.0 K.sits; told = t.1 })))

-- so each node of the set is asked
asked : (n : ℕ) (set : ℕ → Bool) (i : ℕ) (c : Command) (S : ℕ → Option Standing) (P : Plan n set S) (w z : World) → ((q : ℕ) → In n set q → HasEntered P.p i P.r c S w q) → HasProposed n i P.r (command_of c (S P.p)) (entered (estimated P.r c (S P.p))) z P.p → ((q : ℕ) → (q ≡ P.p → ⊥) → LeavesAlone q w z) → (q : ℕ) → In n set q → IsAsked P.p i P.r (command_of c (S P.p)) z q
asked n set i c S P w z all H alone q m = elim (this_or q P.p) [
  | inl e ↦ subst (IsAsked P.p i P.r (command_of c (S P.p)) z) (sym e) (record {
    open_at = record (entered (estimated P.r c (S P.p))) { proposal = Some (command_of c (S P.p)) };
    sits = H.sits;
    round = refl;
    stamp = P.above_stamps P.p P.member;
    proposal = λ x. refl;
    told = H.told P.p P.member.0;
  })
  | inr e ↦ record {
    open_at = entered (estimated P.r c (S q));
    sits = sits_still i (Some (Open (entered (estimated P.r c (S q))))) q w z (alone q e) (all q m).sits;
    round = refl;
    stamp = P.above_stamps q m;
    proposal = λ x. absurd (e x);
    told = H.told q m.0;
  }
]

-- phase 3: a node adopts
adopts : {c : Command} → (n p q i r : ℕ) (v : Command) (w : World) → q < n → p ≡ coordinator_of r n → IsAsked p i r v w q → Reaches n (AtNode c q) w (λ z. HasAdopted p i r v z q)
adopts {c} n p q i r v w l co A =
    let o : OpenAt = A.open_at in
    further n (AtNode c q) w (λ u. Talked q w u × Contains (u.heard q).messages (message p q (Proposal i r v))) (λ z. HasAdopted p i r v z q)
    (hears n q p w (Proposal i r v) l A.sits.up A.told)
    (λ u g. further n (AtNode c q) u (λ y. HasKept u y i q (Some (Open A.open_at)) (Adopt i r v)) (λ z. HasAdopted p i r v z q)
    (keeps n q i u (Some (Open A.open_at)) (Adopt i r v) l refl (sits_talked i _ q w u g.0 A.sits) (A.round, A.stamp, subst (λ z. Says (u.heard q).messages z (Proposal i r v)) co (q, g.1)))
    (λ y K. weaker n (AtNode c q) y (λ z. Talked q y z × Contains z.wire (message q p (Ack i r))) (λ z. HasAdopted p i r v z q)
    (sends n q p y (Ack i r) l K.sits.up (v, K.fact) (λ d e. absurd (cc)))
    (λ z t. record { open_at = record o { stamp = r; estimate = v }; sits = sits_talked i _ q y z t.0 K.sits; round = A.round; proposal = A.proposal; told = t.1 })))

-- the node has decided, and sits
record HasJustDecided (i : ℕ) (v : Command) (w : World) (p : ℕ) : Type 0 where
  sits : Sits w i p (Some (Decided v))
  fact : Contains (w.kept p) (Decide i v)

-- phase 4: the coordinator decides
decides : {c : Command} → (n : ℕ) (set : ℕ → Bool) (i : ℕ) (S : ℕ → Option Standing) (P : Plan n set S) (v : Command) (w : World) → ((q : ℕ) → In n set q → HasAdopted P.p i P.r v w q) → Reaches n (AtNode c P.p) w (λ z. HasJustDecided i v z P.p)
decides {c} n set i S P v w all =
    let A : HasAdopted P.p i P.r v w P.p = all P.p P.member in
    further n (AtNode c P.p) w (λ u. Talked P.p w u × ((q : ℕ) → q < n → set q ≡ true → Contains (u.heard P.p).messages (message q P.p (Ack i P.r)))) (λ z. HasJustDecided i v z P.p)
    (hears_all n P.p w set (λ q. Ack i P.r) P.member.0 A.sits.up (λ q m. (all q m).told) n (omega arith))
    (λ u g. weaker n (AtNode c P.p) u (λ z. HasKept u z i P.p (Some (Open A.open_at)) (Decide i v)) (λ z. HasJustDecided i v z P.p)
    (keeps n P.p i u (Some (Open A.open_at)) (Decide i v) P.member.0 refl (sits_talked i _ P.p w u g.0 A.sits)
    (inr (A.proposal refl, record { members = set; enough = P.enough; each = λ q l m. (P.p, subst (λ z. Contains (u.heard P.p).messages (message q P.p (Ack i z))) (sym A.round) (g.1 q l m)) })))
    (λ z K. record { sits = K.sits; fact = K.fact }))

-- a node has been told a decision
record IsToldDecision (p i : ℕ) (v : Command) (w : World) (q : ℕ) : Type 0 where
  idle : IsIdle i w q
  told : Contains w.wire (message p q (Decision i v))

told_own : (p i : ℕ) (v : Command) → IsOwn (IsToldDecision p i v)
told_own p i v q w z a x = record { idle = idle_own i q w z a x.idle; told = a.wire _ x.told }

decided_own : (i : ℕ) → IsOwn (HasDecided i)
decided_own i q w v a x = record { up = a.up ∙ x.up; command = x.command; fact = subst (λ z. Contains z (Decide i x.command)) (sym a.kept) x.fact }

-- what is decided was decided by a fact
pub by_fact : (facts : List Fact) (i : ℕ) (u : Command) → standing_of i facts ≡ Some (Decided u) → Contains facts (Decide i u)
by_fact facts i u e = elim (decided_by None i u facts (ap decision_of e)) [
  | inl x ↦ absurd (cc)
  | inr c ↦ c
]

-- it decides too
follows : {c : Command} → (n p q i : ℕ) (v : Command) (w : World) → q < n → (s : Option Standing) → Sits w i q s → Contains w.wire (message p q (Decision i v)) → Reaches n (AtNode c q) w (λ z. HasDecided i z q)
follows {c} n p q i v w l (Some (Decided u)) X told = by_none n (AtNode c q) w (λ z. HasDecided i z q) (record { up = X.up; command = u; fact = by_fact (w.kept q) i u X.stands })
follows {c} n p q i v w l None X told =
    further n (AtNode c q) w (λ u. Talked q w u × Contains (u.heard q).messages (message p q (Decision i v))) (λ z. HasDecided i z q)
    (hears n q p w (Decision i v) l X.up told)
    (λ u g. weaker n (AtNode c q) u (λ z. HasKept u z i q None (Decide i v)) (λ z. HasDecided i z q) (keeps n q i u None (Decide i v) l refl (sits_talked i _ q w u g.0 X) (p, (q, g.1))) (λ z K. record { up = K.sits.up; command = v; fact = K.fact }))
follows {c} n p q i v w l (Some (Open o)) X told =
    further n (AtNode c q) w (λ u. Talked q w u × Contains (u.heard q).messages (message p q (Decision i v))) (λ z. HasDecided i z q)
    (hears n q p w (Decision i v) l X.up told)
    (λ u g. weaker n (AtNode c q) u (λ z. HasKept u z i q (Some (Open o)) (Decide i v)) (λ z. HasDecided i z q) (keeps n q i u (Some (Open o)) (Decide i v) l refl (sits_talked i _ q w u g.0 X) (inl (p, (q, g.1)))) (λ z K. record { up = K.sits.up; command = v; fact = K.fact }))

-- where one node of the set has decided, all can
pub spreads : {c : Command} → (n : ℕ) (set : ℕ → Bool) (p i : ℕ) (v : Command) (w : World) → In n set p → ((q : ℕ) → In n set q → IsIdle i w q) → Contains (w.kept p) (Decide i v) → Reaches n (IsStepOf n set c) w (λ z. (q : ℕ) → In n set q → HasDecided i z q)
spreads {c} n set p i v w m all fact =
    further n (IsStepOf n set c) w (λ u. (Talked p w u × ((q : ℕ) → q < n → Contains u.wire (message p q (Decision i v)))) × ((q : ℕ) → (q ≡ p → ⊥) → LeavesAlone q w u)) (λ z. (q : ℕ) → In n set q → HasDecided i z q)
    (does n set p w (λ u. Talked p w u × ((q : ℕ) → q < n → Contains u.wire (message p q (Decision i v)))) m (tells_all n p w (Decision i v) m.0 (all p m).sits.up fact (λ d e. absurd (cc)) n))
    (λ u g. each_in_turn n set (IsToldDecision p i v) (HasDecided i) (told_own p i v) (decided_own i) (λ y q k x. follows n p q i v y k.0 x.idle.standing x.idle.sits x.told) u
    (λ q k. record { idle = still u g.0.0 g.1 q k (this_or q p); told = g.0.1 q k.0 }))
  where
    still : (u : World) → Talked p w u → ((q : ℕ) → (q ≡ p → ⊥) → LeavesAlone q w u) → (q : ℕ) → In n set q → (q ≡ p) ⊎ (q ≡ p → ⊥) → IsIdle i u q
    still u t alone q k (inl e) = subst (IsIdle i u) (sym e) (record { standing = (all p m).standing; sits = sits_talked i (all p m).standing p w u t (all p m).sits })
    still u t alone q k (inr e) = idle_own i q w u (alone q e) (all q k)

-- where none has, they decide in a round of their own
pub takes_a_round : (n : ℕ) (set : ℕ → Bool) (i : ℕ) (c : Command) (S : ℕ → Option Standing) (P : Plan n set S) (w : World) → ((q : ℕ) → In n set q → IsReady i c S w q) → Reaches n (IsStepOf n set c) w (λ z. ((q : ℕ) → In n set q → HasDecided i z q) × Contains (z.kept P.p) (Decide i (command_of c (S P.p))))
takes_a_round n set i c S P w ready =
    let v : Command = command_of c (S P.p) in
    let o : OpenAt = entered (estimated P.r c (S P.p)) in
    let Goal : World → Type 0 = (λ z. ((q : ℕ) → In n set q → HasDecided i z q) × Contains (z.kept P.p) (Decide i (command_of c (S P.p)))) in
    further n (IsStepOf n set c) w (λ w1. (q : ℕ) → In n set q → HasEntered P.p i P.r c S w1 q) Goal
    (each_in_turn n set (IsReady i c S) (HasEntered P.p i P.r c S) (ready_own i c S) (entered_own P.p i P.r c S) (λ y q m x. enters n P.p q i P.r c S y m.0 (P.undecided q m) (P.later q m) x) w ready)
    (λ w1 in_it. further n (IsStepOf n set c) w1 (λ w2. HasProposed n i P.r v o w2 P.p × ((q : ℕ) → (q ≡ P.p → ⊥) → LeavesAlone q w1 w2)) Goal
    (does n set P.p w1 (λ w2. HasProposed n i P.r v o w2 P.p) P.member (proposes n set i c S P w1 in_it))
    (λ w2 H. further n (IsStepOf n set c) w2 (λ w3. (q : ℕ) → In n set q → HasAdopted P.p i P.r v w3 q) Goal
    (each_in_turn n set (IsAsked P.p i P.r v) (HasAdopted P.p i P.r v) (asked_own P.p i P.r v) (adopted_own P.p i P.r v) (λ y q m x. adopts n P.p q i P.r v y m.0 P.coordinates x) w2 (asked n set i c S P w1 w2 in_it H.0 H.1))
    (λ w3 adopted. further n (IsStepOf n set c) w3 (λ w4. HasJustDecided i v w4 P.p × ((q : ℕ) → (q ≡ P.p → ⊥) → LeavesAlone q w3 w4)) Goal
    (does n set P.p w3 (λ w4. HasJustDecided i v w4 P.p) P.member (decides n set i S P v w3 adopted))
    (λ w4 D. weaker n (IsStepOf n set c) w4 (λ z. ((q : ℕ) → In n set q → HasDecided i z q) × KeepsAll w4 z) Goal
    (and_keeps n (IsStepOf n set c) w4 (λ z. (q : ℕ) → In n set q → HasDecided i z q) (spreads n set P.p i v w4 P.member (λ q m. elim (this_or q P.p) [
      | inl e ↦ subst (IsIdle i w4) (sym e) (record { standing = Some (Decided v); sits = D.0.sits })
      | inr e ↦ record { standing = Some (Open (adopted q m).open_at); sits = sits_still i _ q w3 w4 (D.1 q e) (adopted q m).sits }
    ]) D.0.fact))
    (λ z g. (g.0, g.1 P.p (Decide i v) D.0.fact))))))
