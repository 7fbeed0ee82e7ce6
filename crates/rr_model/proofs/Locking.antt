-- In a round one command is proposed, and once a majority has acknowledged it every later round proposes the same.
use Rattle.std.proofs.Common.{◌≡◌, ℕ, ◌<◌, ◌≤◌, inl, inr, zero, suc, List, ◌∷◌, ◌++◌, Contains, Option, None, Some, IsTrue, refl, sym, ◌∙◌, subst, arith, le_refl}
use Rattle.std.proofs.lemmas.Bool.{false≢true, cases_order}
use Rattle.std.proofs.lemmas.Option.{none-some}
use Rattle.rr_types.specs.declared.command.Command.{Command}
use Rattle.rr_types.specs.declared.fact.Fact.{Fact}
use Rattle.rr_types.specs.declared.fact.Fact.TheVariants.{Enter, Propose, Adopt}
use Rattle.rr_types.specs.declared.promise.Standing.{Standing}
use Rattle.rr_types.specs.declared.promise.Standing.TheVariants.{Decided, Open}
use Rattle.rr_types.specs.declared.message.Body.TheVariants.{Proposal, Ack}
use Rattle.rr_types.specs.declared.message.Message.{Message}
use Rattle.rr_types.specs.Rounds.{Estimated, OpenAt, coordinator_of}
use Rattle.rr_types.specs.Facts.{standing_of, after_fact}
use Rattle.rr_types.specs.Standings.{is_undecided, round_of, stamp_of, estimate_of, proposal_of}
use Rattle.rr_model.specs.Lawful.{Heard, Says, HasMajority, HasEstimate, IsOfLargestStamp, IsBacked}
use Rattle.rr_model.proofs.Permitted.{IsInRound, EntersWith, IsPermitted}
use Rattle.rr_model.specs.Sound.{IsChosen}
use Rattle.rr_model.proofs.Places.{Place, place_of, order}
use Rattle.rr_model.proofs.Quorums.{majorities_meet}
use Rattle.rr_model.proofs.Histories.{History, OnOpen, history_front}
use Rattle.rr_model.proofs.Kept.{rounds_rise, stamps_rise, stamps_below, stamps_proposed, proposals_stand, IsProposedOrOver, later, behind}

-- a fact at its place: lawful after the facts before it, which are a history
pub record AtPlace (n p : ℕ) (h : Heard) (facts : List Fact) (f : Fact) : Type 0 where
  pub before : List Fact
  pub after : List Fact
  pub is : facts ≡ before ++ f ∷ after
  pub lawful : IsPermitted n p before h f
  pub history : History n p h before

pub at_place : (n p : ℕ) (h : Heard) (facts : List Fact) (f : Fact) → History n p h facts → Contains facts f → AtPlace n p h facts f
at_place n p h facts f H c =
    let l : Place facts f = place_of facts f c in
    record {
      before = l.before;
      after = l.after;
      is = l.is;
      lawful = H.lawful l.before f l.after l.is;
      history = history_front n p h l.before (f ∷ l.after) (subst (History n p h) l.is H);
    }

-- behind a fact of the present round, where that leaves the property
pub after_adopt : (P : OpenAt → Type 0) (s : Option Standing) (i r : ℕ) (v : Command) → IsInRound s r → ((o : OpenAt) → o.round ≡ r → P (record o { stamp = r; estimate = v })) → OnOpen P ⊥ (after_fact s (Adopt i r v))
after_adopt P None i r v l k = absurd l
after_adopt P (Some (Decided w)) i r v l k = tt
after_adopt P (Some (Open o)) i r v l k = k o l

pub after_propose : (P : OpenAt → Type 0) (s : Option Standing) (i r : ℕ) (v : Command) → IsInRound s r → ((o : OpenAt) → o.round ≡ r → P (record o { proposal = Some v })) → OnOpen P ⊥ (after_fact s (Propose i r v))
after_propose P None i r v l k = absurd l
after_propose P (Some (Decided w)) i r v l k = tt
after_propose P (Some (Open o)) i r v l k = k o l

-- what an open instance has, where it is in round r
pub in_round : (P : OpenAt → Type 0) (X : Type 0) (s : Option Standing) (r : ℕ) → IsInRound s r → OnOpen P X s → (o : OpenAt) × (s ≡ Some (Open o)) × (o.round ≡ r) × P o
in_round P X None r l q = absurd l
in_round P X (Some (Decided v)) r l q = absurd l
in_round P X (Some (Open o)) r l q = (o, refl, l, q)

-- a proposal of the present round is not made twice
not_again : (r : ℕ) (v : Command) (s : Option Standing) → IsInRound s r → proposal_of s ≡ None → OnOpen (IsProposedOrOver r v) ⊥ s → ⊥
not_again r v None l z q = q
not_again r v (Some (Decided w)) l z q = l
not_again r v (Some (Open o)) l z (inl q) = none-some v (sym z ∙ q.1)
not_again r v (Some (Open o)) l z (inr q) = omega arith

again : (n p : ℕ) (h : Heard) (i r : ℕ) (v w : Command) (a mid c : List Fact) → History n p h c → c ≡ a ++ Propose i r v ∷ mid → IsPermitted n p a h (Propose i r v) → IsPermitted n p c h (Propose i r w) → ⊥
again n p h i r v w a mid c H e la lc =
    not_again r v (standing_of i c) lc.0 lc.2
    (later n p h i (IsProposedOrOver r v) (proposals_stand n p h i r v) a (Propose i r v) mid c H e refl (after_propose (IsProposedOrOver r v) (standing_of i a) i r v la.0 (λ o l. inl (l, refl))))

-- a node proposes one command in a round
pub one_proposal_of_node : (n p : ℕ) (h : Heard) (facts : List Fact) (i r : ℕ) (v w : Command) → History n p h facts → Contains facts (Propose i r v) → Contains facts (Propose i r w) → v ≡ w
one_proposal_of_node n p h facts i r v w H cv cw =
    let x : AtPlace n p h facts (Propose i r v) = at_place n p h facts (Propose i r v) H cv in
    let y : AtPlace n p h facts (Propose i r w) = at_place n p h facts (Propose i r w) H cw in
    elim (order x.before x.after y.before y.after (Propose i r v) (Propose i r w) (sym x.is ∙ y.is)) [
      | inl s ↦ (let e : Propose i r v ≡ Propose i r w = s.1 in cc)
      | inr t ↦ elim t [
        | inl m ↦ absurd (again n p h i r v w x.before m.0 y.before y.history m.1 x.lawful y.lawful)
        | inr m ↦ absurd (again n p h i r w v y.before m.0 x.before x.history m.1 y.lawful x.lawful)
      ]
    ]

-- the stamp with which a node enters a round
pub entry_stamp : (r : ℕ) (s : Option Standing) (h : Heard) (e : Estimated) → OnOpen (λ o. r ≤ o.stamp) ⊥ s → IsTrue (is_undecided s) → EntersWith (estimate_of s) (stamp_of s) h e → r ≤ e.stamp
entry_stamp r None h e q u w = absurd q
entry_stamp r (Some (Decided v)) h e q u w = absurd (false≢true u)
entry_stamp r (Some (Open o)) h e q u w = let z : e.stamp ≡ o.stamp = w.1 in omega arith

pub entry_below : (s : Option Standing) (h : Heard) (e : Estimated) → OnOpen (λ o. o.stamp ≤ o.round) (Unit {0}) s → IsTrue (is_undecided s) → round_of s < e.round → EntersWith (estimate_of s) (stamp_of s) h e → e.stamp < e.round
entry_below None h e q u l w = let z : e.stamp ≡ 0 = w.0 in omega arith
entry_below (Some (Decided v)) h e q u l w = absurd (false≢true u)
entry_below (Some (Open o)) h e q u l w = let z : e.stamp ≡ o.stamp = w.1 in omega arith

entry_proposed : (n i : ℕ) (s : Option Standing) (h : Heard) (e : Estimated) → OnOpen (λ o. 0 < o.stamp → Says h.messages (coordinator_of o.stamp n) (Proposal i o.stamp o.estimate)) (Unit {0}) s → IsTrue (is_undecided s) → EntersWith (estimate_of s) (stamp_of s) h e → 0 < e.stamp → Says h.messages (coordinator_of e.stamp n) (Proposal i e.stamp e.command)
entry_proposed n i None h e q u w l = absurd (let z : e.stamp ≡ 0 = w.0 in omega arith)
entry_proposed n i (Some (Decided v)) h e q u w l = absurd (false≢true u)
entry_proposed n i (Some (Open o)) h e q u w l =
    subst (λ t. Says h.messages (coordinator_of t n) (Proposal i t e.command)) (sym w.1) (subst (λ v. Says h.messages (coordinator_of o.stamp n) (Proposal i o.stamp v)) (sym w.0) (q (subst (λ t. 0 < t) w.1 l)))

-- a stamp lies below the round that its node enters
pub stamp_below_round : (n p : ℕ) (h : Heard) (facts : List Fact) (i : ℕ) (e : Estimated) → History n p h facts → Contains facts (Enter i e) → e.stamp < e.round
stamp_below_round n p h facts i e H c =
    let x : AtPlace n p h facts (Enter i e) = at_place n p h facts (Enter i e) H c in
    entry_below (standing_of i x.before) h e (behind n p h i (λ o. o.stamp ≤ o.round) (stamps_below n p h i) x.before x.history) x.lawful.0 x.lawful.1 x.lawful.2

-- a stamped estimate was proposed in the round of its stamp
pub stamped_was_proposed : (n p : ℕ) (h : Heard) (facts : List Fact) (i : ℕ) (e : Estimated) → History n p h facts → Contains facts (Enter i e) → 0 < e.stamp → Says h.messages (coordinator_of e.stamp n) (Proposal i e.stamp e.command)
stamped_was_proposed n p h facts i e H c l =
    let x : AtPlace n p h facts (Enter i e) = at_place n p h facts (Enter i e) H c in
    entry_proposed n i (standing_of i x.before) h e (behind n p h i (λ o. 0 < o.stamp → Says h.messages (coordinator_of o.stamp n) (Proposal i o.stamp o.estimate)) (stamps_proposed n p h i) x.before x.history) x.lawful.0 x.lawful.2 l

round_not_over : (r k : ℕ) (s : Option Standing) → k < r → IsInRound s k → OnOpen (λ o. r ≤ o.round) ⊥ s → ⊥
round_not_over r k None l i q = q
round_not_over r k (Some (Decided v)) l i q = i
round_not_over r k (Some (Open o)) l i q = omega arith

-- an acknowledgement binds the node's later estimates: their stamps are at least its round
pub adoption_binds : (n p : ℕ) (h : Heard) (facts : List Fact) (i r : ℕ) (v : Command) (e : Estimated) → History n p h facts → Contains facts (Adopt i r v) → Contains facts (Enter i e) → r < e.round → r ≤ e.stamp
adoption_binds n p h facts i r v e H ca ce l =
    let x : AtPlace n p h facts (Adopt i r v) = at_place n p h facts (Adopt i r v) H ca in
    let y : AtPlace n p h facts (Enter i e) = at_place n p h facts (Enter i e) H ce in
    elim (order x.before x.after y.before y.after (Adopt i r v) (Enter i e) (sym x.is ∙ y.is)) [
      | inl s ↦ absurd (let z : Adopt i r v ≡ Enter i e = s.1 in cc)
      | inr t ↦ elim t [
        | inl m ↦ entry_stamp r (standing_of i y.before) h e
            (later n p h i (λ o. r ≤ o.stamp) (stamps_rise n p h i r) x.before (Adopt i r v) m.0 y.before y.history m.1 refl (after_adopt (λ o. r ≤ o.stamp) (standing_of i x.before) i r v x.lawful.0 (λ o z. le_refl r)))
            y.lawful.0 y.lawful.2
        | inr m ↦ absurd (round_not_over e.round r (standing_of i x.before) l x.lawful.0 (later n p h i (λ o. e.round ≤ o.round) (rounds_rise n p h i e.round) y.before (Enter i e) m.0 x.before x.history m.1 refl (le_refl e.round)))
      ]
    ]

-- all messages on the wire are backed by facts, each of which was lawful where it stands by all that was ever said
pub record Grounded (n : ℕ) (all : Heard) (facts : ℕ → List Fact) : Type 0 where
  pub history : (p : ℕ) → History n p all (facts p)
  pub backed : (m : Message) → Contains all.messages m → IsBacked m.body (facts m.from)

-- in a round one command is proposed
pub one_proposal : (n : ℕ) (all : Heard) (facts : ℕ → List Fact) → Grounded n all facts → (i r : ℕ) (v w : Command) (p q : ℕ) → Says all.messages p (Proposal i r v) → Says all.messages q (Proposal i r w) → v ≡ w
one_proposal n all facts G i r v w p q sp sq =
    let cp : Contains (facts p) (Propose i r v) = G.backed _ sp.1 in
    let cq : Contains (facts q) (Propose i r w) = G.backed _ sq.1 in
    let x : AtPlace n p all (facts p) (Propose i r v) = at_place n p all (facts p) (Propose i r v) (G.history p) cp in
    let y : AtPlace n q all (facts q) (Propose i r w) = at_place n q all (facts q) (Propose i r w) (G.history q) cq in
    let same : q ≡ p = y.lawful.1 ∙ sym x.lawful.1 in
    one_proposal_of_node n p all (facts p) i r v w (G.history p) cp (subst (λ z. Contains (facts z) (Propose i r w)) same cq)

-- an acknowledged round is above 0
pub acknowledged_round : (n p : ℕ) (h : Heard) (facts : List Fact) (i r : ℕ) (v : Command) → History n p h facts → Contains facts (Adopt i r v) → 0 < r
acknowledged_round n p h facts i r v H c =
    let x : AtPlace n p h facts (Adopt i r v) = at_place n p h facts (Adopt i r v) H c in
    let l : stamp_of (standing_of i x.before) < r = x.lawful.1 in omega arith

-- a later proposal repeats one of an earlier round, which is not before the acknowledged one
pub record Inherited (n i r k : ℕ) (w : Command) (ms : List Message) : Type 0 where
  pub round : ℕ
  pub earlier : round < k
  pub not_before : r ≤ round
  pub said : Says ms (coordinator_of round n) (Proposal i round w)

pub inherits : (n : ℕ) (all : Heard) (facts : ℕ → List Fact) → Grounded n all facts → (i r : ℕ) → HasMajority n (λ q. Says all.messages q (Ack i r)) → (k : ℕ) (w : Command) (c : ℕ) → r < k → Says all.messages c (Proposal i k w) → Inherited n i r k w all.messages
inherits n all facts G i r acks k w c lower sc =
    let y : AtPlace n c all (facts c) (Propose i k w) = at_place n c all (facts c) (Propose i k w) (G.history c) (G.backed _ sc.1) in
    let best : IsOfLargestStamp n i k all.messages w = y.lawful.3 in
    let both : (q : ℕ) × (q < n) × Says all.messages q (Ack i r) × HasEstimate all.messages i k best.stamp q = majorities_meet n (λ q. Says all.messages q (Ack i r)) (HasEstimate all.messages i k best.stamp) acks best.majority in
    let q : ℕ = both.0 in
    let est : HasEstimate all.messages i k best.stamp q = both.3 in
    let adopted : (u : Command) × Contains (facts q) (Adopt i r u) = G.backed _ (both.2).1 in
    let low : r ≤ est.stamp = adoption_binds n q all (facts q) i r adopted.0 (record { round = k; stamp = est.stamp; command = est.command }) (G.history q) adopted.1 (G.backed _ est.said.1) lower in
    let some : 0 < r = acknowledged_round n q all (facts q) i r adopted.0 (G.history q) adopted.1 in
    let older : est.stamp ≤ best.stamp = est.older in
    let entry : Contains (facts best.sender) (Enter i (record { round = k; stamp = best.stamp; command = w })) = G.backed _ best.said.1 in
    record {
      round = best.stamp;
      earlier = stamp_below_round n best.sender all (facts best.sender) i (record { round = k; stamp = best.stamp; command = w }) (G.history best.sender) entry;
      not_before = omega arith;
      said = stamped_was_proposed n best.sender all (facts best.sender) i (record { round = k; stamp = best.stamp; command = w }) (G.history best.sender) entry (omega arith);
    }

-- the lock: where a majority acknowledged round r, each later round proposes what round r proposed
locked_within : (n : ℕ) (all : Heard) (facts : ℕ → List Fact) → Grounded n all facts → (i r : ℕ) (v : Command) (p : ℕ) → Says all.messages p (Proposal i r v) → HasMajority n (λ q. Says all.messages q (Ack i r)) → (fuel k : ℕ) (w : Command) (c : ℕ) → k < fuel → r ≤ k → Says all.messages c (Proposal i k w) → w ≡ v
locked_within n all facts G i r v p sp acks zero k w c l m sc = absurd (omega arith)
locked_within n all facts G i r v p sp acks (suc fuel) k w c l m sc = elim (cases_order r k) [
  | inl same ↦ one_proposal n all facts G i r w v c p (subst (λ z. Says all.messages c (Proposal i z w)) (sym same) sc) sp
  | inr t ↦ elim t [
    | inl lower ↦ (let e : Inherited n i r k w all.messages = inherits n all facts G i r acks k w c lower sc in
        locked_within n all facts G i r v p sp acks fuel e.round w (coordinator_of e.round n) (let h : e.round < k = e.earlier in omega arith) e.not_before e.said)
    | inr higher ↦ absurd (omega arith)
  ]
]

pub locked : (n : ℕ) (all : Heard) (facts : ℕ → List Fact) → Grounded n all facts → (i r : ℕ) (v : Command) (p : ℕ) → Says all.messages p (Proposal i r v) → HasMajority n (λ q. Says all.messages q (Ack i r)) → (k : ℕ) (w : Command) (c : ℕ) → r ≤ k → Says all.messages c (Proposal i k w) → w ≡ v
locked n all facts G i r v p sp acks k w c l sc = locked_within n all facts G i r v p sp acks (suc k) k w c (omega arith) l sc

-- for an instance one command is chosen
pub one_chosen : (n : ℕ) (all : Heard) (facts : ℕ → List Fact) → Grounded n all facts → (i : ℕ) (v w : Command) → IsChosen n all.messages i v → IsChosen n all.messages i w → v ≡ w
one_chosen n all facts G i v w x y = elim (cases_order x.round y.round) [
  | inl same ↦ locked n all facts G i y.round w y.proposer y.proposed y.acknowledged x.round v x.proposer (omega arith) x.proposed
  | inr t ↦ elim t [
    | inl lower ↦ sym (locked n all facts G i x.round v x.proposer x.proposed x.acknowledged y.round w y.proposer (omega arith) y.proposed)
    | inr higher ↦ locked n all facts G i y.round w y.proposer y.proposed y.acknowledged x.round v x.proposer (omega arith) x.proposed
  ]
]
