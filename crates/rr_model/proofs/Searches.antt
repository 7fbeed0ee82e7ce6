-- Searches for a proof. One that finds it computes to Some, so that a small run is proved to be one by refl.
use Rattle.std.proofs.Common.{◌≡◌, ℕ, ◌+◌, ◌<◌, ◌≤◌, ◌⊎◌, inl, inr, zero, suc, ◌||◌, slice_get, get_or, sym, ◌∙◌, subst, eq-eqb, add-zero, Bool, true, false, ◌==◌, nat_lt, nat_le, List, [], ◌∷◌, ◌++◌, length, Contains, Option, None, Some, is_some, refl, ap, arith, eqb-true}
use Rattle.std.proofs.lemmas.Bool.{false≢true, ltb-true, leb-true, cases_lt, or_left, or_right}
use Rattle.std.proofs.lemmas.Option.{none-some, same_Some, slice_get_cases}
use Rattle.rr_types.specs.declared.command.Command.{Command}
use Rattle.rr_types.specs.declared.command.Reply.{Reply}
use Rattle.rr_types.specs.declared.command.Reply.TheVariants.{Claimed}
use Rattle.rr_types.specs.declared.fact.Fact.{Fact}
use Rattle.rr_types.specs.declared.fact.Fact.TheVariants.{Enter, Propose, Adopt, Decide}
use Rattle.rr_types.specs.declared.promise.Standing.{Standing}
use Rattle.rr_types.specs.declared.promise.Standing.TheVariants.{Open}
use Rattle.rr_types.specs.declared.message.Body.{Body}
use Rattle.rr_types.specs.declared.message.Body.TheVariants.{Estimate, Proposal, Ack, Decision, Request}
use Rattle.rr_types.specs.declared.message.Message.{Message}
use Rattle.rr_types.specs.Rounds.{Estimated, majority_of, coordinator_of}
use Rattle.rr_types.specs.Facts.{instance_of, standing_of}
use Rattle.rr_types.specs.Registry.{reply_of}
use Rattle.rr_types.specs.Commands.{is_same_command}
use Rattle.rr_model.specs.Lawful.{Heard, Says, HasMajority, HasEstimate, IsOfLargestStamp, Occurs, Submitted, count_below, IsLawfulAt, IsBacked}
use Rattle.rr_model.specs.World.{World, Step, Submit, Hear, Stage, Settle, Send, Acknowledge, GoDown, Restart, decided_prefix, IsUp, MayHappen, after_step, empty_world, IsRunFrom, IsRun}
use Rattle.rr_model.specs.Sound.{IsChosen, IsChosenList, IsDecidedList}
use Rattle.rr_model.proofs.SameCommands.{same_command}
use Rattle.rr_model.proofs.Listed.{acks, counts_no_fewer, says_acks, says_cases, says_head, says_tail}

-- the proof that a search found
pub found : {A : Type 0} → (o : Option A) → is_some o ≡ true → A
found (Some a) e = a
found None e = absurd (false≢true e)

infixl 20 ◌>>=◌
-- one search after another
abbrev pub ◌>>=◌ : {A B : Type 0} → Option A → (A → Option B) → Option B
◌>>=◌ None f = None
◌>>=◌ (Some a) f = f a

-- what this one finds, or else that one
abbrev pub or_else : {A : Type 0} → Option A → Option A → Option A
or_else None o = o
or_else (Some a) o = Some a

-- what a test lets through
abbrev pub when : {A : Type 0} → (b : Bool) → (b ≡ true → A) → Option A
when true f = Some (f refl)
when false f = None

-- that two numbers are equal
abbrev pub find_equal : (a b : ℕ) → Option (a ≡ b)
find_equal a b = when (a == b) (eqb-true a b)

-- that one lies below the other
abbrev pub find_below : (a b : ℕ) → Option (a < b)
find_below a b = when (nat_lt a b) (ltb-true a b)

-- that one is at most the other
abbrev pub find_at_most : (a b : ℕ) → Option (a ≤ b)
find_at_most a b = when (nat_le a b) (leb-true a b)

-- that two commands are one
abbrev pub find_same_command : (c d : Command) → Option (c ≡ d)
find_same_command c d = when (is_same_command c d) (same_command c d)

abbrev pub find_true : (b : Bool) → Option (b ≡ true)
find_true b = when b (λ e. e)

abbrev pub find_false : (b : Bool) → Option (b ≡ false)
find_false true = None
find_false false = Some refl

abbrev find_none : (o : Option Command) → Option (o ≡ None)
find_none None = Some refl
find_none (Some v) = None

pub same_some : (v w : Command) → v ≡ w → ◌≡◌ {A = Option Command} (Some v) (Some w)
same_some v w e = ap Some e

abbrev find_some : (o : Option Command) (v : Command) → Option (o ≡ Some v)
find_some None v = None
find_some (Some w) v = do
  e ← find_same_command w v
  Some (same_some w v e)

-- that the reply is this one, which is Claimed
abbrev find_reply : (o : Option Reply) (r : Reply) → Option (o ≡ Some r)
find_reply (Some Claimed) Claimed = Some refl
find_reply o r = None

pub same_estimated : (e f : Estimated) → e.round ≡ f.round → e.stamp ≡ f.stamp → e.command ≡ f.command → e ≡ f
same_estimated e f a b c = λ i. record { round = a i; stamp = b i; command = c i }

abbrev find_same_estimated : (e f : Estimated) → Option (e ≡ f)
find_same_estimated e f = do
  a ← find_equal e.round f.round
  b ← find_equal e.stamp f.stamp
  c ← find_same_command e.command f.command
  Some (same_estimated e f a b c)

pub same_enter : (i j : ℕ) (e f : Estimated) → i ≡ j → e ≡ f → Enter i e ≡ Enter j f
same_enter i j e f a b = cc

pub same_propose : (i j r k : ℕ) (v w : Command) → i ≡ j → r ≡ k → v ≡ w → Propose i r v ≡ Propose j k w
same_propose i j r k v w a b c = cc

pub same_adopt : (i j r k : ℕ) (v w : Command) → i ≡ j → r ≡ k → v ≡ w → Adopt i r v ≡ Adopt j k w
same_adopt i j r k v w a b c = cc

pub same_decide : (i j : ℕ) (v w : Command) → i ≡ j → v ≡ w → Decide i v ≡ Decide j w
same_decide i j v w a b = cc

-- that two facts are one
abbrev find_same_fact : (f g : Fact) → Option (f ≡ g)
find_same_fact (Enter i e) (Enter j f) = do
  a ← find_equal i j
  b ← find_same_estimated e f
  Some (same_enter i j e f a b)
find_same_fact (Propose i r v) (Propose j k w) = do
  a ← find_equal i j
  b ← find_equal r k
  c ← find_same_command v w
  Some (same_propose i j r k v w a b c)
find_same_fact (Adopt i r v) (Adopt j k w) = do
  a ← find_equal i j
  b ← find_equal r k
  c ← find_same_command v w
  Some (same_adopt i j r k v w a b c)
find_same_fact (Decide i v) (Decide j w) = do
  a ← find_equal i j
  b ← find_same_command v w
  Some (same_decide i j v w a b)
find_same_fact f g = None

pub same_estimate : (i j : ℕ) (e f : Estimated) → i ≡ j → e ≡ f → Estimate i e ≡ Estimate j f
same_estimate i j e f a b = cc

pub same_proposal : (i j r k : ℕ) (v w : Command) → i ≡ j → r ≡ k → v ≡ w → Proposal i r v ≡ Proposal j k w
same_proposal i j r k v w a b c = cc

pub same_ack : (i j r k : ℕ) → i ≡ j → r ≡ k → Ack i r ≡ Ack j k
same_ack i j r k a b = cc

-- that two bodies are one, of the first three phases alone
abbrev find_same_body : (b c : Body) → Option (b ≡ c)
find_same_body (Estimate i e) (Estimate j f) = do
  a ← find_equal i j
  b ← find_same_estimated e f
  Some (same_estimate i j e f a b)
find_same_body (Proposal i r v) (Proposal j k w) = do
  a ← find_equal i j
  b ← find_equal r k
  c ← find_same_command v w
  Some (same_proposal i j r k v w a b c)
find_same_body (Ack i r) (Ack j k) = do
  a ← find_equal i j
  b ← find_equal r k
  Some (same_ack i j r k a b)
find_same_body b c = None

pub same_message : (m k : Message) → m.from ≡ k.from → m.to ≡ k.to → m.body ≡ k.body → m ≡ k
same_message m k a b c = λ i. record { from = a i; to = b i; body = c i }

abbrev find_same_message : (m k : Message) → Option (m ≡ k)
find_same_message m k = do
  a ← find_equal m.from k.from
  b ← find_equal m.to k.to
  c ← find_same_body m.body k.body
  Some (same_message m k a b c)

pub in_head : {A : Type 0} → (y : A) (ys : List A) (x : A) → y ≡ x → Contains (y ∷ ys) x
in_head y ys x e = (0, omega arith, e)

pub in_tail : {A : Type 0} → (y : A) (ys : List A) (x : A) → Contains ys x → Contains (y ∷ ys) x
in_tail y ys x c = (suc c.0, (let l : c.0 < length ys = c.1 in omega arith), c.2)

-- that a list holds something
abbrev find_among : {A : Type 0} → ((a b : A) → Option (a ≡ b)) → (xs : List A) (x : A) → Option (Contains xs x)
find_among same [] x = None
find_among same (y ∷ ys) x = or_else (same y x >>= (λ e. Some (in_head y ys x e))) (find_among same ys x >>= (λ c. Some (in_tail y ys x c)))

-- among the messages is one from node q that says this
abbrev pub find_said : (ms : List Message) (q : ℕ) (b : Body) → Option (Says ms q b)
find_said [] q b = None
find_said (m ∷ ms) q b = or_else
    (do
      x ← find_equal m.from q
      y ← find_same_body m.body b
      Some (says_head m ms q b x y))
    (find_said ms q b >>= (λ s. Some (says_tail m ms q b s)))

-- the first of these for which a search finds anything
abbrev find_by : {A B : Type 0} → (A → Option B) → List A → Option B
find_by find [] = None
find_by find (x ∷ xs) = or_else (find x) (find_by find xs)

-- nodes for which a search finds its proof are a majority
abbrev pub find_majority : (n : ℕ) (Has : ℕ → Type 0) → ((q : ℕ) → Option (Has q)) → Option (HasMajority n Has)
find_majority n Has find = do
  e ← find_at_most (majority_of n) (count_below (λ q. is_some (find q)) n)
  Some (record { members = λ q. is_some (find q); enough = e; each = λ q l m. found (find q) m })

abbrev estimate_by : (ms : List Message) (i r t q : ℕ) → Body → Option (HasEstimate ms i r t q)
estimate_by ms i r t q (Estimate j e) = do
  said ← find_said ms q (Estimate i (record { round = r; stamp = e.stamp; command = e.command }))
  older ← find_at_most e.stamp t
  Some (record { stamp = e.stamp; command = e.command; said = said; older = older })
estimate_by ms i r t q b = None

abbrev find_estimate : (ms : List Message) (i r t q : ℕ) → Option (HasEstimate ms i r t q)
find_estimate ms i r t q = find_by (λ m. estimate_by ms i r t q m.body) ms

abbrev largest_by : (n i r : ℕ) (ms : List Message) (v : Command) (sender : ℕ) → Body → Option (IsOfLargestStamp n i r ms v)
largest_by n i r ms v sender (Estimate j e) = do
  said ← find_said ms sender (Estimate i (record { round = r; stamp = e.stamp; command = v }))
  exists ← find_below sender n
  majority ← find_majority n (HasEstimate ms i r e.stamp) (find_estimate ms i r e.stamp)
  member ← find_true (majority.members sender)
  Some (record { stamp = e.stamp; sender = sender; said = said; majority = majority; exists = exists; member = member })
largest_by n i r ms v sender b = None

-- that a command is one of largest stamp
abbrev find_largest : (n i r : ℕ) (ms : List Message) (v : Command) → Option (IsOfLargestStamp n i r ms v)
find_largest n i r ms v = find_by (λ m. largest_by n i r ms v m.from m.body) ms

-- that a command was submitted by a client, and so occurs
abbrev find_occurs : (h : Heard) (v : Command) → Option (Occurs h v)
find_occurs h v = do
  c ← find_among find_same_command h.commands v
  Some (Submitted c)

-- that a fact is lawful. A Decide that goes by another's Decision isn't found
abbrev find_lawful : (n p : ℕ) (s : Option Standing) (h : Heard) (f : Fact) → Option (IsLawfulAt n p s h f)
find_lawful n p None h (Enter i e) = do
  a ← find_below 0 e.round
  b ← find_equal e.stamp 0
  c ← find_occurs h e.command
  Some (a, b, c)
find_lawful n p (Some (Open o)) h (Enter i e) = do
  a ← find_below o.round e.round
  b ← find_equal e.stamp o.stamp
  c ← find_same_command e.command o.estimate
  Some (a, b, c)
find_lawful n p (Some (Open o)) h (Propose i r v) = do
  a ← find_equal o.round r
  b ← find_equal p (coordinator_of r n)
  c ← find_none o.proposal
  d ← find_largest n i r h.messages v
  Some (a, b, c, d)
find_lawful n p (Some (Open o)) h (Adopt i r v) = do
  a ← find_equal o.round r
  b ← find_below o.stamp r
  c ← find_said h.messages (coordinator_of r n) (Proposal i r v)
  Some (a, b, c)
find_lawful n p (Some (Open o)) h (Decide i v) = do
  a ← find_some o.proposal v
  b ← find_majority n (λ q. Says h.messages q (Ack i o.round)) (λ q. find_said h.messages q (Ack i o.round))
  Some (inr (a, b))
find_lawful n p s h f = None

abbrev adopted_by : (i r : ℕ) (facts : List Fact) → Fact → Option ((v : Command) × Contains facts (Adopt i r v))
adopted_by i r facts (Adopt j k v) = do
  c ← find_among find_same_fact facts (Adopt i r v)
  Some (v, c)
adopted_by i r facts f = None

-- that facts back a message
abbrev find_backed : (b : Body) (facts : List Fact) → Option (IsBacked b facts)
find_backed (Estimate i e) facts = find_among find_same_fact facts (Enter i e)
find_backed (Proposal i r v) facts = find_among find_same_fact facts (Propose i r v)
find_backed (Ack i r) facts = find_by (adopted_by i r facts) facts
find_backed (Decision i v) facts = find_among find_same_fact facts (Decide i v)
find_backed b facts = None

abbrev pub is_request : Body → Bool
is_request (Request c) = true
is_request b = false

pub no_request : (b : Body) (submitted : List Command) → is_request b ≡ false → (c : Command) → b ≡ Request c → Contains submitted c
no_request b submitted e c x = absurd (false≢true (sym e ∙ ap is_request x))

-- a message that is no request needs no command of a client
abbrev find_no_request : (b : Body) (submitted : List Command) → Option ((c : Command) → b ≡ Request c → Contains submitted c)
find_no_request b submitted = do
  e ← find_false (is_request b)
  Some (no_request b submitted e)

-- that a node is up
abbrev find_up : (n : ℕ) (w : World) (p : ℕ) → Option (IsUp n w p)
find_up n w p = do
  a ← find_below p n
  b ← find_true (w.is_up p)
  Some (a, b)

-- that a step may happen
abbrev pub find_step : (n : ℕ) (w : World) (s : Step) → Option (MayHappen n w s)
find_step n w (Submit p c) = find_up n w p
find_step n w (Hear p m) = do
  a ← find_up n w p
  b ← find_among find_same_message w.wire m
  c ← find_equal m.to p
  Some (a, b, c)
find_step n w (Stage p f) = do
  a ← find_up n w p
  b ← find_lawful n p (standing_of (instance_of f) (w.kept p ++ w.staged p)) (w.heard p) f
  Some (a, b)
find_step n w (Settle p count) = do
  a ← find_up n w p
  b ← find_at_most count (length (w.staged p))
  Some (a, b)
find_step n w (Send p m) = do
  a ← find_up n w p
  b ← find_equal m.from p
  c ← find_backed m.body (w.kept p)
  d ← find_no_request m.body w.submitted
  Some (a, b, c, d)
find_step n w (Acknowledge p q reply) = do
  a ← find_up n w p
  b ← find_reply (reply_of (decided_prefix (w.kept p)) q) reply
  Some (a, b)
find_step n w (GoDown p) = find_up n w p
find_step n w (Restart p count) = do
  a ← find_below p n
  b ← find_false (w.is_up p)
  c ← find_at_most count (length (w.staged p))
  Some (a, b, c)

-- that steps may happen one after another
abbrev pub find_run_from : (n : ℕ) (w : World) (ss : List Step) → Option (IsRunFrom n w ss)
find_run_from n w [] = Some tt
find_run_from n w (s ∷ ss) = do
  a ← find_step n w s
  b ← find_run_from n (after_step w s) ss
  Some (a, b)

-- steps are a run where the search says so
pub run_by_search : (n : ℕ) (run : List Step) → is_some (find_run_from n empty_world run) ≡ true → IsRun n run
run_by_search n run e = found (find_run_from n empty_world run) e

abbrev chosen_by : (n : ℕ) (wire : List Message) (i : ℕ) (v : Command) (proposer : ℕ) → Body → Option (IsChosen n wire i v)
chosen_by n wire i v proposer (Proposal j r w) = do
  proposed ← find_said wire proposer (Proposal i r v)
  acknowledged ← find_majority n (λ q. Says wire q (Ack i r)) (λ q. find_said wire q (Ack i r))
  Some (record { round = r; proposer = proposer; proposed = proposed; acknowledged = acknowledged })
chosen_by n wire i v proposer b = None

-- that a command is chosen
abbrev pub find_chosen : (n : ℕ) (wire : List Message) (i : ℕ) (v : Command) → Option (IsChosen n wire i v)
find_chosen n wire i v = find_by (λ m. chosen_by n wire i v m.from m.body) wire

-- from instance i on the commands of the list are chosen
abbrev pub AreChosenFrom : ℕ → List Message → ℕ → List Command → Type 0
AreChosenFrom n wire i list = (k : ℕ) (v : Command) → slice_get list k ≡ Some v → IsChosen n wire (i + k) v

pub none_to_choose : (n : ℕ) (wire : List Message) (i : ℕ) → AreChosenFrom n wire i []
none_to_choose n wire i k v e = absurd (none-some v e)

pub one_more_chosen : (n : ℕ) (wire : List Message) (i : ℕ) (v : Command) (vs : List Command) → IsChosen n wire i v → AreChosenFrom n wire (i + 1) vs → AreChosenFrom n wire i (v ∷ vs)
one_more_chosen n wire i v vs c f zero w e = subst (λ z. IsChosen n wire z w) (sym (add-zero i)) (subst (IsChosen n wire i) (same_Some v w e) c)
one_more_chosen n wire i v vs c f (suc k) w e = let s : (i + 1) + k ≡ i + suc k = omega arith in subst (λ z. IsChosen n wire z w) s (f k w e)

-- that commands are chosen, instance by instance
abbrev pub find_chosen_from : (n : ℕ) (wire : List Message) (i : ℕ) (list : List Command) → Option (AreChosenFrom n wire i list)
find_chosen_from n wire i [] = Some (none_to_choose n wire i)
find_chosen_from n wire i (v ∷ vs) = do
  c ← find_chosen n wire i v
  f ← find_chosen_from n wire (i + 1) vs
  Some (one_more_chosen n wire i v vs c f)

-- whether a body proposes for instance i
abbrev pub is_proposal_for : ℕ → Body → Bool
is_proposal_for i (Proposal j r v) = j == i
is_proposal_for i b = false

-- whether any of the messages says what passes the test
abbrev pub do_any_say : (Body → Bool) → List Message → Bool
do_any_say test [] = false
do_any_say test (m ∷ ms) = test m.body || do_any_say test ms

pub says_any : (test : Body → Bool) (ms : List Message) (q : ℕ) (b : Body) → test b ≡ true → Says ms q b → do_any_say test ms ≡ true
says_any test [] q b t s = let l : (s.1).0 < 0 = (s.1).1 in absurd (omega arith)
says_any test (m ∷ ms) q b t s = elim (says_cases m ms q b s) [
  | inl x ↦ or_left (test m.body) (do_any_say test ms) (subst (λ z. test z ≡ true) (sym x.1) t)
  | inr x ↦ or_right (test m.body) (do_any_say test ms) (says_any test ms q b t x)
]

-- a list is the decided one where its commands are chosen, and nobody proposed for the instance behind them
pub decided_by_search : (n : ℕ) (wire : List Message) (list : List Command) → is_some (find_chosen_from n wire 0 list) ≡ true → do_any_say (is_proposal_for (length list)) wire ≡ false → IsDecidedList n wire list
decided_by_search n wire list e none = record {
  chosen = λ i v g. subst (λ z. IsChosen n wire z v) (let z : 0 + i ≡ i = omega arith in z) (found (find_chosen_from n wire 0 list) e i v g);
  longest = λ other c. elim (cases_lt (length list) (length other)) [
    | inl l ↦ absurd (not_behind other (slice_get_cases other (length list)).1 l c)
    | inr l ↦ l
  ];
}
  where
    not_chosen : (v : Command) → IsChosen n wire (length list) v → ⊥
    not_chosen v c = false≢true (sym none ∙ says_any (is_proposal_for (length list)) wire c.proposer (Proposal (length list) c.round v) (eq-eqb (length list) (length list) refl) c.proposed)

    not_behind : (other : List Command) → ((x : Command) × (length list < length other) × (slice_get other (length list) ≡ Some x) × (get_or other (length list) x ≡ x)) ⊎ ((length other ≤ length list) × (slice_get other (length list) ≡ None)) → length list < length other → IsChosenList n wire other → ⊥
    not_behind other (inl x) l c = not_chosen x.0 (c (length list) x.0 x.2)
    not_behind other (inr x) l c = let k : length other ≤ length list = x.0 in omega arith

-- nodes of which too few acknowledged a round are no majority
pub few_acks : (n : ℕ) (ms : List Message) (i r : ℕ) → count_below (acks ms i r) n < majority_of n → HasMajority n (λ q. Says ms q (Ack i r)) → ⊥
few_acks n ms i r few h = not_both (count_below h.members n) (count_below (acks ms i r) n) (majority_of n) (counts_no_fewer h.members (acks ms i r) n (λ q l m. says_acks ms i r q (h.each q l m))) h.enough few
  where
    not_both : (a b c : ℕ) → a ≤ b → c ≤ a → b < c → ⊥
    not_both a b c x y z = omega arith
