-- Events at one node alone, what they keep, and that a node can mark all that it staged and send what is owed.
use Rattle.std.proofs.Common.{◌≡◌, ℕ, ◌+◌, ◌-◌, ◌≤◌, ◌<◌, ◌⊎◌, inl, inr, zero, suc, Bool, true, false, nat_lt, is_none, find, if◌then◌else◌, List, [], ◌∷◌, ◌++◌, length, length-append, length-drop, take, drop, take-append-drop, Contains, Option, None, Some, option_map, refl, ap, sym, ◌∙◌, subst, arith, le_refl}
use Rattle.std.specs.Option.{option_map_or}
use Rattle.std.proofs.lemmas.Bool.{lt-ltb, false≢true}
use Rattle.std.proofs.lemmas.Option.{none-some, same_Some}
use Rattle.std.proofs.lemmas.List.Elements.{Contains-append_left, Contains-append_right}
use Rattle.rr_types.specs.declared.command.Command.{Command}
use Rattle.rr_types.specs.declared.fact.Fact.{Fact}
use Rattle.rr_types.specs.declared.message.Message.{Message}
use Rattle.rr_types.specs.Promises.{take_on_all}
use Rattle.rr_model.specs.Lawful.{Heard}
use Rattle.rr_model.specs.NodeState.{NodeState, Owed, next_number}
use Rattle.rr_types.specs.declared.input.Input.{Input}
use Rattle.rr_model.specs.NodeStep.{node_step, group_taken, marked_running, may_leave, next_leaving, without_first_leaving, message_left}
use Rattle.rr_model.specs.NodeLaws.{StateEvent, Told, Grouped, Marked, Left, after_event}
use Rattle.rr_model.specs.NodeReached.{IsProperInput, IsProperEvent, IsReached, Happened}
use Rattle.rr_model.specs.NodeInWorld.{sent_by_event}
use Rattle.rr_model.specs.NodesGoOn.{MayHappenAt}
use Rattle.rr_model.proofs.NodeMoves.{IsBelow, Owes}
use Rattle.rr_model.proofs.NodeBeyond.{Keeps, keeps_not, keeps_on, still_keeps}

-- events at node p alone lead from one state and messages sent to another
pub data Alone (n p : ℕ) (c : Command) (s : NodeState) (w : List Message) : NodeState → List Message → Type 0 where
  Rests : Alone n p c s w s w
  Does : (t : NodeState) (v : List Message) (e : StateEvent) → Alone n p c s w t v → MayHappenAt v c t e → IsProperEvent n e → Alone n p c s w (after_event t e) (v ++ sent_by_event t e)

pub alone_on : (n p : ℕ) (c : Command) (s : NodeState) (w : List Message) (t : NodeState) (v : List Message) (u : NodeState) (x : List Message) → Alone n p c s w t v → Alone n p c t v u x → Alone n p c s w u x
alone_on n p c s w t v _ _ a Rests = a
alone_on n p c s w t v _ _ a (Does u x e b m r) = Does u x e (alone_on n p c s w t v u x a b) m r

-- nothing that was sent is lost
pub alone_sent : (n p : ℕ) (c : Command) (s : NodeState) (w : List Message) (t : NodeState) (v : List Message) → Alone n p c s w t v → (m : Message) → Contains w m → Contains v m
alone_sent n p c s w _ _ Rests m x = x
alone_sent n p c s w _ _ (Does t v e a may r) m x = Contains-append_left v (sent_by_event t e) m (alone_sent n p c s w t v a m x)

-- the node was reached over facts that fit
abbrev pub IsUp : ℕ → ℕ → NodeState → Type 0
IsUp n p s = (facts : List Fact) × (h : Heard) × IsReached n p facts h s

pub alone_up : (n p : ℕ) (c : Command) (s : NodeState) (w : List Message) (t : NodeState) (v : List Message) → Alone n p c s w t v → IsUp n p s → IsUp n p t
alone_up n p c s w _ _ Rests U = U
alone_up n p c s w _ _ (Does t v e a may r) U = let x : IsUp n p t = alone_up n p c s w t v a U in (_, _, Happened x.0 x.1 t e x.2 r)

-- events at this node alone lead to a state and messages of some kind
pub record Comes (i round : ℕ) (calm : ℕ → Type 0) (n p : ℕ) (c : Command) (s : NodeState) (w : List Message) (Goal : NodeState → List Message → Type 0) : Type 0 where
  pub to : NodeState
  pub sent : List Message
  pub alone : Alone n p c s w to sent
  pub keeps : Keeps i round (calm p) s to
  pub goal : Goal to sent

pub no_event : (i round : ℕ) (calm : ℕ → Type 0) (n p : ℕ) (c : Command) (s : NodeState) (w : List Message) (Goal : NodeState → List Message → Type 0) → Goal s w → Comes i round calm n p c s w Goal
no_event i round calm n p c s w Goal g = record { to = s; sent = w; alone = Rests; keeps = keeps_not i round (calm p) s; goal = g }

pub one_event : (i round : ℕ) (calm : ℕ → Type 0) (n p : ℕ) (c : Command) (s : NodeState) (w : List Message) (Goal : NodeState → List Message → Type 0) (e : StateEvent) → MayHappenAt w c s e → IsProperEvent n e → Keeps i round (calm p) s (after_event s e) → Goal (after_event s e) (w ++ sent_by_event s e) → Comes i round calm n p c s w Goal
one_event i round calm n p c s w Goal e m r k g = record { to = after_event s e; sent = w ++ sent_by_event s e; alone = Does s w e Rests m r; keeps = k; goal = g }

pub and_then : (i round : ℕ) (calm : ℕ → Type 0) (n p : ℕ) (c : Command) (s : NodeState) (w : List Message) (P Q : NodeState → List Message → Type 0) → Comes i round calm n p c s w P → ((t : NodeState) (v : List Message) → Alone n p c s w t v → P t v → Comes i round calm n p c t v Q) → Comes i round calm n p c s w Q
and_then i round calm n p c s w P Q a f =
    let b : Comes i round calm n p c a.to a.sent Q = f a.to a.sent a.alone a.goal in
    record { to = b.to; sent = b.sent; alone = alone_on n p c s w a.to a.sent b.to b.sent a.alone b.alone; keeps = keeps_on i round (calm p) s a.to b.to a.keeps b.keeps; goal = b.goal }

-- only what is marked, running and staged has changed, and no fact is new
pub record Marks (s t : NodeState) : Type 0 where
  pub nodes : t.nodes ≡ s.nodes
  pub node : t.node ≡ s.node
  pub rows : t.rows ≡ s.rows
  pub pool : t.pool ≡ s.pool
  pub suspects : t.suspects ≡ s.suspects
  pub waiting : t.waiting ≡ s.waiting
  pub owed : t.owed ≡ s.owed
  pub number : next_number t ≡ next_number s

marks_on : (s t u : NodeState) → Marks s t → Marks t u → Marks s u
marks_on s t u a b = record {
  nodes = b.nodes ∙ a.nodes;
  node = b.node ∙ a.node;
  rows = b.rows ∙ a.rows;
  pool = b.pool ∙ a.pool;
  suspects = b.suspects ∙ a.suspects;
  waiting = b.waiting ∙ a.waiting;
  owed = b.owed ∙ a.owed;
  number = b.number ∙ a.number;
}

-- and nothing is left to mark
pub record AllMarked (s t : NodeState) : Type 0 where
  pub marks : Marks s t
  pub running : t.running ≡ None
  pub staged : t.staged ≡ []

marks_not : (s : NodeState) → Marks s s
marks_not s = record { nodes = refl; node = refl; rows = refl; pool = refl; suspects = refl; waiting = refl; owed = refl; number = refl }

-- its running group, if there is one, is marked
abbrev RunsNone : NodeState → NodeState → Type 0
RunsNone s t = Marks s t × (t.running ≡ None) × (t.staged ≡ s.staged)

marked_marks : (s : NodeState) (o : Option (List Fact)) → s.running ≡ o → RunsNone s (marked_running s)
unfolding marked_running
marked_marks s None e = subst (RunsNone s) (sym (ap (λ z. option_map_or (λ facts. record s { running = None; marked = take_on_all s.marked facts; marked_end = s.marked_end + length facts }) z s) e)) (marks_not s, e, refl)
marked_marks s (Some group) e =
    let x : next_number s ≡ s.marked_end + length group + length s.staged = ap (λ z. s.marked_end + option_map_or length z 0 + length s.staged) e in
    subst (RunsNone s) (sym (ap (λ z. option_map_or (λ facts. record s { running = None; marked = take_on_all s.marked facts; marked_end = s.marked_end + length facts }) z s) e))
    (record { nodes = refl; node = refl; rows = refl; pool = refl; suspects = refl; waiting = refl; owed = refl; number = omega arith }, refl, refl)

taken_marks : (s : NodeState) → s.running ≡ None → Marks s (after_event s Grouped) × ((after_event s Grouped).staged ≡ drop 64 s.staged)
unfolding group_taken
taken_marks s e =
    let x : next_number s ≡ s.marked_end + 0 + length s.staged = ap (λ z. s.marked_end + option_map_or length z 0 + length s.staged) e in
    let l : length (take 64 s.staged ++ drop 64 s.staged) ≡ length s.staged = ap length (take-append-drop 64 s.staged) in
    let m : length (take 64 s.staged ++ drop 64 s.staged) ≡ length (take 64 s.staged) + length (drop 64 s.staged) = length-append (take 64 s.staged) (drop 64 s.staged) in
    subst (λ z. Marks s z × (z.staged ≡ drop 64 s.staged)) (sym (ap (λ z. if is_none z then group_taken s else s) e))
    (record { nodes = refl; node = refl; rows = refl; pool = refl; suspects = refl; waiting = refl; owed = refl; number = omega arith }, refl)

nothing_long : {A : Type 0} → (xs : List A) → length xs ≤ 0 → xs ≡ []
nothing_long [] l = refl
nothing_long (x ∷ xs) l = absurd (omega arith)

dropped_shorter : {A : Type 0} → (xs : List A) (k : ℕ) → length xs ≤ suc k → length (drop 64 xs) ≤ k
dropped_shorter xs k l = let x : length (drop 64 xs) ≡ length xs - 64 = length-drop 64 xs in omega arith

module _ (i round : ℕ) (calm : ℕ → Type 0) (n p : ℕ) (c : Command) where
  -- group by group
  mark_groups : (k : ℕ) (s : NodeState) (w : List Message) → s.running ≡ None → length s.staged ≤ k → Comes i round calm n p c s w (λ t v. AllMarked s t)
  mark_groups zero s w e l = no_event i round calm n p c s w (λ t v. AllMarked s t) (record { marks = marks_not s; running = e; staged = nothing_long s.staged l })
  mark_groups (suc k) s w e l =
      let t : NodeState = after_event s Grouped in
      let a : Marks s t × (t.staged ≡ drop 64 s.staged) = taken_marks s e in
      let u : NodeState = after_event t Marked in
      let b : RunsNone t u = marked_marks t t.running refl in
      let short : length u.staged ≤ k = subst (λ z. length z ≤ k) (sym (b.2 ∙ a.1)) (dropped_shorter s.staged k l) in
      and_then i round calm n p c s w (λ x y. x ≡ t) (λ x y. AllMarked s x) (one_event i round calm n p c s w (λ x y. x ≡ t) Grouped tt tt (still_keeps i round (calm p) s t a.0.rows a.0.pool) refl) (λ x y g e2.
      subst (λ z. Comes i round calm n p c z y (λ x2 y2. AllMarked s x2)) (sym e2)
      (and_then i round calm n p c t y (λ x2 y2. x2 ≡ u) (λ x2 y2. AllMarked s x2) (one_event i round calm n p c t y (λ x2 y2. x2 ≡ u) Marked tt tt (still_keeps i round (calm p) t u b.0.rows b.0.pool) refl) (λ x2 y2 g2 e3.
      subst (λ z. Comes i round calm n p c z y2 (λ x3 y3. AllMarked s x3)) (sym e3)
      (and_then i round calm n p c u y2 (λ x3 y3. AllMarked u x3) (λ x3 y3. AllMarked s x3) (mark_groups k u y2 b.1 short) (λ x3 y3 g3 A.
      no_event i round calm n p c x3 y3 (λ x4 y4. AllMarked s x4) (record { marks = marks_on s u x3 (marks_on s t u a.0 b.0) A.marks; running = A.running; staged = A.staged }))))))

  -- all that was staged can be marked
  pub mark_all : (s : NodeState) (w : List Message) → Comes i round calm n p c s w (λ t v. AllMarked s t)
  mark_all s w =
      let u : NodeState = after_event s Marked in
      let b : RunsNone s u = marked_marks s s.running refl in
      and_then i round calm n p c s w (λ x y. x ≡ u) (λ x y. AllMarked s x) (one_event i round calm n p c s w (λ x y. x ≡ u) Marked tt tt (still_keeps i round (calm p) s u b.0.rows b.0.pool) refl) (λ x y g e2.
      subst (λ z. Comes i round calm n p c z y (λ x2 y2. AllMarked s x2)) (sym e2)
      (and_then i round calm n p c u y (λ x2 y2. AllMarked u x2) (λ x2 y2. AllMarked s x2) (mark_groups (length u.staged) u y b.1 (le_refl (length u.staged))) (λ x2 y2 g2 A.
      no_event i round calm n p c x2 y2 (λ x3 y3. AllMarked s x3) (record { marks = marks_on s u x2 b.0 A.marks; running = A.running; staged = A.staged }))))

-- the oldest that may leave, and what is owed then
record FirstLeaves (marked_end : ℕ) (os : List Owed) (m : Message) : Type 0 where
  shorter : length (without_first_leaving marked_end os) + 1 ≡ length os
  others : (o : Owed) → Contains os o → may_leave marked_end o ≡ true → (o.message ≡ m) ⊎ Contains (without_first_leaving marked_end os) o

-- none may leave, or the first does
abbrev Leaving : ℕ → List Owed → Option Message → Type 0
Leaving marked_end os None = (o : Owed) → Contains os o → may_leave marked_end o ≡ true → ⊥
Leaving marked_end os (Some m) = FirstLeaves marked_end os m

leaving : (marked_end : ℕ) (os : List Owed) (found : Option Message) → option_map (λ (o : Owed). o.message) (find (may_leave marked_end) os) ≡ found → Leaving marked_end os found
leaving marked_end [] None e = λ o c x. let l : c.0 < 0 = c.1 in absurd (omega arith)
leaving marked_end [] (Some m) e = absurd (none-some m e)
leaving marked_end (o ∷ os) found e = by (may_leave marked_end o) refl found e (leaving marked_end os)
  where
    by : (b : Bool) → may_leave marked_end o ≡ b → (f : Option Message) → option_map (λ (z : Owed). z.message) (if b then Some o else find (may_leave marked_end) os) ≡ f → ((g : Option Message) → option_map (λ (z : Owed). z.message) (find (may_leave marked_end) os) ≡ g → Leaving marked_end os g) → Leaving marked_end (o ∷ os) f
    by true x None y ih = absurd (none-some o.message (sym y))
    by true x (Some m) y ih =
        let gone : without_first_leaving marked_end (o ∷ os) ≡ os = ap (λ z. if z then os else o ∷ without_first_leaving marked_end os) x in
        record {
          shorter = let l : length (without_first_leaving marked_end (o ∷ os)) ≡ length os = ap length gone in omega arith;
          others = λ z c w. subst (λ r. (z.message ≡ m) ⊎ Contains r z) (sym gone) (here z c);
        }
      where
        here : (z : Owed) → Contains (o ∷ os) z → (z.message ≡ m) ⊎ Contains os z
        here z (zero, l, i) = inl (ap (λ (r : Owed). r.message) (sym i) ∙ same_Some o.message m y)
        here z (suc k, l, i) = inr (k, (omega arith), i)
    by false x None y ih = λ z c w. there z c w
      where
        there : (z : Owed) → Contains (o ∷ os) z → may_leave marked_end z ≡ true → ⊥
        there z (zero, l, i) w = absurd (false≢true (sym x ∙ ap (may_leave marked_end) i ∙ w))
        there z (suc k, l, i) w = ih None y z (k, (omega arith), i) w
    by false x (Some m) y ih =
        let F : FirstLeaves marked_end os m = ih (Some m) y in
        let kept : without_first_leaving marked_end (o ∷ os) ≡ o ∷ without_first_leaving marked_end os = ap (λ z. if z then os else o ∷ without_first_leaving marked_end os) x in
        record {
          shorter = let l : length (without_first_leaving marked_end (o ∷ os)) ≡ suc (length (without_first_leaving marked_end os)) = ap length kept in let h : length (without_first_leaving marked_end os) + 1 ≡ length os = F.shorter in omega arith;
          others = λ z c w. subst (λ r. (z.message ≡ m) ⊎ Contains r z) (sym kept) (here F z c w);
        }
      where
        here : FirstLeaves marked_end os m → (z : Owed) → Contains (o ∷ os) z → may_leave marked_end z ≡ true → (z.message ≡ m) ⊎ Contains (o ∷ without_first_leaving marked_end os) z
        here F z (zero, l, i) w = absurd (false≢true (sym x ∙ ap (may_leave marked_end) i ∙ w))
        here F z (suc k, l, i) w = elim (F.others z (k, (omega arith), i) w) [
          | inl r ↦ inl r
          | inr r ↦ inr (suc r.0, (let q : r.0 < length (without_first_leaving marked_end os) = r.1 in omega arith), r.2)
        ]

-- only what is owed has changed
record Talks (s t : NodeState) : Type 0 where
  nodes : t.nodes ≡ s.nodes
  node : t.node ≡ s.node
  rows : t.rows ≡ s.rows
  pool : t.pool ≡ s.pool
  suspects : t.suspects ≡ s.suspects
  waiting : t.waiting ≡ s.waiting
  running : t.running ≡ s.running
  staged : t.staged ≡ s.staged
  number : next_number t ≡ next_number s

talks_not : (s : NodeState) → Talks s s
talks_not s = record { nodes = refl; node = refl; rows = refl; pool = refl; suspects = refl; waiting = refl; running = refl; staged = refl; number = refl }

-- the node has talked, and sent what may leave
abbrev HasSent : NodeState → NodeState → List Message → Type 0
HasSent s t v = Talks s t × ((o : Owed) → Contains s.owed o → may_leave s.marked_end o ≡ true → Contains v o.message)

module _ (i round : ℕ) (calm : ℕ → Type 0) (n p : ℕ) (c : Command) where
  -- all that may leave can
  leave_all : (k : ℕ) (s : NodeState) (w : List Message) → length s.owed ≤ k → Comes i round calm n p c s w (HasSent s)
  leave_all zero s w l = by (next_leaving s) refl
    where
      by : (f : Option Message) → next_leaving s ≡ f → Comes i round calm n p c s w (HasSent s)
      by None e = no_event i round calm n p c s w (HasSent s) (talks_not s, λ o x y. absurd (leaving s.marked_end s.owed None e o x y))
      by (Some m) e = let F : FirstLeaves s.marked_end s.owed m = leaving s.marked_end s.owed (Some m) e in let h : length (without_first_leaving s.marked_end s.owed) + 1 ≡ length s.owed = F.shorter in absurd (omega arith)
  leave_all (suc k) s w l = by (next_leaving s) refl (leave_all k (message_left s))
    where
      by : (f : Option Message) → next_leaving s ≡ f → ((x : List Message) → length (without_first_leaving s.marked_end s.owed) ≤ k → Comes i round calm n p c (message_left s) x (HasSent (message_left s))) → Comes i round calm n p c s w (HasSent s)
      by None e ih = no_event i round calm n p c s w (HasSent s) (talks_not s, λ o x y. absurd (leaving s.marked_end s.owed None e o x y))
      by (Some m) e ih =
          let F : FirstLeaves s.marked_end s.owed m = leaving s.marked_end s.owed (Some m) e in
          let h : length (without_first_leaving s.marked_end s.owed) + 1 ≡ length s.owed = F.shorter in
          let x : List Message = w ++ sent_by_event s Left in
          let said : Contains x m = Contains-append_right w (sent_by_event s Left) m (subst (λ z. Contains (option_map_or (λ (r : Message). r ∷ []) z []) m) (sym e) (0, omega arith, refl)) in
          let r : Comes i round calm n p c (message_left s) x (HasSent (message_left s)) = ih x (omega arith) in
          let all : Alone n p c s w r.to r.sent = alone_on n p c s w (message_left s) x r.to r.sent (Does s w Left Rests tt tt) r.alone in
          record {
            to = r.to;
            sent = r.sent;
            alone = all;
            keeps = still_keeps i round (calm p) s r.to r.goal.0.rows r.goal.0.pool;
            goal = (
              record { nodes = r.goal.0.nodes; node = r.goal.0.node; rows = r.goal.0.rows; pool = r.goal.0.pool; suspects = r.goal.0.suspects; waiting = r.goal.0.waiting; running = r.goal.0.running; staged = r.goal.0.staged; number = r.goal.0.number },
              λ o y z. elim (F.others o y z) [
                | inl same ↦ subst (λ q. Contains r.sent q) (sym same) (alone_sent n p c (message_left s) x r.to r.sent r.alone m said)
                | inr still ↦ r.goal.1 o still z
              ],
            );
          }

-- the node has marked all that it staged, and sent all that it owes by its facts
pub record Flushed (s t : NodeState) (v : List Message) : Type 0 where
  pub nodes : t.nodes ≡ s.nodes
  pub node : t.node ≡ s.node
  pub rows : t.rows ≡ s.rows
  pub pool : t.pool ≡ s.pool
  pub suspects : t.suspects ≡ s.suspects
  pub waiting : t.waiting ≡ s.waiting
  pub running : t.running ≡ None
  pub staged : t.staged ≡ []
  pub number : next_number t ≡ next_number s
  pub sent : (m : Message) → Owes s m → Contains v m

leaves_by : (marked_end : ℕ) (k : Option ℕ) → IsBelow marked_end k → option_map_or (λ j. nat_lt j marked_end) k true ≡ true
leaves_by marked_end None b = refl
leaves_by marked_end (Some k) b = lt-ltb k marked_end b

-- any node can
pub flush : (i round : ℕ) (calm : ℕ → Type 0) (n p : ℕ) (c : Command) (s : NodeState) (w : List Message) → Comes i round calm n p c s w (Flushed s)
flush i round calm n p c s w = and_then i round calm n p c s w (λ t v. AllMarked s t) (Flushed s) (mark_all i round calm n p c s w) (λ t v a A.
    and_then i round calm n p c t v (HasSent t) (Flushed s) (leave_all i round calm n p c (length t.owed) t v (le_refl (length t.owed))) (λ u x b T.
    let end : next_number t ≡ t.marked_end + 0 + 0 = ap (λ z. t.marked_end + option_map_or length z 0 + length t.staged) A.running ∙ ap (λ z. t.marked_end + 0 + length z) A.staged in
    let number : next_number t ≡ next_number s = A.marks.number in
    let same : next_number s ≡ t.marked_end = omega arith in
    no_event i round calm n p c u x (Flushed s) (record {
      nodes = T.0.nodes ∙ A.marks.nodes;
      node = T.0.node ∙ A.marks.node;
      rows = T.0.rows ∙ A.marks.rows;
      pool = T.0.pool ∙ A.marks.pool;
      suspects = T.0.suspects ∙ A.marks.suspects;
      waiting = T.0.waiting ∙ A.marks.waiting;
      running = T.0.running ∙ A.running;
      staged = T.0.staged ∙ A.staged;
      number = T.0.number ∙ A.marks.number;
      sent = λ m o. T.1 (record { message = m; backing = o.backing }) (subst (λ z. Contains z (record { message = m; backing = o.backing })) (sym A.marks.owed) o.owed) (leaves_by t.marked_end o.backing (subst (λ z. IsBelow z o.backing) same o.below));
    })))

-- an input is taken in, and all is marked and sent
pub takes : (i round : ℕ) (calm : ℕ → Type 0) (n p : ℕ) (c : Command) (s : NodeState) (w : List Message) (input : Input Message) → MayHappenAt w c s (Told input) → IsProperInput n input → Keeps i round (calm p) s (node_step input s) → Comes i round calm n p c s w (Flushed (node_step input s))
takes i round calm n p c s w input m r k =
    let b : Comes i round calm n p c (node_step input s) (w ++ []) (Flushed (node_step input s)) = flush i round calm n p c (node_step input s) (w ++ []) in
    record { to = b.to; sent = b.sent; alone = alone_on n p c s w (node_step input s) (w ++ []) b.to b.sent (Does s w (Told input) Rests m r) b.alone; keeps = keeps_on i round (calm p) s (node_step input s) b.to k b.keeps; goal = b.goal }
