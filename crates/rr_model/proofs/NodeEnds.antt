-- What is due comes to an end: each turn leaves less to do, and the turns that a step allows suffice until nothing is due.
use Rattle.std.proofs.Common.{◌≡◌, ℕ, ◌+◌, ◌-◌, ◌*◌, ◌^◌, ◌≤◌, ◌<◌, zero, suc, Bool, true, false, ◌==◌, ◌&&◌, nat_lt, is_some, if◌then◌else◌, List, [], ◌∷◌, Option, None, Some, option_map, refl, ap, sym, ◌∙◌, subst, arith, eq-eqb, ltb-true}
use Rattle.std.specs.Option.{option_map_or}
use Rattle.std.proofs.lemmas.Bool.{false≢true, and_parts, ne_eqb}
use Rattle.std.proofs.lemmas.Option.{none-some, same_Some}
use Rattle.rr_types.specs.declared.command.Command.{Command}
use Rattle.rr_types.specs.declared.fact.Fact.{Fact}
use Rattle.rr_types.specs.declared.fact.Fact.TheVariants.{Enter, Propose, Decide}
use Rattle.rr_types.specs.declared.promise.Standing.{Standing}
use Rattle.rr_types.specs.declared.promise.Standing.TheVariants.{Decided, Open}
use Rattle.rr_types.specs.declared.message.Body.{Body}
use Rattle.rr_types.specs.Rounds.{Estimated, OpenAt, coordinator_of}
use Rattle.rr_types.specs.Nodes.{has_member}
use Rattle.rr_types.specs.Facts.{instance_of, after_fact}
use Rattle.rr_types.specs.Standings.{round_of, stamp_of, estimate_of}
use Rattle.rr_model.specs.NodeState.{NodeState, Row, row_of, standing_at, undecided_from, lowest_undecided, open_instances}
use Rattle.rr_types.specs.Nodes.{joined}
use Rattle.rr_model.specs.NodeParts.{owe, stage, free_command, leave_round, enter_with, entering_estimate, enter, conclude, propose}
use Rattle.rr_model.specs.NodeDue.{Due, Begin, Offer, Conclude, MoveOn, pick, is_majority, due_of_coordinator, due_of_row, due_at, first_due, due, carry_out, settle_within, settle}
use Rattle.rr_model.proofs.NodeRows.{stands}
use Rattle.rr_model.proofs.NodeKnows.{stage_stands}
use Rattle.rr_model.proofs.NodeWeights.{total, total_below, total_falls}

-- what is left to do for an instance: rounds to go through, each with a proposal to be made
abbrev unproposed : Option Command → ℕ
unproposed None = 1
unproposed (Some v) = 0

abbrev weight : Option Standing → ℕ
weight None = 8589934592
weight (Some (Decided v)) = 0
weight (Some (Open o)) = 1 + 2 * (2147483648 - o.round) + unproposed o.proposal

unproposed_one : (v : Option Command) → unproposed v ≤ 1
unproposed_one None = omega arith
unproposed_one (Some v) = omega arith

weight_most : (s : Option Standing) → weight s ≤ 8589934592
weight_most None = omega arith
weight_most (Some (Decided v)) = omega arith
weight_most (Some (Open o)) = let l : unproposed o.proposal ≤ 1 = unproposed_one o.proposal in omega arith

-- one instance has less left to do, and the others stand as they did
record Lowers (s t : NodeState) (i : ℕ) : Type 0 where
  lower : weight (standing_at t i) < weight (standing_at s i)
  others : (j : ℕ) → (j ≡ i → ⊥) → standing_at t j ≡ standing_at s j

rows_standing : (s t : NodeState) → t.rows ≡ s.rows → (i : ℕ) → standing_at t i ≡ standing_at s i
rows_standing s t a i = ap (λ z. stands (row_of z i)) a

owe_rows : (b : Body) (k : Option ℕ) (to : List ℕ) (s : NodeState) → (owe b k to s).rows ≡ s.rows
unfolding owe
owe_rows b k to s = refl

rows_if : (s t u : NodeState) (b : Bool) → t.rows ≡ s.rows → u.rows ≡ s.rows → (if b then t else u).rows ≡ s.rows
rows_if s t u true x y = x
rows_if s t u false x y = y

leave_rows : (i : ℕ) (s : NodeState) → (leave_round i s).rows ≡ s.rows
leave_rows i s = rows_if s _ s _ (owe_rows _ _ _ s) refl

stage_lowers : (f : Fact) (s t u : NodeState) → t.rows ≡ s.rows → u.rows ≡ (stage f t).rows → weight (after_fact (standing_at s (instance_of f)) f) < weight (standing_at s (instance_of f)) → Lowers s u (instance_of f)
stage_lowers f s t u a b l =
    let same : standing_at t (instance_of f) ≡ standing_at s (instance_of f) = rows_standing s t a (instance_of f) in
    let here : standing_at u (instance_of f) ≡ after_fact (standing_at s (instance_of f)) f =
    rows_standing (stage f t) u b (instance_of f) ∙ stage_stands f t (instance_of f) ∙ ap (λ z. if z then after_fact (standing_at t (instance_of f)) f else standing_at t (instance_of f)) (eq-eqb (instance_of f) (instance_of f) refl) ∙ ap (λ z. after_fact z f) same in
    record {
      lower = subst (λ z. weight z < weight (standing_at s (instance_of f))) (sym here) l;
      others = λ j d. rows_standing (stage f t) u b j ∙ stage_stands f t j ∙ ap (λ z. if z then after_fact (standing_at t (instance_of f)) f else standing_at t j) (ne_eqb (instance_of f) j (λ e. d (sym e))) ∙ rows_standing s t a j;
    }

enter_lowers : (i r : ℕ) (heard : Option Command) (s : NodeState) (e : Estimated) → entering_estimate i r heard s ≡ Some e → weight (Some (Open (record { round = e.round; stamp = e.stamp; estimate = e.command; proposal = None }))) < weight (standing_at s i) → Lowers s (enter i r heard s) i
unfolding enter
enter_lowers i r heard s e x l = rw x (stage_lowers (Enter i e) s (leave_round i s) (enter_with i e (leave_round i s)) (leave_rows i s) (owe_rows _ _ _ _) l)

module _ (s : NodeState) where
  begin_estimate : (i : ℕ) → standing_at s i ≡ None → (v : Option Command) → free_command s i ≡ v → is_some v ≡ true → (e : Estimated) × (entering_estimate i 1 None s ≡ Some e) × (e.round ≡ 1)
  begin_estimate i x None f t = absurd (false≢true t)
  begin_estimate i x (Some v) f t = (record { round = 1; stamp = 0; command = v }, rw (x, f) refl, refl)

  begin_lowers : (i : ℕ) → standing_at s i ≡ None → is_some (free_command s i) ≡ true → Lowers s (carry_out (Begin i) s) i
  unfolding carry_out
  begin_lowers i x t =
      let e : (e : Estimated) × (entering_estimate i 1 None s ≡ Some e) × (e.round ≡ 1) = begin_estimate i x (free_command s i) refl t in
      let r : (e.0).round ≡ 1 = e.2 in
      let w : weight (standing_at s i) ≡ 8589934592 = ap weight x in
      enter_lowers i 1 None s e.0 e.1 (omega arith)

  move_lowers : (i : ℕ) (o : OpenAt) → standing_at s i ≡ Some (Open o) → nat_lt o.round 2147483647 ≡ true → Lowers s (carry_out (MoveOn i) s) i
  unfolding carry_out
  move_lowers i o x t =
      let l : o.round < 2147483647 = ltb-true _ _ t in
      let w : weight (standing_at s i) ≡ 1 + 2 * (2147483648 - o.round) + unproposed o.proposal = ap weight x in
      let r : round_of (standing_at s i) ≡ o.round = ap round_of x in
      enter_lowers i (round_of (standing_at s i) + 1) None s (record { round = round_of (standing_at s i) + 1; stamp = stamp_of (standing_at s i); command = o.estimate }) (own (estimate_of (standing_at s i)) refl (ap estimate_of x)) (omega arith)
    where
      own : (c : Option Command) → estimate_of (standing_at s i) ≡ c → c ≡ Some o.estimate → entering_estimate i (round_of (standing_at s i) + 1) None s ≡ Some (record { round = round_of (standing_at s i) + 1; stamp = stamp_of (standing_at s i); command = o.estimate })
      own c a b = rw (a ∙ b) refl

  offer_lowers : (i : ℕ) (o : OpenAt) (v : Command) → standing_at s i ≡ Some (Open o) → o.proposal ≡ None → Lowers s (carry_out (Offer i o.round v) s) i
  unfolding carry_out propose
  offer_lowers i o v x n =
      let w : weight (standing_at s i) ≡ 1 + 2 * (2147483648 - o.round) + unproposed o.proposal = ap weight x in
      let u : unproposed o.proposal ≡ 1 = ap unproposed n in
      let a : weight (after_fact (standing_at s i) (Propose i o.round v)) ≡ 1 + 2 * (2147483648 - o.round) + 0 = ap (λ z. weight (after_fact z (Propose i o.round v))) x in
      stage_lowers (Propose i o.round v) s s _ refl (owe_rows _ _ _ _) (omega arith)

  conclude_lowers : (i : ℕ) (o : OpenAt) (v : Command) → standing_at s i ≡ Some (Open o) → Lowers s (carry_out (Conclude i v) s) i
  unfolding carry_out conclude
  conclude_lowers i o v x =
      let w : weight (standing_at s i) ≡ 1 + 2 * (2147483648 - o.round) + unproposed o.proposal = ap weight x in
      stage_lowers (Decide i v) s s _ refl (owe_rows _ _ _ _) (omega arith)

  coordinator_lowers : (i : ℕ) (row : Row) (o : OpenAt) (d : Due) → standing_at s i ≡ Some (Open o) → (v : Option Command) → o.proposal ≡ v → due_of_coordinator s i row.tally o.round v ≡ Some d → Lowers s (carry_out d s) i
  coordinator_lowers i row o d x None q w = at (pick s.nodes row.tally) w
    where
      at : (k : Option Command) → option_map (λ v. Offer i o.round v) k ≡ Some d → Lowers s (carry_out d s) i
      at None y = absurd (none-some d y)
      at (Some v) y = subst (λ z. Lowers s (carry_out z s) i) (same_Some _ d y) (offer_lowers i o v x q)
  coordinator_lowers i row o d x (Some v) q w = at (is_majority s row.tally.acks) (is_majority s (joined row.tally.acks row.tally.nacks) && nat_lt o.round 2147483647) refl w
    where
      at : (b a : Bool) → (is_majority s (joined row.tally.acks row.tally.nacks) && nat_lt o.round 2147483647) ≡ a → (if b then Some (Conclude i v) else (if a then Some (MoveOn i) else None)) ≡ Some d → Lowers s (carry_out d s) i
      at true a m y = subst (λ z. Lowers s (carry_out z s) i) (same_Some _ d y) (conclude_lowers i o v x)
      at false true m y = subst (λ z. Lowers s (carry_out z s) i) (same_Some _ d y) (move_lowers i o x (and_parts _ _ m).1)
      at false false m y = absurd (none-some d y)

  row_lowers : (i : ℕ) (row : Row) (d : Due) → row_of s.rows i ≡ Some row → (t : Standing) → row.standing ≡ t → due_of_row s i row.tally t ≡ Some d → Lowers s (carry_out d s) i
  row_lowers i row d e (Decided v) x w = absurd (none-some d w)
  row_lowers i row d e (Open o) x w = at (coordinator_of o.round s.nodes == s.node) (has_member s.suspects (coordinator_of o.round s.nodes) && nat_lt o.round 2147483647) refl w
    where
      at : (b a : Bool) → (has_member s.suspects (coordinator_of o.round s.nodes) && nat_lt o.round 2147483647) ≡ a → (if b then due_of_coordinator s i row.tally o.round o.proposal else (if a then Some (MoveOn i) else None)) ≡ Some d → Lowers s (carry_out d s) i
      at true a m y = coordinator_lowers i row o d (ap stands e ∙ ap Some x) o.proposal refl y
      at false true m y = subst (λ z. Lowers s (carry_out z s) i) (same_Some _ d y) (move_lowers i o (ap stands e ∙ ap Some x) (and_parts _ _ m).1)
      at false false m y = absurd (none-some d y)

  at_lowers : (i : ℕ) (d : Due) (o : Option Row) → row_of s.rows i ≡ o → due_at s i ≡ Some d → Lowers s (carry_out d s) i
  at_lowers i d None e x = at (is_some (free_command s i)) refl (rw e at x)
    where
      at : (b : Bool) → is_some (free_command s i) ≡ b → (if b then Some (Begin i) else None) ≡ Some d → Lowers s (carry_out d s) i
      at true f y = subst (λ z. Lowers s (carry_out z s) i) (same_Some _ d y) (begin_lowers i (ap stands e) f)
      at false f y = absurd (none-some d y)
  at_lowers i d (Some row) e x = row_lowers i row d e row.standing refl (rw e at x)

-- an instance below n has less left to do
record LowersBelow (n : ℕ) (s t : NodeState) : Type 0 where
  place : ℕ
  below : place < n
  lowers : Lowers s t place

AllBelow : ℕ → List ℕ → Type 0
AllBelow n [] = Unit {0}
AllBelow n (i ∷ is) = (i < n) × AllBelow n is

lowest_below : (count i : ℕ) (rows : List Row) → AllBelow 1048576 (lowest_undecided count i rows)
unfolding AllBelow
lowest_below zero i rows = tt
lowest_below (suc count) i rows = at (nat_lt (undecided_from i rows) 1048576) refl (lowest_below count (undecided_from i rows + 1) rows)
  where
    at : (b : Bool) → nat_lt (undecided_from i rows) 1048576 ≡ b → AllBelow 1048576 (lowest_undecided count (undecided_from i rows + 1) rows) → AllBelow 1048576 (if b then undecided_from i rows ∷ lowest_undecided count (undecided_from i rows + 1) rows else [])
    at true l rest = (ltb-true _ _ l, rest)
    at false l rest = tt

first_lowers : (n : ℕ) (s : NodeState) (is : List ℕ) (d : Due) → AllBelow n is → first_due s is ≡ Some d → LowersBelow n s (carry_out d s)
unfolding AllBelow
first_lowers n s [] d a x = absurd (none-some d x)
first_lowers n s (i ∷ is) d a x = at (first_lowers n s is d a.1) a.0 (due_at s i) refl x
  where
    at : (first_due s is ≡ Some d → LowersBelow n s (carry_out d s)) → i < n → (o : Option Due) → due_at s i ≡ o → option_map_or Some o (first_due s is) ≡ Some d → LowersBelow n s (carry_out d s)
    at ih l None e y = ih y
    at ih l (Some c) e y = record { place = i; below = l; lowers = at_lowers s i d (row_of s.rows i) refl (e ∙ y) }

due_lowers : (s : NodeState) (d : Due) → due s ≡ Some d → LowersBelow 1048576 s (carry_out d s)
unfolding due open_instances
due_lowers s d x = first_lowers 1048576 s (lowest_undecided 8 0 s.rows) d (lowest_below 8 0 s.rows) x

-- what is left to do for the instances below n
left_below : ℕ → NodeState → ℕ
left_below n s = total (λ i. weight (standing_at s i)) n

left_falls : (n : ℕ) (s t : NodeState) → LowersBelow n s t → left_below n t < left_below n s
unfolding left_below
left_falls n s t a = total_falls (λ i. weight (standing_at s i)) (λ i. weight (standing_at t i)) a.place n a.below a.lowers.lower (λ j d. ap weight (a.lowers.others j d))

left_most : (n : ℕ) (s : NodeState) → left_below n s ≤ n * 8589934592
unfolding left_below
left_most n s = total_below (λ i. weight (standing_at s i)) 8589934592 n (λ i. weight_most (standing_at s i))

turn_ends : (f : NodeState → NodeState) (s : NodeState) → ((d : Due) → due s ≡ Some d → due (f (carry_out d s)) ≡ None) → (o : Option Due) → due s ≡ o → due (option_map_or (λ d. f (carry_out d s)) o s) ≡ None
turn_ends f s rest None e = e
turn_ends f s rest (Some d) e = rest d e

-- so many turns suffice as are left
within_ends : (turns n : ℕ) (s : NodeState) → ((t : NodeState) (d : Due) → due t ≡ Some d → left_below n (carry_out d t) < left_below n t) → left_below n s ≤ turns → due (settle_within turns s) ≡ None
unfolding settle_within
within_ends zero n s falls l = none_left (due s) refl
  where
    none_left : (o : Option Due) → due s ≡ o → due s ≡ None
    none_left None e = e
    none_left (Some d) e = let x : left_below n (carry_out d s) < left_below n s = falls s d e in absurd (omega arith)
within_ends (suc turns) n s falls l = turn_ends (settle_within turns) s (λ d e. within_ends turns n (carry_out d s) falls (let x : left_below n (carry_out d s) < left_below n s = falls s d e in omega arith)) (due s) refl

-- until nothing is due
pub nothing_due : (s : NodeState) → due (settle s) ≡ None
unfolding settle
nothing_due s = within_ends (2 ^ 54) 1048576 s (λ t d e. left_falls 1048576 t (carry_out d t) (due_lowers t d e)) (let l : left_below 1048576 s ≤ 1048576 * 8589934592 = left_most 1048576 s in omega arith)

-- a state in which nothing is due stays
within_still : (turns : ℕ) (s : NodeState) → due s ≡ None → settle_within turns s ≡ s
unfolding settle_within
within_still zero s e = refl
within_still (suc turns) s e = rw e

-- one turn does what is due
within_next : (turns : ℕ) (s : NodeState) (d : Due) → due s ≡ Some d → settle_within (suc turns) s ≡ settle_within turns (carry_out d s)
unfolding settle_within
within_next turns s d e = rw e

nothing_left : (n : ℕ) (s : NodeState) → ((t : NodeState) (d : Due) → due t ≡ Some d → left_below n (carry_out d t) < left_below n t) → left_below n s ≤ 0 → (o : Option Due) → due s ≡ o → due s ≡ None
nothing_left n s falls l None e = e
nothing_left n s falls l (Some d) e = let x : left_below n (carry_out d s) < left_below n s = falls s d e in absurd (omega arith)

same_turn : (a b : ℕ) (s : NodeState) → ((d : Due) → due s ≡ Some d → settle_within a (carry_out d s) ≡ settle_within b (carry_out d s)) → (o : Option Due) → due s ≡ o → settle_within (suc a) s ≡ settle_within (suc b) s
same_turn a b s rest None e = within_still (suc a) s e ∙ sym (within_still (suc b) s e)
same_turn a b s rest (Some d) e = within_next a s d e ∙ rest d e ∙ sym (within_next b s d e)

-- more turns than are left make no difference
within_same : (a b n : ℕ) (s : NodeState) → ((t : NodeState) (d : Due) → due t ≡ Some d → left_below n (carry_out d t) < left_below n t) → left_below n s ≤ a → left_below n s ≤ b → settle_within a s ≡ settle_within b s
within_same zero b n s falls l m = within_still zero s (nothing_left n s falls l (due s) refl) ∙ sym (within_still b s (nothing_left n s falls l (due s) refl))
within_same (suc a) zero n s falls l m = within_still (suc a) s (nothing_left n s falls m (due s) refl) ∙ sym (within_still zero s (nothing_left n s falls m (due s) refl))
within_same (suc a) (suc b) n s falls l m = same_turn a b s (λ d e. within_same a b n (carry_out d s) falls (let x : left_below n (carry_out d s) < left_below n s = falls s d e in omega arith) (let x : left_below n (carry_out d s) < left_below n s = falls s d e in omega arith)) (due s) refl

-- where nothing is due, nothing happens
pub settled_stays : (s : NodeState) → due s ≡ None → settle s ≡ s
unfolding settle
settled_stays s e = within_still (2 ^ 54) s e

-- what is due is done first
pub settles_on : (s : NodeState) (d : Due) → due s ≡ Some d → settle s ≡ settle (carry_out d s)
unfolding settle
settles_on s d e =
    let l : left_below 1048576 (carry_out d s) ≤ 1048576 * 8589934592 = left_most 1048576 (carry_out d s) in
    within_next 18014398509481983 s d e
    ∙ within_same 18014398509481983 18014398509481984 1048576 (carry_out d s) (λ t c x. left_falls 1048576 t (carry_out c t) (due_lowers t c x)) (omega arith) (omega arith)
