-- A tick that is due.
use Rattle.std.proofs.Common.{◌≡◌, ◌∙◌, ◌^◌, ◌++◌, ◌∷◌, [], ℕ, Option, Some, None, Result, Ok, Err, Bool, true, false, length, nat_lt, refl, sym, ap, subst, cond}
use Rattle.std.specs.Prelude.{is_some, OnOk}
use Rattle.std.specs.Option.{option_map_or}
use Rattle.rr_types.specs.declared.input.Input.TheVariants.{Tick, Advance}
use Rattle.rr_types.specs.declared.refusal.Refusal.{Refusal}
use Rattle.rr_types.specs.declared.refusal.Refusal.TheVariants.{RoundsOut, TooLarge}
use Rattle.rr_model.specs.NodeState.{NodeState, next_number, decided_prefix}
use Rattle.rr_model.specs.NodeStep.{node_step, advance_refusal, refusal_of}
use Rattle.rr_turn.specs.Recorded.{Sent}
use Rattle.rr_turn.specs.Chases.{Chase, again, chase_ticked}
use Rattle.rr_turn.specs.Ticks.{Standstill, is_advance_due, standstill_after}
use Rattle.rr_turn.specs.Asked.{Call, Ran, still, more, tells, hears}
use Rattle.rr_turn.specs.Turns.{taking, all_met, all_met_chase, heard_again, hearing_again, is_catching_up, advancing, found_in, beating, ticking, ticked_chase, ticked_standstill}
use Rattle.rr_turn.specs.Looks.{Hears, TicksFrom, Ticked, TicksIf}
use Rattle.rr_turn.proofs.Runs.{run_join}

few : (b : Bool) → cond b None (Some TooLarge) ≡ Some RoundsOut → ⊥
few true h = cc
few false h = cc

out_of : (s : NodeState) (o : Option Refusal) → advance_refusal s ≡ o → refusal_of Advance s ≡ Some RoundsOut → is_some o ≡ true
unfolding refusal_of
out_of s None e h = absurd (few (nat_lt (next_number (node_step Advance s)) (2 ^ 64)) (rw e at h))
out_of s (Some x) e h = refl

in_of : (s : NodeState) (o : Option Refusal) → advance_refusal s ≡ o → refusal_of Advance s ≡ None → is_some o ≡ false
unfolding refusal_of
in_of s None e h = refl
in_of s (Some x) e h = let same : Some x ≡ None = rw e at h in absurd cc

pub standstill_same : (s : NodeState) (c : Chase) (k : Standstill) → is_catching_up s c ≡ true → k ≡ ticked_standstill s c k
standstill_same s c k is = ap (λ b. cond b k (standstill_after (found_in (node_step Tick (heard_again s c))) k)) (sym is)

pub standstill_counted : (s t : NodeState) (c : Chase) (k j : Standstill) → is_catching_up s c ≡ false → t ≡ heard_again s c
    → j ≡ standstill_after (found_in (node_step Tick t)) k → j ≡ ticked_standstill s c k
standstill_counted s t c k j is here counted =
    counted ∙ ap (λ (u : NodeState). standstill_after (found_in (node_step Tick u)) k) here
    ∙ ap (λ b. cond b k (standstill_after (found_in (node_step Tick (heard_again s c))) k)) (sym is)

-- what holds is so where a call was made too, and what follows of two facts
pub ok_too : {A E : Type 0} {P : Type 0} (r : Result A E) → P → OnOk r P
ok_too (Ok x) p = p
ok_too (Err e) p = tt

pub ok_both : {A E : Type 0} {P Q R : Type 0} (r : Result A E) → (P → Q → R) → OnOk r P → OnOk r Q → OnOk r R
ok_both (Ok x) f p q = f p q
ok_both (Err e) f p q = tt

module _ {L : Type 0} (gives : L → Call → L → Type 0) where
  -- what the chase has the node hear again
  pub again_ran : (s : NodeState) (c : Chase) (n : ℕ) (o : Option Sent) (from to : L) → n ≡ length (decided_prefix s) → o ≡ again n (chase_ticked c)
      → Ran gives (option_map_or (λ sent. hears s sent ∷ []) o []) from to → Ran gives (hearing_again s c) from to
  again_ran s c n o from to count same ran =
      subst (λ (o : Option Sent). Ran gives (option_map_or (λ sent. hears s sent ∷ []) o []) from to) (same ∙ ap (λ n. again n (chase_ticked c)) count) ran

  -- an advance that is refused for its round, and one that isn't refused
  pub advanced_out : (s : NodeState) (from to : L) → gives from (tells s Advance (Err RoundsOut)) to → refusal_of Advance s ≡ Some RoundsOut → Ran gives (advancing s) from to
  advanced_out s from to call out =
      subst (λ b. Ran gives (tells s Advance (cond b (Err RoundsOut) (Ok tt)) ∷ []) from to) (sym (out_of s (advance_refusal s) refl out))
      (more (tells s Advance (Err RoundsOut)) [] from to to call (still to))

  pub advanced_in : (s : NodeState) (from to : L) → gives from (tells s Advance (Ok tt)) to → refusal_of Advance s ≡ None → Ran gives (advancing s) from to
  advanced_in s from to call allowed =
      subst (λ b. Ran gives (tells s Advance (cond b (Err RoundsOut) (Ok tt)) ∷ []) from to) (sym (in_of s (advance_refusal s) refl allowed))
      (more (tells s Advance (Ok tt)) [] from to to call (still to))

  -- a tick, with an advance behind it or without
  pub beaten_on : (s t : NodeState) (k : Standstill) (from mid to : L) → is_advance_due (found_in (node_step Tick s)) k ≡ true → gives from (tells s Tick (Ok tt)) mid
      → t ≡ node_step Tick s → Ran gives (advancing t) mid to → Ran gives (beating s k) from to
  beaten_on s t k from mid to due call step ran =
      more (tells s Tick (Ok tt)) _ from mid to call
      (subst (λ b. Ran gives (cond b (advancing (node_step Tick s)) []) mid to) (sym due) (subst (λ u. Ran gives (advancing u) mid to) step ran))

  pub beaten : (s : NodeState) (k : Standstill) (from to : L) → is_advance_due (found_in (node_step Tick s)) k ≡ false → gives from (tells s Tick (Ok tt)) to
      → Ran gives (beating s k) from to
  beaten s k from to due call =
      more (tells s Tick (Ok tt)) _ from to to call (subst (λ b. Ran gives (cond b (advancing (node_step Tick s)) []) to to) (sym due) (still to))

  -- a node that catches up doesn't tick, and another does
  pub ticked_not : (s : NodeState) (c : Chase) (k : Standstill) (from to : L) → is_catching_up s c ≡ true → Ran gives (hearing_again s c) from to → Ran gives (ticking s c k) from to
  ticked_not s c k from to is ran =
      subst (λ b. Ran gives (hearing_again s c ++ cond b [] (beating (heard_again s c) k)) from to) (sym is) (run_join gives (hearing_again s c) [] from to to ran (still to))

  pub ticked_on : (s t : NodeState) (c : Chase) (k : Standstill) (from mid to : L) → is_catching_up s c ≡ false → t ≡ heard_again s c → Ran gives (hearing_again s c) from mid
      → Ran gives (beating t k) mid to → Ran gives (ticking s c k) from to
  ticked_on s t c k from mid to is here heard ran =
      subst (λ b. Ran gives (hearing_again s c ++ cond b [] (beating (heard_again s c) k)) from to) (sym is)
      (run_join gives (hearing_again s c) (beating (heard_again s c) k) from mid to heard (subst (λ u. Ran gives (beating u k) mid to) here ran))

  -- what was heard, and a tick behind it
  pub ticks_by : (s now : NodeState) (most : ℕ) (has : Bool) (c then d : Chase) (b j : Standstill) (from mid to : L) → Hears gives s now most has c from then mid
      → Ran gives (ticking now then b) mid to → d ≡ ticked_chase now then → j ≡ ticked_standstill now then b → TicksFrom gives s most c b from d j to
  ticks_by s now most has c then d b j from mid to heard ran chase standstill =
      let here = all_met heard.sents s c in
      let key = all_met_chase heard.sents s c in
      record {
        sents = heard.sents;
        few = heard.few;
        calls = run_join gives (taking most heard.sents s c) (ticking here key b) from mid to heard.calls
            (subst (λ cs. Ran gives cs mid to) (ap (λ x. ticking x then b) heard.after ∙ ap (λ x. ticking here x b) heard.chase) ran);
        chase = chase ∙ ap (λ x. ticked_chase x then) heard.after ∙ ap (λ x. ticked_chase here x) heard.chase;
        standstill = standstill ∙ ap (λ x. ticked_standstill x then b) heard.after ∙ ap (λ x. ticked_standstill here x b) heard.chase;
      }

  -- where it is known what follows in both cases
  pub ticks_if : (r : Result (Unit {0}) Refusal) (due is : Bool) (most : ℕ) (c : Chase) (b : Standstill) (from : L) (k : Chase) (d : Standstill) (to : L) → due ≡ is
      → (due ≡ true → OnOk r (Ticked gives most c b from k d to)) → (due ≡ false → (to ≡ from) × (k ≡ c) × (d ≡ b)) → OnOk r (TicksIf gives due most c b from k d to)
  ticks_if r due true most c b from k d to e ticks early = subst (λ x. OnOk r (TicksIf gives x most c b from k d to)) (sym e) (ticks e)
  ticks_if r due false most c b from k d to e ticks early = subst (λ x. OnOk r (TicksIf gives x most c b from k d to)) (sym e) (ok_too r (early e))
